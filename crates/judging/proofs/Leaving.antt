-- What holds between two heads that leave, and the table after a verdict is revealed or those have been taken out whom an abort
-- reaches, as the rules have them. Assumes nothing.
use Prim.Native.Nat.{ℕ, zero, suc, ◌+◌, ◌≤◌}
use native.Mathlib.Nat.{zero-add, add-zero, le_trans}
use native.Mathlib.Omega.{arith}
use mathlib.Core.Path.{◌≡◌, refl, sym, ◌∙◌}
use mathlib.Core.Logic.{inl, inr}
use mathlib.Core.Bool.{Bool, true, false}
use mathlib.Core.List.{List}
use Rattle.rules.specs.Card.{StoresFit}
use Rattle.rules.specs.Range.{count}
use Rattle.rules.specs.Table.{most_actions, highest_field, highest, actions}
use Rattle.rules.specs.Walk.{is_aborted_by}
use Rattle.rules.specs.Kind.{IsKind}
use Rattle.rules.specs.Queue.{queue_length, is_head_ready}
use Rattle.rules.specs.Sound.{Sound}
use Rattle.rules.specs.Ledger.{Ledger, with_table}
use Rattle.rules.specs.Step.{head_left, leave_while, leave, revealed, out_of_both}
use Rattle.rules.proofs.Laws.Ranges.{count_agree}
use Rattle.rules.proofs.Sound.TakingOut.{out_keeps, out_reach}
use Rattle.rules.proofs.Sound.Leaving.{head_left_sound, one_fewer, leave_by_heads, nobody_leaves, head_leaves}
use Rattle.rules.proofs.Stores.Leaves.{still_fit}
use Rattle.rules.proofs.Stores.Leavers.{head_lengths}
use Rattle.judging.specs.Reveal.{revealed_table}

-- s₀ was handed in, so many have left queue h since, and s is what stands now
pub record StillLeaving (h : ℕ) (s₀ s : Ledger) (left : ℕ) : Type 0 where
  pub sound : Sound s.table
  pub fits : StoresFit s.base s.shadow
  pub same : (leave h s₀).after ≡ (leave h s).after
  pub counted : (leave h s₀).many ≡ left + (leave h s).many
  -- so the count stays small
  pub few : left + queue_length s.table h ≤ most_actions

pub leaving_first :
    (h : ℕ) → IsKind h → (s : Ledger) → Sound s.table → StoresFit s.base s.shadow → StillLeaving h s s 0
leaving_first h known s sound fits =
    record {
      sound = sound;
      fits = fits;
      same = refl;
      counted = sym (zero-add _);
      few = omega (arith, (sound.lines h known).short);
    }

pub leaving_next :
    (h : ℕ) → IsKind h → (s₀ s : Ledger) (left : ℕ) → StillLeaving h s₀ s left → is_head_ready s.table h ≡ true →
    StillLeaving h s₀ (head_left h s) (left + 1)
leaving_next h known s₀ s left was ready =
    let next = head_leaves h known s was.sound ready in
    record {
      sound = head_left_sound h known s was.sound ready;
      fits = still_fit {s = s} {t = head_left h s} (head_lengths h known s was.sound ready was.fits) was.fits;
      same = was.same ∙ rw next refl;
      counted = was.counted ∙ rw next (omega arith);
      few = omega (arith, was.few, one_fewer h known s was.sound ready);
    }

pub leaving_last :
    (h : ℕ) (s₀ s : Ledger) (left : ℕ) → StillLeaving h s₀ s left → is_head_ready s.table h ≡ false →
    ((leave h s₀).many ≡ left) × ((leave h s₀).after ≡ s)
leaving_last h s₀ s left was unready =
    let none = nobody_leaves h s unready in
    (was.counted ∙ rw none (add-zero left), was.same ∙ rw none refl)

-- ---- before the head is tried

pub table_revealed : (s : Ledger) (n : ℕ) (b : Bool) → revealed s n b ≡ with_table s (revealed_table s.table n b)
unfolding revealed revealed_table
table_revealed s n true = refl
table_revealed s n false = refl

-- whom an abort reaches is the same when those of them who wait have been taken out
pub out_count :
    {w : List ℕ} → Sound w → (n : ℕ) →
    count (is_aborted_by (out_of_both w n) n) (actions (out_of_both w n)) ≡ count (is_aborted_by w n) (actions w)
unfolding actions
out_count {w} sound n =
    let same : highest (out_of_both w n) ≡ highest w =
    out_keeps sound n 0 highest_field (inl (omega arith)) (inr (inl (omega arith))) in
    rw same (count_agree _ _ 1 (highest w) (λ m _. out_reach sound n m))

-- ---- how many leave

-- no more than there are
while_few : (most : ℕ) (b : Bool) (h : ℕ) (s : Ledger) → (leave_while most b h s).many ≤ most
unfolding leave_while
while_few zero b h s = omega arith
while_few (suc most) false h s = omega arith
while_few (suc most) true h s = omega (arith, while_few most (is_head_ready (head_left h s).table h) h (head_left h s))

pub leave_few : (h : ℕ) → IsKind h → (s : Ledger) → Sound s.table → (leave h s).many ≤ most_actions
unfolding leave
leave_few h known s sound =
    le_trans (while_few (queue_length s.table h) (is_head_ready s.table h) h s) (sound.lines h known).short

-- the stores still fit
pub leave_fits :
    (h : ℕ) → IsKind h → (s : Ledger) → Sound s.table → StoresFit s.base s.shadow →
    StoresFit (leave h s).after.base (leave h s).after.shadow
leave_fits h known =
    leave_by_heads h known (λ s left. StoresFit s.base s.shadow → StoresFit left.after.base left.after.shadow)
    (λ s sound fits. fits)
    (λ s sound ready rest later fits.
    later (still_fit {s = s} {t = head_left h s} (head_lengths h known s sound ready fits) fits))
