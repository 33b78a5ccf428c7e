-- Ledgers of which no event is refused for the table or the stores: a new table is such, and every event keeps it so.
-- Assumes nothing.
use Prim.Native.Nat.{ℕ}
use mathlib.Core.Path.{◌≡◌}
use mathlib.Core.Bool.{Bool, true, false}
use mathlib.Core.List.{List, [], ◌∷◌}
use lib.ListN.{length, length-replicate}
use Rattle.rules.specs.Card.{base_length, shadow_length}
use Rattle.rules.specs.Kind.{IsKind}
use Rattle.rules.specs.Table.{kind_of}
use Rattle.rules.specs.Queue.{is_head_ready}
use Rattle.rules.specs.Sound.{Sound}
use Rattle.rules.specs.Event.{Event}
use Rattle.rules.specs.Ledger.{Ledger, with_table}
use Rattle.rules.specs.Step.{taken_out, Left, nobody_left, leave, revealed, out_of_both, dropped, step, head_out, head_left, head_before}
use Rattle.rules.specs.Run.{run}
use Rattle.rules.specs.Serial.Demand.{new_over, opening_under}
use Rattle.rules.proofs.Laws.Permitted.{Judgeable}
use Rattle.rules.proofs.Sound.Leaving.{head_out_sound, head_left_sound, leave_by_heads}
use Rattle.rules.proofs.Sound.TakingOut.{out_sound}
use Rattle.rules.proofs.Sound.Kept.{new_sound, left_sound, revealed_sound, dropped_sound, step_keeps_sound}
use Rattle.rules.proofs.Stores.Leaves.{LedgerFits, still_fit}
use Rattle.rules.proofs.Stores.Leavers.{head_lengths}
use Rattle.rules.proofs.Stores.Untouched.{lengths_kept}

pub record Proper (s : Ledger) : Type 0 where
  pub sound : Sound s.table
  pub base_fits : length s.base ≡ base_length
  pub shadow_fits : length s.shadow ≡ shadow_length

pub new_proper :
    (r : ℕ) (base shadow : List ℕ) → length base ≡ base_length → length shadow ≡ shadow_length → Proper (new_over r base shadow)
new_proper r base shadow base_fits shadow_fits = record { sound = new_sound r; base_fits = base_fits; shadow_fits = shadow_fits }

pub opening_proper : (r : ℕ) → Proper (opening_under r)
opening_proper r = new_proper r _ _ (length-replicate {A = ℕ} base_length 0) (length-replicate {A = ℕ} shadow_length 0)

-- ---- what keeps it so

proper_of : {s : Ledger} → Sound s.table → LedgerFits s → Proper s
proper_of sound fits = record { sound = sound; base_fits = fits.base_fits; shadow_fits = fits.shadow_fits }

pub stores_fit : {s : Ledger} → Proper s → LedgerFits s
stores_fit proper = record { base_fits = proper.base_fits; shadow_fits = proper.shadow_fits }

-- a change of the table alone
pub table_proper : {s : Ledger} → Proper s → (v : List ℕ) → Sound v → Proper (with_table s v)
table_proper proper v sound = proper_of sound (stores_fit proper)

pub step_keeps_proper : (s : Ledger) (e : Event) → Proper s → Proper (step s e).after
step_keeps_proper s e proper =
    proper_of (step_keeps_sound s e proper.sound) (still_fit (lengths_kept s e) (stores_fit proper))

pub run_keeps_proper : (s : Ledger) (es : List Event) → Proper s → Proper (run s es).after
unfolding run
run_keeps_proper s [] proper = proper
run_keeps_proper s (e ∷ es) proper = run_keeps_proper (step s e).after es (step_keeps_proper s e proper)

-- ---- before the head of a queue is tried

module _ {s : Ledger} (proper : Proper s) (n : ℕ) where
  -- n's queue without n
  pub left_proper : Proper (taken_out s (kind_of s.table n) n)
  left_proper = table_proper proper _ (left_sound s proper.sound n)

  -- both queues without n and all live below it
  pub out_proper : Proper (with_table s (out_of_both s.table n))
  out_proper = table_proper proper _ (out_sound proper.sound n)

  pub revealed_proper : Judgeable s.table n → (b : Bool) → Proper (revealed s n b)
  unfolding revealed
  revealed_proper j true = table_proper proper _ (revealed_sound s proper.sound n j.queued true)
  revealed_proper j false = table_proper proper _ (revealed_sound s proper.sound n j.queued false)

  pub dropped_proper : Proper (dropped s n)
  unfolding dropped
  dropped_proper = table_proper proper _ (dropped_sound s proper.sound n)

-- ---- those who leave it

module _ (h : ℕ) (known : IsKind h) (s : Ledger) (proper : Proper s) (ready : is_head_ready s.table h ≡ true) where
  pub head_out_proper : Proper (head_out h s)
  head_out_proper = table_proper proper _ (head_out_sound h known s proper.sound ready)

  pub head_left_proper : Proper (head_left h s)
  head_left_proper =
      let sound = proper.sound in
      proper_of (head_left_sound h known s sound ready)
      (still_fit (head_lengths h known s sound ready (stores_fit proper)) (stores_fit proper))

-- what holds where nobody leaves, and with the head where it holds of those who leave after it, holds of all
pub leave_by_proper_heads :
    (h : ℕ) → IsKind h → (R : Ledger → Left → Type 0) → ((s : Ledger) → Proper s → R s (nobody_left s)) →
    ((s : Ledger) → Proper s → is_head_ready s.table h ≡ true → (rest : Left) → R (head_left h s) rest →
    R s (head_before h s rest)) →
    (s : Ledger) → Proper s → R s (leave h s)
leave_by_proper_heads h known R nobody head s proper =
    leave_by_heads h known (λ t left. LedgerFits t → R t left)
    (λ t sound fits. nobody t (proper_of sound fits))
    (λ t sound ready rest later fits.
    let here = proper_of sound fits in head t here ready rest (later (stores_fit (head_left_proper h known t here ready))))
    s proper.sound (stores_fit proper)

-- the ledger that they leave
pub leave_proper : (h : ℕ) → IsKind h → (s : Ledger) → Proper s → Proper (leave h s).after
leave_proper h known =
    leave_by_proper_heads h known (λ _ left. Proper left.after) (λ s proper. proper) (λ s proper ready rest later. later)
