-- Those who leave a queue, of either kind, one after the other: what each of them finds, that the table stays sound and the other
-- queue as it was, and that they leave until no ready one is at the head. Assumes nothing.
use Prim.Native.Nat.{ℕ, zero, suc, ◌≤◌}
use native.Mathlib.Omega.{arith}
use native.Mathlib.Decide.{ℕ_discrete}
use mathlib.Core.Path.{◌≡◌, refl, sym, ap, ◌∙◌}
use mathlib.Core.Logic.{⊎_elim, ◌≢◌}
use mathlib.Core.Bool.{Bool, true, false, not}
use mathlib.Core.List.{List, ◌∷◌, map}
use lib.Dec.{ltb, eqb}
use lib.ListN.{length}
use borrow.Author.Tests.{ltb-true, eqb-true, eq-eqb}
use Rattle.rules.specs.Range.{up_from, any, filter}
use Rattle.rules.specs.Table.{parent_of, is_live, has_live_child}
use Rattle.rules.specs.Walk.{Climbs, is_at_or_below, is_aborted_by}
use Rattle.rules.specs.Kind.{IsKind, top_kind, sub_kind}
use Rattle.rules.specs.Queue.{queue_length, Entry, entry_at, queue, is_queued, head_of, is_head_ready, keeps_place, without_below}
use Rattle.rules.specs.Sound.{are_distinct, queue_numbers, IsGiven, Sound}
use Rattle.rules.specs.Ledger.{Ledger}
use Rattle.rules.specs.Step.{finished, Left, nobody_left, leave_while, leave, leave_both, head_in, head_out, is_head_outside, head_left, head_before}
use Rattle.rules.proofs.Laws.Tests.{and_left, and_both, or_cases, or_inl, or_inr, not_both, false_of_not_true}
use Rattle.rules.proofs.Laws.Lists.{any_map, all_map, listed_all, filter_whole}
use Rattle.rules.proofs.Laws.Distinct.{distinct_parts}
use Rattle.rules.proofs.Laws.Queue.{queue_kept, length_of_queue}
use Rattle.rules.proofs.Laws.Permitted.{Committable, no_live_child}
use Rattle.rules.proofs.Laws.Walking.{climb_holds, at_or_below_store, at_or_below_step, at_or_below_itself}
use Rattle.rules.proofs.Sound.SoundKept.{change_keeps_sound}
use Rattle.rules.proofs.Sound.QueueChanges.{numbers_of, without_queue, without_other_queue, without_change, out_committable}
use Rattle.rules.proofs.Sound.Committing.{commit_line}
use Rattle.rules.proofs.Sound.Judging.{fail_line, fail_change, commit_change}

-- ---- the head

-- a queue that isn't empty has the entry at position 1 in front
first_entry : (w : List ℕ) (h len : ℕ) → 1 ≤ len → (es : List Entry) × (map (entry_at w h) (up_from 1 len) ≡ entry_at w h 1 ∷ es)
unfolding up_from
first_entry w h zero some = absurd (omega arith)
first_entry w h (suc len) some = (map (entry_at w h) (up_from 2 len), refl)

pub ready_head : (w : List ℕ) (h : ℕ) → is_head_ready w h ≡ true → (es : List Entry) × (queue w h ≡ entry_at w h 1 ∷ es)
unfolding is_head_ready queue
ready_head w h ready = first_entry w h (queue_length w h) (ltb-true 0 (queue_length w h) (and_left (ltb 0 (queue_length w h)) _ ready))

pub head_queued : (w : List ℕ) (h : ℕ) → is_head_ready w h ≡ true → is_queued w h (head_of w h) ≡ true
unfolding is_queued any entry_at
head_queued w h ready =
    let (es, stands) = ready_head w h ready in
    rw stands (or_inl _ (eq-eqb (head_of w h) (head_of w h) refl))

-- ---- taking out one who waits takes out nobody else

-- nobody live is below an action without a live child
nobody_below :
    {w : List ℕ} → Sound w → (n : ℕ) → has_live_child w n ≡ false → (m : ℕ) → IsGiven w m → is_live w m ≡ true → m ≢ n →
    is_at_or_below w n m ≡ false
nobody_below {w} s n none m begun alive other =
    false_of_not_true _ (climb_holds w Below (λ h _ _ _. omega arith) further m (s.climb m begun alive) begun alive other)
  where
    Below : ℕ → Type 0
    Below x = IsGiven w x → is_live w x ≡ true → x ≢ n → is_at_or_below w n x ≡ true → ⊥

    -- its parent is n, which has no live child, or is live and below n too
    by_parent :
        (x : ℕ) → IsGiven w x → is_live w x ≡ true → is_at_or_below w n (parent_of w x) ≡ true → Below (parent_of w x) →
        Dec (parent_of w x ≡ n) → Dec (parent_of w x ≡ 0) → ⊥
    by_parent x h l below above (yes under) _ = no_live_child w n none x h l under
    by_parent x h l below above (no apart) (yes top) = not_both below (ap (is_at_or_below w n) top ∙ at_or_below_store w n)
    by_parent x h l below above (no apart) (no action) =
        above (omega arith, s.known x h) (⊎_elim (λ top. absurd (action top)) (λ alive. alive) (s.alive x h l)) apart below

    further : (x : ℕ) → x ≢ 0 → Climbs w x → Below (parent_of w x) → Below x
    further x ne up above h l apart below =
        ⊎_elim
        (λ same. apart (eqb-true x n same))
        (λ higher. by_parent x h l higher above (ℕ_discrete (parent_of w x) n) (ℕ_discrete (parent_of w x) 0))
        (or_cases (eqb x n) _ (sym (at_or_below_step w n x ne up) ∙ below))

module _ (h : ℕ) (known : IsKind h) {w : List ℕ} (s : Sound w) (e : Entry) (es : List Entry) (stands : queue w h ≡ e ∷ es) where
  abbrev n : ℕ
  n = e.number

  numbers_stand : are_distinct (n ∷ numbers_of es) ≡ true
  unfolding queue_numbers
  numbers_stand = rw stands at (s.lines h known).once

  listed_queued : (m : ℕ) → any (eqb m) (n ∷ numbers_of es) ≡ true → is_queued w h m ≡ true
  unfolding is_queued
  listed_queued m listed = rw stands (sym (any_map (eqb m) (λ (x : Entry). x.number) (e ∷ es)) ∙ listed)

  first_reached : is_aborted_by w n n ≡ true
  unfolding any
  first_reached =
      let may = (s.lines h known).waits n (listed_queued n (or_inl _ (eq-eqb n n refl))) in
      and_both may.alive (at_or_below_itself w n (λ z. omega (arith, may.begun)) (s.climb n may.begun may.alive))

  others_spared : (m : ℕ) → any (eqb m) (numbers_of es) ≡ true → not (is_aborted_by w n m) ≡ true
  unfolding any
  others_spared m listed =
      let first = (s.lines h known).waits n (listed_queued n (or_inl _ (eq-eqb n n refl))) in
      let may = (s.lines h known).waits m (listed_queued m (or_inr (eqb m n) listed)) in
      let other : m ≢ n = λ same. not_both (rw same at listed) (distinct_parts n (numbers_of es) numbers_stand).0 in
      rw (may.alive, nobody_below s n first.childless m may.begun may.alive other)

  pub taken_head : queue (without_below w h e.number) h ≡ es
  unfolding filter keeps_place
  taken_head =
      without_queue s h known n
      ∙ ap (filter (keeps_place w n)) stands
      ∙ rw first_reached
      (filter_whole (keeps_place w n) es
      (sym (all_map (λ m. not (is_aborted_by w n m)) (λ (x : Entry). x.number) es)
      ∙ listed_all (λ m. not (is_aborted_by w n m)) (numbers_of es) others_spared))

-- ---- one leaves

module _ (h : ℕ) (known : IsKind h) (s : Ledger) (sound : Sound s.table) (ready : is_head_ready s.table h ≡ true) where
  pub head_out_sound : Sound (head_out h s).table
  head_out_sound = change_keeps_sound s.table _ 0 sound (without_change sound h known (head_in h s) 0)

  pub head_committable : Committable (head_out h s).table (head_in h s)
  head_committable = out_committable sound h known (head_in h s) (head_queued s.table h ready)

  -- its table is sound, and both queues are as they were when the head was taken out
  finished_sound : (b : Bool) → Sound (finished (head_out h s) (head_in h s) b).table
  unfolding finished
  finished_sound true = change_keeps_sound _ _ _ head_out_sound (fail_change _ head_out_sound (head_in h s) head_committable)
  finished_sound false = change_keeps_sound _ _ _ head_out_sound (commit_change _ head_out_sound (head_in h s) head_committable)

  pub head_left_sound : Sound (head_left h s).table
  head_left_sound = finished_sound (is_head_outside h s)

  pub finished_queue :
      (x : ℕ) → IsKind x → (b : Bool) → queue (finished (head_out h s) (head_in h s) b).table x ≡ queue (head_out h s).table x
  unfolding finished
  finished_queue x is true = queue_kept _ _ x is (fail_line _ head_out_sound (head_in h s) head_committable x is)
  finished_queue x is false = queue_kept _ _ x is (commit_line _ (head_in h s) _ head_committable.own.0 x is)

  -- the other queue is as it was
  pub head_left_other : (x : ℕ) → IsKind x → x ≢ h → queue (head_left h s).table x ≡ queue s.table x
  head_left_other x is apart =
      finished_queue x is (is_head_outside h s) ∙ without_other_queue sound h known (head_in h s) x is apart

  -- it loses its head
  pub head_left_queue : (es : List Entry) → queue s.table h ≡ entry_at s.table h 1 ∷ es → queue (head_left h s).table h ≡ es
  unfolding entry_at
  head_left_queue es stands = finished_queue h known (is_head_outside h s) ∙ taken_head h known sound _ es stands

  pub one_fewer : queue_length s.table h ≡ suc (queue_length (head_left h s).table h)
  one_fewer =
      let (es, stands) = ready_head s.table h ready in
      sym (length_of_queue s.table h)
      ∙ ap length stands
      ∙ ap (λ (l : List Entry). suc (length l)) (sym (head_left_queue es stands))
      ∙ ap suc (length_of_queue (head_left h s).table h)

-- ---- all who leave

-- What holds where nobody leaves, and where it holds of those who leave after the head holds with the head, holds of all.
module _
    (h : ℕ) (known : IsKind h) (R : Ledger → Left → Type 0) (nobody : (s : Ledger) → Sound s.table → R s (nobody_left s))
    (head :
    (s : Ledger) → Sound s.table → is_head_ready s.table h ≡ true → (rest : Left) → R (head_left h s) rest →
    R s (head_before h s rest)) where
  while_by_heads :
      (most : ℕ) (s : Ledger) → Sound s.table → (b : Bool) → is_head_ready s.table h ≡ b → R s (leave_while most b h s)
  unfolding leave_while
  while_by_heads zero s sound b is = nobody s sound
  while_by_heads (suc most) s sound false is = nobody s sound
  while_by_heads (suc most) s sound true is =
      head s sound is _
      (while_by_heads most (head_left h s) (head_left_sound h known s sound is) (is_head_ready (head_left h s).table h) refl)

  pub leave_by_heads : (s : Ledger) → Sound s.table → R s (leave h s)
  unfolding leave
  leave_by_heads s sound = while_by_heads (queue_length s.table h) s sound (is_head_ready s.table h) refl

pub leave_keeps_sound : (h : ℕ) → IsKind h → (s : Ledger) → Sound s.table → Sound (leave h s).after.table
leave_keeps_sound h known =
    leave_by_heads h known (λ _ left. Sound left.after.table) (λ s sound. sound) (λ s sound ready rest sounds. sounds)

pub both_keep_sound : (s : Ledger) → Sound s.table → Sound (leave_both s).after.table
unfolding leave_both
both_keep_sound s sound = leave_keeps_sound sub_kind (omega arith) _ (leave_keeps_sound top_kind (omega arith) s sound)

-- the other queue is left as it was
pub leave_other_queue :
    (h : ℕ) → IsKind h → (x : ℕ) → IsKind x → x ≢ h → (s : Ledger) → Sound s.table →
    queue (leave h s).after.table x ≡ queue s.table x
leave_other_queue h known x is apart =
    leave_by_heads h known (λ s left. queue left.after.table x ≡ queue s.table x) (λ s sound. refl)
    (λ s sound ready rest kept. kept ∙ head_left_other h known s sound ready x is apart)

-- ---- as long as the head is ready

pub nobody_leaves : (h : ℕ) (s : Ledger) → is_head_ready s.table h ≡ false → leave h s ≡ nobody_left s
unfolding leave leave_while
nobody_leaves h s unready = rw unready (stays (queue_length s.table h))
  where
    stays : (most : ℕ) → leave_while most false h s ≡ nobody_left s
    stays zero = refl
    stays (suc most) = refl

pub head_leaves :
    (h : ℕ) → IsKind h → (s : Ledger) → Sound s.table → is_head_ready s.table h ≡ true →
    leave h s ≡ head_before h s (leave h (head_left h s))
unfolding leave leave_while
head_leaves h known s sound ready = rw (ready, one_fewer h known s sound ready) refl

-- the bound is enough: no ready one is left at the head
none_ready_left :
    (h : ℕ) → IsKind h → (most : ℕ) (s : Ledger) → Sound s.table → queue_length s.table h ≡ most → (b : Bool) →
    is_head_ready s.table h ≡ b → is_head_ready (leave h s).after.table h ≡ false
none_ready_left h known zero s sound long true is = absurd (omega (arith, one_fewer h known s sound is))
none_ready_left h known zero s sound long false is = rw (nobody_leaves h s is) is
none_ready_left h known (suc most) s sound long false is = rw (nobody_leaves h s is) is
none_ready_left h known (suc most) s sound long true is =
    rw (head_leaves h known s sound is)
    (none_ready_left h known most (head_left h s) (head_left_sound h known s sound is)
    (omega (arith, one_fewer h known s sound is, long))
    (is_head_ready (head_left h s).table h) refl)

pub all_ready_leave : (h : ℕ) → IsKind h → (s : Ledger) → Sound s.table → is_head_ready (leave h s).after.table h ≡ false
all_ready_leave h known s sound =
    none_ready_left h known (queue_length s.table h) s sound refl (is_head_ready s.table h) refl
