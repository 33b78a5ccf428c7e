-- Those who wait, in either queue, keep their rows while others leave: the head that leaves is none of them, and neither is its
-- parent, which has had a live child until then. Assumes nothing.
use Prim.Native.Nat.{ℕ}
use native.Mathlib.Omega.{arith}
use native.Mathlib.Decide.{ℕ_discrete}
use mathlib.Core.Path.{◌≡◌, sym, ap, ◌∙◌}
use mathlib.Core.Logic.{inl, ◌≢◌}
use mathlib.Core.Bool.{Bool, true, false}
use mathlib.Core.List.{List}
use Rattle.rules.specs.Range.{any}
use Rattle.rules.specs.Table.{IsActionField, word, state_field, aborted, parent_of}
use Rattle.rules.specs.Kind.{IsKind}
use Rattle.rules.specs.Queue.{is_of, queue, is_queued, is_head_ready}
use Rattle.rules.specs.Sound.{Sound}
use Rattle.rules.specs.Ledger.{Ledger}
use Rattle.rules.specs.Commit.{committed_under}
use Rattle.rules.specs.Step.{failed_ledger, finished, head_in, head_out, is_head_outside, head_left}
use Rattle.rules.proofs.Laws.Tests.{not_both}
use Rattle.rules.proofs.Laws.Permitted.{Committable, no_live_child}
use Rattle.rules.proofs.Laws.Kinds.{unqueued_in}
use Rattle.rules.proofs.Laws.Words.{word_other_row}
use Rattle.rules.proofs.Sound.QueueChanges.{without_keeps, without_other_queue, still_queued}
use Rattle.rules.proofs.Sound.TableChanges.{action_width}
use Rattle.rules.proofs.Sound.Committing.{commit_keeps_row}
use Rattle.rules.proofs.Sound.Leaving.{head_out_sound, head_committable, finished_queue}

-- ---- one that doesn't wait ends

module _
    (s : Ledger) (sound : Sound s.table) {n : ℕ} (free : Committable s.table n) (x : ℕ) (is : IsKind x) (m : ℕ)
    (queued : is_queued s.table x m ≡ true) where
  not_it : m ≢ n
  not_it same = not_both queued (rw same (unqueued_in s.table n free.unqueued x is))

  not_its_parent : m ≢ parent_of s.table n
  not_its_parent same =
      no_live_child s.table m ((sound.lines x is).waits m queued).childless n free.own free.alive (sym same)

  fail_keeps_waiting : (g : ℕ) → IsActionField g → word (failed_ledger s n).table m g ≡ word s.table m g
  fail_keeps_waiting g field =
      word_other_row s.table n m state_field g aborted (omega arith) (action_width g field) not_it

  pub commit_keeps_waiting :
      (g : ℕ) → IsActionField g → word (committed_under s n (parent_of s.table n)).table m g ≡ word s.table m g
  commit_keeps_waiting g field =
      commit_keeps_row s n (parent_of s.table n) free.own.0 m g (action_width g field)
      ((sound.lines x is).waits m queued).begun.0 not_it
      (inl not_its_parent)

-- ---- the head leaves

module _
    (h : ℕ) (known : IsKind h) (s : Ledger) (sound : Sound s.table) (ready : is_head_ready s.table h ≡ true) (x : ℕ)
    (is : IsKind x) where
  abbrev n : ℕ
  n = head_in h s

  abbrev w : List ℕ
  w = (head_out h s).table

  out_sound : Sound w
  out_sound = head_out_sound h known s sound ready

  -- who waits when it has been taken out
  module _ (m : ℕ) (queued : is_queued w x m ≡ true) where
    finished_row : (b : Bool) (g : ℕ) → IsActionField g → word (finished (head_out h s) n b).table m g ≡ word w m g
    unfolding finished
    finished_row true = fail_keeps_waiting (head_out h s) out_sound (head_committable h known s sound ready) x is m queued
    finished_row false = commit_keeps_waiting (head_out h s) out_sound (head_committable h known s sound ready) x is m queued

    out_row : (g : ℕ) → IsActionField g → word w m g ≡ word s.table m g
    out_row g field = without_keeps sound h known n m g field (inl ((out_sound.lines x is).waits m queued).begun.0)

  -- .. did before
  out_waited : (m : ℕ) → is_queued w x m ≡ true → is_queued s.table x m ≡ true
  unfolding is_queued
  out_waited m queued = go (ℕ_discrete x h)
    where
      go : Dec (x ≡ h) → any (is_of m) (queue s.table x) ≡ true
      go (yes same) = rw same (still_queued sound h known n m (rw same at queued)).0
      go (no apart) = rw (without_other_queue sound h known n x is apart) at queued

  -- .. and when it has left
  module _ (m : ℕ) (queued : is_queued (head_left h s).table x m ≡ true) where
    waited : is_queued w x m ≡ true
    unfolding is_queued
    waited = sym (ap (any (is_of m)) (finished_queue h known s sound ready x is (is_head_outside h s))) ∙ queued

    pub waited_before : is_queued s.table x m ≡ true
    waited_before = out_waited m waited

    pub waiting_row : (g : ℕ) → IsActionField g → word (head_left h s).table m g ≡ word s.table m g
    waiting_row g field = finished_row m waited (is_head_outside h s) g field ∙ out_row m waited g field
