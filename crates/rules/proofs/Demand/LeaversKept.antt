-- The steps of which a judge and an abort are made, beside the collector: taking out, failing, aborting, becoming ready, and the
-- heads that leave one after the other, of one queue or of both. Assumes nothing.
use Prim.Native.Nat.{ℕ}
use native.Mathlib.Omega.{arith}
use mathlib.Core.Path.{◌≡◌, refl, ◌∙◌}
use mathlib.Core.Bool.{Bool, true, false}
use mathlib.Core.List.{List, [], ◌∷◌, ◌++◌}
use Rattle.rules.specs.Kind.{IsKind, top_kind, sub_kind}
use Rattle.rules.specs.Table.{parent_of, kind_of, rule_of, is_forward}
use Rattle.rules.specs.Queue.{is_head_ready, is_queued_failed, with_tail, with_ready, without_below}
use Rattle.rules.specs.Verdict.{verdict_of}
use Rattle.rules.specs.Sound.{Sound}
use Rattle.rules.specs.Ledger.{Ledger, with_table}
use Rattle.rules.specs.Step.{failed_ledger, taken_out, finished, committing, Left, leave, leave_both, enter_table, enter, is_judged_failed, revealed, out_of_both, dropped, head_in, head_out, is_head_outside}
use Rattle.rules.specs.Serial.Collect.{Known, laid, laid_all}
use Rattle.rules.proofs.Laws.Kinds.{kind_known}
use Rattle.rules.proofs.Laws.Permitted.{Committable, Judgeable}
use Rattle.rules.proofs.Sound.QueueChanges.{tail_change, ready_change, without_change, out_committable}
use Rattle.rules.proofs.Sound.TakingOut.{out_sound, out_reach, out_spared}
use Rattle.rules.proofs.Sound.Aborting.{Spared}
use Rattle.rules.proofs.Sound.Judging.{fail_change}
use Rattle.rules.proofs.Sound.Leaving.{head_committable, leave_by_heads, leave_keeps_sound}
use Rattle.rules.proofs.Serial.Values.{AccountValue}
use Rattle.rules.proofs.Demand.Proper.{Proper, dropped_proper}
use Rattle.rules.proofs.Demand.Views.{change_keeps_proper}
use Rattle.rules.proofs.Demand.Drops.{abort_drops, queue_drops, fail_drops}
use Rattle.rules.proofs.Demand.CommitChange.{committed_proper}
use Rattle.rules.proofs.Demand.JudgingRule.{JudgingRule}
use Rattle.rules.proofs.Demand.Collected.{Kept, drop_kept, pass_kept}

-- nobody who still waits is reached when those have been taken out of both queues whom an abort reaches
pub spared : {s : Ledger} (proper : Proper s) (n : ℕ) → Spared (out_of_both s.table n) n (out_sound proper.sound n)
spared proper n h known m queued = out_reach proper.sound n m ∙ (out_spared proper.sound n h known m queued).1

pub fail_proper : {s : Ledger} → Proper s → (n : ℕ) → Committable s.table n → Proper (failed_ledger s n)
fail_proper {s} proper n free = change_keeps_proper proper (fail_change s.table proper.sound n free)

-- what is laid for two lists, one after the other, is laid for both together
laid_in_turn : (i : ℕ) (first then : List ℕ) (c : Known) → laid_all i c (first ++ then) ≡ laid_all i (laid_all i c first) then
unfolding laid_all
laid_in_turn i [] then c = refl
laid_in_turn i (n ∷ first) then c = laid_in_turn i first then (laid i c n)

module _ (J : JudgingRule) (got ground opening : ℕ → AccountValue) (i : ℕ) where
  -- what is kept of a ledger and what is collected beside it
  abbrev KeptIn : Ledger → Known → Type 0
  KeptIn s c = Kept J got ground opening s c

  module _ {s : Ledger} {c : Known} (kept : KeptIn s c) where
    -- ---- the steps

    pub enter_queue_kept :
        (n : ℕ) → Committable s.table n → rule_of s.table ≡ J.number → is_forward s.table ≡ false →
        KeptIn (enter s n).after c
    unfolding enter enter_table with_tail
    enter_queue_kept n free ruled fits =
        let h = kind_of s.table n in
        let known = kind_known (parent_of s.table n) in
        let change = tail_change kept.proper.sound h known n refl free (verdict_of s.table h n) n in
        drop_kept J got ground opening kept i _ (change_keeps_proper kept.proper change)
        (queue_drops s kept.proper h known _ change)
        (J.at_queue s kept.proper h known _ change)
        (J.waits.waits_enter s kept.proper n free ruled fits kept.waiting)

    module _ (h : ℕ) (known : IsKind h) (n : ℕ) where
      ready_kept : is_queued_failed s.table h n ≡ false → KeptIn (with_table s (with_ready s.table h n)) c
      unfolding with_ready
      ready_kept fine =
          let change = ready_change kept.proper.sound h known n n in
          drop_kept J got ground opening kept i _ (change_keeps_proper kept.proper change)
          (queue_drops s kept.proper h known _ change)
          (J.at_queue s kept.proper h known _ change)
          (J.waits.waits_ready s kept.proper h known n fine kept.waiting)

      pub out_kept : KeptIn (taken_out s h n) c
      unfolding without_below
      out_kept =
          let change = without_change kept.proper.sound h known n n in
          drop_kept J got ground opening kept i _ (change_keeps_proper kept.proper change)
          (queue_drops s kept.proper h known _ change)
          (J.at_queue s kept.proper h known _ change)
          (J.waits.waits_out s kept.proper h known n kept.waiting)

    fail_kept : (n : ℕ) → Committable s.table n → KeptIn (failed_ledger s n) c
    fail_kept n free =
        drop_kept J got ground opening kept i _ (fail_proper kept.proper n free)
        (fail_drops s kept.proper n free) (J.at_failed_commit s kept.proper n free)
        (J.waits.waits_fail s kept.proper n free kept.waiting)

  -- out of one queue, then out of the other
  both_out_kept : {s : Ledger} {c : Known} → KeptIn s c → (n : ℕ) → KeptIn (with_table s (out_of_both s.table n)) c
  unfolding out_of_both
  both_out_kept kept n = out_kept (out_kept kept top_kind (omega arith) n) sub_kind (omega arith) n

  -- those who wait are taken out and those who live are dropped whom an abort reaches
  pub dropped_kept : {s : Ledger} {c : Known} → KeptIn s c → (n : ℕ) → KeptIn (dropped s n) c
  unfolding dropped
  dropped_kept {s} kept n =
      let out = both_out_kept kept n in
      let free = spared kept.proper n in
      drop_kept J got ground opening out i _ (dropped_proper kept.proper n)
      (abort_drops _ out.proper n free) (J.at_abort _ out.proper n free)
      (J.waits.waits_abort _ out.proper n free out.waiting)

  -- a verdict is revealed
  pub revealed_kept :
      {s : Ledger} {c : Known} → KeptIn s c → (n : ℕ) → Judgeable s.table n → (b : Bool) →
      is_judged_failed s.table n ≡ b → KeptIn (revealed s n b) c
  unfolding revealed
  revealed_kept {s} kept n j true is =
      let known = kind_known (parent_of s.table n) in
      fail_kept (out_kept kept (kind_of s.table n) known n) n
      (out_committable kept.proper.sound (kind_of s.table n) known n j.queued)
  revealed_kept {s} kept n j false is = ready_kept kept (kind_of s.table n) (kind_known (parent_of s.table n)) n is

  -- ---- those who leave

  abbrev KeptAsLeft : Ledger → Left → Type 0
  KeptAsLeft s left = (c : Known) → KeptIn s c → KeptIn left.after (laid_all i c left.commits)

  module _
      (h : ℕ) (known : IsKind h) (s : Ledger) (sound : Sound s.table) (ready : is_head_ready s.table h ≡ true) (rest : Left)
      (c : Known) (kept : KeptIn s c) where
    head_by_sums :
        (b : Bool) → is_head_outside h s ≡ b → KeptAsLeft (finished (head_out h s) (head_in h s) b) rest →
        KeptIn rest.after (laid_all i c (committing (head_in h s) b ++ rest.commits))
    unfolding finished laid_all
    head_by_sums true outside later =
        later c (fail_kept (out_kept kept h known (head_in h s)) (head_in h s) (head_committable h known s sound ready))
    head_by_sums false fits later =
        let out = out_kept kept h known (head_in h s) in
        let free = head_committable h known s sound ready in
        later (laid i c (head_in h s))
        (pass_kept J got ground opening out i (head_in h s) free fits (committed_proper out.proper free refl fits)
        (J.waits.head_passes h known s kept.proper ready kept.waiting)
        (J.waits.waits_head_committed h known s kept.proper ready kept.waiting out.proper))

  pub leave_kept : (h : ℕ) → IsKind h → (s : Ledger) → Sound s.table → KeptAsLeft s (leave h s)
  unfolding laid_all
  leave_kept h known =
      leave_by_heads h known KeptAsLeft (λ s sound c kept. kept)
      (λ s sound ready rest later c kept. head_by_sums h known s sound ready rest c kept (is_head_outside h s) refl later)

  -- those who leave the topactions' queue, then those who leave the other
  pub both_leave_kept : (s : Ledger) → Sound s.table → KeptAsLeft s (leave_both s)
  unfolding leave_both
  both_leave_kept s sound c kept =
      let tops = leave top_kind s in
      let subs = leave sub_kind tops.after in
      rw (laid_in_turn i tops.commits subs.commits c)
      (leave_kept sub_kind (omega arith) tops.after (leave_keeps_sound top_kind (omega arith) s sound) _
      (leave_kept top_kind (omega arith) s sound c kept))
