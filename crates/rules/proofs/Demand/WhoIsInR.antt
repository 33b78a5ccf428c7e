-- R in plain words: the engine's events do to who is live what their answers tell, so that for every list of events the
-- statement of specs/Serial/Starts.antt holds. Assumes nothing.
use Prim.Native.Nat.{ℕ, ◌<◌}
use native.Mathlib.Nat.{sub-zero}
use native.Mathlib.Omega.{arith}
use mathlib.Core.Path.{◌≡◌, refl}
use mathlib.Core.Logic.{inl, inr, ⊎_elim, ◌≢◌}
use mathlib.Core.Bool.{Bool, true, false}
use mathlib.Core.List.{List, [], ◌∷◌, ◌++◌}
use lib.IntN.{◌+ℤ◌}
use lib.ListN.{length}
use Rattle.rules.specs.declared.Answer.TheVariants.{Refused}
use Rattle.rules.specs.declared.Found.{Found}
use Rattle.std.specs.Prelude.{Option, Some, None}
use Rattle.rules.specs.Card.{first_charge, IsCharge, IsCard, base_length, shadow_length}
use Rattle.rules.specs.Amount.{is_amount, amount_in}
use Rattle.rules.specs.Table.{state_field, parent_of, kind_of, pending_sum}
use Rattle.rules.specs.Event.{Event}
use Rattle.rules.specs.Cause.{is_commit_outside}
use Rattle.rules.specs.Ledger.{Ledger, with_table}
use Rattle.rules.specs.Kind.{IsKind, top_kind, sub_kind}
use Rattle.rules.specs.Queue.{is_head_ready, with_tail, with_ready, without_below}
use Rattle.rules.specs.Commit.{committed_under}
use Rattle.rules.specs.Step.{Outcome, start, read, write, add, judged, taken_out, finished, committing, Left, leave, leave_both, enter_table, enter, is_judged_failed, revealed, judge_left, judge_answer, judge, out_of_both, dropped, abort_left, abort, step, leavers_at, head_in, head_out, is_head_outside}
use Rattle.rules.specs.Run.{run}
use Rattle.rules.specs.Serial.Told.{told, told_all}
use Rattle.rules.specs.Serial.Demand.{new_over, told_of}
use Rattle.rules.specs.Serial.Starts.{no_starts, lineage_of, PlainR}
use Rattle.rules.proofs.Laws.Tests.{not_both}
use Rattle.rules.proofs.Laws.Kinds.{kind_known}
use Rattle.rules.proofs.Laws.EventCases.{cause_in}
use Rattle.rules.proofs.Laws.Permitted.{Startable, Touchable, Committable, Judgeable, not_own_parent, step_by_kind}
use Rattle.rules.proofs.Sound.Giving.{give_parent}
use Rattle.rules.proofs.Sound.Committing.{commit_keeps_row}
use Rattle.rules.proofs.Sound.QueueChanges.{tail_change, ready_change, without_change, out_committable}
use Rattle.rules.proofs.Sound.Leaving.{head_committable, leave_by_heads}
use Rattle.rules.proofs.Serial.Values.{account_values}
use Rattle.rules.proofs.Serial.AbstractState.{AbstractState}
use Rattle.rules.proofs.Serial.Lineages.{ordered_at_first, from_ordered, in_r_by_rule, rule_decides}
use Rattle.rules.proofs.Serial.Agreement.{Ends, Quiet, LetLeave, none_leaves, some_dropped, one_leaves, Tells, TellAll, no_more, tells_then, change_quiet, drop_quiet, change_tells, leave_tells, Agree, agree_at_first}
use Rattle.rules.proofs.Serial.Following.{same_starts, same_acts}
use Rattle.rules.proofs.Demand.Abstraction.{is_alive, abstraction}
use Rattle.rules.proofs.Demand.Proper.{Proper, new_proper, step_keeps_proper, left_proper, out_proper, dropped_proper, head_out_proper, leave_proper}
use Rattle.rules.proofs.Demand.AbstractionLaws.{new_nobody_alive, alive_given, alive_live, live_alive, abstract_tree}
use Rattle.rules.proofs.Demand.Starts.{start_givable, start_starts}
use Rattle.rules.proofs.Demand.Reads.{read_told, read_reads}
use Rattle.rules.proofs.Demand.Entering.{entering_writes}
use Rattle.rules.proofs.Demand.Writes.{write_enters}
use Rattle.rules.proofs.Demand.Adds.{add_enters}
use Rattle.rules.proofs.Demand.Drops.{abort_drops, queue_drops, fail_drops}
use Rattle.rules.proofs.Demand.Views.{change_keeps_proper}
use Rattle.rules.proofs.Demand.LeaversKept.{spared, fail_proper}
use Rattle.rules.proofs.Demand.CommitTable.{table_change, still_alive_other}
use Rattle.rules.proofs.Demand.CommitChange.{committed_proper, abstract_commit}
use Rattle.rules.specs.Refusal.{refusal_numbered}

-- ---- a commit that passes

module _
    {s : Ledger} (proper : Proper s) {n : ℕ} (j : Committable s.table n)
    (fits : is_commit_outside s.table s.base n None ≡ false) where
  abbrev p : ℕ
  p = parent_of s.table n

  others_stay : (X : ℕ) → X ≢ n → is_alive s.table X ≡ true → is_alive (committed_under s n p).table X ≡ true
  others_stay X other l =
      let begun = alive_given s.table X l in
      live_alive (committed_under s n p).table X (rw (table_change proper j refl).same_highest begun)
      (rw (commit_keeps_row s n p j.own.0 X state_field (omega arith) begun.0 other (inr (omega arith)))
      (alive_live s.table X l))

  commit_ends : Ends (abstraction s) (abstraction (committed_under s n p)) n
  commit_ends =
      let c = abstract_commit proper j refl fits in
      let l = c.committer_live in
      record {
        live_before = l;
        now_ended = λ l'. still_alive_other proper j refl n l' refl;
        parent_does_stay = ⊎_elim inl (λ above. inr (others_stay p (not_own_parent j) above)) ((abstract_tree s proper).parent_held n l);
        nobody_new = c.nobody_new;
      }

-- ---- those who leave a queue

-- the chain of those who leave, from one ledger to another
abbrev Chain : Ledger → Left → Type 0
Chain s left = Proper s → LetLeave (abstraction s) (abstraction left.after) left.commits

-- some are taken out of queue h, which nobody sees
out_quiet : (h : ℕ) → IsKind h → (s : Ledger) → Proper s → (n : ℕ) → Quiet (abstraction s) (abstraction (taken_out s h n))
unfolding without_below
out_quiet h known s proper n = drop_quiet (queue_drops s proper h known _ (without_change proper.sound h known n n))

module _ (h : ℕ) (known : IsKind h) (s : Ledger) (proper : Proper s) (ready : is_head_ready s.table h ≡ true) (rest : Left) where
  abbrev n : ℕ
  n = head_in h s

  head_by_sums :
      (b : Bool) → is_head_outside h s ≡ b → Chain (finished (head_out h s) n b) rest →
      LetLeave (abstraction s) (abstraction rest.after) (committing n b ++ rest.commits)
  unfolding finished
  head_by_sums true outside later =
      let out = head_out_proper h known s proper ready in
      let free = head_committable h known s proper.sound ready in
      some_dropped (out_quiet h known s proper n)
      (some_dropped (drop_quiet (fail_drops _ out n free)) (later (fail_proper out n free)))
  head_by_sums false fits later =
      let out = head_out_proper h known s proper ready in
      let free = head_committable h known s proper.sound ready in
      let commits = abstract_commit out free refl fits in
      some_dropped (out_quiet h known s proper n)
      (one_leaves (change_quiet commits.change commits.nobody_new) (commit_ends out free fits)
      (later (committed_proper out free refl fits)))

leave_chain :
    (h : ℕ) → IsKind h → (s : Ledger) → Proper s →
    LetLeave (abstraction s) (abstraction (leave h s).after) (leave h s).commits
leave_chain h known s proper =
    leave_by_heads h known Chain (λ t sound proper'. none_leaves)
    (λ t sound ready rest later proper'. head_by_sums h known t proper' ready rest (is_head_outside h t) refl later)
    s proper.sound proper

-- one chain after another
chain_then :
    {a b c : AbstractState account_values} {ns ms : List ℕ} → LetLeave a b ns → LetLeave b c ms → LetLeave a c (ns ++ ms)
chain_then none_leaves then = then
chain_then (some_dropped quiet rest) then = some_dropped quiet (chain_then rest then)
chain_then (one_leaves quiet ends rest) then = one_leaves quiet ends (chain_then rest then)

both_chain : (s : Ledger) → Proper s → LetLeave (abstraction s) (abstraction (leave_both s).after) (leave_both s).commits
unfolding leave_both
both_chain s proper =
    chain_then (leave_chain top_kind (omega arith) s proper)
    (leave_chain sub_kind (omega arith) _ (leave_proper top_kind (omega arith) s proper))

-- ---- one event

module _ (s : Ledger) (proper : Proper s) (e : Event) where
  -- the outcome does what its answer tells, and those fed beside it
  AsTold : Outcome → List ℕ → Type 0
  AsTold o leavers = Tells (abstraction s) (abstraction o.after) e (told o.answer leavers)

  refused : AsTold (record { answer = Refused (refusal_numbered (cause_in s e)); after = s }) []
  unfolding AsTold
  refused = record { tree' = abstract_tree s proper; parent_kept = λ X x. refl; lives = λ X l. l }

  starts : Startable s.table e.number → AsTold (start s e.number) []
  unfolding AsTold start
  starts permitted =
      let st = start_starts s proper e.number permitted in
      let g = start_givable proper permitted in
      change_tells st.still
      (record {
        was_free = λ l. not_both (alive_live s.table _ l) (g.idle (alive_given s.table _ l).1);
        now_live = st.started_live;
        under = give_parent s.table _ e.number proper.sound.long g.first g.few;
        nobody_else_new = st.nobody_else_new;
      })

  reads : Touchable s.table e.number e.account → AsTold (read s e.number e.account) []
  unfolding AsTold read
  reads permitted =
      let r = read_reads s proper e.number e.account permitted in
      rw (read_told s.table s.base e.number e.account []) (change_tells r.still (r.nobody_new, r.reader_live))

  writes :
      Touchable s.table e.number e.account → IsCard e.card → e.account < first_charge →
      AsTold (write s e.number e.account e.card) []
  unfolding AsTold write
  writes permitted card below =
      let entering = write_enters s proper e.number e.account permitted below e.card card in
      let w = entering_writes proper permitted entering in
      change_tells w.change (w.nobody_new, w.writer_live)

  joins :
      Touchable s.table e.number e.account → IsCharge e.account →
      is_amount (pending_sum s.table e.number e.account +ℤ amount_in e.card) ≡ true →
      AsTold (add s e.number e.account e.card) []
  unfolding AsTold add
  joins permitted charge fits =
      let entering = add_enters s proper e.number e.account permitted charge e.card fits in
      let w = entering_writes proper permitted entering in
      change_tells w.change (w.nobody_new, w.writer_live)

  judges :
      Committable s.table e.number → (f : Option Found) → is_commit_outside s.table s.base e.number f ≡ false →
      AsTold (judged s e.number f) []
  unfolding AsTold judged
  judges j None fits = change_tells (abstract_commit proper j refl fits).change (commit_ends proper j fits)
  judges j (Some f) fits = let d = fail_drops s proper e.number j in change_tells d.still d.nobody_new

  -- the queue of its action
  abbrev h : ℕ
  h = kind_of s.table e.number

  known : IsKind h
  known = kind_known (parent_of s.table e.number)

  enters : Committable s.table e.number → AsTold (enter s e.number) []
  unfolding AsTold enter enter_table with_tail
  enters free =
      let change = tail_change proper.sound h known e.number refl free _ e.number in
      let d = queue_drops s proper h known _ change in
      change_tells d.still d.nobody_new

  -- the verdict is revealed, and some leave
  revealed_chain :
      Judgeable s.table e.number → (b : Bool) (left : ℕ) →
      AsTold (record { answer = judge_answer b left; after = (leave h (revealed s e.number b)).after })
      (leave h (revealed s e.number b)).commits
  unfolding AsTold revealed with_ready
  revealed_chain j true left =
      let out = left_proper proper e.number in
      let free = out_committable proper.sound h known e.number j.queued in
      leave_tells (abstract_tree s proper)
      (some_dropped (out_quiet h known s proper e.number)
      (some_dropped (drop_quiet (fail_drops _ out e.number free)) (leave_chain h known _ (fail_proper out e.number free))))
  revealed_chain j false left =
      let change = ready_change proper.sound h known e.number e.number in
      leave_tells (abstract_tree s proper)
      (some_dropped (drop_quiet (queue_drops s proper h known _ change))
      (leave_chain h known _ (change_keeps_proper proper change)))

  reveals : Judgeable s.table e.number → AsTold (judge s e.number) (judge_left s e.number).commits
  unfolding judge judge_left
  reveals j = revealed_chain j (is_judged_failed s.table e.number) _

  -- those whom it reaches are taken out of one queue and then of the other
  both_out_quiet :
      {t : AbstractState account_values} {ns : List ℕ} →
      LetLeave (abstraction (with_table s (out_of_both s.table e.number))) t ns → LetLeave (abstraction s) t ns
  unfolding out_of_both
  both_out_quiet later =
      let half = change_keeps_proper proper (without_change proper.sound top_kind (omega arith) e.number 0) in
      some_dropped (out_quiet top_kind (omega arith) s proper e.number)
      (some_dropped (out_quiet sub_kind (omega arith) _ half e.number) later)

  aborts : AsTold (abort s e.number) (abort_left s e.number).commits
  unfolding AsTold abort abort_left dropped
  aborts =
      let out = out_proper proper e.number in
      leave_tells (abstract_tree s proper)
      (both_out_quiet
      (some_dropped (drop_quiet (abort_drops _ out e.number (spared proper e.number)))
      (both_chain _ (dropped_proper proper e.number))))

  event_tells : Tells (abstraction s) (abstraction (step s e).after) e (told (step s e).answer (leavers_at s e))
  unfolding AsTold
  event_tells =
      step_by_kind s e AsTold refused starts (λ permitted _. reads permitted) writes (λ j _ f _. judges j f)
      (λ permitted _ charge fits. joins permitted charge fits.pending_fits) (λ free _. enters free) reveals aborts

-- ---- a list of events

run_tells : (es : List Event) {s : Ledger} → Proper s → TellAll (abstraction s) es (told_all (run s es).answers (run s es).leavers)
unfolding run told_all
run_tells [] proper = no_more
run_tells (e ∷ es) {s} proper = tells_then (event_tells s proper e) (run_tells es (step_keeps_proper s e proper))

module _ (r : ℕ) (base shadow : List ℕ) (base_fits : length base ≡ base_length) (shadow_fits : length shadow ≡ shadow_length) where
  agree_when_new : Agree (abstraction (new_over r base shadow)) (λ n. 0) no_starts
  agree_when_new =
      agree_at_first (abstract_tree (new_over r base shadow) (new_proper r base shadow base_fits shadow_fits)) (new_nobody_alive r)

  pub plain_R : (es : List Event) → PlainR r base shadow es
  unfolding lineage_of no_starts
  plain_R es =
      let ordered = from_ordered ordered_at_first es (told_of r base shadow es) in
      let all = run_tells es (new_proper r base shadow base_fits shadow_fits) in
      record {
        rule = in_r_by_rule ordered;
        unique = rule_decides ordered;
        reached = rw sub-zero at (same_starts all agree_when_new);
        acts = same_acts all 0 agree_when_new;
      }
