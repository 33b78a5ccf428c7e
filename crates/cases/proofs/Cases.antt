-- The worked cases, moments of a commit, newest end times, a serial run and an R worked through, and trees, proved by computing
-- each over a table and stores of full size. Assumes nothing.
use mathlib.Core.Path.{◌≡◌, refl, sym, ap, ap₂, ◌∙◌, fun_ext}
use mathlib.Core.List.{List, ◌++◌, map, flat_map, map-append}
use Prim.Native.Nat.{ℕ}
use lib.ListN.{length-replicate}
use Rattle.rules.specs.Range.{up_from, down_to, any, all, count, filter, fold}
use Rattle.rules.specs.Card.{accounts, charge_accounts, shadow_length, card_at, with_card}
use Rattle.rules.specs.Amount.{amount_of, amount_word, is_amount, is_addable, low_first, bytes_low_first, amount_in, with_amount, base_amount}
use Rattle.rules.specs.Kind.{kinds, kind_under}
use Rattle.rules.specs.Table.{word, with_word, with_fields, without_adds, without_kept, without_newest, new_table, backward_rule, new_table_under, has_writes, with_reads, with_both_sets, with_sets, actions, parents, has_live_child, is_record_of, records}
use Rattle.rules.specs.Walk.{walk_up, climbs, is_at_or_below, is_under}
use Rattle.rules.specs.Free.{has_read_before, needs, is_needed, is_free, first_free, fresh_number, next_number}
use Rattle.rules.specs.Queue.{entry_at, with_entry, queue, is_queued, is_queued_failed, is_queued_ready, is_waiting, is_head_ready, with_entries, with_queue, with_tail, readied, with_ready, keeps_place, without_below}
use Rattle.rules.specs.Sound.{is_bounded, has_times_in, has_read_in_time, has_end_alone, has_pending_written, is_sound_action, may_wait, are_distinct, queue_numbers, is_sound_queue, is_newest_in_time, is_told_true, is_newest_true, are_newest_true, sound, has_way_up}
use Rattle.rules.specs.Stale.{is_stale, is_known_clash}
use Rattle.rules.specs.Ahead.{is_rival, ahead_over, ahead_by, ahead_among, first_ahead}
use Rattle.rules.specs.Verdict.{commit_verdict, meets, is_met_by, is_met_in_queue, verdict_of}
use Rattle.rules.specs.Cause.{commit_sum, is_commit_outside, is_read_outside, are_outside, store_causes, early_causes, late_causes, causes_of, cause_of}
use Rattle.rules.specs.Nearest.{nearest, moves_up, read_sum}
use Rattle.rules.specs.Look.{look_cause, look}
use Rattle.rules.specs.Clash.{pairs_with, clashes_with, clashes, least, first_clash}
use Rattle.rules.specs.Held.{with_held_card, with_held_sum}
use Rattle.rules.specs.Commit.{copy_one, copied_down, commit_time, commit_counter, keep_table, note_table, join_table, committed_under}
use Rattle.rules.specs.Event.{Event}
use Rattle.rules.specs.Ledger.{Ledger}
use Rattle.rules.specs.Step.{orphaned, give_table, start, read_answer, read, read_table, write, write_table, add, add_table, commit, judged, finished, leave_while, leave, leave_both, enter_table, enter, revealed, judge_left, judge, out_of_both, dropped, abort_left, abort, abort_table, act, step, act_leavers}
use Rattle.rules.specs.Run.{Ran, run}
use Rattle.rules.specs.Tree.{children, lines_within, tree_lines, is_shown, figures_of, is_figure_outside, tree_causes, tree_cause}
use Rattle.rules.proofs.Demand.Proper.{Proper, new_proper}
use Rattle.cases.specs.Case.{opening_under, opening, told_in, result_in, result_of, Case, Hold, cases_to14, cases_to25, cases_to30, cases_to37, cases_to43}
use Rattle.cases.specs.BothRules.{cases_to51, cases_to62}
use Rattle.cases.specs.Cases.{cases}
use Rattle.cases.proofs.ProperRuns.{later_cause, proper_step, proper_leavers, proper_run, same_run, opened_run}
use Rattle.cases.specs.Moments.{Watched, moments_from, moments, watched, moments_expected}
use Rattle.cases.specs.Newests.{NewestCase, newests_in, newests_after, newest_cases, newests_expected}
use Rattle.rules.specs.Serial.Effect.{lay, card_over, sum_over}
use Rattle.rules.specs.Serial.Told.{told_all}
use Rattle.rules.specs.Serial.Collect.{put, commits_at, laid_all, stepped, collect_one, collect_from, unknown, store_block}
use Rattle.rules.specs.Serial.Schedule.{schedule_of}
use Rattle.rules.specs.Serial.Machine.{shows_card, shows_sum, shows_amount, settle, written, ended, perform, perform_all, serial}
use Rattle.rules.specs.Serial.Starts.{no_starts, with_commits, with_start_at, lineage_one, lineage_from, lineage_of, is_in_r}
use Rattle.cases.specs.Example.{example, example_told, told_expected, serially_told, example_run, example_expected}
use Rattle.cases.specs.InR.{nested, in_rBy, nested_in_r, nested_expected}
use Rattle.cases.specs.Trees.{tree_opening, tree_from, tree_after, tree_events, trees_expected}

-- Named on an `unfolding` line, this lets all that a list of events takes compute.
computing : Ledger → List Event → Ran
unfolding up_from down_to any all count filter fold accounts charge_accounts card_at with_card amount_of amount_word is_amount is_addable low_first bytes_low_first amount_in with_amount base_amount kinds kind_under word with_word with_fields without_adds without_kept without_newest new_table new_table_under has_writes with_reads with_both_sets with_sets actions parents has_live_child is_record_of records walk_up is_at_or_below climbs is_under has_read_before needs is_needed is_free first_free fresh_number next_number entry_at with_entry queue is_queued is_queued_failed is_queued_ready is_waiting is_head_ready with_entries with_queue with_tail readied with_ready keeps_place without_below is_bounded has_way_up has_times_in has_read_in_time has_end_alone has_pending_written is_sound_action may_wait are_distinct queue_numbers is_sound_queue is_stale is_newest_in_time is_told_true is_newest_true are_newest_true sound is_rival ahead_over ahead_by ahead_among first_ahead commit_verdict meets is_met_by is_met_in_queue verdict_of commit_sum is_commit_outside is_read_outside are_outside store_causes early_causes late_causes causes_of cause_of nearest moves_up read_sum pairs_with clashes_with clashes least first_clash start orphaned give_table read_answer read read_table write write_table add add_table commit commit_time commit_counter with_held_card with_held_sum copy_one copied_down keep_table note_table join_table committed_under judged finished leave_while leave leave_both enter_table enter revealed judge_left judge out_of_both dropped abort_left abort abort_table act step run
computing = run

-- The same for a list from a new table, where no table is tested.
properly : Ledger → List Event → Ran
unfolding computing later_cause proper_step proper_leavers proper_run
properly = proper_run

-- the cases of specs/Case.antt: part by part, and all of them
hold_properly :
    (cs : List Case) →
    map (λ c. result_in c.question (proper_run (opening_under c.question.rule) c.question.events)) cs ≡ map (λ c. c.expected) cs → Hold cs
unfolding result_of
hold_properly cs computed =
    ap (λ f. map f cs) (fun_ext (λ (c : Case). ap (result_in c.question) (opened_run c.question.rule c.question.events))) ∙ computed

to_14_hold : Hold cases_to14
unfolding properly look_cause look result_in cases_to14
to_14_hold = hold_properly cases_to14 refl

to_25_hold : Hold cases_to25
unfolding properly look_cause look result_in cases_to25
to_25_hold = hold_properly cases_to25 refl

to_30_hold : Hold cases_to30
unfolding properly look_cause look result_in cases_to30
to_30_hold = hold_properly cases_to30 refl

to_37_hold : Hold cases_to37
unfolding properly look_cause look result_in cases_to37
to_37_hold = hold_properly cases_to37 refl

to_43_hold : Hold cases_to43
unfolding properly look_cause look result_in cases_to43
to_43_hold = hold_properly cases_to43 refl

to_51_hold : Hold cases_to51
unfolding properly look_cause look result_in cases_to51
to_51_hold = hold_properly cases_to51 refl

to_62_hold : Hold cases_to62
unfolding properly look_cause look result_in cases_to62
to_62_hold = hold_properly cases_to62 refl

both_hold : (some more : List Case) → Hold some → Hold more → Hold (some ++ more)
both_hold some more h k = map-append _ some more ∙ ap₂ (λ x y. x ++ y) h k ∙ sym (map-append _ some more)

pub cases_hold : Hold cases
unfolding cases
cases_hold =
    let to_25 = both_hold cases_to14 cases_to25 to_14_hold to_25_hold in
    let to_30 = both_hold (cases_to14 ++ cases_to25) cases_to30 to_25 to_30_hold in
    let to_37 = both_hold (cases_to14 ++ cases_to25 ++ cases_to30) cases_to37 to_30 to_37_hold in
    let to_43 = both_hold (cases_to14 ++ cases_to25 ++ cases_to30 ++ cases_to37) cases_to43 to_37 to_43_hold in
    let to_51 = both_hold (cases_to14 ++ cases_to25 ++ cases_to30 ++ cases_to37 ++ cases_to43) cases_to51 to_43 to_51_hold in
    both_hold (cases_to14 ++ cases_to25 ++ cases_to30 ++ cases_to37 ++ cases_to43 ++ cases_to51) cases_to62 to_51 to_62_hold

-- the moments of specs/Moments.antt
moments_computed : map (λ c. moments_from c (proper_run opening c.events).after) watched ≡ moments_expected
unfolding properly moments_from
moments_computed = refl

pub moments_hold : map moments watched ≡ moments_expected
unfolding moments
moments_hold =
    ap (λ f. map f watched)
    (fun_ext (λ (c : Watched). ap (λ (ran : Ran). moments_from c ran.after) (opened_run backward_rule c.events)))
    ∙ moments_computed

-- the newest end times of specs/Newests.antt
newests_computed : map (λ c. newests_in c (proper_run opening c.events)) newest_cases ≡ newests_expected
unfolding properly flat_map is_known_clash newests_in newest_cases newests_expected
newests_computed = refl

pub newests_hold : map newests_after newest_cases ≡ newests_expected
unfolding newests_after
newests_hold =
    ap (λ f. map f newest_cases) (fun_ext (λ (c : NewestCase). ap (newests_in c) (opened_run backward_rule c.events))) ∙ newests_computed

-- the example of specs/Example.antt: what the serial run is told, and what it gives then
told_computed : told_in (proper_run opening example) ≡ told_expected
unfolding properly act_leavers told_all example told_expected
told_computed = refl

told_holds : example_told ≡ told_expected
unfolding example_told
told_holds = ap told_in (opened_run backward_rule example) ∙ told_computed

serially_told_is : serially_told told_expected ≡ example_expected
unfolding up_from fold accounts charge_accounts card_at with_card amount_of amount_word low_first bytes_low_first amount_in with_amount base_amount lay card_over sum_over put commits_at laid_all stepped collect_one collect_from unknown store_block schedule_of shows_card shows_sum shows_amount settle written ended perform perform_all serial example told_expected serially_told example_expected
serially_told_is = refl

pub example_holds : example_run ≡ example_expected
unfolding example_run
example_holds = ap serially_told told_holds ∙ serially_told_is

-- the list of specs/InR.antt
nested_computed : in_rBy (proper_run opening nested) ≡ nested_expected
unfolding properly act_leavers told_all put commits_at no_starts with_commits with_start_at lineage_one lineage_from lineage_of is_in_r nested in_rBy nested_expected
nested_computed = refl

pub nested_holds : nested_in_r ≡ nested_expected
unfolding nested_in_r
nested_holds = ap in_rBy (opened_run backward_rule nested) ∙ nested_computed

-- the trees of specs/Trees.antt
tree_opening_proper : Proper tree_opening
unfolding card_at with_card amount_of amount_word low_first bytes_low_first with_amount
tree_opening_proper = new_proper backward_rule _ _ refl (length-replicate {A = ℕ} shadow_length 0)

trees_computed : map (λ es. tree_from (proper_run tree_opening es).after) tree_events ≡ trees_expected
unfolding properly flat_map children lines_within tree_lines is_shown figures_of is_figure_outside tree_causes tree_cause tree_from tree_events trees_expected
trees_computed = refl

pub trees_hold : map tree_after tree_events ≡ trees_expected
unfolding tree_after
trees_hold =
    ap (λ f. map f tree_events)
    (fun_ext (λ es. ap (λ (ran : Ran). tree_from ran.after) (same_run tree_opening tree_opening_proper es)))
    ∙ trees_computed
