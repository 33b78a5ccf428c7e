-- RULES 15.6: the worked short days, proved by computing them over a table and stores of full size. Assumes nothing.
use Prim.Native.Nat.{ℕ}
use mathlib.Core.Path.{ap}
use mathlib.Core.List.{List}
use lib.ListN.{length}
use Rattle.rules.specs.Range.{up_from, down_to, any, filter, fold}
use Rattle.rules.specs.Card.{accounts, charge_accounts}
use Rattle.rules.specs.Amount.{amount_of, is_amount}
use Rattle.rules.specs.Kind.{kinds, kind_under}
use Rattle.rules.specs.Table.{backward_rule, forward_rule, word, with_word, with_fields, without_adds, without_kept, without_newest}
use Rattle.rules.specs.Table.{new_table, new_table_under, has_writes, with_reads, with_both_sets, with_sets, actions, has_live_child}
use Rattle.rules.specs.Table.{is_record_of, records}
use Rattle.rules.specs.Walk.{walk_up, is_at_or_below, is_under}
use Rattle.rules.specs.Free.{is_needed, is_free, first_free, fresh_number, next_number}
use Rattle.rules.specs.Queue.{queue, is_queued, is_waiting, with_entries, with_queue, without_below}
use Rattle.rules.specs.Ahead.{is_rival, ahead_over, ahead_by, ahead_among, first_ahead}
use Rattle.rules.specs.Verdict.{commit_verdict}
use Rattle.rules.specs.Cause.{is_commit_outside, is_read_outside, are_outside, early_causes, late_causes, later_cause}
use Rattle.rules.specs.Clash.{clashes_with, clashes, least, first_clash}
use Rattle.rules.specs.Commit.{copy_one, copied_down, keep_table, note_table, committed_under}
use Rattle.rules.specs.Step.{orphaned, give_table, start, read, read_table, write, write_table, commit, judged, leave_while, leave}
use Rattle.rules.specs.Step.{leave_both, out_of_both, dropped, abort_left, abort, abort_table, act}
use Rattle.rules.specs.Event.{Event}
use Rattle.rules.specs.Ledger.{Ledger}
use Rattle.enumeration.specs.Worked.{WorkedUnder}
use Rattle.enumeration.proofs.ProperLists.{proper_beginning_by, proper_beginning_from, proper_lists, days_properly}

-- Named on an `unfolding` line, this lets all that the search takes compute.
computing : ℕ → ℕ → Ledger → List (List Event)
unfolding up_from down_to any filter fold accounts charge_accounts amount_of is_amount kinds kind_under word with_word with_fields
    without_adds without_kept without_newest new_table new_table_under has_writes with_reads with_both_sets with_sets actions has_live_child
    is_record_of records walk_up is_at_or_below is_under is_needed is_free first_free fresh_number next_number queue is_queued is_waiting
    with_entries with_queue without_below is_rival ahead_over ahead_by ahead_among first_ahead commit_verdict is_commit_outside
    is_read_outside are_outside early_causes late_causes later_cause clashes_with clashes least first_clash copy_one copied_down keep_table
    note_table committed_under orphaned give_table start read read_table write write_table commit judged leave_while leave leave_both
    out_of_both dropped abort_left abort abort_table act proper_beginning_by proper_beginning_from proper_lists
computing = proper_lists

worked_backward : WorkedUnder backward_rule
unfolding computing
worked_backward =
    record {
      of_none = days_properly 0 backward_rule;
      of_one = ap length (days_properly 1 backward_rule);
      of_two = days_properly 2 backward_rule;
      of_three = ap length (days_properly 3 backward_rule);
    }

worked_forward : WorkedUnder forward_rule
unfolding computing
worked_forward =
    record {
      of_none = days_properly 0 forward_rule;
      of_one = ap length (days_properly 1 forward_rule);
      of_two = days_properly 2 forward_rule;
      of_three = ap length (days_properly 3 forward_rule);
    }

pub worked : WorkedUnder backward_rule × WorkedUnder forward_rule
worked = (worked_backward, worked_forward)
