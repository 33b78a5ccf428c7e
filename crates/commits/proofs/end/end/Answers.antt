-- `end` puts the state, the end time and the counter of the action's kind, in the order of `end_table`. Assumes nothing.
use native.Mathlib.Omega.{arith}
use mathlib.Core.Path.{sym, ap, ◌∙◌}
use borrow.Author.Rules.{rules}
use Rattle.rules.specs.Kind.{kind_under}
use Rattle.rules.specs.Table.{committed, parent_field, state_field}
use Rattle.rules.specs.Commit.{commit_time, commit_counter}
use Rattle.rules.proofs.Laws.Words.{word_other_field}
use Rattle.commits.proofs.end.end.Goals as goal

pub end_time_after-time-requires : goal.end_time_after-time-requires
end_time_after-time-requires c =
    rw (c.counter-count.ensures.number, c.kind_of.ensures) c.requires.can_count

pub counter_after-next-requires : goal.counter_after-next-requires
counter_after-next-requires c =
    rw (c.counter-count.ensures.number, c.kind_of.ensures) c.requires.can_count

-- the state that was put leaves the parent, so the end time is still of the action's kind
pub set_end-requires : goal.set_end-requires
set_end-requires c =
    let same = word_other_field c.args.table.now c.args.n state_field parent_field committed (λ z. omega arith) in record {
      has_row = search rules;
      of_kind_of = c.end_time_after-time.ensures.kind
          ∙ c.counter-count.ensures.kind
          ∙ c.kind_of.ensures
          ∙ rw c.set_state.ensures (ap kind_under (sym same));
    }

pub returns : goal.returns
unfolding commit_time commit_counter
returns c =
    record {
      time = rw (
        c.from.ensures,
        c.end_time_after-time.ensures.number,
        c.has_writes-writes.ensures,
        c.counter-count.ensures.number,
        c.kind_of.ensures,
      );
      leaves = rw (
        c.set_counter.ensures,
        c.set_end.ensures,
        c.set_state.ensures,
        c.counter_after-next.ensures.kind,
        c.counter_after-next.ensures.number,
        c.end_time_after-time.ensures.number,
        c.has_writes-writes.ensures,
        c.counter-count.ensures.kind,
        c.counter-count.ensures.number,
        c.kind_of.ensures,
      );
    }
