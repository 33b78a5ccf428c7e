-- `has_end_alone` meets its contract: its range is that of the lower actions. Assumes nothing.
use Rattle.std.proofs.Common.{rules, tests, sym, not, ◌∙◌}
use Rattle.rules.specs.Sound.{shares_end_time, has_end_alone}
use Rattle.rules.proofs.Laws.RangeTests.{all_of_range}
use Rattle.soundness.proofs.times.has_end_alone.Goals as goal

pub returns-else-not-ends_under_another : goal.returns-else-not-ends_under_another
unfolding has_end_alone
returns-else-not-ends_under_another c =
    rw (sym c.ends_under_another.ensures ∙ c.if-not-ends_under_another.false)
    (all_of_range (λ m. not (shares_end_time c.args.table.now c.args.n m)) c.all.ensures.ran (λ m b q called. search (rules, tests)))
