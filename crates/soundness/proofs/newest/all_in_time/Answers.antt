-- `all_in_time` meets its contract: its range is that of the parents. Assumes nothing.
use native.Mathlib.Nat.{sub-zero}
use Rattle.std.proofs.Common.{rules, tests, refl, ◌∙◌}
use Rattle.rules.specs.Table.{parents}
use Rattle.rules.specs.Sound.{is_newest_in_time}
use Rattle.rules.proofs.Laws.RangeTests.{all_of_range}
use Rattle.soundness.proofs.newest.all_in_time.Goals as goal

pub returns : goal.returns
unfolding parents
returns c =
    all_of_range (is_newest_in_time c.args.table.now) c.all.ensures.ran (λ p b q called. search (rules, tests))
    ∙ rw (sub-zero, c.highest.ensures) refl
