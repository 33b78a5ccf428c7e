-- `all_rising` meets its contract: each call of the closure tests its entry. Assumes nothing.
use Rattle.std.proofs.Common.{rules, tests, ◌∙◌}
use native.Mathlib.Nat.{sub-zero}
use Rattle.rules.proofs.Laws.RangeTests.{all_of_range}
use Rattle.dayread.specs.File.{is_rising}
use Rattle.dayread.proofs.file.all_rising.Goals as goal

pub returns : goal.returns
returns c = all_of_range (is_rising c.args.file.now) c.all.ensures.ran (λ x b q called. search (rules, tests)) ∙ rw sub-zero
