-- RULES 1.10: the words of the verdicts that an enter settles. Assumes nothing.
use Rattle.std.specs.Prelude.{ℕ}
use Rattle.rules.specs.declared.queue.Verdict.{Verdict}
use Rattle.rules.specs.declared.queue.Verdict.TheVariants.{Good, Failed}
use Rattle.rules.specs.Queue.{good, failed}

abbrev pub verdict_word : Verdict → ℕ
verdict_word Good = good
verdict_word Failed = failed
