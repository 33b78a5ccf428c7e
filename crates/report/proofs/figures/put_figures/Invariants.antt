-- `put_figures` puts the figures of one account behind those of the other. Assumes nothing.
use mathlib.Core.List.{map}
use Prim.Native.Nat.{◌-◌}
use Rattle.rules.specs.Card.{account_count}
use Rattle.rules.specs.Amount.{amount_word}
use Rattle.rules.specs.Tree.{account_figures}
use Rattle.report.specs.Asked.{account_words}
use Rattle.report.proofs.Words.{PutSoFar}
use Rattle.report.proofs.figures.put_figures.Given as goal

abbrev pub invariant-loop-k : goal.invariant-loop-k
invariant-loop-k l = PutSoFar (λ k. map amount_word (account_figures l.table l.n k)) account_words l.initial.report l.from l.report l.k

abbrev pub decreases-loop-k : goal.decreases-loop-k
decreases-loop-k l = account_count - l.k
