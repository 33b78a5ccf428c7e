-- `put_block` puts the line of one account behind that of the other. Assumes nothing.
use Prim.Native.Nat.{◌-◌}
use Rattle.rules.specs.Card.{account_count}
use Rattle.rules.specs.Tree.{balance_length, block_place, balance_words}
use Rattle.report.proofs.Words.{PutSoFar}
use Rattle.report.proofs.balance.put_block.Given as goal

abbrev pub invariant-loop-k : goal.invariant-loop-k
invariant-loop-k l = PutSoFar (balance_words l.table l.base l.opening) balance_length l.initial.report block_place l.report l.k

abbrev pub decreases-loop-k : goal.decreases-loop-k
decreases-loop-k l = account_count - l.k
