-- `are_newest` meets its contract: whether the words of all accounts are the same is whether what differs before `k`, the account
-- at the loop's head, joined and what differs from `k` on is 0. Assumes nothing.
use Prim.Native.Nat.{◌-◌}
use mathlib.Core.Path.{◌≡◌}
use lib.Bits.{bit_xor}
use lib.Dec.{eqb}
use lib.ListN.{get_or}
use Rattle.rules.specs.Range.{all}
use Rattle.rules.specs.Card.{account_count, accounts}
use Rattle.rules.specs.Table.{newest}
use Rattle.rows.proofs.JoinedWords.{none_from}
use Rattle.rows.proofs.times.ends.are_newest.Given as goal

abbrev pub invariant-loop-k : goal.invariant-loop-k
invariant-loop-k l =
    all (λ k. eqb (newest l.table l.p k) (get_or l.ends k 0)) accounts ≡ none_from (λ k. bit_xor (newest l.table l.p k) (get_or l.ends k 0)) l.k l.joined

abbrev pub decreases-loop-k : goal.decreases-loop-k
decreases-loop-k l = account_count - l.k
