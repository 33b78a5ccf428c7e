-- `are_newest` meets its contract: whether the words of all accounts are the same is whether what differs before `k`, the account
-- at the loop's head, joined and what differs from `k` on is 0. Assumes nothing.
use native.Mathlib.Omega.{arith}
use mathlib.Core.Path.{sym, ◌∙◌}
use lib.ListN.{get_or}
use Rattle.rules.specs.Card.{accounts}
use Rattle.rules.specs.Table.{newest}
use Rattle.rows.proofs.JoinedWords.{same_all, none_next, none_done}
use Rattle.rows.proofs.times.ends.are_newest.Goals as goal

pub loop-k-init : goal.loop-k-init
unfolding accounts
loop-k-init c = same_all (newest _ _) (λ k. get_or c.args.ends.now k 0) 0

pub loop-k-preserved : goal.loop-k-preserved
loop-k-preserved c =
    c.loop-k.invariant
    ∙ none_next _ c.loop-k.k c.loop-k.joined (omega arith)
    ∙ rw c.newest.ensures

pub returns : goal.returns
returns c = sym (c.loop-k.invariant ∙ none_done _ _ _ (omega arith))
