-- `has_no_newest` meets its contract: whether the words of all accounts are 0 is whether those before `k`, the account at the
-- loop's head, joined and all from `k` on are. Assumes nothing.
use mathlib.Core.Path.{sym, ◌∙◌}
use Rattle.rules.specs.Card.{accounts}
use Rattle.rows.proofs.JoinedWords.{none_all, none_next, none_done}
use Rattle.rows.proofs.times.ends.has_no_newest.Goals as goal

pub loop-k-init : goal.loop-k-init
unfolding accounts
loop-k-init c = none_all _ 0

pub loop-k-preserved : goal.loop-k-preserved
loop-k-preserved c =
    let loop = c.loop-k in
    loop.invariant
    ∙ none_next _ loop.k loop.joined c.loop-k-test.true
    ∙ rw c.newest-joined.ensures

pub returns : goal.returns
returns c = sym (c.loop-k.invariant ∙ none_done _ _ _ c.loop-k-test.false)
