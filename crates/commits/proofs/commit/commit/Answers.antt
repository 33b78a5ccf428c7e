-- `commit` leaves and answers what `judged` says of what was found against it, or of nothing, or it refuses where there is nothing
-- and a sum is outside. Assumes nothing.
use mathlib.Core.Path.{sym, ◌∙◌}
use Rattle.rules.specs.Cause.{is_commit_outside}
use Rattle.rules.specs.Step.{commit, judged}
use Rattle.commits.proofs.commit.commit.Goals as goal

pub pass-time-requires-clause-sound : goal.pass-time-requires-clause-sound
pass-time-requires-clause-sound c = c.requires.sound

pub pass-time-requires-clause-live_action : goal.pass-time-requires-clause-live_action
pass-time-requires-clause-live_action c = c.requires.live_action

pub pass-time-requires-clause-stores_fit : goal.pass-time-requires-clause-stores_fit
pass-time-requires-clause-stores_fit c = c.requires.stores_fit

pub pass-time-requires-clause-n_value : goal.pass-time-requires-clause-n_value
pass-time-requires-clause-n_value c = sym c.is_outside.ensures ∙ c.if-is_outside.false

pub returns-then-is_outside : goal.returns-then-is_outside
returns-then-is_outside c =
    rw (← c.commit_verdict.ensures, c.in-None.is, sym c.is_outside.ensures ∙ c.if-is_outside.true)

pub returns-else-is_outside : goal.returns-else-is_outside
unfolding commit judged
returns-else-is_outside c =
    rw (← c.commit_verdict.ensures, c.in-None.is, sym c.is_outside.ensures ∙ c.if-is_outside.false)
    (rw (c.pass-time.ensures.time, c.pass-time.ensures.leaves))

pub returns-in-Some : goal.returns-in-Some
unfolding commit judged is_commit_outside
returns-in-Some c = rw (← c.commit_verdict.ensures, c.in-Some.is, c.set_state.ensures)
