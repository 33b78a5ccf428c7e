-- `known_cause` meets its contract: each exit gives the first cause that applies. Of a start, and of any other event of a live action,
-- the causes that are left are asked by a function of their own. Assumes nothing.
use native.Mathlib.Omega.{arith}
use mathlib.Core.Path.{sym, ◌∙◌}
use Rattle.causes.proofs.Grouped.{causes_of_start, causes_of_kind}
use Rattle.causes.proofs.cause.known_cause.Goals as goal

pub returns-in-Start : goal.returns-in-Start
returns-in-Start c = c.start_cause.ensures ∙ sym (causes_of_start _ _ _ c.requires.code (omega arith) c.in-Start.is)

pub returns-in_default-3 : goal.returns-in_default-3
returns-in_default-3 c =
    c.kind_cause.ensures
    ∙ sym (causes_of_kind _ _ _ c.requires.code (omega arith) c.in_default-3.not-Start
    (sym c.is_misfit.ensures ∙ c.if-is_misfit.false) c.if-event-eq-STORE.false
    (sym c.is_live.ensures ∙ c.if-not-is_live.false))
