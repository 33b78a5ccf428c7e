-- RULES 2.9: a list of events, one after the other: every answer, who committed by leaving a queue at each event, and what
-- stands at the end. Assumes nothing.
use Rattle.std.specs.Prelude.{ℕ, List, [], ◌∷◌}
use Rattle.rules.specs.declared.Answer.{Answer}
use Rattle.rules.specs.Event.{Event}
use Rattle.rules.specs.Ledger.{Ledger}
use Rattle.rules.specs.Step.{step, leavers_at}

pub record Ran : Type 0 where
  pub answers : List Answer
  pub leavers : List (List ℕ)
  pub after : Ledger

unfoldable pub run : Ledger → List Event → Ran
run s [] = record { answers = []; leavers = []; after = s }
run s (e ∷ es) =
    let one = step s e in
    let rest = run one.after es in
    record { answers = one.answer ∷ rest.answers; leavers = leavers_at s e ∷ rest.leavers; after = rest.after }
