-- RULES 15.3 and 15.6: the worked short days that are proved. Assumes nothing.
use Rattle.std.specs.Prelude.{ℕ, ◌≡◌, List, [], ◌∷◌, map, length, replicate}
use Rattle.rules.specs.Card.{card_length}
use Rattle.rules.specs.Event.{Event, event_of}
use Rattle.enumeration.specs.Lists.{short_days}

-- an event with a card of one byte's value
abbrev tried : ℕ → ℕ → ℕ → Event
tried code number filled = event_of code number 0 (replicate card_length filled)

-- those of two events, all of which begin with the start of a topaction
abbrev pub days_of_two : List (List Event)
days_of_two =
    map (λ e. tried 1 0 0 ∷ e ∷ [])
    (tried 1 0 0 ∷ tried 1 1 0 ∷ tried 2 1 0 ∷ tried 3 1 2 ∷ tried 4 1 0 ∷ tried 5 1 0 ∷ [])

-- the short days of up to two events, and how many have three
pub record WorkedUnder (rule : ℕ) : Type 0 where
  pub of_none : short_days 0 rule ≡ [] ∷ []
  pub of_one : length (short_days 1 rule) ≡ 1
  pub of_two : short_days 2 rule ≡ days_of_two
  pub of_three : length (short_days 3 rule) ≡ 33
