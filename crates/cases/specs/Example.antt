-- One list worked through as a serial run: a child that commits stands at its commit, one that gives up is nowhere, though it is
-- given the same number; what was added is seen by who adds and settled at the end, where the topaction commits by leaving its
-- queue. proofs/Cases.antt computes it. Assumes nothing.
use Rattle.std.specs.Prelude.{ℕ, List, [], ◌∷◌, pos}
use Rattle.std.proofs.Math.Option.{none, some}
use Rattle.rules.specs.Card.{base_place, card_at}
use Rattle.rules.specs.Event.{Event, start_under, read_by, write_by, commit_of, abort_of, enter_of, judge_of}
use Rattle.rules.specs.Run.{run}
use Rattle.cases.specs.Case.{opening, told_in, filled_with, amount_card, adding, taking}
use Rattle.rules.specs.Serial.Told.{Told, it_began, it_read, it_wrote, it_added, it_committed, it_let_leave, it_did_nothing}
use Rattle.rules.specs.Serial.Machine.{Given, serial}

unfoldable pub example : List Event
example =
    -- 1 reads account 0, which shows the opening card, and adds 100 to account 24
    start_under 0
    ∷ read_by 1 0
    ∷ adding 1 24 100
    -- its child 2 writes account 0, takes 30 away from account 24, reads that, and commits
    ∷ start_under 1
    ∷ write_by 2 0 (filled_with 5)
    ∷ taking 2 24 30
    ∷ read_by 2 24
    ∷ commit_of 2
    -- its next child, which is given number 2 again, writes and adds too, and gives up
    ∷ start_under 1
    ∷ write_by 2 0 (filled_with 9)
    ∷ adding 2 24 9
    ∷ abort_of 2
    -- 1 reads both again, waits to be judged, and commits as it leaves its queue
    ∷ read_by 1 0
    ∷ read_by 1 24
    ∷ enter_of 1
    ∷ judge_of 1
    ∷ []

-- what the serial run is told of it, and what that is, event by event
unfoldable pub example_told : List Told
example_told = told_in (run opening example)

unfoldable pub told_expected : List Told
told_expected =
    it_began 1 ∷ it_read ∷ it_added
    ∷ it_began 2 ∷ it_wrote ∷ it_added ∷ it_read ∷ it_committed
    ∷ it_began 2 ∷ it_wrote ∷ it_added ∷ it_let_leave []
    ∷ it_read ∷ it_read ∷ it_did_nothing ∷ it_let_leave (1 ∷ [])
    ∷ []

-- what the serial run gives its reads, and the cards of accounts 0 and 24 that it leaves
pub record Serially : Type 0 where
  pub given : List Given
  pub left : List ℕ
  pub charged : List ℕ

-- by what it is told
unfoldable pub serially_told : List Told → Serially
serially_told told =
    let m = serial example told opening.base in
    record { given = m.given; left = card_at m.base (base_place 0); charged = card_at m.base (base_place 24) }

unfoldable pub example_run : Serially
example_run = serially_told example_told

-- the reads at places 1, 6, 12 and 13
unfoldable pub example_expected : Serially
example_expected =
    record {
      given =
          record { place = 1; card = filled_with 0; amount = none }
          ∷ record { place = 6; card = filled_with 0; amount = some (pos 70) }
          ∷ record { place = 12; card = filled_with 5; amount = none }
          ∷ record { place = 13; card = filled_with 0; amount = some (pos 70) }
          ∷ [];
      left = filled_with 5;
      charged = amount_card (pos 70);
    }
