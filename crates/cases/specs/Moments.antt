-- RULES 13, moments: what a parent holds between two turns of a commit (RULES 4.8). proofs/Cases.antt proves both by one theorem.
-- Assumes nothing.
use Rattle.std.specs.Prelude.{ℕ, List, [], ◌∷◌, ◌++◌, map, ℤ, pos}
use Rattle.rules.specs.Card.{account_count}
use Rattle.rules.specs.Event.{Event, start_under, write_by, commit_of, add_by}
use Rattle.rules.specs.Ledger.{Ledger}
use Rattle.rules.specs.Held.{held_card, held_sum}
use Rattle.rules.specs.Commit.{copied_down}
use Rattle.rules.specs.Run.{run}
use Rattle.cases.specs.Case.{opening, filled_with, amount_card}

-- a commit to look into: the events before it, who commits, and under whom
pub record Watched : Type 0 where
  pub events : List Event
  pub action : ℕ
  pub parent : ℕ

-- the first account, the last below the charge accounts, and the last of all
abbrev first : ℕ
first = 0

abbrev last_plain : ℕ
last_plain = 23

abbrev last : ℕ
last = 31

-- what a parent holds for them
pub record Holding : Type 0 where
  pub last_sum : ℤ
  pub last_plain_card : List ℕ
  pub first_card : List ℕ

abbrev holds : Ledger → ℕ → Holding
holds s p =
    record {
      last_sum = held_sum s.table s.base p last;
      last_plain_card = held_card s.base s.shadow p last_plain;
      first_card = held_card s.base s.shadow p first;
    }

-- before the first turn, after the turns down to 24, to 1 and to 0, and after the commit, of the ledger that the events have left
unfoldable pub moments_from : Watched → Ledger → List Holding
moments_from c s =
    map (λ k. holds (copied_down s c.action c.parent k) c.parent) (account_count ∷ 24 ∷ 1 ∷ 0 ∷ [])
    ++ holds (run s (commit_of c.action ∷ [])).after c.parent ∷ []

unfoldable pub moments : Watched → List Holding
moments c = moments_from c (run opening c.events).after

abbrev holding : ℤ → ℕ → ℕ → Holding
holding sum upper lower = record { last_sum = sum; last_plain_card = filled_with upper; first_card = filled_with lower }

-- moment 1, a topaction's commit, and moment 2, a subaction's, whose parent has a card and a sum of its own
abbrev to_store : Watched
to_store =
    record {
      events =
          start_under 0 ∷ write_by 1 first (filled_with 1) ∷ write_by 1 last_plain (filled_with 2)
          ∷ add_by 1 last (amount_card (pos 5)) ∷ [];
      action = 1;
      parent = 0;
    }

abbrev to_action : Watched
to_action =
    record {
      events =
          start_under 0 ∷ write_by 1 first (filled_with 9) ∷ add_by 1 last (amount_card (pos 7)) ∷ start_under 1
          ∷ write_by 2 first (filled_with 1) ∷ write_by 2 last_plain (filled_with 2) ∷ add_by 2 last (amount_card (pos 5)) ∷ [];
      action = 2;
      parent = 1;
    }

abbrev pub watched : List Watched
watched = to_store ∷ to_action ∷ []

abbrev pub moments_expected : List (List Holding)
moments_expected =
    (holding (pos 0) 0 0 ∷ holding (pos 5) 0 0 ∷ holding (pos 5) 2 0 ∷ holding (pos 5) 2 1 ∷ holding (pos 5) 2 1 ∷ [])
    ∷ (holding (pos 7) 0 9 ∷ holding (pos 12) 0 9 ∷ holding (pos 12) 2 9 ∷ holding (pos 12) 2 1 ∷ holding (pos 12) 2 1 ∷ [])
    ∷ []
