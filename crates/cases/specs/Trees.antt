-- RULES 13: the trees that are worked through: an empty day, a day of two runs and a batch that gave up, a run that gave up with
-- all below it, and three in which a number is given again: to a batch after another, to a run after one that has a batch held,
-- and to a batch after a run. Assumes nothing.
use Rattle.std.specs.Prelude.{ℕ, List, [], ◌∷◌, ◌++◌, map, ℤ, pos, neg_ℤ, replicate}
use Rattle.rules.specs.Card.{base_length, shadow_length, base_place, with_card, charge_accounts}
use Rattle.rules.specs.Table.{backward_rule, live, committed, aborted, state_of}
use Rattle.rules.specs.Event.{Event, start_under, commit_of, abort_of}
use Rattle.rules.specs.Ledger.{Ledger}
use Rattle.rules.specs.Run.{run}
use Rattle.rules.specs.Serial.Demand.{new_over}
use Rattle.rules.specs.Tree.{Line, tree_lines, figures_of, balance_of, tree_cause}
use Rattle.cases.specs.Case.{amount_card, adding, taking}

-- a line: how deep the action lies, its number, its state, and its figures
pub record Row : Type 0 where
  pub depth : ℕ
  pub number : ℕ
  pub state : ℕ
  pub figures : List ℤ

abbrev row : ℕ → ℕ → ℕ → List ℤ → Row
row depth number state figures = record { depth = depth; number = number; state = state; figures = figures }

abbrev row_of : List ℕ → Line → Row
row_of w line = row line.depth line.number (state_of w line.number) (figures_of w line.number)

-- a tree: its cause, its lines, and what the last block says of each charge account
pub record Tree : Type 0 where
  pub cause : ℕ
  pub rows : List Row
  pub balances : List (List ℤ)

abbrev tree : List Row → List (List ℤ) → Tree
tree rows balances = record { cause = 0; rows = rows; balances = balances }

-- accounts 24 and 31 open at 1,000 and -5, all else is 0
abbrev opening : List ℕ
opening =
    with_card (with_card (replicate base_length 0) (base_place 24) (amount_card (pos 1000))) (base_place 31) (amount_card (neg_ℤ (pos 5)))

-- a new table under rule 1 over that opening store
abbrev pub tree_opening : Ledger
tree_opening = new_over backward_rule opening (replicate shadow_length 0)

-- the tree of a ledger, with that opening store
unfoldable pub tree_from : Ledger → Tree
tree_from s =
    record {
      cause = tree_cause s.table s.base s.shadow opening;
      rows = map (row_of s.table) (tree_lines s.table);
      balances = map (balance_of s.table s.base opening) charge_accounts;
    }

-- .. of the one that these events leave
unfoldable pub tree_after : List Event → Tree
tree_after es = tree_from (run tree_opening es).after

-- so many figures that are 0, and so many accounts that opened with 0 and got nothing
abbrev none : ℕ → List ℤ
none n = replicate n (pos 0)

abbrev untouched : ℕ → List (List ℤ)
untouched n = replicate n (none 3)

-- the last block where no account changes
abbrev unchanged : List (List ℤ)
unchanged = (pos 1000 ∷ pos 0 ∷ pos 1000 ∷ []) ∷ untouched 6 ++ (neg_ℤ (pos 5) ∷ pos 0 ∷ neg_ℤ (pos 5) ∷ []) ∷ []

-- the events of each, and the trees that they give
unfoldable pub tree_events : List (List Event)
tree_events =
    []
    ∷ (start_under 0 ∷ start_under 0 ∷ start_under 0 ∷ adding 1 24 500 ∷ start_under 1 ∷ start_under 1 ∷ adding 2 25 9 ∷ start_under 2
    ∷ taking 4 24 200 ∷ adding 4 31 7 ∷ commit_of 4 ∷ adding 5 24 40 ∷ abort_of 5 ∷ commit_of 1
    ∷ taking 6 25 2 ∷ commit_of 6 ∷ commit_of 3 ∷ [])
    ∷ (start_under 0 ∷ adding 1 24 5 ∷ start_under 1 ∷ adding 2 24 7 ∷ start_under 2 ∷ adding 3 25 1 ∷ abort_of 1 ∷ commit_of 2 ∷ [])
    ∷ (start_under 0 ∷ start_under 1 ∷ adding 2 24 5 ∷ commit_of 2 ∷ start_under 1 ∷ adding 2 25 7 ∷ [])
    ∷ (start_under 0 ∷ start_under 1 ∷ start_under 1 ∷ adding 3 24 5 ∷ commit_of 3 ∷ abort_of 1 ∷ start_under 0 ∷ [])
    ∷ (start_under 0 ∷ start_under 0 ∷ adding 1 24 5 ∷ commit_of 1 ∷ abort_of 2 ∷ start_under 0 ∷ start_under 1 ∷ adding 2 24 2 ∷ [])
    ∷ []

unfoldable pub trees_expected : List Tree
trees_expected =
    tree [] unchanged
    ∷ tree
    (row 0 1 committed (pos 500 ∷ pos 300 ∷ none 13 ++ pos 7 ∷ [])
    ∷ row 1 4 committed (neg_ℤ (pos 200) ∷ neg_ℤ (pos 200) ∷ none 12 ++ pos 7 ∷ pos 7 ∷ [])
    ∷ row 1 5 aborted (pos 40 ∷ pos 40 ∷ none 14)
    ∷ row 0 2 live (pos 0 ∷ pos 0 ∷ pos 9 ∷ pos 7 ∷ none 12)
    ∷ row 1 6 committed (pos 0 ∷ pos 0 ∷ neg_ℤ (pos 2) ∷ neg_ℤ (pos 2) ∷ none 12)
    ∷ row 0 3 committed (none 16) ∷ [])
    ((pos 1000 ∷ pos 300 ∷ pos 1300 ∷ []) ∷ untouched 6 ++ (neg_ℤ (pos 5) ∷ pos 7 ∷ pos 2 ∷ []) ∷ [])
    ∷ tree
    (row 0 1 aborted (pos 5 ∷ pos 5 ∷ none 14)
    ∷ row 1 2 aborted (pos 7 ∷ pos 7 ∷ none 14)
    ∷ row 2 3 aborted (pos 0 ∷ pos 0 ∷ pos 1 ∷ pos 1 ∷ none 12) ∷ [])
    unchanged
    ∷ tree (row 0 1 live (pos 0 ∷ pos 5 ∷ none 14) ∷ row 1 2 live (pos 0 ∷ pos 0 ∷ pos 7 ∷ pos 7 ∷ none 12) ∷ []) unchanged
    ∷ tree (row 0 1 live (none 16) ∷ []) unchanged
    ∷ tree
    (row 0 1 live (none 16) ∷ row 1 2 live (pos 2 ∷ pos 2 ∷ none 14) ∷ [])
    ((pos 1000 ∷ pos 5 ∷ pos 1005 ∷ []) ∷ untouched 6 ++ (neg_ℤ (pos 5) ∷ pos 0 ∷ neg_ℤ (pos 5) ∷ []) ∷ [])
    ∷ []
