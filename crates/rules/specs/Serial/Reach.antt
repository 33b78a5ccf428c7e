-- RULES 6.3: R, from S and what is told of its events alone, without blocks. An action's number is followed on through S: where it commits
-- its parent is followed from there, and it is in R where the end of S is reached at the store. Starts.antt has R in the words
-- of the rule; proofs/Demand/WhoIsInR.antt shows that the two are the same. Assumes nothing.
use Rattle.std.specs.Prelude.{ℕ, suc, Bool, true, false, cond, ◌&&◌, List, [], ◌∷◌, ◌++◌, ltb, eqb}
use Rattle.std.proofs.Math.Option.{Option, none, some}
use Rattle.rules.specs.Amount.{amount_in}
use Rattle.rules.specs.Event.{Event}
use Rattle.rules.specs.Serial.Effect.{Effect, puts, adds}
use Rattle.rules.specs.Serial.Block.{Block, empty, read, write, child}
use Rattle.rules.specs.Serial.Told.{Told, it_began, it_read, it_wrote, it_added, it_committed, it_let_leave, it_did_nothing}
use Rattle.rules.specs.Serial.Collect.{put, commits_at}
use Rattle.rules.specs.Serial.Schedule.{Operation, begins, reads, writes, ends}

-- the parents, after an event
unfoldable pub parents_after : Event → Told → (ℕ → ℕ) → ℕ → ℕ
parents_after e (it_began n) parent = put parent n e.number
parents_after e it_read parent = parent
parents_after e it_wrote parent = parent
parents_after e it_added parent = parent
parents_after e it_committed parent = parent
parents_after e (it_let_leave leavers) parent = parent
parents_after e it_did_nothing parent = parent

-- number n is given to a new action
unfoldable pub is_given_to : Told → ℕ → Bool
is_given_to (it_began m) n = eqb n m
is_given_to it_read n = false
is_given_to it_wrote n = false
is_given_to it_added n = false
is_given_to it_committed n = false
is_given_to (it_let_leave leavers) n = false
is_given_to it_did_nothing n = false

-- the number to follow after those have committed who commit at an event
unfoldable pub moved_up : (ℕ → ℕ) → List ℕ → ℕ → ℕ
moved_up parent [] n = n
moved_up parent (c ∷ cs) n = moved_up parent cs (cond (eqb n c) (parent n) n)

-- action n, or 0 for the store, followed through what is left of S: is the end reached at the store? An action whose number
-- is given to another before that is not in R
unfoldable pub reaches_store : (ℕ → ℕ) → List Event → List Told → ℕ → Bool
reaches_store parent [] its n = eqb n 0
reaches_store parent (e ∷ es) [] n = eqb n 0
reaches_store parent (e ∷ es) (it ∷ its) n =
    let now = parents_after e it parent in
    let later = reaches_store now es its (moved_up now (commits_at e it) n) in
    cond (is_given_to it n) false later

-- a read, a write or an add: its place in S, whose it is, its account, and what it does there
pub record Act : Type 0 where
  pub place : ℕ
  pub who : ℕ
  pub account : ℕ
  -- none for a read
  pub effect : Option Effect

-- an event's read, write or add, where one took place
unfoldable pub act_of : ℕ → Event → Told → List Act
act_of i e it_read = record { place = i; who = e.number; account = e.account; effect = none } ∷ []
act_of i e it_wrote = record { place = i; who = e.number; account = e.account; effect = some (puts e.card) } ∷ []
act_of i e it_added = record { place = i; who = e.number; account = e.account; effect = some (adds (amount_in e.card)) } ∷ []
act_of i e (it_began n) = []
act_of i e it_committed = []
act_of i e (it_let_leave leavers) = []
act_of i e it_did_nothing = []

-- every read, write and add of the actions in R, in the order of S, from place i on
unfoldable pub acts_of_r : ℕ → (ℕ → ℕ) → List Event → List Told → List Act
acts_of_r i parent [] its = []
acts_of_r i parent (e ∷ es) [] = []
acts_of_r i parent (e ∷ es) (it ∷ its) =
    let now = parents_after e it parent in
    let later = acts_of_r (suc i) now es its in
    cond (reaches_store now es its e.number) (act_of i e it ++ later) later

-- the innermost of the actions under way, 0 where there is none, and those round it
abbrev pub innermost : List ℕ → ℕ
innermost [] = 0
innermost (n ∷ round) = n

abbrev pub round_it : List ℕ → List ℕ
round_it [] = []
round_it (n ∷ round) = round

-- the reads, writes and adds among operations; the actions under way say whose each one is
unfoldable pub acts_in : List ℕ → List (Operation Effect) → List Act
acts_in under [] = []
acts_in under (begins who ∷ xs) = acts_in (who ∷ under) xs
acts_in under (reads i k ∷ xs) = record { place = i; who = innermost under; account = k; effect = none } ∷ acts_in under xs
acts_in under (writes i k f ∷ xs) = record { place = i; who = innermost under; account = k; effect = some f } ∷ acts_in under xs
acts_in under (ends ∷ xs) = acts_in (round_it under) xs

-- those of one place
unfoldable pub at_place : ℕ → List Act → List Act
at_place i [] = []
at_place i (x ∷ xs) = let later = at_place i xs in cond (eqb x.place i) (x ∷ later) later

-- The operations of a block stand in the order of S: what the action did itself before place t, its children's commits before
-- place u, and each child's operations before its commit. Children may commit at one event, so several commits may stand at one
-- place.
unfoldable pub in_order : {E : Type 0} → ℕ → ℕ → Block E → Bool
in_order t u empty = true
in_order t u (read b i k) = ltb i t && in_order i i b
in_order t u (write b i k f) = ltb i t && in_order i i b
in_order t u (child b i who d) = ltb i u && in_order i (suc i) b && in_order i (suc i) d
