-- The reads and writes of a block, taken from the block itself: the block's steps hold just these. Also those that stand
-- at one place of S. An add is a write whose effect is a sum. Assumes nothing.
use Prim.Native.Nat.{ℕ}
use mathlib.Core.Path.{◌≡◌, refl, ◌∙◌}
use mathlib.Core.Logic.{◌≢◌}
use mathlib.Core.Bool.{Bool, true, false, cond}
use mathlib.Core.Option.{Option, none, some}
use mathlib.Core.List.{List, [], ◌∷◌, ◌++◌, append-nil, append_assoc}
use lib.Dec.{eqb}
use borrow.Author.Tests.{eq-eqb, ne_eqb}
use Rattle.rules.specs.Amount.{amount_in}
use Rattle.rules.specs.Event.{Event}
use Rattle.rules.specs.Serial.Effect.{Effect, puts, adds}
use Rattle.rules.specs.Serial.Block.{Block, empty, read, write, child}
use Rattle.rules.specs.Serial.Told.{Told, it_began, it_read, it_wrote, it_added, it_committed, it_let_leave, it_did_nothing}
use Rattle.rules.specs.Serial.Schedule.{Operation, begins, reads, writes, ends, schedule_of}
use Rattle.rules.specs.Serial.Reach.{Act, act_of, innermost, acts_in, at_place}

-- the reads and writes in the block of number n, each with whose it is: n's own, and in a child's block the child's
unfoldable pub acts_of : ℕ → Block Effect → List Act
acts_of n empty = []
acts_of n (read b i k) = acts_of n b ++ (record { place = i; who = n; account = k; effect = none } ∷ [])
acts_of n (write b i k f) = acts_of n b ++ (record { place = i; who = n; account = k; effect = some f } ∷ [])
acts_of n (child b i who d) = acts_of n b ++ acts_of who d

-- A child's end takes off what its beginning has put on, so the steps after a block are read with the same actions under
-- way as the block itself.
steps_acts :
    (under : List ℕ) (b : Block Effect) (rest : List (Operation Effect)) →
    acts_in under (schedule_of b ++ rest) ≡ acts_of (innermost under) b ++ acts_in under rest
unfolding schedule_of acts_of acts_in
steps_acts under empty rest = refl
steps_acts under (read b i k) rest =
    rw (append_assoc (schedule_of b), steps_acts under b (reads i k ∷ rest), append_assoc)
steps_acts under (write b i k f) rest =
    rw (append_assoc (schedule_of b), steps_acts under b (writes i k f ∷ rest), append_assoc)
steps_acts under (child b i who d) rest =
    rw (append_assoc (schedule_of b), steps_acts under b (begins who ∷ ((schedule_of d ++ (ends ∷ [])) ++ rest)))
    (rw (append_assoc (schedule_of d), steps_acts (who ∷ under) d (ends ∷ rest), append_assoc))

pub store_steps_acts : (b : Block Effect) → acts_in [] (schedule_of b) ≡ acts_of 0 b
unfolding acts_in
store_steps_acts b = rw (← (append-nil (schedule_of b)), steps_acts [] b [], append-nil)

-- ---- those of one place

pub at_place_append : (i : ℕ) (xs ys : List Act) → at_place i (xs ++ ys) ≡ at_place i xs ++ at_place i ys
unfolding at_place
at_place_append i [] ys = refl
at_place_append i (x ∷ xs) ys = rw (at_place_append i xs ys) (cases (eqb x.place i) (at_place i xs) (at_place i ys))
  where
    cases : (b : Bool) (l m : List Act) → cond b (x ∷ (l ++ m)) (l ++ m) ≡ cond b (x ∷ l) l ++ m
    cases true l m = refl
    cases false l m = refl

module _ (i : ℕ) (xs ys : List Act) where
  pub none_before : at_place i xs ≡ [] → at_place i (xs ++ ys) ≡ at_place i ys
  none_before before = at_place_append i xs ys ∙ rw before

  pub none_behind : at_place i ys ≡ [] → at_place i (xs ++ ys) ≡ at_place i xs
  none_behind behind = at_place_append i xs ys ∙ rw behind (append-nil (at_place i xs))

-- ---- an event's own read or write

-- it stands at the event's place, if there is one
act_cases :
    (P : List Act → Type 0) (j : ℕ) (e : Event) (it : Told) → P [] →
    ((f : Option Effect) → P (record { place = j; who = e.number; account = e.account; effect = f } ∷ [])) →
    P (act_of j e it)
unfolding act_of
act_cases P j e it_read no_act act = act none
act_cases P j e it_wrote no_act act = act (some (puts e.card))
act_cases P j e it_added no_act act = act (some (adds (amount_in e.card)))
act_cases P j e (it_began n) no_act act = no_act
act_cases P j e it_committed no_act act = no_act
act_cases P j e (it_let_leave leavers) no_act act = no_act
act_cases P j e it_did_nothing no_act act = no_act

pub act_there : (i : ℕ) (e : Event) (it : Told) → at_place i (act_of i e it) ≡ act_of i e it
unfolding at_place
act_there i e it = act_cases (λ l. at_place i l ≡ l) i e it refl (λ f. rw (eq-eqb i i refl))

pub act_elsewhere : (i j : ℕ) (e : Event) (it : Told) → j ≢ i → at_place i (act_of j e it) ≡ []
unfolding at_place
act_elsewhere i j e it j≢i = act_cases (λ l. at_place i l ≡ []) j e it refl (λ f. rw (ne_eqb j i j≢i))
