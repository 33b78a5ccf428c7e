-- The steps of the serial run hold at each place of S just the read or write of an action in R that took place there,
-- whatever the events and what is told of them. Assumes nothing.
use Prim.Native.Nat.{ℕ, suc, ◌≤◌, ◌<◌}
use native.Mathlib.Omega.{arith}
use native.Mathlib.Decide.{ℕ_discrete}
use mathlib.Core.Path.{◌≡◌, refl, sym, ◌∙◌}
use mathlib.Core.Logic.{◌≢◌}
use mathlib.Core.Bool.{Bool, true, false, cond}
use mathlib.Core.List.{List, [], ◌∷◌, ◌++◌}
use lib.Dec.{eqb}
use borrow.Author.Tests.{eqb-true, eqb-false}
use Rattle.rules.specs.Event.{Event}
use Rattle.rules.specs.Serial.Effect.{Effect}
use Rattle.rules.specs.Serial.Block.{Block}
use Rattle.rules.specs.Serial.Told.{Told}
use Rattle.rules.specs.Serial.Collect.{Known, commits_at, collect_from, unknown, store_block}
use Rattle.rules.specs.Serial.Schedule.{schedule_of}
use Rattle.rules.specs.Serial.Reach.{moved_up, parents_after, is_given_to, reaches_store, Act, act_of, acts_of_r, acts_in, at_place}
use Rattle.rules.proofs.Laws.Tests.{cond_holds}
use Rattle.rules.proofs.Serial.Acts.{store_steps_acts, none_before, none_behind, act_there, act_elsewhere}
use Rattle.rules.proofs.Serial.Held.{held_at, Held, none_at_first, none_held, known_after, parents_after_are, held_after, none_after, own_held_after}

-- after S the store's block has what is held, if it is the holder
store_holds :
    {i h : ℕ} {l : List Act} {blocks : ℕ → Block Effect} → Held i blocks h l → held_at i blocks 0 ≡ cond (eqb h 0) l []
store_holds {i} {h} {l} {blocks} held =
    cond_holds (λ now. held_at i blocks 0 ≡ now) (eqb h 0)
    (λ same. rw (eqb-true h 0 same) at held.there)
    (λ differs. held.elsewhere 0 (λ 0≡h. eqb-false h 0 differs (sym 0≡h)))

-- what is lost reaches the store no more than a number that is given away
lost_or_followed :
    (given reaches : Bool) (l : List Act) → cond reaches (cond given [] l) [] ≡ cond (cond given false reaches) l []
lost_or_followed true true l = refl
lost_or_followed true false l = refl
lost_or_followed false reaches l = refl

-- the place that is looked at
module _ (i : ℕ) where
  -- What is held of a past place comes to stand in the store's block just where its holder reaches the store.
  held_to_end :
      {h : ℕ} {l : List Act} (j : ℕ) (es : List Event) (its : List Told) (c : Known) → i < j → Held i c.block h l →
      held_at i (collect_from j es its c).block 0 ≡ cond (reaches_store c.parent es its h) l []
  unfolding collect_from reaches_store
  held_to_end j [] its c i<j held = store_holds held
  held_to_end j (e ∷ es) [] c i<j held = store_holds held
  held_to_end {h = h} {l = l} j (e ∷ es) (it ∷ its) c i<j held =
      held_to_end {h = moved_up (parents_after e it c.parent) (commits_at e it) h} (suc j) es its (known_after j e it c) (omega arith)
      (held_after j e it c (act_elsewhere i j e it (λ j≡i. omega arith)) held)
      ∙ rw (parents_after_are j e it c) (lost_or_followed (is_given_to it h) _ l)

  -- ---- what R does at place i

  other_place_adds_none :
      (j : ℕ) (parent : ℕ → ℕ) (e : Event) (es : List Event) (it : Told) (its : List Told) → j ≢ i →
      at_place i (acts_of_r j parent (e ∷ es) (it ∷ its)) ≡ at_place i (acts_of_r (suc j) (parents_after e it parent) es its)
  unfolding acts_of_r
  other_place_adds_none j parent e es it its j≢i =
      let later = acts_of_r (suc j) (parents_after e it parent) es its in
      cond_holds (λ now. at_place i now ≡ at_place i later) (reaches_store (parents_after e it parent) es its e.number)
      (λ _. none_before i (act_of j e it) later (act_elsewhere i j e it j≢i))
      (λ _. refl)

  none_at_past_place :
      (j : ℕ) (parent : ℕ → ℕ) (es : List Event) (its : List Told) → i < j →
      at_place i (acts_of_r j parent es its) ≡ []
  unfolding acts_of_r at_place
  none_at_past_place j parent [] its i<j = refl
  none_at_past_place j parent (e ∷ es) [] i<j = refl
  none_at_past_place j parent (e ∷ es) (it ∷ its) i<j =
      other_place_adds_none j parent e es it its (λ j≡i. omega arith)
      ∙ none_at_past_place (suc j) (parents_after e it parent) es its (omega arith)

  own_alone_at_place :
      (parent : ℕ → ℕ) (e : Event) (es : List Event) (it : Told) (its : List Told) →
      at_place i (acts_of_r i parent (e ∷ es) (it ∷ its))
      ≡ cond (reaches_store (parents_after e it parent) es its e.number) (act_of i e it) []
  unfolding acts_of_r
  own_alone_at_place parent e es it its = cases (reaches_store (parents_after e it parent) es its e.number)
    where
      later : List Act
      later = acts_of_r (suc i) (parents_after e it parent) es its

      none_later : at_place i later ≡ []
      none_later = none_at_past_place (suc i) (parents_after e it parent) es its (omega arith)

      cases : (reaches : Bool) → at_place i (cond reaches (act_of i e it ++ later) later) ≡ cond reaches (act_of i e it) []
      cases true = none_behind i (act_of i e it) later none_later ∙ act_there i e it
      cases false = none_later

  -- ---- the two agree, from any place up to i on, where nothing is held of place i yet

  abbrev ExactFrom : ℕ → List Event → List Told → Known → Type 0
  ExactFrom j es its c = held_at i (collect_from j es its c).block 0 ≡ at_place i (acts_of_r j c.parent es its)

  exact_before :
      (j : ℕ) (e : Event) (es : List Event) (it : Told) (its : List Told) (c : Known) → j ≢ i →
      ExactFrom (suc j) es its (known_after j e it c) → ExactFrom j (e ∷ es) (it ∷ its) c
  unfolding collect_from
  exact_before j e es it its c j≢i later =
      later ∙ rw (parents_after_are j e it c) (sym (other_place_adds_none j c.parent e es it its j≢i))

  exact_there :
      {h : ℕ} (e : Event) (es : List Event) (it : Told) (its : List Told) (c : Known) → Held i c.block h [] →
      ExactFrom i (e ∷ es) (it ∷ its) c
  unfolding collect_from
  exact_there e es it its c clear =
      held_to_end (suc i) es its (known_after i e it c) (omega arith) (own_held_after e it c clear)
      ∙ rw (parents_after_are i e it c) (sym (own_alone_at_place c.parent e es it its))

  exact_from :
      {h : ℕ} (j : ℕ) (es : List Event) (its : List Told) (c : Known) → j ≤ i → Held i c.block h [] →
      ExactFrom j es its c
  unfolding collect_from acts_of_r at_place
  exact_from j [] its c j≤i clear = none_held clear 0
  exact_from j (e ∷ es) [] c j≤i clear = none_held clear 0
  exact_from j (e ∷ es) (it ∷ its) c j≤i clear =
      cases (ℕ_discrete j i)
      (λ j≢i. exact_from (suc j) es its (known_after j e it c) (omega arith)
      (none_after j e it c (act_elsewhere i j e it j≢i) clear))
    where
      cases : Dec (j ≡ i) → (j ≢ i → ExactFrom (suc j) es its (known_after j e it c)) →
          ExactFrom j (e ∷ es) (it ∷ its) c
      cases (yes j≡i) later = rw j≡i (exact_there e es it its c clear)
      cases (no j≢i) later = exact_before j e es it its c j≢i (later j≢i)

pub exact_acts :
    (es : List Event) (its : List Told) (i : ℕ) →
    at_place i (acts_in [] (schedule_of (store_block es its))) ≡ at_place i (acts_of_r 0 (λ n. 0) es its)
unfolding store_block unknown
exact_acts es its i =
    rw (store_steps_acts (store_block es its)) (exact_from i 0 es its unknown (omega arith) (none_at_first i))
