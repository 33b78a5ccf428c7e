-- RULES 6.3: R once more, in the words of the rule: an action is in R where it committed and its parent is the store or is in R.
-- Actions are told by their starts: the first to start in S is 1, the second 2, and so on; 0 is the store. So nothing rests on
-- whether a number is ever given to a second action. Assumes nothing.
use Rattle.std.specs.Prelude.{ℕ, suc, ◌≤◌, ◌≡◌, ◌⊎◌, ◌↔◌, Bool, true, false, cond, ◌&&◌, List, [], ◌∷◌, ◌++◌, map}
use Rattle.rules.specs.Range.{up_from}
use Rattle.rules.specs.Walk.{walk_up}
use Rattle.rules.specs.Event.{Event}
use Rattle.rules.specs.Serial.Told.{Told, it_began, it_read, it_wrote, it_added, it_committed, it_let_leave, it_did_nothing}
use Rattle.rules.specs.Serial.Collect.{put, commits_at}
use Rattle.rules.specs.Serial.Reach.{parents_after, reaches_store, Act, act_of, acts_of_r}
use Rattle.rules.specs.Serial.Demand.{told_of}

-- RULES 6.2: what has been told of the actions up to some place of S
pub record Lineage : Type 0 where
  -- how many have started
  pub starts : ℕ
  -- the start of the action that number n was last given to; 0 for the store's number, and for one that was never given
  pub start_of : ℕ → ℕ
  -- the parent of the action of a start, by the parent's start
  pub parent_start : ℕ → ℕ
  -- whether the action of a start has committed
  pub has_committed : ℕ → Bool

-- before S nobody has started
unfoldable pub no_starts : Lineage
no_starts = record { starts = 0; start_of = λ n. 0; parent_start = λ x. 0; has_committed = λ x. false }

-- one more action starts, under number p, and is given number n
abbrev pub with_start : Lineage → ℕ → ℕ → Lineage
with_start h n p =
    let x = suc h.starts in
    record {
      starts = x;
      start_of = put h.start_of n x;
      parent_start = put h.parent_start x (h.start_of p);
      has_committed = h.has_committed;
    }

-- the action of number n commits
abbrev pub with_commit : Lineage → ℕ → Lineage
with_commit h n =
    record {
      starts = h.starts;
      start_of = h.start_of;
      parent_start = h.parent_start;
      has_committed = put h.has_committed (h.start_of n) true;
    }

-- the actions of all these numbers commit
unfoldable pub with_commits : Lineage → List ℕ → Lineage
with_commits h [] = h
with_commits h (n ∷ ns) = with_commits (with_commit h n) ns

-- an event's start, where one took place
unfoldable pub with_start_at : Event → Told → Lineage → Lineage
with_start_at e (it_began n) h = with_start h n e.number
with_start_at e it_read h = h
with_start_at e it_wrote h = h
with_start_at e it_added h = h
with_start_at e it_committed h = h
with_start_at e (it_let_leave leavers) h = h
with_start_at e it_did_nothing h = h

-- one event, and what is told of it
unfoldable pub lineage_one : Event → Told → Lineage → Lineage
lineage_one e it h = with_commits (with_start_at e it h) (commits_at e it)

-- the events from some place on
unfoldable pub lineage_from : List Event → List Told → Lineage → Lineage
lineage_from [] its h = h
lineage_from (e ∷ es) [] h = h
lineage_from (e ∷ es) (it ∷ its) h = lineage_from es its (lineage_one e it h)

-- all of S
unfoldable pub lineage_of : List Event → List Told → Lineage
lineage_of es its = lineage_from es its no_starts

-- RULES 6.3: the action of a start is in R where it and all above it have committed
unfoldable pub is_in_r : Lineage → ℕ → Bool
is_in_r h x = walk_up h.parent_start true (λ y above. h.has_committed y && above) h.starts x

-- RULES 6.3 word for word, of a choice of starts: an action is chosen exactly where it committed and its parent is the store or
-- is chosen
abbrev pub IsR : Lineage → (ℕ → Bool) → Type 0
IsR h chosen =
    (x : ℕ) → 1 ≤ x → x ≤ h.starts →
    (chosen x ≡ true) ↔ ((h.has_committed x ≡ true) × ((h.parent_start x ≡ 0) ⊎ (chosen (h.parent_start x) ≡ true)))

-- ---- R by the starts, beside R as Reach finds it

-- the number that an event gives, as a list; none where no action starts
unfoldable pub given_at : Told → List ℕ
given_at (it_began n) = n ∷ []
given_at it_read = []
given_at it_wrote = []
given_at it_added = []
given_at it_committed = []
given_at (it_let_leave leavers) = []
given_at it_did_nothing = []

-- of each action, in the order of the starts: whether its number, followed from its start on, reaches the store
unfoldable pub starts_reach : (ℕ → ℕ) → List Event → List Told → List Bool
starts_reach parent [] its = []
starts_reach parent (e ∷ es) [] = []
starts_reach parent (e ∷ es) (it ∷ its) =
    let now = parents_after e it parent in
    map (reaches_store now es its) (given_at it) ++ starts_reach now es its

-- every read and write of the actions whose starts are chosen, in the order of S, from place i on
unfoldable pub acts_of_starts : (ℕ → Bool) → ℕ → Lineage → List Event → List Told → List Act
acts_of_starts chosen i h [] its = []
acts_of_starts chosen i h (e ∷ es) [] = []
acts_of_starts chosen i h (e ∷ es) (it ∷ its) =
    let now = lineage_one e it h in
    let later = acts_of_starts chosen (suc i) now es its in
    cond (chosen (now.start_of e.number)) (act_of i e it ++ later) later

-- what is told of the actions of S = es, given to a new table under rule r over the stores base and shadow
abbrev pub lineage_over : ℕ → List ℕ → List ℕ → List Event → Lineage
lineage_over r base shadow es = lineage_of es (told_of r base shadow es)

-- What is claimed of these actions.
pub record PlainR (r : ℕ) (base shadow : List ℕ) (es : List Event) : Type 0 where
  -- is_in_r is R by the rule
  pub rule : IsR (lineage_over r base shadow es) (is_in_r (lineage_over r base shadow es))
  -- and any choice by the rule is this one
  pub unique :
      (chosen : ℕ → Bool) → IsR (lineage_over r base shadow es) chosen →
      (x : ℕ) → 1 ≤ x → x ≤ (lineage_over r base shadow es).starts → chosen x ≡ is_in_r (lineage_over r base shadow es) x
  -- an action's number reaches the store exactly where the action is in R
  pub reached :
      starts_reach (λ n. 0) es (told_of r base shadow es)
      ≡ map (is_in_r (lineage_over r base shadow es)) (up_from 1 (lineage_over r base shadow es).starts)
  -- the reads and writes of which demand 3 speaks are those of the actions in R
  pub acts :
      acts_of_r 0 (λ n. 0) es (told_of r base shadow es)
      ≡ acts_of_starts (is_in_r (lineage_over r base shadow es)) 0 no_starts es (told_of r base shadow es)
