-- RULES 12.3: a report has one line for each action of a sound table that is shown, and no other line; and how deep each lies.
-- Assumes nothing.
use Prim.Native.Nat.{ℕ, zero, suc, ◌+◌, ◌≤◌, ◌<◌}
use native.Mathlib.Omega.{arith}
use native.Mathlib.Nat.{zero-add}
use mathlib.Core.Path.{◌≡◌, refl, sym, ap, ◌∙◌}
use mathlib.Core.Logic.{⊎_elim}
use mathlib.Core.Bool.{Bool, true, false, cond}
use mathlib.Core.List.Memᴰ
use mathlib.Core.List.{List, [], ◌∷◌, ◌++◌, map, flat_map, Memᴰ}
use borrow.Author.Tests.{eqb-true}
use lib.Dec.{eqb}
use lib.ListN.{length}
use Rattle.rules.specs.Range.{count, filter}
use Rattle.rules.specs.Table.{most_actions, highest, parent_of, actions, is_child_of}
use Rattle.rules.specs.Walk.{climbs}
use Rattle.rules.specs.Sound.{IsGiven, Sound}
use Rattle.rules.specs.Tree.{Line, children, lines_within, tree_lines, is_shown}
use Rattle.rules.proofs.Laws.Tests.{cond_same}
use Rattle.rules.proofs.Laws.Ranges.{filter_only, count_at_most}
use Rattle.rules.proofs.Laws.Climbing.{climbs_store, climbs_child, climbs_most}
use Rattle.rules.proofs.Laws.Walking.{moves_to_store, moves_to_store_store, moves_to_store_step}
use Rattle.rules.proofs.Tree.Numbers.{tally, tally_agree, tally_there, tally_of, tally_of_ones}
use Rattle.rules.proofs.Tree.Held.{of_children, below, held_by_shown}

-- ---- as many lines as actions that are shown

-- what f gives for the action of each line, added up
unfoldable over_lines : (ℕ → ℕ) → List Line → ℕ
over_lines f lines = tally f (map (λ line. line.number) lines)

over_append : (f : ℕ → ℕ) (xs ys : List Line) → over_lines f (xs ++ ys) ≡ over_lines f xs + over_lines f ys
unfolding over_lines tally
over_append f [] ys = sym (zero-add _)
over_append f (x ∷ xs) ys = omega (arith, over_append f xs ys)

ones : (lines : List Line) → over_lines (λ n. 1) lines ≡ length lines
unfolding over_lines tally
ones [] = refl
ones (x ∷ xs) = omega (arith, ones xs)

-- lines put together, for those of which c holds
lines_together :
    (f : ℕ → ℕ) (each : ℕ → List Line) (c : ℕ → Bool) (l : List ℕ) →
    over_lines f (flat_map each (filter c l)) ≡ tally_of c (λ m. over_lines f (each m)) l
unfolding flat_map filter tally_of tally over_lines
lines_together f each c [] = refl
lines_together f each c (x ∷ xs) = kept (c x) (lines_together f each c xs)
  where
    kept :
        (b : Bool) {rest : ℕ} → over_lines f (flat_map each (filter c xs)) ≡ rest →
        over_lines f (flat_map each (cond b (x ∷ filter c xs) (filter c xs))) ≡ cond b (over_lines f (each x)) 0 + rest
    kept true same = over_append f (each x) (flat_map each (filter c xs)) ∙ ap (λ z. over_lines f (each x) + z) same
    kept false same = omega arith

-- how deep they lie makes no difference
over_lines_within : (f : ℕ → ℕ) (w : List ℕ) (levels depth p : ℕ) → over_lines f (lines_within levels w depth p) ≡ below f w levels p
unfolding lines_within children below of_children tally_of over_lines tally actions
over_lines_within f w zero depth p = refl
over_lines_within f w (suc levels) depth p =
    lines_together f _ (is_child_of w p) (actions w)
    ∙ tally_agree _ _ 1 (highest w)
    (λ m h. ap (λ z. cond (is_child_of w p m) (f m + z) 0) (over_lines_within f w levels (suc depth) m))

-- whatever each action holds, the lines hold what the actions do that are shown
lines_hold : {w : List ℕ} → Sound w → (f : ℕ → ℕ) → over_lines f (tree_lines w) ≡ tally_of (is_shown w) f (actions w)
unfolding tree_lines
lines_hold {w} s f = over_lines_within f w most_actions 0 0 ∙ held_by_shown s f

-- as many lines as actions that are shown
pub line_for_each : {w : List ℕ} → Sound w → length (tree_lines w) ≡ count (is_shown w) (actions w)
line_for_each {w} s = sym (ones (tree_lines w)) ∙ lines_hold s (λ n. 1) ∙ tally_of_ones (is_shown w) (actions w)

-- so no more than numbers given
pub no_more_lines : {w : List ℕ} → Sound w → length (tree_lines w) ≤ highest w
unfolding actions
no_more_lines {w} s = omega (arith, line_for_each s, count_at_most (is_shown w) 1 (highest w))

-- the actions of the lines
abbrev pub line_numbers : List ℕ → List ℕ
line_numbers w = map (λ line. line.number) (tree_lines w)

-- each action that is shown has one line, and one that isn't has none
pub one_line_each : {w : List ℕ} → Sound w → (n : ℕ) → IsGiven w n → count (eqb n) (line_numbers w) ≡ cond (is_shown w n) 1 0
unfolding tally_of over_lines actions
one_line_each {w} s n known =
    sym (tally_of_ones (eqb n) (line_numbers w))
    ∙ lines_hold s (λ m. cond (eqb n m) 1 0)
    ∙ tally_agree _ _ 1 (highest w) (λ m h. either_way (is_shown w m) (eqb n m))
    ∙ tally_there (λ m. cond (is_shown w m) 1 0) n 1 (highest w) (omega arith)
  where
    either_way : (a b : Bool) → cond a (cond b 1 0) 0 ≡ cond {A = ℕ} b (cond a 1 0) 0
    either_way true b = refl
    either_way false b = sym (cond_same b 0)

-- ---- whose lines they are

-- what holds of all of each holds of all together
in_each :
    (P : Line → Type 0) (f : ℕ → List Line) (l : List ℕ) →
    ((m : ℕ) → Memᴰ m l → (line : Line) → Memᴰ line (f m) → P line) →
    (line : Line) → Memᴰ line (flat_map f l) → P line
unfolding flat_map
in_each P f [] holds line m = absurd (Memᴰ.not-nil m)
in_each P f (x ∷ xs) holds line m =
    ⊎_elim
    (holds x (Memᴰ.head refl) line)
    (in_each P f xs (λ y h. holds y (Memᴰ.tail h)) line)
    (Memᴰ.append_cases (f x) m)

-- every line is that of an action that is shown, and its depth is one fewer than the moves up to the store
module _ (w : List ℕ) where
  abbrev Placed : Line → Type 0
  Placed line =
      IsGiven w line.number × (is_shown w line.number ≡ true) × (moves_to_store w line.number ≡ suc line.depth)

  -- p lies so deep: as many moves lead from it to the store, and no fewer
  record Lies (depth p : ℕ) : Type 0 where
    up : climbs (parent_of w) depth p ≡ true
    moves : moves_to_store w p ≡ depth

  -- a child of p lies one move further from the store
  child_lies : (depth p n : ℕ) → depth < most_actions → Lies depth p → Memᴰ n (children w p) → IsGiven w n × Lies (suc depth) n
  unfolding children actions
  child_lies depth p n room above child =
      let (within, is) = filter_only (is_child_of w p) 1 (highest w) n child in
      let parent = eqb-true (parent_of w n) p is in
      let up : climbs (parent_of w) (suc depth) n ≡ true = climbs_child (parent_of w) depth n (rw parent above.up) in
      let all_up = climbs_most (parent_of w) (suc depth) most_actions n (omega arith) up in
      let step = moves_to_store_step w n (λ z. omega arith) all_up in
      (omega arith, record { up = up; moves = step ∙ ap (λ q. suc (moves_to_store w q)) parent ∙ ap suc above.moves })

  lies_placed : (depth n : ℕ) → depth < most_actions → IsGiven w n → Lies (suc depth) n → Placed (record { depth = depth; number = n })
  unfolding is_shown
  lies_placed depth n room known lies =
      (known, climbs_most (parent_of w) (suc depth) most_actions n (omega arith) lies.up, lies.moves)

  placed_within :
      (levels depth p : ℕ) → depth + levels ≡ most_actions → Lies depth p → (line : Line) →
      Memᴰ line (lines_within levels w depth p) → Placed line
  unfolding lines_within
  placed_within zero depth p most lies line m = absurd (Memᴰ.not-nil m)
  placed_within (suc levels) depth p most lies line m =
      in_each Placed _ (children w p)
      (λ n child shown here.
      let (known, deeper) = child_lies depth p n (omega arith) lies child in
      let placed = lies_placed depth n (omega arith) known deeper in
      ⊎_elim (λ own. rw own placed) (placed_within levels (suc depth) n (omega arith) deeper shown) (Memᴰ.cases_cons here))
      line m

  pub line_placed : (line : Line) → Memᴰ line (tree_lines w) → Placed line
  unfolding tree_lines
  line_placed =
      placed_within most_actions 0 0 refl (record { up = climbs_store (parent_of w) 0; moves = moves_to_store_store w })
