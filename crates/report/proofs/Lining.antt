-- Lines put into a report, one after the other; and the lines of a parent's children, taken from the front. Assumes nothing.
use Prim.Native.Nat.{ℕ, suc, ◌+◌, ◌-◌, ◌*◌, ◌≤◌, ◌<◌}
use native.Mathlib.Omega.{arith}
use mathlib.Core.Path.{◌≡◌, refl, sym, ap, ap₂, ◌∙◌}
use mathlib.Core.Bool.{true, false}
use mathlib.Core.List.{List, [], ◌∷◌, ◌++◌, flat_map, append_assoc, append-nil}
use lib.ListN.{length, length-append}
use lib.Seq.{sets, length-sets}
use Rattle.rules.specs.Range.{up_from, filter}
use Rattle.rules.specs.Card.{charge_accounts}
use Rattle.rules.specs.Table.{highest, actions, is_child_of}
use Rattle.rules.specs.Tree.{Line, children, lines_within, figures_of, line_length, line_words}
use Rattle.rules.proofs.Laws.Ranges.{filter_left_here, filter_left_next, filter_left_done}
use Rattle.report.specs.Lined.{line_place, line_at_depth, action_lines, children_from, lines_from, HasLineRoom, IsLined}
use Rattle.report.proofs.Words.{sets_append}

-- ---- lines put one after the other

module _ (w : List ℕ) where
  -- the words of lines
  abbrev pub lines_words : List Line → List ℕ
  lines_words = flat_map (line_words w)

  one_line : (line : Line) → length (line_words w line) ≡ line_length
  unfolding line_words figures_of charge_accounts up_from flat_map
  one_line line = refl

  words_length : (lines : List Line) → length (lines_words lines) ≡ line_length * length lines
  unfolding flat_map
  words_length [] = refl
  words_length (line ∷ lines) =
      omega (arith, length-append (line_words w line) (lines_words lines), one_line line, words_length lines)

  words_append : (xs ys : List Line) → lines_words (xs ++ ys) ≡ lines_words xs ++ lines_words ys
  unfolding flat_map
  words_append [] ys = refl
  words_append (x ∷ xs) ys =
      ap (λ rest. line_words w x ++ rest) (words_append xs ys) ∙ sym (append_assoc (line_words w x) (lines_words xs) (lines_words ys))

  pub lined_none : (words : List ℕ) (before : ℕ) → IsLined w words before [] words before
  unfolding flat_map
  lined_none words before = record { counted = omega arith; leaves = refl }

  pub lined_one :
      (words : List ℕ) (before : ℕ) (line : Line) (put : List ℕ) → put ≡ sets words (line_place before) (line_words w line) →
      IsLined w words before (line ∷ []) put (before + 1)
  unfolding flat_map
  lined_one words before line put is =
      record { counted = refl; leaves = is ∙ ap (sets words (line_place before)) (sym (append-nil (line_words w line))) }

  pub lined_both :
      {words : List ℕ} {before : ℕ} {xs : List Line} {between : List ℕ} {middle : ℕ} {ys : List Line} {put : List ℕ} {after : ℕ} →
      IsLined w words before xs between middle → IsLined w between middle ys put after → IsLined w words before (xs ++ ys) put after
  lined_both {words} {before} {xs} {between} {middle} {ys} first then =
      let place : line_place before + length (lines_words xs) ≡ line_place middle = omega (arith, first.counted, words_length xs) in
      record {
        counted = omega (arith, first.counted, then.counted, length-append xs ys);
        leaves =
            then.leaves
            ∙ ap₂ (λ l next. sets l next (lines_words ys)) first.leaves (sym place)
            ∙ sym (ap (sets words (line_place before)) (words_append xs ys) ∙ sets_append words (line_place before) (lines_words xs) (lines_words ys));
      }

  pub lined_length :
      {words : List ℕ} {before : ℕ} {lines : List Line} {put : List ℕ} {after : ℕ} →
      IsLined w words before lines put after → length put ≡ length words
  lined_length {words} {before} {lines} lined = ap length lined.leaves ∙ length-sets words (line_place before) (lines_words lines)

-- ---- room for them

module _ {words : List ℕ} {before : ℕ} (xs ys : List Line) (all : HasLineRoom words before (xs ++ ys)) where
  pub room_first : HasLineRoom words before xs
  room_first = record { whole = all.whole; room = omega (arith, all.room, length-append xs ys) }

  pub room_then : (then : List ℕ) → length then ≡ length words → (middle : ℕ) → middle ≡ before + length xs → HasLineRoom then middle ys
  room_then then same middle counted =
      record { whole = same ∙ all.whole; room = omega (arith, all.room, length-append xs ys, counted) }

-- ---- the lines of children

module _ (levels : ℕ) (w : List ℕ) (depth p : ℕ) where
  pub lines_under : lines_within (suc levels) w depth p ≡ lines_from levels w depth p 1
  unfolding lines_within lines_from action_lines children_from children actions
  lines_under =
      let all : highest w ≡ highest w + 1 - 1 = omega arith in
      ap (λ many. flat_map (action_lines levels w depth) (filter (is_child_of w p) (up_from 1 many))) all

  module _ (i : ℕ) where
    pub lines_done : highest w < i → lines_from levels w depth p i ≡ []
    unfolding lines_from children_from flat_map
    lines_done over = rw (filter_left_done (is_child_of w p) i (highest w + 1) (omega arith))

    pub lines_here :
        i ≤ highest w → is_child_of w p i ≡ true → lines_from levels w depth p i ≡ action_lines levels w depth i ++ lines_from levels w depth p (i + 1)
    unfolding lines_from children_from flat_map
    lines_here within is = rw (filter_left_here (is_child_of w p) i (highest w + 1) (omega arith) is)

    pub lines_next : i ≤ highest w → is_child_of w p i ≡ false → lines_from levels w depth p i ≡ lines_from levels w depth p (i + 1)
    unfolding lines_from children_from
    lines_next within isnt = rw (filter_left_next (is_child_of w p) i (highest w + 1) (omega arith) isnt)

  -- ---- and those of the children before i, put

  -- so many lines were put behind those before, the lines of p's children before i, and what is left of all of them is those from i on
  pub record ListedTo (first : List ℕ) (before : ℕ) (now : List ℕ) (next i : ℕ) : Type 0 where
    pub so_far : List Line
    pub begun : 1 ≤ i
    pub put : IsLined w first before so_far now next
    pub left : lines_from levels w depth p 1 ≡ so_far ++ lines_from levels w depth p i

  pub listed_first : (first : List ℕ) (before : ℕ) → ListedTo first before first before 1
  listed_first first before = record { so_far = []; begun = omega arith; put = lined_none w first before; left = refl }

  module _ {first : List ℕ} {before : ℕ} {now : List ℕ} {next i : ℕ} (listed : ListedTo first before now next i) where
    module _ (within : i ≤ highest w) where
      pub listed_over : is_child_of w p i ≡ false → ListedTo first before now next (i + 1)
      listed_over isnt =
          record {
            so_far = listed.so_far;
            begun = omega arith;
            put = listed.put;
            left = listed.left ∙ ap (λ rest. listed.so_far ++ rest) (lines_next i within isnt);
          }

      module _ (is : is_child_of w p i ≡ true) where
        left_here :
            lines_from levels w depth p 1 ≡ listed.so_far ++ (action_lines levels w depth i ++ lines_from levels w depth p (i + 1))
        left_here = listed.left ∙ ap (λ rest. listed.so_far ++ rest) (lines_here i within is)

        pub room_listed :
            HasLineRoom first before (lines_from levels w depth p 1) → HasLineRoom now next (action_lines levels w depth i)
        room_listed all =
            let behind = action_lines levels w depth i ++ lines_from levels w depth p (i + 1) in
            let rest = room_then listed.so_far behind (rw left_here at all) now (lined_length w listed.put) next listed.put.counted in
            room_first (action_lines levels w depth i) (lines_from levels w depth p (i + 1)) rest

        pub listed_next :
            {then : List ℕ} {after : ℕ} → IsLined w now next (action_lines levels w depth i) then after →
            ListedTo first before then after (i + 1)
        listed_next put =
            record {
              so_far = listed.so_far ++ action_lines levels w depth i;
              begun = omega arith;
              put = lined_both w listed.put put;
              left = left_here ∙ sym (append_assoc listed.so_far (action_lines levels w depth i) (lines_from levels w depth p (i + 1)));
            }

    pub listed_last : highest w < i → IsLined w first before (lines_from levels w depth p 1) now next
    listed_last over =
        let all : lines_from levels w depth p 1 ≡ listed.so_far =
        listed.left ∙ ap (λ rest. listed.so_far ++ rest) (lines_done i over) ∙ append-nil listed.so_far
        in
        rw all listed.put

-- ---- the lines of an action: its own, and those of its children

module _ (w : List ℕ) (depth n : ℕ) where
  pub line_first :
      (levels : ℕ) {words : List ℕ} {before : ℕ} → HasLineRoom words before (action_lines levels w depth n) →
      line_place before + line_length ≤ length words
  unfolding action_lines
  line_first levels room = omega (arith, room.whole, room.room)

  pub lines_of_last : action_lines 0 w depth n ≡ line_at_depth depth n ∷ []
  unfolding action_lines lines_within
  lines_of_last = refl

  pub lines_of_action :
      (levels : ℕ) → 1 ≤ levels →
      action_lines levels w depth n ≡ (line_at_depth depth n ∷ []) ++ lines_from (levels - 1) w (depth + 1) n 1
  unfolding action_lines
  lines_of_action levels some =
      let one_more : suc (levels - 1) ≡ levels = omega arith in
      let deeper : suc depth ≡ depth + 1 = omega arith in
      ap (λ lines. line_at_depth depth n ∷ lines)
      (ap₂ (λ many deep. lines_within many w deep n) (sym one_more) deeper ∙ lines_under (levels - 1) w (depth + 1) n)
