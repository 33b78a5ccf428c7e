-- A pass over the rows of a table, from 1 to the last: one field of each row that is chosen is given anew. What stands in the
-- table then. Assumes nothing.
use Prim.Native.Nat.{ℕ, ◌≤◌, ◌<◌}
use native.Mathlib.Omega.{arith}
use mathlib.Core.Path.{◌≡◌, refl, sym, ◌∙◌}
use mathlib.Core.Logic.{◌≢◌}
use mathlib.Core.Bool.{Bool, true, cond}
use mathlib.Core.List.{List}
use lib.ListN.{length}
use Rattle.rules.specs.Range.{up_from, fold}
use Rattle.rules.specs.Table.{width, table_length, most_actions, word, with_word}
use Rattle.rules.proofs.Laws.Tests.{not_both, cond_holds}
use Rattle.rules.proofs.Laws.Ranges.{fold_keeps, fold_puts}
use Rattle.rules.proofs.Laws.Words.{with_word_length, word_same, word_other_row, word_off_field}

-- one of the rows that the pass comes to
abbrev pub IsRow : ℕ → ℕ → Type 0
IsRow last m = (1 ≤ m) × (m ≤ last)

module _ (chosen : ℕ → Bool) (field : ℕ) (inside : field < width) (value : ℕ → ℕ) (last : ℕ) (w : List ℕ) where
  -- what the pass does for row m
  abbrev mark : ℕ → List ℕ → List ℕ
  mark m now = cond (chosen m) (with_word now m field (value m)) now

  abbrev pub passed_over : List ℕ
  passed_over = fold mark (up_from 1 last) w

  mark_keeps :
      (P : List ℕ → Type 0) (m : ℕ) (v : List ℕ) → (chosen m ≡ true → P v → P (with_word v m field (value m))) → P v → P (mark m v)
  mark_keeps P m v keeps p = cond_holds P (chosen m) (λ q. keeps q p) (λ q. p)

  -- what each mark keeps, the pass keeps
  pass_keeps :
      (P : List ℕ → Type 0) →
      ((m : ℕ) → IsRow last m → chosen m ≡ true → (v : List ℕ) → P v → P (with_word v m field (value m))) → P w → P passed_over
  pass_keeps P keeps = fold_keeps P mark 1 last (λ m h v. mark_keeps P m v (λ q. keeps m (omega arith) q v)) w

  pub pass_length : length passed_over ≡ length w
  pass_length = pass_keeps (λ v. length v ≡ length w) (λ m h q v e. with_word_length v m _ _ ∙ e) refl

  -- every other field
  pub pass_other_field : (m g : ℕ) → g < width → g ≢ field → word passed_over m g ≡ word w m g
  pass_other_field m g hg ne =
      pass_keeps (λ v. word v m g ≡ word w m g) (λ x h q v e. word_off_field v x m field g _ inside hg ne ∙ e) refl

  -- every row that is not chosen, or that the pass doesn't come to
  pub pass_other_row : (m g : ℕ) → g < width → (IsRow last m → chosen m ≡ true → ⊥) → word passed_over m g ≡ word w m g
  pass_other_row m g hg unchosen =
      pass_keeps (λ v. word v m g ≡ word w m g)
      (λ x h q v e. word_other_row v x m field g _ inside hg (λ same. unchosen (rw same h) (rw same q)) ∙ e)
      refl

  module _ (long : length w ≡ table_length) (few : last ≤ most_actions) where
    -- a row's own mark makes it so, and no other mark touches it
    chosen_marked : (m : ℕ) → IsRow last m → chosen m ≡ true → word passed_over m field ≡ value m
    chosen_marked m h q =
        fold_puts (λ v. length v ≡ table_length) (λ v. word v m field) (value m) mark 1 last m
        (λ x r v. mark_keeps (λ u. length u ≡ table_length) x v (λ _ e. with_word_length v x _ _ ∙ e))
        (λ v e. rw q (word_same v m field _ e (omega arith) inside))
        (λ x r ne v.
        mark_keeps (λ u. word u m field ≡ word v m field) x v
        (λ _ e. word_other_row v x m field field _ inside inside (λ same. ne (sym same))) refl)
        (omega arith) w long

    pub pass_field : (m : ℕ) → IsRow last m → word passed_over m field ≡ cond (chosen m) (value m) (word w m field)
    pass_field m h =
        cond_holds (λ x. word passed_over m field ≡ x) (chosen m)
        (chosen_marked m h)
        (λ q. pass_other_row m field inside (λ _ r. not_both r q))
