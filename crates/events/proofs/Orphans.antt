-- What holds between two turns of the pass over the earlier holder's children. Only parents change, and each only as its action
-- is passed; so the tests of the actions still to come are those of the table at entry. Assumes nothing.
use Prim.Native.Nat.{ℕ, ◌+◌, ◌-◌, ◌≤◌}
use native.Mathlib.Nat.{le_refl}
use native.Mathlib.Omega.{arith}
use mathlib.Core.Path.{◌≡◌, refl, sym, ap, ◌∙◌}
use mathlib.Core.Bool.{cond}
use mathlib.Core.List.{List}
use lib.Dec.{eqb}
use lib.ListN.{length}
use Rattle.rules.specs.Range.{up_from, fold}
use Rattle.rules.specs.Table.{parent_field, highest, parent_of, with_parent, actions, is_child_of}
use Rattle.rules.specs.Step.{orphaned}
use Rattle.rules.proofs.Laws.Tests.{cond_holds}
use Rattle.rules.proofs.Laws.Ranges.{fold_left_next, fold_left_done}
use Rattle.rules.proofs.Laws.Words.{with_word_length, word_other_row}

-- what the pass over the children of n in the table w does for action m
abbrev pub orphan : List ℕ → ℕ → ℕ → List ℕ → List ℕ
orphan w n m now = cond (is_child_of w n m) (with_parent now m m) now

-- The pass has come to action m, and v is the table by now.
pub record PassedTo (w : List ℕ) (n : ℕ) (v : List ℕ) (m : ℕ) : Type 0 where
  pub first : 1 ≤ m
  pub long : length v ≡ length w
  pub parents : (x : ℕ) → m ≤ x → parent_of v x ≡ parent_of w x
  pub leaves : orphaned w n ≡ fold (orphan w n) (up_from m (highest w + 1 - m)) v

module _ (w : List ℕ) (n : ℕ) where
  pub passed_none : PassedTo w n w 1
  unfolding orphaned actions
  passed_none =
      let all : highest w + 1 - 1 ≡ highest w = omega arith in
      record { first = le_refl 1; long = refl; parents = λ x h. refl; leaves = rw all }

  module _ {v : List ℕ} {m : ℕ} (p : PassedTo w n v m) where
    pub passed_all : highest w + 1 ≤ m → v ≡ orphaned w n
    passed_all h = sym (p.leaves ∙ fold_left_done (orphan w n) m (highest w + 1) v h)

    -- the test asked of the table by now is that of the table at entry
    same_turn : orphan v n m v ≡ orphan w n m v
    same_turn = ap (λ q. cond (eqb q n) (with_parent v m m) v) (p.parents m (le_refl m))

    pub passed_one : m ≤ highest w → PassedTo w n (orphan v n m v) (m + 1)
    passed_one h =
        rw same_turn
        (record {
          first = omega arith;
          long =
              cond_holds (λ (u : List ℕ). length u ≡ length w) (is_child_of w n m)
              (λ _. with_word_length v m _ _ ∙ p.long) (λ _. p.long);
          parents = λ x later.
              cond_holds (λ (u : List ℕ). parent_of u x ≡ parent_of w x) (is_child_of w n m)
              (λ _.
              word_other_row v m x parent_field parent_field _ (omega arith) (omega arith) (λ z. omega arith)
              ∙ p.parents x (omega arith))
              (λ _. p.parents x (omega arith));
          leaves = p.leaves ∙ fold_left_next (orphan w n) m (highest w + 1) v (omega arith);
        })
