-- The turns of all accounts from the last down: one turn more at a time. Assumes nothing.
use Prim.Native.Nat.{ℕ, zero, suc, ◌+◌, ◌-◌, ◌≤◌, ◌<◌}
use native.Mathlib.Omega.{arith}
use native.Mathlib.Numerals.{add-one}
use mathlib.Core.Path.{◌≡◌, refl, sym, ap, ◌∙◌}
use Rattle.rules.specs.Range.{down_to, fold}
use Rattle.rules.specs.Card.{account_count}
use Rattle.rules.specs.Ledger.{Ledger}
use Rattle.rules.specs.Commit.{copy_one, copied_down}
use Rattle.rules.proofs.Laws.Ranges.{fold_down_last}

module _ (s : Ledger) (n p : ℕ) where
  -- before the first turn
  pub copied_none : copied_down s n p account_count ≡ s
  unfolding copied_down down_to fold
  copied_none = refl

  -- account k's turn comes when those above it have had theirs
  pub copied_next : (k : ℕ) → k < account_count → copied_down s n p k ≡ copy_one (copied_down s n p (k + 1)) n p k
  unfolding copied_down
  copied_next k h =
      let turn : ℕ → Ledger → Ledger = λ j now. copy_one now n p j in
      let left = account_count - (k + 1) in
      let more : account_count - k ≡ suc left = omega arith in
      ap (λ many. fold turn (down_to k many) s) more
      ∙ fold_down_last turn k left s
      ∙ ap (λ next. copy_one (fold turn (down_to next left) s) n p k) (sym (add-one k))

  -- What holds before some account's turn, and is carried on by every turn from there down to k, holds after k's. P j is what
  -- holds when the accounts from j up have had their turns.
  pub turns_carry :
      (P : ℕ → Ledger → Type 0) (top k : ℕ) → k ≤ top → top ≤ account_count → P top (copied_down s n p top) →
      ((j : ℕ) → k ≤ j → j < top → (t : Ledger) → P (j + 1) t → P j (copy_one t n p j)) → P k (copied_down s n p k)
  turns_carry P top k below few begun turn = go (top - k) k (omega arith) (omega arith)
    where
      go : (left j : ℕ) → k ≤ j → j + left ≡ top → P j (copied_down s n p j)
      go zero j above e = let same : j ≡ top = omega arith in rw same begun
      go (suc left) j above e =
          rw (copied_next j (omega arith)) (turn j above (omega arith) _ (go left (j + 1) (omega arith) (omega arith)))
