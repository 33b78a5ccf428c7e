-- Between two turns of a commit: what the next account's turn adds up is as it was before the commit, and what it leaves is one
-- turn more. Assumes nothing.
use Prim.Native.Nat.{ℕ, ◌+◌, ◌-◌, ◌≤◌, ◌<◌}
use native.Mathlib.Omega.{arith}
use mathlib.Core.Path.{◌≡◌, sym, ap, ◌∙◌}
use Rattle.rules.specs.Card.{account_count}
use Rattle.rules.specs.Table.{write_field, pending_field}
use Rattle.rules.specs.Ledger.{Ledger}
use Rattle.rules.specs.Commit.{copy_one, copied_down}
use Rattle.rules.specs.LastFirst.{HoldsSame}
use Rattle.rules.proofs.Copies.Turns.{CanCopy}
use Rattle.rules.proofs.Copies.Falling.{copied_next}
use Rattle.rules.proofs.Copies.Between.{TableAt, table_between, holds_before}
use Rattle.commits.specs.Fit.{SumFits, SumsFit}

-- t is the ledger when the accounts from k up have had their turns; account k - 1 is the next
module _ (s t : Ledger) (n p k : ℕ) (left : 0 < k) (few : k ≤ account_count) (so_far : t ≡ copied_down s n p k) where
  pub turn_more : copy_one t n p (k - 1) ≡ copied_down s n p (k - 1)
  turn_more =
      let same : k - 1 + 1 ≡ k = omega arith in
      ap (λ now. copy_one now n p (k - 1)) so_far ∙ sym (rw same at (copied_next s n p (k - 1) (omega arith)))

  module _ (can : CanCopy s n p) where
    table_now : TableAt s n p k t
    table_now = rw so_far (table_between s n p k few)

    pub fits_in_turn : SumsFit s.table s.base n p → SumFits t.table t.base n p (k - 1)
    fits_in_turn fits charge =
        let held : HoldsSame p (k - 1) t s = rw so_far (holds_before s n p can k (k - 1) few (omega arith) (omega arith)) in
        rw (
          table_now.same_row n (write_field (k - 1)) (omega arith) can.apart,
          table_now.same_row n (pending_field (k - 1)) (omega arith) can.apart,
          held.sum charge,
        )
        (fits (k - 1) charge)
