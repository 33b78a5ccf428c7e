-- Where no sum of n's commit is outside, every sum that its copies make and every sum that is kept is an amount. Assumes
-- nothing.
use Prim.Native.Nat.{ℕ, ◌≤◌}
use mathlib.Core.Path.{◌≡◌}
use mathlib.Core.Bool.{false}
use mathlib.Core.List.{List}
use Rattle.rules.specs.Table.{parent_of}
use Rattle.rules.specs.Ledger.{Ledger}
use Rattle.rules.specs.Cause.{commit_sum, is_commit_outside}
use Rattle.rules.specs.Commit.{copied_down, end_table}
use Rattle.std.specs.Prelude.{None}
use Rattle.rules.proofs.Laws.Permitted.{commit_sum_fits, kept_sum_fits}
use Rattle.rules.proofs.Sound.Committing.{kept_after_end}
use Rattle.commits.specs.Fit.{SumsFit, KeptFit}

pub sums_fit : (w base : List ℕ) (n : ℕ) → is_commit_outside w base n None ≡ false → SumsFit w base n (parent_of w n)
unfolding commit_sum
sums_fit w base n inside = commit_sum_fits w base n inside

-- .. also when the copies are made and n has ended
pub kept_fit :
    (s : Ledger) (n : ℕ) → 1 ≤ n → is_commit_outside s.table s.base n None ≡ false →
    let p = parent_of s.table n in KeptFit (end_table (copied_down s n p 0).table n) n p
kept_fit s n one inside k charge =
    rw (kept_after_end s n (parent_of s.table n) one k charge) (kept_sum_fits s.table s.base n inside k charge)
