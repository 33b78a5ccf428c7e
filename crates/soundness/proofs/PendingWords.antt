-- Where no sum is pending, none is pending outside the write set. Assumes nothing.
use Prim.Native.Nat.{ℕ}
use mathlib.Core.Path.{◌≡◌}
use mathlib.Core.Bool.{true}
use mathlib.Core.List.{List}
use Rattle.rules.specs.Range.{all}
use Rattle.rules.specs.Card.{first_charge, charge_count, charge_accounts}
use Rattle.rules.specs.Table.{has_written, pending_word}
use Rattle.rules.specs.Sound.{has_pending_written}
use Rattle.rules.proofs.Laws.Tests.{or_inr}
use Rattle.rules.proofs.Laws.Ranges.{all_at, all_of}
use Rattle.rows.proofs.JoinedWords.{is_none}

pub no_sum_written : (w : List ℕ) (n : ℕ) → all (is_none (pending_word w n)) charge_accounts ≡ true → has_pending_written w n ≡ true
unfolding has_pending_written charge_accounts
no_sum_written w n h =
    all_of _ first_charge charge_count
    (λ k r. or_inr (has_written w n k) (all_at (is_none (pending_word w n)) first_charge charge_count k h r))
