-- Where the clash search begins. Assumes nothing.
use Rattle.std.specs.Prelude.{ℕ, List}
use Rattle.rules.specs.Range.{fold}
use Rattle.rules.specs.Card.{accounts}
use Rattle.rules.specs.Table.{counter}
use Rattle.rows.specs.Times.{sooner_read}

-- the smallest time of kind h in n's read set, the counter of that kind where there is none that is smaller: what ended by then
-- can't clash with n
unfoldable pub first_read : List ℕ → ℕ → ℕ → ℕ
first_read w h n = fold (sooner_read w h n) accounts (counter w h)
