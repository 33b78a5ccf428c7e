-- Starts counted answer by answer, from the words of answers. Assumes nothing.
use Prim.Native.Nat.{ℕ, zero, suc, ◌+◌, ◌*◌, ◌≤◌}
use native.Mathlib.Nat.{zero-add, add-zero}
use native.Mathlib.Omega.{arith}
use native.Mathlib.Numerals.{add-one}
use mathlib.Core.Path.{◌≡◌, ◌∙◌}
use mathlib.Core.List.{List}
use lib.Dec.{eqb, lit≤}
use lib.ListN.{get_or}
use Rattle.rules.specs.Encoding.{answer_length, started_kind}
use Rattle.listing.specs.Buffer.{starts_of, starts_from}
use Rattle.listing.proofs.Bounds.{either}

-- the start that the ith answer is, or none
abbrev starts_at : List ℕ → ℕ → ℕ
starts_at words i = starts_of (get_or words (answer_length * i) 0)

-- one more answer is counted behind the others
next_start : (words : List ℕ) (i n : ℕ) → starts_from words i (suc n) ≡ starts_from words i n + starts_at words (i + n)
unfolding starts_from
next_start words i zero = rw (add-zero i) (omega arith)
next_start words i (suc n) =
    let i_on : i + suc n ≡ suc i + n = omega arith in
    rw i_on (omega (arith, next_start words (suc i) n))

-- the starts among the first n answers and the next one
pub starts_next : (words : List ℕ) (n : ℕ) → starts_from words 0 (n + 1) ≡ starts_from words 0 n + starts_at words n
starts_next words n = rw (add-one n) (next_start words 0 n ∙ rw zero-add)

-- an answer is one start at most
pub one_start : (kind : ℕ) {starts : ℕ} → starts ≡ starts_of kind → starts ≤ 1
one_start kind is = rw is (either (λ (n : ℕ). n ≤ 1) (eqb kind started_kind) (lit≤ tt) (lit≤ tt))
