-- Cards in line: those of the store, or of one action, stand one behind the other. Assumes nothing.
use Prim.Native.Nat.{ℕ, ◌+◌, ◌-◌, ◌*◌, ◌≤◌, ◌<◌}
use native.Mathlib.Omega.{arith}
use native.Mathlib.Decide.{dec_lt}
use mathlib.Core.Path.{◌≡◌, refl}
use mathlib.Core.Logic.{◌⊎◌, inl, inr, ◌≢◌}
use mathlib.Core.List.{List}
use lib.ListN.{length}
use Rattle.rules.specs.Card.{account_count, IsCard, card_length, base_length, shadow_length, base_place, shadow_place, card_at, cards_place}
use Rattle.rules.specs.Table.{most_actions}
use Rattle.rules.proofs.Laws.Cards.{Fits, Apart, card_at_length}

-- The cards of the 32 accounts stand one behind the other, from the byte `first` on, and all of them inside the store.
pub record Line (place : ℕ → ℕ) (store : List ℕ) : Type 0 where
  pub first : ℕ
  pub stands : (k : ℕ) → place k ≡ first + card_length * k
  pub inside : first + card_length * account_count ≤ length store

pub base_line : (base : List ℕ) → length base ≡ base_length → Line base_place base
base_line base e = record { first = 0; stands = λ k. omega arith; inside = omega arith }

pub shadow_line : (shadow : List ℕ) (n : ℕ) → length shadow ≡ shadow_length → n ≤ most_actions → Line (shadow_place n) shadow
shadow_line shadow n e few = record { first = cards_place n; stands = λ k. refl; inside = omega arith }

-- the cards of two actions, or for two accounts, share no byte
pub shadow_apart :
    (n m k j : ℕ) → 1 ≤ n → 1 ≤ m → k < account_count → j < account_count → (m ≢ n) ⊎ (j ≢ k) →
    Apart (shadow_place n k) (shadow_place m j)
shadow_apart n m k j n_action m_action k_account j_account differ =
    by_order (dec_lt (nth n k) (nth m j)) (nths_differ differ)
  where
    -- how many cards stand before action x's card for account i
    nth : ℕ → ℕ → ℕ
    nth x i = account_count * (x - 1) + i

    nths_differ : (m ≢ n) ⊎ (j ≢ k) → nth n k ≢ nth m j
    nths_differ (inl ne) e = ne (omega arith)
    nths_differ (inr ne) e = ne (omega arith)

    by_order : Dec (nth n k < nth m j) → nth n k ≢ nth m j → Apart (shadow_place n k) (shadow_place m j)
    by_order (yes lower) ne = inr (omega arith)
    by_order (no higher) ne = inl (omega arith)

module _ {place : ℕ → ℕ} {store : List ℕ} (line : Line place store) where
  pub line_fits : (k : ℕ) → k < account_count → Fits store (place k)
  line_fits k h = omega (arith, line.stands k)

  pub line_apart : (j k : ℕ) → j ≢ k → Apart (place j) (place k)
  line_apart j k ne = by_order (dec_lt j k)
    where
      by_order : Dec (j < k) → Apart (place j) (place k)
      by_order (yes lower) = inr (omega (arith, line.stands j, line.stands k))
      by_order (no higher) = inl (omega (arith, line.stands j, line.stands k))

-- the card of an account where cards stand in line is a whole one
pub line_card : {place : ℕ → ℕ} {store : List ℕ} → Line place store → (k : ℕ) → k < account_count → IsCard (card_at store (place k))
line_card {place} {store} line k h = card_at_length store (place k) (line_fits line k h)
