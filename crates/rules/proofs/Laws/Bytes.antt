-- The base store is its 32 cards and nothing else. Assumes nothing.
use Prim.Native.Nat.{ℕ, ◌+◌, ◌/◌, ◌%◌, ◌≤◌, ◌<◌}
use native.Mathlib.Omega.{arith}
use mathlib.Core.Path.{◌≡◌, sym, ap, ◌∙◌}
use mathlib.Core.List.{List, []}
use lib.ListN.{length, take, get_or, drop_of_length-le}
use lib.Seq.{ext_get_or}
use Rattle.rules.specs.Card.{account_count, card_length, base_length, base_place, card_at}
use Rattle.rules.proofs.Laws.Cards.{card_at_byte}

-- no card stands behind the last byte
pub card_at_beyond : (store : List ℕ) (at : ℕ) → length store ≤ at → card_at store at ≡ []
unfolding card_at
card_at_beyond store at h = ap (take card_length) (drop_of_length-le store h)

-- every byte is a byte of an account's card
byte_of_card :
    (store : List ℕ) (i : ℕ) → get_or (card_at store (base_place (i / card_length))) (i % card_length) 0 ≡ get_or store i 0
byte_of_card store i =
    let place : base_place (i / card_length) + i % card_length ≡ i = omega arith in
    card_at_byte store (base_place (i / card_length)) (i % card_length) (omega arith) ∙ ap (λ j. get_or store j 0) place

-- two base stores with the same cards are the same bytes
pub store_by_cards :
    (a b : List ℕ) → length a ≡ base_length → length b ≡ base_length →
    ((k : ℕ) → k < account_count → card_at a (base_place k) ≡ card_at b (base_place k)) → a ≡ b
store_by_cards a b long_a long_b same =
    ext_get_or 0 a b (long_a ∙ sym long_b)
    (λ i h.
    sym (byte_of_card a i)
    ∙ ap (λ card. get_or card (i % card_length) 0) (same (i / card_length) (omega arith))
    ∙ byte_of_card b i)
