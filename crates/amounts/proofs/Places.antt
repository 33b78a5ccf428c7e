-- Words at the places of cards are the amounts of those cards. Assumes nothing.
use Prim.Native.Nat.{ℕ, ◌+◌, ◌≤◌}
use native.Mathlib.Omega.{arith}
use mathlib.Core.Path.{◌≡◌, sym, ap, ◌∙◌}
use mathlib.Core.List.{List, ◌++◌, append_assoc}
use lib.ListN.{length, take, drop, length-take, length-drop, take-append-drop}
use lib.Seq.{take-take, drop-drop, drop-append-le}
use lib.IntN.{ℤ}
use Rattle.rules.specs.Amount.{amount_length, amount_of, amount_word, amount_in, with_amount, base_amount}
use Rattle.rules.specs.Card.{card_length, base_place, card_at, with_card}
use Rattle.amounts.specs.Word.{word_at, with_bytes}

amount_at : (store : List ℕ) (at : ℕ) → amount_in (card_at store at) ≡ amount_of (word_at store at)
unfolding amount_in card_at
amount_at store at = rw (take-take amount_length card_length (drop at store) (omega arith))

pub base_amount_at : (base : List ℕ) (k : ℕ) → base_amount base k ≡ amount_of (word_at base (base_place k))
unfolding base_amount
base_amount_at base k = amount_at base (base_place k)

-- what stands behind the first word of a card is the rest of the card, and what stands behind the card
behind_word :
    (store : List ℕ) (at : ℕ) → at + card_length ≤ length store →
    drop (at + amount_length) store ≡ drop amount_length (card_at store at) ++ drop (at + card_length) store
unfolding card_at
behind_word store at fits =
    let rest = drop at store in
    let long : amount_length ≤ length (take card_length rest) = simp (length-take, length-drop) (omega arith) in
    sym (drop-drop amount_length at store)
    ∙ ap (drop amount_length) (sym (take-append-drop card_length rest))
    ∙ drop-append-le amount_length (take card_length rest) (drop card_length rest) long
    ∙ rw drop-drop

-- a word put at the place of a card is that card's amount
pub amount_put_at :
    (store : List ℕ) (at : ℕ) (z : ℤ) → at + card_length ≤ length store →
    with_bytes store at (amount_word z) ≡ with_card store at (with_amount (card_at store at) z)
unfolding with_bytes with_card with_amount card_at
amount_put_at store at z fits = rw (behind_word store at fits) (simp append_assoc)
