-- A card put into a store: its length, what stands at its place then and at any other. Assumes nothing.
use Prim.Native.Nat.{ℕ, ◌+◌, ◌-◌, ◌≤◌, ◌<◌}
use native.Mathlib.Omega.{arith}
use native.Mathlib.Decide.{dec_lt}
use mathlib.Core.Path.{◌≡◌, sym, ap, ◌∙◌}
use mathlib.Core.Logic.{◌⊎◌, inl, inr}
use mathlib.Core.List.{List, ◌++◌}
use lib.ListN.{length, take, drop, get_or, length-append, length-take, length-drop, get_or-append}
use lib.Seq.{length-take-le, get_or-append-add, get_or-take, get_or-drop, ext_get_or}
use Rattle.rules.specs.Card.{card_length, card_at, with_card}

-- a place at which a card fits
abbrev pub Fits : List ℕ → ℕ → Type 0
Fits store at = at + card_length ≤ length store

pub card_at_length : (store : List ℕ) (at : ℕ) → Fits store at → length (card_at store at) ≡ card_length
unfolding card_at
card_at_length store at fits = length-take-le card_length (drop at store) (rw length-drop (omega arith))

-- a byte outside the 32 of the card at a place, and a card that shares no byte with it
abbrev pub Outside : ℕ → ℕ → Type 0
Outside at i = (i < at) ⊎ (at + card_length ≤ i)

abbrev pub Apart : ℕ → ℕ → Type 0
Apart at other = (other + card_length ≤ at) ⊎ (at + card_length ≤ other)

-- a byte of the card that stands at a place
pub card_at_byte : (store : List ℕ) (at i : ℕ) → i < card_length → get_or (card_at store at) i 0 ≡ get_or store (at + i) 0
unfolding card_at
card_at_byte store at i h = get_or-take card_length (drop at store) i 0 h ∙ get_or-drop at store i 0

-- the card at a place is known by its bytes
card_at_by_bytes :
    (store : List ℕ) (at : ℕ) (card : List ℕ) → Fits store at → length card ≡ card_length →
    ((i : ℕ) → i < card_length → get_or store (at + i) 0 ≡ get_or card i 0) → card_at store at ≡ card
card_at_by_bytes store at card fits whole same =
    ext_get_or 0 (card_at store at) card (card_at_length store at fits ∙ sym whole)
    (λ i h. let below = rw (card_at_length store at fits) at h in card_at_byte store at i below ∙ same i below)

-- an element of the second of two lists
get_d_second : (p q : List ℕ) (n i : ℕ) → length p ≡ n → get_or (p ++ q) (n + i) 0 ≡ get_or q i 0
get_d_second p q n i e = rw (← e) (get_or-append-add p q i 0)

module _ (store : List ℕ) (at : ℕ) (card : List ℕ) (fits : Fits store at) (whole : length card ≡ card_length) where
  pub with_card_length : length (with_card store at card) ≡ length store
  unfolding with_card
  with_card_length = simp (length-append, length-take, length-drop) (omega arith)

  before_length : length (take at store) ≡ at
  before_length = length-take-le at store (omega arith)

  up_to_card_length : length (take at store ++ card) ≡ at + card_length
  up_to_card_length = rw (length-append, before_length, whole)

  pub with_card_outside : (i : ℕ) → Outside at i → get_or (with_card store at card) i 0 ≡ get_or store i 0
  unfolding with_card
  with_card_outside i (inl h) =
      get_or-append (take at store ++ card) _ 0 i (rw up_to_card_length (omega arith))
      ∙ get_or-append (take at store) card 0 i (rw before_length h)
      ∙ get_or-take at store i 0 h
  with_card_outside i (inr h) =
      let behind : at + card_length + (i - (at + card_length)) ≡ i = omega arith in
      ap (λ j. get_or (with_card store at card) j 0) (sym behind)
      ∙ get_d_second (take at store ++ card) _ (at + card_length) _ up_to_card_length
      ∙ get_or-drop (at + card_length) store _ 0
      ∙ ap (λ j. get_or store j 0) behind

  pub with_card_inside : (i : ℕ) → i < card_length → get_or (with_card store at card) (at + i) 0 ≡ get_or card i 0
  unfolding with_card
  with_card_inside i h =
      get_or-append (take at store ++ card) _ 0 (at + i) (rw up_to_card_length (omega arith))
      ∙ get_d_second (take at store) card at i before_length

  pub card_at_same : card_at (with_card store at card) at ≡ card
  card_at_same = card_at_by_bytes (with_card store at card) at card (rw with_card_length fits) whole with_card_inside

  pub card_at_apart : (other : ℕ) → Fits store other → Apart at other → card_at (with_card store at card) other ≡ card_at store other
  card_at_apart other h apart =
      card_at_by_bytes (with_card store at card) other (card_at store other) (rw with_card_length h) (card_at_length store other h)
      (λ i below. with_card_outside (other + i) (outside apart i below) ∙ sym (card_at_byte store other i below))
    where
      outside : Apart at other → (i : ℕ) → i < card_length → Outside at (other + i)
      outside (inl before) i below = inl (omega arith)
      outside (inr behind) i below = inr (omega arith)

  -- a byte that the card leaves as it was, or doesn't reach
  pub with_card_leaves :
      (i : ℕ) → ((j : ℕ) → j < card_length → at + j ≡ i → get_or card j 0 ≡ get_or store i 0) →
      get_or (with_card store at card) i 0 ≡ get_or store i 0
  with_card_leaves i leaves = by_place (dec_lt i at) (dec_lt i (at + card_length))
    where
      by_place : Dec (i < at) → Dec (i < at + card_length) → get_or (with_card store at card) i 0 ≡ get_or store i 0
      by_place (yes before) _ = with_card_outside i (inl before)
      by_place (no _) (no behind) = with_card_outside i (inr (omega arith))
      by_place (no above) (yes below) =
          let here : at + (i - at) ≡ i = omega arith in
          rw here at (with_card_inside (i - at) (omega arith) ∙ leaves (i - at) (omega arith) here)

  inside_byte : (i : ℕ) → at ≤ i → i < at + card_length → get_or (with_card store at card) i 0 ≡ get_or card (i - at) 0
  inside_byte i above below =
      let here : at + (i - at) ≡ i = omega arith in
      rw here at (with_card_inside (i - at) (omega arith))

-- a byte is one of the card's at a place, or outside it
one_of_card : (at i : ℕ) → ((at ≤ i) × (i < at + card_length)) ⊎ Outside at i
one_of_card at i = by_place (dec_lt i at) (dec_lt i (at + card_length))
  where
    by_place : Dec (i < at) → Dec (i < at + card_length) → ((at ≤ i) × (i < at + card_length)) ⊎ Outside at i
    by_place (yes before) _ = inr (inl before)
    by_place (no above) (yes below) = inl (omega arith)
    by_place (no above) (no behind) = inr (inr (omega arith))

-- two cards that share no byte may be put in either order
pub with_card_swap :
    (store : List ℕ) (at other : ℕ) (card second : List ℕ) → Fits store at → Fits store other → length card ≡ card_length →
    length second ≡ card_length → Apart at other →
    with_card (with_card store at card) other second ≡ with_card (with_card store other second) at card
with_card_swap store at other card second fits_at fits_other whole whole_second apart =
    ext_get_or 0 _ _ (both_put ∙ sym both_put')
    (λ i _. by_place i (one_of_card at i) (one_of_card other i))
  where
    first_length : length (with_card store at card) ≡ length store
    first_length = with_card_length store at card fits_at whole

    second_length : length (with_card store other second) ≡ length store
    second_length = with_card_length store other second fits_other whole_second

    fits_other' : Fits (with_card store at card) other
    fits_other' = rw first_length fits_other

    fits_at' : Fits (with_card store other second) at
    fits_at' = rw second_length fits_at

    both_put : length (with_card (with_card store at card) other second) ≡ length store
    both_put = with_card_length (with_card store at card) other second fits_other' whole_second ∙ first_length

    both_put' : length (with_card (with_card store other second) at card) ≡ length store
    both_put' = with_card_length (with_card store other second) at card fits_at' whole ∙ second_length

    outside : (i : ℕ) → at ≤ i → i < at + card_length → Apart at other → Outside other i
    outside i above below (inl before) = inr (omega arith)
    outside i above below (inr behind) = inl (omega arith)

    by_place :
        (i : ℕ) → ((at ≤ i) × (i < at + card_length)) ⊎ Outside at i → ((other ≤ i) × (i < other + card_length)) ⊎ Outside other i →
        get_or (with_card (with_card store at card) other second) i 0 ≡ get_or (with_card (with_card store other second) at card) i 0
    by_place i (inl (above, below)) _ =
        with_card_outside (with_card store at card) other second fits_other' whole_second i (outside i above below apart)
        ∙ inside_byte store at card fits_at whole i above below
        ∙ sym (inside_byte (with_card store other second) at card fits_at' whole i above below)
    by_place i (inr out) (inl (above, below)) =
        inside_byte (with_card store at card) other second fits_other' whole_second i above below
        ∙ sym (with_card_outside (with_card store other second) at card fits_at' whole i out
        ∙ inside_byte store other second fits_other whole_second i above below)
    by_place i (inr out) (inr out_other) =
        with_card_outside (with_card store at card) other second fits_other' whole_second i out_other
        ∙ with_card_outside store at card fits_at whole i out
        ∙ sym (with_card_outside (with_card store other second) at card fits_at' whole i out
        ∙ with_card_outside store other second fits_other whole_second i out_other)
