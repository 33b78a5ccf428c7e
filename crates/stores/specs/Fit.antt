-- What the functions on stores ask of their callers. Assumes nothing.
use Rattle.std.specs.Prelude.{ℕ, ◌+◌, ◌≤◌, ◌≡◌, List, length}
use Rattle.rules.specs.Card.{card_length, shadow_length}

-- RULES 1.1: the store has all bytes of a card at this place
pub record CardFits (store : List ℕ) (at : ℕ) : Type 0 where
  pub fits : at + card_length ≤ length store

-- RULES 1.4: the store has all bytes of a shadow store
abbrev pub IsShadow : List ℕ → Type 0
IsShadow shadow = length shadow ≡ shadow_length
