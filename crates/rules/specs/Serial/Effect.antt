-- What an action has done to an account, and what a read sees through it. Assumes nothing.
use Rattle.std.specs.Prelude.{ℕ, List, ℤ, ◌+ℤ◌}

-- nothing; it has put a card of its own there; or, on a charge account, it has added a sum
pub data Effect : Type 0 where
  nothing : Effect
  puts : (card : List ℕ) → Effect
  adds : (sum : ℤ) → Effect

-- two effects on one account, the second first: an own card replaces what was there, a sum joins one that is there. (No action
-- has both a card and a sum for one account.)
unfoldable pub lay : Effect → Effect → Effect
lay nothing before = before
lay (puts card) before = puts card
lay (adds sum) nothing = adds sum
lay (adds sum) (puts card) = puts card
lay (adds sum) (adds before) = adds (before +ℤ sum)

-- the card that an account shows through an effect: the own card, else the one above; a sum leaves it
unfoldable pub card_over : Effect → List ℕ → List ℕ
card_over nothing card = card
card_over (puts own) card = own
card_over (adds sum) card = card

-- the amount that a charge account shows through an effect: a sum joins the amount above
unfoldable pub sum_over : Effect → ℤ → ℤ
sum_over nothing amount = amount
sum_over (puts own) amount = amount
sum_over (adds sum) amount = amount +ℤ sum
