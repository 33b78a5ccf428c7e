-- RULES 15.1: what a short day is: by its events, and by what is answered to them. The term is that of RULES 15. Assumes nothing.
use Rattle.std.specs.Prelude.{ℕ, suc, ◌+◌, ◌≤◌, ◌≡◌, true, not, cond, List, [], ◌∷◌, eqb, length, replicate}
use Rattle.rules.specs.Range.{all}
use Rattle.rules.specs.Card.{card_length}
use Rattle.rules.specs.Event.{Event, start_code, write_code, abort_code}
use Rattle.rules.specs.Answer.{is_refused}
use Rattle.rules.specs.Run.{run}
use Rattle.rules.specs.Serial.Demand.{opening_under}

-- how many events one has at most
abbrev pub most_short : ℕ
most_short = 6

-- its only account
abbrev pub short_account : ℕ
short_account = 0

-- the card of an event with this code that has p events before it: a write's is filled with its place, counted from 1
abbrev pub card_for : ℕ → ℕ → List ℕ
card_for code p = replicate card_length (cond (eqb code write_code) (p + 1) 0)

-- e may stand in one, as far as it alone decides, with p events before it
pub record IsShort (p : ℕ) (e : Event) : Type 0 where
  pub coded : (start_code ≤ e.code) × (e.code ≤ abort_code)
  pub placed : e.account ≡ short_account
  pub carded : e.card ≡ card_for e.code p

-- so may each of them, with p events before the first
unfoldable pub AreShort : ℕ → List Event → Type 0
AreShort p [] = Unit {0}
AreShort p (e ∷ es) = IsShort p e × AreShort (suc p) es

-- es is a short day of k events under the rule
pub record IsShortDay (k rule : ℕ) (es : List Event) : Type 0 where
  pub many : length es ≡ k
  pub short : AreShort 0 es
  pub taken : all (λ a. not (is_refused a)) (run (opening_under rule) es).answers ≡ true
