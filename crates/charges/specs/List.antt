-- RULES 14.1 and 14.2: a list of charges, and what may be wrong with it. Assumes nothing.
use Rattle.std.specs.Prelude.{◌≡◌, ℕ, zero, suc, ◌+◌, ◌*◌, ◌/◌, ◌%◌, Bool, cond, not, ◌&&◌, List, [], ◌∷◌, length, ℤ, ◌==◌, nat_lt, slice_index}
use Rattle.rules.specs.Card.{account_count, is_charge}
use Rattle.rules.specs.Amount.{amount_of, is_addable}
use Rattle.rules.specs.Cause.{first_cause, length_cause, count_cause, kind_cause, amount_cause}
use Rattle.amounts.specs.Word.{word_at}

-- ---- RULES 14.1: the charges

-- the bytes of a charge: its account, and behind it its cents
abbrev pub charge_length : ℕ
charge_length = 9

abbrev pub most_charges : ℕ
most_charges = 1000

-- the longest list
abbrev pub list_length : ℕ
list_length = charge_length * most_charges

-- how many charges a list has
abbrev pub charges_in : List ℕ → ℕ
charges_in list = length list / charge_length

-- where the ith charge stands, counted from 0; its account, its cents' word, and its cents
abbrev pub charge_place : ℕ → ℕ
charge_place i = charge_length * i

abbrev pub account_charged : List ℕ → ℕ → ℕ
account_charged list i = slice_index list (charge_place i)

abbrev pub word_charged : List ℕ → ℕ → ℕ
word_charged list i = word_at list (charge_place i + 1)

abbrev pub cents_charged : List ℕ → ℕ → ℤ
cents_charged list i = amount_of (word_charged list i)

-- ---- RULES 14.2: the faults. They have the numbers of a day file's and of an event's

-- of a charge: its account is one of the charge accounts
abbrev pub is_to_charge : List ℕ → ℕ → Bool
is_to_charge list i = is_charge (account_charged list i) && nat_lt (account_charged list i) account_count

-- the ith charge's fault, 0 where it has none
unfoldable pub charge_fault : List ℕ → ℕ → ℕ
charge_fault list i =
    first_cause
    (record { number = kind_cause; applies = not (is_to_charge list i) }
    ∷ record { number = amount_cause; applies = not (is_addable (cents_charged list i)) }
    ∷ [])

-- that of the first bad one among the n charges from the ith on, 0 where none is bad
unfoldable pub charges_fault : List ℕ → ℕ → ℕ → ℕ
charges_fault list i zero = 0
charges_fault list i (suc n) =
    cond (charge_fault list i == 0)
    (charges_fault list (suc i) n)
    (charge_fault list i)

-- the list's fault, 0 where it has none: more bytes than the longest list has, then a last charge that is cut short, then the
-- charges'
unfoldable pub list_fault : List ℕ → ℕ
list_fault list =
    cond (nat_lt list_length (length list)) count_cause
    (cond (not (length list % charge_length == 0)) length_cause
    (charges_fault list 0 (charges_in list)))

-- a list that is not refused
pub record IsFaultless (list : List ℕ) : Type 0 where
  pub faultless : list_fault list ≡ 0
