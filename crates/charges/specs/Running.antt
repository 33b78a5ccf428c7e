-- RULES 14.3: an account's running record. A binary64 number is a `Float` of the kit's account of IEEE 754, where each operation
-- works out its result exactly and then rounds it once. Assumes nothing.
use Rattle.std.specs.Prelude.{◌≡◌, ℕ, zero, suc, true, false, cond, List, ℤ, pos, ◌+ℤ◌, ◌==◌, is_nan, Float}
use Rattle.std.specs.Float.{fin, binary64}
use Rattle.std.specs.Float.Ieee.{of_int, div, add}
use Rattle.rules.specs.Amount.{is_amount}
use Rattle.charges.specs.declared.running.Running.{Running}
use Rattle.charges.specs.List.{charges_in, account_charged, cents_charged}

-- 100 as a binary64 number
unfoldable pub hundred : Float
hundred = of_int binary64 (pos 100)

-- before the first charge: +0 and 0
abbrev pub uncharged : Running
uncharged = record { old = fin false 0 (pos 0); cents = pos 0 }

-- what a charge of c cents makes of a record
unfoldable pub charged_of : Running → ℤ → Running
charged_of r c = record { old = add binary64 r.old (div binary64 (of_int binary64 c) hundred); cents = r.cents +ℤ c }

-- the cents that a charge leaves are an amount (RULES 1.9), as they always are in a list without a fault
pub record SumFits (r : Running) (c : ℤ) : Type 0 where
  pub sum_fits : is_amount (r.cents +ℤ c) ≡ true

-- what the ith charge of a list makes of account a's record: nothing, where it is to another account
unfoldable pub charged_by : List ℕ → ℕ → ℕ → Running → Running
charged_by list a i r = cond (account_charged list i == a) (charged_of r (cents_charged list i)) r

-- account a's record after the first n charges
unfoldable pub running_after : List ℕ → ℕ → ℕ → Running
running_after list a zero = uncharged
running_after list a (suc n) = charged_by list a n (running_after list a n)

-- and after them all
abbrev pub running_of : List ℕ → ℕ → Running
running_of list a = running_after list a (charges_in list)

-- the old total is no NaN, as it never is in a list without a fault
pub record IsNumber (r : Running) : Type 0 where
  pub number : is_nan r.old ≡ false
