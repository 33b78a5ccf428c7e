-- Accounts, cards and the two stores: how large they are, where a card stands, a card taken from a store and put into it.
-- Assumes nothing.
use Rattle.std.specs.Prelude.{ℕ, ◌+◌, ◌-◌, ◌*◌, ◌≤◌, ◌<◌, ◌≡◌, Bool, List, ◌++◌, leb, length, take, drop}
use Rattle.rules.specs.Range.{up_from}

-- RULES 1.1: how many accounts there are; they are numbered from 0
abbrev pub account_count : ℕ
account_count = 32

unfoldable pub accounts : List ℕ
accounts = up_from 0 account_count

abbrev pub IsAccount : ℕ → Type 0
IsAccount k = k < account_count

-- RULES 1.9: the charge accounts, document 02's term, are those from here on
abbrev pub first_charge : ℕ
first_charge = 24

abbrev pub charge_count : ℕ
charge_count = 8

-- of an account: it is a charge account
abbrev pub is_charge : ℕ → Bool
is_charge k = leb first_charge k

unfoldable pub charge_accounts : List ℕ
charge_accounts = up_from first_charge charge_count

abbrev pub IsCharge : ℕ → Type 0
IsCharge k = (first_charge ≤ k) × (k < account_count)

-- of an account: it is none
abbrev pub IsPlain : ℕ → Type 0
IsPlain k = k < first_charge

-- RULES 1.1: the bytes of a card
abbrev pub card_length : ℕ
card_length = 32

abbrev pub IsCard : List ℕ → Type 0
IsCard card = length card ≡ card_length

-- RULES 1.2: the bytes of the base store, and the place of an account's card there
abbrev pub base_length : ℕ
base_length = 1024

abbrev pub IsBase : List ℕ → Type 0
IsBase base = length base ≡ base_length

abbrev pub base_place : ℕ → ℕ
base_place k = card_length * k

-- RULES 1.4: the bytes of the shadow store, where action n's cards begin there, and the place of the one for account k
abbrev pub shadow_length : ℕ
shadow_length = 65536

abbrev pub cards_place : ℕ → ℕ
cards_place n = base_length * (n - 1)

abbrev pub shadow_place : ℕ → ℕ → ℕ
shadow_place n k = cards_place n + base_place k

-- both stores have their lengths
pub record StoresFit (base shadow : List ℕ) : Type 0 where
  pub base_fits : length base ≡ base_length
  pub shadow_fits : length shadow ≡ shadow_length

-- the card that stands at a place of a store
unfoldable pub card_at : List ℕ → ℕ → List ℕ
card_at store at = take card_length (drop at store)

-- the store with a card put at a place: no byte before the card or behind it changes
unfoldable pub with_card : List ℕ → ℕ → List ℕ → List ℕ
with_card store at card = take at store ++ card ++ drop (at + card_length) store
