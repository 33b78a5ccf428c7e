-- What the functions that make a report ask of their callers. Assumes nothing.
use Rattle.std.specs.Prelude.{ℕ, ◌+◌, ◌≤◌, ◌≡◌, true, List, length}
use Rattle.rules.specs.Card.{IsCharge}
use Rattle.rules.specs.Amount.{is_amount}
use Rattle.rules.specs.Table.{total_of}
use Rattle.rules.specs.Sound.{IsGiven, Sound}
use Rattle.rules.specs.Tree.{is_shown, report_length}

-- n is an action that is shown, or the store
abbrev pub IsShown : List ℕ → ℕ → Type 0
IsShown w n = is_shown w n ≡ true

-- n is an action that is shown
abbrev pub HasLine : List ℕ → ℕ → Type 0
HasLine w n = IsGiven w n × IsShown w n

-- the table is sound, and every total of its tree is an amount
pub record FiguresFit (w : List ℕ) : Type 0 where
  pub sound : Sound w
  pub totals : (n k : ℕ) → HasLine w n → IsCharge k → is_amount (total_of w n k) ≡ true

-- how many words an account has in a line, and all accounts together
abbrev pub account_words : ℕ
account_words = 2

abbrev pub figure_words : ℕ
figure_words = 16

-- there are so many words from a place on
abbrev pub HasRoomFor : ℕ → List ℕ → ℕ → Type 0
HasRoomFor many words at = at + many ≤ length words

abbrev pub IsReport : List ℕ → Type 0
IsReport words = length words ≡ report_length
