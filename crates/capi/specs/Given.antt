-- RULES 5, 11.5 and 15.4: an answer as numbers, and the card of a look, as a C caller is given them. Assumes nothing.
use Rattle.std.specs.Prelude.{ℕ, ◌≡◌, Bool, cond, List, ◌++◌, length, drop, Result, Ok, Err}
use Rattle.rules.specs.declared.refusal.Refusal.{Refusal}
use Rattle.rules.specs.Ledger.{ledger_of}
use Rattle.rules.specs.Encoding.{words_of}
use Rattle.rules.specs.Step.{Outcome}

-- the words are those of the outcome's answer, and the ledger is the one that the outcome leaves
pub record GivesWords (words table base shadow : List ℕ) (o : Outcome) : Type 0 where
  pub says : words ≡ words_of o.answer
  pub leaves : ledger_of table base shadow ≡ o.after

-- the bytes that a look gave, at the front of the caller's; a refused look gives none, and the caller's stay
abbrev pub shown_in : List ℕ → List ℕ → List ℕ
shown_in card part = part ++ drop (length part) card

-- RULES 15.4: the kind of the answer to a call for a short day
abbrev pub refused_day : ℕ
refused_day = 0

abbrev pub given_day : ℕ
given_day = 1

abbrev pub no_day : ℕ
no_day = 2

abbrev pub short_kind : Result Bool Refusal → ℕ
short_kind (Ok is_placed) = cond is_placed given_day no_day
short_kind (Err refusal) = refused_day
