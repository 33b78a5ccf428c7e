-- RULES 11.3: a list of events in one call. Assumes nothing.
use Rattle.std.specs.Prelude.{ℕ, ◌+◌, ◌/◌, ◌%◌, ◌≤◌, Bool, not, cond, ◌||◌, List, [], ◌∷◌, ◌++◌, eqb, ltb, length, drop}
use Rattle.rules.specs.Ledger.{Ledger}
use Rattle.rules.specs.Encoding.{event_length, events_in, answer_length, words_of_all}
use Rattle.rules.specs.Cause.{first_cause, length_cause, store_causes}
use Rattle.rules.specs.Run.{run}

-- a buffer has all words of an answer at this place
abbrev pub AnswerFits : List ℕ → ℕ → Type 0
AnswerFits buffer at = at + answer_length ≤ length buffer

-- bytes that are no whole number of events, or a buffer too short for the answers
abbrev pub is_list_length_wrong : List ℕ → List ℕ → Bool
is_list_length_wrong bytes buffer =
    not (eqb (length bytes % event_length) 0) || ltb (length buffer / answer_length) (length bytes / event_length)

-- why a list isn't run, 0 where it is
unfoldable pub list_cause : Ledger → List ℕ → List ℕ → ℕ
list_cause s bytes buffer =
    first_cause
    (store_causes s.table s.base s.shadow
    ++ (record { number = length_cause; applies = is_list_length_wrong bytes buffer } ∷ []))

-- what a list call gives back: its cause, the ledger after it, and the buffer of the answers
pub record Listed : Type 0 where
  pub cause : ℕ
  pub after : Ledger
  pub answers : List ℕ

abbrev pub listed_of : ℕ → Ledger → List ℕ → Listed
listed_of cause after answers = record { cause = cause; after = after; answers = answers }

-- the events run one after the other, with every answer at the front of the buffer; or a cause, and all as it was
unfoldable pub run_list : Ledger → List ℕ → List ℕ → Listed
run_list s bytes buffer =
    let cause = list_cause s bytes buffer in
    let ran = run s (events_in bytes) in
    let words = words_of_all ran.answers in
    cond (eqb cause 0)
    (listed_of 0 ran.after (words ++ drop (length words) buffer))
    (listed_of cause s buffer)
