-- RULES 11.4: a whole day, which is a file run on a new table over its opening base store, and its listing. Assumes nothing.
use Rattle.std.specs.Prelude.{ℕ, ◌*◌, ◌≡◌, cond, not, List, ◌++◌, eqb, length, drop}
use Rattle.rules.specs.Card.{base_length, shadow_length}
use Rattle.rules.specs.Table.{table_length, new_table}
use Rattle.rules.specs.Ledger.{Ledger, ledger_of}
use Rattle.rules.specs.Encoding.{most_events, answer_length, events_in, words_of_all}
use Rattle.rules.specs.Cause.{store_length_cause, is_store_length_wrong, unsound_cause}
use Rattle.rules.specs.Run.{Ran, run}
use Rattle.dayread.specs.File.{event_bytes, file_fault}
use Rattle.dayread.specs.Opening.{opening_base}
use Rattle.text.specs.Text.{refused_line}
use Rattle.text.specs.Put.{put_at}
use Rattle.listing.specs.Listing.{answer_lines, last_line}

-- why a day isn't run, 0 where it is
unfoldable pub day_cause : Ledger → List ℕ → ℕ
day_cause s file =
    cond (is_store_length_wrong s.base s.shadow) store_length_cause
    (cond (not (eqb (length s.table) table_length)) unsound_cause
    (file_fault file))

-- what holds of a day that is run, which has no such cause (proofs/Days.antt)
pub record Accepts (s : Ledger) (file : List ℕ) : Type 0 where
  pub base_fits : length s.base ≡ base_length
  pub shadow_fits : length s.shadow ≡ shadow_length
  pub table_fits : length s.table ≡ table_length
  pub clean : file_fault file ≡ 0

-- room for the words of a day's answers
abbrev pub HasAnswerRoom : List ℕ → Type 0
HasAnswerRoom words = length words ≡ answer_length * most_events

-- the day's events, run on a new table over the opening base store and a shadow store
unfoldable pub day_run : List ℕ → List ℕ → Ran
day_run shadow file = run (ledger_of new_table (opening_base file) shadow) (events_in (event_bytes file))

-- its answers at the front of a buffer of words
unfoldable pub day_words : List ℕ → List ℕ → List ℕ → List ℕ
day_words shadow file buffer =
    let words = words_of_all (day_run shadow file).answers in
    words ++ drop (length words) buffer

-- the ledger after the day: what its run leaves, or what stood there where it has a cause
unfoldable pub day_ledger : Ledger → List ℕ → Ledger
day_ledger s file = cond (eqb (day_cause s file) 0) (day_run s.shadow file).after s

-- the lines of a day that is run
unfoldable pub day_lines : List ℕ → List ℕ → List ℕ
day_lines shadow file =
    let ran = day_run shadow file in
    answer_lines 1 ran.answers ++ last_line ran.answers ran.after.table

-- the listing of a day
unfoldable pub listing : Ledger → List ℕ → List ℕ
listing s file = cond (eqb (day_cause s file) 0) (day_lines s.shadow file) (refused_line (day_cause s file))

-- what the call gives back: the listing's length, the buffer with the listing at its front, and the ledger
pub record Day : Type 0 where
  pub size : ℕ
  pub buffer : List ℕ
  pub after : Ledger

abbrev pub day_of : ℕ → List ℕ → Ledger → Day
day_of size buffer after = record { size = size; buffer = buffer; after = after }

unfoldable pub run_day : Ledger → List ℕ → List ℕ → Day
run_day s file buffer =
    let lines = listing s file in
    day_of (length lines) (put_at buffer 0 lines) (day_ledger s file)
