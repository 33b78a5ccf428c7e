-- Events as bytes and answers as words, as they lie in a caller's buffers. Assumes nothing.
use Rattle.std.specs.Prelude.{ℕ, zero, suc, ◌+◌, ◌*◌, ◌/◌, List, [], ◌∷◌, ◌++◌, length, take, drop, get_or}
use Rattle.rules.specs.declared.Answer.{Answer}
use Rattle.rules.specs.declared.Answer.TheVariants.{Started, Read, ReadSum, Written, Added, Entered, Ready, JudgedFailed, Committed, Failed, Aborted, Refused}
use Rattle.rules.specs.Card.{card_length}
use Rattle.rules.specs.Event.{Event}
use Rattle.rules.specs.Refusal.{refusal_number}

-- RULES 9.1: the bytes of an event: code, number, account, card
abbrev pub event_length : ℕ
event_length = 35

-- RULES 9.1: how many events a day file has at most
abbrev pub most_events : ℕ
most_events = 1000

abbrev pub event_at : List ℕ → ℕ → Event
event_at bytes at =
    record {
      code = get_or bytes at 0;
      number = get_or bytes (at + 1) 0;
      account = get_or bytes (at + 2) 0;
      card = take card_length (drop (at + 3) bytes);
    }

-- the bytes of an event, and those of events one after the other; they are read back where each card has its length
abbrev pub bytes_of_event : Event → List ℕ
bytes_of_event e = e.code ∷ e.number ∷ e.account ∷ e.card

unfoldable pub bytes_of_events : List Event → List ℕ
bytes_of_events [] = []
bytes_of_events (e ∷ es) = bytes_of_event e ++ bytes_of_events es

-- the n events from the ith on
unfoldable pub events_from : List ℕ → ℕ → ℕ → List Event
events_from bytes i zero = []
events_from bytes i (suc n) = event_at bytes (event_length * i) ∷ events_from bytes (suc i) n

unfoldable pub events_in : List ℕ → List Event
events_in bytes = events_from bytes 0 (length bytes / event_length)

-- RULES 5: the words of an answer: its kind, then its numbers, 0 where there are fewer than three
abbrev pub answer_length : ℕ
answer_length = 4

abbrev pub refused_kind : ℕ
refused_kind = 0

abbrev pub started_kind : ℕ
started_kind = 1

abbrev pub read_kind : ℕ
read_kind = 2

abbrev pub written_kind : ℕ
written_kind = 3

abbrev pub committed_kind : ℕ
committed_kind = 4

abbrev pub failed_kind : ℕ
failed_kind = 5

abbrev pub aborted_kind : ℕ
aborted_kind = 6

abbrev pub added_kind : ℕ
added_kind = 7

abbrev pub read_sum_kind : ℕ
read_sum_kind = 8

abbrev pub entered_kind : ℕ
entered_kind = 9

abbrev pub ready_kind : ℕ
ready_kind = 10

abbrev pub judged_failed_kind : ℕ
judged_failed_kind = 11

-- RULES 5: the words of a refused event, by the number of its cause, and those of any answer
abbrev pub refused_words : ℕ → List ℕ
refused_words number = refused_kind ∷ number ∷ 0 ∷ 0 ∷ []

abbrev pub words_of : Answer → List ℕ
words_of (Refused refusal) = refused_words (refusal_number refusal)
words_of (Started n) = started_kind ∷ n ∷ 0 ∷ 0 ∷ []
words_of (Read holder moves) = read_kind ∷ holder ∷ moves ∷ 0 ∷ []
words_of Written = written_kind ∷ 0 ∷ 0 ∷ 0 ∷ []
words_of (Committed t) = committed_kind ∷ t ∷ 0 ∷ 0 ∷ []
words_of (Failed t k) = failed_kind ∷ t ∷ k ∷ 0 ∷ []
words_of (Aborted n left) = aborted_kind ∷ n ∷ left ∷ 0 ∷ []
words_of Added = added_kind ∷ 0 ∷ 0 ∷ 0 ∷ []
words_of (ReadSum holder moves x) = read_sum_kind ∷ holder ∷ moves ∷ x ∷ []
words_of Entered = entered_kind ∷ 0 ∷ 0 ∷ 0 ∷ []
words_of (Ready left) = ready_kind ∷ left ∷ 0 ∷ 0 ∷ []
words_of (JudgedFailed left) = judged_failed_kind ∷ left ∷ 0 ∷ 0 ∷ []

unfoldable pub words_of_all : List Answer → List ℕ
words_of_all [] = []
words_of_all (a ∷ answers) = words_of a ++ words_of_all answers

-- a buffer with an answer's words put at a place
abbrev pub with_words : List ℕ → ℕ → List ℕ → List ℕ
with_words buffer at words = take at buffer ++ words ++ drop (at + answer_length) buffer
