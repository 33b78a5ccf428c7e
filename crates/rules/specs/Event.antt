-- RULES 2.1: events. Any number and any card may stand in one; what is wrong with it is its cause (Cause.antt).
-- Assumes nothing.
use Rattle.std.specs.Prelude.{ℕ, Bool, List, [], eqb}

pub record Event : Type 0 where
  pub code : ℕ
  pub number : ℕ
  pub account : ℕ
  pub card : List ℕ

abbrev pub event_of : ℕ → ℕ → ℕ → List ℕ → Event
event_of code number account card = record { code = code; number = number; account = account; card = card }

-- the codes
abbrev pub start_code : ℕ
start_code = 1

abbrev pub read_code : ℕ
read_code = 2

abbrev pub write_code : ℕ
write_code = 3

abbrev pub commit_code : ℕ
commit_code = 4

abbrev pub abort_code : ℕ
abort_code = 5

abbrev pub add_code : ℕ
add_code = 6

abbrev pub enter_code : ℕ
enter_code = 7

abbrev pub judge_code : ℕ
judge_code = 8

abbrev pub is_start : Event → Bool
is_start e = eqb e.code start_code

abbrev pub is_read : Event → Bool
is_read e = eqb e.code read_code

abbrev pub is_write : Event → Bool
is_write e = eqb e.code write_code

abbrev pub is_commit : Event → Bool
is_commit e = eqb e.code commit_code

abbrev pub is_abort : Event → Bool
is_abort e = eqb e.code abort_code

abbrev pub is_add : Event → Bool
is_add e = eqb e.code add_code

abbrev pub is_enter : Event → Bool
is_enter e = eqb e.code enter_code

abbrev pub is_judge : Event → Bool
is_judge e = eqb e.code judge_code

-- the events by name, with nothing in the parts that they have no use for
abbrev pub start_under : ℕ → Event
start_under p = event_of start_code p 0 []

abbrev pub read_by : ℕ → ℕ → Event
read_by n k = event_of read_code n k []

abbrev pub write_by : ℕ → ℕ → List ℕ → Event
write_by n k c = event_of write_code n k c

abbrev pub commit_of : ℕ → Event
commit_of n = event_of commit_code n 0 []

abbrev pub abort_of : ℕ → Event
abort_of n = event_of abort_code n 0 []

abbrev pub add_by : ℕ → ℕ → List ℕ → Event
add_by n k c = event_of add_code n k c

abbrev pub enter_of : ℕ → Event
enter_of n = event_of enter_code n 0 []

abbrev pub judge_of : ℕ → Event
judge_of n = event_of judge_code n 0 []
