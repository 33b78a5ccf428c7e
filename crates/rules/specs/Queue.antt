-- RULES 1.7 and 1.10: the two queues of the actions that wait to be judged, each by the kind h of those who stand in it, and the
-- three changes of a queue. Its words are read and changed by `word` and `with_word` as all others are. Assumes nothing.
use Rattle.std.specs.Prelude.{ℕ, suc, ◌+◌, ◌*◌, Bool, not, cond, ◌&&◌, List, [], ◌∷◌, ◌++◌, map, ltb, eqb, length}
use Rattle.rules.specs.Range.{up_from, any, filter}
use Rattle.rules.specs.Kind.{kinds}
use Rattle.rules.specs.Table.{entry_fields, word, with_word}
use Rattle.rules.specs.Walk.{is_aborted_by}

-- ---- its words

-- its length, a word of the head's row
abbrev pub queue_length_fields : ℕ
queue_length_fields = 3

abbrev pub queue_length_field : ℕ → ℕ
queue_length_field h = queue_length_fields + h

abbrev pub queue_length : List ℕ → ℕ → ℕ
queue_length w h = word w 0 (queue_length_field h)

abbrev pub with_queue_length : List ℕ → ℕ → ℕ → List ℕ
with_queue_length w h v = with_word w 0 (queue_length_field h) v

-- the entry at position i, three words of row i that are none of action i's
abbrev pub entry_width : ℕ
entry_width = 3

abbrev pub number_field : ℕ → ℕ
number_field h = entry_fields + entry_width * h

abbrev pub verdict_field : ℕ → ℕ
verdict_field h = number_field h + 1

abbrev pub ready_field : ℕ → ℕ
ready_field h = number_field h + 2

-- those words: of the action's number, its verdict and its readiness
abbrev pub entry_number : List ℕ → ℕ → ℕ → ℕ
entry_number w h i = word w i (number_field h)

abbrev pub entry_verdict : List ℕ → ℕ → ℕ → ℕ
entry_verdict w h i = word w i (verdict_field h)

abbrev pub entry_readiness : List ℕ → ℕ → ℕ → ℕ
entry_readiness w h i = word w i (ready_field h)

-- all three, as they stand there
pub record Entry : Type 0 where
  pub number : ℕ
  pub verdict : ℕ
  pub readiness : ℕ

unfoldable pub entry_at : List ℕ → ℕ → ℕ → Entry
entry_at w h i = record { number = entry_number w h i; verdict = entry_verdict w h i; readiness = entry_readiness w h i }

unfoldable pub with_entry : List ℕ → ℕ → ℕ → Entry → List ℕ
with_entry w h i e =
    let numbered = with_word w i (number_field h) e.number in
    let settled = with_word numbered i (verdict_field h) e.verdict in
    with_word settled i (ready_field h) e.readiness

-- the verdicts that an enter settles; any word but `good` is that of a failed one
abbrev pub good : ℕ
good = 0

abbrev pub failed : ℕ
failed = 1

abbrev pub has_failed : Entry → Bool
has_failed e = not (eqb e.verdict good)

-- readiness before and after the judge; any word but `unready` is that of a ready one
abbrev pub unready : ℕ
unready = 0

abbrev pub ready : ℕ
ready = 1

abbrev pub is_ready : Entry → Bool
is_ready e = not (eqb e.readiness unready)

-- ---- what it says

-- the entries from the head to the tail
unfoldable pub queue : List ℕ → ℕ → List Entry
queue w h = map (entry_at w h) (up_from 1 (queue_length w h))

-- the entry is n's
abbrev pub is_of : ℕ → Entry → Bool
is_of n e = eqb n e.number

-- n stands in queue h; its verdict is failed; it is ready
unfoldable pub is_queued : List ℕ → ℕ → ℕ → Bool
is_queued w h n = any (is_of n) (queue w h)

unfoldable pub is_queued_failed : List ℕ → ℕ → ℕ → Bool
is_queued_failed w h n = any (λ e. is_of n e && has_failed e) (queue w h)

unfoldable pub is_queued_ready : List ℕ → ℕ → ℕ → Bool
is_queued_ready w h n = any (λ e. is_of n e && is_ready e) (queue w h)

-- n is queued, in whichever queue
unfoldable pub is_waiting : List ℕ → ℕ → Bool
is_waiting w n = any (λ h. is_queued w h n) kinds

-- the action at the head, and whether there is one and it is ready
abbrev pub head_of : List ℕ → ℕ → ℕ
head_of w h = entry_number w h 1

unfoldable pub is_head_ready : List ℕ → ℕ → Bool
is_head_ready w h = ltb 0 (queue_length w h) && is_ready (entry_at w h 1)

-- ---- its changes

-- these entries put at the positions from i on
unfoldable pub with_entries : List ℕ → ℕ → ℕ → List Entry → List ℕ
with_entries w h i [] = w
with_entries w h i (e ∷ es) = with_entries (with_entry w h i e) h (suc i) es

-- these entries and no others; words above the new length stay
unfoldable pub with_queue : List ℕ → ℕ → List Entry → List ℕ
with_queue w h es = with_queue_length (with_entries w h 1 es) h (length es)

-- RULES 2.11: n at the tail, with the verdict that is settled
abbrev pub new_entry : ℕ → ℕ → Entry
new_entry n verdict = record { number = n; verdict = verdict; readiness = unready }

unfoldable pub with_tail : List ℕ → ℕ → ℕ → ℕ → List ℕ
with_tail w h n verdict = with_queue w h (queue w h ++ (new_entry n verdict ∷ []))

-- RULES 2.12: n ready
unfoldable pub readied : ℕ → Entry → Entry
readied n e = cond (is_of n e) (record { number = e.number; verdict = e.verdict; readiness = ready }) e

unfoldable pub with_ready : List ℕ → ℕ → ℕ → List ℕ
with_ready w h n = with_queue w h (map (readied n) (queue w h))

-- RULES 2.13: those taken out whom an abort of n reaches. A queued n has no live child, so this takes out n alone.
unfoldable pub keeps_place : List ℕ → ℕ → Entry → Bool
keeps_place w n e = not (is_aborted_by w n e.number)

unfoldable pub without_below : List ℕ → ℕ → ℕ → List ℕ
without_below w h n = with_queue w h (filter (keeps_place w n) (queue w h))
