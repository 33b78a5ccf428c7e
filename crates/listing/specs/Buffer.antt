-- How long a listing is at most, and its lines from answers as they lie in words. Assumes nothing.
use Rattle.std.specs.Prelude.{ℕ, zero, suc, ◌+◌, ◌*◌, ◌≤◌, Bool, cond, ◌||◌, List, [], ◌∷◌, ◌++◌, eqb, length, get_or, ℤ}
use Rattle.std.proofs.Math.Option.{Option, none, some}
use Rattle.rules.specs.declared.Answer.TheVariants.{Started, Read, ReadSum, Written, Added, Entered, Ready, JudgedFailed, Committed, Failed, Aborted, Refused}
use Rattle.rules.specs.declared.refusal.Refusal.TheVariants.{StoreLength}
use Rattle.rules.specs.Kind.{top_kind, sub_kind}
use Rattle.rules.specs.Amount.{amount_of}
use Rattle.rules.specs.Table.{counter}
use Rattle.rules.specs.Answer.{said}
use Rattle.rules.specs.Encoding.{most_events, answer_length, refused_kind, started_kind, read_kind, written_kind, committed_kind, failed_kind, aborted_kind, added_kind, read_sum_kind, entered_kind, ready_kind}
use Rattle.text.specs.Text.{space, line_feed, decimal, spaced}
use Rattle.listing.specs.Listing.{spaced_sum, end_line}

-- RULES 11.4: the bytes of the buffer
abbrev pub listing_length : ℕ
listing_length = 81920

-- a buffer of words has this many answers, and they are no more than a day has events
abbrev pub HasAnswers : List ℕ → ℕ → Type 0
HasAnswers words count = (count ≤ most_events) × (answer_length * count ≤ length words)

-- RULES 5: the word of an answer, by its kind
unfoldable pub word_of : ℕ → List ℕ
word_of kind =
    cond (eqb kind refused_kind) (said (Refused StoreLength)).word
    (cond (eqb kind started_kind) (said (Started 0)).word
    (cond (eqb kind read_kind) (said (Read 0 0)).word
    (cond (eqb kind written_kind) (said Written).word
    (cond (eqb kind committed_kind) (said (Committed 0)).word
    (cond (eqb kind failed_kind) (said (Failed 0 0)).word
    (cond (eqb kind aborted_kind) (said (Aborted 0 0)).word
    (cond (eqb kind added_kind) (said Added).word
    (cond (eqb kind read_sum_kind) (said (ReadSum 0 0 0)).word
    (cond (eqb kind entered_kind) (said Entered).word
    (cond (eqb kind ready_kind) (said (Ready 0)).word
    (said (JudgedFailed 0)).word))))))))))

-- RULES 5: written, added and entered have no numbers
abbrev pub has_no_numbers : ℕ → Bool
has_no_numbers kind = eqb kind written_kind || eqb kind added_kind || eqb kind entered_kind

-- RULES 5: read, of either kind, failed, of a commit, and aborted have two numbers
abbrev pub has_two_numbers : ℕ → Bool
has_two_numbers kind = eqb kind read_kind || eqb kind failed_kind || eqb kind aborted_kind || eqb kind read_sum_kind

-- every other answer has one
unfoldable pub numbers_of : ℕ → ℕ → ℕ → List ℕ
numbers_of kind first second = cond (has_no_numbers kind) [] (first ∷ cond (has_two_numbers kind) (second ∷ []) [])

-- RULES 5: a read of a charge account has a sum, and its third word is the sum's
unfoldable pub said_sum : ℕ → ℕ → Option ℤ
said_sum kind third = cond (eqb kind read_sum_kind) (some (amount_of third)) none

unfoldable pub text_of : ℕ → ℕ → ℕ → ℕ → List ℕ
text_of kind first second third = word_of kind ++ spaced (numbers_of kind first second) ++ spaced_sum (said_sum kind third)

unfoldable pub line_of : ℕ → ℕ → ℕ → ℕ → ℕ → List ℕ
line_of place kind first second third = decimal place ++ (space ∷ text_of kind first second third) ++ (line_feed ∷ [])

-- the text of the ith answer
abbrev pub text_at : List ℕ → ℕ → List ℕ
text_at words i =
    text_of (get_or words (answer_length * i) 0) (get_or words (answer_length * i + 1) 0)
    (get_or words (answer_length * i + 2) 0) (get_or words (answer_length * i + 3) 0)

-- its line, with this place in front
abbrev pub line_at : List ℕ → ℕ → ℕ → List ℕ
line_at words place i =
    line_of place (get_or words (answer_length * i) 0) (get_or words (answer_length * i + 1) 0)
    (get_or words (answer_length * i + 2) 0) (get_or words (answer_length * i + 3) 0)

-- n lines from a place on, of the answers from the ith on
unfoldable pub lines_of : List ℕ → ℕ → ℕ → ℕ → List ℕ
lines_of words place i zero = []
lines_of words place i (suc n) = line_at words place i ++ lines_of words (suc place) (suc i) n

-- how many starts an answer of this kind is
abbrev pub starts_of : ℕ → ℕ
starts_of kind = cond (eqb kind started_kind) 1 0

-- how many of the n answers from the ith on are starts
unfoldable pub starts_from : List ℕ → ℕ → ℕ → ℕ
starts_from words i zero = 0
starts_from words i (suc n) = starts_of (get_or words (answer_length * i) 0) + starts_from words (suc i) n

-- the listing of a day that is run: a line for each of its answers, and the line of its starts and its table's two counters
unfoldable pub listing_of : List ℕ → ℕ → List ℕ → List ℕ
listing_of words count table =
    lines_of words 1 0 count ++ end_line (starts_from words 0 count) (counter table top_kind) (counter table sub_kind)
