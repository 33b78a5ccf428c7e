-- The lines made and the starts counted from the words of answers are those of the answers, and so is the listing. Assumes
-- nothing.
use Prim.Native.Nat.{ℕ, suc, ◌+◌, ◌*◌, ◌<◌}
use native.Mathlib.Nat.{add-zero}
use native.Mathlib.Omega.{arith}
use mathlib.Core.Path.{◌≡◌, refl, sym, ap, ap₂, ◌∙◌}
use mathlib.Core.Bool.{Bool, true, false, cond}
use mathlib.Core.List.{List, [], ◌∷◌, ◌++◌, append_assoc}
use lib.Dec.{lit<}
use lib.ListN.{length, drop, get_or, get_or-append}
use lib.Seq.{get_or-drop, drop-drop, drop_at}
use Rattle.rules.specs.declared.Answer.{Answer}
use Rattle.rules.specs.declared.Answer.TheVariants.{Started, Read, ReadSum, Written, Added, Entered, Ready, JudgedFailed, Committed, Failed, Aborted, Refused}
use Rattle.rules.specs.Range.{filter}
use Rattle.rules.specs.Answer.{said}
use Rattle.rules.specs.Encoding.{answer_length, words_of, words_of_all}
use Rattle.rules.proofs.Laws.AnswerWords.{words_length}
use Rattle.listing.specs.Listing.{said_text, answer_line, answer_lines, is_started, starts_in, last_line}
use Rattle.listing.specs.Buffer.{word_of, numbers_of, said_sum, text_of, line_of, line_at, lines_of, starts_of, starts_from, listing_of}

-- the text that four words give is the answer's
pub text_of_words :
    (a : Answer)
    → text_of (get_or (words_of a) 0 0) (get_or (words_of a) 1 0) (get_or (words_of a) 2 0) (get_or (words_of a) 3 0) ≡ said_text (said a)
unfolding text_of word_of numbers_of said_sum
text_of_words (Refused c) = refl
text_of_words (Started n) = refl
text_of_words (Read holder moves) = refl
text_of_words Written = refl
text_of_words (Committed t) = refl
text_of_words (Failed t k) = refl
text_of_words (Aborted n left) = refl
text_of_words Added = refl
text_of_words (ReadSum holder moves x) = refl
text_of_words Entered = refl
text_of_words (Ready left) = refl
text_of_words (JudgedFailed left) = refl

-- an answer's words, where they are the ith four
module _ (words rest : List ℕ) (i : ℕ) (a : Answer) (here : drop (answer_length * i) words ≡ words_of a ++ rest) where
  word : (k : ℕ) → k < answer_length → get_or words (answer_length * i + k) 0 ≡ get_or (words_of a) k 0
  word k h =
      sym (get_or-drop (answer_length * i) words k 0)
      ∙ ap (λ (l : List ℕ). get_or l k 0) here
      ∙ get_or-append (words_of a) rest 0 k (omega (arith, words_length a))

  kind : get_or words (answer_length * i) 0 ≡ get_or (words_of a) 0 0
  kind = rw add-zero at (word 0 (lit< tt))

  line : (place : ℕ) → line_at words place i ≡ answer_line place a
  unfolding line_of
  line place = rw (kind, word 1 (lit< tt), word 2 (lit< tt), word 3 (lit< tt), text_of_words a)

  behind : drop (answer_length * suc i) words ≡ rest
  behind =
      let on : answer_length * suc i ≡ answer_length * i + answer_length = omega arith in
      rw (on, ← drop-drop answer_length (answer_length * i) words, here) (drop_at (words_of a) rest answer_length (words_length a))

lines_from :
    (words rest : List ℕ) (place i : ℕ) (answers : List Answer)
    → drop (answer_length * i) words ≡ words_of_all answers ++ rest
    → lines_of words place i (length answers) ≡ answer_lines place answers
unfolding lines_of answer_lines words_of_all
lines_from words rest place i [] e = refl
lines_from words rest place i (a ∷ answers) e =
    let here = e ∙ append_assoc (words_of a) (words_of_all answers) rest in
    ap₂ (λ (first others : List ℕ). first ++ others)
    (line words _ i a here place)
    (lines_from words rest (suc place) (suc i) answers (behind words _ i a here))

-- the lines from the words of all answers are the lines of the answers
lines_of_answers :
    (answers : List Answer) (rest : List ℕ)
    → lines_of (words_of_all answers ++ rest) 1 0 (length answers) ≡ answer_lines 1 answers
lines_of_answers answers rest = lines_from (words_of_all answers ++ rest) rest 1 0 answers refl

-- one more is counted where a test takes it in
counted : {A : Type 0} (b : Bool) (x : A) (rest : List A) → cond b 1 0 + length rest ≡ length (cond b (x ∷ rest) rest)
counted true x rest = omega arith
counted false x rest = omega arith

begins_from :
    (words rest : List ℕ) (i : ℕ) (answers : List Answer)
    → drop (answer_length * i) words ≡ words_of_all answers ++ rest
    → starts_from words i (length answers) ≡ starts_in answers
unfolding starts_from starts_in filter words_of_all
begins_from words rest i [] e = refl
begins_from words rest i (a ∷ answers) e =
    let here = e ∙ append_assoc (words_of a) (words_of_all answers) rest in
    ap₂ (λ (first others : ℕ). first + others)
    (ap starts_of (kind words _ i a here))
    (begins_from words rest (suc i) answers (behind words _ i a here))
    ∙ counted (is_started a) a (filter is_started answers)

-- the starts counted from the words of all answers are the starts among the answers
starts_of_answers :
    (answers : List Answer) (rest : List ℕ)
    → starts_from (words_of_all answers ++ rest) 0 (length answers) ≡ starts_in answers
starts_of_answers answers rest = begins_from (words_of_all answers ++ rest) rest 0 answers refl

-- the listing made from the words of all answers has the answers' lines and the last line of the answers and the table
pub listing_of_answers :
    (answers : List Answer) (rest table : List ℕ)
    → listing_of (words_of_all answers ++ rest) (length answers) table ≡ answer_lines 1 answers ++ last_line answers table
unfolding listing_of
listing_of_answers answers rest table = rw (lines_of_answers answers rest, starts_of_answers answers rest)
