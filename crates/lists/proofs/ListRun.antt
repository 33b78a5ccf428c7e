-- A list of events, event by event: after each one, what is left to do leaves and answers what the whole list does. Assumes nothing.
use Prim.Native.Nat.{ℕ, suc, ◌+◌, ◌-◌, ◌*◌, ◌/◌, ◌%◌, ◌≤◌, ◌<◌}
use native.Mathlib.Omega.{arith}
use native.Mathlib.Nat.{sub-zero}
use native.Mathlib.Numerals.{add-one}
use mathlib.Core.Path.{◌≡◌, refl, ◌∙◌}
use mathlib.Core.Logic.{◌≢◌}
use mathlib.Core.Bool.{not, cond}
use mathlib.Core.List.{List, ◌∷◌, ◌++◌, append_assoc}
use lib.ListN.{length, take, drop, length-append, length-take, length-drop, take-append-drop}
use lib.Seq.{length-take-le, take_at, drop_at, drop-drop}
use lib.Dec.{eqb}
use borrow.Author.Tests.{lt-ltb, le-ltb, eq-eqb, ne_eqb}
use Rattle.rules.specs.Event.{Event}
use Rattle.rules.specs.Cause.{first_cause, length_cause, store_causes}
use Rattle.rules.specs.Ledger.{Ledger}
use Rattle.rules.specs.Step.{Outcome, step}
use Rattle.rules.specs.Run.{run}
use Rattle.rules.proofs.Laws.AnswerWords.{words_length}
use Rattle.rules.proofs.Sound.Kept.{step_keeps_sound}
use Rattle.rules.proofs.Stores.Untouched.{lengths_kept}
use Rattle.rules.specs.Encoding.{event_length, event_at, events_from, events_in, words_of, answer_length, with_words, words_of_all}
use Rattle.rules.proofs.Laws.Tests.{or_inr}
use Rattle.lists.specs.Listed.{is_list_length_wrong, list_cause, listed_of, run_list}
use Rattle.causes.proofs.Grouped.{Accepted, stores_refused, stores_passed}

-- ---- one answer's words in the buffer

module _ (buffer words : List ℕ) (at : ℕ) (four : length words ≡ answer_length) (room : at + answer_length ≤ length buffer) where
  with_words_length : length (with_words buffer at words) ≡ length buffer
  with_words_length = simp (length-append, length-take, length-drop) (omega arith)

  front_length : length (take at buffer ++ words) ≡ at + answer_length
  front_length = rw (length-append, length-take-le at buffer (omega arith), four)

  -- the words, then more of them and what stands behind them
  with_words_more :
      (more : List ℕ) →
      take at buffer ++ (words ++ more ++ drop (length (words ++ more)) (drop at buffer))
      ≡ take (at + answer_length) (with_words buffer at words)
      ++ (more ++ drop (length more) (drop (at + answer_length) (with_words buffer at words)))
  with_words_more more =
      let same : at + (answer_length + length more) ≡ at + answer_length + length more = omega arith in
      rw (
        take_at (take at buffer ++ words) (drop (at + answer_length) buffer) (at + answer_length) front_length,
        drop_at (take at buffer ++ words) (drop (at + answer_length) buffer) (at + answer_length) front_length,
        length-append words more,
        four,
        drop-drop (answer_length + length more) at buffer,
        drop-drop (length more) (at + answer_length) buffer,
        same,
      )
      (simp append_assoc)

-- ---- an event keeps what a list asks of table and stores

step_keeps_accepted :
    (s : Ledger) (e : Event) → Accepted s.table s.base s.shadow →
    Accepted (step s e).after.table (step s e).after.base (step s e).after.shadow
step_keeps_accepted s e (fits, good) =
    let same = lengths_kept s e in (
      record { base_fits = same.of_base ∙ fits.base_fits; shadow_fits = same.of_shadow ∙ fits.shadow_fits },
      step_keeps_sound s e good,
    )

-- ---- the answers to events from a state, at the front of a buffer

abbrev pub answered : Ledger → List Event → List ℕ → List ℕ
answered s es buffer = let words = words_of_all (run s es).answers in words ++ drop (length words) buffer

-- Of the n events of a list that is run from s, with its answers put into a buffer, the first i are done: now stands this state,
-- and this in the buffer. What is left leaves and answers what the whole list does.
pub record Done (s : Ledger) (bytes buffer : List ℕ) (n i : ℕ) (now : Ledger) (answers : List ℕ) : Type 0 where
  pub known : i ≤ n
  pub accepted : Accepted now.table now.base now.shadow
  pub long : length answers ≡ length buffer
  pub leaves : (run s (events_from bytes 0 n)).after ≡ (run now (events_from bytes i (n - i))).after
  pub words :
      answered s (events_from bytes 0 n) buffer
      ≡ take (answer_length * i) answers ++ answered now (events_from bytes i (n - i)) (drop (answer_length * i) answers)

module _ (s : Ledger) (bytes buffer : List ℕ) (n : ℕ) where
  pub none_done : Accepted s.table s.base s.shadow → Done s bytes buffer n 0 s buffer
  none_done a =
      record { known = omega arith; accepted = a; long = refl; leaves = rw sub-zero; words = rw sub-zero }

  events_next :
      (i : ℕ) → i < n →
      events_from bytes i (n - i) ≡ event_at bytes (event_length * i) ∷ events_from bytes (i + 1) (n - (i + 1))
  unfolding events_from
  events_next i h = let e : n - i ≡ suc (n - (i + 1)) = omega arith in rw (e, add-one i)

  module _ (i : ℕ) (now : Ledger) (answers : List ℕ) (d : Done s bytes buffer n i now answers) where
    pub one_done :
        i < n → answer_length * n ≤ length buffer → (o : Outcome) → o ≡ step now (event_at bytes (event_length * i)) →
        Done s bytes buffer n (i + 1) o.after (with_words answers (answer_length * i) (words_of o.answer))
    unfolding run words_of_all
    one_done below room o is =
        let e = event_at bytes (event_length * i) in
        let at = answer_length * i in
        let next : answer_length * (i + 1) ≡ at + answer_length = omega arith in
        let here : at + answer_length ≤ length answers = omega (arith, d.long) in
        let four = words_length (step now e).answer in
        rw is
        (record {
          known = omega arith;
          accepted = step_keeps_accepted now e d.accepted;
          long = with_words_length answers (words_of (step now e).answer) at four here ∙ d.long;
          leaves = d.leaves ∙ rw (events_next i below) refl;
          words = d.words ∙ rw (events_next i below, next) (with_words_more answers (words_of (step now e).answer) at four here _);
        })

    pub all_done : n ≤ i → ((run s (events_from bytes 0 n)).after ≡ now) × (answered s (events_from bytes 0 n) buffer ≡ answers)
    unfolding events_from run words_of_all
    all_done end =
        let none : n - i ≡ 0 = omega arith in
        (d.leaves ∙ rw none refl, d.words ∙ rw none (take-append-drop (answer_length * i) answers))

-- ---- the list as a whole

module _ (s : Ledger) (bytes buffer : List ℕ) where
  -- a cause is given, and all is left as it was
  pub list_refused : (cause : ℕ) → cause ≢ 0 → list_cause s bytes buffer ≡ cause → listed_of cause s buffer ≡ run_list s bytes buffer
  unfolding run_list
  list_refused cause given is = rw (is, ne_eqb cause 0 given)

  -- no cause is given, and every event is done
  pub list_ran :
      (now : Ledger) (answers : List ℕ) → list_cause s bytes buffer ≡ 0 →
      (run s (events_in bytes)).after ≡ now → answered s (events_in bytes) buffer ≡ answers →
      listed_of 0 now answers ≡ run_list s bytes buffer
  unfolding run_list
  list_ran now answers none leaves words = rw (none, ← leaves, ← words)

  -- which cause it is: 1 or 2, else 10 where the list or the buffer doesn't fit
  pub list_stores_cause :
      {cause : ℕ} → cause ≡ first_cause (store_causes s.table s.base s.shadow) → cause ≢ 0 →
      list_cause s bytes buffer ≡ cause
  unfolding list_cause
  list_stores_cause asked given = stores_refused s.table s.base s.shadow _ asked given

  list_length_cause :
      Accepted s.table s.base s.shadow → list_cause s bytes buffer ≡ cond (is_list_length_wrong bytes buffer) length_cause 0
  unfolding list_cause
  list_length_cause = stores_passed s.table s.base s.shadow _

  -- the list is cut inside an event
  pub cut_cause :
      Accepted s.table s.base s.shadow → length bytes % event_length ≢ 0 → list_cause s bytes buffer ≡ length_cause
  cut_cause accepted cut = list_length_cause accepted ∙ rw (ne_eqb (length bytes % event_length) 0 cut)

  -- the buffer has no room for its answers
  pub no_room_cause :
      Accepted s.table s.base s.shadow → length buffer / answer_length < length bytes / event_length →
      list_cause s bytes buffer ≡ length_cause
  no_room_cause accepted short =
      list_length_cause accepted ∙ rw (or_inr (not (eqb (length bytes % event_length) 0)) (lt-ltb _ _ short))

  pub no_list_cause :
      Accepted s.table s.base s.shadow → length bytes % event_length ≡ 0 →
      length bytes / event_length ≤ length buffer / answer_length → list_cause s bytes buffer ≡ 0
  no_list_cause accepted whole room =
      list_length_cause accepted ∙ rw (eq-eqb (length bytes % event_length) 0 whole, le-ltb _ _ room)
