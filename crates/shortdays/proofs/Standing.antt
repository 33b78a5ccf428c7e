-- Where the search stands when a candidate is written behind the first p events, when it is taken, and when it is taken back.
-- Assumes nothing.
use Prim.Native.Nat.{ℕ, ◌+◌, ◌-◌, ◌*◌, ◌≤◌}
use native.Mathlib.Omega.{arith}
use mathlib.Core.Path.{◌≡◌, refl, sym, ap, ◌∙◌}
use mathlib.Core.Bool.{true}
use mathlib.Core.List.{List, [], ◌∷◌, ◌++◌, append_assoc, append-nil}
use lib.Dec.{eqb}
use lib.ListN.{length, take, drop, length-append, length-drop}
use lib.Seq.{length-take-le, take_at, take-take}
use borrow.Author.Tests.{eqb-true, eq-eqb}
use Rattle.rules.specs.Range.{all}
use Rattle.rules.specs.Card.{card_length}
use Rattle.rules.specs.Event.{Event}
use Rattle.rules.specs.Ledger.{Ledger}
use Rattle.rules.specs.Encoding.{event_length, event_at, bytes_of_event, bytes_of_events, events_in}
use Rattle.rules.specs.Step.{step}
use Rattle.rules.specs.Run.{run}
use Rattle.rules.specs.Serial.Demand.{opening_under}
use Rattle.rules.proofs.Laws.Tests.{and_left, and_right, and_both}
use Rattle.rules.proofs.Laws.Each.{Each}
use Rattle.rules.proofs.Laws.EventBytes.{IsWhole, length_of_event, event_behind, read_back}
use Rattle.rules.proofs.Demand.Proper.{Proper, opening_proper, run_keeps_proper}
use Rattle.shortdays.specs.Written.{with_event}
use Rattle.shortdays.specs.Search.{Reached, Searching}

-- ---- an event written behind p others

module _ (list : List ℕ) (p : ℕ) (e : Event) (whole : IsWhole e) (room : event_length * (p + 1) ≤ length list) where
  abbrev front : List ℕ
  front = take (event_length * p) list

  abbrev rest : List ℕ
  rest = drop (event_length * (p + 1)) list

  front_length : length front ≡ event_length * p
  front_length = length-take-le (event_length * p) list (omega arith)

  both_length : length (front ++ bytes_of_event e) ≡ event_length * (p + 1)
  both_length = length-append front (bytes_of_event e) ∙ omega (arith, front_length, length_of_event e whole)

  written_length : length (with_event list p e) ≡ length list
  unfolding with_event
  written_length =
      length-append (front ++ bytes_of_event e) rest
      ∙ omega (arith, both_length, length-drop (event_length * (p + 1)) list)

  pub written_here : event_at (with_event list p e) (event_length * p) ≡ e
  unfolding with_event
  written_here =
      ap (λ bytes. event_at bytes (event_length * p)) (append_assoc front (bytes_of_event e) rest)
      ∙ ap (event_at (front ++ (bytes_of_event e ++ rest))) (sym front_length)
      ∙ event_behind front e rest whole

  pub written_before : take (event_length * p) (with_event list p e) ≡ front
  unfolding with_event
  written_before =
      ap (take (event_length * p)) (append_assoc front (bytes_of_event e) rest)
      ∙ take_at front (bytes_of_event e ++ rest) (event_length * p) front_length

  pub written_up_to : take (event_length * (p + 1)) (with_event list p e) ≡ front ++ bytes_of_event e
  unfolding with_event
  written_up_to = take_at (front ++ bytes_of_event e) rest (event_length * (p + 1)) both_length

-- ---- one event more

run_one_more : (s : Ledger) (es : List Event) (e : Event) → (run s (es ++ (e ∷ []))).after ≡ (step (run s es).after e).after
unfolding run
run_one_more s [] e = refl
run_one_more s (f ∷ es) e = run_one_more (step s f).after es e

bytes_one_more : (es : List Event) (e : Event) → bytes_of_events (es ++ (e ∷ [])) ≡ bytes_of_events es ++ bytes_of_event e
unfolding bytes_of_events
bytes_one_more [] e = append-nil (bytes_of_event e)
bytes_one_more (f ∷ es) e =
    ap (λ bytes. bytes_of_event f ++ bytes) (bytes_one_more es e)
    ∙ sym (append_assoc (bytes_of_event f) (bytes_of_events es) (bytes_of_event e))

whole_one_more :
    (es : List Event) (e : Event) → all (λ f. eqb (length f.card) card_length) es ≡ true → IsWhole e →
    all (λ f. eqb (length f.card) card_length) (es ++ (e ∷ [])) ≡ true
unfolding all
whole_one_more [] e each whole = and_both (eq-eqb _ _ whole) refl
whole_one_more (f ∷ es) e each whole =
    and_both (and_left (eqb (length f.card) card_length) _ each)
    (whole_one_more es e (and_right (eqb (length f.card) card_length) _ each) whole)

each_whole : (es : List Event) → all (λ f. eqb (length f.card) card_length) es ≡ true → Each IsWhole es
unfolding all Each
each_whole [] each = tt
each_whole (e ∷ es) each = (
  eqb-true _ _ (and_left (eqb (length e.card) card_length) _ each),
  each_whole es (and_right (eqb (length e.card) card_length) _ each),
)

-- ---- the ledger that the first p events lead to

module _ {rule p : ℕ} {list : List ℕ} {s : Ledger} (r : Reached rule p list s) where
  pub reached_proper : Proper s
  reached_proper = rw r.led (run_keeps_proper (opening_under rule) r.events (opening_proper rule))

  reached_kept : (after : List ℕ) → take (event_length * p) after ≡ take (event_length * p) list → Reached rule p after s
  reached_kept after kept =
      record { events = r.events; many = r.many; whole = r.whole; written = kept ∙ r.written; led = r.led }

  reached_next :
      (e : Event) → IsWhole e → event_length * (p + 1) ≤ length list → Reached rule (p + 1) (with_event list p e) (step s e).after
  reached_next e whole room =
      record {
        events = r.events ++ (e ∷ []);
        many = length-append r.events (e ∷ []) ∙ ap (λ n. n + 1) r.many;
        whole = whole_one_more r.events e r.whole whole;
        written =
            written_up_to list p e whole room
            ∙ ap (λ bytes. bytes ++ bytes_of_event e) r.written
            ∙ sym (bytes_one_more r.events e);
        led = ap (λ t. (step t e).after) r.led ∙ sym (run_one_more (opening_under rule) r.events e);
      }

  pub reached_again :
      (after : List ℕ) → take (event_length * p) after ≡ take (event_length * p) list →
      (run (opening_under rule) (events_in (take (event_length * p) after))).after ≡ s
  reached_again after kept =
      ap (λ bytes. (run (opening_under rule) (events_in bytes)).after) (kept ∙ r.written)
      ∙ ap (λ es. (run (opening_under rule) es).after) (read_back r.events (each_whole r.events r.whole))
      ∙ sym r.led

-- ---- a search goes on where its first p events and its ledger are kept

pub searching_kept :
    {rule p left : ℕ} {list : List ℕ} {s : Ledger} → Searching rule p left list s → (after : List ℕ) (t : Ledger) →
    length after ≡ length list → take (event_length * p) after ≡ take (event_length * p) list → t ≡ s →
    Searching rule p left after t
searching_kept h after t same kept back =
    rw back
    (record { long = same ∙ h.long; some = h.some; few = h.few; reached = reached_kept h.reached after kept })

-- ---- and it goes on behind an event that is written and taken

pub searching_next :
    {rule p left : ℕ} {list : List ℕ} {s : Ledger} → Searching rule p left list s → (e : Event) → IsWhole e →
    event_length * (p + 1) ≤ length list → 1 ≤ left - 1 → {after : List ℕ} {t : Ledger} →
    after ≡ with_event list p e → t ≡ (step s e).after →
    Searching rule (p + 1) (left - 1) after t
searching_next {p = p} {list = list} h e whole room more written stepped =
    rw (written, stepped)
    (record {
      long = written_length list p e whole room ∙ h.long;
      some = more;
      few = omega (arith, h.some, h.few);
      reached = reached_next h.reached e whole room;
    })

-- ---- fewer events of a list that is kept

pub fewer_kept :
    (p : ℕ) (list after : List ℕ) → take (event_length * (p + 1)) after ≡ take (event_length * (p + 1)) list →
    take (event_length * p) after ≡ take (event_length * p) list
fewer_kept p list after kept =
    let fewer : event_length * p ≤ event_length * (p + 1) = omega arith in
    sym (take-take (event_length * p) (event_length * (p + 1)) after fewer)
    ∙ ap (take (event_length * p)) kept
    ∙ take-take (event_length * p) (event_length * (p + 1)) list fewer
