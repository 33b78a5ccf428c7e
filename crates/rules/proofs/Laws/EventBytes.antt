-- Events are read back from their bytes, where each card has its length. Assumes nothing.
use Prim.Native.Nat.{ℕ, suc, ◌*◌, ◌/◌}
use native.Mathlib.Omega.{arith}
use mathlib.Core.Path.{◌≡◌, refl, sym, ap, ap₂, ◌∙◌}
use mathlib.Core.List.{List, [], ◌∷◌, ◌++◌, append_assoc}
use lib.ListN.{length, length-append, take}
use lib.Seq.{take_at, get_or-append_seam, get_or-append-add, drop-append-add}
use Rattle.rules.specs.Card.{card_length, IsCard}
use Rattle.rules.specs.Event.{Event}
use Rattle.rules.specs.Encoding.{event_length, event_at, bytes_of_event, bytes_of_events, events_from, events_in}
use Rattle.rules.proofs.Laws.Each.{Each}

-- the event's card has its length
abbrev pub IsWhole : Event → Type 0
IsWhole e = IsCard e.card

pub length_of_event : (e : Event) → IsWhole e → length (bytes_of_event e) ≡ event_length
length_of_event e whole = omega (arith, whole)

pub events_length : (es : List Event) → Each IsWhole es → length (bytes_of_events es) ≡ event_length * length es
unfolding bytes_of_events Each
events_length [] whole = refl
events_length (e ∷ es) (first, later) =
    length-append (bytes_of_event e) (bytes_of_events es) ∙ omega (arith, first, events_length es later)

-- an event with other bytes before it and behind it
pub event_behind :
    (front : List ℕ) (e : Event) (rest : List ℕ) → IsWhole e → event_at (front ++ (bytes_of_event e ++ rest)) (length front) ≡ e
event_behind front e rest whole =
    let bytes = bytes_of_event e ++ rest in
    let card =
    ap (take card_length) (drop-append-add front bytes 3) ∙ take_at e.card rest card_length whole in
    λ i. record {
      code = get_or-append_seam front e.code (e.number ∷ e.account ∷ (e.card ++ rest)) 0 i;
      number = get_or-append-add front bytes 1 0 i;
      account = get_or-append-add front bytes 2 0 i;
      card = card i;
    }

-- events with other bytes before them: those of i events
events_behind :
    (front : List ℕ) (i : ℕ) (es : List Event) → length front ≡ event_length * i → Each IsWhole es →
    events_from (front ++ bytes_of_events es) i (length es) ≡ es
unfolding events_from bytes_of_events Each
events_behind front i [] long whole = refl
events_behind front i (e ∷ es) long (first, later) =
    ap₂ ◌∷◌
    (ap (event_at (front ++ (bytes_of_event e ++ bytes_of_events es))) (sym long) ∙ event_behind front e (bytes_of_events es) first)
    (ap (λ bytes. events_from bytes (suc i) (length es)) (sym (append_assoc front (bytes_of_event e) (bytes_of_events es)))
    ∙ events_behind (front ++ bytes_of_event e) (suc i) es longer later)
  where
    longer : length (front ++ bytes_of_event e) ≡ event_length * suc i
    longer = length-append front (bytes_of_event e) ∙ omega (arith, long, length_of_event e first)

pub read_back : (es : List Event) → Each IsWhole es → events_in (bytes_of_events es) ≡ es
unfolding events_in
read_back es whole =
    let many : length (bytes_of_events es) / event_length ≡ length es = omega (arith, events_length es whole) in
    ap (events_from (bytes_of_events es) 0) many ∙ events_behind [] 0 es refl whole
