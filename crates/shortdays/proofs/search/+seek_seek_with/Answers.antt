-- `seek` and `seek_with` meet their contracts, by one proof for the two. Assumes nothing.
use Prim.Native.Nat.{ℕ, ◌+◌, ◌-◌, ◌*◌, ◌≤◌}
use native.Mathlib.Omega.{arith}
use mathlib.Core.Path.{◌≡◌, sym, ap, ◌∙◌}
use mathlib.Core.Bool.{Bool, true, false, not, cond, true≢false}
use mathlib.Core.Logic.{◌≢◌}
use Rattle.std.proofs.lemmas.Bool.{eqb-true, eq-eqb, not-false}
use mathlib.Core.List.{List}
use lib.Dec.{eqb}
use lib.ListN.{length, length-replicate}
use Rattle.std.specs.Prelude.{Ok, Err}
use Rattle.rules.specs.Card.{card_length}
use Rattle.rules.specs.Event.{Event, write_code}
use Rattle.rules.specs.Ledger.{Ledger, ledger_of}
use Rattle.rules.specs.Encoding.{event_length, event_at}
use Rattle.rules.specs.Cause.{later_cause}
use Rattle.rules.specs.Step.{Outcome, step}
use Rattle.rules.proofs.Laws.EventBytes.{IsWhole}
use Rattle.rules.proofs.Demand.Proper.{Proper}
use Rattle.enumeration.specs.Lists.{candidate_count, code_tried, candidate, beginning_from, lists}
use Rattle.shortdays.specs.Written.{with_event}
use Rattle.shortdays.specs.Search.{Searching, Sought, IsSought}
use Rattle.shortdays.proofs.Standing.{written_here, reached_proper, reached_again, searching_next}
use Rattle.shortdays.proofs.Places.{past_refused, found_last, past_last, found_behind, kept_behind, past_behind}
use Rattle.shortdays.proofs.Places.{none_left, found_first, past_first, sought_in_all}
use Rattle.shortdays.proofs.search.+seek_seek_with.Goals as goal

-- ---- `seek`

pub seek-returns-then-c-eq-CANDIDATES : goal.seek-returns-then-c-eq-CANDIDATES
seek-returns-then-c-eq-CANDIDATES t c =
    let args = c.args in
    none_left (lists (args.left - 1) (args.p + 1)) args.p (ledger_of args.table.now args.base.now args.shadow.now) args.c
    c.if-c-eq-CANDIDATES.true

pub seek-returns-in-Ok : goal.seek-returns-in-Ok
seek-returns-in-Ok t c =
    let args = c.args in
    let last = c.seek_with.new in
    found_first (lists (args.left - 1) (args.p + 1)) args.p (ledger_of args.table.now args.base.now args.shadow.now) args.c
    (omega arith) args.left {t = ledger_of last.table last.base last.shadow} c.in-Ok.ensures

pub seek-returns-in-Err : goal.seek-returns-in-Err
seek-returns-in-Err t c =
    let args = c.args in
    let mid = c.seek_with.new in
    let rest = c.seek in
    past_first (lists (args.left - 1) (args.p + 1)) args.p (ledger_of args.table.now args.base.now args.shadow.now) args.c
    (omega arith) args.left {t = ledger_of mid.table mid.base mid.shadow}
    (ledger_of rest.new.table rest.new.base rest.new.shadow) rest.new.list rest.result
    c.in-Err.ensures rest.ensures

-- ---- `seek_with`

-- the answer of `is_refused`, as a fact of the cause
caused : {n : ℕ} {refused : Bool} → refused ≡ not (eqb n 0) → refused ≡ true → n ≢ 0
caused {n = n} is given none = true≢false (sym given ∙ is ∙ ap not (eq-eqb n 0 none))

uncaused : {n : ℕ} {refused : Bool} → refused ≡ not (eqb n 0) → refused ≡ false → n ≡ 0
uncaused {n = n} is given = eqb-true n 0 (not-false (eqb n 0) (sym is ∙ given))

tried_whole : (p c : ℕ) → IsWhole (candidate p c)
tried_whole p c = length-replicate {A = ℕ} card_length (cond (eqb (code_tried c) write_code) (p + 1) 0)

module _ {rule p left : ℕ} {list : List ℕ} {s : Ledger} (h : Searching rule p left list s) where
  room : event_length * (p + 1) ≤ length list
  room = omega (arith, h.long, h.some, h.few)

  proper : Proper s
  proper = reached_proper h.reached

  -- the candidate is written, and its cause is asked
  module _ (c : ℕ) {put : List ℕ} (written : put ≡ with_event list p (candidate p c)) where
    put_here : event_at put (event_length * p) ≡ candidate p c
    put_here =
        ap (λ bytes. event_at bytes (event_length * p)) written
        ∙ written_here list p (candidate p c) (tried_whole p c) room

    asked :
        {e : Event} → e ≡ event_at put (event_length * p) →
        later_cause s.table s.base e ≡ later_cause s.table s.base (candidate p c)
    asked here = ap (later_cause s.table s.base) (here ∙ put_here)

    -- it is taken
    stepped : {e : Event} {o : Outcome} → e ≡ event_at put (event_length * p) → o ≡ step s e → o.after ≡ (step s (candidate p c)).after
    stepped here is = ap (λ (o : Outcome). o.after) is ∙ ap (λ e. (step s e).after) (here ∙ put_here)

    -- what is sought behind it, among all lists that follow it
    sought_behind :
        (i : ℕ) {taken : Ledger} (last : Ledger) (after : List ℕ) {result : Sought} (r : Sought) → 1 ≤ left - 1 →
        taken ≡ (step s (candidate p c)).after → result ≡ r →
        IsSought (beginning_from (lists (left - 1 - 1) (p + 1 + 1)) (p + 1) taken (candidate_count - 0) 0) i (p + 1) (left - 1)
        taken last put after result →
        IsSought (lists (left - 1) (p + 1) (step s (candidate p c)).after) i (p + 1) (left - 1) (step s (candidate p c)).after
        last (with_event list p (candidate p c)) after r
    sought_behind i last after r more step_is result_is sought =
        sought_in_all (left - 1) (p + 1) i (step s (candidate p c)).after last (with_event list p (candidate p c)) after r
        more step_is written result_is sought

pub seek_with-is_refused-requires-clause-sound : goal.seek_with-is_refused-requires-clause-sound
seek_with-is_refused-requires-clause-sound t c = (proper c.requires.searching).sound

pub seek_with-is_refused-requires-clause-base : goal.seek_with-is_refused-requires-clause-base
seek_with-is_refused-requires-clause-base t c = (proper c.requires.searching).base_fits

pub seek_with-returns-then-is_refused : goal.seek_with-returns-then-is_refused
seek_with-returns-then-is_refused t c =
    let args = c.args in
    let h = c.requires.searching in
    let cause = asked h args.c c.put_candidate.ensures c.event_at.ensures in
    rw c.put_candidate.ensures
    (past_refused args.list.now args.p (candidate args.p args.c) (tried_whole args.p args.c) (room h) (proper h)
    (lists (args.left - 1) (args.p + 1)) args.i (λ none. caused c.is_refused.ensures c.if-is_refused.true (cause ∙ none)))

pub seek_with-returns-then-i-eq0 : goal.seek_with-returns-then-i-eq0
seek_with-returns-then-i-eq0 t c =
    let args = c.args in
    let h = c.requires.searching in
    let cause = asked h args.c c.put_candidate.ensures c.event_at.ensures in
    rw (c.if-i-eq0.true, c.if-left-eq1.true, c.put_candidate.ensures)
    (found_last args.list.now args.p (candidate args.p args.c) (tried_whole args.p args.c) (room h) (proper h)
    (sym cause ∙ uncaused c.is_refused.ensures c.if-is_refused.false))

pub seek_with-returns-then-left-eq1 : goal.seek_with-returns-then-left-eq1
seek_with-returns-then-left-eq1 t c =
    let args = c.args in
    let h = c.requires.searching in
    let cause = asked h args.c c.put_candidate.ensures c.event_at.ensures in
    rw (c.if-left-eq1.true, c.put_candidate.ensures)
    (past_last args.list.now args.p (candidate args.p args.c) (tried_whole args.p args.c) (room h) (proper h)
    (sym cause ∙ uncaused c.is_refused.ensures c.if-is_refused.false) args.i c.if-i-eq0.false)

pub seek_with-sound_event-requires-clause-sound : goal.seek_with-sound_event-requires-clause-sound
seek_with-sound_event-requires-clause-sound t c = (proper c.requires.searching).sound

pub seek_with-sound_event-requires-clause-stores_fit : goal.seek_with-sound_event-requires-clause-stores_fit
seek_with-sound_event-requires-clause-stores_fit t c =
    let fits = proper c.requires.searching in
    record { base_fits = fits.base_fits; shadow_fits = fits.shadow_fits }

pub seek_with-seek-requires : goal.seek_with-seek-requires
seek_with-seek-requires t c =
    let args = c.args in
    let h = c.requires.searching in
    let more : 1 ≤ args.left - 1 = omega arith in
    let put = c.put_candidate.ensures in
    let searching =
    searching_next h (candidate args.p args.c) (tried_whole args.p args.c) (room h) more put
    (stepped h args.c put c.event_at-2.ensures c.sound_event.ensures)
    in
    (omega arith, (searching, omega arith))

pub seek_with-bring_back-requires-clause-table_long : goal.seek_with-bring_back-requires-clause-table_long
seek_with-bring_back-requires-clause-table_long t c =
    c.seek.auto.table ∙ c.sound_event.auto.table ∙ (proper c.requires.searching).sound.long

pub seek_with-bring_back-requires-clause-stores_fit : goal.seek_with-bring_back-requires-clause-stores_fit
seek_with-bring_back-requires-clause-stores_fit t c =
    let fits = proper c.requires.searching in
    record {
      base_fits = c.seek.auto.base ∙ c.sound_event.auto.base ∙ fits.base_fits;
      shadow_fits = c.seek.auto.shadow ∙ c.sound_event.auto.shadow ∙ fits.shadow_fits;
    }

pub seek_with-returns-in-Ok : goal.seek_with-returns-in-Ok
seek_with-returns-in-Ok t c =
    let args = c.args in
    let h = c.requires.searching in
    let put = c.put_candidate.ensures in
    let none = sym (asked h args.c put c.event_at.ensures) ∙ uncaused c.is_refused.ensures c.if-is_refused.false in
    let more : 1 ≤ args.left - 1 = omega arith in
    let last = c.seek.new in
    found_behind args.list.now args.p (candidate args.p args.c) (tried_whole args.p args.c) (room h) (proper h) none args.left
    more
    (sought_behind h args.c put args.i (ledger_of last.table last.base last.shadow) last.list (Ok c.in-Ok.field-0) more
    (stepped h args.c put c.event_at-2.ensures c.sound_event.ensures) c.in-Ok.is c.seek.ensures)

pub seek_with-returns-in-Err : goal.seek_with-returns-in-Err
seek_with-returns-in-Err t c =
    let args = c.args in
    let h = c.requires.searching in
    let put = c.put_candidate.ensures in
    let none = sym (asked h args.c put c.event_at.ensures) ∙ uncaused c.is_refused.ensures c.if-is_refused.false in
    let more : 1 ≤ args.left - 1 = omega arith in
    let whole = tried_whole args.p args.c in
    let last = c.seek.new in
    let past =
    sought_behind h args.c put args.i (ledger_of last.table last.base last.shadow) last.list (Err c.in-Err.past) more
    (stepped h args.c put c.event_at-2.ensures c.sound_event.ensures) c.in-Err.is c.seek.ensures
    in
    let kept = kept_behind args.list.now args.p (candidate args.p args.c) whole (room h) (proper h) none args.left past in
    past_behind args.list.now args.p (candidate args.p args.c) whole (room h) (proper h) none args.left past
    (c.bring_back.ensures ∙ reached_again h.reached last.list kept)
