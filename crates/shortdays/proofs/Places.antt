-- A place among the lists that begin with one candidate, and among those of all candidates from one on: what is found, or how far
-- it is past the last. Assumes nothing.
use Prim.Native.Nat.{ℕ, zero, suc, ◌+◌, ◌-◌, ◌*◌, ◌≤◌, ◌<◌}
use native.Mathlib.Omega.{arith}
use native.Mathlib.Nat.{zero-add}
use native.Mathlib.Numerals.{add-one}
use mathlib.Core.Path.{◌≡◌, refl, sym, ap, subst, ◌∙◌}
use mathlib.Core.Logic.{◌≢◌}
use mathlib.Core.List.{List, [], ◌∷◌, ◌++◌, map, append_assoc, append-nil}
use lib.ListN.{length, take, get_or, length-append, length-map, get_or-append}
use lib.Seq.{get_or-append-add}
use borrow.Author.Tests.{ne_eqb}
use Rattle.std.specs.Prelude.{Ok, Err}
use Rattle.rules.specs.Event.{Event}
use Rattle.rules.specs.Ledger.{Ledger}
use Rattle.rules.specs.Encoding.{event_length, bytes_of_event, bytes_of_events}
use Rattle.rules.specs.Cause.{later_cause}
use Rattle.rules.specs.Step.{step}
use Rattle.rules.specs.Run.{run}
use Rattle.rules.proofs.Laws.EventBytes.{IsWhole}
use Rattle.rules.proofs.Demand.Proper.{Proper}
use Rattle.rules.proofs.Demand.ProperSteps.{same_cause}
use Rattle.enumeration.specs.Lists.{candidate_count, candidate, beginning_by, beginning, beginning_from, lists}
use Rattle.shortdays.specs.Written.{with_event}
use Rattle.shortdays.specs.Search.{IsFound, IsPast, Sought, IsSought}
use Rattle.shortdays.proofs.Standing.{written_before, written_up_to, fewer_kept}

-- ---- the lists that begin with an event

module _ (follow : Ledger → List (List Event)) {s : Ledger} (proper : Proper s) (e : Event) where
  refused_none : later_cause s.table s.base e ≢ 0 → beginning follow s e ≡ []
  unfolding beginning_by
  refused_none given = rw (same_cause s proper e, ne_eqb _ 0 given)

  taken_all : later_cause s.table s.base e ≡ 0 → beginning follow s e ≡ map (λ es. e ∷ es) (follow (step s e).after)
  unfolding beginning_by
  taken_all none = rw (same_cause s proper e, none)

-- a place inside a list that was mapped
placed_behind :
    (e : Event) (days : List (List Event)) (i : ℕ) → i < length days →
    get_or (map (λ es. e ∷ es) days) i [] ≡ e ∷ get_or days i []
placed_behind e [] i within = absurd (omega arith)
placed_behind e (d ∷ days) zero within = refl
placed_behind e (d ∷ days) (suc i) within = placed_behind e days i (omega arith)

-- ---- a place among them, with the event written behind p others

module _
    (list : List ℕ) (p : ℕ) (e : Event) (whole : IsWhole e) (room : event_length * (p + 1) ≤ length list)
    {s : Ledger} (proper : Proper s) where
  pub past_refused :
      (follow : Ledger → List (List Event)) (i : ℕ) → later_cause s.table s.base e ≢ 0 →
      IsPast (beginning follow s e) i i p s s list (with_event list p e)
  past_refused follow i given =
      rw (refused_none follow proper e given)
      (record { beyond = sym (zero-add i); kept = written_before list p e whole room; back = refl })

  -- it is taken, and is the last: one list begins with it
  module _ (taken : later_cause s.table s.base e ≡ 0) where
    one_list : beginning (lists 0 (p + 1)) s e ≡ (e ∷ []) ∷ []
    unfolding lists
    one_list = taken_all (lists 0 (p + 1)) proper e taken

    pub found_last : IsFound (beginning (lists 0 (p + 1)) s e) 0 p 1 s s list (with_event list p e)
    unfolding bytes_of_events run
    found_last =
        rw one_list
        (record {
          within = omega arith;
          written =
              written_up_to list p e whole room
              ∙ ap (λ bytes. take (event_length * p) list ++ bytes) (sym (append-nil (bytes_of_event e)));
          led = refl;
        })

    pub past_last : (i : ℕ) → i ≢ 0 → IsPast (beginning (lists 0 (p + 1)) s e) i (i - 1) p s s list (with_event list p e)
    past_last i other =
        rw one_list (record { beyond = omega arith; kept = written_before list p e whole room; back = refl })

    -- it is taken, and the search goes on behind it
    module _ (left : ℕ) {i : ℕ} {t : Ledger} {after : List ℕ} where
      pub found_behind :
          1 ≤ left - 1 →
          IsFound (lists (left - 1) (p + 1) (step s e).after) i (p + 1) (left - 1) (step s e).after t (with_event list p e) after →
          IsFound (beginning (lists (left - 1) (p + 1)) s e) i p left s t list after
      unfolding bytes_of_events run
      found_behind more found =
          let days = lists (left - 1) (p + 1) (step s e).after in
          let here = placed_behind e days i found.within in
          let up_to : p + left ≡ p + 1 + (left - 1) = omega arith in
          let next : left - 1 ≡ suc (left - 1 - 1) = omega arith in
          rw (taken_all (lists (left - 1) (p + 1)) proper e taken)
          (record {
            within = rw (length-map days (λ es. e ∷ es)) found.within;
            written =
                ap (λ n. take (event_length * n) after) up_to
                ∙ found.written
                ∙ ap (λ bytes. bytes ++ bytes_of_events (get_or days i [])) (written_up_to list p e whole room)
                ∙ append_assoc (take (event_length * p) list) (bytes_of_event e) (bytes_of_events (get_or days i []))
                ∙ ap (λ es. take (event_length * p) list ++ bytes_of_events es) (sym here);
            led =
                found.led
                ∙ ap (λ n. (run s (take n (e ∷ get_or days i []))).after) (sym next)
                ∙ ap (λ es. (run s (take (left - 1) es)).after) (sym here);
          })

      pub kept_behind :
          {j : ℕ} →
          IsPast (lists (left - 1) (p + 1) (step s e).after) i j (p + 1) (step s e).after t (with_event list p e) after →
          take (event_length * p) after ≡ take (event_length * p) list
      kept_behind past = fewer_kept p (with_event list p e) after past.kept ∙ written_before list p e whole room

      pub past_behind :
          {j : ℕ} {back : Ledger} →
          IsPast (lists (left - 1) (p + 1) (step s e).after) i j (p + 1) (step s e).after t (with_event list p e) after →
          back ≡ s →
          IsPast (beginning (lists (left - 1) (p + 1)) s e) i j p s back list after
      past_behind {j} past again =
          let days = lists (left - 1) (p + 1) (step s e).after in
          rw (taken_all (lists (left - 1) (p + 1)) proper e taken)
          (record {
            beyond = past.beyond ∙ ap (λ n. n + j) (sym (length-map days (λ es. e ∷ es)));
            kept = kept_behind past;
            back = again;
          })

-- ---- a place among the lists of some candidates, and of others behind them

module _ (some more : List (List Event)) {i p : ℕ} (left : ℕ) {s t : Ledger} {list mid : List ℕ} where
  found_among : IsFound some i p left s t list mid → IsFound (some ++ more) i p left s t list mid
  found_among found =
      let here = get_or-append some more [] i found.within in
      record {
        within = rw (length-append some more) (omega (arith, found.within));
        written = rw here found.written;
        led = rw here found.led;
      }

  -- it is past the first by j, and place j is sought among the others
  past_among :
      {j : ℕ} (u : Ledger) (after : List ℕ) (r : Sought) → IsPast some i j p s t list mid →
      IsSought more j p left t u mid after r → IsSought (some ++ more) i p left s u list after r
  past_among {j} u after (Ok none) past found =
      let there : get_or (some ++ more) i [] ≡ get_or more j [] =
      ap (λ n. get_or (some ++ more) n []) past.beyond ∙ get_or-append-add some more j [] in
      record {
        within = rw (length-append some more) (omega (arith, past.beyond, found.within));
        written = rw there (found.written ∙ ap (λ bytes. bytes ++ bytes_of_events (get_or more j [])) past.kept);
        led = rw there (found.led ∙ ap (λ (from : Ledger). (run from (take (left - 1) (get_or more j []))).after) past.back);
      }
  past_among u after (Err k) past further =
      record {
        beyond = rw (length-append some more) (omega (arith, past.beyond, further.beyond));
        kept = further.kept ∙ past.kept;
        back = further.back ∙ past.back;
      }

-- .. of the candidates from c on
module _ (follow : Ledger → List (List Event)) (p : ℕ) (s : Ledger) (c : ℕ) where
  pub none_left :
      {i : ℕ} {list : List ℕ} → c ≡ candidate_count →
      IsPast (beginning_from follow p s (candidate_count - c) c) i i p s s list list
  unfolding beginning_from
  none_left {i} is =
      let none : candidate_count - c ≡ 0 = omega arith in
      rw none (record { beyond = sym (zero-add i); kept = refl; back = refl })

  one_before : c < candidate_count →
      beginning_from follow p s (candidate_count - c) c
      ≡ beginning follow s (candidate p c) ++ beginning_from follow p s (candidate_count - (c + 1)) (c + 1)
  unfolding beginning_from
  one_before below =
      let next : candidate_count - c ≡ suc (candidate_count - (c + 1)) = omega arith in
      rw (next, add-one c)

  module _ (below : c < candidate_count) {i : ℕ} (left : ℕ) {t : Ledger} {list mid : List ℕ} where
    pub found_first :
        IsFound (beginning follow s (candidate p c)) i p left s t list mid →
        IsFound (beginning_from follow p s (candidate_count - c) c) i p left s t list mid
    found_first found = rw (one_before below) (found_among _ _ left found)

    pub past_first :
        {j : ℕ} (u : Ledger) (after : List ℕ) (r : Sought) → IsPast (beginning follow s (candidate p c)) i j p s t list mid →
        IsSought (beginning_from follow p t (candidate_count - (c + 1)) (c + 1)) j p left t u mid after r →
        IsSought (beginning_from follow p s (candidate_count - c) c) i p left s u list after r
    past_first {j} u after r past sought =
        rw (one_before below)
        (past_among _ _ left u after r past
        (subst (λ from. IsSought (beginning_from follow p from (candidate_count - (c + 1)) (c + 1)) j p left t u mid after r)
        past.back sought))

-- those that begin with any candidate are all
pub all_begin : (k p : ℕ) (s : Ledger) → 1 ≤ k → beginning_from (lists (k - 1) (p + 1)) p s (candidate_count - 0) 0 ≡ lists k p s
unfolding lists
all_begin k p s some =
    let more : k ≡ suc (k - 1) = omega arith in
    ap (λ place. beginning_from (lists (k - 1) place) p s candidate_count 0) (add-one p) ∙ ap (λ n. lists n p s) (sym more)

pub sought_in_all :
    (k p i : ℕ) (s t : Ledger) (list after : List ℕ) {from : Ledger} {before : List ℕ} (r : Sought) {result : Sought} → 1 ≤ k →
    from ≡ s → before ≡ list → result ≡ r →
    IsSought (beginning_from (lists (k - 1) (p + 1)) p from (candidate_count - 0) 0) i p k from t before after result →
    IsSought (lists k p s) i p k s t list after r
sought_in_all k p i s t list after {from} {before} r {result} some same_ledger same_list same_result sought =
    let first = beginning_from (lists (k - 1) (p + 1)) p s (candidate_count - 0) 0 in
    subst (λ days. IsSought days i p k s t list after r) (all_begin k p s some)
    (subst (λ x. IsSought first i p k s t list after x) same_result
    (subst (λ bytes. IsSought first i p k s t bytes after result) same_list
    (subst (λ l. IsSought (beginning_from (lists (k - 1) (p + 1)) p l (candidate_count - 0) 0) i p k l t before after result)
    same_ledger sought)))
