-- From the search to the call: where it begins, what it gives of a whole day, and what the call then answers and leaves.
-- Assumes nothing.
use Prim.Native.Nat.{ℕ, ◌+◌, ◌-◌, ◌*◌, ◌≤◌}
use native.Mathlib.Omega.{arith}
use native.Mathlib.Nat.{zero-add}
use mathlib.Core.Path.{◌≡◌, refl, sym, ap, ◌∙◌}
use mathlib.Core.Logic.{◌≢◌}
use mathlib.Core.Bool.{Bool, true, false, not}
use mathlib.Core.List.{List, [], ◌++◌}
use lib.ListN.{length, take, drop, replicate}
use borrow.Author.Tests.{ne_eqb, lt-ltb, le-ltb}
use Rattle.std.specs.Prelude.{Result, Ok, Err, IsErrAnd}
use Rattle.rules.specs.Range.{all}
use Rattle.rules.specs.declared.refusal.Refusal.{Refusal}
use Rattle.rules.specs.Refusal.{refusal_number}
use Rattle.rules.proofs.Laws.Refusals.{never_none, numbered_back}
use Rattle.rules.specs.Card.{base_length, shadow_length}
use Rattle.rules.specs.Table.{table_length, is_rule}
use Rattle.rules.specs.Ledger.{Ledger, ledger_of}
use Rattle.rules.specs.Encoding.{event_length, bytes_of_events}
use Rattle.rules.specs.Run.{run}
use Rattle.rules.specs.Serial.Demand.{opening_under}
use Rattle.rules.proofs.Laws.Tests.{ltb_fails}
use Rattle.rules.proofs.Laws.Allowed.{not_given}
use Rattle.table.specs.Open.{open_table}
use Rattle.enumeration.specs.ShortDay.{most_short}
use Rattle.enumeration.specs.Lists.{candidate_count, beginning_from, lists, short_days}
use Rattle.shortdays.specs.Written.{IsShortLong}
use Rattle.shortdays.specs.Search.{Searching, Sought, IsSought, IsDayFound, IsDaySought}
use Rattle.shortdays.specs.Call.{short_cause, short_answer, short_list}
use Rattle.shortdays.proofs.Places.{sought_in_all}

-- ---- where the search begins

pub opened_new :
    (rule : ℕ) {table : List ℕ} → table ≡ open_table (replicate table_length 0) rule →
    ledger_of table (replicate base_length 0) (replicate shadow_length 0) ≡ opening_under rule
opened_new rule is = ap (λ table. ledger_of table (replicate base_length 0) (replicate shadow_length 0)) is

pub searching_first :
    {rule k : ℕ} {list : List ℕ} {s : Ledger} → IsShortLong list → 1 ≤ k → k ≤ most_short → s ≡ opening_under rule →
    Searching rule 0 k list s
unfolding all bytes_of_events run
searching_first {k = k} long some few is =
    record {
      long = long;
      some = some;
      few = omega arith;
      reached = record { events = []; many = refl; whole = refl; written = refl; led = is };
    }

-- ---- what it gives of a whole day

pub none_found : (rule : ℕ) (list : List ℕ) → IsDayFound (short_days 0 rule) 0 0 list
unfolding short_days lists bytes_of_events
none_found rule list = record { within = omega arith; written = refl }

pub none_past : (rule place : ℕ) → place ≢ 0 → place ≡ length (short_days 0 rule) + (place - 1)
unfolding short_days lists
none_past rule place other = omega arith

pub day_sought :
    (k rule place : ℕ) (s t : Ledger) (list after : List ℕ) (r : Sought) → 1 ≤ k → s ≡ opening_under rule →
    IsSought (beginning_from (lists (k - 1) (0 + 1)) 0 s (candidate_count - 0) 0) place 0 k s t list after r →
    IsDaySought (short_days k rule) place k after r
unfolding short_days
day_sought k rule place s t list after (Ok none) some is sought =
    let found = sought_in_all k 0 place (opening_under rule) t list after (Ok none) some is refl refl sought in
    record { within = found.within; written = ap (λ n. take (event_length * n) after) (sym (zero-add k)) ∙ found.written }
day_sought k rule place s t list after (Err j) some is sought =
    (sought_in_all k 0 place (opening_under rule) t list after (Err j) some is refl refl sought).beyond

-- ---- what the call answers and leaves

pub few_events : (k rule : ℕ) → short_cause k rule ≡ 0 → k ≤ most_short
few_events k rule none = (ltb_fails most_short k).0 (not_given _ _ _ (not_given (not (is_rule rule)) _ _ none).1).0

module _ (k rule place : ℕ) (buffer : List ℕ) where
  pub day_refused :
      (answer : Result Bool Refusal) (refusal : Refusal) → IsErrAnd answer (λ e. e ≡ refusal) →
      refusal_number refusal ≡ short_cause k rule →
      (answer ≡ short_answer k rule place) × (buffer ≡ short_list k rule place buffer)
  unfolding short_answer short_list
  day_refused (Ok placed) refusal passed asked = absurd passed
  day_refused (Err e) refusal passed asked =
      rw (passed, ← asked, ne_eqb (refusal_number refusal) 0 (never_none refusal), numbered_back refusal) (refl, refl)

  module _ (none : short_cause k rule ≡ 0) where
    pub day_given :
        (found : List ℕ) → IsDayFound (short_days k rule) place k found →
        {list : List ℕ} → list ≡ take (event_length * k) found ++ drop (event_length * k) buffer →
        (Ok true ≡ short_answer k rule place) × (list ≡ short_list k rule place buffer)
    unfolding short_answer short_list
    day_given found h is =
        rw (none, lt-ltb place (length (short_days k rule)) h.within)
        (refl, is ∙ ap (λ bytes. bytes ++ drop (event_length * k) buffer) h.written)

    pub day_none :
        (j : ℕ) → place ≡ length (short_days k rule) + j →
        (Ok false ≡ short_answer k rule place) × (buffer ≡ short_list k rule place buffer)
    unfolding short_answer short_list
    day_none j beyond = rw (none, le-ltb place (length (short_days k rule)) (omega (arith, beyond))) (refl, refl)
