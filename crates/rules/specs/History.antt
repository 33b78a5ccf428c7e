-- RULES 4.9: the records that each parent has had, those that were dropped too. They are gathered along a list of events from who
-- commits at each, and from what stands in its row then; what becomes of the row later makes no difference. Assumes nothing.
use Rattle.std.specs.Prelude.{ℕ, ◌≡◌, Bool, true, cond, ◌&&◌, List, [], ◌∷◌, ◌++◌, ltb, Option, None}
use Rattle.rules.specs.declared.Found.{Found}
use Rattle.rules.specs.Range.{filter}
use Rattle.rules.specs.Card.{accounts}
use Rattle.rules.specs.Table.{parent_of, kind_of, end_time, has_read, read_time, has_written, has_writes, is_live}
use Rattle.rules.specs.Sound.{IsGiven}
use Rattle.rules.specs.Clash.{earlier, first_clash}
use Rattle.rules.specs.Event.{Event}
use Rattle.rules.specs.Ledger.{Ledger}
use Rattle.rules.specs.Step.{step, leavers_at}
use Rattle.rules.specs.Serial.Told.{Told, it_began, it_read, it_wrote, it_added, it_committed, it_let_leave, it_did_nothing, told}
use Rattle.rules.specs.Serial.Collect.{put, commits_at}
use Rattle.rules.specs.Serial.Demand.{new_over}
use Rattle.rules.specs.Balanced.{ledger_after}

-- ---- what is gathered

-- a record that a parent has had: its end time, and of each account whether it is in the write set
pub record Had : Type 0 where
  pub end : ℕ
  pub wrote : ℕ → Bool

-- of each number, the records that its present holder has had; number 0 is the store
abbrev pub History : Type 0
History = ℕ → List Had

-- before any event
unfoldable pub no_records : History
no_records n = []

-- what stands in the row of n, which has committed
abbrev pub record_in : List ℕ → ℕ → Had
record_in w n = record { end = end_time w n; wrote = has_written w n }

-- n has committed: where it has written, its record joins its parent's
unfoldable pub with_record : List ℕ → ℕ → History → History
with_record w n had =
    let p = parent_of w n in
    let joined = put had p (had p ++ (record_in w n ∷ [])) in
    cond (has_writes w n) joined had

-- .. all of these have, in this order
unfoldable pub with_records : List ℕ → List ℕ → History → History
with_records w [] had = had
with_records w (n ∷ ns) had = with_records w ns (with_record w n had)

-- the new holder of a number has had none
unfoldable pub without_given : Told → History → History
without_given (it_began n) had = put had n []
without_given it_read had = had
without_given it_wrote had = had
without_given it_added had = had
without_given it_committed had = had
without_given (it_let_leave leavers) had = had
without_given it_did_nothing had = had

-- one event at ledger s
unfoldable pub history_one : Ledger → Event → History → History
history_one s e had =
    let o = step s e in
    let it = told o.answer (leavers_at s e) in
    with_records o.after.table (commits_at e it) (without_given it had)

-- a list of events from ledger s on
unfoldable pub history_from : Ledger → List Event → History → History
history_from s [] had = had
history_from s (e ∷ es) had = history_from (step s e).after es (history_one s e had)

-- the list S = es, given to a new table under rule r over the stores base and shadow
abbrev pub history_of : ℕ → List ℕ → List ℕ → List Event → History
history_of r base shadow es = history_from (new_over r base shadow) es no_records

-- ---- the first clash with records that were had

-- action n clashes with the record r of its parent over account k
abbrev pub is_had_clash : List ℕ → ℕ → Had → ℕ → Bool
is_had_clash w n r k = r.wrote k && has_read w n k && ltb (read_time w (kind_of w n) n k) r.end

-- of the pairs of t with each of these accounts, and of what was found, the first
unfoldable pub earliest : ℕ → List ℕ → Option Found → Option Found
earliest t [] found = found
earliest t (k ∷ ks) found = earlier t k (earliest t ks found)

-- the end time and the account of n's first clash with these records
unfoldable pub first_had_clash : List ℕ → ℕ → List Had → Option Found
first_had_clash w n [] = None
first_had_clash w n (r ∷ rs) = earliest r.end (filter (is_had_clash w n r) accounts) (first_had_clash w n rs)

-- ---- the claim

-- After the list S = es, given to a new table under rule r over the stores base and shadow, each live action's first clash is that
-- with all the records that its parent has had.
pub record NoVerdictLost (r : ℕ) (base shadow : List ℕ) (es : List Event) : Type 0 where
  pub verdicts :
      let w = (ledger_after r base shadow es).table in
      (n : ℕ) → IsGiven w n → is_live w n ≡ true →
      first_clash w n ≡ first_had_clash w n (history_of r base shadow es (parent_of w n))
