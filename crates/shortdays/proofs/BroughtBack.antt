-- A new table over stores of zeros, and events of a list run on it, lead where the definitions say. Assumes nothing.
use Prim.Native.Nat.{ℕ, ◌*◌}
use native.Mathlib.Omega.{arith}
use mathlib.Core.Path.{◌≡◌, ap, ◌∙◌}
use mathlib.Core.List.{List}
use lib.ListN.{length, take, replicate}
use lib.Seq.{length-take-le}
use borrow.Author.Tests.{eq-eqb}
use Rattle.rules.specs.Card.{StoresFit}
use Rattle.rules.specs.Table.{table_length}
use Rattle.rules.specs.Ledger.{Ledger, ledger_of}
use Rattle.rules.specs.Encoding.{event_length, answer_length, events_in}
use Rattle.rules.specs.Run.{run}
use Rattle.rules.specs.Serial.Demand.{opening_under}
use Rattle.rules.proofs.Demand.Proper.{opening_proper}
use Rattle.table.specs.Open.{open_table}
use Rattle.lists.specs.Listed.{Listed, list_cause, listed_of, run_list}
use Rattle.lists.proofs.ListRun.{no_list_cause}
use Rattle.enumeration.specs.ShortDay.{most_short}
use Rattle.shortdays.specs.Written.{HasEvents}

module _
    (rule : ℕ) (list : List ℕ) (p : ℕ) (has : HasEvents list p) (buffer : List ℕ)
    (room : length buffer ≡ answer_length * most_short) where
  abbrev events : List ℕ
  events = take (event_length * p) list

  -- the list call has no cause on a new table over stores of zeros
  list_runs : list_cause (opening_under rule) events buffer ≡ 0
  list_runs =
      let opening = opening_proper rule in
      let long = length-take-le (event_length * p) list has.1 in
      no_list_cause (opening_under rule) events buffer
      (record { base_fits = opening.base_fits; shadow_fits = opening.shadow_fits }, opening.sound)
      (omega (arith, long)) (omega (arith, long, room))

  opening_ran : (run_list (opening_under rule) events buffer).after ≡ (run (opening_under rule) (events_in events)).after
  unfolding run_list
  opening_ran = rw list_runs

  opening_taken : (run_list (opening_under rule) events buffer).cause ≡ 0
  unfolding run_list
  opening_taken = rw list_runs

  -- from what opening, clearing and the list call leave
  pub brought_back :
      (given : Ledger) → length given.table ≡ table_length → StoresFit given.base given.shadow →
      {table base shadow words : List ℕ} {now : Ledger} {cause : ℕ} →
      table ≡ open_table given.table rule → base ≡ replicate (length given.base) 0 → shadow ≡ replicate (length given.shadow) 0 →
      listed_of cause now words ≡ run_list (ledger_of table base shadow) events buffer →
      (now ≡ (run (opening_under rule) (events_in events)).after) × (cause ≡ 0)
  brought_back given long fits {table} {base} {shadow} {now = now} is_table is_base is_shadow listed =
      let opened = rw (is_table, eq-eqb _ table_length long, is_base, is_shadow, fits.base_fits, fits.shadow_fits) at listed in
      (ap (λ (l : Listed). l.after) opened ∙ opening_ran, ap (λ (l : Listed). l.cause) opened ∙ opening_taken)
