-- RULES 6.6: demand 3, as one claim about a whole list of events. Assumes nothing.
use Rattle.std.specs.Prelude.{ℕ, suc, ◌≡◌, true, ℤ, length, take, get_or, replicate}
use Rattle.std.proofs.Math.Option.{Option}
use mathlib.Core.List.{List, [], Memᴰ}
use Rattle.rules.specs.declared.Answer.{Answer}
use Rattle.rules.specs.declared.Answer.TheVariants.{Written}
use Rattle.rules.specs.Answer.{said}
use Rattle.rules.specs.Card.{base_length, shadow_length}
use Rattle.rules.specs.Table.{new_table_under}
use Rattle.rules.specs.Event.{Event, start_under}
use Rattle.rules.specs.Look.{looked_card}
use Rattle.rules.specs.Ledger.{Ledger}
use Rattle.rules.specs.Run.{run}
use Rattle.rules.specs.Serial.Told.{Told, told_all}
use Rattle.rules.specs.Serial.Collect.{store_block}
use Rattle.rules.specs.Serial.Schedule.{schedule_of}
use Rattle.rules.specs.Serial.Machine.{Given, serial}
use Rattle.rules.specs.Serial.Reach.{in_order, acts_in, acts_of_r, at_place}

-- RULES 3.3: the card that the read at place i of S was given
unfoldable pub card_given : Ledger → List Event → ℕ → List ℕ
card_given s es i =
    let after = (run s (take (suc i) es)).after in
    let e = get_or es i (start_under 0) in
    looked_card after.table after.base after.shadow e.number e.account

-- a new table that was opened under r, over two stores, whatever they hold
abbrev pub new_over : ℕ → List ℕ → List ℕ → Ledger
new_over r base shadow = record { table = new_table_under r; base = base; shadow = shadow }

-- the same over stores of zeros
abbrev pub opening_under : ℕ → Ledger
opening_under r = new_over r (replicate base_length 0) (replicate shadow_length 0)

-- the answers that S gets over any stores
abbrev pub answers_to : ℕ → List ℕ → List ℕ → List Event → List Answer
answers_to r base shadow es = (run (new_over r base shadow) es).answers

-- RULES 6.1: who commits there by leaving a queue, event by event, and what the serial run is told so
abbrev pub leavers_in : ℕ → List ℕ → List ℕ → List Event → List (List ℕ)
leavers_in r base shadow es = (run (new_over r base shadow) es).leavers

abbrev pub told_of : ℕ → List ℕ → List ℕ → List Event → List Told
told_of r base shadow es = told_all (answers_to r base shadow es) (leavers_in r base shadow es)

-- RULES 5: the sum in the answer at place i, where it has one
abbrev pub sum_given : List Answer → ℕ → Option ℤ
sum_given answers i = (said (get_or answers i Written)).sum

-- What is claimed of the list S = es, given to a new table under rule r over the stores base and shadow.
pub record Demand3 (r : ℕ) (base shadow : List ℕ) (es : List Event) : Type 0 where
  -- the serial run gives each of its reads the card that this read was given in S
  pub reads :
      (g : Given) → Memᴰ g (serial es (told_of r base shadow es) base).given →
      g.card ≡ card_given (new_over r base shadow) es g.place
  -- and, on a charge account, the amount
  pub amounts :
      (g : Given) → Memᴰ g (serial es (told_of r base shadow es) base).given →
      g.amount ≡ sum_given (answers_to r base shadow es) g.place
  -- it leaves the base store that stands after S
  pub store : (serial es (told_of r base shadow es) base).base ≡ (run (new_over r base shadow) es).after.base
  -- its operations hold, at each place of S, the read, write or add that took place there if that was an action's in R, and
  -- nothing otherwise
  pub exact :
      (i : ℕ) →
      at_place i (acts_in [] (schedule_of (store_block es (told_of r base shadow es))))
      ≡ at_place i (acts_of_r 0 (λ n. 0) es (told_of r base shadow es))
  -- the operations of every block stand in the order of S, a child's whole block at the event of its commit
  pub order : in_order (length es) (length es) (store_block es (told_of r base shadow es)) ≡ true
