-- RULES 15.3: the lists are all short days of k events, in their order, and each of them stands there once. Assumes nothing.
use Prim.Native.Nat.{ℕ, ◌≤◌, ◌<◌}
use native.Mathlib.Omega.{arith}
use mathlib.Core.Path.{◌≡◌}
use mathlib.Core.List.{[]}
use lib.ListN.{length, get_or}
use Rattle.rules.specs.Serial.Demand.{opening_under}
use Rattle.rules.proofs.Laws.NewTables.{new_highest}
use Rattle.rules.proofs.Demand.Proper.{opening_proper}
use Rattle.enumeration.specs.ShortDay.{most_short}
use Rattle.enumeration.specs.Lists.{short_days}
use Rattle.enumeration.specs.Enumerates.{Enumerates}
use Rattle.enumeration.proofs.Only.{listed_taken}
use Rattle.enumeration.proofs.Every.{taken_listed}
use Rattle.enumeration.proofs.Rising.{lists_rising, rising_places, rising_once}

pub enumerates : (k rule : ℕ) → k ≤ most_short → Enumerates k rule (short_days k rule)
unfolding short_days
enumerates k rule few =
    record {
      only = λ es m.
          let h = listed_taken k 0 (opening_under rule) m in record { many = h.many; short = h.short; taken = h.taken };
      every = λ es h.
          taken_listed k 0 (opening_under rule) (opening_proper rule) (omega arith) (omega (arith, new_highest rule)) es
          (record { many = h.many; short = h.short; taken = h.taken });
      rising = rising_places (short_days k rule) (lists_rising k 0 (opening_under rule));
    }

-- of any number of events
pub each_once :
    (k rule i j : ℕ) → i < length (short_days k rule) → j < length (short_days k rule) →
    get_or (short_days k rule) i [] ≡ get_or (short_days k rule) j [] → i ≡ j
unfolding short_days
each_once k rule i j = rising_once (short_days k rule) (lists_rising k 0 (opening_under rule)) i j
