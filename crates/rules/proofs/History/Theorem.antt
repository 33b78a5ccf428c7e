-- RULES 4.9: no verdict is lost, for every list of events. Assumes nothing.
use Prim.Native.Nat.{ℕ}
use native.Mathlib.Omega.{arith}
use mathlib.Core.Path.{◌≡◌}
use mathlib.Core.List.Memᴰ
use mathlib.Core.List.{List, [], ◌∷◌}
use lib.ListN.{length}
use Rattle.rules.specs.Card.{base_length, shadow_length}
use Rattle.rules.specs.Table.{newest_field}
use Rattle.rules.specs.Event.{Event}
use Rattle.rules.specs.Ledger.{Ledger}
use Rattle.rules.specs.Step.{step}
use Rattle.rules.specs.Run.{run}
use Rattle.rules.specs.Serial.Demand.{new_over}
use Rattle.rules.specs.Balanced.{ledger_after}
use Rattle.rules.specs.History.{History, no_records, history_one, history_from, history_of, NoVerdictLost}
use Rattle.rules.proofs.Laws.NewTables.{new_head, new_highest}
use Rattle.rules.proofs.Demand.Proper.{Proper, new_proper, step_keeps_proper, run_keeps_proper}
use Rattle.rules.proofs.History.Remembered.{Remembers}
use Rattle.rules.proofs.History.Kept.{step_remembers}
use Rattle.rules.proofs.History.Verdicts.{same_verdict}
use Rattle.rules.specs.NewestHad.{newest_had}

pub run_remembers :
    (s : Ledger) (es : List Event) (had : History) → Proper s → Remembers s had → Remembers (run s es).after (history_from s es had)
unfolding run history_from
run_remembers s [] had proper remembers = remembers
run_remembers s (e ∷ es) had proper remembers =
    run_remembers (step s e).after es (history_one s e had) (step_keeps_proper s e proper) (step_remembers proper e remembers)

-- there was nothing to remember
new_remembers : (r : ℕ) (base shadow : List ℕ) → Remembers (new_over r base shadow) no_records
unfolding no_records newest_had
new_remembers r base shadow =
    record {
      kept = λ Q X k below has r member. absurd (Memᴰ.not-nil member);
      real = λ Q m held given. absurd (omega (arith, given, new_highest r));
      ends = λ Q held r member. absurd (Memᴰ.not-nil member);
      newests = λ Q k known account.
          let store : Q ≡ 0 = omega (arith, known, new_highest r) in
          rw store (new_head r (newest_field k) (omega arith) (λ z. omega arith));
    }

module _
    (r : ℕ) (base shadow : List ℕ) (base_fits : length base ≡ base_length) (shadow_fits : length shadow ≡ shadow_length) (es : List Event) where
  new : Proper (new_over r base shadow)
  new = new_proper r base shadow base_fits shadow_fits

  pub history_remembered : Remembers (ledger_after r base shadow es) (history_of r base shadow es)
  history_remembered = run_remembers (new_over r base shadow) es no_records new (new_remembers r base shadow)

  pub no_verdict_lost : NoVerdictLost r base shadow es
  no_verdict_lost =
      record {
        verdicts = λ n given live.
            same_verdict (run_keeps_proper (new_over r base shadow) es new) history_remembered n given live;
      }
