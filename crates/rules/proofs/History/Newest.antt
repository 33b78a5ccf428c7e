-- RULES 4.11: the newest end times are those of all the records that each parent has had, and the verdict is one by them, by the
-- records that are held and by all that were had; for every list of events. Assumes nothing.
use Prim.Native.Nat.{ℕ}
use mathlib.Core.Path.{◌≡◌, ap, ◌∙◌}
use mathlib.Core.Bool.{not}
use mathlib.Core.List.{List}
use lib.ListN.{length}
use Rattle.rules.specs.Card.{base_length, shadow_length}
use Rattle.rules.specs.Clash.{is_clear}
use Rattle.rules.specs.Event.{Event}
use Rattle.rules.specs.Sound.{Sound}
use Rattle.rules.specs.Serial.Demand.{new_over}
use Rattle.rules.specs.Balanced.{ledger_after}
use Rattle.rules.specs.NewestHad.{NewestOfAll}
use Rattle.rules.proofs.Clash.Known.{known_clash}
use Rattle.rules.proofs.Demand.Proper.{new_proper, run_keeps_proper}
use Rattle.rules.proofs.History.Theorem.{history_remembered, no_verdict_lost}

module _
    (r : ℕ) (base shadow : List ℕ) (base_fits : length base ≡ base_length) (shadow_fits : length shadow ≡ shadow_length) (es : List Event) where
  sound_after : Sound (ledger_after r base shadow es).table
  sound_after = (run_keeps_proper (new_over r base shadow) es (new_proper r base shadow base_fits shadow_fits)).sound

  pub newest_of_all : NewestOfAll r base shadow es
  newest_of_all =
      record {
        newests = (history_remembered r base shadow base_fits shadow_fits es).newests;
        verdicts = λ n lives. known_clash _ sound_after n lives;
        had_verdicts = λ n lives.
            known_clash _ sound_after n lives
            ∙ ap (λ found. not (is_clear found)) ((no_verdict_lost r base shadow base_fits shadow_fits es).verdicts n lives.0 lives.1);
      }
