-- RULES 4.11: the newest end times are those of all the records that each parent has had, dropped ones too, and a clash that is
-- known by them is one by the records. Assumes nothing.
use Rattle.std.specs.Prelude.{ℕ, ◌≤◌, ◌<◌, max, ◌≡◌, not, cond, List, [], ◌∷◌}
use Rattle.rules.specs.Card.{account_count}
use Rattle.rules.specs.Table.{highest, parent_of, newest}
use Rattle.rules.specs.Sound.{IsLiveAction}
use Rattle.rules.specs.Stale.{is_known_clash}
use Rattle.rules.specs.Clash.{is_clear, first_clash}
use Rattle.rules.specs.Event.{Event}
use Rattle.rules.specs.Balanced.{ledger_after}
use Rattle.rules.specs.History.{Had, first_had_clash, history_of}

-- the newest end time among these records that have account k in their write sets, 0 where none has
unfoldable pub newest_had : ℕ → List Had → ℕ
newest_had k [] = 0
newest_had k (r ∷ rs) =
    let rest = newest_had k rs in
    cond (r.wrote k) (max r.end rest) rest

-- What holds after the list S = es, given to a new table under rule r over the stores base and shadow.
pub record NewestOfAll (r : ℕ) (base shadow : List ℕ) (es : List Event) : Type 0 where
  -- of the store and of every number given, that of a finished action too
  pub newests :
      let w = (ledger_after r base shadow es).table in
      (p k : ℕ) → p ≤ highest w → k < account_count → newest w p k ≡ newest_had k (history_of r base shadow es p)
  -- a live action's clash is known exactly where it has one with a record that is held,
  pub verdicts :
      let w = (ledger_after r base shadow es).table in
      (n : ℕ) → IsLiveAction w n → is_known_clash w n ≡ not (is_clear (first_clash w n))
  -- and exactly where it has one with a record that its parent has had
  pub had_verdicts :
      let w = (ledger_after r base shadow es).table in
      (n : ℕ) → IsLiveAction w n →
      is_known_clash w n ≡ not (is_clear (first_had_clash w n (history_of r base shadow es (parent_of w n))))
