-- An action without a reader ahead passes: whoever else is live below its parent has read nothing that it has written. Assumes
-- nothing.
use Prim.Native.Nat.{ℕ}
use native.Mathlib.Omega.{arith}
use mathlib.Core.Path.{◌≡◌, ap, ◌∙◌}
use mathlib.Core.Logic.{◌≢◌, ⊎_elim}
use mathlib.Core.Bool.{true, false, not}
use mathlib.Core.List.{List}
use borrow.Author.Tests.{ne_eqb}
use Rattle.std.specs.Prelude.{None}
use Rattle.rules.specs.Table.{parent_of, has_written}
use Rattle.rules.specs.Walk.{is_at_or_below}
use Rattle.rules.specs.Sound.{StoreOrLive, Sound}
use Rattle.rules.specs.Ledger.{Ledger}
use Rattle.rules.specs.Ahead.{is_rival, first_ahead}
use Rattle.rules.proofs.Laws.Tests.{test, and_both, or_fails}
use Rattle.rules.proofs.Laws.Walking.{climb_holds, parent_store_or_live, sound_climbs, at_or_below_store, at_or_below_step}
use Rattle.rules.proofs.Laws.Permitted.{Committable, no_live_child}
use Rattle.rules.proofs.Clash.Readers.{first_ahead_none}
use Rattle.rules.proofs.Serial.AbstractState.{Below}
use Rattle.rules.proofs.Serial.Ahead.{NoneAhead}
use Rattle.rules.proofs.Demand.Proper.{Proper}
use Rattle.rules.proofs.Demand.Abstraction.{abstraction}
use Rattle.rules.proofs.Demand.AbstractionLaws.{alive_given, alive_live, read_account, read_entered, effect_unwritten}
use Rattle.rules.proofs.Demand.Unders.{below_live, below_under}

-- where no child of n is live, nobody live but n is at or below n
module _ {w : List ℕ} (s : Sound w) {n : ℕ} (j : Committable w n) where
  not_below : (m : ℕ) → StoreOrLive w m → m ≢ n → is_at_or_below w n m ≡ false
  not_below m held =
      climb_holds w (λ x. StoreOrLive w x → x ≢ n → is_at_or_below w n x ≡ false)
      (λ _ _. at_or_below_store w n)
      (λ x action up above (given, lives) other.
      let alive = lives (omega arith) in
      at_or_below_step w n x action up
      ∙ (or_fails _ _).1 (
        ne_eqb x n other,
        above (parent_store_or_live s x (omega arith, given) alive)
            (no_live_child w n j.childless x (omega arith, given) alive),
      ))
      m (sound_climbs s m held) held

module _ (s : Ledger) (proper : Proper s) (n : ℕ) (j : Committable s.table n) where
  abbrev w : List ℕ
  w = s.table

  -- whoever else is live below n's parent is a rival
  below_rival : (B : ℕ) → Below (abstraction s) (parent_of w n) B → B ≢ n → is_rival w n B ≡ true
  unfolding is_rival
  below_rival B below other =
      let given = alive_given w B (below_live below) in
      let alive = alive_live w B (below_live below) in
      and_both alive
      (and_both (below_under s proper below)
      (ap not (not_below proper.sound j B (given.1, λ _. alive) other)))

  pub none_ahead_passes : first_ahead w n ≡ None → NoneAhead (abstraction s) n
  none_ahead_passes clear B k below other has =
      ⊎_elim
      (λ written.
      absurd
      ((first_ahead_none w n).0 clear B k
      (record {
        given = alive_given w B (below_live below);
        rival = below_rival B below other;
        account = read_account w B k has;
        met = and_both written (read_entered w B k has);
      })))
      (effect_unwritten s n k (read_account w B k has))
      (test (has_written w n k))
