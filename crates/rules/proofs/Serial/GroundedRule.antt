-- Under any judging rule demand 3's invariant and that of the charge reads hold together: the step lemmas of Rule for both.
-- Assumes nothing.
use Prim.Native.Nat.{ℕ}
use mathlib.Core.Path.{◌≡◌}
use mathlib.Core.Bool.{true}
use Rattle.rules.specs.Serial.Block.{Block, empty, read, write, child}
use Rattle.rules.proofs.Serial.Values.{Values}
use Rattle.rules.proofs.Serial.AbstractState.{AbstractState, Live}
use Rattle.rules.proofs.Serial.Events.{Start, Read, Write, Drop, Commit, still_calm, write_calm}
use Rattle.rules.proofs.Serial.Invariant.{Put, inv_opening}
use Rattle.rules.proofs.Serial.Rule.{Rule, Holds, rule_start, rule_read, rule_write, rule_commit, rule_drop}
use Rattle.rules.proofs.Serial.Ground.{Charges, ChargesSeen, GroundInv, ground_opening, start_keeps_ground, read_keeps_ground, write_keeps_ground, drop_keeps_ground, commit_keeps_ground}

module _ {Vs : Values} {M : Type 0} {abstraction : M → AbstractState Vs} (R : Rule abstraction) (K : Charges Vs)
    (got ground opening : ℕ → Vs.Val) where
  pub record GroundedHolds (m : M) (b : ℕ → Block Vs.Eff) : Type 0 where
    pub holds : Holds R got opening m b
    pub grounded : GroundInv K ground (abstraction m) opening (R.ok m) b

  -- before the first event
  pub grounded_opening : {m : M} {b : ℕ → Block Vs.Eff} → ((X : ℕ) → Live (abstraction m) X → ⊥)
      → ((k : ℕ) → (abstraction m).base k ≡ opening k) → b 0 ≡ empty → GroundedHolds m b
  grounded_opening nobody base≡ none =
      record { holds = inv_opening nobody base≡ none; grounded = ground_opening K ground nobody none }

  -- The step lemmas. Of an engine's states it is known that charge accounts are seen through to the base.
  module _ (seen : (m : M) → ChargesSeen K (abstraction m)) where
    module _ (m m' : M) {b b' : ℕ → Block Vs.Eff} (kept : GroundedHolds m b) where
      pub grounded_start : (A : ℕ) → Start (abstraction m) (abstraction m') A → R.CalmFacts m m'
          → Put (abstraction m') b b' A empty → GroundedHolds m' b'
      grounded_start A e facts p =
          record {
            holds = rule_start R got opening m m' kept.holds A e facts p;
            grounded =
                start_keeps_ground K ground (seen m) (seen m') kept.grounded e (R.calm m m' (still_calm e.still) facts) p;
          }

      -- at place i: got has what the reader's view shows, and ground, of a charge account, what the base shows
      pub grounded_read : (A k i : ℕ) → Read (abstraction m) (abstraction m') A k → (abstraction m').view A k ≡ got i
          → (K.is_charge k ≡ true → (abstraction m').base k ≡ ground i) → R.CalmFacts m m'
          → Put (abstraction m') b b' A (read (b A) i k) → GroundedHolds m' b'
      grounded_read A k i e given base_given facts p =
          record {
            holds = rule_read R got opening m m' kept.holds A k i e given facts p;
            grounded =
                read_keeps_ground K ground (seen m) (seen m') kept.grounded e base_given
                (R.calm m m' (still_calm e.still) facts) p;
          }

      pub grounded_write : (A k i : ℕ) (f : Vs.Eff) → Write (abstraction m) (abstraction m') A k f → R.CalmFacts m m'
          → Put (abstraction m') b b' A (write (b A) i k f) → GroundedHolds m' b'
      grounded_write A k i f e facts p =
          record {
            holds = rule_write R got opening m m' kept.holds A k i f e facts p;
            grounded = write_keeps_ground K ground (seen m) (seen m') kept.grounded e (R.calm m m' (write_calm e) facts) p;
          }

      pub grounded_commit : (C P i : ℕ) → Commit (abstraction m) (abstraction m') C P → R.CommitFacts m m' C P → R.pass m C
          → Put (abstraction m') b b' P (child (b P) i C (b C)) → GroundedHolds m' b'
      grounded_commit C P i e facts passed p =
          let holds' = rule_commit R got opening m m' kept.holds C P i e facts passed p in
          record {
            holds = holds';
            grounded =
                commit_keeps_ground K ground (seen m) (seen m') kept.grounded e (R.obligations m m' C P e facts passed)
                kept.holds.store holds'.store p;
          }

    pub grounded_drop : (m m' : M) {b : ℕ → Block Vs.Eff} → GroundedHolds m b → Drop (abstraction m) (abstraction m')
        → R.CalmFacts m m' → GroundedHolds m' b
    grounded_drop m m' kept e facts =
        record {
          holds = rule_drop R got opening m m' kept.holds e facts;
          grounded =
              drop_keeps_ground K ground (seen m) (seen m') kept.grounded e (R.calm m m' (still_calm e.still) facts);
        }
