-- A rule for judging commits, as one record, and demand 3's invariant under any such rule. Assumes nothing.
use Prim.Native.Nat.{ℕ}
use mathlib.Core.Path.{◌≡◌}
use Rattle.rules.specs.Serial.Block.{Block, empty, read, write, child}
use Rattle.rules.proofs.Serial.Values.{Values}
use Rattle.rules.proofs.Serial.AbstractState.{AbstractState}
use Rattle.rules.proofs.Serial.Events.{Start, Read, Write, Drop, Commit, Calm, still_calm, write_calm}
use Rattle.rules.proofs.Serial.Invariant.{Inv, Put}
use Rattle.rules.proofs.Serial.Preservation.{OkBefore, CommitObligations, start_keeps, read_keeps, write_keeps, drop_keeps, commit_keeps}

-- M are the whole states of an engine, tables and times and all; the proof itself looks only at what `abstraction` shows.
pub record Rule {Vs : Values} {M : Type 0} (abstraction : M → AbstractState Vs) : Type 1 where
  -- the action is still fine
  pub ok : M → ℕ → Type 0
  -- the action may commit
  pub pass : M → ℕ → Type 0
  -- what the rule has to be told of a step besides: of a commit, and of any other event
  pub CommitFacts : M → M → ℕ → ℕ → Type 0
  pub CalmFacts : M → M → Type 0
  pub obligations : (m m' : M) (C P : ℕ) → Commit (abstraction m) (abstraction m') C P → CommitFacts m m' C P → pass m C
      → CommitObligations (abstraction m) (abstraction m') (ok m) (ok m') C P
  pub calm : (m m' : M) → Calm (abstraction m) (abstraction m') → CalmFacts m m' → OkBefore (abstraction m) (abstraction m') (ok m) (ok m')

module _ {Vs : Values} {M : Type 0} {abstraction : M → AbstractState Vs} (R : Rule abstraction) (got opening : ℕ → Vs.Val) where
  abbrev pub Holds : M → (ℕ → Block Vs.Eff) → Type 0
  Holds m b = Inv (abstraction m) got opening (R.ok m) b

  -- The step lemmas, from the whole state m and the blocks b to m' and b'.
  module _ (m m' : M) {b b' : ℕ → Block Vs.Eff} (holds : Holds m b) where
    pub rule_start : (A : ℕ) → Start (abstraction m) (abstraction m') A → R.CalmFacts m m' → Put (abstraction m') b b' A empty → Holds m' b'
    rule_start A e facts p = start_keeps holds e (R.calm m m' (still_calm e.still) facts) p

    pub rule_read : (A k i : ℕ) → Read (abstraction m) (abstraction m') A k → (abstraction m').view A k ≡ got i → R.CalmFacts m m'
        → Put (abstraction m') b b' A (read (b A) i k) → Holds m' b'
    rule_read A k i e given facts p = read_keeps holds e given (R.calm m m' (still_calm e.still) facts) p

    pub rule_write : (A k i : ℕ) (f : Vs.Eff) → Write (abstraction m) (abstraction m') A k f → R.CalmFacts m m'
        → Put (abstraction m') b b' A (write (b A) i k f) → Holds m' b'
    rule_write A k i f e facts p = write_keeps holds e (R.calm m m' (write_calm e) facts) p

    pub rule_commit : (C P i : ℕ) → Commit (abstraction m) (abstraction m') C P → R.CommitFacts m m' C P → R.pass m C
        → Put (abstraction m') b b' P (child (b P) i C (b C)) → Holds m' b'
    rule_commit C P i e facts passed p = commit_keeps holds e (R.obligations m m' C P e facts passed) p

  pub rule_drop : (m m' : M) {b : ℕ → Block Vs.Eff} → Holds m b → Drop (abstraction m) (abstraction m') → R.CalmFacts m m' → Holds m' b
  rule_drop m m' holds e facts = drop_keeps holds e (R.calm m m' (still_calm e.still) facts)
