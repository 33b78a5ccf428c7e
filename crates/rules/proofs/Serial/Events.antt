-- The events as relations between the abstract state before and after: of each only what the proof uses. Assumes nothing.
use mathlib.Core.Path.{◌≡◌, refl, sym, ◌∙◌}
use mathlib.Core.Bool.{true, false, false≢true}
use mathlib.Core.Logic.{◌⊎◌, inl, inr, ◌≢◌}
use Prim.Native.Nat.{ℕ}
use Rattle.rules.proofs.Serial.Values.{Values}
use Rattle.rules.proofs.Serial.Blocks.{only}
use Rattle.rules.proofs.Serial.AbstractState.{AbstractState, Live, HasRead, Tree, live_not_store, Seen, seen_below, childless_none_below}
use Rattle.rules.proofs.Serial.Change.{Stays, Change}

module _ {Vs : Values} where
  -- A step that lays nothing on anybody.
  abbrev pub Still : AbstractState Vs → AbstractState Vs → Type 0
  Still s s' = Change s s' 0 (λ k. Vs.nil)

  pub lays_nothing : {s s' : AbstractState Vs} → Tree s → Tree s' → ((X : ℕ) → Stays s s' X → s'.parent X ≡ s.parent X)
      → ((X k : ℕ) → Stays s s' X → HasRead s X k → HasRead s' X k) → ((X k : ℕ) → Stays s s' X → s'.eff X k ≡ s.eff X k)
      → ((k : ℕ) → s'.base k ≡ s.base k) → Still s s'
  lays_nothing {s} {s'} t t' parents reads effs bases =
      record {
        tree = t;
        tree' = t';
        parent_kept = parents;
        reads_kept = reads;
        eff_kept = λ X k x X≢0. effs X k x;
        eff_laid = λ X k x X≡0. absurd (live_not_store t x.before X≡0);
        base_kept = λ k 0≢0. bases k;
        base_laid = λ k 0≡0. bases k ∙ sym (Vs.over_nil (s.base k));
      }

  abbrev pub NobodyNew : AbstractState Vs → AbstractState Vs → Type 0
  NobodyNew s s' = (X : ℕ) → Live s' X → Live s X

  -- X's read of k is kept in mind: k is in X's read set after the step, or what X had done to k hides all else.
  abbrev pub Noted : AbstractState Vs → AbstractState Vs → ℕ → ℕ → Type 0
  Noted s s' X k = HasRead s' X k ⊎ (Vs.hides (s.eff X k) ≡ true)

  pub record Start (s s' : AbstractState Vs) (A : ℕ) : Type 0 where
    pub still : Still s s'
    pub nobody_else_new : (X : ℕ) → Live s' X → X ≢ A → Live s X
    pub started_live : Live s' A
    pub started_empty : (k : ℕ) → s'.eff A k ≡ Vs.nil

  -- A reads k. Whether A has live children makes no difference here.
  pub record Read (s s' : AbstractState Vs) (A k : ℕ) : Type 0 where
    pub still : Still s s'
    pub nobody_new : NobodyNew s s'
    pub reader_live : Live s' A
    pub noted : Noted s s' A k

  -- A writes k. A live child might have read k already, so there must be none.
  pub record Write (s s' : AbstractState Vs) (A k : ℕ) (e : Vs.Eff) : Type 0 where
    pub change : Change s s' A (only Vs k e)
    pub nobody_new : NobodyNew s s'
    pub writer_live : Live s' A
    pub childless : (X : ℕ) → Live s X → s.parent X ≡ A → ⊥

  -- An abort or a failed commit: some actions are no longer live. Or an event that changes nothing here at all.
  pub record Drop (s s' : AbstractState Vs) : Type 0 where
    pub still : Still s s'
    pub nobody_new : NobodyNew s s'

  -- C's effects go to its parent P, an action or the store, and its reads to P if that is an action.
  pub record Commit (s s' : AbstractState Vs) (C P : ℕ) : Type 0 where
    pub change : Change s s' P (s.eff C)
    pub nobody_new : NobodyNew s s'
    pub committer_live : Live s C
    pub committer_under : s.parent C ≡ P
    pub reads_noted : (k : ℕ) → Live s' P → HasRead s C k → Noted s s' P k

  -- A step of which nobody sees any change. All the events but a commit are such.
  pub record Calm (s s' : AbstractState Vs) : Type 0 where
    pub place : ℕ
    pub laid : ℕ → Vs.Eff
    pub change : Change s s' place laid
    pub unseen : (X k : ℕ) → Seen s' k place X → laid k ≡ Vs.nil

  module _ {s s' : AbstractState Vs} where
    pub stays : NobodyNew s s' → {X : ℕ} → Live s' X → Stays s s' X
    stays nobody_new {X} l' = record { before = nobody_new X l'; after = l' }

    pub still_calm : Still s s' → Calm s s'
    still_calm c = record { place = 0; laid = λ k. Vs.nil; change = c; unseen = λ X k seen. refl }

    -- nobody is below a writer
    pub write_unseen : {A k : ℕ} {e : Vs.Eff} → Write s s' A k e → (X j : ℕ) → Seen s' j A X → ⊥
    write_unseen {A} w X j seen = childless_none_below childless' (seen_below seen)
      where
        childless' : (Y : ℕ) → Live s' Y → s'.parent Y ≡ A → ⊥
        childless' Y l' under =
            w.childless Y (w.nobody_new Y l') (sym (w.change.parent_kept Y (stays w.nobody_new l')) ∙ under)

    pub write_calm : {A k : ℕ} {e : Vs.Eff} → Write s s' A k e → Calm s s'
    write_calm {A} {k} {e} w =
        record { place = A; laid = only Vs k e; change = w.change; unseen = λ X j seen. absurd (write_unseen w X j seen) }

    -- what C has read past P, P has read after the commit
    pub read_passed_up : {C P : ℕ} → Commit s s' C P → (k : ℕ) → Live s' P → HasRead s C k
        → Vs.hides (s.eff P k) ≡ false → HasRead s' P k
    read_passed_up {C} {P} c k l_p' has shown = cases (c.reads_noted k l_p' has)
      where
        cases : Noted s s' P k → HasRead s' P k
        cases (inl has') = has'
        cases (inr hidden) = absurd (false≢true (sym shown ∙ hidden))
