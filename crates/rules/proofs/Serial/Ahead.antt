-- The forward rule is a Rule: whoever commits has no effect on what anybody else who is live below its parent has read. So
-- nothing has to be kept of those who live: each is fine as it stands. No time, no record. Assumes nothing.
use mathlib.Core.Path.{◌≡◌, sym, ◌∙◌}
use mathlib.Core.Logic.{◌≢◌}
use Prim.Native.Nat.{ℕ}
use Rattle.rules.proofs.Serial.Values.{Values}
use Rattle.rules.proofs.Serial.AbstractState.{AbstractState, Live, HasRead, Below, child_of, further, seen_below}
use Rattle.rules.proofs.Serial.Change.{Undisturbed}
use Rattle.rules.proofs.Serial.Events.{Commit, stays}
use Rattle.rules.proofs.Serial.Preservation.{CommitObligations}
use Rattle.rules.proofs.Serial.Rule.{Rule}

module _ {Vs : Values} (s : AbstractState Vs) where
  -- what others who are live below C's parent have read, C leaves as it is
  abbrev pub NoneAhead : ℕ → Type 0
  NoneAhead C = (B k : ℕ) → Below s (s.parent C) B → B ≢ C → HasRead s B k → s.eff C k ≡ Vs.nil

module _ {Vs : Values} {s s' : AbstractState Vs} {C P : ℕ} (c : Commit s s' C P) where
  -- who is below somebody after a commit was so before it
  below_before : {Q X : ℕ} → Below s' Q X → Below s Q X
  below_before (child_of {X = X} l' e) =
      child_of (c.nobody_new X l') (sym (c.change.parent_kept X (stays c.nobody_new l')) ∙ e)
  below_before (further {X = X} l' b) =
      further (c.nobody_new X l') (rw (c.change.parent_kept X (stays c.nobody_new l')) at (below_before b))

  -- whoever lives through the commit of C and sees k through P is another than C, below C's parent
  ahead_undisturbed : (Live s' C → ⊥) → NoneAhead s C → (B : ℕ) → Live s' B → Undisturbed s s' P (s.eff C) B
  ahead_undisturbed gone passed B l' k has seen =
      passed B k (rw c.committer_under (below_before (seen_below seen))) (λ same. gone (rw same at l')) has

  pub ahead_judged : (Live s' C → ⊥) → NoneAhead s C → CommitObligations s s' (λ _. Unit {0}) (λ _. Unit {0}) C P
  ahead_judged gone passed =
      record {
        ok_before = λ B x ok. tt;
        child_of_store = λ store. tt;
        child_of_action = λ l_p' ok. tt;
        undisturbed = λ B x ok. ahead_undisturbed gone passed B x.after;
      }

-- of a commit it has to be told that the committer is no longer live
abbrev pub ahead_rule : {Vs : Values} {M : Type 0} (abstraction : M → AbstractState Vs) → Rule abstraction
ahead_rule abstraction =
    record {
      ok = λ m B. Unit {0};
      pass = λ m. NoneAhead (abstraction m);
      CommitFacts = λ m m' C P. Live (abstraction m') C → ⊥;
      CalmFacts = λ m m'. Unit {0};
      obligations = λ m m' C P c gone passed. ahead_judged c gone passed;
      calm = λ m m' c told B x ok. tt;
    }
