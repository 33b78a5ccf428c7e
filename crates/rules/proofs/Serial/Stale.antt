-- The backward rule is a Rule, whatever it is that makes a read stale. No arithmetic: times stay outside. Assumes nothing.
use mathlib.Core.Path.{◌≡◌}
use mathlib.Core.Bool.{false}
use mathlib.Core.Logic.{◌⊎◌, inl, inr}
use Prim.Native.Nat.{ℕ}
use Rattle.rules.proofs.Serial.Values.{Values}
use Rattle.rules.proofs.Serial.AbstractState.{AbstractState, Live, HasRead, Seen, seen_live, seen_cases, live_not_store}
use Rattle.rules.proofs.Serial.Change.{Stays, Change, Undisturbed, seen_stays, place_sees_none}
use Rattle.rules.proofs.Serial.Events.{Commit, Calm, read_passed_up}
use Rattle.rules.proofs.Serial.Preservation.{OkBefore, CommitObligations}
use Rattle.rules.proofs.Serial.Rule.{Rule}

-- stale X Q k: since X read k, a child of Q has committed with an effect on k.
module _ {Vs : Values} (s : AbstractState Vs) (stale : ℕ → ℕ → ℕ → Type 0) where
  -- None of B's reads is stale at anybody through whom B sees the account.
  abbrev pub Fine : ℕ → Type 0
  Fine B = (k Q : ℕ) → HasRead s B k → Seen s k Q B → stale B Q k → ⊥

  -- C is judged at its own parent alone.
  abbrev pub Passes : ℕ → Type 0
  Passes C = (k : ℕ) → HasRead s C k → stale C (s.parent C) k → ⊥

module _ {Vs : Values} (s s' : AbstractState Vs) (stale stale' : ℕ → ℕ → ℕ → Type 0) where
  open Vs use {Eff, nil, hides}

  -- A stale read stays stale as far as it is seen: what makes a read stale that nobody sees may be forgotten.
  abbrev pub Old : Type 0
  Old = (X Q k : ℕ) → Stays s s' X → HasRead s X k → Seen s k Q X → stale X Q k → stale' X Q k

  -- With Passes, the four facts about a commit of C under P.
  pub record AtCommit (C P : ℕ) : Type 0 where
    pub old : Old
    -- what C changes makes every earlier read of it stale at P
    pub now : (k : ℕ) → (s.eff C k ≡ nil) ⊎ ((X : ℕ) → Stays s s' X → HasRead s X k → stale' X P k)
    -- a read of C that is stale above P is then a stale read of P
    pub join : (Q k : ℕ) → Live s' P → HasRead s C k → hides (s.eff P k) ≡ false → Seen s k Q P → stale C Q k → stale' P Q k

  fine_before : {P : ℕ} {f : ℕ → Eff} → Change s s' P f → Old → {B : ℕ} → Stays s s' B → Undisturbed s s' P f B
      → Fine s' stale' B → Fine s stale B
  fine_before c old {B} x undisturbed fine' k Q has seen st =
      fine' k Q (c.reads_kept B k x has) (seen_stays c x (undisturbed k has) seen) (old B Q k x has seen st)

  pub stale_calm : Calm s s' → Old → OkBefore s s' (Fine s stale) (Fine s' stale')
  stale_calm c old B x = fine_before c.change old x (λ k has. c.unseen B k)

  module _ {C P : ℕ} (c : Commit s s' C P) (facts : AtCommit C P) (passed : Passes s stale C) where
    commit_undisturbed : (B : ℕ) → Stays s s' B → Fine s' stale' B → Undisturbed s s' P (s.eff C) B
    commit_undisturbed B x fine' k has seen = cases (facts.now k)
      where
        cases : (s.eff C k ≡ nil) ⊎ ((X : ℕ) → Stays s s' X → HasRead s X k → stale' X P k) → s.eff C k ≡ nil
        cases (inl none) = none
        cases (inr all_stale) = absurd (fine' k P (c.change.reads_kept B k x has) seen (all_stale B x has))

    -- C has passed at P, so it is fine if it is fine above P.
    child_fine : ((k Q : ℕ) → HasRead s C k → hides (s.eff P k) ≡ false → Seen s k Q P → stale C Q k → ⊥) → Fine s stale C
    child_fine fine_above k Q has seen st = cases (seen_cases seen)
      where
        cases : (s.parent C ≡ Q) ⊎ ((hides (s.eff (s.parent C) k) ≡ false) × Seen s k Q (s.parent C)) → ⊥
        cases (inl is_Q) = passed k has (rw is_Q st)
        cases (inr above) =
            fine_above k Q has (rw c.committer_under at above.0) (rw c.committer_under at above.1) st

    child_of_store_fine : P ≡ 0 → Fine s stale C
    child_of_store_fine P≡0 = child_fine (λ k Q has shown seen st. live_not_store c.change.tree (seen_live seen) P≡0)

    child_of_action_fine : Live s' P → Fine s' stale' P → Fine s stale C
    child_of_action_fine l_p' fine' =
        child_fine (λ k Q has shown seen st.
        let p : Stays s s' P = record { before = seen_live seen; after = l_p' } in
        fine' k Q (read_passed_up c k l_p' has shown) (seen_stays c.change p (place_sees_none c.change) seen)
        (facts.join Q k l_p' has shown seen st))

    pub stale_judged : CommitObligations s s' (Fine s stale) (Fine s' stale') C P
    stale_judged =
        record {
          ok_before = λ B x fine'. fine_before c.change facts.old x (commit_undisturbed B x fine') fine';
          child_of_store = child_of_store_fine;
          child_of_action = child_of_action_fine;
          undisturbed = commit_undisturbed;
        }

abbrev pub stale_rule : {Vs : Values} {M : Type 0} (abstraction : M → AbstractState Vs) (stale : M → ℕ → ℕ → ℕ → Type 0) → Rule abstraction
stale_rule abstraction stale =
    record {
      ok = λ m. Fine (abstraction m) (stale m);
      pass = λ m. Passes (abstraction m) (stale m);
      CommitFacts = λ m m'. AtCommit (abstraction m) (abstraction m') (stale m) (stale m');
      CalmFacts = λ m m'. Old (abstraction m) (abstraction m') (stale m) (stale m');
      obligations = λ m m' C P. stale_judged (abstraction m) (abstraction m') (stale m) (stale m');
      calm = λ m m'. stale_calm (abstraction m) (abstraction m') (stale m) (stale m');
    }
