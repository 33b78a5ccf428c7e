-- What the proof of demand 3 sees of an engine, the tree of its live actions, and who sees whose account. Assumes nothing.
use mathlib.Core.Path.{◌≡◌, sym, ◌∙◌, ap}
use mathlib.Core.Bool.{Bool, true, false, false≢true}
use mathlib.Core.Logic.{◌⊎◌, inl, inr}
use Prim.Native.Nat.{ℕ, zero, suc, ◌<◌}
use native.Mathlib.Omega.{arith}
use Rattle.rules.proofs.Serial.Values.{Values}

-- Actions and accounts are numbers; where a field takes both, the action comes first.
pub record AbstractState (Vs : Values) : Type 0 where
  pub live : ℕ → Bool
  pub parent : ℕ → ℕ
  pub has_read : ℕ → ℕ → Bool
  pub eff : ℕ → ℕ → Vs.Eff
  pub base : ℕ → Vs.Val
  pub view : ℕ → ℕ → Vs.Val

abbrev pub Live : {Vs : Values} → AbstractState Vs → ℕ → Type 0
Live s X = s.live X ≡ true

abbrev pub HasRead : {Vs : Values} → AbstractState Vs → ℕ → ℕ → Type 0
HasRead s X k = s.has_read X k ≡ true

-- what X's parent shows, and so what a block of X would begin from
abbrev pub above : {Vs : Values} → AbstractState Vs → ℕ → ℕ → Vs.Val
above s X k = s.view (s.parent X) k

-- Number 0 is the store. The rank falls going up, so that every way up ends there.
pub record Tree {Vs : Values} (s : AbstractState Vs) : Type 0 where
  pub store_not_live : s.live 0 ≡ false
  pub store_view : (k : ℕ) → s.view 0 k ≡ s.base k
  pub parent_held : (X : ℕ) → Live s X → (s.parent X ≡ 0) ⊎ Live s (s.parent X)
  pub live_view : (X : ℕ) → Live s X → (k : ℕ) → s.view X k ≡ Vs.over (s.eff X k) (above s X k)
  pub rank : ℕ → ℕ
  pub rank_falls : (X : ℕ) → Live s X → rank (s.parent X) < rank X

-- X is live and P is its parent, or stands anywhere above.
pub data Below {Vs : Values} (s : AbstractState Vs) (P : ℕ) : ℕ → Type 0 where
  child_of : {X : ℕ} → Live s X → s.parent X ≡ P → Below s P X
  further : {X : ℕ} → Live s X → Below s P (s.parent X) → Below s P X

-- X is below P, and no action strictly between the two hides k: what X begins from then moves with P's k.
-- What X and P themselves have done to k does not count.
pub data Seen {Vs : Values} (s : AbstractState Vs) (k P : ℕ) : ℕ → Type 0 where
  direct : {X : ℕ} → Live s X → s.parent X ≡ P → Seen s k P X
  through : {X : ℕ} → Live s X → Vs.hides (s.eff (s.parent X) k) ≡ false → Seen s k P (s.parent X) → Seen s k P X

module _ {Vs : Values} {s : AbstractState Vs} where
  pub seen_live : {k P X : ℕ} → Seen s k P X → Live s X
  seen_live (direct l e) = l
  seen_live (through l shown seen) = l

  pub seen_cases : {k P X : ℕ} → Seen s k P X
      → (s.parent X ≡ P) ⊎ ((Vs.hides (s.eff (s.parent X) k) ≡ false) × Seen s k P (s.parent X))
  seen_cases (direct l e) = inl e
  seen_cases (through l shown seen) = inr (shown, seen)

  pub seen_below : {k P X : ℕ} → Seen s k P X → Below s P X
  seen_below (direct l e) = child_of l e
  seen_below (through l shown seen) = further l (seen_below seen)

  pub childless_none_below : {P X : ℕ} → ((Y : ℕ) → Live s Y → s.parent Y ≡ P → ⊥) → Below s P X → ⊥
  childless_none_below childless (child_of {X = X} l e) = childless X l e
  childless_none_below childless (further l b) = childless_none_below childless b

-- The way up from a live action to the store, to recurse on.
pub data PathUp {Vs : Values} (s : AbstractState Vs) : ℕ → Type 0 where
  to_store : {X : ℕ} → s.parent X ≡ 0 → PathUp s X
  to_parent : {X : ℕ} → Live s (s.parent X) → PathUp s (s.parent X) → PathUp s X

module _ {Vs : Values} {s : AbstractState Vs} (t : Tree s) where
  pub live_not_store : {X : ℕ} → Live s X → X ≡ 0 → ⊥
  live_not_store l X≡0 = false≢true (sym t.store_not_live ∙ ap s.live (sym X≡0) ∙ l)

  below_rank : {P X : ℕ} → Below s P X → t.rank P < t.rank X
  below_rank (child_of {X = X} l e) = rw (← e) (t.rank_falls X l)
  below_rank (further {X = X} l b) = omega (arith, t.rank_falls X l, below_rank b)

  pub not_below_itself : {P : ℕ} → Below s P P → ⊥
  not_below_itself b = omega (arith, below_rank b)

  path_up_within : (n X : ℕ) → t.rank X < n → Live s X → PathUp s X
  path_up_within zero X low l = absurd (omega arith)
  path_up_within (suc n) X low l = cases (path_up_within n (s.parent X) (omega (arith, t.rank_falls X l))) (t.parent_held X l)
    where
      cases : (Live s (s.parent X) → PathUp s (s.parent X)) → (s.parent X ≡ 0) ⊎ Live s (s.parent X) → PathUp s X
      cases up (inl e) = to_store e
      cases up (inr lp) = to_parent lp (up lp)

  pub path_up : (X : ℕ) → Live s X → PathUp s X
  path_up X l = path_up_within (suc (t.rank X)) X (omega arith) l
