-- What one step may change of the abstract state, and what the actions that live through it then still see. Any event is
-- described by a Change. Assumes nothing.
use mathlib.Core.Path.{◌≡◌, sym, ◌∙◌, ap}
use mathlib.Core.Bool.{false}
use mathlib.Core.Logic.{◌⊎◌, inl, inr, ◌≢◌}
use Prim.Native.Nat.{ℕ}
use native.Mathlib.Decide.{ℕ_discrete}
use Rattle.rules.proofs.Serial.Values.{Values, over_same}
use Rattle.rules.proofs.Serial.AbstractState.{AbstractState, Live, HasRead, above, Tree, Seen, direct, through, seen_live, seen_below, live_not_store, not_below_itself, PathUp, to_store, to_parent, path_up}

-- X lives through the step from s to s'.
pub record Stays {Vs : Values} (s s' : AbstractState Vs) (X : ℕ) : Type 0 where
  pub before : Live s X
  pub after : Live s' X

-- The step lays the effects f on P, an action or the store, and on nobody else.
-- It says nothing of actions that begin or end with it: that is left to each event.
pub record Change {Vs : Values} (s s' : AbstractState Vs) (P : ℕ) (f : ℕ → Vs.Eff) : Type 0 where
  pub tree : Tree s
  pub tree' : Tree s'
  pub parent_kept : (X : ℕ) → Stays s s' X → s'.parent X ≡ s.parent X
  pub reads_kept : (X k : ℕ) → Stays s s' X → HasRead s X k → HasRead s' X k
  pub eff_kept : (X k : ℕ) → Stays s s' X → X ≢ P → s'.eff X k ≡ s.eff X k
  pub eff_laid : (X k : ℕ) → Stays s s' X → X ≡ P → s'.eff X k ≡ Vs.lay (f k) (s.eff X k)
  pub base_kept : (k : ℕ) → P ≢ 0 → s'.base k ≡ s.base k
  pub base_laid : (k : ℕ) → P ≡ 0 → s'.base k ≡ Vs.over (f k) (s.base k)

-- Of the accounts that X has read, X sees none changed at P.
abbrev pub Undisturbed : {Vs : Values} → AbstractState Vs → AbstractState Vs → ℕ → (ℕ → Vs.Eff) → ℕ → Type 0
Undisturbed {Vs} s s' P f X = (k : ℕ) → HasRead s X k → Seen s' k P X → f k ≡ Vs.nil

module _ {Vs : Values} {s s' : AbstractState Vs} {P : ℕ} {f : ℕ → Vs.Eff} (c : Change s s' P f) where
  open Vs use {nil, hides, over, lay_nil, over_nil}

  pub base_same : (k : ℕ) → (P ≡ 0 → f k ≡ nil) → s'.base k ≡ s.base k
  base_same k none = cases (ℕ_discrete P 0)
    where
      cases : Dec (P ≡ 0) → s'.base k ≡ s.base k
      cases (yes P≡0) = c.base_laid k P≡0 ∙ rw (none P≡0) (over_nil (s.base k))
      cases (no P≢0) = c.base_kept k P≢0

  eff_same : (X k : ℕ) → Stays s s' X → (X ≡ P → f k ≡ nil) → s'.eff X k ≡ s.eff X k
  eff_same X k x none = cases (ℕ_discrete X P)
    where
      cases : Dec (X ≡ P) → s'.eff X k ≡ s.eff X k
      cases (yes X≡P) = c.eff_laid X k x X≡P ∙ rw (none X≡P) (lay_nil (s.eff X k))
      cases (no X≢P) = c.eff_kept X k x X≢P

  -- whoever X hangs under lives through the step with it
  parent_does_stay : {X : ℕ} → Stays s s' X → Live s (s.parent X) → Stays s s' (s.parent X)
  parent_does_stay {X} x lp = record { before = lp; after = cases (c.tree'.parent_held X x.after) }
    where
      cases : (s'.parent X ≡ 0) ⊎ Live s' (s'.parent X) → Live s' (s.parent X)
      cases (inl e) = absurd (live_not_store c.tree lp (sym (c.parent_kept X x) ∙ e))
      cases (inr lp') = rw (c.parent_kept X x) at lp'

  -- Seen's two ways up, after the step, by the parent from before it
  direct_after : {k Q X : ℕ} → Stays s s' X → s.parent X ≡ Q → Seen s' k Q X
  direct_after {X = X} x e = direct x.after (c.parent_kept X x ∙ e)

  through_after : {k Q X : ℕ} → Stays s s' X → hides (s'.eff (s.parent X) k) ≡ false
      → Seen s' k Q (s.parent X) → Seen s' k Q X
  through_after {X = X} x shown seen = through x.after (rw (c.parent_kept X x) shown) (rw (c.parent_kept X x) seen)

  -- One step up: if X sees k unchanged at P, then the effect of X's parent on k stays and, unless that effect hides k,
  -- the parent sees k unchanged as well.
  module _ {k X : ℕ} (x : Stays s s' X) (none : Seen s' k P X → f k ≡ nil) (lp : Live s (s.parent X)) where
    parent_eff_same : s'.eff (s.parent X) k ≡ s.eff (s.parent X) k
    parent_eff_same = eff_same (s.parent X) k (parent_does_stay x lp) (λ e. none (direct_after x e))

    parent_shows : hides (s.eff (s.parent X) k) ≡ false → hides (s'.eff (s.parent X) k) ≡ false
    parent_shows shown = ap hides parent_eff_same ∙ shown

    parent_sees_none : hides (s.eff (s.parent X) k) ≡ false → Seen s' k P (s.parent X) → f k ≡ nil
    parent_sees_none shown seen = none (through_after x (parent_shows shown) seen)

  store_view_same : (k : ℕ) → (P ≡ 0 → f k ≡ nil) → s'.view 0 k ≡ s.view 0 k
  store_view_same k none = c.tree'.store_view k ∙ base_same k none ∙ sym (c.tree.store_view k)

  view_same : {k X : ℕ} → Stays s s' X → s'.eff X k ≡ s.eff X k
      → (hides (s.eff X k) ≡ false → above s' X k ≡ above s X k) → s'.view X k ≡ s.view X k
  view_same {k} {X} x eff≡ above≡ =
      c.tree'.live_view X x.after k ∙ ap (λ e. over e (above s' X k)) eff≡ ∙ over_same Vs (s.eff X k) above≡
      ∙ sym (c.tree.live_view X x.before k)

  above_by_parent : {k X : ℕ} → Stays s s' X → s'.view (s.parent X) k ≡ s.view (s.parent X) k
      → above s' X k ≡ above s X k
  above_by_parent {k} {X} x view≡ = ap (λ Q. s'.view Q k) (c.parent_kept X x) ∙ view≡

  above_same_along : {k X : ℕ} → PathUp s X → Stays s s' X → (Seen s' k P X → f k ≡ nil) → above s' X k ≡ above s X k
  above_same_along {k} (to_store e) x none =
      above_by_parent x (rw e (store_view_same k (λ P≡0. none (direct_after x (e ∙ sym P≡0)))))
  above_same_along (to_parent lp w) x none =
      let p = parent_does_stay x lp in
      above_by_parent x
      (view_same p (parent_eff_same x none lp) (λ shown. above_same_along w p (parent_sees_none x none lp shown)))

  -- The change lemma: what X begins from stays, on each account that X does not see changed at P.
  pub above_same : {k X : ℕ} → Stays s s' X → (Seen s' k P X → f k ≡ nil) → above s' X k ≡ above s X k
  above_same {X = X} x none = above_same_along (path_up c.tree X x.before) x none

  -- P is not below itself
  pub place_sees_none : {k : ℕ} → Seen s' k P P → f k ≡ nil
  place_sees_none seen = absurd (not_below_itself c.tree' (seen_below seen))

  -- Through whom X saw k before the step, it sees k after it, if it does not see k changed at P.
  pub seen_stays : {k Q X : ℕ} → Stays s s' X → (Seen s' k P X → f k ≡ nil) → Seen s k Q X → Seen s' k Q X
  seen_stays x none (direct l e) = direct_after x e
  seen_stays x none (through l shown seen) =
      let lp = seen_live seen in
      through_after x (parent_shows x none lp shown) (seen_stays (parent_does_stay x lp) (parent_sees_none x none lp shown) seen)
