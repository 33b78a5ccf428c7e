-- Below, as demand 3's proof says it and as the rule does; and what is above a live action is the store or live. Assumes nothing.
use Prim.Native.Nat.{ℕ}
use native.Mathlib.Omega.{arith}
use mathlib.Core.Path.{◌≡◌, refl}
use mathlib.Core.Logic.{◌⊎◌, ⊎_elim}
use mathlib.Core.Bool.{true}
use Rattle.rules.specs.Table.{parent_of}
use Rattle.rules.specs.Walk.{is_under}
use Rattle.rules.specs.Sound.{StoreOrLive}
use Rattle.rules.specs.Ledger.{Ledger}
use Rattle.rules.proofs.Serial.Values.{Values}
use Rattle.rules.proofs.Serial.AbstractState.{AbstractState, Live, Below, child_of, further}
use Rattle.rules.proofs.Demand.Abstraction.{abstraction}
use Rattle.rules.proofs.Demand.Proper.{Proper}
use Rattle.rules.proofs.Demand.AbstractionLaws.{alive_given, alive_live, parent_alive}
use Rattle.rules.proofs.Laws.Under.{under_parent, under_further}

pub below_live : {Vs : Values} {s : AbstractState Vs} {Q X : ℕ} → Below s Q X → Live s X
below_live (child_of l e) = l
below_live (further l b) = l

module _ (s : Ledger) (proper : Proper s) where
  pub below_held : {Q X : ℕ} → Below (abstraction s) Q X → (Q ≡ 0) ⊎ Live (abstraction s) Q
  below_held (child_of {X = X} l e) = rw (← e) (parent_alive s proper X l)
  below_held (further l b) = below_held b

  pub held_fact : {Q : ℕ} → (Q ≡ 0) ⊎ Live (abstraction s) Q → StoreOrLive s.table Q
  held_fact =
      ⊎_elim
      (λ store. (omega arith, λ one. absurd (omega arith)))
      (λ l. ((alive_given s.table _ l).1, λ _. alive_live s.table _ l))

  -- what is below Q for the proof is below Q by the rule
  pub below_under : {Q X : ℕ} → Below (abstraction s) Q X → is_under s.table Q X ≡ true
  below_under (child_of {X = X} l e) =
      rw (← e) (under_parent proper.sound X (alive_given s.table X l, alive_live s.table X l))
  below_under {Q} (further {X = X} l b) =
      let above = below_live b in
      under_further proper.sound Q X (parent_of s.table X)
      (alive_given s.table _ above, alive_live s.table _ above) refl (below_under b)
