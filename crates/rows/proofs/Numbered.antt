-- A number that is none where it is 0. Assumes nothing.
use Prim.Native.Nat.{ℕ, ◌≤◌}
use native.Mathlib.Omega.{arith}
use mathlib.Core.Path.{◌≡◌, ◌∙◌}
use mathlib.Core.Logic.{◌≢◌}
use mathlib.Core.Bool.{not}
use lib.Dec.{eqb}
use borrow.Author.Tests.{eqb-true, ne_eqb}
use Rattle.std.specs.Option.{is_some}
use Rattle.std.specs.Prelude.{None, Some}
use Rattle.rules.proofs.Laws.Tests.{cond_holds}
use Rattle.rows.specs.Row.{numbered}

module _ {i p : ℕ} where
  pub found_at : Some i ≡ numbered p → p ≡ i
  found_at e = cond_holds (λ x. Some i ≡ x → p ≡ i) (eqb p 0) (λ _ e. cc) (λ _ e. cc) e

  pub found_some : Some i ≡ numbered p → p ≢ 0
  found_some e z = let none = rw z at e in cc

  pub found_here : p ≡ i → 1 ≤ i → Some i ≡ numbered p
  found_here e one = rw (e, ne_eqb i 0 (λ z. omega arith))

pub found_positive : {i : ℕ} (p : ℕ) → Some i ≡ numbered p → i ≢ 0
found_positive p e z = found_some e (found_at e ∙ z)

pub found_none : {p : ℕ} → None ≡ numbered p → p ≡ 0
found_none {p} e = cond_holds (λ x. None ≡ x → p ≡ 0) (eqb p 0) (λ here _. eqb-true p 0 here) (λ _ e. cc) e

pub found_is : (p : ℕ) → is_some (numbered p) ≡ not (eqb p 0)
found_is p = cond_holds (λ x. is_some x ≡ not (eqb p 0)) (eqb p 0) (λ here. rw here) (λ not. rw not)
