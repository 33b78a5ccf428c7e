-- What a block leaves on each account, and when all its reads are given what S gave them. Assumes nothing.
use mathlib.Core.Path.{◌≡◌, refl}
use mathlib.Core.Bool.{cond}
use Prim.Native.Nat.{ℕ}
use lib.Dec.{eqb}
use borrow.Author.Tests.{eq-eqb, ne_eqb}
use Rattle.rules.specs.Serial.Block.{Block, empty, read, write, child}
use Rattle.rules.proofs.Serial.Values.{Values}

module _ (Vs : Values) where
  open Vs use {Val, Eff, nil, lay, over}

  -- e on the account k, and nothing on any other
  unfoldable pub only : ℕ → Eff → ℕ → Eff
  only k e j = cond (eqb j k) e nil

  pub only_there : (k : ℕ) (e : Eff) → only k e k ≡ e
  unfolding only
  only_there k e = rw (eq-eqb k k refl)

  pub only_elsewhere : (k : ℕ) (e : Eff) (j : ℕ) → (j ≡ k → ⊥) → only k e j ≡ nil
  unfolding only
  only_elsewhere k e j j≢k = rw (ne_eqb j k)

  -- What the block leaves, wherever it is run.
  unfoldable pub own : Block Eff → ℕ → Eff
  own empty j = nil
  own (read b i k) j = own b j
  own (write b i k e) j = lay (only k e j) (own b j)
  own (child b i who d) j = lay (own d j) (own b j)

  -- What the accounts show once the block has run in the context ctx, which is what its parent shows at its beginning.
  abbrev pub after : Block Eff → (ℕ → Val) → ℕ → Val
  after b ctx j = over (own b j) (ctx j)

  -- Run in ctx, each read of the block is given what got has for its place.
  unfoldable pub good : (ℕ → Val) → Block Eff → (ℕ → Val) → Type 0
  good got empty ctx = Unit {0}
  good got (read b i k) ctx = good got b ctx × (after b ctx k ≡ got i)
  good got (write b i k e) ctx = good got b ctx
  good got (child b i who d) ctx = good got b ctx × good got d (after b ctx)
