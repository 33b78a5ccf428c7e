-- RULES 3.2: where the part that a look gives lies. Assumes nothing.
use Rattle.std.specs.Prelude.{ℕ, ◌+◌, ◌≡◌, List, length}
use Rattle.std.specs.Borrow.{Bor}
use Rattle.rules.specs.Look.{Store, in_base, in_shadow, Part}

-- of the two lent stores the one that a part is of
abbrev pub lent : Bor (List ℕ) → Bor (List ℕ) → Store → Bor (List ℕ)
lent base shadow in_base = base
lent base shadow in_shadow = shadow

-- a pointer is a block of memory and an offset in bytes: n bytes further on in the block
abbrev pub further : ℕ → ℕ × ℕ → ℕ × ℕ
further n p = (p.0, n + p.1)

-- r is the part p of the two lent stores: it points to the store that p names, at p's place, and has p's size
pub record IsPart (base shadow : Bor (List ℕ)) (p : Part) (r : Bor (List ℕ)) : Type 0 where
  pub points : r.ref_ptr ≡ further p.place (lent base shadow p.store).ref_ptr
  pub size : length r.now ≡ p.size
