-- How long the line of what is refused is. Assumes nothing.
use Prim.Native.Nat.{ℕ, ◌+◌, ◌≤◌}
use native.Mathlib.Omega.{arith}
use mathlib.Core.Path.{◌≡◌}
use mathlib.Core.List.{◌∷◌}
use lib.ListN.{length, length-append}
use Rattle.text.specs.Text.{space, decimal, refused_line}
use Rattle.text.proofs.Decimals.{decimal_bound}

-- the letters of `refused`
abbrev pub refused_letters : ℕ
refused_letters = 7

pub length_of_refused : (fault : ℕ) → length (refused_line fault) ≡ refused_letters + length (space ∷ decimal fault) + 1
length_of_refused fault = simp length-append (omega arith)

-- the longest: a space, a number of 20 digits and a line feed behind the word
abbrev pub refused_length : ℕ
refused_length = 29

pub refused_bound : (fault : ℕ) → length (refused_line fault) ≤ refused_length
refused_bound fault = omega (arith, length_of_refused fault, decimal_bound fault)
