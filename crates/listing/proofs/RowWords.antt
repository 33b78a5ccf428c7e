-- Rows cut from words: where a row's words stand among all. Assumes nothing.
use Prim.Native.Nat.{ℕ, zero, suc, ◌+◌, ◌*◌, ◌<◌}
use native.Mathlib.Nat.{mul-zero, zero-add, mul-suc}
use native.Mathlib.Omega.{arith}
use mathlib.Core.Path.{◌≡◌, ◌∙◌}
use mathlib.Core.List.{List, []}
use lib.ListN.{drop, get_or}
use lib.Seq.{get_or-drop}
use Rattle.std.specs.Simd.{first_chunks}
use Rattle.std.proofs.lemmas.List.{get_or-take}

pub word_of_row :
    (n rows : ℕ) (words : List ℕ) (i k : ℕ) → i < rows → k < n →
    get_or (get_or (first_chunks n rows words) i []) k 0 ≡ get_or words (n * i + k) 0
word_of_row n zero words i k row word = absurd (omega arith)
word_of_row n (suc rows) words zero k row word = rw (mul-zero n, zero-add k) (get_or-take n words k 0 word)
word_of_row n (suc rows) words (suc i) k row word =
    let on : n * suc i + k ≡ n + (n * i + k) = rw (mul-suc n i) (omega arith) in
    rw on (word_of_row n rows (drop n words) i k (omega arith) word ∙ get_or-drop n words (n * i + k) 0)
