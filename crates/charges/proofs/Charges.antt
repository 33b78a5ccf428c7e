-- The charges of a list, each cut out of it: what is said of one in its own bytes is what is said of it in the list. Assumes
-- nothing.
use Rattle.std.proofs.Common.{◌≡◌, ℕ, zero, suc, ◌*◌, ◌+◌, ◌<◌, ◌∙◌, List, [], take, drop, ap, arith, add-zero}
use native.Mathlib.Nat.{mul-zero, mul-suc}
use lib.ListN.{get_or}
use lib.Seq.{get_or-drop, drop-drop, take-take}
use Rattle.std.specs.Simd.{first_chunks}
use Rattle.std.proofs.lemmas.List.{get_or-take, drop-take}
use Rattle.rules.specs.Amount.{amount_length, low_first, amount_of}
use Rattle.charges.specs.declared.running.Running.{Running}
use Rattle.charges.specs.List.{charge_length, charges_in, charge_place, account_charged, word_charged, cents_charged, charge_fault}
use Rattle.charges.specs.Running.{charged_by}

-- a piece of equal pieces
piece :
    (n k : ℕ) (bytes : List ℕ) (i : ℕ) → i < k → get_or (first_chunks n k bytes) i [] ≡ take n (drop (n * i) bytes)
piece n zero bytes i inside = absurd (omega arith)
piece n (suc k) bytes zero inside = rw (mul-zero n)
piece n (suc k) bytes (suc i) inside =
    let on : n * suc i ≡ n + n * i = rw (mul-suc n i) (omega arith) in
    rw on (piece n k (drop n bytes) i (omega arith) ∙ ap (take n) (drop-drop (n * i) n bytes))

module _ (list : List ℕ) {charges : List (List ℕ)} (are : charges ≡ first_chunks charge_length (charges_in list) list)
    (i : ℕ) (inside : i < charges_in list) where
  abbrev charge : List ℕ
  charge = get_or charges i []

  is_piece : charge ≡ take charge_length (drop (charge_place i) list)
  is_piece = ap (λ pieces. get_or pieces i []) are ∙ piece charge_length (charges_in list) list i inside

  same_account : account_charged charge 0 ≡ account_charged list i
  same_account =
      rw is_piece
      (get_or-take charge_length (drop (charge_place i) list) 0 0 (omega arith)
      ∙ get_or-drop (charge_place i) list 0 0 ∙ rw add-zero)

  same_word : word_charged charge 0 ≡ word_charged list i
  same_word =
      rw is_piece
      (ap (λ bytes. low_first (take amount_length bytes)) (drop-take 1 amount_length (drop (charge_place i) list))
      ∙ ap low_first (take-take amount_length amount_length (drop 1 (drop (charge_place i) list)) (omega arith))
      ∙ ap (λ bytes. low_first (take amount_length bytes)) (drop-drop 1 (charge_place i) list))

  -- its cents, its fault, and what it makes of a record
  pub same_cents : cents_charged charge 0 ≡ cents_charged list i
  same_cents = ap amount_of same_word

  pub same_fault : charge_fault charge 0 ≡ charge_fault list i
  unfolding charge_fault
  same_fault = rw (same_account, same_word)

  pub same_charged : (a : ℕ) (r : Running) → charged_by charge a 0 r ≡ charged_by list a i r
  unfolding charged_by
  same_charged a r = rw (same_account, same_word)
