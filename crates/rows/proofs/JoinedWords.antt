-- Whether the words of all accounts are 0, by the words joined bit by bit; and whether those of two rows are the same, by what
-- differs. Assumes nothing.
use Prim.Native.Nat.{ℕ, ◌+◌, ◌-◌, ◌≤◌, ◌<◌}
use native.Mathlib.Omega.{arith}
use mathlib.Core.Path.{◌≡◌, refl, sym, ap, fun_ext}
use mathlib.Core.Bool.{Bool, true, ◌&&◌, and_assoc}
use lib.Bits.{bit_or, bit_xor, or_add_and, and_le_l, and_le_r, xor_add_and, xor_self}
use lib.Dec.{eqb}
use borrow.Author.Tests.{eqb-true, eq-eqb}
use Rattle.rules.specs.Range.{up_from, all}
use Rattle.rules.specs.Card.{account_count}
use Rattle.rules.proofs.Laws.Tests.{and_left, and_right, and_both, and_true, same_test}
use Rattle.rules.proofs.Laws.Ranges.{left_next, left_done}

-- two words joined are 0 where both are
joined_zero : (a b : ℕ) → eqb (bit_or a b) 0 ≡ (eqb a 0 && eqb b 0)
joined_zero a b = same_test (eqb (bit_or a b) 0) (eqb a 0 && eqb b 0) apart together
  where
    apart : eqb (bit_or a b) 0 ≡ true → (eqb a 0 && eqb b 0) ≡ true
    apart h =
        let none = eqb-true (bit_or a b) 0 h in
        let parts = or_add_and a b in
        let low = and_le_l a b in
        let low' = and_le_r a b in
        and_both (eq-eqb a 0 (omega (arith, none, parts, low, low'))) (eq-eqb b 0 (omega (arith, none, parts, low, low')))

    together : (eqb a 0 && eqb b 0) ≡ true → eqb (bit_or a b) 0 ≡ true
    together h =
        let none = eqb-true a 0 (and_left (eqb a 0) (eqb b 0) h) in
        let none' = eqb-true b 0 (and_right (eqb a 0) (eqb b 0) h) in
        eq-eqb (bit_or a b) 0 (omega (arith, none, none', or_add_and a b))

-- what differs between two words is 0 where they are one
differing_zero : (a b : ℕ) → eqb (bit_xor a b) 0 ≡ eqb a b
differing_zero a b = same_test (eqb (bit_xor a b) 0) (eqb a b) same none
  where
    same : eqb (bit_xor a b) 0 ≡ true → eqb a b ≡ true
    same h =
        let none = eqb-true (bit_xor a b) 0 h in
        eq-eqb a b (omega (arith, none, xor_add_and a b, and_le_l a b, and_le_r a b))

    none : eqb a b ≡ true → eqb (bit_xor a b) 0 ≡ true
    none h = rw (eqb-true a b h) (eq-eqb (bit_xor b b) 0 (xor_self b))

-- account k's word
module _ (word_of : ℕ → ℕ) where
  -- .. is 0
  abbrev pub is_none : ℕ → Bool
  is_none k = eqb (word_of k) 0

  -- the words joined so far are 0, and so are those of the accounts from k on
  pub none_from : ℕ → ℕ → Bool
  none_from k joined = eqb joined 0 && all is_none (up_from k (account_count - k))

  pub none_all : (k : ℕ) → all is_none (up_from k (account_count - k)) ≡ none_from k 0
  unfolding none_from
  none_all k = refl

  pub none_next : (k joined : ℕ) → k < account_count → none_from k joined ≡ none_from (k + 1) (bit_or joined (word_of k))
  unfolding none_from all
  none_next k joined h =
      rw (left_next k account_count h, joined_zero joined (word_of k))
      (sym (and_assoc (eqb joined 0) (is_none k) (all is_none (up_from (k + 1) (account_count - (k + 1))))))

  pub none_done : (k joined : ℕ) → account_count ≤ k → none_from k joined ≡ eqb joined 0
  unfolding none_from all
  none_done k joined h = rw (left_done k account_count h) (and_true (eqb joined 0))

-- the words of two rows are the same where nothing differs
pub same_all :
    (one other : ℕ → ℕ) (k : ℕ) →
    all (λ j. eqb (one j) (other j)) (up_from k (account_count - k)) ≡ none_from (λ j. bit_xor (one j) (other j)) k 0
unfolding none_from
same_all one other k =
    ap (λ f. all f (up_from k (account_count - k))) (fun_ext (λ j. sym (differing_zero (one j) (other j))))
