-- What stands between two turns of a commit: what no turn touches, and what waits for its turn. Assumes nothing.
use Prim.Native.Nat.{ℕ, ◌+◌, ◌≤◌, ◌<◌}
use native.Mathlib.Omega.{arith}
use native.Mathlib.Decide.{ℕ_discrete}
use mathlib.Core.Path.{◌≡◌, refl, sym, ap, ◌∙◌}
use mathlib.Core.Logic.{◌≢◌}
use lib.ListN.{length}
use borrow.Author.Tests.{eq-eqb, ne_eqb}
use Rattle.rules.specs.Card.{account_count, IsCharge, shadow_place, card_at}
use Rattle.rules.specs.Amount.{amount_of, amount_in, base_amount}
use Rattle.rules.specs.Table.{IsAction, width, word, pending_word}
use Rattle.rules.specs.Ledger.{Ledger}
use Rattle.rules.specs.Held.{held_card, held_sum}
use Rattle.rules.specs.Commit.{copy_one, copied_down}
use Rattle.rules.specs.LastFirst.{HoldsSame}
use Rattle.rules.proofs.Copies.Turns.{IsNoSum, turn_length, turn_other_sum, turn_other_row, turn_no_sum, CanCopy, turn_can_copy, turn_other_cards, turn_other_card, turn_base_kept, turn_shadow_kept}
use Rattle.rules.proofs.Copies.Falling.{copied_none, turns_carry}

-- p's sum is the base card's amount, or a word of p's row
pub holds_same :
    (p j : ℕ) (s t : Ledger) → held_card s.base s.shadow p j ≡ held_card t.base t.shadow p j →
    (IsCharge j → pending_word s.table p j ≡ pending_word t.table p j) → HoldsSame p j s t
unfolding base_amount
holds_same p j s t card word = record { card = card; sum = λ charge. by_parent charge (ℕ_discrete p 0) }
  where
    by_parent : IsCharge j → Dec (p ≡ 0) → held_sum s.table s.base p j ≡ held_sum t.table t.base p j
    by_parent charge (yes top) = rw (eq-eqb p 0 top) (ap amount_in (rw (eq-eqb p 0 top) at card))
    by_parent charge (no sub) = rw (ne_eqb p 0 sub) (ap amount_of (word charge))

module _ (s : Ledger) (n p : ℕ) where
  -- ---- the table

  -- the table of t beside that of s, where the accounts below k are still to come
  pub record TableAt (k : ℕ) (t : Ledger) : Type 0 where
    pub same_length : length t.table ≡ length s.table
    pub same_row : (m g : ℕ) → g < width → m ≢ p → word t.table m g ≡ word s.table m g
    pub same_field : (m g : ℕ) → g < width → IsNoSum g → word t.table m g ≡ word s.table m g
    pub sum_waits : (j : ℕ) → j < k → pending_word t.table p j ≡ pending_word s.table p j

  pub table_between : (k : ℕ) → k ≤ account_count → TableAt k (copied_down s n p k)
  table_between k few = turns_carry s n p TableAt account_count k few (omega arith) (rw (copied_none s n p) begun) carry
    where
      begun : TableAt account_count s
      begun = record { same_length = refl; same_row = λ m g _ _. refl; same_field = λ m g _ _. refl; sum_waits = λ j _. refl }

      carry : (j : ℕ) → k ≤ j → j < account_count → (t : Ledger) → TableAt (j + 1) t → TableAt j (copy_one t n p j)
      carry j _ h t at =
          record {
            same_length = turn_length t n p j ∙ at.same_length;
            same_row = λ m g hg ne. turn_other_row t n p j h m g hg ne ∙ at.same_row m g hg ne;
            same_field = λ m g hg off. turn_no_sum t n p j h m g hg off ∙ at.same_field m g hg off;
            sum_waits = λ i ij. turn_other_sum t n p j i (λ z. omega arith) ∙ at.sum_waits i (omega arith);
          }

  -- a sum that has been made stays to the end
  pub sum_made :
      (k j : ℕ) → k ≤ account_count → k ≤ j →
      pending_word (copied_down s n p k).table p j ≡ pending_word (copied_down s n p 0).table p j
  sum_made k j few above =
      turns_carry s n p (λ _ t. pending_word (copied_down s n p k).table p j ≡ pending_word t.table p j) k 0 (omega arith) few
      refl (λ i _ ik t same. same ∙ sym (turn_other_sum t n p i j (λ z. omega arith)))

  -- ---- the stores

  module _ (can : CanCopy s n p) where
    pub record StoresAt (k : ℕ) (t : Ledger) : Type 0 where
      pub can_copy : CanCopy t n p
      pub same_base : p ≢ 0 → t.base ≡ s.base
      pub same_shadow : p ≡ 0 → t.shadow ≡ s.shadow
      pub same_cards :
          (X j : ℕ) → IsAction X → X ≢ p → j < account_count →
          card_at t.shadow (shadow_place X j) ≡ card_at s.shadow (shadow_place X j)
      pub card_waits :
          (j : ℕ) → j < account_count → j < k → held_card t.base t.shadow p j ≡ held_card s.base s.shadow p j

    pub stores_between : (k : ℕ) → k ≤ account_count → StoresAt k (copied_down s n p k)
    stores_between k few = turns_carry s n p StoresAt account_count k few (omega arith) (rw (copied_none s n p) begun) carry
      where
        begun : StoresAt account_count s
        begun =
            record {
              can_copy = can;
              same_base = λ _. refl;
              same_shadow = λ _. refl;
              same_cards = λ X j _ _ _. refl;
              card_waits = λ j _ _. refl;
            }

        carry : (j : ℕ) → k ≤ j → j < account_count → (t : Ledger) → StoresAt (j + 1) t → StoresAt j (copy_one t n p j)
        carry j _ h t at =
            record {
              can_copy = turn_can_copy at.can_copy j h;
              same_base = λ sub. turn_base_kept t n p j sub ∙ at.same_base sub;
              same_shadow = λ top. turn_shadow_kept t n p j top ∙ at.same_shadow top;
              same_cards = λ X i action ne hi.
                  turn_other_cards at.can_copy j h X i action ne hi ∙ at.same_cards X i action ne hi;
              card_waits = λ i hi ij.
                  turn_other_card at.can_copy j h i hi (λ z. omega arith) ∙ at.card_waits i hi (omega arith);
            }

    -- so whatever waits for its turn is held as before
    pub holds_before :
        (k j : ℕ) → k ≤ account_count → j < account_count → j < k → HoldsSame p j (copied_down s n p k) s
    holds_before k j few account waits =
        holds_same p j _ s ((stores_between k few).card_waits j account waits) (λ _. (table_between k few).sum_waits j waits)

    -- a card that has been put stays to the end
    module _ (k j : ℕ) (few : k ≤ account_count) (above : k ≤ j) (h : j < account_count) where
      abbrev Put : ℕ → Ledger → Type 0
      Put _ t =
          CanCopy t n p
          × (held_card (copied_down s n p k).base (copied_down s n p k).shadow p j ≡ held_card t.base t.shadow p j)

      put_carried : (i : ℕ) → 0 ≤ i → i < k → (t : Ledger) → Put (i + 1) t → Put i (copy_one t n p i)
      put_carried i _ ik t (now, same) =
          (turn_can_copy now i (omega arith), same ∙ sym (turn_other_card now i (omega arith) j h (λ z. omega arith)))

      pub card_put :
          held_card (copied_down s n p k).base (copied_down s n p k).shadow p j
          ≡ held_card (copied_down s n p 0).base (copied_down s n p 0).shadow p j
      card_put = (turns_carry s n p Put k 0 (omega arith) few ((stores_between k few).can_copy, refl) put_carried).1
