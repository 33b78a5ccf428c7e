-- One account's turn in a commit: what it puts, and what it leaves as it was. Assumes nothing.
use Prim.Native.Nat.{ℕ, ◌≤◌, ◌<◌}
use native.Mathlib.Omega.{arith}
use mathlib.Core.Path.{◌≡◌, refl, sym, ◌∙◌}
use mathlib.Core.Logic.{◌⊎◌, inl, inr, ◌≢◌}
use mathlib.Core.Bool.{Bool, true, false, cond}
use mathlib.Core.List.{List}
use lib.Dec.{eqb}
use lib.IntN.{◌+ℤ◌}
use lib.ListN.{length, get_or}
use borrow.Author.Tests.{eqb-true, eqb-false, eq-eqb, ne_eqb, leb-true}
use Rattle.rules.specs.Card.{account_count, first_charge, is_charge, IsCard, base_place, shadow_place, card_at, with_card, StoresFit}
use Rattle.rules.specs.Amount.{amount_length, amount_word, with_amount, base_amount}
use Rattle.rules.specs.Table.{most_actions, IsAction, width, table_length, word, parent_of, has_written, has_card, pending_field, pending_word, with_pending, pending_sum, is_live}
use Rattle.rules.specs.Sound.{IsGiven, Sound}
use Rattle.rules.specs.Ledger.{Ledger, ledger_of, with_table}
use Rattle.rules.specs.Held.{held_card, held_sum, with_base_card, with_held_card, with_held_sum}
use Rattle.rules.specs.Commit.{copy_one}
use Rattle.rules.proofs.Laws.Tests.{cond_holds, not_both, and_false}
use Rattle.rules.proofs.Laws.Walking.{live_no_own_parent}
use Rattle.rules.proofs.Laws.Words.{with_word_length, word_same, word_other_row, word_other_field, word_off_field}
use Rattle.rules.proofs.Laws.Cards.{with_card_length, card_at_same, card_at_apart}
use Rattle.rules.proofs.Laws.Amounts.{with_amount_length, byte_behind_amount}
use Rattle.rules.proofs.Copies.Lines.{Line, base_line, shadow_line, shadow_apart, line_fits, line_apart, line_card}

-- ---- what a turn puts

-- the card of account k that n's commit puts into the base store: n's own or, of a charge account, the base card with n's
-- pending sum added to its amount
unfoldable pub settled_card : Ledger → ℕ → ℕ → List ℕ
settled_card s n k =
    cond (is_charge k)
    (with_amount (card_at s.base (base_place k)) (base_amount s.base k +ℤ pending_sum s.table n k))
    (card_at s.shadow (shadow_place n k))

-- the word of p's pending sum for charge account k with n's added
abbrev pub added_word : List ℕ → ℕ → ℕ → ℕ → ℕ
added_word w n p k = amount_word (pending_sum w p k +ℤ pending_sum w n k)

-- the ledger with n's card for account k put over p's, p being an action
abbrev pub with_own_card : Ledger → ℕ → ℕ → ℕ → Ledger
with_own_card s n p k =
    ledger_of s.table s.base (with_card s.shadow (shadow_place p k) (card_at s.shadow (shadow_place n k)))

-- what holds of each thing that a turn may leave holds of what it leaves
pub turn_leaves :
    (P : Ledger → Type 0) (s : Ledger) (n p k : ℕ) →
    (has_written s.table n k ≡ true → p ≡ 0 → P (with_base_card s k (settled_card s n k))) →
    (has_written s.table n k ≡ true → p ≢ 0 → is_charge k ≡ true →
    P (with_table s (with_pending s.table p k (added_word s.table n p k)))) →
    (has_written s.table n k ≡ true → p ≢ 0 → is_charge k ≡ false → P (with_own_card s n p k)) →
    (has_written s.table n k ≡ false → P s) → P (copy_one s n p k)
unfolding copy_one with_held_card with_held_sum settled_card
turn_leaves P s n p k settled added copied as_is =
    cond_holds P (has_written s.table n k) (λ written. by_parent (eqb p 0) refl written (is_charge k) refl) as_is
  where
    by_parent :
        (b : Bool) → eqb p 0 ≡ b → has_written s.table n k ≡ true → (c : Bool) → is_charge k ≡ c →
        P (cond (is_charge k)
        (with_held_sum s p k (held_sum s.table s.base p k +ℤ pending_sum s.table n k))
        (with_held_card s p k (card_at s.shadow (shadow_place n k))))
    by_parent true top written true charge = rw (charge, top) (rw charge at (settled written (eqb-true p 0 top)))
    by_parent true top written false plain = rw (plain, top) (rw plain at (settled written (eqb-true p 0 top)))
    by_parent false sub written true charge = rw (charge, sub) (added written (eqb-false p 0 sub) charge)
    by_parent false sub written false plain = rw (plain, sub) (copied written (eqb-false p 0 sub) plain)

-- ---- what it leaves of the table

-- a field that holds no pending sum
abbrev pub IsNoSum : ℕ → Type 0
IsNoSum g = (g < pending_field first_charge) ⊎ (pending_field account_count ≤ g)

module _ (s : Ledger) (n p k : ℕ) where
  pub turn_length : length (copy_one s n p k).table ≡ length s.table
  turn_length =
      turn_leaves (λ t. length t.table ≡ length s.table) s n p k
      (λ _ _. refl) (λ _ _ _. with_word_length s.table p _ _) (λ _ _ _. refl) (λ _. refl)

  -- another account's sum
  pub turn_other_sum : (j : ℕ) → j ≢ k → pending_word (copy_one s n p k).table p j ≡ pending_word s.table p j
  turn_other_sum j ne =
      turn_leaves (λ t. pending_word t.table p j ≡ pending_word s.table p j) s n p k
      (λ _ _. refl)
      (λ _ _ _. word_other_field s.table p (pending_field k) (pending_field j) _ (λ z. ne (omega arith)))
      (λ _ _ _. refl) (λ _. refl)

  module _ (account : k < account_count) where
    -- the rows of all but p
    pub turn_other_row : (m g : ℕ) → g < width → m ≢ p → word (copy_one s n p k).table m g ≡ word s.table m g
    turn_other_row m g h ne =
        turn_leaves (λ t. word t.table m g ≡ word s.table m g) s n p k
        (λ _ _. refl)
        (λ _ _ _. word_other_row s.table p m (pending_field k) g _ (omega arith) h ne)
        (λ _ _ _. refl) (λ _. refl)

    -- whatever is no sum
    pub turn_no_sum : (m g : ℕ) → g < width → IsNoSum g → word (copy_one s n p k).table m g ≡ word s.table m g
    turn_no_sum m g h off =
        turn_leaves (λ t. word t.table m g ≡ word s.table m g) s n p k
        (λ _ _. refl)
        (λ _ _ charge.
        word_off_field s.table p m (pending_field k) g _ (omega arith) h (other off (leb-true first_charge k charge)))
        (λ _ _ _. refl) (λ _. refl)
      where
        other : IsNoSum g → first_charge ≤ k → g ≢ pending_field k
        other (inl before) charge z = omega arith
        other (inr behind) charge z = omega arith

    -- its own sum, where p is an action
    pub turn_sum :
        length s.table ≡ table_length → p ≤ most_actions → p ≢ 0 → is_charge k ≡ true →
        pending_word (copy_one s n p k).table p k
        ≡ cond (has_written s.table n k) (added_word s.table n p k) (pending_word s.table p k)
    turn_sum long few sub charge =
        turn_leaves
        (λ t.
        pending_word t.table p k
        ≡ cond (has_written s.table n k) (added_word s.table n p k) (pending_word s.table p k))
        s n p k
        (λ _ top. absurd (sub top))
        (λ written _ _. rw written (word_same s.table p (pending_field k) _ long few (omega arith)))
        (λ _ _ plain. absurd (not_both charge plain))
        (λ unwritten. rw unwritten refl)

-- ---- what it leaves of the stores

-- what copying n's cards to p asks
pub record CanCopy (s : Ledger) (n p : ℕ) : Type 0 where
  pub stores : StoresFit s.base s.shadow
  pub own : IsAction n
  pub few : p ≤ most_actions
  pub apart : n ≢ p

-- any live action of a sound table can copy to its parent
pub sound_can_copy :
    {s : Ledger} → Sound s.table → StoresFit s.base s.shadow →
    (n : ℕ) → IsGiven s.table n → is_live s.table n ≡ true → CanCopy s n (parent_of s.table n)
sound_can_copy sound fits n begun alive =
    record {
      stores = fits;
      own = (begun.0, omega (arith, begun, sound.few));
      few = omega (arith, sound.known n begun, sound.few);
      apart = λ z. live_no_own_parent sound n begun alive (sym z);
    }

module _ {s : Ledger} {n p : ℕ} (can : CanCopy s n p) where
  -- n's cards, p's and the store's stand in line
  pub own_line : Line (shadow_place n) s.shadow
  own_line = shadow_line s.shadow n can.stores.shadow_fits can.own.1

  pub parent_line : Line (shadow_place p) s.shadow
  parent_line = shadow_line s.shadow p can.stores.shadow_fits can.few

  pub store_line : Line base_place s.base
  store_line = base_line s.base can.stores.base_fits

  pub settled_card_length : (k : ℕ) → k < account_count → IsCard (settled_card s n k)
  unfolding settled_card
  settled_card_length k h =
      cond_holds (λ card. IsCard card) (is_charge k)
      (λ _. with_amount_length _ _ (line_card store_line k h)) (λ _. line_card own_line k h)

  module _ (k : ℕ) (account : k < account_count) where
    -- the next account's turn can come
    pub turn_can_copy : CanCopy (copy_one s n p k) n p
    turn_can_copy =
        turn_leaves (λ t. CanCopy t n p) s n p k
        (λ _ _. with_stores record {
          base_fits =
              with_card_length s.base (base_place k) (settled_card s n k) (line_fits store_line k account)
              (settled_card_length k account)
              ∙ can.stores.base_fits;
          shadow_fits = can.stores.shadow_fits;
        })
        (λ _ _ _. with_stores can.stores)
        (λ _ _ _. with_stores record {
          base_fits = can.stores.base_fits;
          shadow_fits =
              with_card_length s.shadow (shadow_place p k) _ (line_fits parent_line k account) (line_card own_line k account)
              ∙ can.stores.shadow_fits;
        })
        (λ _. can)
      where
        with_stores : {t : Ledger} → StoresFit t.base t.shadow → CanCopy t n p
        with_stores fit = record { stores = fit; own = can.own; few = can.few; apart = can.apart }

    -- the cards of all actions but p
    pub turn_other_cards :
        (X j : ℕ) → IsAction X → X ≢ p → j < account_count →
        card_at (copy_one s n p k).shadow (shadow_place X j) ≡ card_at s.shadow (shadow_place X j)
    turn_other_cards X j action other hj =
        turn_leaves (λ t. card_at t.shadow (shadow_place X j) ≡ card_at s.shadow (shadow_place X j)) s n p k
        (λ _ _. refl) (λ _ _ _. refl)
        (λ _ sub _.
        card_at_apart s.shadow (shadow_place p k) _ (line_fits parent_line k account) (line_card own_line k account)
        (shadow_place X j) (line_fits (shadow_line s.shadow X can.stores.shadow_fits action.1) j hj)
        (shadow_apart p X k j (omega arith) action.0 account hj (inl other)))
        (λ _. refl)

    -- p's card for another account
    pub turn_other_card :
        (j : ℕ) → j < account_count → j ≢ k →
        held_card (copy_one s n p k).base (copy_one s n p k).shadow p j ≡ held_card s.base s.shadow p j
    turn_other_card j hj ne =
        turn_leaves (λ t. held_card t.base t.shadow p j ≡ held_card s.base s.shadow p j) s n p k
        (λ _ top.
        rw (eq-eqb p 0 top)
        (card_at_apart s.base (base_place k) _ (line_fits store_line k account) (settled_card_length k account)
        (base_place j) (line_fits store_line j hj) (line_apart store_line k j (λ z. ne (sym z)))))
        (λ _ _ _. refl)
        (λ _ sub _.
        rw (ne_eqb p 0 sub)
        (card_at_apart s.shadow (shadow_place p k) _ (line_fits parent_line k account) (line_card own_line k account)
        (shadow_place p j) (line_fits parent_line j hj) (line_apart parent_line k j (λ z. ne (sym z)))))
        (λ _. refl)

    -- its own card, where p is the store and where it is an action
    pub turn_base_card :
        p ≡ 0 →
        card_at (copy_one s n p k).base (base_place k)
        ≡ cond (has_written s.table n k) (settled_card s n k) (card_at s.base (base_place k))
    turn_base_card top =
        turn_leaves
        (λ t.
        card_at t.base (base_place k)
        ≡ cond (has_written s.table n k) (settled_card s n k) (card_at s.base (base_place k)))
        s n p k
        (λ written _.
        rw written
        (card_at_same s.base (base_place k) _ (line_fits store_line k account) (settled_card_length k account)))
        (λ _ sub _. absurd (sub top))
        (λ _ sub _. absurd (sub top))
        (λ unwritten. rw unwritten refl)

    pub turn_parent_card :
        p ≢ 0 →
        card_at (copy_one s n p k).shadow (shadow_place p k)
        ≡ cond (has_card s.table n k) (card_at s.shadow (shadow_place n k)) (card_at s.shadow (shadow_place p k))
    turn_parent_card sub =
        turn_leaves
        (λ t.
        card_at t.shadow (shadow_place p k)
        ≡ cond (has_card s.table n k) (card_at s.shadow (shadow_place n k)) (card_at s.shadow (shadow_place p k)))
        s n p k
        (λ _ top. absurd (sub top))
        (λ _ _ charge. rw charge refl)
        (λ written _ plain.
        rw (plain, written)
        (card_at_same s.shadow (shadow_place p k) _ (line_fits parent_line k account) (line_card own_line k account)))
        (λ unwritten. rw (unwritten, and_false) refl)

-- the store that isn't p's
module _ (s : Ledger) (n p k : ℕ) where
  pub turn_base_kept : p ≢ 0 → (copy_one s n p k).base ≡ s.base
  turn_base_kept sub =
      turn_leaves (λ t. t.base ≡ s.base) s n p k (λ _ top. absurd (sub top)) (λ _ _ _. refl) (λ _ _ _. refl) (λ _. refl)

  pub turn_shadow_kept : p ≡ 0 → (copy_one s n p k).shadow ≡ s.shadow
  turn_shadow_kept top =
      turn_leaves (λ t. t.shadow ≡ s.shadow) s n p k (λ _ _. refl) (λ _ sub _. absurd (sub top)) (λ _ sub _. absurd (sub top))
      (λ _. refl)

-- of a charge account's card only the amount is another
pub settled_card_behind :
    (s : Ledger) (n k : ℕ) → is_charge k ≡ true → (j : ℕ) → amount_length ≤ j →
    get_or (settled_card s n k) j 0 ≡ get_or (card_at s.base (base_place k)) j 0
unfolding settled_card
settled_card_behind s n k charge j far = rw charge (byte_behind_amount (card_at s.base (base_place k)) _ j far)
