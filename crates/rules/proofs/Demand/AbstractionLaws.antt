-- The abstraction of a ledger case by case, that its live actions form a tree, and that charge accounts are seen through to the
-- base. Assumes nothing.
use Prim.Native.Nat.{ℕ, ◌≤◌, ◌<◌}
use native.Mathlib.Omega.{arith}
use native.Mathlib.Decide.{ℕ_discrete, dec_lt}
use mathlib.Core.Path.{◌≡◌, refl, sym, ap, ◌∙◌}
use mathlib.Core.Logic.{◌⊎◌, inl, inr, ⊎_elim, ◌≢◌}
use mathlib.Core.Bool.{true, false, cond, not, ◌&&◌}
use mathlib.Core.List.{List}
use lib.Dec.{leb, ltb}
use lib.IntN.{ℤ, pos, ◌+ℤ◌, +ℤ_idl}
use borrow.Author.Tests.{ltb-true, leb-true, leb-false, not-true, lt-ltb, le-ltb, le-leb}
use Rattle.rules.specs.Card.{account_count, first_charge, is_charge, IsCharge, base_place, shadow_place, card_at}
use Rattle.rules.specs.Amount.{amount_of}
use Rattle.rules.specs.Table.{new_table_under, most_actions, highest, parent_of, has_read, has_written, has_card, pending_sum, is_live}
use Rattle.rules.specs.Walk.{Climbs}
use Rattle.rules.specs.Sound.{IsGiven}
use Rattle.rules.specs.Ledger.{Ledger}
use Rattle.rules.specs.Serial.Effect.{nothing, puts, adds, lay}
use Rattle.rules.proofs.Laws.Tests.{test, and_left, and_right, and_both, and_holds, cond_holds}
use Rattle.rules.proofs.Laws.Amounts.{amount_zero}
use Rattle.rules.proofs.Laws.NewTables.{new_highest}
use Rattle.rules.proofs.Laws.Walking.{walk_store, walk_step, moves_to_store, moves_to_store_step}
use Rattle.rules.proofs.Serial.Values.{over, hides}
use Rattle.rules.proofs.Serial.AbstractState.{Tree}
use Rattle.rules.proofs.Serial.Ground.{ChargesSeen}
use Rattle.rules.proofs.Serial.Shown.{shown_base, account_charges, shown_is_storable}
use Rattle.rules.proofs.Serial.Settling.{is_charge_true, below_charges}
use Rattle.rules.proofs.Demand.Proper.{Proper}
use Rattle.rules.proofs.Demand.Abstraction.{is_alive, written_effect, effect_of, view_of, has_read_account, abstraction}

-- ---- who is live, and who has read what

module _ (w : List ℕ) (X : ℕ) where
  pub alive_given : is_alive w X ≡ true → IsGiven w X
  unfolding is_alive
  alive_given h =
      let numbered = and_left (leb 1 X && leb X (highest w)) (is_live w X) h in
      (leb-true 1 X (and_left (leb 1 X) _ numbered), leb-true X (highest w) (and_right (leb 1 X) _ numbered))

  pub alive_live : is_alive w X ≡ true → is_live w X ≡ true
  unfolding is_alive
  alive_live = and_right (leb 1 X && leb X (highest w)) (is_live w X)

  pub live_alive : IsGiven w X → is_live w X ≡ true → is_alive w X ≡ true
  unfolding is_alive
  live_alive begun = and_both (and_both (le-leb 1 X begun.0) (le-leb X (highest w) begun.1))

-- no number has been given in a new table
pub new_nobody_alive : (r X : ℕ) → is_alive (new_table_under r) X ≡ true → ⊥
new_nobody_alive r X l = omega (arith, alive_given (new_table_under r) X l, new_highest r)

module _ (w : List ℕ) (X k : ℕ) where
  pub read_account : has_read_account w X k ≡ true → k < account_count
  unfolding has_read_account
  read_account h = ltb-true k account_count (and_left (ltb k account_count) (has_read w X k) h)

  pub read_entered : has_read_account w X k ≡ true → has_read w X k ≡ true
  unfolding has_read_account
  read_entered = and_right (ltb k account_count) (has_read w X k)

  pub account_read : k < account_count → has_read w X k ≡ true → has_read_account w X k ≡ true
  unfolding has_read_account
  account_read account = and_both (lt-ltb k account_count account)

-- ---- effects: of an account, and of a number that is none

-- what holds of the accounts and of the other numbers holds of every number
pub by_account : {P : Type 0} (k : ℕ) → (k < account_count → P) → (account_count ≤ k → P) → P
by_account {P} k account beyond = cases (dec_lt k account_count)
  where
    cases : Dec (k < account_count) → P
    cases (yes h) = account h
    cases (no h) = beyond (omega arith)

-- an account is a charge account or not
pub by_charge : {P : Type 0} {k : ℕ} → k < account_count → (k < first_charge → P) → (IsCharge k → P) → P
by_charge {P} {k} account below charge = cases (dec_lt k first_charge)
  where
    cases : Dec (k < first_charge) → P
    cases (yes h) = below h
    cases (no h) = charge (omega arith)

module _ (s : Ledger) (X k : ℕ) where
  pub effect_account : k < account_count → effect_of s X k ≡ cond (has_written s.table X k) (written_effect s X k) nothing
  unfolding effect_of
  effect_account account = rw (lt-ltb k account_count account)

  pub effect_card :
      k < first_charge → has_written s.table X k ≡ true → effect_of s X k ≡ puts (card_at s.shadow (shadow_place X k))
  unfolding written_effect
  effect_card below written = effect_account (omega arith) ∙ rw (written, below_charges below)

  pub effect_sum : IsCharge k → has_written s.table X k ≡ true → effect_of s X k ≡ adds (pending_sum s.table X k)
  unfolding written_effect
  effect_sum charge written = effect_account charge.1 ∙ rw (written, is_charge_true charge)

  pub effect_unwritten : k < account_count → has_written s.table X k ≡ false → effect_of s X k ≡ nothing
  effect_unwritten account unwritten = effect_account account ∙ rw unwritten

  pub effect_no_account : account_count ≤ k → effect_of s X k ≡ nothing
  unfolding effect_of
  effect_no_account beyond = rw (le-ltb k account_count beyond)

  -- an own card hides what lies above it
  pub card_hides : k < account_count → has_card s.table X k ≡ true → hides (effect_of s X k) ≡ true
  unfolding hides
  card_hides account has =
      let (below, written) = (and_holds (not (is_charge k)) (has_written s.table X k)).0 has in
      rw (effect_card (leb-false first_charge k (not-true _ below)) written) refl

  -- an effect on a charge account doesn't hide, whatever the ledger
  effect_seen_through : is_charge k ≡ true → hides (effect_of s X k) ≡ false
  unfolding effect_of written_effect hides
  effect_seen_through charge =
      cond_holds (λ f. hides f ≡ false) (ltb k account_count && has_written s.table X k) (λ _. rw charge) (λ _. refl)

-- a charge account that isn't in the write set has no sum
module _ (s : Ledger) (proper : Proper s) (X k : ℕ) (begun : IsGiven s.table X) (charge : IsCharge k) where
  pub no_sum : has_written s.table X k ≡ false → pending_sum s.table X k ≡ pos 0
  no_sum unwritten = ap amount_of (proper.sound.pendings X k begun charge unwritten) ∙ amount_zero

  -- so what is laid on it, or on one that is, joins the sum
  pub sum_laid : (x : ℤ) → lay (adds x) (effect_of s X k) ≡ adds (pending_sum s.table X k +ℤ x)
  unfolding lay
  sum_laid x =
      ⊎_elim
      (λ written. rw (effect_sum s X k charge written))
      (λ unwritten. rw (effect_unwritten s X k charge.1 unwritten, no_sum unwritten) (ap adds (sym (+ℤ_idl x))))
      (test (has_written s.table X k))

pub charges_seen : (s : Ledger) → ChargesSeen account_charges (abstraction s)
charges_seen s =
    record {
      seen_through = λ X k l. effect_seen_through s X k;
      fits = λ k. shown_is_storable k (card_at s.base (base_place k));
    }

-- ---- views

pub view_store : (s : Ledger) (k : ℕ) → view_of s 0 k ≡ shown_base s.base k
unfolding view_of
view_store s k = walk_store _ _ _ most_actions

pub view_step :
    (s : Ledger) (X k : ℕ) → X ≢ 0 → Climbs s.table X →
    view_of s X k ≡ over (effect_of s X k) (view_of s (parent_of s.table X) k)
unfolding view_of
view_step s X k = walk_step _ _ _ most_actions X

-- ---- the tree

store_not_alive : (w : List ℕ) → is_alive w 0 ≡ false
unfolding is_alive
store_not_alive w = refl

module _ (s : Ledger) (proper : Proper s) where
  -- A live action's parent is the store or live, and so its number was given. The store is told by its number alone:
  -- row 0 is the table's head, and what stands there in a state's place may be anything.
  pub parent_alive :
      (X : ℕ) → is_alive s.table X ≡ true →
      (parent_of s.table X ≡ 0) ⊎ (is_alive s.table (parent_of s.table X) ≡ true)
  parent_alive X l = cases (ℕ_discrete parent 0) (proper.sound.alive X begun (alive_live s.table X l))
    where
      parent : ℕ
      parent = parent_of s.table X

      begun : IsGiven s.table X
      begun = alive_given s.table X l

      cases :
          Dec (parent ≡ 0) → (parent ≡ 0) ⊎ (is_live s.table parent ≡ true) →
          (parent ≡ 0) ⊎ (is_alive s.table parent ≡ true)
      cases (yes store) held = inl store
      cases (no action) (inl store) = inl store
      cases (no action) (inr live) = inr (live_alive s.table parent (omega arith, proper.sound.known X begun) live)

  pub live_climbs : (X : ℕ) → is_alive s.table X ≡ true → (X ≢ 0) × Climbs s.table X
  live_climbs X l =
      let begun = alive_given s.table X l in
      (λ z. omega (arith, begun), proper.sound.climb X begun (alive_live s.table X l))

  deeper_than_parent :
      (X : ℕ) → is_alive s.table X ≡ true → moves_to_store s.table (parent_of s.table X) < moves_to_store s.table X
  deeper_than_parent X l =
      let (ne, up) = live_climbs X l in rw (moves_to_store_step s.table X ne up) (omega arith)

  -- the rank is the moves up to the store
  pub abstract_tree : Tree (abstraction s)
  abstract_tree =
      record {
        store_not_live = store_not_alive s.table;
        store_view = view_store s;
        parent_held = parent_alive;
        live_view = λ X l k. let (ne, up) = live_climbs X l in view_step s X k ne up;
        rank = moves_to_store s.table;
        rank_falls = deeper_than_parent;
      }
