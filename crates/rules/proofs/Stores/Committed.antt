-- One commit that passes: it leaves each byte of the two stores that RULES 2.7 keeps, and the lengths of both. Assumes nothing.
use Prim.Native.Nat.{ℕ, ◌+◌, ◌≤◌, ◌<◌}
use native.Mathlib.Omega.{arith}
use native.Mathlib.Decide.{ℕ_discrete}
use mathlib.Core.Path.{◌≡◌, refl, sym, ap, ◌∙◌}
use mathlib.Core.Logic.{◌⊎◌, inl, inr, ⊎_elim}
use mathlib.Core.Bool.{Bool, true, false, not, ◌&&◌}
use mathlib.Core.List.{List, [], ◌∷◌}
use lib.Dec.{leb, ltb, eqb}
use lib.ListN.{get_or}
use borrow.Author.Tests.{leb-false, ltb-false, eq-eqb, ne_eqb}
use Rattle.rules.specs.Range.{any}
use Rattle.rules.specs.Card.{account_count, accounts, is_charge, card_length, base_place, shadow_place}
use Rattle.rules.specs.Table.{parent_of, write_field, write_entry, has_written, has_card, is_live}
use Rattle.rules.specs.Sound.{IsGiven, Sound}
use Rattle.rules.specs.Ledger.{Ledger}
use Rattle.rules.specs.Commit.{copy_one, copied_down, committed_under}
use Rattle.rules.specs.Touch.{is_among, settled_length, is_settled, is_copied, is_joined}
use Rattle.rules.proofs.Laws.Tests.{not_holds, and_fails, or_false, test}
use Rattle.rules.proofs.Laws.Ranges.{not_any_at, any_agree}
use Rattle.rules.proofs.Laws.Sets.{account_within}
use Rattle.rules.proofs.Laws.Cards.{card_at_byte, with_card_leaves}
use Rattle.rules.proofs.Copies.Lines.{line_fits, line_card}
use Rattle.rules.proofs.Copies.Turns.{settled_card, turn_leaves, turn_no_sum, CanCopy, sound_can_copy, own_line, parent_line, store_line, settled_card_length, settled_card_behind, turn_can_copy}
use Rattle.rules.proofs.Copies.Falling.{copied_none, turns_carry}
use Rattle.rules.proofs.Copies.Between.{stores_between}
use Rattle.rules.proofs.Stores.Leaves.{LedgerFits, SameLengths, is_settled_by, LeavesBy}

-- a byte that isn't among so many from a place on comes before the place or behind them
pub not_among : (size place i : ℕ) → is_among size place i ≡ false → (i < place) ⊎ (place + size ≤ i)
not_among size place i h =
    ⊎_elim
    (λ above. inr (ltb-false i (place + size) ((and_fails (leb place i) (ltb i (place + size))).0 h above)))
    (λ below. inl (leb-false place i below))
    (test (leb place i))

-- so if it is the jth from there on, then behind them
behind : (size place j i : ℕ) → is_among size place i ≡ false → place + j ≡ i → size ≤ j
behind size place j i h at = ⊎_elim (λ before. omega arith) (λ after. omega arith) (not_among size place i h)

-- ---- one turn

module _ {s : Ledger} {n p : ℕ} (can : CanCopy s n p) (k : ℕ) (account : k < account_count) (i : ℕ) where
  -- a byte of the base store, where it is none that the account's turn settles
  turn_leaves_base :
      (has_written s.table n k && is_among (settled_length k) (base_place k) i) ≡ false →
      get_or (copy_one s n p k).base i 0 ≡ get_or s.base i 0
  turn_leaves_base outside =
      turn_leaves (λ t. get_or t.base i 0 ≡ get_or s.base i 0) s n p k
      (λ written _.
      with_card_leaves s.base (base_place k) (settled_card s n k)
      (line_fits (store_line can) k account) (settled_card_length can k account) i
      (λ j h at.
      let far = behind (settled_length k) (base_place k) j i ((and_fails (has_written s.table n k) _).0 outside written) at in
      settled_byte j h (is_charge k) refl far ∙ ap (λ x. get_or s.base x 0) at))
      (λ _ _ _. refl) (λ _ _ _. refl) (λ _. refl)
    where
      -- what is not settled of a card stays
      settled_byte :
          (j : ℕ) → j < card_length → (b : Bool) → is_charge k ≡ b → settled_length k ≤ j →
          get_or (settled_card s n k) j 0 ≡ get_or s.base (base_place k + j) 0
      settled_byte j h true charge far =
          settled_card_behind s n k charge j (rw charge at far) ∙ card_at_byte s.base (base_place k) j h
      settled_byte j h false plain far = absurd (omega (arith, rw plain at far))

  -- a byte of the shadow store, where it is none that the account's turn copies over
  turn_leaves_shadow :
      (has_card s.table n k && is_among card_length (shadow_place p k) i) ≡ false →
      get_or (copy_one s n p k).shadow i 0 ≡ get_or s.shadow i 0
  turn_leaves_shadow outside =
      turn_leaves (λ t. get_or t.shadow i 0 ≡ get_or s.shadow i 0) s n p k
      (λ _ _. refl) (λ _ _ _. refl)
      (λ written _ plain.
      let own : has_card s.table n k ≡ true = rw (plain, written) refl in
      with_card_leaves s.shadow (shadow_place p k) _
      (line_fits (parent_line can) k account) (line_card (own_line can) k account) i
      (λ j h at.
      let far = behind card_length (shadow_place p k) j i ((and_fails (has_card s.table n k) _).0 outside own) at in
      absurd (omega arith)))
      (λ _. refl)

-- ---- all turns

module _ (s : Ledger) (sound : Sound s.table) (fits : LedgerFits s) (n : ℕ) (begun : IsGiven s.table n)
    (alive : is_live s.table n ≡ true) where
  abbrev parent : ℕ
  parent = parent_of s.table n

  can : CanCopy s n parent
  can = sound_can_copy sound fits n begun alive

  committed_lengths : SameLengths s (committed_under s n parent)
  unfolding committed_under
  committed_lengths =
      let after = (stores_between s n parent can 0 (omega arith)).can_copy.stores in
      record {
        of_base = after.base_fits ∙ sym fits.base_fits;
        of_shadow = after.shadow_fits ∙ sym fits.shadow_fits;
      }

  -- t stands between two turns: it can go on copying, and n's write set is as it was
  abbrev Copying : Ledger → Type 0
  Copying t = CanCopy t n parent × ((k : ℕ) → k < account_count → write_entry t.table n k ≡ write_entry s.table n k)

  still_copying : (k : ℕ) → k < account_count → (t : Ledger) → Copying t → Copying (copy_one t n parent k)
  still_copying k h t (now, same) =
      (turn_can_copy now k h, λ j hj. turn_no_sum t n parent k h n (write_field j) (omega arith) (inl (omega arith)) ∙ same j hj)

  -- a byte of either store that no turn changes
  turns_leave :
      (store : Ledger → List ℕ) (i : ℕ) →
      ((k : ℕ) → k < account_count → (t : Ledger) → Copying t → get_or (store (copy_one t n parent k)) i 0 ≡ get_or (store t) i 0) →
      get_or (store (copied_down s n parent 0)) i 0 ≡ get_or (store s) i 0
  turns_leave store i leaves =
      (turns_carry s n parent (λ _ t. Copying t × (get_or (store t) i 0 ≡ get_or (store s) i 0)) account_count 0
      (omega arith) (omega arith) (rw (copied_none s n parent) ((can, λ k _. refl), refl))
      (λ k _ hk t (now, same). (still_copying k hk t now, leaves k hk t now ∙ same))
      ).1

  settled_untouched : (i : ℕ) → is_settled s.table n i ≡ false → get_or (copied_down s n parent 0).base i 0 ≡ get_or s.base i 0
  unfolding is_settled accounts
  settled_untouched i h =
      turns_leave (λ t. t.base) i
      (λ k hk t now.
      turn_leaves_base now.0 k hk i (rw (now.1 k hk) (not_any_at _ 0 account_count k h (account_within hk))))

  joined_untouched :
      (i : ℕ) → is_copied s.table n parent i ≡ false → get_or (copied_down s n parent 0).shadow i 0 ≡ get_or s.shadow i 0
  unfolding is_copied accounts
  joined_untouched i h =
      turns_leave (λ t. t.shadow) i
      (λ k hk t now.
      turn_leaves_shadow now.0 k hk i (rw (now.1 k hk) (not_any_at _ 0 account_count k h (account_within hk))))

  committed_base :
      (i : ℕ) → is_settled_by s.table i n ≡ false → get_or (committed_under s n parent).base i 0 ≡ get_or s.base i 0
  unfolding committed_under
  committed_base i none = by_parent (ℕ_discrete parent 0)
    where
      by_parent : Dec (parent ≡ 0) → get_or (copied_down s n parent 0).base i 0 ≡ get_or s.base i 0
      by_parent (yes top) = settled_untouched i ((and_fails (eqb parent 0) _).0 none (eq-eqb parent 0 top))
      by_parent (no sub) = ap (λ base. get_or base i 0) ((stores_between s n parent can 0 (omega arith)).same_base sub)

  committed_shadow :
      (i : ℕ) → is_joined s.table n i ≡ false → get_or (committed_under s n parent).shadow i 0 ≡ get_or s.shadow i 0
  unfolding committed_under
  committed_shadow i none = by_parent (ℕ_discrete parent 0)
    where
      by_parent : Dec (parent ≡ 0) → get_or (copied_down s n parent 0).shadow i 0 ≡ get_or s.shadow i 0
      by_parent (yes top) = ap (λ shadow. get_or shadow i 0) ((stores_between s n parent can 0 (omega arith)).same_shadow top)
      by_parent (no sub) =
          joined_untouched i ((and_fails (not (eqb parent 0)) _).0 none ((not_holds (eqb parent 0)).1 (ne_eqb parent 0 sub)))

  -- ---- by a table in which the action has the same parent and the same write set

  module _
      (w : List ℕ) (same_parent : parent_of s.table n ≡ parent_of w n)
      (same_writes : (k : ℕ) → k < account_count → write_entry s.table n k ≡ write_entry w n k) where
    same_settled : (i : ℕ) → is_settled_by s.table i n ≡ is_settled_by w i n
    unfolding is_settled accounts
    same_settled i =
        rw (
          same_parent,
          any_agree (λ k. has_written s.table n k && is_among (settled_length k) (base_place k) i)
              (λ k. has_written w n k && is_among (settled_length k) (base_place k) i) 0 account_count
              (λ k h. rw (same_writes k (omega arith))),
        )

    same_joined : (i : ℕ) → is_joined s.table n i ≡ is_joined w n i
    unfolding is_copied accounts
    same_joined i =
        rw (
          same_parent,
          any_agree (λ k. has_card s.table n k && is_among card_length (shadow_place (parent_of w n) k) i)
              (λ k. has_card w n k && is_among card_length (shadow_place (parent_of w n) k) i) 0 account_count
              (λ k h. rw (same_writes k (omega arith))),
        )

    pub commit_leaves : LeavesBy w (n ∷ []) s (committed_under s n (parent_of s.table n))
    unfolding any
    commit_leaves =
        record {
          lengths = committed_lengths;
          keeps_base = λ i none. committed_base i (same_settled i ∙ sym (or_false _) ∙ none);
          keeps_shadow = λ i none. committed_shadow i (same_joined i ∙ sym (or_false _) ∙ none);
        }
