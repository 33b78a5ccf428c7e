-- What stands after all turns of a commit: for each account what its own turn makes of the ledger before the commit. Assumes
-- nothing.
use Prim.Native.Nat.{ℕ, ◌+◌, ◌≤◌, ◌<◌}
use native.Mathlib.Omega.{arith}
use mathlib.Core.Path.{◌≡◌, refl, sym, ap, ◌∙◌}
use mathlib.Core.Logic.{inl, ◌≢◌}
use mathlib.Core.Bool.{true, cond}
use lib.ListN.{length}
use borrow.Author.Tests.{eq-eqb, ne_eqb}
use Rattle.rules.specs.Card.{account_count, accounts, is_charge, base_place, shadow_place, card_at}
use Rattle.rules.specs.Amount.{base_amount}
use Rattle.rules.specs.Kind.{IsKind}
use Rattle.rules.specs.Table.{most_actions, table_length, word, counter_field, counter, parent_field, parent_of, kind_of, write_field, has_written, has_writes, has_card, pending_field, pending_word}
use Rattle.rules.specs.Ledger.{Ledger}
use Rattle.rules.specs.Held.{held_card}
use Rattle.rules.specs.Commit.{copied_down, commit_time}
use Rattle.rules.proofs.Laws.Kinds.{kind_known}
use Rattle.rules.proofs.Laws.Ranges.{any_agree}
use Rattle.rules.proofs.Copies.Turns.{added_word, settled_card, turn_sum, CanCopy, turn_base_card, turn_parent_card}
use Rattle.rules.proofs.Copies.Falling.{copied_next}
use Rattle.rules.proofs.Copies.Between.{TableAt, table_between, sum_made, StoresAt, stores_between, card_put}

module _ (s : Ledger) (n p : ℕ) (apart : n ≢ p) (k : ℕ) (account : k < account_count) where
  -- the ledger when k's turn comes
  abbrev due : Ledger
  due = copied_down s n p (k + 1)

  table_due : TableAt s n p (k + 1) due
  table_due = table_between s n p (k + 1) (omega arith)

  -- n's entry and sum for the account are as they were
  written_due : word due.table n (write_field k) ≡ word s.table n (write_field k)
  written_due = table_due.same_row n (write_field k) (omega arith) apart

  own_sum_due : word due.table n (pending_field k) ≡ word s.table n (pending_field k)
  own_sum_due = table_due.same_row n (pending_field k) (omega arith) apart

  pub copied_sum :
      length s.table ≡ table_length → p ≤ most_actions → p ≢ 0 → is_charge k ≡ true →
      pending_word (copied_down s n p 0).table p k
      ≡ cond (has_written s.table n k) (added_word s.table n p k) (pending_word s.table p k)
  copied_sum long few sub charge =
      let turned = turn_sum due n p k account (table_due.same_length ∙ long) few sub charge in
      sym (sum_made s n p k k (omega arith) (omega arith))
      ∙ ap (λ t. pending_word t.table p k) (copied_next s n p k account)
      ∙ rw (written_due, own_sum_due, table_due.sum_waits k (omega arith)) at turned

  module _ (can : CanCopy s n p) where
    stores_due : StoresAt s n p can (k + 1) due
    stores_due = stores_between s n p can (k + 1) (omega arith)

    -- so are n's card and p's
    own_card_due : card_at due.shadow (shadow_place n k) ≡ card_at s.shadow (shadow_place n k)
    own_card_due = stores_due.same_cards n k can.own apart account

    held_due : held_card due.base due.shadow p k ≡ held_card s.base s.shadow p k
    held_due = stores_due.card_waits k account (omega arith)

    put_by_turn :
        held_card (copied_down s n p k).base (copied_down s n p k).shadow p k
        ≡ held_card (copied_down s n p 0).base (copied_down s n p 0).shadow p k
    put_by_turn = card_put s n p can k k (omega arith) (omega arith) account

    settled_due : p ≡ 0 → settled_card due n k ≡ settled_card s n k
    unfolding settled_card base_amount
    settled_due top = rw (rw (eq-eqb p 0 top) at held_due, own_sum_due, own_card_due) refl

    pub copied_base_card :
        p ≡ 0 →
        card_at (copied_down s n p 0).base (base_place k)
        ≡ cond (has_written s.table n k) (settled_card s n k) (card_at s.base (base_place k))
    copied_base_card top =
        let turned = turn_base_card stores_due.can_copy k account top in
        sym (rw (eq-eqb p 0 top) at put_by_turn)
        ∙ ap (λ t. card_at t.base (base_place k)) (copied_next s n p k account)
        ∙ rw (written_due, settled_due top, rw (eq-eqb p 0 top) at held_due) at turned

    pub copied_parent_card :
        p ≢ 0 →
        card_at (copied_down s n p 0).shadow (shadow_place p k)
        ≡ cond (has_card s.table n k) (card_at s.shadow (shadow_place n k)) (card_at s.shadow (shadow_place p k))
    copied_parent_card sub =
        let turned = turn_parent_card stores_due.can_copy k account sub in
        sym (rw (ne_eqb p 0 sub) at put_by_turn)
        ∙ ap (λ t. card_at t.shadow (shadow_place p k)) (copied_next s n p k account)
        ∙ rw (written_due, own_card_due, rw (ne_eqb p 0 sub) at held_due) at turned

-- ---- what the end goes by

module _ (s : Ledger) (n p : ℕ) where
  all_copied : TableAt s n p 0 (copied_down s n p 0)
  all_copied = table_between s n p 0 (omega arith)

  pub copied_writes : has_writes (copied_down s n p 0).table n ≡ has_writes s.table n
  unfolding has_writes accounts
  copied_writes =
      any_agree (has_written (copied_down s n p 0).table n) (has_written s.table n) 0 account_count
      (λ k h. rw (all_copied.same_field n (write_field k) (omega arith) (inl (omega arith))) refl)

  pub copied_parent : parent_of (copied_down s n p 0).table n ≡ parent_of s.table n
  copied_parent = all_copied.same_field n parent_field (omega arith) (inl (omega arith))

  pub copied_counter : (h : ℕ) → IsKind h → counter (copied_down s n p 0).table h ≡ counter s.table h
  copied_counter h known = all_copied.same_field 0 (counter_field h) (omega arith) (inl (omega arith))

  pub copied_own_counter :
      counter (copied_down s n p 0).table (kind_of (copied_down s n p 0).table n) ≡ counter s.table (kind_of s.table n)
  copied_own_counter = rw copied_parent (copied_counter (kind_of s.table n) (kind_known _))

  pub copied_time : commit_time (copied_down s n p 0).table n ≡ commit_time s.table n
  unfolding commit_time
  copied_time = rw (copied_writes, copied_parent, copied_counter (kind_of s.table n) (kind_known _)) refl
