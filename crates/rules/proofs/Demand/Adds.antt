-- An add as demand 3's proof sees it: its amount is laid on the account of the one that adds. Assumes nothing.
use Prim.Native.Nat.{ℕ, ◌≤◌, ◌<◌}
use native.Mathlib.Omega.{arith}
use mathlib.Core.Path.{◌≡◌, refl, sym, ap, ◌∙◌}
use mathlib.Core.Logic.{◌⊎◌, inl, inr, ◌≢◌}
use mathlib.Core.Bool.{true}
use mathlib.Core.List.{List}
use lib.IntN.{◌+ℤ◌}
use Rattle.rules.specs.Card.{account_count, IsCharge}
use Rattle.rules.specs.Amount.{amount_of, is_amount, amount_in}
use Rattle.rules.specs.Table.{entry_fields, width, word, sub_time_field, write_field, write_entry, pending_field, pending_word, pending_sum}
use Rattle.rules.specs.Queue.{queue_length_field}
use Rattle.rules.specs.Ledger.{Ledger}
use Rattle.rules.specs.Step.{add_table, add}
use Rattle.rules.specs.Serial.Effect.{adds, lay}
use Rattle.rules.proofs.Laws.Amounts.{amount_read_back}
use Rattle.rules.proofs.Laws.Permitted.{Touchable}
use Rattle.rules.proofs.Sound.TableChanges.{TableChange, action_width, RowKept}
use Rattle.rules.proofs.Sound.Adding.{first_own_adds, add_keeps_field, add_keeps_behind, add_keeps_row, add_entry, add_pending, add_change}
use Rattle.rules.proofs.Demand.Abstraction.{effect_of}
use Rattle.rules.proofs.Demand.Proper.{Proper}
use Rattle.rules.proofs.Demand.AbstractionLaws.{effect_sum, sum_laid}
use Rattle.rules.proofs.Demand.Views.{effect_kept, change_keeps_proper}
use Rattle.rules.proofs.Demand.Entering.{Entering}

module _
    (s : Ledger) (proper : Proper s) (n k : ℕ) (permitted : Touchable s.table n k) (charge : IsCharge k) (card : List ℕ)
    (fits : is_amount (pending_sum s.table n k +ℤ amount_in card) ≡ true) where
  open permitted use {own, alive}

  -- the state and the table after the add
  abbrev added : Ledger
  added = (add s n k card).after

  abbrev table' : List ℕ
  table' = add_table s.table n k (amount_in card)

  table_change : TableChange s.table table' n
  table_change = add_change s.table proper.sound n k own alive charge (amount_in card)

  field_kept : (m g : ℕ) → g < first_own_adds → g ≢ write_field k → g ≢ pending_field k → word table' m g ≡ word s.table m g
  field_kept = add_keeps_field s.table proper.sound n k own alive charge (amount_in card)

  behind_kept : (m g : ℕ) → entry_fields ≤ g → g < width → word table' m g ≡ word s.table m g
  behind_kept = add_keeps_behind s.table proper.sound n k own alive charge (amount_in card)

  row_kept : (m : ℕ) → m ≢ n → RowKept s.table table' m
  row_kept m other g h = add_keeps_row s.table proper.sound n k own alive charge (amount_in card) m g (action_width g h) other

  -- ---- effects

  sum_after : pending_sum table' n k ≡ pending_sum s.table n k +ℤ amount_in card
  sum_after =
      ap amount_of (add_pending s.table proper.sound n k own alive charge (amount_in card)) ∙ amount_read_back _ fits

  effect_laid : effect_of added n k ≡ lay (adds (amount_in card)) (effect_of s n k)
  unfolding add
  effect_laid =
      effect_sum added n k charge (rw (add_entry s.table proper.sound n k own alive charge (amount_in card)))
      ∙ ap adds sum_after ∙ sym (sum_laid s proper n k own charge (amount_in card))

  entry_elsewhere : (X j : ℕ) → j < account_count → (X ≢ n) ⊎ (j ≢ k) → write_entry table' X j ≡ write_entry s.table X j
  entry_elsewhere X j h (inl other) = row_kept X other (write_field j) (inl (omega arith))
  entry_elsewhere X j h (inr other) = field_kept X (write_field j) (omega arith) (λ z. other (omega arith)) (λ z. omega arith)

  sum_elsewhere : (X j : ℕ) → IsCharge j → (X ≢ n) ⊎ (j ≢ k) → pending_word table' X j ≡ pending_word s.table X j
  sum_elsewhere X j h (inl other) = row_kept X other (pending_field j) (inl (omega arith))
  sum_elsewhere X j h (inr other) = field_kept X (pending_field j) (omega arith) (λ z. omega arith) (λ z. other (omega arith))

  pub add_enters : Entering s (add s n k card).after n k (adds (amount_in card))
  unfolding add
  add_enters =
      record {
        proper = change_keeps_proper proper table_change;
        same_base = refl;
        change = table_change;
        fields = λ m g h. field_kept m g (omega arith) (λ z. omega arith) (λ z. omega arith);
        rows = row_kept;
        sub_times = λ m j h. behind_kept m (sub_time_field j) (omega arith) (omega arith);
        same_line =
            λ h known.
            record {
              same_length = field_kept 0 (queue_length_field h) (omega arith) (λ z. omega arith) (λ z. omega arith);
              same_entries = λ i g _ first last. behind_kept i g (omega arith) (omega arith);
            };
        laid = effect_laid;
        elsewhere = λ X j begun other.
            effect_kept s added X j (λ h. entry_elsewhere X j h other) (λ h. sum_elsewhere X j h other) (λ _. refl);
      }
