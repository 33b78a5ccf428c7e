-- An add's table: a live action's write entry, pending sum and own adds for one charge account change, and the table stays
-- sound.
-- Assumes nothing.
use Prim.Native.Nat.{ℕ, ◌≤◌, ◌<◌}
use native.Mathlib.Omega.{arith}
use mathlib.Core.Path.{◌≡◌, ◌∙◌}
use mathlib.Core.Logic.{◌≢◌}
use mathlib.Core.Bool.{true}
use mathlib.Core.List.{List}
use lib.IntN.{ℤ, ◌+ℤ◌}
use lib.ListN.{length}
use Rattle.rules.specs.Card.{first_charge, IsCharge}
use Rattle.rules.specs.Amount.{amount_word}
use Rattle.rules.specs.Table.{entry_fields, width, word, write_field, write_entry, with_write, entered, pending_field, pending_word, with_pending, pending_sum, own_adds_field, own_adds_word, own_adds, is_live}
use Rattle.rules.specs.Sound.{IsGiven, Sound}
use Rattle.rules.specs.Step.{add_table}
use Rattle.rules.proofs.Laws.Words.{with_word_length, word_same, word_other_field, word_off_field, word_other_row}
use Rattle.rules.proofs.Sound.TableChanges.{TableChange, entering_change}

-- the first field of own adds
abbrev pub first_own_adds : ℕ
first_own_adds = own_adds_field first_charge

module _
    (w : List ℕ) (s : Sound w) (n k : ℕ) (own : IsGiven w n) (alive : is_live w n ≡ true) (charge : IsCharge k) (x : ℤ) where
  -- the table with the account entered, then the sum put in; the own adds come last
  abbrev marked : List ℕ
  marked = with_write w n k entered

  abbrev summed : List ℕ
  summed = with_pending marked n k (amount_word (pending_sum w n k +ℤ x))

  summed_long : length summed ≡ length w
  summed_long = with_word_length marked n (pending_field k) _ ∙ with_word_length w n (write_field k) entered

  pub add_length : length (add_table w n k x) ≡ length w
  unfolding add_table
  add_length = with_word_length summed n (own_adds_field k) _ ∙ summed_long

  -- every field before the own adds but the account's write entry and its sum
  pub add_keeps_field :
      (m g : ℕ) → g < first_own_adds → g ≢ write_field k → g ≢ pending_field k → word (add_table w n k x) m g ≡ word w m g
  unfolding add_table
  add_keeps_field m g h off_entry off_sum =
      word_off_field summed n m (own_adds_field k) g _ (omega arith) (omega arith) (λ z. omega arith)
      ∙ word_off_field marked n m (pending_field k) g _ (omega arith) (omega arith) off_sum
      ∙ word_off_field w n m (write_field k) g entered (omega arith) (omega arith) off_entry

  -- every word behind them: the queues' entries and the subaction times
  pub add_keeps_behind : (m g : ℕ) → entry_fields ≤ g → g < width → word (add_table w n k x) m g ≡ word w m g
  unfolding add_table
  add_keeps_behind m g h inside =
      word_off_field summed n m (own_adds_field k) g _ (omega arith) inside (λ z. omega arith)
      ∙ word_off_field marked n m (pending_field k) g _ (omega arith) inside (λ z. omega arith)
      ∙ word_off_field w n m (write_field k) g entered (omega arith) inside (λ z. omega arith)

  -- every row but that of the one that adds
  pub add_keeps_row : (m g : ℕ) → g < width → m ≢ n → word (add_table w n k x) m g ≡ word w m g
  unfolding add_table
  add_keeps_row m g h ne =
      word_other_row summed n m (own_adds_field k) g _ (omega arith) h ne
      ∙ word_other_row marked n m (pending_field k) g _ (omega arith) h ne
      ∙ word_other_row w n m (write_field k) g entered (omega arith) h ne

  pub add_entry : write_entry (add_table w n k x) n k ≡ entered
  unfolding add_table
  add_entry =
      word_other_field summed n (own_adds_field k) (write_field k) _ (λ z. omega arith)
      ∙ word_other_field marked n (pending_field k) (write_field k) _ (λ z. omega arith)
      ∙ word_same w n (write_field k) entered s.long (omega (arith, own, s.few)) (omega arith)

  pub add_pending : pending_word (add_table w n k x) n k ≡ amount_word (pending_sum w n k +ℤ x)
  unfolding add_table
  add_pending =
      word_other_field summed n (own_adds_field k) (pending_field k) _ (λ z. omega arith)
      ∙ word_same marked n (pending_field k) _ (with_word_length w n (write_field k) entered ∙ s.long)
      (omega (arith, own, s.few)) (omega arith)

  pub add_own_adds : own_adds_word (add_table w n k x) n k ≡ amount_word (own_adds w n k +ℤ x)
  unfolding add_table
  add_own_adds = word_same summed n (own_adds_field k) _ (summed_long ∙ s.long) (omega (arith, own, s.few)) (omega arith)

  -- the own adds for another account
  pub add_keeps_own_adds : (m j : ℕ) → IsCharge j → j ≢ k → own_adds_word (add_table w n k x) m j ≡ own_adds_word w m j
  unfolding add_table
  add_keeps_own_adds m j other ne =
      word_off_field summed n m (own_adds_field k) (own_adds_field j) _ (omega arith) (omega arith) (λ z. ne (omega arith))
      ∙ word_off_field marked n m (pending_field k) (own_adds_field j) _ (omega arith) (omega arith) (λ z. omega arith)
      ∙ word_off_field w n m (write_field k) (own_adds_field j) entered (omega arith) (omega arith) (λ z. omega arith)

  pub add_change : TableChange w (add_table w n k x) n
  add_change =
      entering_change w (add_table w n k x) n k s alive add_length
      (λ m g h. add_keeps_field m g (omega arith) (λ z. omega arith) (λ z. omega arith))
      add_keeps_behind add_keeps_row add_entry
      (λ j other ne. (
        add_keeps_field n (write_field j) (omega arith) (λ z. ne (omega arith)) (λ z. omega arith),
        add_keeps_field n (pending_field j) (omega arith) (λ z. omega arith) (λ z. ne (omega arith)),
      ))
