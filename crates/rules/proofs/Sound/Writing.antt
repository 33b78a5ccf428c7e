-- A write's table: one write entry of one live action changes, and the table stays sound. Assumes nothing.
use Prim.Native.Nat.{ℕ, ◌<◌}
use native.Mathlib.Omega.{arith}
use mathlib.Core.Path.{◌≡◌}
use mathlib.Core.Logic.{◌≢◌}
use mathlib.Core.Bool.{true}
use mathlib.Core.List.{List}
use lib.ListN.{length}
use Rattle.rules.specs.Card.{account_count}
use Rattle.rules.specs.Table.{width, word, write_field, write_entry, entered, pending_field, is_live}
use Rattle.rules.specs.Sound.{IsGiven, Sound}
use Rattle.rules.specs.Step.{write_table}
use Rattle.rules.proofs.Laws.Words.{with_word_length, word_same, word_off_field, word_other_row}
use Rattle.rules.proofs.Sound.TableChanges.{TableChange, entering_change}

module _ (w : List ℕ) (s : Sound w) (n k : ℕ) (own : IsGiven w n) (alive : is_live w n ≡ true) (account : k < account_count) where
  pub write_length : length (write_table w n k) ≡ length w
  unfolding write_table
  write_length = with_word_length w n _ _

  -- every field but the write entries
  pub write_keeps_field : (m g : ℕ) → g < width → g ≢ write_field k → word (write_table w n k) m g ≡ word w m g
  unfolding write_table
  write_keeps_field m g h ne = word_off_field w n m (write_field k) g _ (omega arith) h ne

  -- every row but the writer's
  pub write_keeps_row : (m g : ℕ) → g < width → m ≢ n → word (write_table w n k) m g ≡ word w m g
  unfolding write_table
  write_keeps_row m g h ne = word_other_row w n m (write_field k) g _ (omega arith) h ne

  pub entry_written : write_entry (write_table w n k) n k ≡ entered
  unfolding write_table
  entry_written = word_same w n (write_field k) entered s.long (omega (arith, own, s.few)) (omega arith)

  pub write_change : TableChange w (write_table w n k) n
  write_change =
      entering_change w (write_table w n k) n k s alive write_length
      (λ m g h. write_keeps_field m g (omega arith) (λ z. omega arith))
      (λ m g h inside. write_keeps_field m g inside (λ z. omega arith))
      write_keeps_row entry_written
      (λ j charge ne. (
        write_keeps_field n (write_field j) (omega arith) (λ z. ne (omega arith)),
        write_keeps_field n (pending_field j) (omega arith) (λ z. omega arith),
      ))
