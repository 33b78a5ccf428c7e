-- A read as demand 3's proof sees it: the account is in the reader's read set, or the reader's own card hides all else, and
-- nobody else has changed. Assumes nothing.
use Prim.Native.Nat.{ℕ, ◌+◌, ◌<◌}
use native.Mathlib.Omega.{arith}
use native.Mathlib.Decide.{ℕ_discrete}
use mathlib.Core.Path.{◌≡◌, refl, ap}
use mathlib.Core.Logic.{inl, inr, ⊎_elim}
use mathlib.Core.Bool.{true, false, not}
use mathlib.Core.List.{List}
use lib.Dec.{eqb}
use borrow.Author.Tests.{ne_eqb}
use Rattle.rules.specs.Card.{account_count, is_charge}
use Rattle.rules.specs.Kind.{top_kind}
use Rattle.rules.specs.Table.{counter, state_field, read_field, read_entry, has_read, sub_time_field, sub_time, write_field, has_card, pending_field}
use Rattle.rules.specs.Ledger.{Ledger, with_table}
use Rattle.rules.specs.Step.{leaves_read_set, read_table, read_answer, read}
use Rattle.rules.specs.Serial.Told.{it_read, told}
use Rattle.rules.proofs.Laws.Tests.{or_cases, or_inl, test, not_both, cond_holds}
use Rattle.rules.proofs.Laws.Permitted.{Touchable}
use Rattle.rules.proofs.Sound.TableChanges.{TableChange}
use Rattle.rules.proofs.Sound.Reading.{read_keeps_field, read_keeps_row, entry_read, read_again, read_change}
use Rattle.rules.proofs.Serial.Events.{Noted, Read}
use Rattle.rules.proofs.Serial.Stale.{Old}
use Rattle.rules.proofs.Demand.Abstraction.{abstraction, Stale}
use Rattle.rules.proofs.Demand.Proper.{Proper}
use Rattle.rules.proofs.Demand.AbstractionLaws.{alive_given, live_alive, account_read, card_hides}
use Rattle.rules.proofs.Demand.Views.{Keeps, keeps_still, keeps_old, was_alive, change_keeps_proper, change_records}

-- its answer tells of a read, whatever the account's kind
pub read_told : (w base : List ℕ) (n k : ℕ) (leavers : List ℕ) → told (read_answer w base n k) leavers ≡ it_read
unfolding read_answer
read_told w base n k leavers = cond_holds (λ a. told a leavers ≡ it_read) (is_charge k) (λ _. refl) (λ _. refl)

module _ (s : Ledger) (proper : Proper s) (n k : ℕ) (permitted : Touchable s.table n k) where
  open permitted use {own, alive, account}

  abbrev before : List ℕ
  before = s.table

  abbrev after : List ℕ
  after = read_table before n k

  change : TableChange before after n
  change = read_change before n k account proper.sound own alive

  -- both times that are there stay
  words_kept :
      (m j : ℕ) → j < account_count → has_read before m j ≡ true →
      (read_entry after m j ≡ read_entry before m j) × (sub_time after m j ≡ sub_time before m j)
  words_kept m j inside has = cases (ℕ_discrete m n) (ℕ_discrete j k)
    where
      cases : Dec (m ≡ n) → Dec (j ≡ k) → (read_entry after m j ≡ read_entry before m j) × (sub_time after m j ≡ sub_time before m j)
      cases (no other) _ = (
        read_keeps_row before n k account m (read_field j) (omega arith) other,
        read_keeps_row before n k account m (sub_time_field j) (omega arith) other,
      )
      cases (yes reader) (no other) = (
        read_keeps_field before n k account m (read_field j) (omega arith) (λ z. other (omega arith)) (λ z. omega arith),
        read_keeps_field before n k account m (sub_time_field j) (omega arith) (λ z. omega arith) (λ z. other (omega arith)),
      )
      cases (yes reader) (yes same) =
          let unchanged = read_again before n k account (or_inl (has_card before n k) (rw (reader, same) at has)) in
          rw unchanged (refl, refl)

  read_keeps : Keeps before after
  read_keeps =
      record {
        parents = λ m l. change.parents m (alive_given before m l.0);
        writes = λ m j l inside. read_keeps_field before n k account m (write_field j) (omega arith) (λ z. omega arith) (λ z. omega arith);
        sums = λ m j l charge. read_keeps_field before n k account m (pending_field j) (omega arith) (λ z. omega arith) (λ z. omega arith);
        reads = λ m j l. words_kept m j;
      }

  -- where the reader has no card the account is in its read set then
  entered : has_card before n k ≡ false → has_read after n k ≡ true
  entered bare =
      rw (entry_read before n k account proper.sound own)
      (cond_holds (λ entry. not (eqb entry 0) ≡ true) (leaves_read_set before n k)
      (λ stays. ⊎_elim (λ has. has) (λ card. absurd (not_both card bare)) (or_cases (has_read before n k) (has_card before n k) stays))
      (λ _. ap not (ne_eqb (counter before top_kind + 1) 0 (λ z. omega arith))))

  read_noted : Noted (abstraction s) (abstraction (with_table s after)) n k
  read_noted =
      ⊎_elim
      (λ card. inr (card_hides s n k account card))
      (λ bare. inl (account_read after n k account (entered bare)))
      (test (has_card before n k))

  pub read_reads : Read (abstraction s) (abstraction (read s n k).after) n k
  unfolding read
  read_reads =
      record {
        still = keeps_still s after read_keeps proper (change_keeps_proper proper change);
        nobody_new = was_alive change;
        reader_live =
            live_alive after n (rw change.same_highest own)
            (rw (read_keeps_field before n k account n state_field (omega arith) (λ z. omega arith) (λ z. omega arith)) alive);
        noted = read_noted;
      }

  pub read_old : Old (abstraction s) (abstraction (read s n k).after) (Stale s) (Stale (read s n k).after)
  unfolding read
  read_old = keeps_old s after read_keeps (change_records change)
