-- A start as demand 3's proof sees it: the number that it gives is live and has no effect, nobody else who lives has changed, and
-- no record has gone that makes a read stale. Assumes nothing.
use Prim.Native.Nat.{ℕ, ◌<◌}
use native.Mathlib.Omega.{arith}
use mathlib.Core.Path.{◌≡◌, refl, ap}
use mathlib.Core.Logic.{inl, inr, ◌≢◌}
use mathlib.Core.Bool.{true, not}
use mathlib.Core.List.{List}
use lib.Dec.{eqb}
use borrow.Author.Tests.{eq-eqb}
use Rattle.rules.specs.Kind.{kind_under}
use Rattle.rules.specs.Table.{parent_field, state_field, end_time, read_field, read_time, sub_time_field, write_field, pending_field, is_live, is_record_of}
use Rattle.rules.specs.Free.{next_number}
use Rattle.rules.specs.Sound.{IsGiven}
use Rattle.rules.specs.Ledger.{Ledger, with_table}
use Rattle.rules.specs.Step.{give_table, start}
use Rattle.rules.specs.Serial.Effect.{nothing}
use Rattle.rules.proofs.Laws.Freeing.{Givable, next_givable}
use Rattle.rules.proofs.Laws.Permitted.{Startable}
use Rattle.rules.proofs.Sound.TableChanges.{RowKept}
use Rattle.rules.proofs.Sound.Giving.{give_state, give_write}
use Rattle.rules.proofs.Sound.Starting.{start_keeps_sound}
use Rattle.rules.proofs.Sound.Started.{start_highest, by_age, old_field}
use Rattle.rules.proofs.Serial.AbstractState.{Below, seen_below}
use Rattle.rules.proofs.Serial.Events.{Start}
use Rattle.rules.proofs.Serial.Stale.{Old}
use Rattle.rules.proofs.Demand.Abstraction.{is_alive, effect_of, has_read_account, abstraction, Stale}
use Rattle.rules.proofs.Demand.Proper.{Proper}
use Rattle.rules.proofs.Demand.AbstractionLaws.{alive_given, alive_live, live_alive, read_account, read_entered, effect_unwritten, effect_no_account, by_account}
use Rattle.rules.proofs.Demand.Views.{stale_by_kept_row, Keeps, keeps_still, keeps_times}
use Rattle.rules.proofs.Demand.Unders.{below_live, below_held, held_fact, below_under}
use Rattle.rules.proofs.Sound.StartRecords.{live_kept, needed_row_kept}

-- the number that a start gives may be given
pub start_givable : {s : Ledger} → Proper s → {p : ℕ} → Startable s.table p → Givable s.table (next_number s.table)
start_givable {s} proper permitted = next_givable s.table proper.sound.few permitted.room

module _ (s : Ledger) (proper : Proper s) (p : ℕ) (permitted : Startable s.table p) where
  abbrev before : List ℕ
  before = s.table

  -- the number that the start gives
  abbrev next : ℕ
  next = next_number before

  abbrev after : List ℕ
  after = give_table before next p

  pub givable : Givable before next
  givable = start_givable proper permitted

  -- whoever is live keeps its row
  pub live_row_kept : (m : ℕ) → is_alive before m ≡ true → RowKept before after m
  live_row_kept m l = live_kept before next p proper.sound givable m (alive_given before m l, alive_live before m l)

  start_keeps : Keeps before after
  start_keeps =
      record {
        parents = λ m l. live_row_kept m l.0 parent_field (inl (omega arith));
        writes = λ m k l account. live_row_kept m l.0 (write_field k) (inl (omega arith));
        sums = λ m k l charge. live_row_kept m l.0 (pending_field k) (inl (omega arith));
        reads =
            λ m k l account has. (
              live_row_kept m l.0 (read_field k) (inl (omega arith)),
              live_row_kept m l.0 (sub_time_field k) (inr (omega arith, omega arith)),
            );
      }

  pub start_keeps_proper : Proper (with_table s after)
  start_keeps_proper =
      record {
        sound =
            start_keeps_sound before next p proper.sound givable permitted.known permitted.alive permitted.unqueued;
        base_fits = proper.base_fits;
        shadow_fits = proper.shadow_fits;
      }

  pub others_were_alive : (X : ℕ) → is_alive after X ≡ true → X ≢ next → is_alive before X ≡ true
  others_were_alive X l other =
      by_age before next p proper.sound givable (λ x. x ≢ next → is_live after x ≡ true → is_alive before x ≡ true)
      (λ x old _ lives.
      live_alive before x old.0
      (rw (old_field before next p proper.sound givable x state_field old (omega arith) (λ z. omega arith)) at lives))
      (λ new. absurd (new refl))
      X (alive_given after X l) other (alive_live after X l)

  next_alive : is_alive after next ≡ true
  next_alive =
      live_alive after next (omega (arith, givable.first, start_highest before next p proper.sound givable))
      (eq-eqb _ _ (give_state before next p proper.sound.long givable.first givable.few))

  next_no_effect : (k : ℕ) → effect_of (with_table s after) next k ≡ nothing
  next_no_effect k =
      by_account k
      (λ account.
      effect_unwritten (with_table s after) next k account
      (ap (λ entry. not (eqb entry 0)) (give_write before next p proper.sound.long givable.first givable.few k account)))
      (effect_no_account (with_table s after) next k)

  pub start_starts : Start (abstraction s) (abstraction (start s p).after) (next_number s.table)
  unfolding start
  start_starts =
      record {
        still = keeps_still s after start_keeps proper start_keeps_proper;
        nobody_else_new = others_were_alive;
        started_live = next_alive;
        started_empty = next_no_effect;
      }

  -- ---- the records

  -- A record that ended after a read, of whatever account, of somebody below its parent is kept.
  pub needed_row :
      {Q X m : ℕ} (k : ℕ) → Below (abstraction s) Q X → has_read_account before X k ≡ true → IsGiven before m →
      is_record_of before Q m ≡ true → read_time before (kind_under Q) X k < end_time before m → RowKept before after m
  needed_row {Q} {X} k below has =
      let l = below_live below in
      needed_row_kept before next p proper.sound givable k (held_fact s proper (below_held s proper below))
      (alive_given before X l, alive_live before X l) (below_under s proper below) (read_account before X k has)
      (read_entered before X k has)

  -- What makes a read stale that somebody sees is such a record.
  pub start_old : Old (abstraction s) (abstraction (start s p).after) (Stale s) (Stale (start s p).after)
  unfolding start
  start_old X Q k x has seen st =
      stale_by_kept_row s (with_table s after) (read_account before X k has) st
      (omega (arith, st.begun, start_highest before next p proper.sound givable))
      (needed_row k (seen_below seen) has st.begun st.is_record st.later)
      (keeps_times s after start_keeps X k (x.before, x.after) has)
