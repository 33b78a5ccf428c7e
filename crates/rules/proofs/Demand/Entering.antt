-- An account entered in an action's write set, by a write or an add, as demand 3's proof sees it: an effect is laid on the
-- account, nobody else has changed, and a stale read stays stale. Assumes nothing.
use Prim.Native.Nat.{ℕ, ◌<◌}
use native.Mathlib.Omega.{arith}
use native.Mathlib.Decide.{ℕ_discrete}
use mathlib.Core.Path.{◌≡◌}
use mathlib.Core.Logic.{◌⊎◌, inl, inr, ◌≢◌}
use mathlib.Core.Bool.{true}
use Rattle.rules.specs.Card.{account_count}
use Rattle.rules.specs.Table.{word, state_field, read_field, read_entry, sub_time, write_fields}
use Rattle.rules.specs.Kind.{IsKind}
use Rattle.rules.specs.Sound.{IsGiven}
use Rattle.rules.specs.Ledger.{Ledger}
use Rattle.rules.specs.Serial.Effect.{Effect, lay}
use Rattle.rules.proofs.Laws.Queue.{SameLine}
use Rattle.rules.proofs.Laws.Permitted.{Touchable, no_live_child}
use Rattle.rules.proofs.Sound.TableChanges.{TableChange, RowKept}
use Rattle.rules.proofs.Serial.Values.{account_values, lay_nothing}
use Rattle.rules.proofs.Serial.Blocks.{only, only_there, only_elsewhere}
use Rattle.rules.proofs.Serial.Change.{Change}
use Rattle.rules.proofs.Serial.Events.{Write}
use Rattle.rules.proofs.Serial.Stale.{Old}
use Rattle.rules.proofs.Demand.Abstraction.{is_alive, effect_of, has_read_account, abstraction, Stale}
use Rattle.rules.proofs.Demand.Proper.{Proper}
use Rattle.rules.proofs.Demand.AbstractionLaws.{alive_given, alive_live, live_alive, read_account, read_entered, account_read, abstract_tree}
use Rattle.rules.proofs.Demand.Views.{was_alive, same_parent, same_no_later, stale_stays, change_records}

-- from s to t, n enters account k with the effect f
pub record Entering (s t : Ledger) (n k : ℕ) (f : Effect) : Type 0 where
  pub proper : Proper t
  pub same_base : t.base ≡ s.base
  pub change : TableChange s.table t.table n
  -- parents, states, end times and reads stay, and so does every row but n's
  pub fields : (m g : ℕ) → g < write_fields → word t.table m g ≡ word s.table m g
  pub sub_times : (m j : ℕ) → j < account_count → sub_time t.table m j ≡ sub_time s.table m j
  pub rows : (m : ℕ) → m ≢ n → RowKept s.table t.table m
  pub same_line : (h : ℕ) → IsKind h → SameLine s.table t.table h
  pub laid : effect_of t n k ≡ lay f (effect_of s n k)
  -- another action's effect, or on another account
  pub elsewhere : (X j : ℕ) → IsGiven s.table X → (X ≢ n) ⊎ (j ≢ k) → effect_of t X j ≡ effect_of s X j

module _
    {s t : Ledger} (proper : Proper s) {n k : ℕ} (permitted : Touchable s.table n k) {f : Effect} (e : Entering s t n k f) where
  open permitted use {own, alive, childless}

  effect_laid : (j : ℕ) → effect_of t n j ≡ lay (only account_values k f j) (effect_of s n j)
  effect_laid j = cases (ℕ_discrete j k)
    where
      cases : Dec (j ≡ k) → effect_of t n j ≡ lay (only account_values k f j) (effect_of s n j)
      cases (yes same) = rw (same, only_there account_values k f) e.laid
      cases (no ne) = rw (only_elsewhere account_values k f j ne, lay_nothing (effect_of s n j)) (e.elsewhere n j own (inr ne))

  -- ---- reads stay

  pub read_entry_kept : (X j : ℕ) → j < account_count → read_entry t.table X j ≡ read_entry s.table X j
  read_entry_kept X j h = e.fields X (read_field j) (omega arith)

  read_kept : (X j : ℕ) → has_read_account s.table X j ≡ true → has_read_account t.table X j ≡ true
  read_kept X j has =
      let h = read_account s.table X j has in
      account_read t.table X j h (rw (read_entry_kept X j h) (read_entered s.table X j has))

  -- ---- what the proof asks of a write

  abstract_change : Change (abstraction s) (abstraction t) n (only account_values k f)
  abstract_change =
      record {
        tree = abstract_tree s proper;
        tree' = abstract_tree t e.proper;
        parent_kept = λ X x. same_parent e.change X x.before;
        reads_kept = λ X j x. read_kept X j;
        eff_kept = λ X j x other. e.elsewhere X j (alive_given s.table X x.before) (inl other);
        eff_laid = λ X j x same. rw same (effect_laid j);
        base_kept = λ j n≢0. rw e.same_base;
        base_laid = λ j n≡0. absurd (omega (arith, own));
      }

  writer_alive : is_alive t.table n ≡ true
  writer_alive = live_alive t.table n (rw e.change.same_highest own) (rw (e.fields n state_field (omega arith)) alive)

  pub entering_writes : Write (abstraction s) (abstraction t) n k f
  entering_writes =
      record {
        change = abstract_change;
        nobody_new = was_alive e.change;
        writer_live = writer_alive;
        childless = λ X l. no_live_child s.table n childless X (alive_given s.table X l) (alive_live s.table X l);
      }

  pub entering_old : Old (abstraction s) (abstraction t) (Stale s) (Stale t)
  entering_old X Q j x has seen =
      let h = read_account s.table X j has in
      stale_stays s t h (change_records e.change) (same_no_later s.table t.table X j (read_entry_kept X j h) (e.sub_times X j h))
