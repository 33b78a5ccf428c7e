-- A write as demand 3's proof sees it: the card is laid on the writer's account. Assumes nothing.
use Prim.Native.Nat.{ℕ, ◌<◌}
use native.Mathlib.Omega.{arith}
use mathlib.Core.Path.{◌≡◌, refl, ap, ◌∙◌}
use mathlib.Core.Logic.{◌⊎◌, inl, inr, ◌≢◌}
use mathlib.Core.List.{List}
use Rattle.rules.specs.Card.{account_count, first_charge, IsCard, shadow_place}
use Rattle.rules.specs.Table.{width, word, sub_time_field, write_field, write_entry, pending_field}
use Rattle.rules.specs.Queue.{queue_length_field}
use Rattle.rules.specs.Sound.{IsGiven}
use Rattle.rules.specs.Ledger.{Ledger}
use Rattle.rules.specs.Step.{write_table, write}
use Rattle.rules.specs.Serial.Effect.{puts, lay}
use Rattle.rules.proofs.Laws.Cards.{Fits, with_card_length, card_at_same, card_at_apart}
use Rattle.rules.proofs.Laws.Permitted.{Touchable}
use Rattle.rules.proofs.Sound.TableChanges.{TableChange, action_width, RowKept}
use Rattle.rules.proofs.Sound.SoundKept.{change_keeps_sound}
use Rattle.rules.proofs.Sound.Writing.{write_keeps_field, write_keeps_row, entry_written, write_change}
use Rattle.rules.proofs.Copies.Lines.{shadow_apart}
use Rattle.rules.proofs.Demand.Abstraction.{effect_of}
use Rattle.rules.proofs.Demand.Proper.{Proper}
use Rattle.rules.proofs.Demand.AbstractionLaws.{effect_card}
use Rattle.rules.proofs.Demand.Views.{effect_kept, fits_shadow}
use Rattle.rules.proofs.Demand.Entering.{Entering}

module _
    (s : Ledger) (proper : Proper s) (n k : ℕ) (permitted : Touchable s.table n k) (below : k < first_charge)
    (card : List ℕ) (whole : IsCard card) where
  open permitted use {own, alive, account}

  -- the state and the table after the write
  abbrev written : Ledger
  written = (write s n k card).after

  abbrev table' : List ℕ
  table' = write_table s.table n k

  table_change : TableChange s.table table' n
  table_change = write_change s.table proper.sound n k own alive account

  field_kept : (m g : ℕ) → g < width → g ≢ write_field k → word table' m g ≡ word s.table m g
  field_kept = write_keeps_field s.table proper.sound n k own alive account

  row_kept : (m : ℕ) → m ≢ n → RowKept s.table table' m
  row_kept m other g h = write_keeps_row s.table proper.sound n k own alive account m g (action_width g h) other

  card_does_fit : Fits s.shadow (shadow_place n k)
  card_does_fit = fits_shadow proper n k own account

  written_proper : Proper written
  unfolding write
  written_proper =
      record {
        sound = change_keeps_sound s.table table' n proper.sound table_change;
        base_fits = proper.base_fits;
        shadow_fits = with_card_length s.shadow (shadow_place n k) card card_does_fit whole ∙ proper.shadow_fits;
      }

  -- ---- effects

  effect_put : effect_of written n k ≡ puts card
  unfolding write
  effect_put =
      effect_card written n k below (rw (entry_written s.table proper.sound n k own alive account))
      ∙ ap puts (card_at_same s.shadow (shadow_place n k) card card_does_fit whole)

  entry_elsewhere : (X j : ℕ) → j < account_count → (X ≢ n) ⊎ (j ≢ k) → write_entry table' X j ≡ write_entry s.table X j
  entry_elsewhere X j h (inl other) = row_kept X other (write_field j) (inl (omega arith))
  entry_elsewhere X j h (inr other) = field_kept X (write_field j) (omega arith) (λ z. other (omega arith))

  effect_elsewhere : (X j : ℕ) → IsGiven s.table X → (X ≢ n) ⊎ (j ≢ k) → effect_of written X j ≡ effect_of s X j
  unfolding write
  effect_elsewhere X j begun elsewhere =
      effect_kept s written X j
      (λ h. entry_elsewhere X j h elsewhere)
      (λ charge. field_kept X (pending_field j) (omega arith) (λ z. omega arith))
      (λ h.
      card_at_apart s.shadow (shadow_place n k) card card_does_fit whole (shadow_place X j) (fits_shadow proper X j begun (omega arith))
      (shadow_apart n X k j own.0 begun.0 account (omega arith) elsewhere))

  pub write_enters : Entering s (write s n k card).after n k (puts card)
  unfolding write lay
  write_enters =
      record {
        proper = written_proper;
        same_base = refl;
        change = table_change;
        fields = λ m g h. field_kept m g (omega arith) (λ z. omega arith);
        rows = row_kept;
        sub_times = λ m j h. field_kept m (sub_time_field j) (omega arith) (λ z. omega arith);
        same_line =
            λ h known.
            record {
              same_length = field_kept 0 (queue_length_field h) (omega arith) (λ z. omega arith);
              same_entries = λ i g _ first last. field_kept i g (omega arith) (λ z. omega arith);
            };
        laid = effect_put;
        elsewhere = effect_elsewhere;
      }
