-- What makes two ledgers show the same: effects that stay, and reads that stay stale; and what an event must keep of the table,
-- where it touches no store, to lay nothing on anybody. Assumes nothing.
use Prim.Native.Nat.{ℕ, ◌≤◌, ◌<◌}
use native.Mathlib.Nat.{le_of_eq, le_refl}
use native.Mathlib.Omega.{arith}
use mathlib.Core.Path.{◌≡◌, refl, sym, ◌∙◌}
use mathlib.Core.Logic.{inl}
use mathlib.Core.Bool.{true}
use mathlib.Core.List.{List}
use Rattle.rules.specs.Card.{account_count, first_charge, IsCharge, shadow_place, card_at}
use Rattle.rules.specs.Kind.{kind_under}
use Rattle.rules.specs.Table.{highest, parent_of, state_field, end_field, read_entry, has_read, sub_time, read_time, write_field, write_entry, pending_word, is_committed}
use Rattle.rules.specs.Sound.{IsGiven}
use Rattle.rules.specs.Ledger.{Ledger, with_table}
use Rattle.rules.proofs.Sound.TableChanges.{TableChange, RowKept}
use Rattle.rules.proofs.Sound.SoundKept.{change_keeps_sound}
use Rattle.rules.proofs.Serial.Events.{Still, lays_nothing}
use Rattle.rules.proofs.Serial.Stale.{Old}
use Rattle.rules.proofs.Serial.Settling.{is_charge_true, below_charges}
use Rattle.rules.proofs.Laws.Cards.{Fits}
use Rattle.rules.proofs.Copies.Lines.{shadow_line, line_fits}
use Rattle.rules.proofs.Demand.Abstraction.{is_alive, written_effect, effect_of, has_read_account, abstraction, Stale}
use Rattle.rules.proofs.Demand.Proper.{Proper}
use Rattle.rules.proofs.Demand.AbstractionLaws.{alive_given, alive_live, live_alive, read_account, read_entered, account_read, effect_account, effect_no_account, by_account, by_charge, abstract_tree}
use Rattle.rules.proofs.Sound.NewestKept.{record_committed, record_kept}

-- ---- effects

-- an action with the same write entry and the same card or, of a charge account, the same pending sum has the same effect
pub effect_kept :
    (s t : Ledger) (X k : ℕ) → (k < account_count → write_entry t.table X k ≡ write_entry s.table X k) →
    (IsCharge k → pending_word t.table X k ≡ pending_word s.table X k) →
    (k < first_charge → card_at t.shadow (shadow_place X k) ≡ card_at s.shadow (shadow_place X k)) →
    effect_of t X k ≡ effect_of s X k
unfolding written_effect
effect_kept s t X k entry sum card =
    by_account k
    (λ account. rw (effect_account t X k account, effect_account s X k account, entry account)
    (by_charge account (λ below. rw (below_charges below, card below)) (λ charge. rw (is_charge_true charge, sum charge))))
    (λ beyond. effect_no_account t X k beyond ∙ sym (effect_no_account s X k beyond))

-- ---- stale reads

-- Y's read of account k in v is no later than X's in w, by its time of either kind.
abbrev pub NoLater : List ℕ → ℕ → List ℕ → ℕ → ℕ → Type 0
NoLater w X v Y k = (h : ℕ) → read_time v h Y k ≤ read_time w h X k

-- so where both its words are the same
pub same_no_later :
    (w v : List ℕ) (X k : ℕ) → read_entry v X k ≡ read_entry w X k → sub_time v X k ≡ sub_time w X k → NoLater w X v X k
same_no_later w v X k entry time h = le_of_eq (rw (entry, time) refl)

-- A read is stale by a record: while the record's row is kept, whoever has read the account at no later a time has a stale read.
pub stale_by_kept_row :
    (s t : Ledger) {X Y Q k : ℕ} → k < account_count → (st : Stale s X Q k) → IsGiven t.table st.holder →
    RowKept s.table t.table st.holder → NoLater s.table X t.table Y k → Stale t Y Q k
stale_by_kept_row s t {Q = Q} {k = k} account st begun row no_later =
    record {
      holder = st.holder;
      begun = begun;
      is_record = record_kept s.table t.table Q st.holder row ∙ st.is_record;
      written = rw (row (write_field k) (inl (omega arith))) st.written;
      later = rw (row end_field (inl (omega arith))) (omega (arith, no_later (kind_under Q), st.later));
    }

-- every committed action keeps its row
pub record RecordsKept (w v : List ℕ) : Type 0 where
  pub no_fewer : highest w ≤ highest v
  pub rows : (m : ℕ) → IsGiven w m → is_committed w m ≡ true → RowKept w v m

-- so it is where nothing starts
pub change_records : {w v : List ℕ} {now : ℕ} → TableChange w v now → RecordsKept w v
change_records c = record { no_fewer = le_of_eq (sym c.same_highest); rows = c.finals }

pub records_same : (w : List ℕ) → RecordsKept w w
records_same w = record { no_fewer = le_refl (highest w); rows = λ m begun done g inside. refl }

pub records_twice : {u w v : List ℕ} → RecordsKept u w → RecordsKept w v → RecordsKept u v
records_twice {u} {w} first then =
    record {
      no_fewer = omega (arith, first.no_fewer, then.no_fewer);
      rows = λ m begun done g inside.
          let row = first.rows m begun done in
          then.rows m (omega (arith, begun, first.no_fewer)) (rw (row state_field (inl (omega arith))) done) g inside
          ∙ row g inside;
    }

-- then every stale read stays stale: what makes it so is one of them
pub stale_stays :
    (s t : Ledger) {X Y Q k : ℕ} → k < account_count → RecordsKept s.table t.table →
    NoLater s.table X t.table Y k → Stale s X Q k → Stale t Y Q k
stale_stays s t {Q = Q} account kept no_later st =
    stale_by_kept_row s t account st (omega (arith, st.begun, kept.no_fewer))
    (kept.rows st.holder st.begun (record_committed s.table Q st.holder st.is_record)) no_later

-- ---- places

-- the card of an action lies inside the store
pub fits_shadow :
    {s : Ledger} → Proper s → (X k : ℕ) → IsGiven s.table X → k < account_count → Fits s.shadow (shadow_place X k)
fits_shadow {s} proper X k begun account =
    line_fits (shadow_line s.shadow X proper.shadow_fits (omega (arith, begun, proper.sound.few))) k account

-- ---- an event that touches no store

-- action m is live in both tables
abbrev pub LivesOn : List ℕ → List ℕ → ℕ → Type 0
LivesOn w v m = (is_alive w m ≡ true) × (is_alive v m ≡ true)

-- The table v keeps of each action that lives on the parent, the writes, the sums and the reads. For the rest, reads may have been
-- entered, live actions may have ended and one may have begun.
pub record Keeps (w v : List ℕ) : Type 0 where
  pub parents : (m : ℕ) → LivesOn w v m → parent_of v m ≡ parent_of w m
  pub writes : (m k : ℕ) → LivesOn w v m → k < account_count → write_entry v m k ≡ write_entry w m k
  pub sums : (m k : ℕ) → LivesOn w v m → IsCharge k → pending_word v m k ≡ pending_word w m k
  pub reads :
      (m k : ℕ) → LivesOn w v m → k < account_count → has_read w m k ≡ true →
      (read_entry v m k ≡ read_entry w m k) × (sub_time v m k ≡ sub_time w m k)

module _ (s : Ledger) (v : List ℕ) (kept : Keeps s.table v) where
  words_kept :
      (X k : ℕ) → LivesOn s.table v X → has_read_account s.table X k ≡ true →
      (read_entry v X k ≡ read_entry s.table X k) × (sub_time v X k ≡ sub_time s.table X k)
  words_kept X k l has = kept.reads X k l (read_account s.table X k has) (read_entered s.table X k has)

  read_kept : (X k : ℕ) → LivesOn s.table v X → has_read_account s.table X k ≡ true → has_read_account v X k ≡ true
  read_kept X k l has =
      account_read v X k (read_account s.table X k has) (rw (words_kept X k l has).0 (read_entered s.table X k has))

  pub keeps_still : Proper s → Proper (with_table s v) → Still (abstraction s) (abstraction (with_table s v))
  keeps_still proper proper' =
      lays_nothing (abstract_tree s proper) (abstract_tree (with_table s v) proper')
      (λ X x. kept.parents X (x.before, x.after))
      (λ X k x. read_kept X k (x.before, x.after))
      (λ X k x.
      effect_kept s (with_table s v) X k (kept.writes X k (x.before, x.after)) (kept.sums X k (x.before, x.after)) (λ _. refl))
      (λ k. refl)

  -- no read that lives on is later than it was
  pub keeps_times :
      (X k : ℕ) → LivesOn s.table v X → has_read_account s.table X k ≡ true → NoLater s.table X v X k
  keeps_times X k l has = let (entry, time) = words_kept X k l has in same_no_later s.table v X k entry time

  pub keeps_old : RecordsKept s.table v → Old (abstraction s) (abstraction (with_table s v)) (Stale s) (Stale (with_table s v))
  keeps_old records X Q k x has seen =
      stale_stays s (with_table s v) (read_account s.table X k has) records (keeps_times X k (x.before, x.after) has)

-- ---- an event that starts nothing

-- it makes nobody live
pub same_parent : {w v : List ℕ} {now : ℕ} → TableChange w v now → (X : ℕ) → is_alive w X ≡ true → parent_of v X ≡ parent_of w X
same_parent {w} c X l = c.parents X (alive_given w X l)

pub was_alive : {w v : List ℕ} {now : ℕ} → TableChange w v now → (X : ℕ) → is_alive v X ≡ true → is_alive w X ≡ true
was_alive {w} {v} c X l =
    let begun : IsGiven w X = rw c.same_highest at (alive_given v X l) in
    live_alive w X begun (c.was_live X begun (alive_live v X l))

pub change_keeps_proper : {s : Ledger} {v : List ℕ} {now : ℕ} → Proper s → TableChange s.table v now → Proper (with_table s v)
change_keeps_proper {s} {v} {now} proper c =
    record {
      sound = change_keeps_sound s.table v now proper.sound c;
      base_fits = proper.base_fits;
      shadow_fits = proper.shadow_fits;
    }
