-- A start keeps what is remembered: of a number that is given again nothing is needed any more, neither as a record nor of the
-- records that its earlier holder had. Assumes nothing.
use Prim.Native.Nat.{ℕ, ◌≤◌, ◌<◌}
use native.Mathlib.Omega.{arith}
use native.Mathlib.Decide.{ℕ_discrete}
use mathlib.Core.Path.{◌≡◌, sym, ap, ◌∙◌}
use mathlib.Core.Logic.{inl, inr, ⊎_elim, ◌≢◌}
use mathlib.Core.Bool.{true, not}
use mathlib.Core.List.Memᴰ
use mathlib.Core.List.{List, [], Memᴰ}
use lib.Dec.{eqb}
use Rattle.rules.specs.Kind.{kind_under}
use Rattle.rules.specs.Table.{counter, parent_field, parent_of, read_field, read_entry, sub_time_field, sub_time, read_time, is_record_of, highest, newest}
use Rattle.rules.specs.Free.{next_number}
use Rattle.rules.specs.Sound.{IsGiven}
use Rattle.rules.specs.Ledger.{Ledger, with_table}
use Rattle.rules.specs.Step.{give_table, start}
use Rattle.rules.specs.Serial.Collect.{put}
use Rattle.rules.specs.History.{Had, History}
use Rattle.rules.proofs.Laws.Tests.{not_both}
use Rattle.rules.proofs.Laws.Kinds.{kind_known}
use Rattle.rules.proofs.Laws.Puts.{put_there, put_elsewhere}
use Rattle.rules.proofs.Laws.Permitted.{Startable}
use Rattle.rules.proofs.Sound.Giving.{give_read, give_counter, give_newest, give_highest}
use Rattle.rules.proofs.Sound.Started.{start_highest}
use Rattle.rules.proofs.Serial.AbstractState.{Below, child_of, further, HasRead}
use Rattle.rules.proofs.Demand.Abstraction.{is_alive, has_read_account, abstraction}
use Rattle.rules.proofs.Demand.Proper.{Proper}
use Rattle.rules.proofs.Demand.AbstractionLaws.{alive_given, read_account, read_entered, account_read, parent_alive}
use Rattle.rules.proofs.Sound.NewestKept.{record_kept}
use Rattle.rules.proofs.Demand.Unders.{below_live, below_held, held_fact}
use Rattle.rules.proofs.Demand.Starts.{givable, live_row_kept, others_were_alive, needed_row}
use Rattle.rules.proofs.History.Remembered.{StandsIn, Recorded, recorded_on, stands_on, Held, Remembers}
use Rattle.rules.proofs.Sound.StartRecords.{held_other, record_was_there, no_record, newest_kept}
use Rattle.rules.specs.NewestHad.{newest_had}
use Rattle.rules.specs.Card.{account_count}
use Rattle.rules.proofs.Laws.Freeing.{Givable}

module _ {s : Ledger} (proper : Proper s) (p : ℕ) (permitted : Startable s.table p) where
  abbrev w : List ℕ
  w = s.table

  -- the number that the start gives
  abbrev next : ℕ
  next = next_number w

  abbrev v : List ℕ
  v = give_table w next p

  abbrev t : Ledger
  t = with_table s v

  given_next : Givable w next
  given_next = givable s proper p permitted

  -- ---- who is below whom

  -- the new action has read nothing
  reader_old : (X k : ℕ) → is_alive v X ≡ true → has_read_account v X k ≡ true → is_alive w X ≡ true
  reader_old X k l has =
      others_were_alive s proper p permitted X l
      (λ new.
      not_both (read_entered v X k has)
      (rw new
      (ap (λ entry. not (eqb entry 0))
      (give_read w next p proper.sound.long given_next.first given_next.few k
      (read_account v X k has)))))

  -- whoever was live is below those that it was below
  below_before : {Q X : ℕ} → is_alive w X ≡ true → Below (abstraction t) Q X → Below (abstraction s) Q X
  below_before was (child_of {X = X} l e) =
      child_of was (sym (live_row_kept s proper p permitted X was parent_field (inl (omega arith))) ∙ e)
  below_before was (further {X = X} l b) =
      let same = live_row_kept s proper p permitted X was parent_field (inl (omega arith)) in
      ⊎_elim
      (λ store. absurd (omega (arith, alive_given v (parent_of v X) (below_live b))))
      (λ held. further was (rw same at (below_before (rw same held) b)))
      (parent_alive s proper X was)

  held_before : {Q : ℕ} → Held t Q → Q ≢ next → Held s Q
  held_before (inl store) other = inl store
  held_before (inr l) other = inr (others_were_alive s proper p permitted _ l other)

  -- ---- the records

  module _ {had : History} (remembers : Remembers s had) where
    -- the records of all others are as they were
    abbrev had' : History
    had' = put had next []

    others_had : {Q : ℕ} → Q ≢ next → had' Q ≡ had Q
    others_had {Q} = put_elsewhere had next [] Q

    kept_on :
        (Q X k : ℕ) → Below (abstraction t) Q X → HasRead (abstraction t) X k → (r : Had) → Memᴰ r (had' Q) →
        read_time v (kind_under Q) X k < r.end → Recorded v Q r
    kept_on Q X k below has r member late =
        let was = reader_old X k (below_live below) has in
        let row = live_row_kept s proper p permitted X was in
        let under = below_before was below in
        let account = read_account v X k has in
        let entry : read_entry v X k ≡ read_entry w X k = row (read_field k) (inl (omega arith)) in
        let time : sub_time v X k ≡ sub_time w X k = row (sub_time_field k) (inr (omega arith, omega arith)) in
        let had_read : has_read_account w X k ≡ true = account_read w X k account (rw entry at (read_entered v X k has)) in
        let other = held_other w next p proper.sound given_next (held_fact s proper (below_held s proper under)) in
        let late' : read_time w (kind_under Q) X k < r.end = rw (entry, time) at late in
        let is = remembers.kept Q X k under had_read r (rw (others_had other) at member) late' in
        recorded_on is (omega (arith, is.begun, start_highest w next p proper.sound given_next))
        (needed_row s proper p permitted k under had_read is.begun is.is_record (rw is.stands.end late'))

    real_on :
        (Q m : ℕ) → Held t Q → IsGiven v m → is_record_of v Q m ≡ true →
        (r : Had) × Memᴰ r (had' Q) × StandsIn v r m
    real_on Q m held begun is =
        let other : Q ≢ next = λ same. no_record w next p proper.sound given_next m begun (rw same at is) in
        let was = held_before held other in
        let (begun', row) = record_was_there w next p proper.sound given_next (held_fact s proper was) begun is in
        let (r, member, stands) = remembers.real Q m was begun' (sym (record_kept w v Q m row) ∙ is) in
        (r, rw (others_had other) member, stands_on w v m row stands)

    ends_on : (Q : ℕ) → Held t Q → (r : Had) → Memᴰ r (had' Q) → r.end ≤ counter v (kind_under Q)
    ends_on Q held r member = go (ℕ_discrete Q next)
      where
        go : Dec (Q ≡ next) → r.end ≤ counter v (kind_under Q)
        go (yes same) = absurd (Memᴰ.not-nil (rw (put_there had next []) at (rw same at member)))
        go (no other) =
            rw (give_counter w next p (kind_under Q) given_next.first (kind_known Q))
            (remembers.ends Q (held_before held other) r (rw (others_had other) at member))

    newests_on : (Q k : ℕ) → Q ≤ highest v → k < account_count → newest v Q k ≡ newest_had k (had' Q)
    unfolding newest_had
    newests_on Q k known account = go (ℕ_discrete Q next)
      where
        go : Dec (Q ≡ next) → newest v Q k ≡ newest_had k (had' Q)
        go (yes same) =
            rw (same, put_there had next []) (give_newest w next p proper.sound.long given_next.first given_next.few k account)
        go (no other) =
            rw (others_had other)
            (newest_kept w next p proper.sound given_next Q k known other account ∙ remembers.newests Q k was account)
          where
            was : Q ≤ highest w
            was = omega (arith, give_highest w next p proper.sound.long given_next.first given_next.few, given_next.near)

    pub start_remembers : Remembers (start s p).after (put had (next_number s.table) [])
    unfolding start
    start_remembers = record { kept = kept_on; real = real_on; ends = ends_on; newests = newests_on }
