-- A change of the table that starts nothing keeps the newest end times in time and true: what makes a read stale, by them and by
-- the records, obeys one law. Assumes nothing.
use Prim.Native.Nat.{ℕ, ◌≤◌, ◌<◌}
use native.Mathlib.Omega.{arith}
use native.Mathlib.Nat.{le_refl}
use mathlib.Core.Path.{◌≡◌, sym, ap, ◌∙◌}
use mathlib.Core.Logic.{inl, ⊎_elim}
use mathlib.Core.Bool.{true}
use mathlib.Core.List.{List}
use borrow.Author.Tests.{lt-ltb, le-ltb}
use lib.Dec.{ltb}
use Rattle.rules.specs.Card.{account_count}
use Rattle.rules.specs.Kind.{kind_under}
use Rattle.rules.specs.Table.{highest, counter, parent_field, state_field, end_field, end_time, has_read, read_time, write_field, has_writes, newest, is_committed, is_record_of}
use Rattle.rules.specs.Walk.{is_under}
use Rattle.rules.specs.Stale.{is_stale, is_known_stale}
use Rattle.rules.specs.Sound.{IsGiven, IsLiveAction, StoreOrLive, Sound}
use Rattle.rules.proofs.Laws.Tests.{and_left, same_test, false_of_not_true}
use Rattle.rules.proofs.Laws.Kinds.{kind_known}
use Rattle.rules.proofs.Laws.Under.{under_further, under_agree}
use Rattle.rules.proofs.Laws.Staleness.{Overwrites, stale_by, stale_record}
use Rattle.rules.proofs.Sound.TableChanges.{ReadFrom, own, child's, made_now, RowKept, NewestStays, NewestNow, TableChange, writes_agree}
use Rattle.rules.proofs.Clash.Records.{record_parent, record_has_end}

-- ---- records

pub record_committed : (w : List ℕ) (p m : ℕ) → is_record_of w p m ≡ true → is_committed w m ≡ true
record_committed w p m is = and_left (is_committed w m) (has_writes w m) (record_has_end w p m is)

pub record_kept : (w v : List ℕ) (p m : ℕ) → RowKept w v m → is_record_of v p m ≡ is_record_of w p m
unfolding is_record_of
record_kept w v p m row =
    rw (
      row parent_field (inl (omega arith)),
      row state_field (inl (omega arith)),
      writes_agree w v m (λ k h. row (write_field k) (inl (omega arith))),
    )

-- what makes a read stale goes on doing so while its row is kept
pub overwrites_on :
    (w v : List ℕ) {p k t m : ℕ} → k < account_count → RowKept w v m → IsGiven v m → Overwrites w p k t m → Overwrites v p k t m
overwrites_on w v {p} {k} {t} {m} account row begun o =
    record {
      begun = begun;
      is_record = record_kept w v p m row ∙ o.is_record;
      written = rw (row (write_field k) (inl (omega arith))) o.written;
      later = rw (row end_field (inl (omega arith))) o.later;
    }

-- ---- alike

-- A read of account k at time t is stale at p by p's newest end time where it is by p's records, and nowhere else.
abbrev pub Alike : List ℕ → ℕ → ℕ → ℕ → Type 0
Alike w p k t = is_known_stale w p k t ≡ is_stale w p k t

-- a read as late as the counter is stale by neither
pub alike_late :
    {w : List ℕ} → Sound w → (p k t : ℕ) → p ≤ highest w → k < account_count → counter w (kind_under p) ≤ t → Alike w p k t
alike_late {w} s p k t known account late =
    le-ltb t (newest w p k) (omega (arith, s.newest_in_time p k known account))
    ∙ sym
    (false_of_not_true _
    (λ is.
    let (m, o) = stale_record w p k t is in
    let ended = (s.ends m o.begun (record_has_end w p m o.is_record)).1 in
    let in_time : end_time w m ≤ counter w (kind_under p) = rw (record_parent w p m o.is_record) at ended in
    omega (arith, o.later)))

-- ---- a change

module _ (w v : List ℕ) (now : ℕ) (s : Sound w) (c : TableChange w v now) where
  given_before : (m : ℕ) → IsGiven v m → IsGiven w m
  given_before m h = rw c.same_highest at h

  pub newest_still_in_time : (p k : ℕ) → p ≤ highest v → k < account_count → newest v p k ≤ counter v (kind_under p)
  newest_still_in_time p k known account =
      let known' : p ≤ highest w = rw c.same_highest at known in
      ⊎_elim
      (λ (same, _). omega (arith, same, s.newest_in_time p k known' account, c.rising (kind_under p) (kind_known p)))
      (λ (is : NewestNow w v p k). omega (arith, is.noted, is.in_time))
      (c.newests p k known' account)

  -- where it stays the records that count are the same
  module _ (p k t : ℕ) (account : k < account_count) (stays : NewestStays w v p k) where
    stale_was : is_stale v p k t ≡ true → is_stale w p k t ≡ true
    stale_was is =
        let (m, o) = stale_record v p k t is in
        let begun = given_before m o.begun in
        let row = c.finals m begun (stays.1 m begun o.is_record o.written) in
        stale_by w p k t m (overwrites_on v w account (λ g inside. sym (row g inside)) begun o)

    stale_still : is_stale w p k t ≡ true → is_stale v p k t ≡ true
    stale_still is =
        let (m, o) = stale_record w p k t is in
        let row = c.finals m o.begun (record_committed w p m o.is_record) in
        stale_by v p k t m (overwrites_on w v account row (rw c.same_highest o.begun) o)

    same_stale : is_stale v p k t ≡ is_stale w p k t
    same_stale = same_test _ _ stale_was stale_still

  -- at every time up to the counter that was, what was alike is: a new end time is later than it
  alike_on :
      (p k t : ℕ) → p ≤ highest w → k < account_count → t ≤ counter w (kind_under p) → Alike w p k t → Alike v p k t
  alike_on p k t known account early was =
      ⊎_elim
      (λ stays. ap (ltb t) stays.0 ∙ was ∙ sym (same_stale p k t account stays))
      (λ (is : NewestNow w v p k).
      lt-ltb t (newest v p k) (omega (arith, is.noted, is.late))
      ∙ sym
      (stale_by v p k t is.holder
      (record {
        begun = rw c.same_highest is.begun;
        is_record = is.is_record;
        written = is.written;
        later = omega (arith, is.late);
      })))
      (c.newests p k known account)

  -- who is below whom stays
  under_was : (p m : ℕ) → IsLiveAction w m → is_under v p m ≡ is_under w p m
  under_was p m lives =
      under_agree s v (λ x. x ≤ highest w) (λ x given _. s.known x given) (λ x given _. c.parents x given) (λ x known. known)
      p m lives lives.0.1

  pub newest_still_true :
      (p m k : ℕ) → StoreOrLive v p → IsLiveAction v m → is_under v p m ≡ true → k < account_count → has_read v m k ≡ true →
      let t = read_time v (kind_under p) m k in is_known_stale v p k t ≡ is_stale v p k t
  newest_still_true p m k (known', lives') (given', live) below account has =
      from (c.reads (kind_under p) m k (kind_known p) given live account has)
    where
      given : IsGiven w m
      given = given_before m given'

      lives : IsLiveAction w m
      lives = (given, c.was_live m given live)

      held : StoreOrLive w p
      held =
          let known : p ≤ highest w = rw c.same_highest at known' in
          (known, λ one. c.was_live p (one, known) (lives' one))

      under : is_under w p m ≡ true
      under = sym (under_was p m lives) ∙ below

      from : ReadFrom w v (kind_under p) m k → Alike v p k (read_time v (kind_under p) m k)
      from (own had same) =
          rw same
          (alike_on p k _ held.0 account (s.reads (kind_under p) m k (kind_known p) given lives.1 account had)
          (s.newest_true p m k held lives under account had))
      from (child's x is child had same) =
          rw same
          (alike_on p k _ held.0 account (s.reads (kind_under p) x k (kind_known p) is.0 is.1 account had)
          (s.newest_true p x k held is (under_further s p x m lives child under) account had))
      from (made_now same) =
          rw same
          (alike_on p k _ held.0 account (le_refl _) (alike_late s p k _ held.0 account (le_refl _)))
