-- A commit keeps what is remembered, and its own record joins it. A read that the parent has got is the child's, who was below all
-- whom the parent is below. Assumes nothing.
use Prim.Native.Nat.{ℕ, ◌≤◌, ◌<◌, max}
use native.Mathlib.Omega.{arith}
use native.Mathlib.Decide.{ℕ_discrete}
use mathlib.Core.Path.{◌≡◌, refl, sym, ◌∙◌, ap}
use mathlib.Core.Logic.{◌⊎◌, inl, inr, ⊎_elim, ◌≢◌}
use mathlib.Core.Bool.{Bool, true, false, cond, not}
use lib.Dec.{eqb}
use mathlib.Core.List.Memᴰ
use mathlib.Core.List.{List, [], ◌∷◌, ◌++◌, Memᴰ}
use Rattle.rules.specs.Card.{account_count, accounts}
use Rattle.rules.specs.Kind.{kind_under}
use Rattle.rules.specs.Table.{counter, parent_field, parent_of, state_field, end_field, read_time, write_field, has_writes, is_committed, is_record_of, newest, has_written, end_time, highest, kind_of, newest_field}
use Rattle.rules.specs.Sound.{IsGiven}
use Rattle.rules.specs.Ledger.{Ledger}
use Rattle.rules.specs.Commit.{committed_under, commit_time}
use Rattle.rules.specs.Serial.Collect.{put}
use Rattle.rules.specs.History.{Had, History, record_in, with_record}
use Rattle.rules.proofs.Laws.Tests.{and_right, test}
use Rattle.rules.proofs.Laws.Puts.{put_there, put_elsewhere}
use Rattle.rules.proofs.Laws.Permitted.{Committable}
use Rattle.rules.proofs.Sound.TableChanges.{writes_agree, RowKept, TableChange}
use Rattle.rules.proofs.Sound.SoundKept.{change_keeps_sound}
use Rattle.rules.proofs.Sound.Committing.{commit_parent, commit_keeps_row, commit_noted, commit_unnoted, commit_end, commit_keeps_others, commit_keeps_sets}
use Rattle.rules.proofs.Clash.Records.{record_parent, record_has_end}
use Rattle.rules.proofs.Serial.AbstractState.{Below, HasRead}
use Rattle.rules.proofs.Demand.Abstraction.{abstraction}
use Rattle.rules.proofs.Demand.Proper.{Proper}
use Rattle.rules.proofs.Sound.NewestKept.{record_committed}
use Rattle.rules.proofs.Demand.CommitTable.{table_change, number_few, parent_few, parent_other}
use Rattle.rules.proofs.Demand.CommitStale.{own_writes_kept, now_record}
use Rattle.rules.proofs.History.Remembered.{StandsIn, Recorded, read_later, Held, Remembers}
use Rattle.rules.proofs.History.Following.{old_kept, old_real, old_ends}
use Rattle.rules.specs.NewestHad.{newest_had}
use Rattle.rules.proofs.Laws.Ranges.{any_at, not_any_at}

-- the newest of records and one more
newest_appended :
    (k : ℕ) (rs : List Had) (r : Had) →
    newest_had k (rs ++ (r ∷ [])) ≡ cond (r.wrote k) (max (newest_had k rs) r.end) (newest_had k rs)
unfolding newest_had
newest_appended k [] r = by_write (r.wrote k)
  where
    by_write : (b : Bool) → cond b (max r.end 0) 0 ≡ cond b (max 0 r.end) 0
    by_write true = omega arith
    by_write false = refl
newest_appended k (x ∷ rs) r = rw (newest_appended k rs r) (by_writes (x.wrote k) (r.wrote k))
  where
    by_writes :
        (b c : Bool) →
        cond b (max x.end (cond c (max (newest_had k rs) r.end) (newest_had k rs))) (cond c (max (newest_had k rs) r.end) (newest_had k rs))
        ≡ cond c (max (cond b (max x.end (newest_had k rs)) (newest_had k rs)) r.end) (cond b (max x.end (newest_had k rs)) (newest_had k rs))
    by_writes true true = omega arith
    by_writes true false = refl
    by_writes false true = refl
    by_writes false false = refl

module _ {s : Ledger} (proper : Proper s) {n p : ℕ} (judged : Committable s.table n) (under : parent_of s.table n ≡ p) where
  abbrev w : List ℕ
  w = s.table

  abbrev t : Ledger
  t = committed_under s n p

  abbrev w' : List ℕ
  w' = (committed_under s n p).table

  change : TableChange w w' n
  change = table_change proper judged under

  -- ---- the record that joins, as it is read from a later table v which has kept the row

  module _ {had : History} (remembers : Remembers s had) (v : List ℕ) (row : RowKept w' v n) where
    abbrev had' : History
    had' = with_record v n had

    its_parent : parent_of v n ≡ p
    its_parent = row parent_field (inl (omega arith)) ∙ commit_parent s n p judged.own.0 n ∙ under

    its_writes : has_writes v n ≡ has_writes w n
    its_writes =
        writes_agree w' v n (λ k account. row (write_field k) (inl (omega arith))) ∙ own_writes_kept proper judged under

    joined : has_writes w n ≡ true → had' ≡ put had p (had p ++ (record_in v n ∷ []))
    unfolding with_record
    joined writes = rw (its_writes ∙ writes, its_parent)

    unchanged : has_writes w n ≡ false → had' ≡ had
    unfolding with_record
    unchanged none = rw (its_writes ∙ none)

    -- a record was had before, or it is the new one
    old_or_new :
        (Q : ℕ) (r : Had) → Memᴰ r (had' Q) → Memᴰ r (had Q) ⊎ ((Q ≡ p) × (r ≡ record_in v n) × (has_writes w n ≡ true))
    old_or_new Q r member =
        ⊎_elim
        (λ writes. at_parent writes (rw (joined writes) at member) (ℕ_discrete Q p))
        (λ none. inl (rw (unchanged none) at member))
        (test (has_writes w n))
      where
        at_parent :
            has_writes w n ≡ true → Memᴰ r (put had p (had p ++ (record_in v n ∷ [])) Q) → Dec (Q ≡ p) →
            Memᴰ r (had Q) ⊎ ((Q ≡ p) × (r ≡ record_in v n) × (has_writes w n ≡ true))
        at_parent writes there (yes same) =
            ⊎_elim
            (λ old. inl (rw same old))
            (λ new. inr (same, Memᴰ.eq_of_singleton new, writes))
            (Memᴰ.append_cases (had p) (rw (put_there had p _) at (rw same at there)))
        at_parent writes there (no other) = inl (rw (put_elsewhere had p _ Q other) at there)

    still_had : (Q : ℕ) (r : Had) → Memᴰ r (had Q) → Memᴰ r (had' Q)
    still_had Q r member =
        ⊎_elim
        (λ writes. rw (joined writes) (at_parent (ℕ_discrete Q p)))
        (λ none. rw (unchanged none) member)
        (test (has_writes w n))
      where
        at_parent : Dec (Q ≡ p) → Memᴰ r (put had p (had p ++ (record_in v n ∷ [])) Q)
        at_parent (yes same) = rw (same, put_there had p (had p ++ (record_in v n ∷ []))) (Memᴰ.append_left _ (rw same at member))
        at_parent (no other) = rw (put_elsewhere had p _ Q other) member

    new_had : has_writes w n ≡ true → Memᴰ (record_in v n) (had' p)
    new_had writes = rw (joined writes, put_there had p _) (Memᴰ.append_right (had p) (Memᴰ.head refl))

    begun : IsGiven w' n
    begun = rw change.same_highest judged.own

    new_recorded : has_writes w n ≡ true → Recorded w' p (record_in v n)
    new_recorded writes =
        record {
          holder = n;
          begun = begun;
          is_record = now_record proper judged under writes;
          stands = read_later w' v n row;
        }

    kept_on :
        (Q X k : ℕ) → Below (abstraction t) Q X → HasRead (abstraction t) X k → (r : Had) → Memᴰ r (had' Q) →
        read_time w' (kind_under Q) X k < r.end → Recorded w' Q r
    kept_on Q X k below has r member late =
        ⊎_elim
        (λ old. old_kept s t proper change remembers Q X k below has r old late)
        (λ (same, new, writes). rw (same, new) (new_recorded writes))
        (old_or_new Q r member)

    real_on :
        (Q m : ℕ) → Held t Q → IsGiven w' m → is_record_of w' Q m ≡ true → (r : Had) × Memᴰ r (had' Q) × StandsIn w' r m
    real_on Q m held given is = by_number (ℕ_discrete m n)
      where
        was_given : IsGiven w m
        was_given = rw change.same_highest at given

        by_number : Dec (m ≡ n) → (r : Had) × Memᴰ r (had' Q) × StandsIn w' r m
        by_number (yes same) =
            let mine : is_record_of w' Q n ≡ true = rw same at is in
            let parent : Q ≡ p = sym (record_parent w' Q n mine) ∙ commit_parent s n p judged.own.0 n ∙ under in
            let writes : has_writes w n ≡ true =
            sym (own_writes_kept proper judged under) ∙ and_right (is_committed w' n) _ (record_has_end w' Q n mine) in
            rw (same, parent) (record_in v n, new_had writes, read_later w' v n row)
        by_number (no other) =
            let state = commit_keeps_row s n p judged.own.0 m state_field (omega arith) given.0 other (inr (omega arith)) in
            let (r, member, stands) =
            old_real s t proper change remembers Q m held was_given (rw state at (record_committed w' Q m is)) is in
            (r, still_had Q r member, stands)

    ends_on : (Q : ℕ) → Held t Q → (r : Had) → Memᴰ r (had' Q) → r.end ≤ counter w' (kind_under Q)
    ends_on Q held r member =
        ⊎_elim
        (old_ends s t proper change remembers Q held r)
        (λ (same, new, writes).
        let sound = change_keeps_sound w w' n proper.sound (change) in
        let in_time = (sound.ends n begun (record_has_end w' p n (now_record proper judged under writes))).1 in
        rw (same, new, row end_field (inl (omega arith))) (rw (commit_parent s n p judged.own.0 n ∙ under) at in_time))
        (old_or_new Q r member)

    -- ---- the newest end times

    noted : (k : ℕ) → k < account_count → has_written w n k ≡ true → newest w' p k ≡ commit_time w n
    noted =
        commit_noted s n p judged.own.0 proper.sound.long (number_few proper judged under) (parent_few proper judged under)
        (λ same. parent_other proper judged under (sym same))

    unnoted : (k : ℕ) → k < account_count → has_written w n k ≡ false → newest w' p k ≡ newest w p k
    unnoted =
        commit_unnoted s n p judged.own.0 proper.sound.long (number_few proper judged under) (parent_few proper judged under)
        (λ same. parent_other proper judged under (sym same))

    wrote_as : (k : ℕ) → k < account_count → has_written v n k ≡ has_written w n k
    wrote_as k account =
        ap (λ entry. not (eqb entry 0))
        (row (write_field k) (inl (omega arith))
        ∙ commit_keeps_sets s n p judged.own.0 (λ same. parent_other proper judged under (sym same)) (write_field k) (omega arith)
        (omega arith))

    ended_at : end_time v n ≡ commit_time w n
    ended_at =
        row end_field (inl (omega arith)) ∙ commit_end s n p judged.own.0 proper.sound.long (number_few proper judged under)

    -- the new end time is above all that were had
    newest_joined : (k : ℕ) → k < account_count → newest w' p k ≡ newest_had k (had p ++ (record_in v n ∷ []))
    unfolding commit_time has_writes accounts
    newest_joined k account =
        by_write (has_written w n k) refl
        ∙ sym
        (newest_appended k (had p) (record_in v n)
        ∙ rw (wrote_as k account, ended_at, sym (remembers.newests p k parent_known account)) refl)
      where
        parent_known : p ≤ highest w
        parent_known = rw under at (proper.sound.known n judged.own)

        in_time : newest w p k ≤ counter w (kind_of w n)
        in_time = rw under (proper.sound.newest_in_time p k parent_known account)

        by_write :
            (b : Bool) → has_written w n k ≡ b → newest w' p k ≡ cond b (max (newest w p k) (commit_time w n)) (newest w p k)
        by_write true wrote =
            noted k account wrote
            ∙ rw (any_at (has_written w n) 0 account_count k (omega arith) wrote) (omega (arith, in_time))
        by_write false none = unnoted k account none

    newests_on : (Q k : ℕ) → Q ≤ highest w' → k < account_count → newest w' Q k ≡ newest_had k (had' Q)
    unfolding has_writes accounts
    newests_on Q k known' account = ⊎_elim writing silent (test (has_writes w n))
      where
        known : Q ≤ highest w
        known = rw change.same_highest at known'

        elsewhere : Q ≢ p → newest w' Q k ≡ newest_had k (had Q)
        elsewhere other =
            commit_keeps_others s n p judged.own.0 Q other (newest_field k) (omega arith) (omega arith)
            ∙ remembers.newests Q k known account

        silent : has_writes w n ≡ false → newest w' Q k ≡ newest_had k (had' Q)
        silent none = rw (unchanged none) (at_parent (ℕ_discrete Q p))
          where
            at_parent : Dec (Q ≡ p) → newest w' Q k ≡ newest_had k (had Q)
            at_parent (yes same) =
                rw same
                (unnoted k account (not_any_at (has_written w n) 0 account_count k none (omega arith))
                ∙ remembers.newests p k (rw same at known) account)
            at_parent (no other) = elsewhere other

        writing : has_writes w n ≡ true → newest w' Q k ≡ newest_had k (had' Q)
        writing writes = rw (joined writes) (at_parent (ℕ_discrete Q p))
          where
            at_parent : Dec (Q ≡ p) → newest w' Q k ≡ newest_had k (put had p (had p ++ (record_in v n ∷ [])) Q)
            at_parent (yes same) = rw (same, put_there had p (had p ++ (record_in v n ∷ []))) (newest_joined k account)
            at_parent (no other) = rw (put_elsewhere had p (had p ++ (record_in v n ∷ [])) Q other) (elsewhere other)

    pub commit_remembers : Remembers (committed_under s n p) (with_record v n had)
    commit_remembers = record { kept = kept_on; real = real_on; ends = ends_on; newests = newests_on }
