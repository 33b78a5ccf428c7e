-- What holds of those who wait holds when one more has entered, when one becomes ready whose verdict is good, and when some are
-- taken out: of the queue that changes, and of the other, which stays. Assumes nothing.
use Prim.Native.Nat.{ℕ}
use native.Mathlib.Decide.{ℕ_discrete}
use mathlib.Core.Path.{◌≡◌, refl, sym}
use mathlib.Core.Logic.{◌⊎◌, inl, inr, ⊎_elim, ◌≢◌}
use mathlib.Core.Bool.{Bool, true, false, not, cond, ◌&&◌, false≢true}
use mathlib.Core.List.{List, [], ◌∷◌, ◌++◌, map}
use lib.Dec.{eqb}
use borrow.Author.Tests.{eq-eqb, not-true}
use Rattle.rules.specs.declared.Found.{Found}
use Rattle.std.specs.Prelude.{Option, Some, None}
use Rattle.rules.specs.Range.{any, filter}
use Rattle.rules.specs.Card.{account_count, accounts}
use Rattle.rules.specs.Kind.{IsKind}
use Rattle.rules.specs.Table.{parent_of, kind_of, has_read, has_written}
use Rattle.rules.specs.Queue.{Entry, good, failed, has_failed, ready, is_ready, is_of, queue, is_queued, is_queued_failed, with_queue, new_entry, with_tail, readied, with_ready, keeps_place, without_below}
use Rattle.rules.specs.Ledger.{Ledger, with_table}
use Rattle.rules.specs.Clash.{is_clear, first_clash}
use Rattle.rules.specs.Verdict.{meets, is_met_by, is_met_in_queue, verdict_of}
use Rattle.rules.specs.Step.{taken_out, enter_table, enter}
use Rattle.rules.proofs.Laws.Tests.{and_left, and_right, and_both, and_fails, or_neither, not_both, cond_holds}
use Rattle.rules.proofs.Laws.Ranges.{any_at}
use Rattle.rules.proofs.Laws.Sets.{account_within}
use Rattle.rules.proofs.Laws.Kinds.{kind_known}
use Rattle.rules.proofs.Laws.Each.{Each, each_all, each_mapped}
use Rattle.rules.proofs.Laws.Permitted.{Committable}
use Rattle.rules.proofs.Sound.TableChanges.{TableChange, RowKept}
use Rattle.rules.proofs.Sound.QueueChanges.{other_queue, tail_queue, tail_change, readied_number, ready_queue, ready_change, without_queue, without_change}
use Rattle.rules.proofs.Demand.Proper.{Proper}
use Rattle.rules.proofs.Demand.Drops.{queue_rows}
use Rattle.rules.proofs.Demand.Passes.{no_clash_passes}
use Rattle.rules.proofs.Demand.Waiting.{Here, Behind, Waits, LeftAlone, waits_alone, NoneCommits, row_alone, none_no_new, waits_filter, waits_append}
use Rattle.rules.proofs.Demand.WaitingSteps.{Waiting, each_listed, queue_waits}

-- what follows where a test fails holds of each where none passes it
each_failing :
    (P : Entry → Type 0) (f : Entry → Bool) (es : List Entry) → any f es ≡ false → ((e : Entry) → f e ≡ false → P e) → Each P es
unfolding Each any
each_failing P f [] none follows = tt
each_failing P f (e ∷ es) none follows =
    let (here, later) = or_neither (f e) (any f es) none in
    (follows e here, each_failing P f es later follows)

-- ---- a queue put in

module _
    (s : Ledger) (proper : Proper s) (h : ℕ) (known : IsKind h) (es : List Entry) {now : ℕ}
    (change : TableChange s.table (with_queue s.table h es) now) (stands : queue (with_queue s.table h es) h ≡ es) where
  abbrev given : Ledger
  given = with_table s (with_queue s.table h es)

  none_commits : NoneCommits s.table given.table
  none_commits m begun done = (
    rw change.same_highest at begun,
    queue_rows s proper h known es change m begun.0,
  )

  listed_row : (e : Entry) → any (is_of e.number) es ≡ true → RowKept s.table given.table e.number
  unfolding is_queued
  listed_row e listed =
      queue_rows s proper h known es change e.number ((change.lines h known).waits e.number (rw stands listed)).begun.0

  -- what holds of the entries before holds of those who wait in this queue then
  put_waits : Waits s es → Waits given (queue given.table h)
  put_waits waits =
      rw stands
      (waits_alone s given es
      (each_listed (LeftAlone s given) es (λ e listed. row_alone s given e (listed_row e listed) (none_no_new s.table given.table none_commits _))) waits)

  -- .. and of the other queue what held of it
  other_waits : (x : ℕ) → IsKind x → x ≢ h → Waits s (queue s.table x) → Waits given (queue given.table x)
  other_waits x is apart waits =
      rw (other_queue s.table proper.sound h known es x is apart)
      (queue_waits s given x none_commits
      (λ X queued. queue_rows s proper h known es change X ((proper.sound.lines x is).waits X queued).begun.0) waits)

  given_waits : Waiting s → Waits s es → Waiting (with_table s (with_queue s.table h es))
  given_waits before waits x is = go (ℕ_discrete x h)
    where
      go : Dec (x ≡ h) → Waits given (queue given.table x)
      go (yes same) = rw same (put_waits waits)
      go (no apart) = other_waits x is apart (before x is)

module _ (s : Ledger) (proper : Proper s) where
  abbrev w : List ℕ
  w = s.table

  -- ---- one more at the tail

  module _ (n : ℕ) (free : Committable w n) where
    -- its queue
    abbrev h : ℕ
    h = kind_of w n

    known : IsKind h
    known = kind_known (parent_of w n)

    -- the verdict is good where there is no clash and none who waits is in the way
    good_verdict : has_failed (new_entry n (verdict_of w h n)) ≡ false → (is_clear (first_clash w n) && not (is_met_in_queue w h n)) ≡ true
    unfolding verdict_of
    good_verdict = by_verdict (is_clear (first_clash w n) && not (is_met_in_queue w h n))
      where
        by_verdict : (b : Bool) → not (eqb (cond b good failed) good) ≡ false → b ≡ true
        by_verdict true fine = refl
        by_verdict false fine = sym fine

    clear_none : (f : Option Found) → is_clear f ≡ true → f ≡ None
    clear_none None clear = refl
    clear_none (Some f) clear = absurd (false≢true clear)

    abbrev newest : Entry
    newest = new_entry n (verdict_of w h n)

    newest_here : Here s newest
    newest_here =
        record {
          earned = λ ready. absurd (false≢true ready);
          passes = λ fine. no_clash_passes s n (clear_none (first_clash w n) (and_left (is_clear (first_clash w n)) _ (good_verdict fine)));
        }

    -- who isn't in the way has written nothing that n has read
    unmet_behind : has_failed newest ≡ false → (e : Entry) → is_met_by w n e.number ≡ false → Behind s e newest
    unfolding is_met_by meets accounts
    unmet_behind fine e unmet _ siblings k account written has =
        not_both
        (and_both (eq-eqb _ _ (sym siblings))
        (any_at (λ j. has_written w e.number j && has_read w n j) 0 account_count k (account_within account) (and_both written has)))
        unmet

    newest_behind : (b : Bool) → has_failed newest ≡ b → Each (λ e. Behind s e newest) (queue w h)
    unfolding is_met_in_queue
    newest_behind true not_Good = each_all (λ e. Behind s e newest) (λ e fine. absurd (not_both not_Good fine)) (queue w h)
    newest_behind false fine =
        each_failing (λ e. Behind s e newest) (λ e. is_met_by w n e.number) (queue w h)
        (not-true _ (and_right (is_clear (first_clash w n)) _ (good_verdict fine))) (unmet_behind fine)

    pub waits_enter : Waiting s → Waiting (enter s n).after
    unfolding enter enter_table with_tail
    waits_enter waits =
        let verdict = verdict_of w h n in
        given_waits s proper h known (queue w h ++ (newest ∷ []))
        (tail_change proper.sound h known n refl free verdict 0)
        (tail_queue proper.sound h known n refl free verdict)
        waits
        (waits_append s (queue w h) newest (waits h known) newest_here (newest_behind (has_failed newest) refl))

  -- ---- one becomes ready

  module _ (h : ℕ) (known : IsKind h) (n : ℕ) where
    readied_verdict : (e : Entry) → (readied n e).verdict ≡ e.verdict
    unfolding readied
    readied_verdict e = cond_holds (λ (x : Entry). x.verdict ≡ e.verdict) (is_of n e) (λ _. refl) (λ _. refl)

    -- a ready one was ready before, or is n's
    readied_ready : (e : Entry) → is_ready (readied n e) ≡ true → (is_of n e ≡ true) ⊎ (is_ready e ≡ true)
    unfolding readied
    readied_ready e = by_number (is_of n e)
      where
        by_number :
            (b : Bool) → is_ready (cond b (record { number = e.number; verdict = e.verdict; readiness = ready }) e) ≡ true →
            (b ≡ true) ⊎ (is_ready e ≡ true)
        by_number true now = inl refl
        by_number false now = inr now

    -- whose verdict is good
    readied_here : (e : Entry) → (is_of n e && has_failed e) ≡ false → Here s e → Here s (readied n e)
    readied_here e fine here =
        record {
          earned = λ now.
              rw (readied_verdict e) (⊎_elim ((and_fails (is_of n e) (has_failed e)).0 fine) here.earned (readied_ready e now));
          passes = λ good_one. rw (readied_number proper.sound h known n e) (here.passes (rw (readied_verdict e) at good_one));
        }

    readied_behind : (e d : Entry) → Behind s e d → Behind s (readied n e) (readied n d)
    readied_behind e d behind =
        rw (readied_number proper.sound h known n e, readied_number proper.sound h known n d, readied_verdict d) behind

    waits_readied :
        (es : List Entry) → any (λ e. is_of n e && has_failed e) es ≡ false → Waits s es → Waits s (map (readied n) es)
    unfolding Waits any
    waits_readied [] fine waits = tt
    waits_readied (e ∷ es) fine (here, behind, rest) =
        let (first, later) = or_neither (is_of n e && has_failed e) (any (λ d. is_of n d && has_failed d) es) fine in (
          readied_here e first here,
          each_mapped (Behind s e) (Behind s (readied n e)) (readied n) (λ d. readied_behind e d) es behind,
          waits_readied es later rest,
        )

    pub waits_ready : is_queued_failed w h n ≡ false → Waiting s → Waiting (with_table s (with_ready w h n))
    unfolding with_ready is_queued_failed
    waits_ready fine waits =
        given_waits s proper h known (map (readied n) (queue w h)) (ready_change proper.sound h known n 0)
        (ready_queue proper.sound h known n) waits (waits_readied (queue w h) fine (waits h known))

  -- ---- some are taken out

  module _ (h : ℕ) (known : IsKind h) (n : ℕ) where
    abbrev fewer : List Entry
    fewer = filter (keeps_place w n) (queue w h)

    change : TableChange w (with_queue w h fewer) 0
    unfolding without_below
    change = without_change proper.sound h known n 0

    -- what holds of those who wait holds also after, of those taken out too
    pub waits_after_out : Waiting s → Waits (taken_out s h n) (queue w h)
    unfolding without_below
    waits_after_out waits =
        queue_waits s (taken_out s h n) h (none_commits s proper h known fewer change (without_queue proper.sound h known n))
        (λ X queued. queue_rows s proper h known fewer change X ((proper.sound.lines h known).waits X queued).begun.0) (waits h known)

    pub waits_out : Waiting s → Waiting (taken_out s h n)
    unfolding without_below
    waits_out waits =
        given_waits s proper h known fewer change (without_queue proper.sound h known n) waits
        (waits_filter s (keeps_place w n) (queue w h) (waits h known))
