-- The changes of a queue, of either kind: a sound table stays sound where a queue is lengthened by an action of its kind that may
-- wait, where one becomes ready, and where some are taken out; the other queue stays. Assumes nothing.
use Prim.Native.Nat.{ℕ, ◌+◌, ◌≤◌, ◌<◌}
use native.Mathlib.Omega.{arith}
use native.Mathlib.Decide.{ℕ_discrete}
use mathlib.Core.Path.{◌≡◌, refl, sym, ap, ◌∙◌, fun_ext}
use mathlib.Core.Logic.{◌⊎◌, inl, inr, ⊎_elim, ◌≢◌}
use mathlib.Core.Bool.{true, false, not, ◌&&◌, ◌||◌}
use mathlib.Core.List.{List, [], ◌∷◌, ◌++◌, map}
use lib.Dec.{eqb}
use lib.ListN.{length, length-map, length-append}
use borrow.Author.Tests.{eqb-true, not-true}
use Rattle.rules.specs.Range.{any, filter}
use Rattle.rules.specs.Kind.{IsKind, kind_under}
use Rattle.rules.specs.Table.{IsActionField, most_actions, word, highest_field, highest, counter_field, counter, last_time, parent_field, parent_of, kind_of, state_field, end_field, read_field, sub_time_field, write_field, pending_field, is_live, has_end, newest_field, rule_field}
use Rattle.rules.specs.Walk.{is_at_or_below, is_aborted_by}
use Rattle.rules.specs.Queue.{number_field, ready_field, queue_length_field, queue_length, Entry, is_of, queue, is_queued, is_waiting, with_queue, new_entry, with_tail, readied, with_ready, keeps_place, without_below}
use Rattle.rules.specs.Sound.{are_distinct, queue_numbers, IsGiven, MayWait, SoundQueue, Sound}
use Rattle.rules.proofs.Laws.Tests.{and_left, and_right, and_both, or_cases, or_false, not_both, false_of_not_true, cond_holds}
use Rattle.rules.proofs.Laws.Lists.{map_append, map_map, filter_map, any_map, any_append, any_filter, any_weaker, any_implies, length_filter, filter_shorter}
use Rattle.rules.proofs.Laws.Distinct.{distinct_filter, distinct_append, pigeonhole}
use Rattle.rules.proofs.Laws.Kinds.{either_side, unqueued_in, unqueued_of}
use Rattle.rules.proofs.Laws.Queue.{OffEntry, with_queue_length, with_queue_off, queue_length_same, queue_same, length_of_queue, SameLine, queue_kept}
use Rattle.rules.proofs.Laws.Permitted.{Committable}
use Rattle.rules.proofs.Laws.Walking.{at_or_below_itself}
use Rattle.rules.proofs.Sound.TableChanges.{ReadsFrom, same_read, Bounded, TableChange, sum_stays, writes_agree, still_childless, quiet_line, quiet_change, action_width}
use Rattle.rules.proofs.Sound.SoundKept.{change_keeps_sound}

-- the numbers of entries
abbrev pub numbers_of : List Entry → List ℕ
numbers_of es = map (λ (e : Entry). e.number) es

-- a word that is not queue h's length
abbrev pub OffLength : ℕ → ℕ → ℕ → Type 0
OffLength h m g = (1 ≤ m) ⊎ (g ≢ queue_length_field h)

-- an action's word is in no queue's entry
off_entries : (h : ℕ) → IsKind h → (g : ℕ) → IsActionField g → OffEntry h g
off_entries h known g (inl front) = inl (omega arith)
off_entries h known g (inr back) = inr (omega arith)

-- ---- a queue given anew

module _ (w : List ℕ) (s : Sound w) (h : ℕ) (known : IsKind h) (es : List Entry) where
  abbrev given : List ℕ
  given = with_queue w h es

  -- every word of an action, and of the head every one but the queue's length
  pub given_keeps : (m g : ℕ) → IsActionField g → OffLength h m g → word given m g ≡ word w m g
  given_keeps m g field = with_queue_off h known w es m g (action_width g field) (off_entries h known g field)

  -- the other queue
  pub other_line : (x : ℕ) → IsKind x → x ≢ h → SameLine w given x
  other_line x is apart =
      record {
        same_length = given_keeps 0 (queue_length_field x) (inl (omega arith)) (inr (λ z. omega arith));
        same_entries = λ i g one first last.
            with_queue_off h known w es i g (omega arith) (beside first last (either_side x h apart)) (inl one);
      }
    where
      beside : {g : ℕ} → number_field x ≤ g → g ≤ ready_field x → (x < h) ⊎ (h < x) → OffEntry h g
      beside first last (inl lower) = inl (omega arith)
      beside first last (inr higher) = inr (omega arith)

  pub other_queue : (x : ℕ) → IsKind x → x ≢ h → queue given x ≡ queue w x
  other_queue x is apart = queue_kept w given x is (other_line x is apart)

  parent_kept : (m : ℕ) → parent_of given m ≡ parent_of w m
  parent_kept m = given_keeps m parent_field (inl (omega arith)) (inr (λ z. omega arith))

  highest_kept : highest given ≡ highest w
  highest_kept = given_keeps 0 highest_field (inl (omega arith)) (inr (λ z. omega arith))

  live_kept : (m : ℕ) → is_live given m ≡ is_live w m
  live_kept m = rw (given_keeps m state_field (inl (omega arith)) (inr (λ z. omega arith)))

  -- who may wait in a queue, this one or the other, still may
  pub waits_still : {x : ℕ} (n : ℕ) → MayWait w x n → MayWait given x n
  waits_still n may =
      record {
        begun = rw highest_kept may.begun;
        alive = rw (live_kept n) may.alive;
        kind = ap kind_under (parent_kept n) ∙ may.kind;
        childless =
            still_childless w given n highest_kept (λ m _. parent_kept m) (λ m _ l. sym (live_kept m) ∙ l) may.childless;
      }

  end_kept : (m : ℕ) → IsGiven w m → has_end given m ≡ has_end w m
  end_kept m h =
      rw (
        given_keeps m state_field (inl (omega arith)) (inr (λ z. omega arith)),
        writes_agree w given m (λ k hk. given_keeps m (write_field k) (inl (omega arith)) (inl h.0)),
      )

  counter_kept : (x : ℕ) → IsKind x → counter given x ≡ counter w x
  counter_kept x is = given_keeps 0 (counter_field x) (inl (omega arith)) (inr (λ z. omega arith))

  reads_kept : ReadsFrom w given
  reads_kept x m k is begun l hk =
      same_read w given x m k (given_keeps m (read_field k) (inl (omega arith)) (inl begun.0))
      (given_keeps m (sub_time_field k) (inr (omega arith, omega arith)) (inl begun.0))

  -- the queue itself, and the other one
  lines_kept : SoundQueue given h → (x : ℕ) → IsKind x → SoundQueue given x
  lines_kept line x is = go (ℕ_discrete x h)
    where
      go : Dec (x ≡ h) → SoundQueue given x
      go (yes same) = rw same line
      go (no apart) =
          quiet_line w given s x is (other_line x is apart) highest_kept parent_kept
          (λ m. given_keeps m state_field (inl (omega arith)) (inr (λ z. omega arith)))

  -- the counter has room for the end times of those who stand there now
  bounds_kept : counter w h + length es ≤ last_time → Bounded given
  bounds_kept room x is = rw (counter_kept x is) (go (ℕ_discrete x h))
    where
      go : Dec (x ≡ h) → counter w x + queue_length given x ≤ last_time
      go (yes same) = rw same (rw (queue_length_same h known w es s.long) room)
      go (no apart) = rw (other_line x is apart).same_length (s.bounded x is)

  pub queue_change : counter w h + length es ≤ last_time → SoundQueue given h → (now : ℕ) → TableChange w given now
  queue_change room line now =
      quiet_change w given now s (with_queue_length h known w es) highest_kept
      (ap (λ x. x + 1) (given_keeps 0 rule_field (inl (omega arith)) (inr (λ z. omega arith)))) counter_kept (bounds_kept room) parent_kept
      (λ m. given_keeps m state_field (inl (omega arith)) (inr (λ z. omega arith)))
      reads_kept
      (λ m h e. inl (sym (end_kept m h) ∙ e, given_keeps m end_field (inl (omega arith)) (inl h.0)))
      (λ m h _ g inside. given_keeps m g inside (inl h.0))
      (λ p k account. given_keeps p (newest_field k) (inr (omega arith, omega arith)) (inr (λ z. omega arith)))
      (λ m k h charge.
      sum_stays w given m k (given_keeps m (write_field k) (inl (omega arith)) (inl h.0))
      (given_keeps m (pending_field k) (inl (omega arith)) (inl h.0)))
      (lines_kept line)

  module _ (few : length es ≤ most_actions) where
    queue_given : queue given h ≡ es
    queue_given = queue_same h known w es s.long few

    pub queued_given : (n : ℕ) → is_queued given h n ≡ any (is_of n) es
    unfolding is_queued
    queued_given n = ap (any (is_of n)) queue_given

    pub given_line :
        ((n : ℕ) → any (is_of n) es ≡ true → MayWait w h n) → are_distinct (numbers_of es) ≡ true → SoundQueue given h
    unfolding queue_numbers
    given_line may once =
        record {
          short = rw (queue_length_same h known w es s.long) few;
          waits = λ n queued. waits_still n (may n (sym (queued_given n) ∙ queued));
          once = rw queue_given once;
        }

-- ---- the three changes

module _ {w : List ℕ} (s : Sound w) (h : ℕ) (known : IsKind h) where
  pub queue_few : length (queue w h) ≤ most_actions
  queue_few = rw (length_of_queue w h) (s.lines h known).short

  numbers_once : are_distinct (numbers_of (queue w h)) ≡ true
  unfolding queue_numbers
  numbers_once = (s.lines h known).once

  waits_as_listed : (n : ℕ) → any (is_of n) (queue w h) ≡ true → MayWait w h n
  unfolding is_queued
  waits_as_listed = (s.lines h known).waits

  -- ---- one more at the tail

  abbrev longer : ℕ → ℕ → List Entry
  longer n verdict = queue w h ++ (new_entry n verdict ∷ [])

  module _ (n : ℕ) (may : MayWait w h n) (unqueued : is_waiting w n ≡ false) (verdict : ℕ) where
    longer_queued : (m : ℕ) → any (is_of m) (longer n verdict) ≡ (is_queued w h m || eqb m n)
    unfolding is_queued any
    longer_queued m = any_append (is_of m) (queue w h) (new_entry n verdict ∷ []) ∙ rw (or_false (eqb m n))

    longer_once : are_distinct (numbers_of (longer n verdict)) ≡ true
    unfolding is_queued
    longer_once =
        rw (map_append (λ (e : Entry). e.number) (queue w h) (new_entry n verdict ∷ []))
        (distinct_append (numbers_of (queue w h)) n numbers_once
        (any_map (eqb n) (λ (e : Entry). e.number) (queue w h) ∙ unqueued_in w n unqueued h known))

    longer_waits : (m : ℕ) → any (is_of m) (longer n verdict) ≡ true → MayWait w h m
    longer_waits m listed =
        ⊎_elim
        ((s.lines h known).waits m)
        (λ same. rw (eqb-true m n same) may)
        (or_cases (is_queued w h m) (eqb m n) (sym (longer_queued m) ∙ listed))

    -- there is room: those who wait are distinct actions
    longer_few : length (longer n verdict) ≤ most_actions
    longer_few =
        let numbers = pigeonhole (highest w) (numbers_of (longer n verdict)) longer_once
        (λ m listed. (longer_waits m (sym (any_map (eqb m) (λ (e : Entry). e.number) (longer n verdict)) ∙ listed)).begun) in
        omega (arith, length-map (longer n verdict) (λ (e : Entry). e.number), numbers, s.few)

    pub room_at_tail : queue_length w h < most_actions
    room_at_tail = omega (arith, longer_few, length-append (queue w h) (new_entry n verdict ∷ []), length_of_queue w h)

  module _ (n : ℕ) (kind : kind_of w n ≡ h) (free : Committable w n) (verdict : ℕ) where
    may_enter : MayWait w h n
    may_enter = record { begun = free.own; alive = free.alive; kind = kind; childless = free.childless }

    room_in_time : counter w h + length (longer n verdict) ≤ last_time
    room_in_time =
        omega (arith, length-append (queue w h) (new_entry n verdict ∷ []), length_of_queue w h, rw kind at free.time_left)

    pub tail_queue : queue (with_tail w h n verdict) h ≡ queue w h ++ (new_entry n verdict ∷ [])
    unfolding with_tail
    tail_queue = queue_same h known w (longer n verdict) s.long (longer_few n may_enter free.unqueued verdict)

    pub tail_keeps : (m g : ℕ) → IsActionField g → OffLength h m g → word (with_tail w h n verdict) m g ≡ word w m g
    unfolding with_tail
    tail_keeps = given_keeps w s h known (longer n verdict)

    pub tail_change : (now : ℕ) → TableChange w (with_tail w h n verdict) now
    unfolding with_tail
    tail_change =
        queue_change w s h known (longer n verdict) room_in_time
        (given_line w s h known (longer n verdict)
        (longer_few n may_enter free.unqueued verdict)
        (longer_waits n may_enter free.unqueued verdict)
        (longer_once n may_enter free.unqueued verdict))

  -- ---- one becomes ready

  module _ (n : ℕ) where
    abbrev marked : List Entry
    marked = map (readied n) (queue w h)

    -- its entry's number stays
    pub readied_number : (e : Entry) → (readied n e).number ≡ e.number
    unfolding readied
    readied_number e = cond_holds (λ (x : Entry). x.number ≡ e.number) (is_of n e) (λ _. refl) (λ _. refl)

    marked_numbers : numbers_of marked ≡ numbers_of (queue w h)
    marked_numbers =
        map_map (readied n) (λ (e : Entry). e.number) (queue w h)
        ∙ ap (λ f. map f (queue w h)) (fun_ext readied_number)

    marked_few : length marked ≤ most_actions
    marked_few = rw (length-map (queue w h) (readied n)) queue_few

    marked_queued : (m : ℕ) → any (is_of m) marked ≡ any (is_of m) (queue w h)
    marked_queued m =
        any_map (is_of m) (readied n) (queue w h)
        ∙ ap (λ f. any f (queue w h)) (fun_ext (λ e. ap (eqb m) (readied_number e)))

    pub ready_queue : queue (with_ready w h n) h ≡ map (readied n) (queue w h)
    unfolding with_ready
    ready_queue = queue_same h known w marked s.long marked_few

    pub ready_keeps : (m g : ℕ) → IsActionField g → OffLength h m g → word (with_ready w h n) m g ≡ word w m g
    unfolding with_ready
    ready_keeps = given_keeps w s h known marked

    pub ready_change : (now : ℕ) → TableChange w (with_ready w h n) now
    unfolding with_ready
    ready_change =
        queue_change w s h known marked
        (omega (arith, length-map (queue w h) (readied n), length_of_queue w h, s.bounded h known))
        (given_line w s h known marked marked_few (λ m listed. waits_as_listed m (sym (marked_queued m) ∙ listed))
        (rw marked_numbers numbers_once))

  -- ---- some are taken out

  module _ (n : ℕ) where
    abbrev fewer : List Entry
    fewer = filter (keeps_place w n) (queue w h)

    fewer_few : length fewer ≤ most_actions
    fewer_few = omega (arith, length_filter (keeps_place w n) (queue w h), queue_few)

    pub without_queue : queue (without_below w h n) h ≡ filter (keeps_place w n) (queue w h)
    unfolding without_below
    without_queue = queue_same h known w fewer s.long fewer_few

    pub without_keeps : (m g : ℕ) → IsActionField g → OffLength h m g → word (without_below w h n) m g ≡ word w m g
    unfolding without_below
    without_keeps = given_keeps w s h known fewer

    pub without_other_queue : (x : ℕ) → IsKind x → x ≢ h → queue (without_below w h n) x ≡ queue w x
    unfolding without_below
    without_other_queue = other_queue w s h known fewer

    -- who still waits did, and isn't reached by an abort of n
    pub kept_listed :
        (m : ℕ) → any (is_of m) (filter (keeps_place w n) (queue w h)) ≡ true →
        (is_queued w h m ≡ true) × (is_aborted_by w n m ≡ false)
    unfolding is_queued keeps_place
    kept_listed m listed =
        let both : any (λ e. keeps_place w n e && is_of m e) (queue w h) ≡ true =
        sym (any_filter (is_of m) (keeps_place w n) (queue w h)) ∙ listed in (
          any_weaker _ (is_of m) (λ e h. and_right (keeps_place w n e) (is_of m e) h) (queue w h) both,
          not-true _
              (any_implies _ (queue w h) both
              (λ e h.
              rw (eqb-true m e.number (and_right (keeps_place w n e) (is_of m e) h)) (and_left (keeps_place w n e) (is_of m e) h))),
        )

    pub still_queued :
        (m : ℕ) → is_queued (without_below w h n) h m ≡ true → (is_queued w h m ≡ true) × (is_aborted_by w n m ≡ false)
    unfolding without_below
    still_queued m queued = kept_listed m (sym (queued_given w s h known fewer fewer_few m) ∙ queued)

    filter_numbers : filter (λ m. not (is_aborted_by w n m)) (numbers_of (queue w h)) ≡ numbers_of fewer
    unfolding keeps_place
    filter_numbers = filter_map (λ m. not (is_aborted_by w n m)) (λ (e : Entry). e.number) (queue w h)

    pub without_change : (now : ℕ) → TableChange w (without_below w h n) now
    unfolding without_below
    without_change =
        queue_change w s h known fewer
        (omega (arith, length_filter (keeps_place w n) (queue w h), length_of_queue w h, s.bounded h known))
        (given_line w s h known fewer fewer_few (λ m listed. (s.lines h known).waits m (kept_listed m listed).0)
        (rw (← filter_numbers) (distinct_filter (λ m. not (is_aborted_by w n m)) (numbers_of (queue w h)) numbers_once)))

    -- whom an abort reaches is the same as before
    pub same_reach : (m : ℕ) → is_aborted_by (without_below w h n) n m ≡ is_aborted_by w n m
    unfolding without_below is_at_or_below
    same_reach m =
        rw (live_kept w s h known fewer m, fun_ext (parent_kept w s h known fewer))

    -- an abort of one who waits reaches it
    reaches_itself : is_queued w h n ≡ true → is_aborted_by w n n ≡ true
    reaches_itself queued =
        let may = (s.lines h known).waits n queued in
        and_both may.alive (at_or_below_itself w n (λ z. omega (arith, may.begun)) (s.climb n may.begun may.alive))

    one_fewer_waits : is_queued w h n ≡ true → length fewer < length (queue w h)
    unfolding is_queued keeps_place
    one_fewer_waits queued =
        filter_shorter (keeps_place w n) (queue w h)
        (any_weaker (is_of n) (λ e. not (keeps_place w n e))
        (λ e own. rw (← eqb-true n e.number own, reaches_itself queued) refl)
        (queue w h) queued)

    -- one who waits is not among those who do then, and may commit: its place in the queue stood for an end time
    pub out_committable : is_queued w h n ≡ true → Committable (without_below w h n) n
    unfolding without_below
    out_committable queued =
        let may = (s.lines h known).waits n queued in
        let still = waits_still w s h known fewer n may in
        record {
          own = still.begun;
          alive = still.alive;
          childless = still.childless;
          unqueued = unqueued_of _ n (λ x is. false_of_not_true _ (λ there. out_of_queue (rw (its_queue x is there) at there)));
          time_left =
              rw (still.kind, counter_kept w s h known fewer h known, queue_length_same h known w fewer s.long)
              (omega (arith, one_fewer_waits queued, length_of_queue w h, s.bounded h known));
        }
      where
        -- it isn't kept where it stood
        out_of_queue : is_queued (with_queue w h fewer) h n ≡ true → ⊥
        out_of_queue there =
            not_both (reaches_itself queued)
            (kept_listed n (sym (queued_given w s h known fewer fewer_few n) ∙ there)).1

        -- .. and no queue but that of its kind has it
        its_queue : (x : ℕ) → IsKind x → is_queued (with_queue w h fewer) x n ≡ true → x ≡ h
        its_queue x is there =
            let after = change_keeps_sound w (with_queue w h fewer) 0 s (without_change 0) in
            sym ((after.lines x is).waits n there).kind
            ∙ (waits_still w s h known fewer n ((s.lines h known).waits n queued)).kind
