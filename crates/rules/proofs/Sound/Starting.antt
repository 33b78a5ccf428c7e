-- A start keeps the table sound: whoever is live keeps its row, the new action has nothing yet, and of a finished action that was
-- the earlier holder's child the parent alone has changed. Assumes nothing.
use Prim.Native.Nat.{ℕ, ◌-◌, ◌≤◌, ◌<◌}
use native.Mathlib.Omega.{arith}
use native.Mathlib.Decide.{ℕ_discrete}
use mathlib.Core.Path.{◌≡◌, refl, sym, ap, ◌∙◌}
use mathlib.Core.Logic.{◌⊎◌, inl, inr, ⊎_elim, ◌≢◌}
use mathlib.Core.Bool.{true, false}
use mathlib.Core.List.{List}
use borrow.Author.Tests.{ne_eqb}
use lib.Dec.{eqb}
use Rattle.rules.specs.Card.{account_count}
use Rattle.rules.specs.Kind.{IsKind, kind_under}
use Rattle.rules.specs.Table.{has_end, sub_time_field, most_actions, highest, counter, parent_field, parent_of, kind_of, state_field, end_field, end_time, read_field, has_read, read_time, write_field, has_written, pending_field, pending_word, is_live, actions, is_child_of, is_live_child_of, has_live_child}
use Rattle.rules.specs.Walk.{climbs}
use Rattle.rules.specs.Queue.{is_queued, is_waiting}
use Rattle.rules.specs.Sound.{queue_numbers, IsGiven, StoreOrLive, MayWait, SoundQueue, Sound}
use Rattle.rules.specs.Step.{give_table}
use Rattle.rules.proofs.Laws.Climbing.{climbs_child, climbs_agree}
use Rattle.rules.proofs.Laws.Walking.{parent_store_or_live}
use Rattle.rules.proofs.Laws.Freeing.{Givable}
use Rattle.rules.proofs.Laws.Tests.{and_false, and_fails_left, not_both, test, cond_holds}
use Rattle.rules.proofs.Laws.Ranges.{not_any, not_any_at}
use Rattle.rules.proofs.Laws.Kinds.{kind_known, unqueued_in}
use Rattle.rules.proofs.Laws.Queue.{queue_kept}
use Rattle.rules.proofs.Sound.TableChanges.{bounds_stay}
use Rattle.rules.proofs.Sound.Depths.{one_move_left}
use Rattle.rules.proofs.Sound.Started.{start_highest, old_or_new, by_age, old_field, old_state, old_end, live_row, old_parent, old_parent_kept, old_kind, new_no_end, new_parent}
use Rattle.rules.proofs.Sound.StartRecords.{start_newest_in_time, start_newest_true}
use Rattle.rules.proofs.Sound.Giving.{give_length, give_counter, give_line, give_highest, give_state, give_read, give_pending, give_rule}

module _
    (w : List ℕ) (n p : ℕ) (s : Sound w) (g : Givable w n) (known : p ≤ highest w) (alive : 1 ≤ p → is_live w p ≡ true)
    (unqueued : is_waiting w p ≡ false) where
  abbrev after : List ℕ
  after = give_table w n p

  -- a parent that was the store or live still is
  still_held : (q : ℕ) → StoreOrLive w q → (q ≡ 0) ⊎ (is_live after q ≡ true)
  still_held q (few, lives) = go (ℕ_discrete q 0)
    where
      go : Dec (q ≡ 0) → (q ≡ 0) ⊎ (is_live after q ≡ true)
      go (yes e) = inl e
      go (no ne) =
          let h : IsGiven w q = (omega arith, few) in
          let l = lives (omega arith) in
          inr (rw (live_row w n p s g q state_field h l (omega arith)) l)

  -- on the way up from the store or a live action nothing changes
  old_climbs : (moves m : ℕ) → StoreOrLive w m → climbs (parent_of w) moves m ≡ true → climbs (parent_of after) moves m ≡ true
  old_climbs =
      climbs_agree (parent_of w) (parent_of after) (StoreOrLive w)
      (λ m ne from.
      let h : IsGiven w m = (omega arith, from.0) in
      let l = from.1 (omega arith) in
      (live_row w n p s g m parent_field h l (omega arith), parent_store_or_live s m h l))

  -- its number wasn't live, so the new action's parent lies one move less deep than any action may
  new_climbs : climbs (parent_of after) most_actions n ≡ true
  new_climbs =
      let under = one_move_left w s n g.first g.few (λ begun. g.idle begun.1) p (known, alive) in
      climbs_child (parent_of after) (most_actions - 1) n
      (rw (new_parent w n p s g) (old_climbs (most_actions - 1) p (known, alive) under))

  no_read : (k : ℕ) → k < account_count → has_read after n k ≡ true → ⊥
  no_read k hk r = not_both r (rw (give_read w n p s.long g.first g.few k hk))

  -- whoever waits is no parent of the new action, so it gets no live child
  waiting_childless : (h : ℕ) → IsKind h → (x : ℕ) → is_queued w h x ≡ true → has_live_child after x ≡ false
  unfolding has_live_child actions
  waiting_childless h kind x queued =
      not_any (is_live_child_of after x) 1 (highest after)
      (λ m r. by_age w n p s g (λ y. is_live_child_of after x y ≡ false) old new m (omega arith))
    where
      old : (m : ℕ) → IsGiven w m × (m ≢ n) → is_live_child_of after x m ≡ false
      old m is = ⊎_elim living gone (test (is_live w m))
        where
          living : is_live w m ≡ true → is_live_child_of after x m ≡ false
          living l =
              rw (live_row w n p s g m parent_field is.0 l (omega arith), live_row w n p s g m state_field is.0 l (omega arith))
              (not_any_at (is_live_child_of w x) 1 (highest w) m ((s.lines h kind).waits x queued).childless (omega (arith, is.0)))

          gone : is_live w m ≡ false → is_live_child_of after x m ≡ false
          gone l = rw (old_state w n p s g m is, l) (and_false (is_child_of after x m))

      new : is_live_child_of after x n ≡ false
      new =
          rw (new_parent w n p s g)
          ((and_fails_left (eqb p x) _).1 (λ _. ne_eqb p x (λ same. not_both queued (rw (← same) (unqueued_in w p unqueued h kind)))))

  waits_on : (h : ℕ) → IsKind h → (x : ℕ) → is_queued w h x ≡ true → MayWait after h x
  waits_on h kind x queued =
      let may = (s.lines h kind).waits x queued in
      record {
        begun = omega (arith, may.begun, start_highest w n p s g);
        alive = rw (live_row w n p s g x state_field may.begun may.alive (omega arith)) may.alive;
        kind = ap kind_under (live_row w n p s g x parent_field may.begun may.alive (omega arith)) ∙ may.kind;
        childless = waiting_childless h kind x queued;
      }

  lines_on : (h : ℕ) → IsKind h → SoundQueue after h
  unfolding is_queued queue_numbers
  lines_on h kind =
      let line = give_line w n p h g.first kind in
      let q = queue_kept w after h kind line in
      record {
        short = rw line.same_length (s.lines h kind).short;
        waits = λ x queued. waits_on h kind x (rw q at queued);
        once = rw q (s.lines h kind).once;
      }

  -- who isn't its own parent has kept its parent, and so has its neighbours
  ends_alone :
      (a b : ℕ) → IsGiven after a → IsGiven after b → has_end after a ≡ true → has_end after b ≡ true →
      parent_of after a ≢ a → parent_of after b ≢ b → parent_of after b ≡ parent_of after a → end_time after b ≡ end_time after a → b ≡ a
  ends_alone a b ha hb ea eb other other' parents ends =
      ⊎_elim
      (λ oa. ⊎_elim
      (λ ob.
      let kept = old_parent_kept w n p s g a oa other in
      let kept' = old_parent_kept w n p s g b ob other' in
      s.alone a b oa.0 ob.0 (rw (old_end w n p s g a oa) at ea) (rw (old_end w n p s g b ob) at eb)
      (rw kept at other) (rw kept' at other') (sym kept' ∙ parents ∙ kept)
      (sym (old_field w n p s g b end_field ob (omega arith) (λ z. omega arith)) ∙ ends
      ∙ old_field w n p s g a end_field oa (omega arith) (λ z. omega arith)))
      (λ e. absurd (new_no_end w n p s g (rw e at eb))) (old_or_new w n p s g b hb))
      (λ e. absurd (new_no_end w n p s g (rw e at ea))) (old_or_new w n p s g a ha)

  pub start_keeps_sound : Sound after
  start_keeps_sound =
      record {
        long = give_length w n p ∙ s.long;
        few = omega (arith, give_highest w n p s.long g.first g.few, s.few, g.few);
        ruled = rw (give_rule w n p g.first) s.ruled;
        states =
            by_age w n p s g _
            (λ m old. rw (old_state w n p s g m old) (s.states m old.0))
            (rw (give_state w n p s.long g.first g.few) refl);
        bounded =
            bounds_stay s after (λ h. give_counter w n p h g.first) (λ h kind. (give_line w n p h g.first kind).same_length);
        known = by_age w n p s g (λ m. parent_of after m ≤ highest after) old_known new_known;
        climb =
            by_age w n p s g _
            (λ m old l.
            let was = rw (old_state w n p s g m old) at l in
            old_climbs most_actions m (old.0.1, λ _. was) (s.climb m old.0 was))
            (λ _. new_climbs);
        alive =
            by_age w n p s g _
            (λ m old l.
            let was = rw (old_state w n p s g m old) at l in
            rw (live_row w n p s g m parent_field old.0 was (omega arith))
            (still_held (parent_of w m) (parent_store_or_live s m old.0 was)))
            (λ l. rw (new_parent w n p s g) (still_held p (known, alive)));
        reads =
            λ h m k kind begun.
            by_age w n p s g
            (λ x. is_live after x ≡ true → k < account_count → has_read after x k ≡ true → read_time after h x k ≤ counter after h)
            (λ x old l hk r.
            rw (
              old_field w n p s g x (read_field k) old (omega arith) (λ z. omega arith),
              old_field w n p s g x (sub_time_field k) old (omega arith) (λ z. omega arith),
              give_counter w n p h g.first kind,
            )
            (s.reads h x k kind old.0 (rw (old_state w n p s g x old) at l) hk
            (rw (old_field w n p s g x (read_field k) old (omega arith) (λ z. omega arith)) at r)))
            (λ l hk r. absurd (no_read k hk r)) m begun;
        ends =
            by_age w n p s g _
            (λ m old e.
            rw (
              old_field w n p s g m end_field old (omega arith) (λ z. omega arith),
              old_kind w n p s g m old,
              give_counter w n p (kind_of w m) g.first (kind_known (parent_of w m)),
            )
            (s.ends m old.0 (rw (old_end w n p s g m old) at e)))
            (λ e. absurd (new_no_end w n p s g e));
        alone = ends_alone;
        pendings =
            λ m k begun charge.
            by_age w n p s g (λ x. has_written after x k ≡ false → pending_word after x k ≡ 0)
            (λ x old none.
            rw (old_field w n p s g x (pending_field k) old (omega arith) (λ z. omega arith))
            (s.pendings x k old.0 charge (rw (old_field w n p s g x (write_field k) old (omega arith) (λ z. omega arith)) at none)))
            (λ none. give_pending w n p s.long g.first g.few k charge) m begun;
        lines = lines_on;
        newest_in_time = start_newest_in_time w n p s g;
        newest_true = start_newest_true w n p s g;
      }
    where
      old_known : (m : ℕ) → IsGiven w m × (m ≢ n) → parent_of after m ≤ highest after
      old_known m old =
          rw (old_parent w n p s g m old)
          (cond_holds (λ q. q ≤ highest after) (is_child_of w n m)
          (λ _. omega (arith, old.0, start_highest w n p s g))
          (λ _. omega (arith, s.known m old.0, start_highest w n p s g)))

      new_known : parent_of after n ≤ highest after
      new_known = rw (new_parent w n p s g) (omega (arith, known, start_highest w n p s g))
