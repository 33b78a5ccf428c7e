-- The test for a sound table and the facts that it stands for, from the one to the other and back. Assumes nothing.
use Prim.Native.Nat.{ℕ, ◌+◌, ◌-◌, ◌≤◌, ◌<◌}
use native.Mathlib.Omega.{arith}
use mathlib.Core.Path.{◌≡◌, sym, ap, ◌∙◌}
use mathlib.Core.Logic.{◌⊎◌, ⊎_elim, ⊎_map, ◌≢◌}
use mathlib.Core.Bool.{true, false, not, ◌&&◌, ◌||◌}
use mathlib.Core.List.{List}
use borrow.Author.Tests.{ltb-true, ltb-false, leb-true, eqb-true, eqb-false, le-leb, eq-eqb, ne_eqb, not-true, not-false}
use lib.Dec.{leb, ltb, eqb}
use lib.ListN.{length}
use Rattle.rules.specs.Range.{any, all}
use Rattle.rules.specs.Card.{account_count, accounts, first_charge, charge_count, IsCharge, charge_accounts}
use Rattle.rules.specs.Kind.{IsKind, kinds}
use Rattle.rules.specs.Table.{has_end, table_length, most_actions, highest, counter, last_time, parent_of, kind_of, end_time, has_read, read_time, write_entry, has_written, pending_word, is_live, actions, parents}
use Rattle.rules.specs.Queue.{queue_length, queue, is_queued}
use Rattle.rules.specs.Sound.{is_bounded, has_state, has_parent_alive, has_times_in, has_read_in_time, has_end_in_time, shares_end_time, has_end_alone, has_pending_written, is_sound_action, may_wait, queue_numbers, is_sound_queue, is_newest_in_time, are_newest_true, sound, IsGiven, MayWait, SoundQueue, Sound, has_parent_known, has_way_up, ends_under_another, has_rule}
use Rattle.rules.specs.Walk.{climbs}
use Rattle.rules.proofs.Laws.Tests.{and_left, and_right, and_both, or_cases, or_inl, or_inr, test, implied, implies, not_both, false_of_not_true}
use Rattle.rules.proofs.Laws.Ranges.{Within, all_at, all_of}
use Rattle.rules.proofs.Laws.Lists.{any_map, all_listed, listed_all}
use Rattle.rules.proofs.Laws.Sets.{charge_within}
use Rattle.rules.proofs.Laws.Kinds.{all_kinds, kinds_all}
use Rattle.rules.proofs.Sound.Scans.{all_given, given_all, all_parents, parents_all}
use Rattle.rules.proofs.Sound.NewestClauses.{in_time_fact, in_time_test, newest_true_fact, newest_true_test}

-- ---- the clauses that are more than one comparison, from test to fact and back

module _ (w : List ℕ) (n : ℕ) where
  ParentAlive : Type 0
  ParentAlive = is_live w n ≡ true → (parent_of w n ≡ 0) ⊎ (is_live w (parent_of w n) ≡ true)

  alive_fact : has_parent_alive w n ≡ true → ParentAlive
  unfolding ParentAlive
  alive_fact h p =
      ⊎_map (λ e. eqb-true _ _ e) (λ q. q) (or_cases (eqb (parent_of w n) 0) (is_live w (parent_of w n)) (implied (is_live w n) _ h p))

  alive_test : ParentAlive → has_parent_alive w n ≡ true
  unfolding ParentAlive
  alive_test f =
      implies (is_live w n) _
      (λ p. ⊎_elim (λ e. or_inl _ (eq-eqb _ _ e)) (λ q. or_inr (eqb (parent_of w n) 0) q) (f p))

  ReadsInTime : Type 0
  ReadsInTime =
      is_live w n ≡ true → (h : ℕ) → IsKind h → (k : ℕ) → k < account_count → has_read w n k ≡ true → read_time w h n k ≤ counter w h

  reads_fact : has_read_in_time w n ≡ true → ReadsInTime
  unfolding ReadsInTime has_read_in_time has_times_in accounts
  reads_fact t p h known k hk r =
      let fold : (not (has_read w n k) || leb (read_time w h n k) (counter w h)) ≡ true =
      all_at _ 0 account_count k (all_kinds (has_times_in w n) (implied (is_live w n) _ t p) h known) (omega arith) in
      leb-true (read_time w h n k) (counter w h) (implied (has_read w n k) _ fold r)

  reads_test : ReadsInTime → has_read_in_time w n ≡ true
  unfolding ReadsInTime has_read_in_time has_times_in accounts
  reads_test f =
      implies (is_live w n) _
      (λ p.
      kinds_all (has_times_in w n)
      (λ h known.
      all_of _ 0 account_count
      (λ k r. implies (has_read w n k) _ (λ read. le-leb (read_time w h n k) (counter w h) (f p h known k (omega arith) read)))))

  EndInTime : Type 0
  EndInTime = has_end w n ≡ true → (1 ≤ end_time w n) × (end_time w n ≤ counter w (kind_of w n))

  end_fact : has_end_in_time w n ≡ true → EndInTime
  unfolding EndInTime
  end_fact h p =
      let both = implied (has_end w n) _ h p in (
        leb-true _ _ (and_left (leb 1 (end_time w n)) (leb (end_time w n) (counter w (kind_of w n))) both),
        leb-true _ _ (and_right (leb 1 (end_time w n)) (leb (end_time w n) (counter w (kind_of w n))) both),
      )

  end_test : EndInTime → has_end_in_time w n ≡ true
  unfolding EndInTime
  end_test f = implies (has_end w n) _ (λ p. and_both (le-leb _ _ (f p).0) (le-leb _ _ (f p).1))

  WayUp : Type 0
  WayUp = is_live w n ≡ true → climbs (parent_of w) most_actions n ≡ true

  way_up_fact : has_way_up w n ≡ true → WayUp
  unfolding WayUp has_way_up
  way_up_fact = implied (is_live w n) _

  way_up_test : WayUp → has_way_up w n ≡ true
  unfolding WayUp has_way_up
  way_up_test = implies (is_live w n) _

  EndAlone : Type 0
  EndAlone =
      (m : ℕ) → (1 ≤ m) × (m < n) → ends_under_another w n ≡ true → ends_under_another w m ≡ true →
      parent_of w m ≡ parent_of w n → end_time w m ≡ end_time w n → ⊥

  alone_fact : has_end_alone w n ≡ true → EndAlone
  unfolding EndAlone has_end_alone
  alone_fact h m lower p q parents ends =
      let single : not (shares_end_time w n m) ≡ true = all_at _ 1 (n - 1) m (implied (ends_under_another w n) _ h p) (omega arith) in
      not_both (and_both (and_both q (eq-eqb _ _ parents)) (eq-eqb _ _ ends)) (not-true (shares_end_time w n m) single)

  alone_test : EndAlone → has_end_alone w n ≡ true
  unfolding EndAlone has_end_alone
  alone_test f =
      implies (ends_under_another w n) _ (λ p. all_of _ 1 (n - 1) (λ m h. none_shares p m h))
    where
      none_shares : ends_under_another w n ≡ true → (m : ℕ) → Within 1 (n - 1) m → not (shares_end_time w n m) ≡ true
      none_shares p m h =
          ap not
          (false_of_not_true (shares_end_time w n m)
          (λ t.
          let pair = and_left (ends_under_another w m && eqb (parent_of w m) (parent_of w n)) _ t in
          f m (omega arith) p
          (and_left (ends_under_another w m) _ pair)
          (eqb-true _ _ (and_right (ends_under_another w m) _ pair))
          (eqb-true _ _ (and_right (ends_under_another w m && eqb (parent_of w m) (parent_of w n)) _ t))))

  PendingWritten : Type 0
  PendingWritten = (k : ℕ) → IsCharge k → has_written w n k ≡ false → pending_word w n k ≡ 0

  pending_fact : has_pending_written w n ≡ true → PendingWritten
  unfolding PendingWritten has_pending_written charge_accounts
  pending_fact h k charge none =
      let fold : (has_written w n k || eqb (pending_word w n k) 0) ≡ true =
      all_at _ first_charge charge_count k h (charge_within charge) in
      eqb-true _ _ (implied (eqb (write_entry w n k) 0) _ fold (not-false _ none))

  pending_test : PendingWritten → has_pending_written w n ≡ true
  unfolding PendingWritten has_pending_written charge_accounts
  pending_test f =
      all_of _ first_charge charge_count
      (λ k h. implies (eqb (write_entry w n k) 0) _ (λ none. eq-eqb _ _ (f k (omega arith) (ap not none))))

-- ---- the whole

-- the clauses of one action, as facts
record SoundAction (w : List ℕ) (n : ℕ) : Type 0 where
  state : has_state w n ≡ true
  known : has_parent_known w n ≡ true
  up : has_way_up w n ≡ true
  alive : has_parent_alive w n ≡ true
  reads : has_read_in_time w n ≡ true
  end : has_end_in_time w n ≡ true
  alone : has_end_alone w n ≡ true
  pendings : has_pending_written w n ≡ true

module _ (w : List ℕ) (n : ℕ) where
  action_facts : is_sound_action w n ≡ true → SoundAction w n
  unfolding is_sound_action
  action_facts t =
      let a = has_state w n in
      let b = has_parent_known w n in
      let u = has_way_up w n in
      let c = has_parent_alive w n in
      let d = has_read_in_time w n in
      let e = has_end_in_time w n in
      let f = has_end_alone w n in
      let g = has_pending_written w n in
      let t7 = and_left (a && b && u && c && d && e && f) g t in
      let t6 = and_left (a && b && u && c && d && e) f t7 in
      let t5 = and_left (a && b && u && c && d) e t6 in
      let t4 = and_left (a && b && u && c) d t5 in
      let t3 = and_left (a && b && u) c t4 in
      let t2 = and_left (a && b) u t3 in
      record {
        state = and_left a b t2;
        known = and_right a b t2;
        up = and_right (a && b) u t3;
        alive = and_right (a && b && u) c t4;
        reads = and_right (a && b && u && c) d t5;
        end = and_right (a && b && u && c && d) e t6;
        alone = and_right (a && b && u && c && d && e) f t7;
        pendings = and_right (a && b && u && c && d && e && f) g t;
      }

  action_tested : SoundAction w n → is_sound_action w n ≡ true
  unfolding is_sound_action
  action_tested s =
      and_both
      (and_both
      (and_both (and_both (and_both (and_both (and_both s.state s.known) s.up) s.alive) s.reads) s.end)
      s.alone)
      s.pendings

-- ---- the counters

module _ (w : List ℕ) (h : ℕ) where
  bounded_fact : is_bounded w h ≡ true → counter w h + queue_length w h ≤ last_time
  unfolding is_bounded
  bounded_fact t = leb-true _ _ t

  bounded_test : counter w h + queue_length w h ≤ last_time → is_bounded w h ≡ true
  unfolding is_bounded
  bounded_test few = le-leb _ _ few

-- ---- a queue

-- who is queued is who is listed
pub queued_listed : (w : List ℕ) (h n : ℕ) → is_queued w h n ≡ any (eqb n) (queue_numbers w h)
unfolding is_queued queue_numbers
queued_listed w h n = sym (any_map (eqb n) (λ e. e.number) (queue w h))

module _ (w : List ℕ) (h n : ℕ) where
  waiting_facts : may_wait w h n ≡ true → MayWait w h n
  unfolding may_wait
  waiting_facts t =
      let first = leb 1 n in
      let known = leb n (highest w) in
      let kind = eqb (kind_of w n) h in
      let t3 = and_left (first && known && is_live w n && kind) _ t in
      let t2 = and_left (first && known && is_live w n) kind t3 in
      let t1 = and_left (first && known) _ t2 in
      record {
        begun = (leb-true _ _ (and_left first known t1), leb-true _ _ (and_right first known t1));
        alive = and_right (first && known) _ t2;
        kind = eqb-true _ _ (and_right (first && known && is_live w n) kind t3);
        childless = not-true _ (and_right (first && known && is_live w n && kind) _ t);
      }

  waiting_tested : MayWait w h n → may_wait w h n ≡ true
  unfolding may_wait
  waiting_tested may =
      and_both
      (and_both
      (and_both (and_both (le-leb _ _ may.begun.0) (le-leb _ _ may.begun.1)) may.alive)
      (eq-eqb _ _ may.kind))
      (ap not may.childless)

module _ (w : List ℕ) (h : ℕ) where
  queue_facts : is_sound_queue w h ≡ true → SoundQueue w h
  unfolding is_sound_queue
  queue_facts t =
      let short = leb (queue_length w h) most_actions in
      let waits = all (may_wait w h) (queue_numbers w h) in
      let t1 = and_left (short && waits) _ t in
      record {
        short = leb-true _ _ (and_left short waits t1);
        waits = λ n queued.
            waiting_facts w h n
            (all_listed (may_wait w h) (queue_numbers w h) (and_right short waits t1) n (sym (queued_listed w h n) ∙ queued));
        once = and_right (short && waits) _ t;
      }

  queue_tested : SoundQueue w h → is_sound_queue w h ≡ true
  unfolding is_sound_queue
  queue_tested q =
      and_both
      (and_both (le-leb _ _ q.short)
      (listed_all (may_wait w h) (queue_numbers w h) (λ n listed. waiting_tested w h n (q.waits n (queued_listed w h n ∙ listed)))))
      q.once

-- of two numbers one is the lower, or they are one
by_order : (P : Type 0) (m n : ℕ) → (m < n → P) → (n < m → P) → (m ≡ n → P) → P
by_order P m n f g h =
    ⊎_elim (λ p. f (ltb-true m n p))
    (λ p. ⊎_elim (λ q. g (ltb-true n m q)) (λ q. h (omega (arith, ltb-false m n p, ltb-false n m q))) (test (ltb n m)))
    (test (ltb m n))

module _ (w : List ℕ) where
  pub facts : sound w ≡ true → Sound w
  unfolding sound WayUp ParentAlive ReadsInTime EndInTime EndAlone PendingWritten
  facts t =
      let long = eqb (length w) table_length in
      let few = leb (highest w) most_actions in
      let ruled = has_rule w in
      let bounded = all (is_bounded w) kinds in
      let fold = all (is_sound_action w) (actions w) in
      let waiting = all (is_sound_queue w) kinds in
      let timely = all (is_newest_in_time w) (parents w) in
      let true_told = all (are_newest_true w) (parents w) in
      let t7 = and_left (long && few && ruled && bounded && fold && waiting && timely) true_told t in
      let t6 = and_left (long && few && ruled && bounded && fold && waiting) timely t7 in
      let t5 = and_left (long && few && ruled && bounded && fold) waiting t6 in
      let t4 = and_left (long && few && ruled && bounded) fold t5 in
      let t3 = and_left (long && few && ruled) bounded t4 in
      let t2 = and_left (long && few) ruled t3 in
      let of : (n : ℕ) → IsGiven w n → SoundAction w n =
      λ n h. action_facts w n (all_given w (is_sound_action w) (and_right (long && few && ruled && bounded) fold t5) n h) in
      record {
        long = eqb-true _ _ (and_left long few t2);
        few = leb-true _ _ (and_right long few t2);
        ruled = and_right (long && few) ruled t3;
        bounded = λ h known. bounded_fact w h (all_kinds (is_bounded w) (and_right (long && few && ruled) bounded t4) h known);
        states = λ n h. (of n h).state;
        known = λ n h. leb-true _ _ (of n h).known;
        climb = λ n h. way_up_fact w n (of n h).up;
        alive = λ n h. alive_fact w n (of n h).alive;
        reads = λ h n k known begun p. reads_fact w n (of n begun).reads p h known k;
        ends = λ n h. end_fact w n (of n h).end;
        alone =
            λ n m hn hm p q other other' parents ends.
            let ended = and_both p (ap not (ne_eqb _ _ other)) in
            let ended' = and_both q (ap not (ne_eqb _ _ other')) in
            by_order (m ≡ n) m n
            (λ lt. absurd (alone_fact w n (of n hn).alone m (hm.0, lt) ended ended' parents ends))
            (λ gt. absurd (alone_fact w m (of m hm).alone n (hn.0, gt) ended' ended (sym parents) (sym ends)))
            (λ e. e);
        pendings = λ n k h. pending_fact w n (of n h).pendings k;
        lines =
            λ h known.
            queue_facts w h
            (all_kinds (is_sound_queue w) (and_right (long && few && ruled && bounded && fold) waiting t6) h known);
        newest_in_time =
            λ p k known.
            in_time_fact w p
            (all_parents w (is_newest_in_time w) (and_right (long && few && ruled && bounded && fold && waiting) timely t7) p known) k;
        newest_true =
            λ p m k held lives below account has.
            newest_true_fact w p
            (all_parents w (are_newest_true w) (and_right (long && few && ruled && bounded && fold && waiting && timely) true_told t) p held.0)
            held m lives.0 lives.1 below k account has;
      }

  tested_action : Sound w → (n : ℕ) → IsGiven w n → SoundAction w n
  unfolding WayUp ParentAlive ReadsInTime EndInTime EndAlone PendingWritten
  tested_action s n h =
      record {
        state = s.states n h;
        known = le-leb _ _ (s.known n h);
        up = way_up_test w n (s.climb n h);
        alive = alive_test w n (s.alive n h);
        reads = reads_test w n (λ p x known k. s.reads x n k known h p);
        end = end_test w n (s.ends n h);
        alone =
            alone_test w n
            (λ m lower p q parents ends.
            let same =
            s.alone n m h (omega arith) (and_left (has_end w n) _ p) (and_left (has_end w m) _ q) (other n p) (other m q) parents ends in
            omega arith);
        pendings = pending_test w n (λ k. s.pendings n k h);
      }
    where
      other : (m : ℕ) → ends_under_another w m ≡ true → parent_of w m ≢ m
      other m under = eqb-false _ _ (not-true _ (and_right (has_end w m) _ under))

  pub tested : Sound w → sound w ≡ true
  unfolding sound
  tested s =
      and_both
      (and_both
      (and_both
      (and_both
      (and_both
      (and_both (and_both (eq-eqb _ _ s.long) (le-leb _ _ s.few)) s.ruled)
      (kinds_all (is_bounded w) (λ h known. bounded_test w h (s.bounded h known))))
      (given_all w _ (λ n h. action_tested w n (tested_action s n h))))
      (kinds_all (is_sound_queue w) (λ h known. queue_tested w h (s.lines h known))))
      (parents_all w (is_newest_in_time w) (λ p known. in_time_test w p (λ k. s.newest_in_time p k known))))
      (parents_all w (are_newest_true w)
      (λ p known.
      newest_true_test w p known (λ held m given live below k. s.newest_true p m k held (given, live) below)))

-- ---- RULES 7.3: no counter is above the last time

pub counter_at_most : (w : List ℕ) → Sound w → (h : ℕ) → IsKind h → counter w h ≤ last_time
counter_at_most w s h known = omega (arith, s.bounded h known)
