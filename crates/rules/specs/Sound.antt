-- RULES 7: a sound table, clause by clause: each as a test, and the facts that the tests stand for as a record;
-- proofs/Sound/Soundness.antt goes from the one to the other and back. Assumes nothing.
use Rattle.std.specs.Prelude.{ℕ, ◌+◌, ◌-◌, ◌≤◌, ◌<◌, ◌≡◌, ◌⊎◌, ◌≢◌, Bool, true, false, not, ◌&&◌, ◌||◌, List, [], ◌∷◌, map, leb, eqb, length}
use Rattle.std.specs.Bool.{beq}
use Rattle.rules.specs.Range.{up_from, any, all}
use Rattle.rules.specs.Kind.{IsKind, kinds, kind_under}
use Rattle.rules.specs.Card.{account_count, accounts, IsCharge, charge_accounts}
use Rattle.rules.specs.Table.{table_length, most_actions, rule_of, is_rule, live, committed, aborted, highest, counter, last_time, parent_of, kind_of, state_of, end_time, has_read, read_time, has_written, pending_word, newest, is_live, has_end, actions, parents, has_live_child}
use Rattle.rules.specs.Walk.{climbs, Climbs, is_under}
use Rattle.rules.specs.Free.{is_store_or_live}
use Rattle.rules.specs.Queue.{queue_length, queue, is_queued}
use Rattle.rules.specs.Stale.{is_stale, is_known_stale}

-- 7.17: the table is under one of the rules
abbrev pub has_rule : List ℕ → Bool
has_rule w = is_rule (rule_of w)

-- 7.3: the counter of kind h has room for an end time of each who waits in queue h
unfoldable pub is_bounded : List ℕ → ℕ → Bool
is_bounded w h = leb (counter w h + queue_length w h) last_time

-- 7.4: the state's word is that of a state
abbrev pub has_state : List ℕ → ℕ → Bool
has_state w n = eqb (state_of w n) live || eqb (state_of w n) committed || eqb (state_of w n) aborted

-- 7.5: the parent is the store, or its number is at most the highest given so far
abbrev pub has_parent_known : List ℕ → ℕ → Bool
has_parent_known w n = leb (parent_of w n) (highest w)

-- 7.14: from a live action the store is reached: there is no ring of parents among live actions (proofs/Sound/Rings.antt)
unfoldable pub has_way_up : List ℕ → ℕ → Bool
has_way_up w n = let up = climbs (parent_of w) most_actions n in not (is_live w n) || up

-- 7.6: where the action is live its parent is the store or live
abbrev pub has_parent_alive : List ℕ → ℕ → Bool
has_parent_alive w n = not (is_live w n) || (eqb (parent_of w n) 0 || is_live w (parent_of w n))

-- 7.7: none of the action's reads has a time of kind h that is later than that kind's counter
unfoldable pub has_times_in : List ℕ → ℕ → ℕ → Bool
has_times_in w n h = all (λ k. not (has_read w n k) || leb (read_time w h n k) (counter w h)) accounts

-- .. where the action is live, and of either kind
unfoldable pub has_read_in_time : List ℕ → ℕ → Bool
has_read_in_time w n = not (is_live w n) || all (has_times_in w n) kinds

-- 7.8: where the action has an end time that counts, this is from 1 to the counter of the action's kind
abbrev pub has_end_in_time : List ℕ → ℕ → Bool
has_end_in_time w n = not (has_end w n) || (leb 1 (end_time w n) && leb (end_time w n) (counter w (kind_of w n)))

-- 7.9: n is a committed writer, and its parent is another than itself
abbrev pub ends_under_another : List ℕ → ℕ → Bool
ends_under_another w n = has_end w n && not (eqb (parent_of w n) n)

-- m is another such, with the same parent and the same end time; asked of the numbers below n
abbrev pub shares_end_time : List ℕ → ℕ → ℕ → Bool
shares_end_time w n m = ends_under_another w m && eqb (parent_of w m) (parent_of w n) && eqb (end_time w m) (end_time w n)

unfoldable pub has_end_alone : List ℕ → ℕ → Bool
has_end_alone w n = not (ends_under_another w n) || all (λ m. not (shares_end_time w n m)) (up_from 1 (n - 1))

-- 7.10: no sum is pending on a charge account that isn't in the write set
unfoldable pub has_pending_written : List ℕ → ℕ → Bool
has_pending_written w n = all (λ k. has_written w n k || eqb (pending_word w n k) 0) charge_accounts

-- the clauses that speak of one action
unfoldable pub is_sound_action : List ℕ → ℕ → Bool
is_sound_action w n =
    has_state w n
    && has_parent_known w n
    && has_way_up w n
    && has_parent_alive w n
    && has_read_in_time w n
    && has_end_in_time w n
    && has_end_alone w n
    && has_pending_written w n

-- 7.12: n is the number of a live action of kind h without a live child
unfoldable pub may_wait : List ℕ → ℕ → ℕ → Bool
may_wait w h n = leb 1 n && leb n (highest w) && is_live w n && eqb (kind_of w n) h && not (has_live_child w n)

-- 7.13: each of these numbers stands here once
unfoldable pub are_distinct : List ℕ → Bool
are_distinct [] = true
are_distinct (n ∷ ns) = not (any (eqb n) ns) && are_distinct ns

-- the numbers of those who wait in queue h
unfoldable pub queue_numbers : List ℕ → ℕ → List ℕ
queue_numbers w h = map (λ e. e.number) (queue w h)

-- 7.11 to 7.13
unfoldable pub is_sound_queue : List ℕ → ℕ → Bool
is_sound_queue w h =
    leb (queue_length w h) most_actions && all (may_wait w h) (queue_numbers w h) && are_distinct (queue_numbers w h)

-- 7.15: none of p's newest end times is later than the counter of its children's kind
unfoldable pub is_newest_in_time : List ℕ → ℕ → Bool
is_newest_in_time w p = all (λ k. leb (newest w p k) (counter w (kind_under p))) accounts

-- where m has read account k: the read is stale by p's newest end time exactly where it is by p's records
unfoldable pub is_told_true : List ℕ → ℕ → ℕ → ℕ → Bool
is_told_true w p m k =
    let t = read_time w (kind_under p) m k in
    let alike = beq (is_known_stale w p k t) (is_stale w p k t) in
    not (has_read w m k) || alike

-- p's newest end times speak of m's reads: m is below p, at whatever depth
abbrev pub is_spoken_of : List ℕ → ℕ → ℕ → Bool
is_spoken_of w p m = is_under w p m

-- 7.16: of a live m it is so for every account, where they do
unfoldable pub is_newest_true : List ℕ → ℕ → ℕ → Bool
is_newest_true w p m =
    let reads = all (is_told_true w p m) accounts in
    let spoken = is_spoken_of w p m in
    let told = not spoken || reads in
    not (is_live w m) || told

-- .. and of every action, where p is the store or live
unfoldable pub are_newest_true : List ℕ → ℕ → Bool
are_newest_true w p =
    let told = all (is_newest_true w p) (actions w) in
    not (is_store_or_live w p) || told

-- 7.1 the length, 7.2 the highest number, 7.17 the rule, 7.3 the counters, and the clauses of each action, of each queue and of each
-- row's newest end times
unfoldable pub sound : List ℕ → Bool
sound w =
    eqb (length w) table_length
    && leb (highest w) most_actions
    && has_rule w
    && all (is_bounded w) kinds
    && all (is_sound_action w) (actions w)
    && all (is_sound_queue w) kinds
    && all (is_newest_in_time w) (parents w)
    && all (are_newest_true w) (parents w)

-- n has been given, and so is the number of an action that is held
abbrev pub IsGiven : List ℕ → ℕ → Type 0
IsGiven w n = (1 ≤ n) × (n ≤ highest w)

-- n is the number of a live action
abbrev pub IsLiveAction : List ℕ → ℕ → Type 0
IsLiveAction w n = IsGiven w n × (is_live w n ≡ true)

-- n is the store or the number of a live action
abbrev pub StoreOrLive : List ℕ → ℕ → Type 0
StoreOrLive w n = (n ≤ highest w) × (1 ≤ n → is_live w n ≡ true)

-- The same clauses as facts: of an action that waits in queue h,
pub record MayWait (w : List ℕ) (h n : ℕ) : Type 0 where
  pub begun : IsGiven w n
  pub alive : is_live w n ≡ true
  pub kind : kind_of w n ≡ h
  pub childless : has_live_child w n ≡ false

-- of queue h,
pub record SoundQueue (w : List ℕ) (h : ℕ) : Type 0 where
  pub short : queue_length w h ≤ most_actions
  pub waits : (n : ℕ) → is_queued w h n ≡ true → MayWait w h n
  pub once : are_distinct (queue_numbers w h) ≡ true

-- and of the table
pub record Sound (w : List ℕ) : Type 0 where
  pub long : length w ≡ table_length
  pub few : highest w ≤ most_actions
  pub ruled : has_rule w ≡ true
  pub bounded : (h : ℕ) → IsKind h → counter w h + queue_length w h ≤ last_time
  pub states : (n : ℕ) → IsGiven w n → has_state w n ≡ true
  pub known : (n : ℕ) → IsGiven w n → parent_of w n ≤ highest w
  pub climb : (n : ℕ) → IsGiven w n → is_live w n ≡ true → Climbs w n
  pub alive : (n : ℕ) → IsGiven w n → is_live w n ≡ true → (parent_of w n ≡ 0) ⊎ (is_live w (parent_of w n) ≡ true)
  pub reads :
      (h n k : ℕ) → IsKind h → IsGiven w n → is_live w n ≡ true → k < account_count → has_read w n k ≡ true →
      read_time w h n k ≤ counter w h
  pub ends : (n : ℕ) → IsGiven w n → has_end w n ≡ true → (1 ≤ end_time w n) × (end_time w n ≤ counter w (kind_of w n))
  pub alone :
      (n m : ℕ) → IsGiven w n → IsGiven w m → has_end w n ≡ true → has_end w m ≡ true → parent_of w n ≢ n → parent_of w m ≢ m →
      parent_of w m ≡ parent_of w n → end_time w m ≡ end_time w n → m ≡ n
  pub pendings : (n k : ℕ) → IsGiven w n → IsCharge k → has_written w n k ≡ false → pending_word w n k ≡ 0
  pub lines : (h : ℕ) → IsKind h → SoundQueue w h
  pub newest_in_time : (p k : ℕ) → p ≤ highest w → k < account_count → newest w p k ≤ counter w (kind_under p)
  pub newest_true :
      (p m k : ℕ) → StoreOrLive w p → IsLiveAction w m → is_spoken_of w p m ≡ true → k < account_count → has_read w m k ≡ true →
      let t = read_time w (kind_under p) m k in is_known_stale w p k t ≡ is_stale w p k t
