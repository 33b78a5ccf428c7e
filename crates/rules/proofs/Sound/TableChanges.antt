-- What a change of the table must show so that a sound table stays sound: one law for every event that starts nothing.
-- Assumes nothing.
use Prim.Native.Nat.{ℕ, ◌+◌, ◌≤◌, ◌<◌}
use native.Mathlib.Omega.{arith}
use native.Mathlib.Decide.{ℕ_discrete}
use native.Mathlib.Nat.{le_of_eq}
use mathlib.Core.Path.{◌≡◌, refl, sym, ◌∙◌, ap}
use mathlib.Core.Logic.{◌⊎◌, inl, inr, ⊎_elim, ◌≢◌}
use mathlib.Core.Bool.{true, false, not}
use mathlib.Core.List.{List}
use borrow.Author.Tests.{eqb-true}
use lib.Dec.{eqb}
use lib.ListN.{length}
use Rattle.rules.specs.Card.{account_count, accounts, IsCharge}
use Rattle.rules.specs.Kind.{IsKind, kind_under}
use Rattle.rules.specs.Table.{has_end, IsActionField, table_length, entry_fields, width, live, committed, word, write_fields, highest_field, counter_field, parent_field, state_field, end_field, read_field, read_entry, sub_time_field, sub_time, write_field, write_entry, entered, has_written, has_writes, pending_field, pending_word, newest_field, newest, highest, counter, last_time, parent_of, kind_of, state_of, end_time, has_read, read_time, is_live, is_committed, actions, is_child_of, is_live_child_of, has_live_child, is_record_of, rule_field, rule_of}
use Rattle.rules.specs.Queue.{queue_length_field, queue_length, is_queued}
use Rattle.rules.specs.Sound.{has_state, queue_numbers, IsGiven, IsLiveAction, SoundQueue, Sound}
use Rattle.rules.proofs.Laws.Tests.{and_left, and_right, and_both, not_both, false_of_not_true}
use Rattle.rules.proofs.Laws.Ranges.{not_any, not_any_at, any_agree}
use Rattle.rules.proofs.Laws.Kinds.{kind_known}
use Rattle.rules.proofs.Laws.Queue.{SameLine, queue_kept}

-- ---- facts that every event needs

-- an action with the same write entries in two tables has writes in both or in neither
pub writes_agree :
    (w v : List ℕ) (m : ℕ) → ((k : ℕ) → k < account_count → write_entry v m k ≡ write_entry w m k) → has_writes v m ≡ has_writes w m
unfolding has_writes accounts
writes_agree w v m same = any_agree _ _ 0 account_count (λ k h. ap (λ x. not (eqb x 0)) (same k (omega arith)))

-- a live action has not committed
pub live_uncommitted : (w : List ℕ) (n : ℕ) → is_live w n ≡ true → is_committed w n ≡ true → ⊥
live_uncommitted w n l c = omega (arith, eqb-true (state_of w n) live l, eqb-true (state_of w n) committed c)

-- a word of an action stands in its row
pub action_width : (g : ℕ) → IsActionField g → g < width
action_width g (inl front) = omega arith
action_width g (inr back) = back.1

-- ---- a change

-- The end of action m in the table v, after w: it ended before, or it is the one that ends now, at a time of its kind that is new.
abbrev pub Ended : List ℕ → List ℕ → ℕ → ℕ → Type 0
Ended w v now m =
    ((has_end w m ≡ true) × (end_time v m ≡ end_time w m))
    ⊎ ((m ≡ now) × (end_time v m ≡ counter v (kind_of w m)) × (counter w (kind_of w m) < counter v (kind_of w m)))

-- Where charge account k isn't in action m's write set in v it wasn't in w, and m's pending sum is as it was.
abbrev pub SumStays : List ℕ → List ℕ → ℕ → ℕ → Type 0
SumStays w v m k = has_written v m k ≡ false → (has_written w m k ≡ false) × (pending_word v m k ≡ pending_word w m k)

-- so it is where neither word changes
pub sum_stays :
    (w v : List ℕ) (m k : ℕ) → write_entry v m k ≡ write_entry w m k → pending_word v m k ≡ pending_word w m k → SumStays w v m k
sum_stays w v m k entry sum none = (rw entry at none, sum)

-- Where action m's read of account k in v comes from, by its time of kind h: m had it in w, or a live child of m had, or it was
-- made now.
pub data ReadFrom (w v : List ℕ) (h m k : ℕ) : Type 0 where
  own : has_read w m k ≡ true → read_time v h m k ≡ read_time w h m k → ReadFrom w v h m k
  child's :
      (x : ℕ) → IsLiveAction w x → parent_of w x ≡ m → has_read w x k ≡ true → read_time v h m k ≡ read_time w h x k →
      ReadFrom w v h m k
  made_now : read_time v h m k ≡ counter w h → ReadFrom w v h m k

-- The reads of those who are live in v, of which w says who they are.
abbrev pub ReadsFrom : List ℕ → List ℕ → Type 0
ReadsFrom w v =
    (h m k : ℕ) → IsKind h → IsGiven w m → is_live v m ≡ true → k < account_count → has_read v m k ≡ true → ReadFrom w v h m k

-- a read of which neither word has changed was there
pub same_read :
    (w v : List ℕ) (h m k : ℕ) → read_entry v m k ≡ read_entry w m k → sub_time v m k ≡ sub_time w m k → has_read v m k ≡ true →
    ReadFrom w v h m k
same_read w v h m k entry time has = own (rw entry at has) (rw (entry, time) refl)

-- no word of action m has changed
abbrev pub RowKept : List ℕ → List ℕ → ℕ → Type 0
RowKept w v m = (g : ℕ) → IsActionField g → word v m g ≡ word w m g

-- Row p's newest end time for account k stays, and whoever is a record of p in v with k in its write set had committed.
abbrev pub NewestStays : List ℕ → List ℕ → ℕ → ℕ → Type 0
NewestStays w v p k =
    (newest v p k ≡ newest w p k)
    × ((m : ℕ) → IsGiven w m → is_record_of v p m ≡ true → has_written v m k ≡ true → is_committed w m ≡ true)

-- It becomes the end time of a record with k in its write set that is new: above the counter that was.
pub record NewestNow (w v : List ℕ) (p k : ℕ) : Type 0 where
  pub holder : ℕ
  pub begun : IsGiven w holder
  pub is_record : is_record_of v p holder ≡ true
  pub written : has_written v holder k ≡ true
  pub noted : newest v p k ≡ end_time v holder
  pub late : counter w (kind_under p) < end_time v holder
  pub in_time : end_time v holder ≤ counter v (kind_under p)

-- Each counter has room for an end time of each who waits in its queue.
abbrev pub Bounded : List ℕ → Type 0
Bounded v = (h : ℕ) → IsKind h → counter v h + queue_length v h ≤ last_time

-- so it stays where neither changes
pub bounds_stay :
    {w : List ℕ} → Sound w → (v : List ℕ) → ((h : ℕ) → IsKind h → counter v h ≡ counter w h) →
    ((h : ℕ) → IsKind h → queue_length v h ≡ queue_length w h) → Bounded v
bounds_stay s v counters lengths h known = rw (counters h known, lengths h known) (s.bounded h known)

-- The table v, after an event at table w in which action `now` may have ended.
pub record TableChange (w v : List ℕ) (now : ℕ) : Type 0 where
  pub long : length v ≡ table_length
  pub same_highest : highest v ≡ highest w
  pub same_rule : rule_of v ≡ rule_of w
  pub rising : (h : ℕ) → IsKind h → counter w h ≤ counter v h
  pub bounded : Bounded v
  pub states : (m : ℕ) → IsGiven w m → has_state v m ≡ true
  pub parents : (m : ℕ) → IsGiven w m → parent_of v m ≡ parent_of w m
  -- nothing becomes live, and a parent that was live stays so while a child does
  pub was_live : (m : ℕ) → IsGiven w m → is_live v m ≡ true → is_live w m ≡ true
  pub parent_stays : (m : ℕ) → IsGiven w m → is_live v m ≡ true → is_live w (parent_of w m) ≡ true → 1 ≤ parent_of w m → is_live v (parent_of w m) ≡ true
  pub reads : ReadsFrom w v
  pub ends : (m : ℕ) → IsGiven w m → has_end v m ≡ true → Ended w v now m
  -- who had committed keeps its row
  pub finals : (m : ℕ) → IsGiven w m → is_committed w m ≡ true → RowKept w v m
  pub newests : (p k : ℕ) → p ≤ highest w → k < account_count → NewestStays w v p k ⊎ NewestNow w v p k
  pub pendings : (m k : ℕ) → IsGiven w m → IsCharge k → SumStays w v m k
  pub lines : (h : ℕ) → IsKind h → SoundQueue v h

-- where the counters stay nobody ends, so a newest end time that stays is one that nothing has passed
pub calm_newest :
    {w v : List ℕ} {now : ℕ} → ((h : ℕ) → IsKind h → counter v h ≡ counter w h) →
    ((m : ℕ) → IsGiven w m → has_end v m ≡ true → Ended w v now m) → (p k : ℕ) → newest v p k ≡ newest w p k →
    NewestStays w v p k ⊎ NewestNow w v p k
unfolding is_record_of
calm_newest {w} {v} counters ends p k same =
    inl (
      same,
      λ m begun is written.
          ⊎_elim
          (λ old. and_left (is_committed w m) (has_writes w m) old.0)
          (λ new. absurd (omega (arith, new.2, counters (kind_of w m) (kind_known (parent_of w m)))))
          (ends m begun (and_right (is_child_of v p m) (has_end v m) is)),
    )

-- ---- the queues

-- nobody gets a live child where nobody becomes live and parents stay
pub still_childless :
    (w v : List ℕ) (n : ℕ) → highest v ≡ highest w → ((m : ℕ) → IsGiven w m → parent_of v m ≡ parent_of w m) →
    ((m : ℕ) → IsGiven w m → is_live v m ≡ true → is_live w m ≡ true) → has_live_child w n ≡ false → has_live_child v n ≡ false
unfolding has_live_child actions
still_childless w v n same parents was_live none =
    rw same
    (not_any (is_live_child_of v n) 1 (highest w)
    (λ m r.
    let begun : IsGiven w m = omega arith in
    false_of_not_true _
    (λ child.
    let under = and_left (is_child_of v n m) (is_live v m) child in
    let alive = and_right (is_child_of v n m) (is_live v m) child in
    not_both (and_both (rw (parents m begun) at under) (was_live m begun alive))
    (not_any_at (is_live_child_of w n) 1 (highest w) m none r))))

-- a queue that stays is sound where those who wait stay live
pub line_stays :
    (w v : List ℕ) → Sound w → (h : ℕ) → IsKind h → SameLine w v h → highest v ≡ highest w →
    ((m : ℕ) → IsGiven w m → parent_of v m ≡ parent_of w m) →
    ((m : ℕ) → IsGiven w m → is_live v m ≡ true → is_live w m ≡ true) →
    ((m : ℕ) → is_queued w h m ≡ true → is_live v m ≡ true) → SoundQueue v h
unfolding is_queued queue_numbers
line_stays w v s h known same starts parents was_live stay =
    let q = queue_kept w v h known same in
    record {
      short = rw same.same_length (s.lines h known).short;
      waits = λ n queued.
          let was = rw q at queued in
          let may = (s.lines h known).waits n was in
          record {
            begun = rw starts may.begun;
            alive = stay n was;
            kind = ap kind_under (parents n may.begun) ∙ may.kind;
            childless = still_childless w v n starts parents was_live may.childless;
          };
      once = rw q (s.lines h known).once;
    }

-- .. so where no state changes
pub quiet_line :
    (w v : List ℕ) → Sound w → (h : ℕ) → IsKind h → SameLine w v h → highest v ≡ highest w →
    ((m : ℕ) → parent_of v m ≡ parent_of w m) → ((m : ℕ) → state_of v m ≡ state_of w m) → SoundQueue v h
quiet_line w v s h known same starts parents states =
    line_stays w v s h known same starts (λ m _. parents m) (λ m _ l. rw (states m) at l)
    (λ m queued. rw (states m) ((s.lines h known).waits m queued).alive)

-- A change that leaves the head, the parents and the states as they were.
pub quiet_change :
    (w v : List ℕ) (now : ℕ) → Sound w → length v ≡ length w → highest v ≡ highest w → rule_of v ≡ rule_of w →
    ((h : ℕ) → IsKind h → counter v h ≡ counter w h) → Bounded v →
    ((m : ℕ) → parent_of v m ≡ parent_of w m) → ((m : ℕ) → state_of v m ≡ state_of w m) → ReadsFrom w v →
    ((m : ℕ) → IsGiven w m → has_end v m ≡ true → Ended w v now m) →
    ((m : ℕ) → IsGiven w m → is_committed w m ≡ true → RowKept w v m) →
    ((p k : ℕ) → k < account_count → newest v p k ≡ newest w p k) →
    ((m k : ℕ) → IsGiven w m → IsCharge k → SumStays w v m k) → ((h : ℕ) → IsKind h → SoundQueue v h) →
    TableChange w v now
quiet_change w v now s len start rule counters bounded parents states reads ends finals newests pendings lines =
    record {
      long = len ∙ s.long;
      same_highest = start;
      same_rule = rule;
      rising = λ h known. le_of_eq (sym (counters h known));
      bounded = bounded;
      states = λ m h. rw (states m) (s.states m h);
      parents = λ m h. parents m;
      was_live = λ m h l. rw (states m) at l;
      parent_stays = λ m h l q one. rw (states (parent_of w m)) q;
      reads = reads;
      ends = ends;
      finals = finals;
      newests = λ p k known account. calm_newest counters ends p k (newests p k account);
      pendings = pendings;
      lines = lines;
    }

-- A change that enters account k in the write set of live action n, and may change n's pending sum for k.
module _
    (w v : List ℕ) (n k : ℕ) (s : Sound w) (alive : is_live w n ≡ true) (len : length v ≡ length w)
    (fields : (m g : ℕ) → g < write_fields → word v m g ≡ word w m g)
    (behind : (m g : ℕ) → entry_fields ≤ g → g < width → word v m g ≡ word w m g)
    (others : (m g : ℕ) → g < width → m ≢ n → word v m g ≡ word w m g)
    (enters : write_entry v n k ≡ entered)
    (accounts_kept : (j : ℕ) → IsCharge j → j ≢ k → (write_entry v n j ≡ write_entry w n j) × (pending_word v n j ≡ pending_word w n j)) where
  state_kept : (m : ℕ) → state_of v m ≡ state_of w m
  state_kept m = fields m state_field (omega arith)

  counter_kept : (h : ℕ) → IsKind h → counter v h ≡ counter w h
  counter_kept h known = fields 0 (counter_field h) (omega arith)

  length_kept : (h : ℕ) → IsKind h → queue_length v h ≡ queue_length w h
  length_kept h known = fields 0 (queue_length_field h) (omega arith)

  end_kept : (m : ℕ) → has_end v m ≡ true → Ended w v n m
  end_kept m e = go (ℕ_discrete m n)
    where
      did : is_committed w m ≡ true
      did = rw (state_kept m) at (and_left (is_committed v m) _ e)

      go : Dec (m ≡ n) → Ended w v n m
      go (yes same) = absurd (live_uncommitted w n alive (rw same at did))
      go (no ne) =
          inl (
            and_both did (sym (writes_agree w v m (λ j h. others m (write_field j) (omega arith) ne)) ∙ and_right (is_committed v m) _ e),
            fields m end_field (omega arith),
          )

  reads_kept : ReadsFrom w v
  reads_kept h m j known begun l hj =
      same_read w v h m j (fields m (read_field j) (omega arith)) (behind m (sub_time_field j) (omega arith) (omega arith))

  -- n is live, so it isn't one that had committed
  finals_kept : (m : ℕ) → is_committed w m ≡ true → RowKept w v m
  finals_kept m did g inside =
      others m g (action_width g inside) (λ same. live_uncommitted w n alive (rw same at did))

  sums_stay : (m j : ℕ) → IsCharge j → SumStays w v m j
  sums_stay m j charge = go (ℕ_discrete m n) (ℕ_discrete j k)
    where
      go : Dec (m ≡ n) → Dec (j ≡ k) → SumStays w v m j
      go (no ne) _ = sum_stays w v m j (others m (write_field j) (omega arith) ne) (others m (pending_field j) (omega arith) ne)
      go (yes same) (no ne) =
          let kept = accounts_kept j charge ne in rw same (sum_stays w v n j kept.0 kept.1)
      go (yes same) (yes it) = λ none. absurd (not_both (rw (same, it, enters) refl) none)

  pub entering_change : TableChange w v n
  entering_change =
      quiet_change w v n s len
      (fields 0 highest_field (omega arith)) (ap (λ x. x + 1) (fields 0 rule_field (omega arith))) counter_kept (bounds_stay s v counter_kept length_kept)
      (λ m. fields m parent_field (omega arith)) state_kept reads_kept
      (λ m h. end_kept m) (λ m h. finals_kept m)
      (λ p j account. behind p (newest_field j) (omega arith) (omega arith))
      (λ m j h. sums_stay m j)
      (λ h known.
      quiet_line w v s h known
      (record {
        same_length = length_kept h known;
        same_entries = λ i g _ first last. behind i g (omega arith) (omega arith);
      })
      (fields 0 highest_field (omega arith)) (λ m. fields m parent_field (omega arith)) state_kept)
