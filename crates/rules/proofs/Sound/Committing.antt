-- A commit's table, field by field. Assumes nothing.
use Prim.Native.Nat.{ℕ, ◌-◌, ◌≤◌, ◌<◌, min, ◌+◌}
use native.Mathlib.Omega.{arith}
use native.Mathlib.Decide.{ℕ_discrete}
use mathlib.Core.Path.{◌≡◌, refl, sym, ap, ◌∙◌}
use mathlib.Core.Logic.{◌⊎◌, inl, inr, ◌≢◌}
use mathlib.Core.Bool.{Bool, true, false, cond, not}
use mathlib.Core.List.{List}
use borrow.Author.Tests.{eq-eqb, ne_eqb, le-leb}
use lib.Dec.{eqb}
use lib.ListN.{length}
use Rattle.rules.specs.Card.{account_count, accounts, first_charge, charge_count, charge_accounts, IsCharge}
use Rattle.rules.specs.Amount.{amount_word}
use Rattle.rules.specs.Kind.{IsKind, top_kind, kind_under}
use Rattle.rules.specs.Table.{width, table_length, most_actions, committed, word, highest_field, highest, counter_field, counter, parent_field, parent_of, kind_of, state_field, state_of, with_state, end_field, end_time, with_end_time, read_fields, read_field, read_entry, has_read, sub_time_fields, sub_time_field, sub_time, read_time, write_field, write_entry, entered, has_written, has_writes, pending_field, pending_word, own_adds_field, own_adds_word, kept_field, kept_word, kept_after, newest_fields, newest_field, newest, rule_field, rule_of}
use Rattle.rules.specs.Queue.{queue_length_field}
use Rattle.rules.specs.Ledger.{Ledger}
use Rattle.rules.specs.Commit.{copied_down, commit_time, commit_counter, end_table, keep_table, newest_after, note_table, passes_read, joined_word, joined_read, joined_time, join_table, committed_under}
use Rattle.rules.proofs.Laws.Words.{with_word_length, word_same, word_other_row, word_other_field, word_off_field}
use Rattle.rules.proofs.Laws.Queue.{SameLine}
use Rattle.rules.proofs.Laws.Kinds.{kind_known}
use Rattle.rules.proofs.Laws.Fields.{with_fields_length, with_fields_other_row, with_fields_off_field, with_fields_same}
use Rattle.rules.proofs.Laws.Sets.{IsNoSet, account_within, charge_within, with_both_sets_length, with_both_sets_other_row, with_both_sets_other_field, with_both_sets_read, with_both_sets_time, with_both_sets_write}
use Rattle.rules.proofs.Copies.Turns.{IsNoSum, added_word}
use Rattle.rules.proofs.Copies.Between.{TableAt, table_between}
use Rattle.rules.proofs.Copies.Whole.{copied_sum, copied_writes, copied_parent, copied_counter, copied_time}

-- ---- the end, in any table

module _ (w : List ℕ) (n : ℕ) where
  -- the table with the state, then the end time put in; the counter comes last
  abbrev stated : List ℕ
  stated = with_state w n committed

  abbrev timed : List ℕ
  timed = with_end_time stated n (commit_time w n)

  abbrev kind : ℕ
  kind = kind_of w n

  length_of_end : length (end_table w n) ≡ length w
  length_of_end = with_word_length timed 0 (counter_field kind) _ ∙ with_word_length stated n end_field _ ∙ with_word_length w n state_field _

  -- fields that are neither a state nor an end time, and the rows of others; the counters' fields have these two's numbers
  end_keeps_field : (m g : ℕ) → g < width → g ≢ state_field → g ≢ end_field → word (end_table w n) m g ≡ word w m g
  end_keeps_field m g h ns nt =
      word_off_field timed 0 m (counter_field kind) g _ (omega (arith, kind_known (parent_of w n))) h
      (λ z. omega (arith, kind_known (parent_of w n)))
      ∙ word_off_field stated n m end_field g _ (omega arith) h nt
      ∙ word_off_field w n m state_field g _ (omega arith) h ns

  end_keeps_row : (m g : ℕ) → g < width → 1 ≤ m → m ≢ n → word (end_table w n) m g ≡ word w m g
  end_keeps_row m g h pos ne =
      word_other_row timed 0 m (counter_field kind) g _ (omega (arith, kind_known (parent_of w n))) h (λ z. omega arith)
      ∙ word_other_row stated n m end_field g _ (omega arith) h ne
      ∙ word_other_row w n m state_field g _ (omega arith) h ne

  module _ (long : length w ≡ table_length) (one : 1 ≤ n) (few : n ≤ most_actions) where
    stated_long : length stated ≡ table_length
    stated_long = with_word_length w n state_field _ ∙ long

    end_counter : counter (end_table w n) kind ≡ commit_counter w n
    end_counter =
        word_same timed 0 (counter_field kind) _ (with_word_length stated n end_field _ ∙ stated_long) (omega arith)
        (omega (arith, kind_known (parent_of w n)))

    -- the other kind's
    end_other_counter : (h : ℕ) → IsKind h → h ≢ kind → counter (end_table w n) h ≡ counter w h
    end_other_counter h known apart =
        word_other_field timed 0 (counter_field kind) (counter_field h) _ (λ z. apart (omega arith))
        ∙ word_other_row stated n 0 end_field (counter_field h) _ (omega arith) (omega arith) (λ z. omega arith)
        ∙ word_other_row w n 0 state_field (counter_field h) _ (omega arith) (omega arith) (λ z. omega arith)

    end_state : state_of (end_table w n) n ≡ committed
    end_state =
        word_other_row timed 0 n (counter_field kind) state_field _ (omega (arith, kind_known (parent_of w n))) (omega arith)
        (λ z. omega arith)
        ∙ word_other_field stated n end_field state_field _ (λ z. omega arith)
        ∙ word_same w n state_field committed long few (omega arith)

    time_of_end : end_time (end_table w n) n ≡ commit_time w n
    time_of_end =
        word_other_row timed 0 n (counter_field kind) end_field _ (omega (arith, kind_known (parent_of w n))) (omega arith)
        (λ z. omega arith)
        ∙ word_same stated n end_field _ stated_long few (omega arith)

-- ---- the kept sums, in any table

module _ (w : List ℕ) (n p : ℕ) where
  keep_length : length (keep_table w n p) ≡ length w
  unfolding keep_table charge_accounts
  keep_length = with_fields_length w p kept_field first_charge charge_count _

  -- the rows of others
  keep_other_row : (m g : ℕ) → g < width → m ≢ p → word (keep_table w n p) m g ≡ word w m g
  unfolding keep_table charge_accounts
  keep_other_row m g h ne = with_fields_other_row w p kept_field first_charge charge_count _ m g (λ k r. omega arith) h ne

  -- what stands before them
  keep_before : (m g : ℕ) → g < kept_field first_charge → word (keep_table w n p) m g ≡ word w m g
  unfolding keep_table charge_accounts
  keep_before m g near =
      with_fields_off_field w p kept_field first_charge charge_count _ m g (λ k r. omega arith) (omega arith) (λ k r z. omega arith)

  -- .. and behind them
  keep_behind : (m g : ℕ) → newest_fields ≤ g → g < width → word (keep_table w n p) m g ≡ word w m g
  unfolding keep_table charge_accounts
  keep_behind m g far inside =
      with_fields_off_field w p kept_field first_charge charge_count _ m g (λ k r. omega arith) inside (λ k r z. omega arith)

  keep_same :
      length w ≡ table_length → p ≤ most_actions →
      (k : ℕ) → IsCharge k → kept_word (keep_table w n p) p k ≡ amount_word (kept_after w n p k)
  unfolding keep_table charge_accounts
  keep_same long low k charge =
      with_fields_same w p kept_field first_charge charge_count _ long low k
      (charge_within charge) (omega arith) (λ x h ne z. ne (omega arith))

-- ---- the newest end times, in any table

module _ (w : List ℕ) (n p : ℕ) where
  note_length : length (note_table w n p) ≡ length w
  unfolding note_table accounts
  note_length = with_fields_length w p newest_field 0 account_count _

  -- the rows of others
  note_other_row : (m g : ℕ) → g < width → m ≢ p → word (note_table w n p) m g ≡ word w m g
  unfolding note_table accounts
  note_other_row m g h ne = with_fields_other_row w p newest_field 0 account_count _ m g (λ k r. omega arith) h ne

  -- what stands before them
  note_before : (m g : ℕ) → g < newest_fields → word (note_table w n p) m g ≡ word w m g
  unfolding note_table accounts
  note_before m g near =
      with_fields_off_field w p newest_field 0 account_count _ m g (λ k r. omega arith) (omega arith) (λ k r z. omega arith)

  note_same :
      length w ≡ table_length → p ≤ most_actions →
      (k : ℕ) → k < account_count → newest (note_table w n p) p k ≡ newest_after w n p k
  unfolding note_table accounts
  note_same long low k account =
      with_fields_same w p newest_field 0 account_count _ long low k
      (account_within account) (omega arith) (λ x h ne z. ne (omega arith))

-- ---- the joined words

module _ (w : List ℕ) (n p k : ℕ) where
  -- an entry is one more than its time, so the times join as the entries do
  joined_times : (a b : ℕ) → joined_word w n p k a b - 1 ≡ joined_word w n p k (a - 1) (b - 1)
  joined_times a b = go (passes_read w n p k) (has_read w p k)
    where
      go :
          (passes both : Bool) →
          cond passes (cond both (min a b) a) b - 1 ≡ cond passes (cond both (min (a - 1) (b - 1)) (a - 1)) (b - 1)
      go true true = omega arith
      go true false = refl
      go false both = refl

  joined_by_kind :
      (top : Bool) →
      cond top (joined_read w n p k - 1) (joined_time w n p k)
      ≡ joined_word w n p k (cond top (read_entry w n k - 1) (sub_time w n k)) (cond top (read_entry w p k - 1) (sub_time w p k))
  joined_by_kind true = joined_times (read_entry w n k) (read_entry w p k)
  joined_by_kind false = refl

-- ---- the whole commit

module _ (s : Ledger) (n p : ℕ) (one : 1 ≤ n) where
  -- the table when the copies are made, when n has ended, when its totals are kept, and when its end is noted
  abbrev copied : List ℕ
  copied = (copied_down s n p 0).table

  abbrev ended : List ℕ
  ended = end_table copied n

  abbrev kept : List ℕ
  kept = keep_table ended n p

  abbrev noted : List ℕ
  noted = note_table kept n p

  -- the copies change p's sums and nothing else
  by_copies : TableAt s n p 0 (copied_down s n p 0)
  by_copies = table_between s n p 0 (omega arith)

  ended_field :
      (m g : ℕ) → g < width → g ≢ state_field → g ≢ end_field → (m ≢ p) ⊎ IsNoSum g → word ended m g ≡ word s.table m g
  ended_field m g h ns nt (inl ne) = end_keeps_field copied n m g h ns nt ∙ by_copies.same_row m g h ne
  ended_field m g h ns nt (inr off) = end_keeps_field copied n m g h ns nt ∙ by_copies.same_field m g h off

  -- the sets that a parent gets change its reads and write entries alone
  from_noted : (m g : ℕ) → g < width → (m ≢ p) ⊎ IsNoSet g → word (committed_under s n p).table m g ≡ word noted m g
  unfolding committed_under join_table
  from_noted m g h where' = go (ℕ_discrete p 0)
    where
      apart : (m ≢ p) ⊎ IsNoSet g → Dec (m ≡ p) → word (join_table noted n p) m g ≡ word noted m g
      apart (inl ne) d = with_both_sets_other_row noted p _ _ _ m g h ne
      apart (inr off) (yes e) = rw e (with_both_sets_other_field noted p _ _ _ g off)
      apart (inr off) (no ne) = with_both_sets_other_row noted p _ _ _ m g h ne

      go : Dec (p ≡ 0) → word (committed_under s n p).table m g ≡ word noted m g
      go (yes e) = rw (eq-eqb p 0 e) refl
      go (no ne) = rw (ne_eqb p 0 ne) (apart where' (ℕ_discrete m p))

  -- a field of neither set that is no kept sum's and no newest end time's
  abbrev IsUnjoined : ℕ → Type 0
  IsUnjoined g = (g < sub_time_fields) × ((g < read_fields) ⊎ (write_field account_count ≤ g))

  -- so these and what is kept there change p's row alone
  joined_elsewhere : (m g : ℕ) → g < width → (m ≢ p) ⊎ IsUnjoined g → word (committed_under s n p).table m g ≡ word ended m g
  joined_elsewhere m g h (inl ne) =
      from_noted m g h (inl ne) ∙ note_other_row kept n p m g h ne ∙ keep_other_row ended n p m g h ne
  joined_elsewhere m g h (inr (front, apart)) =
      from_noted m g h (inr (apart, inl front))
      ∙ note_before kept n p m g (omega arith)
      ∙ keep_before ended n p m g (omega arith)

  pub commit_length : length (committed_under s n p).table ≡ length s.table
  unfolding committed_under join_table
  commit_length = go (ℕ_discrete p 0)
    where
      noted_length : length noted ≡ length s.table
      noted_length = note_length kept n p ∙ keep_length ended n p ∙ length_of_end copied n ∙ by_copies.same_length

      go : Dec (p ≡ 0) → length (committed_under s n p).table ≡ length s.table
      go (yes e) = rw (eq-eqb p 0 e) noted_length
      go (no ne) = rw (ne_eqb p 0 ne) (with_both_sets_length noted p _ _ _ ∙ noted_length)

  pub commit_highest : highest (committed_under s n p).table ≡ highest s.table
  commit_highest =
      joined_elsewhere 0 highest_field (omega arith) (inr (omega arith, inl (omega arith)))
      ∙ ended_field 0 highest_field (omega arith) (λ z. omega arith) (λ z. omega arith) (inr (inl (omega arith)))

  pub commit_parent : (m : ℕ) → parent_of (committed_under s n p).table m ≡ parent_of s.table m
  commit_parent m =
      joined_elsewhere m parent_field (omega arith) (inr (omega arith, inl (omega arith)))
      ∙ ended_field m parent_field (omega arith) (λ z. omega arith) (λ z. omega arith) (inr (inl (omega arith)))

  -- an action that is neither the one that commits nor its parent keeps its row; the parent keeps its parent, state and end time
  pub commit_keeps_row :
      (m g : ℕ) → g < width → 1 ≤ m → m ≢ n → (m ≢ p) ⊎ (g < read_fields) →
      word (committed_under s n p).table m g ≡ word s.table m g
  commit_keeps_row m g h pos ne (inl apart) =
      joined_elsewhere m g h (inl apart) ∙ end_keeps_row copied n m g h pos ne ∙ by_copies.same_row m g h apart
  commit_keeps_row m g h pos ne (inr low) =
      joined_elsewhere m g h (inr (omega arith, inl low))
      ∙ end_keeps_row copied n m g h pos ne
      ∙ by_copies.same_field m g h (inl (omega arith))

  -- all but the parent keep their sets and sums, also the one that commits
  pub commit_keeps_others :
      (m : ℕ) → m ≢ p → (g : ℕ) → read_fields ≤ g → g < width → word (committed_under s n p).table m g ≡ word s.table m g
  commit_keeps_others m ne g high h =
      joined_elsewhere m g h (inl ne) ∙ ended_field m g h (λ z. omega arith) (λ z. omega arith) (inl ne)

  pub commit_keeps_sets : n ≢ p → (g : ℕ) → read_fields ≤ g → g < width → word (committed_under s n p).table n g ≡ word s.table n g
  commit_keeps_sets = commit_keeps_others n

  -- nothing that stands between the sums and the subaction times changes, not even in the parent's row
  commit_behind :
      (m g : ℕ) → own_adds_field first_charge ≤ g → g < sub_time_fields → word (committed_under s n p).table m g ≡ word s.table m g
  commit_behind m g far near =
      joined_elsewhere m g (omega arith) (inr (near, inr (omega arith)))
      ∙ ended_field m g (omega arith) (λ z. omega arith) (λ z. omega arith) (inr (inr (omega arith)))

  -- so nobody's own adds do
  pub commit_own_adds : (m k : ℕ) → IsCharge k → own_adds_word (committed_under s n p).table m k ≡ own_adds_word s.table m k
  commit_own_adds m k charge = commit_behind m (own_adds_field k) (omega arith) (omega arith)

  -- .. and the rule and both queues stay
  head_kept :
      (g : ℕ) → read_fields ≤ g → g < kept_field first_charge → IsNoSum g →
      word (committed_under s n p).table 0 g ≡ word s.table 0 g
  unfolding committed_under
  head_kept g high h off = go (ℕ_discrete p 0)
    where
      go : Dec (p ≡ 0) → word (committed_under s n p).table 0 g ≡ word s.table 0 g
      go (yes top) =
          rw (eq-eqb p 0 top)
          (note_before kept n p 0 g (omega arith) ∙ keep_before ended n p 0 g h ∙ ended_field 0 g (omega arith) (λ z. omega arith) (λ z. omega arith) (inr off))
      go (no sub) = commit_keeps_others 0 (λ z. sub (sym z)) g high (omega arith)

  pub commit_rule : rule_of (committed_under s n p).table ≡ rule_of s.table
  commit_rule = ap (λ x. x + 1) (head_kept rule_field (omega arith) (omega arith) (inl (omega arith)))

  pub commit_line : (h : ℕ) → IsKind h → SameLine s.table (committed_under s n p).table h
  commit_line h known =
      record {
        same_length = head_kept (queue_length_field h) (omega arith) (omega arith) (inl (omega arith));
        same_entries = λ i g _ first last. commit_behind i g (omega arith) (omega arith);
      }

  -- what is to be kept is made of words that neither the copies nor the end change
  pub kept_after_end :
      (k : ℕ) → IsCharge k → kept_after (end_table (copied_down s n p 0).table n) n p k ≡ kept_after s.table n p k
  kept_after_end k charge =
      rw (
        unmoved p (kept_field k) (omega arith) (omega arith),
        unmoved n (kept_field k) (omega arith) (omega arith),
        unmoved n (own_adds_field k) (omega arith) (omega arith),
      )
      refl
    where
      unmoved : (m g : ℕ) → own_adds_field first_charge ≤ g → g < width → word ended m g ≡ word s.table m g
      unmoved m g far h = ended_field m g h (λ z. omega arith) (λ z. omega arith) (inr (inr (omega arith)))

  -- n has the parent that it had when its end is noted
  pub parent_kept : parent_of (keep_table (end_table (copied_down s n p 0).table n) n p) n ≡ parent_of s.table n
  parent_kept =
      keep_before ended n p n parent_field (omega arith)
      ∙ ended_field n parent_field (omega arith) (λ z. omega arith) (λ z. omega arith) (inr (inl (omega arith)))

  -- the end doesn't touch p's sums, nor do the kept sums and the sets that it gets
  pub commit_sum_copied :
      (k : ℕ) → IsCharge k → pending_word (committed_under s n p).table p k ≡ pending_word copied p k
  commit_sum_copied k charge =
      joined_elsewhere p (pending_field k) (omega arith) (inr (omega arith, inr (omega arith)))
      ∙ end_keeps_field copied n p (pending_field k) (omega arith) (λ z. omega arith) (λ z. omega arith)

  module _ (long : length s.table ≡ table_length) (few : n ≤ most_actions) where
    copied_long : length copied ≡ table_length
    copied_long = by_copies.same_length ∙ long

    ended_long : length ended ≡ table_length
    ended_long = length_of_end copied n ∙ copied_long

    -- row p, an action's or the head, keeps n's total beside what it kept
    pub commit_kept :
        p ≤ most_actions → (k : ℕ) → IsCharge k →
        kept_word (committed_under s n p).table p k ≡ amount_word (kept_after s.table n p k)
    commit_kept low k charge =
        from_noted p (kept_field k) (omega arith) (inr (inr (omega arith), inr (omega arith)))
        ∙ note_before kept n p p (kept_field k) (omega arith)
        ∙ keep_same ended n p ended_long low k charge
        ∙ ap amount_word (kept_after_end k charge)

    kept_long : length kept ≡ table_length
    kept_long = keep_length ended n p ∙ ended_long

    -- .. and n's end time is the newest there for each account that n has written, while the others stay
    module _ (low : p ≤ most_actions) (apart : n ≢ p) (k : ℕ) (account : k < account_count) where
      newest_noted : newest (committed_under s n p).table p k ≡ newest_after kept n p k
      newest_noted =
          from_noted p (newest_field k) (omega arith) (inr (inr (omega arith), inr (omega arith)))
          ∙ note_same kept n p kept_long low k account

      wrote_as_before : has_written kept n k ≡ has_written s.table n k
      wrote_as_before =
          ap (λ entry. not (eqb entry 0))
          (keep_other_row ended n p n (write_field k) (omega arith) apart
          ∙ ended_field n (write_field k) (omega arith) (λ z. omega arith) (λ z. omega arith) (inl apart))

      pub commit_noted :
          has_written s.table n k ≡ true → newest (committed_under s n p).table p k ≡ commit_time s.table n
      commit_noted wrote =
          newest_noted
          ∙ ap (λ b. cond b (end_time kept n) (newest kept p k)) (wrote_as_before ∙ wrote)
          ∙ keep_other_row ended n p n end_field (omega arith) apart
          ∙ time_of_end copied n copied_long one few
          ∙ copied_time s n p

      pub commit_unnoted :
          has_written s.table n k ≡ false → newest (committed_under s n p).table p k ≡ newest s.table p k
      commit_unnoted none =
          newest_noted
          ∙ ap (λ b. cond b (end_time kept n) (newest kept p k)) (wrote_as_before ∙ none)
          ∙ keep_behind ended n p p (newest_field k) (omega arith) (omega arith)
          ∙ ended_field p (newest_field k) (omega arith) (λ z. omega arith) (λ z. omega arith) (inr (inr (omega arith)))

    -- the counter of n's kind, and the other
    pub counter_of_commit : counter (committed_under s n p).table (kind_of s.table n) ≡ commit_counter s.table n
    unfolding commit_counter
    counter_of_commit =
        let own : kind_of copied n ≡ kind_of s.table n = ap kind_under (copied_parent s n p) in
        let risen : counter ended (kind_of s.table n) ≡ commit_counter copied n =
        ap (counter ended) (sym own) ∙ end_counter copied n copied_long one few in
        joined_elsewhere 0 (counter_field (kind_of s.table n)) (omega (arith, kind_known (parent_of s.table n)))
        (inr (omega (arith, kind_known (parent_of s.table n)), inl (omega (arith, kind_known (parent_of s.table n)))))
        ∙ risen
        ∙ rw (copied_writes s n p, own, copied_counter s n p (kind_of s.table n) (kind_known (parent_of s.table n))) refl

    pub commit_other_counter :
        (h : ℕ) → IsKind h → h ≢ kind_of s.table n → counter (committed_under s n p).table h ≡ counter s.table h
    commit_other_counter h known apart =
        joined_elsewhere 0 (counter_field h) (omega arith) (inr (omega arith, inl (omega arith)))
        ∙ end_other_counter copied n copied_long one few h known (λ z. apart (z ∙ ap kind_under (copied_parent s n p)))
        ∙ copied_counter s n p h known

    pub commit_state : state_of (committed_under s n p).table n ≡ committed
    commit_state =
        joined_elsewhere n state_field (omega arith) (inr (omega arith, inl (omega arith))) ∙ end_state copied n copied_long one few

    pub commit_end : end_time (committed_under s n p).table n ≡ commit_time s.table n
    commit_end =
        joined_elsewhere n end_field (omega arith) (inr (omega arith, inl (omega arith)))
        ∙ time_of_end copied n copied_long one few
        ∙ copied_time s n p

    -- a parent that is an action gets both unions and the sums
    module _ (action : 1 ≤ p) (low : p ≤ most_actions) where
      joined : (committed_under s n p).table ≡ join_table noted n p
      unfolding committed_under
      joined = rw (ne_eqb p 0 (λ z. omega arith))

      noted_long : length noted ≡ table_length
      noted_long = note_length kept n p ∙ kept_long

      -- the words of both for the account are as they were, and so is whatever is made of them
      entry_kept :
          (m g : ℕ) → read_fields ≤ g → g < kept_field first_charge → IsNoSum g → word noted m g ≡ word s.table m g
      entry_kept m g high h off =
          note_before kept n p m g (omega arith) ∙ keep_before ended n p m g h ∙ ended_field m g (omega arith) (λ z. omega arith) (λ z. omega arith) (inr off)

      set_kept : (m g : ℕ) → read_fields ≤ g → g < write_field account_count → word noted m g ≡ word s.table m g
      set_kept m g high h = entry_kept m g high (omega arith) (inl (omega arith))

      time_kept : (m k : ℕ) → k < account_count → sub_time noted m k ≡ sub_time s.table m k
      time_kept m k hk = entry_kept m (sub_time_field k) (omega arith) (omega arith) (inr (omega arith))

      joined_reads_kept :
          (k : ℕ) → k < account_count →
          (write_entry noted n k ≡ write_entry s.table n k) × (write_entry noted p k ≡ write_entry s.table p k)
          × (joined_read noted n p k ≡ joined_read s.table n p k) × (joined_time noted n p k ≡ joined_time s.table n p k)
      joined_reads_kept k hk =
          rw (
            set_kept n (read_field k) (omega arith) (omega arith),
            set_kept p (read_field k) (omega arith) (omega arith),
            set_kept n (write_field k) (omega arith) (omega arith),
            set_kept p (write_field k) (omega arith) (omega arith),
            time_kept n k hk,
            time_kept p k hk,
          )
          (refl, refl, refl, refl)

      pub commit_read :
          (k : ℕ) → k < account_count → read_entry (committed_under s n p).table p k ≡ joined_read s.table n p k
      unfolding join_table
      commit_read k hk =
          ap (λ t. read_entry t p k) joined
          ∙ with_both_sets_read noted p _ _ _ noted_long low k hk
          ∙ (joined_reads_kept k hk).2

      time_of_commit : (k : ℕ) → k < account_count → sub_time (committed_under s n p).table p k ≡ joined_time s.table n p k
      unfolding join_table
      time_of_commit k hk =
          ap (λ t. sub_time t p k) joined
          ∙ with_both_sets_time noted p _ _ _ noted_long low k hk
          ∙ (joined_reads_kept k hk).3

      -- RULES 4.5: of either kind the parent's time is joined from the two times of that kind
      pub commit_read_time :
          (h k : ℕ) → k < account_count →
          read_time (committed_under s n p).table h p k
          ≡ joined_word s.table n p k (read_time s.table h n k) (read_time s.table h p k)
      commit_read_time h k hk =
          rw (commit_read k hk, time_of_commit k hk) (joined_by_kind s.table n p k (eqb h top_kind))

      pub commit_write :
          (k : ℕ) → k < account_count →
          write_entry (committed_under s n p).table p k ≡ cond (has_written s.table n k) entered (write_entry s.table p k)
      unfolding join_table
      commit_write k hk =
          ap (λ t. write_entry t p k) joined
          ∙ with_both_sets_write noted p _ _ _ noted_long low k hk
          ∙ rw (set_kept n (write_field k) (omega arith) (omega arith), set_kept p (write_field k) (omega arith) (omega arith)) refl

      pub commit_pending :
          n ≢ p → (k : ℕ) → IsCharge k →
          pending_word (committed_under s n p).table p k
          ≡ cond (has_written s.table n k) (added_word s.table n p k) (pending_word s.table p k)
      commit_pending apart k charge =
          commit_sum_copied k charge
          ∙ copied_sum s n p apart k charge.1 long low (λ z. omega arith) (le-leb first_charge k charge.0)

-- a commit that wrote nothing has end time 0 and leaves the counters
pub unwritten_uncounted :
    (w : List ℕ) (n : ℕ) → has_writes w n ≡ false → (commit_time w n ≡ 0) × (commit_counter w n ≡ counter w (kind_of w n))
unfolding commit_time commit_counter
unwritten_uncounted w n nothing = rw nothing (refl, refl)
