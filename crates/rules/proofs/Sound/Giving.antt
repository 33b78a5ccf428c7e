-- A number given to a new action: what stands in the table then. The action's row is filled whole, the children of the number's
-- earlier holder are nobody's, and no other word changes but the highest number. Assumes nothing.
use Prim.Native.Nat.{ℕ, ◌≤◌, ◌<◌, max, ◌+◌}
use native.Mathlib.Omega.{arith}
use native.Mathlib.Decide.{ℕ_discrete}
use mathlib.Core.Path.{◌≡◌, ◌∙◌, ap}
use mathlib.Core.Logic.{inl, inr, ◌≢◌}
use mathlib.Core.Bool.{cond}
use mathlib.Core.List.{List}
use borrow.Author.Tests.{eqb-true}
use lib.ListN.{length}
use Rattle.rules.specs.Card.{account_count, IsCharge}
use Rattle.rules.specs.Kind.{IsKind}
use Rattle.rules.specs.Table.{entry_fields, sub_time_fields, sub_time, width, table_length, most_actions, live, word, highest_field, highest, with_highest, counter_field, counter, parent_field, parent_of, with_parent, state_field, state_of, with_state, end_field, end_time, with_end_time, read_entry, write_entry, pending_word, own_adds_field, own_adds_word, without_adds, kept_field, kept_word, without_kept, newest_field, newest, without_newest, actions, is_child_of, rule_field, rule_of}
use Rattle.rules.specs.Queue.{queue_length_field}
use Rattle.rules.specs.Sound.{IsGiven}
use Rattle.rules.specs.Step.{orphaned, give_table}
use Rattle.rules.proofs.Laws.RowPass.{pass_length, pass_other_field, pass_other_row, pass_field}
use Rattle.rules.proofs.Laws.Words.{with_word_length, word_same, word_other_row, word_other_field}
use Rattle.rules.proofs.Laws.Queue.{SameLine}
use Rattle.rules.proofs.Laws.Sets.{with_sets_length, with_sets_other_row, with_sets_other_field, with_sets_read, with_sets_time, with_sets_write, with_sets_pending, with_sets_behind, without_adds_length, without_adds_other_row, without_adds_other_field, without_adds_behind, without_adds_same, without_kept_length, without_kept_other_row, without_kept_before, without_kept_same, without_newest_length, without_newest_other_row, without_newest_before, without_newest_same}

module _ (w : List ℕ) (n p : ℕ) where
  -- the table when the earlier holder's children are nobody's, then with the highest number, the parent, the state and the end
  -- time put in, without own adds, without kept sums and without newest end times; the sets and the pending sums come last
  abbrev freed : List ℕ
  freed = orphaned w n

  abbrev headed : List ℕ
  headed = with_highest freed (max (highest w) n)

  abbrev parented : List ℕ
  parented = with_parent headed n p

  abbrev stated : List ℕ
  stated = with_state parented n live

  abbrev timed : List ℕ
  timed = with_end_time stated n 0

  abbrev addless : List ℕ
  addless = without_adds timed n

  abbrev keptless : List ℕ
  keptless = without_kept addless n

  abbrev filled : List ℕ
  filled = without_newest keptless n

  freed_length : length freed ≡ length w
  unfolding orphaned actions
  freed_length = pass_length (is_child_of w n) parent_field (omega arith) _ (highest w) w

  filled_length : length filled ≡ length freed
  filled_length =
      without_newest_length keptless n ∙ without_kept_length addless n ∙ without_adds_length timed n ∙ with_word_length stated n end_field 0 ∙ with_word_length parented n state_field live ∙ with_word_length headed n parent_field p ∙ with_word_length freed 0 highest_field _

  pub give_length : length (give_table w n p) ≡ length w
  unfolding give_table
  give_length = with_sets_length filled n _ _ _ _ ∙ filled_length ∙ freed_length

  -- a row that is neither the head nor the new action's, once the earlier holder's children are nobody's
  row_from : (m g : ℕ) → g < width → 1 ≤ m → m ≢ n → word (give_table w n p) m g ≡ word freed m g
  unfolding give_table
  row_from m g h one ne =
      with_sets_other_row filled n _ _ _ _ m g h ne
      ∙ without_newest_other_row keptless n m g h ne
      ∙ without_kept_other_row addless n m g h ne
      ∙ without_adds_other_row timed n m g h ne
      ∙ word_other_row stated n m end_field g 0 (omega arith) h ne
      ∙ word_other_row parented n m state_field g live (omega arith) h ne
      ∙ word_other_row headed n m parent_field g p (omega arith) h ne
      ∙ word_other_row freed 0 m highest_field g _ (omega arith) h (λ z. omega arith)

  -- of every such row all but the parent stays
  pub give_keeps_field : (m g : ℕ) → g < width → g ≢ parent_field → 1 ≤ m → m ≢ n → word (give_table w n p) m g ≡ word w m g
  unfolding orphaned actions
  give_keeps_field m g h ne one other =
      row_from m g h one other ∙ pass_other_field (is_child_of w n) parent_field (omega arith) _ (highest w) w m g h ne

  -- .. and of one that was no child of the earlier holder the parent too
  pub give_keeps_row :
      (m g : ℕ) → g < width → 1 ≤ m → m ≢ n → parent_of w m ≢ n → word (give_table w n p) m g ≡ word w m g
  unfolding orphaned actions
  give_keeps_row m g h one other apart =
      row_from m g h one other
      ∙ pass_other_row (is_child_of w n) parent_field (omega arith) _ (highest w) w m g h
      (λ _ child. apart (eqb-true (parent_of w m) n child))

  -- the head
  head_from : (g : ℕ) → 1 ≤ n → g < width → word (give_table w n p) 0 g ≡ word headed 0 g
  unfolding give_table
  head_from g one h =
      with_sets_other_row filled n _ _ _ _ 0 g h (λ z. omega arith)
      ∙ without_newest_other_row keptless n 0 g h (λ z. omega arith)
      ∙ without_kept_other_row addless n 0 g h (λ z. omega arith)
      ∙ without_adds_other_row timed n 0 g h (λ z. omega arith)
      ∙ word_other_row stated n 0 end_field g 0 (omega arith) h (λ z. omega arith)
      ∙ word_other_row parented n 0 state_field g live (omega arith) h (λ z. omega arith)
      ∙ word_other_row headed n 0 parent_field g p (omega arith) h (λ z. omega arith)

  freed_head : (g : ℕ) → g < width → word freed 0 g ≡ word w 0 g
  unfolding orphaned actions
  freed_head g h = pass_other_row (is_child_of w n) parent_field (omega arith) _ (highest w) w 0 g h (λ row _. omega arith)

  pub give_head : (g : ℕ) → 1 ≤ n → g < width → g ≢ highest_field → word (give_table w n p) 0 g ≡ word w 0 g
  give_head g one h ne = head_from g one h ∙ word_other_field freed 0 highest_field g _ ne ∙ freed_head g h

  pub give_rule : 1 ≤ n → rule_of (give_table w n p) ≡ rule_of w
  give_rule one = ap (λ x. x + 1) (give_head rule_field one (omega arith) (λ z. omega arith))

  pub give_counter : (h : ℕ) → 1 ≤ n → IsKind h → counter (give_table w n p) h ≡ counter w h
  give_counter h one known = give_head (counter_field h) one (omega arith) (λ z. omega arith)

  -- the queues' words stay, also those in the new action's row
  give_behind : (m g : ℕ) → 1 ≤ n → 1 ≤ m → entry_fields ≤ g → g < sub_time_fields → word (give_table w n p) m g ≡ word w m g
  unfolding give_table orphaned actions
  give_behind m g first one far near = go (ℕ_discrete m n)
    where
      go : Dec (m ≡ n) → word (give_table w n p) m g ≡ word w m g
      go (no ne) = give_keeps_field m g (omega arith) (λ z. omega arith) one ne
      go (yes e) =
          rw e
          (with_sets_behind filled n _ _ _ _ g (omega arith) (inl near)
          ∙ without_newest_before keptless n g (omega arith)
          ∙ without_kept_before addless n g (omega arith)
          ∙ without_adds_behind timed n g far
          ∙ word_other_field stated n end_field g 0 (λ z. omega arith)
          ∙ word_other_field parented n state_field g live (λ z. omega arith)
          ∙ word_other_field headed n parent_field g p (λ z. omega arith)
          ∙ word_other_row freed 0 n highest_field g _ (omega arith) (omega arith) (λ z. omega arith)
          ∙ pass_other_field (is_child_of w n) parent_field (omega arith) _ (highest w) w n g (omega arith) (λ z. omega arith))

  pub give_line : (h : ℕ) → 1 ≤ n → IsKind h → SameLine w (give_table w n p) h
  give_line h first known =
      record {
        same_length = give_head (queue_length_field h) first (omega arith) (λ z. omega arith);
        same_entries = λ i g one from to. give_behind i g first one (omega arith) (omega arith);
      }

  module _ (long : length w ≡ table_length) (first : 1 ≤ n) (few : n ≤ most_actions) where
    freed_long : length freed ≡ table_length
    freed_long = freed_length ∙ long

    pub give_highest : highest (give_table w n p) ≡ max (highest w) n
    give_highest = head_from highest_field first (omega arith) ∙ word_same freed 0 highest_field _ freed_long (omega arith) (omega arith)

    headed_long : length headed ≡ table_length
    headed_long = with_word_length freed 0 highest_field _ ∙ freed_long

    parented_long : length parented ≡ table_length
    parented_long = with_word_length headed n parent_field p ∙ headed_long

    stated_long : length stated ≡ table_length
    stated_long = with_word_length parented n state_field live ∙ parented_long

    filled_long : length filled ≡ table_length
    filled_long = filled_length ∙ freed_long

    -- a child of the earlier holder is its own parent, and any other keeps its parent
    pub give_parent_other :
        highest w ≤ most_actions → (m : ℕ) → IsGiven w m → m ≢ n →
        parent_of (give_table w n p) m ≡ cond (is_child_of w n m) m (parent_of w m)
    unfolding orphaned actions
    give_parent_other rows m given ne =
        row_from m parent_field (omega arith) given.0 ne
        ∙ pass_field (is_child_of w n) parent_field (omega arith) _ (highest w) w long rows m given

    -- the new action's row
    pub give_parent : parent_of (give_table w n p) n ≡ p
    unfolding give_table
    give_parent =
        with_sets_other_field filled n _ _ _ _ parent_field (omega arith)
        ∙ without_newest_before keptless n parent_field (omega arith)
        ∙ without_kept_before addless n parent_field (omega arith)
        ∙ without_adds_other_field timed n parent_field (omega arith)
        ∙ word_other_field stated n end_field parent_field 0 (λ z. omega arith)
        ∙ word_other_field parented n state_field parent_field live (λ z. omega arith)
        ∙ word_same headed n parent_field p headed_long few (omega arith)

    pub give_state : state_of (give_table w n p) n ≡ live
    unfolding give_table
    give_state =
        with_sets_other_field filled n _ _ _ _ state_field (omega arith)
        ∙ without_newest_before keptless n state_field (omega arith)
        ∙ without_kept_before addless n state_field (omega arith)
        ∙ without_adds_other_field timed n state_field (omega arith)
        ∙ word_other_field stated n end_field state_field 0 (λ z. omega arith)
        ∙ word_same parented n state_field live parented_long few (omega arith)

    pub give_end : end_time (give_table w n p) n ≡ 0
    unfolding give_table
    give_end =
        with_sets_other_field filled n _ _ _ _ end_field (omega arith)
        ∙ without_newest_before keptless n end_field (omega arith)
        ∙ without_kept_before addless n end_field (omega arith)
        ∙ without_adds_other_field timed n end_field (omega arith)
        ∙ word_same stated n end_field 0 stated_long few (omega arith)

    pub give_read : (k : ℕ) → k < account_count → read_entry (give_table w n p) n k ≡ 0
    unfolding give_table
    give_read = with_sets_read filled n _ _ _ _ filled_long few

    pub give_time : (k : ℕ) → k < account_count → sub_time (give_table w n p) n k ≡ 0
    unfolding give_table
    give_time = with_sets_time filled n _ _ _ _ filled_long few

    pub give_write : (k : ℕ) → k < account_count → write_entry (give_table w n p) n k ≡ 0
    unfolding give_table
    give_write = with_sets_write filled n _ _ _ _ filled_long few

    pub give_pending : (k : ℕ) → IsCharge k → pending_word (give_table w n p) n k ≡ 0
    unfolding give_table
    give_pending = with_sets_pending filled n _ _ _ _ filled_long few

    timed_long : length timed ≡ table_length
    timed_long = with_word_length stated n end_field 0 ∙ stated_long

    pub give_own_adds : (k : ℕ) → IsCharge k → own_adds_word (give_table w n p) n k ≡ 0
    unfolding give_table
    give_own_adds k charge =
        with_sets_behind filled n _ _ _ _ (own_adds_field k) (omega arith) (inl (omega arith))
        ∙ without_newest_before keptless n (own_adds_field k) (omega arith)
        ∙ without_kept_before addless n (own_adds_field k) (omega arith)
        ∙ without_adds_same timed n timed_long few k charge

    pub give_kept : (k : ℕ) → IsCharge k → kept_word (give_table w n p) n k ≡ 0
    unfolding give_table
    give_kept k charge =
        with_sets_behind filled n _ _ _ _ (kept_field k) (omega arith) (inr (omega arith))
        ∙ without_newest_before keptless n (kept_field k) (omega arith)
        ∙ without_kept_same addless n (without_adds_length timed n ∙ timed_long) few k charge

    pub give_newest : (k : ℕ) → k < account_count → newest (give_table w n p) n k ≡ 0
    unfolding give_table
    give_newest k account =
        with_sets_behind filled n _ _ _ _ (newest_field k) (omega arith) (inr (omega arith))
        ∙ without_newest_same keptless n (without_kept_length addless n ∙ without_adds_length timed n ∙ timed_long) few k account
