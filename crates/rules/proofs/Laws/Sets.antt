-- Both sets of an action given anew, its pending sums with them, and its own adds, kept sums and newest end times cleared: what
-- stands in the table then.
-- Assumes nothing.
use Prim.Native.Nat.{ℕ, ◌≤◌, ◌<◌}
use native.Mathlib.Omega.{arith}
use mathlib.Core.Path.{◌≡◌, ◌∙◌}
use mathlib.Core.Logic.{◌⊎◌, inl, inr, ⊎_elim, ⊎_map, ◌≢◌}
use mathlib.Core.List.{List}
use lib.ListN.{length}
use Rattle.rules.specs.Range.{up_from}
use Rattle.rules.specs.Card.{account_count, accounts, first_charge, charge_count, IsCharge, charge_accounts}
use Rattle.rules.specs.Table.{entry_fields, width, table_length, word, with_fields, read_fields, read_field, read_entry, sub_time_fields, sub_time_field, sub_time, write_fields, write_field, write_entry, pending_field, pending_word, own_adds_field, own_adds_word, without_adds, kept_field, kept_word, without_kept, newest_fields, newest_field, newest, without_newest, with_reads, with_both_sets, with_sets, most_actions}
use Rattle.rules.proofs.Laws.Ranges.{Within}
use Rattle.rules.proofs.Laws.Fields.{with_fields_length, with_fields_other_row, with_fields_other_field, with_fields_same}

-- a number from 0 on, below 32, is an account
pub account_within : {k : ℕ} → k < account_count → Within 0 account_count k
account_within h = omega arith

pub charge_within : {k : ℕ} → IsCharge k → Within first_charge charge_count k
charge_within h = omega arith

-- ---- the read set

module _ (w : List ℕ) (n : ℕ) (reads times : ℕ → ℕ) where
  pub with_reads_length : length (with_reads w n reads times) ≡ length w
  unfolding with_reads accounts
  with_reads_length = with_fields_length _ n sub_time_field 0 account_count _ ∙ with_fields_length w n read_field 0 account_count _

  -- the rows of others
  pub with_reads_other_row : (m g : ℕ) → g < width → m ≢ n → word (with_reads w n reads times) m g ≡ word w m g
  unfolding with_reads accounts
  with_reads_other_row m g hg ne =
      with_fields_other_row _ n sub_time_field 0 account_count _ m g (λ k h. omega arith) hg ne
      ∙ with_fields_other_row w n read_field 0 account_count _ m g (λ k h. omega arith) hg ne

  -- a field of no read
  pub with_reads_other_field :
      (g : ℕ) → (g < read_fields) ⊎ (write_fields ≤ g) → (g < sub_time_fields) ⊎ (kept_field first_charge ≤ g) →
      word (with_reads w n reads times) n g ≡ word w n g
  unfolding with_reads accounts
  with_reads_other_field g entry time =
      with_fields_other_field _ n sub_time_field 0 account_count _ g
      (λ k h z. ⊎_elim (λ before. omega arith) (λ behind. omega arith) time)
      ∙ with_fields_other_field w n read_field 0 account_count _ g
      (λ k h z. ⊎_elim (λ before. omega arith) (λ behind. omega arith) entry)

  module _ (long : length w ≡ table_length) (few : n ≤ most_actions) where
    with_entries : length (with_fields w n read_field (up_from 0 account_count) reads) ≡ table_length
    with_entries = with_fields_length w n read_field 0 account_count reads ∙ long

    pub with_reads_read : (k : ℕ) → k < account_count → read_entry (with_reads w n reads times) n k ≡ reads k
    unfolding with_reads accounts
    with_reads_read k hk =
        with_fields_other_field _ n sub_time_field 0 account_count _ (read_field k) (λ x h z. omega arith)
        ∙ with_fields_same w n read_field 0 account_count _ long few k (account_within hk) (omega arith) (λ x h ne z. ne (omega arith))

    pub with_reads_time : (k : ℕ) → k < account_count → sub_time (with_reads w n reads times) n k ≡ times k
    unfolding with_reads accounts
    with_reads_time k hk =
        with_fields_same _ n sub_time_field 0 account_count _ with_entries few k
        (account_within hk) (omega arith) (λ x h ne z. ne (omega arith))

-- ---- both sets

-- a field of neither
abbrev pub IsNoSet : ℕ → Type 0
IsNoSet g =
    ((g < read_fields) ⊎ (write_field account_count ≤ g)) × ((g < sub_time_fields) ⊎ (kept_field first_charge ≤ g))

module _ (w : List ℕ) (n : ℕ) (reads times writes : ℕ → ℕ) where
  abbrev both : List ℕ
  both = with_both_sets w n reads times writes

  pub with_both_sets_length : length (with_both_sets w n reads times writes) ≡ length w
  unfolding with_both_sets accounts
  with_both_sets_length = with_fields_length _ n write_field 0 account_count _ ∙ with_reads_length w n reads times

  -- the rows of others
  pub with_both_sets_other_row : (m g : ℕ) → g < width → m ≢ n → word (with_both_sets w n reads times writes) m g ≡ word w m g
  unfolding with_both_sets accounts
  with_both_sets_other_row m g hg ne =
      with_fields_other_row _ n write_field 0 account_count _ m g (λ k h. omega arith) hg ne
      ∙ with_reads_other_row w n reads times m g hg ne

  -- parent, state and end time, what stands between the sets and the subaction times, and the kept sums
  pub with_both_sets_other_field : (g : ℕ) → IsNoSet g → word both n g ≡ word w n g
  unfolding with_both_sets accounts
  with_both_sets_other_field g (entry, time) =
      with_fields_other_field _ n write_field 0 account_count _ g
      (λ k h z. ⊎_elim (λ before. omega arith) (λ behind. omega arith) entry)
      ∙ with_reads_other_field w n reads times g (⊎_map (λ before. before) (λ behind. omega arith) entry) time

  module _ (long : length w ≡ table_length) (few : n ≤ most_actions) where
    pub with_both_sets_read : (k : ℕ) → k < account_count → read_entry both n k ≡ reads k
    unfolding with_both_sets accounts
    with_both_sets_read k hk =
        with_fields_other_field _ n write_field 0 account_count _ (read_field k) (λ x h z. omega arith)
        ∙ with_reads_read w n reads times long few k hk

    pub with_both_sets_time : (k : ℕ) → k < account_count → sub_time both n k ≡ times k
    unfolding with_both_sets accounts
    with_both_sets_time k hk =
        with_fields_other_field _ n write_field 0 account_count _ (sub_time_field k) (λ x h z. omega arith)
        ∙ with_reads_time w n reads times long few k hk

    pub with_both_sets_write : (k : ℕ) → k < account_count → write_entry both n k ≡ writes k
    unfolding with_both_sets accounts
    with_both_sets_write k hk =
        with_fields_same _ n write_field 0 account_count _ (with_reads_length w n reads times ∙ long) few k
        (account_within hk) (omega arith) (λ x h ne z. ne (omega arith))

-- ---- both sets and the pending sums

module _ (w : List ℕ) (n : ℕ) (reads times writes sums : ℕ → ℕ) where
  abbrev whole : List ℕ
  whole = with_sets w n reads times writes sums

  pub with_sets_length : length (with_sets w n reads times writes sums) ≡ length w
  unfolding with_sets charge_accounts
  with_sets_length = with_fields_length _ n pending_field first_charge charge_count _ ∙ with_both_sets_length w n reads times writes

  -- the rows of others
  pub with_sets_other_row : (m g : ℕ) → g < width → m ≢ n → word whole m g ≡ word w m g
  unfolding with_sets charge_accounts
  with_sets_other_row m g hg ne =
      with_fields_other_row _ n pending_field first_charge charge_count _ m g (λ k h. omega arith) hg ne
      ∙ with_both_sets_other_row w n reads times writes m g hg ne

  -- parent, state and end time
  pub with_sets_other_field : (g : ℕ) → g < read_fields → word whole n g ≡ word w n g
  unfolding with_sets charge_accounts
  with_sets_other_field g hg =
      with_fields_other_field _ n pending_field first_charge charge_count _ g (λ k h z. omega arith)
      ∙ with_both_sets_other_field w n reads times writes g (inl hg, inl (omega arith))

  -- what stands behind them: own adds and the queues' words before the subaction times, and the kept sums
  pub with_sets_behind :
      (g : ℕ) → own_adds_field first_charge ≤ g → (g < sub_time_fields) ⊎ (kept_field first_charge ≤ g) → word whole n g ≡ word w n g
  unfolding with_sets charge_accounts
  with_sets_behind g far time =
      with_fields_other_field _ n pending_field first_charge charge_count _ g (λ j h z. omega arith)
      ∙ with_both_sets_other_field w n reads times writes g (inr (omega arith), time)

  module _ (long : length w ≡ table_length) (few : n ≤ most_actions) where
    pub with_sets_read : (k : ℕ) → k < account_count → read_entry whole n k ≡ reads k
    unfolding with_sets charge_accounts
    with_sets_read k hk =
        with_fields_other_field _ n pending_field first_charge charge_count _ (read_field k) (λ x h z. omega arith)
        ∙ with_both_sets_read w n reads times writes long few k hk

    pub with_sets_time : (k : ℕ) → k < account_count → sub_time whole n k ≡ times k
    unfolding with_sets charge_accounts
    with_sets_time k hk =
        with_fields_other_field _ n pending_field first_charge charge_count _ (sub_time_field k) (λ x h z. omega arith)
        ∙ with_both_sets_time w n reads times writes long few k hk

    pub with_sets_write : (k : ℕ) → k < account_count → write_entry whole n k ≡ writes k
    unfolding with_sets charge_accounts
    with_sets_write k hk =
        with_fields_other_field _ n pending_field first_charge charge_count _ (write_field k) (λ x h z. omega arith)
        ∙ with_both_sets_write w n reads times writes long few k hk

    pub with_sets_pending : (k : ℕ) → IsCharge k → pending_word whole n k ≡ sums k
    unfolding with_sets charge_accounts
    with_sets_pending k charge =
        with_fields_same _ n pending_field first_charge charge_count _
        (with_both_sets_length w n reads times writes ∙ long) few k
        (charge_within charge) (omega arith) (λ x h ne z. ne (omega arith))

-- ---- own adds cleared

module _ (w : List ℕ) (n : ℕ) where
  pub without_adds_length : length (without_adds w n) ≡ length w
  unfolding without_adds charge_accounts
  without_adds_length = with_fields_length w n own_adds_field first_charge charge_count _

  -- the rows of others
  pub without_adds_other_row : (m g : ℕ) → g < width → m ≢ n → word (without_adds w n) m g ≡ word w m g
  unfolding without_adds charge_accounts
  without_adds_other_row m g hg ne =
      with_fields_other_row w n own_adds_field first_charge charge_count _ m g (λ k h. omega arith) hg ne

  -- parent, state and end time
  pub without_adds_other_field : (g : ℕ) → g < read_fields → word (without_adds w n) n g ≡ word w n g
  unfolding without_adds charge_accounts
  without_adds_other_field g hg = with_fields_other_field w n own_adds_field first_charge charge_count _ g (λ k h z. omega arith)

  -- what stands behind them: the queues' words, the subaction times and the kept sums
  pub without_adds_behind : (g : ℕ) → entry_fields ≤ g → word (without_adds w n) n g ≡ word w n g
  unfolding without_adds charge_accounts
  without_adds_behind g far = with_fields_other_field w n own_adds_field first_charge charge_count _ g (λ k h z. omega arith)

  pub without_adds_same :
      length w ≡ table_length → n ≤ most_actions → (k : ℕ) → IsCharge k → own_adds_word (without_adds w n) n k ≡ 0
  unfolding without_adds charge_accounts
  without_adds_same long few k charge =
      with_fields_same w n own_adds_field first_charge charge_count _ long few k
      (charge_within charge) (omega arith) (λ x h ne z. ne (omega arith))

-- ---- kept sums cleared

module _ (w : List ℕ) (n : ℕ) where
  pub without_kept_length : length (without_kept w n) ≡ length w
  unfolding without_kept charge_accounts
  without_kept_length = with_fields_length w n kept_field first_charge charge_count _

  -- the rows of others
  pub without_kept_other_row : (m g : ℕ) → g < width → m ≢ n → word (without_kept w n) m g ≡ word w m g
  unfolding without_kept charge_accounts
  without_kept_other_row m g hg ne = with_fields_other_row w n kept_field first_charge charge_count _ m g (λ k h. omega arith) hg ne

  -- what stands before them
  pub without_kept_before : (g : ℕ) → g < kept_field first_charge → word (without_kept w n) n g ≡ word w n g
  unfolding without_kept charge_accounts
  without_kept_before g near = with_fields_other_field w n kept_field first_charge charge_count _ g (λ k h z. omega arith)

  pub without_kept_same :
      length w ≡ table_length → n ≤ most_actions → (k : ℕ) → IsCharge k → kept_word (without_kept w n) n k ≡ 0
  unfolding without_kept charge_accounts
  without_kept_same long few k charge =
      with_fields_same w n kept_field first_charge charge_count _ long few k
      (charge_within charge) (omega arith) (λ x h ne z. ne (omega arith))

-- ---- newest end times cleared

module _ (w : List ℕ) (n : ℕ) where
  pub without_newest_length : length (without_newest w n) ≡ length w
  unfolding without_newest accounts
  without_newest_length = with_fields_length w n newest_field 0 account_count _

  -- the rows of others
  pub without_newest_other_row : (m g : ℕ) → g < width → m ≢ n → word (without_newest w n) m g ≡ word w m g
  unfolding without_newest accounts
  without_newest_other_row m g hg ne = with_fields_other_row w n newest_field 0 account_count _ m g (λ k h. omega arith) hg ne

  -- what stands before them
  pub without_newest_before : (g : ℕ) → g < newest_fields → word (without_newest w n) n g ≡ word w n g
  unfolding without_newest accounts
  without_newest_before g near = with_fields_other_field w n newest_field 0 account_count _ g (λ k h z. omega arith)

  pub without_newest_same :
      length w ≡ table_length → n ≤ most_actions → (k : ℕ) → k < account_count → newest (without_newest w n) n k ≡ 0
  unfolding without_newest accounts
  without_newest_same long few k account =
      with_fields_same w n newest_field 0 account_count _ long few k
      (account_within account) (omega arith) (λ x h ne z. ne (omega arith))
