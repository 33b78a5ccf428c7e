-- RULES 4.5 and 4.8: what a commit that passes leaves. The accounts have their turns from the last down; then the action ends;
-- then its totals are kept at its parent, or as the store's, and its end time is noted there; then its parent, where that is an
-- action, gets its sets.
-- Assumes nothing.
use Rattle.std.specs.Prelude.{ℕ, ◌+◌, ◌-◌, min, Bool, cond, not, ◌&&◌, List, eqb, ◌+ℤ◌}
use Rattle.rules.specs.Range.{down_to, fold}
use Rattle.rules.specs.Card.{account_count, accounts, is_charge, charge_accounts, shadow_place, card_at}
use Rattle.rules.specs.Amount.{amount_word}
use Rattle.rules.specs.Table.{committed, with_fields, counter, with_counter, kind_of, with_state, end_time, with_end_time, read_entry, has_read, sub_time, write_entry, entered, has_written, has_writes, has_card, pending_sum, kept_field, kept_after, newest_field, newest, with_both_sets}
use Rattle.rules.specs.Ledger.{Ledger, with_table}
use Rattle.rules.specs.Held.{held_sum, with_held_card, with_held_sum}

-- ---- RULES 4.8: the copies

-- The turn of account k in n's commit under p, document 02's step: where n has written the account, n's card becomes p's or, of
-- a charge account, n's pending sum is added to p's sum.
unfoldable pub copy_one : Ledger → ℕ → ℕ → ℕ → Ledger
copy_one s n p k =
    cond (has_written s.table n k)
    (cond (is_charge k)
    (with_held_sum s p k (held_sum s.table s.base p k +ℤ pending_sum s.table n k))
    (with_held_card s p k (card_at s.shadow (shadow_place n k))))
    s

-- the turns of the accounts from the last down to k; none where k is the number of accounts, all where it is 0
unfoldable pub copied_down : Ledger → ℕ → ℕ → ℕ → Ledger
copied_down s n p k = fold (λ j now. copy_one now n p j) (down_to k (account_count - k)) s

-- ---- RULES 4.5: the end

-- the end time that a commit of n gets, and what it leaves in the counter of n's kind
unfoldable pub commit_time : List ℕ → ℕ → ℕ
commit_time w n = cond (has_writes w n) (counter w (kind_of w n) + 1) 0

unfoldable pub commit_counter : List ℕ → ℕ → ℕ
commit_counter w n = cond (has_writes w n) (counter w (kind_of w n) + 1) (counter w (kind_of w n))

-- state, end time and that counter after n's commit passes; the other counter stays
abbrev pub end_table : List ℕ → ℕ → List ℕ
end_table w n = with_counter (with_end_time (with_state w n committed) n (commit_time w n)) (kind_of w n) (commit_counter w n)

-- ---- RULES 4.5: the kept sums

-- n's totals added to what is kept in row p, which is its parent's or, where p is 0, the store's
unfoldable pub keep_table : List ℕ → ℕ → ℕ → List ℕ
keep_table w n p = with_fields w p kept_field charge_accounts (λ k. amount_word (kept_after w n p k))

-- ---- RULES 4.5: the newest end times

-- p's newest end time for account k once its child n has committed: n's end time where n has written k
abbrev pub newest_after : List ℕ → ℕ → ℕ → ℕ → ℕ
newest_after w n p k = cond (has_written w n k) (end_time w n) (newest w p k)

-- n's end time noted in row p, for each account that n has written; document 02's summary
unfoldable pub note_table : List ℕ → ℕ → ℕ → List ℕ
note_table w n p = with_fields w p newest_field accounts (newest_after w n p)

-- ---- RULES 4.5: the sets of a parent that is an action

-- n's read of account k is passed to its parent p, but where p has a card for k already, before it gets n's
abbrev pub passes_read : List ℕ → ℕ → ℕ → ℕ → Bool
passes_read w n p k = has_read w n k && not (has_card w p k)

-- of a word of n's read of account k and that of p's the smaller; the parent may have no read
abbrev pub joined_word : List ℕ → ℕ → ℕ → ℕ → ℕ → ℕ → ℕ
joined_word w n p k child parent = cond (passes_read w n p k) (cond (has_read w p k) (min child parent) child) parent

-- p's read entry for account k after the commit of its child n, and the subaction time beside it: each the smaller by itself
abbrev pub joined_read : List ℕ → ℕ → ℕ → ℕ → ℕ
joined_read w n p k = joined_word w n p k (read_entry w n k) (read_entry w p k)

abbrev pub joined_time : List ℕ → ℕ → ℕ → ℕ → ℕ
joined_time w n p k = joined_word w n p k (sub_time w n k) (sub_time w p k)

-- p's write entry for account k after it; without a write of n's it stays
abbrev pub joined_write : List ℕ → ℕ → ℕ → ℕ → ℕ
joined_write w n p k = cond (has_written w n k) entered (write_entry w p k)

-- p's sets with those of its child n
unfoldable pub join_table : List ℕ → ℕ → ℕ → List ℕ
join_table w n p = with_both_sets w p (joined_read w n p) (joined_time w n p) (joined_write w n p)

-- ---- RULES 4.5: the whole

-- the ledger after n's commit under p passes; p is 0 for the store
unfoldable pub committed_under : Ledger → ℕ → ℕ → Ledger
committed_under s n p =
    let copied = copied_down s n p 0 in
    let ended = end_table copied.table n in
    let noted = note_table (keep_table ended n p) n p in
    with_table copied (cond (eqb p 0) noted (join_table noted n p))
