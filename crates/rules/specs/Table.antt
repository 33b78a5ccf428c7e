-- RULES 1.7: the table, one list of words in rows of one width. Row 0 is the head, row n is action n. A row is read by
-- `word` and changed by `with_word` and by nothing else; both stay shut in what stands on them, which uses their laws
-- (proofs/Laws/Words.antt). Assumes nothing.
use Rattle.std.specs.Prelude.{ℕ, ◌+◌, ◌-◌, ◌*◌, ◌≤◌, ◌<◌, ◌⊎◌, Bool, not, cond, ◌&&◌, ◌||◌, List, eqb, ℤ, ◌+ℤ◌, get_or, set, replicate}
use Rattle.rules.specs.Range.{up_from, any, filter, fold}
use Rattle.rules.specs.Card.{accounts, is_charge, charge_accounts}
use Rattle.rules.specs.Amount.{amount_of}
use Rattle.rules.specs.Kind.{top_kind, kind_under}

-- RULES 1.3: how many numbers there are for actions
abbrev pub most_actions : ℕ
most_actions = 64

abbrev pub IsAction : ℕ → Type 0
IsAction n = (1 ≤ n) × (n ≤ most_actions)

-- the words of a row
abbrev pub width : ℕ
width = 161

abbrev pub IsField : ℕ → Type 0
IsField f = f < width

-- the words of a table: the head's row and a row for each action
abbrev pub table_length : ℕ
table_length = 10465

-- word f of row n
unfoldable pub word : List ℕ → ℕ → ℕ → ℕ
word w n f = get_or w (width * n + f) 0

unfoldable pub with_word : List ℕ → ℕ → ℕ → ℕ → List ℕ
with_word w n f v = set w (width * n + f) v

-- several fields of row n given anew: for each k of ks, field k gets values k
unfoldable pub with_fields : List ℕ → ℕ → (ℕ → ℕ) → List ℕ → (ℕ → ℕ) → List ℕ
with_fields w n field ks values = fold (λ k now. with_word now n (field k) (values k)) ks w

-- RULES 1.6: no action, both counters 0, both queues empty, under rule 1
unfoldable pub new_table : List ℕ
new_table = replicate table_length 0

-- ---- the head

-- RULES 1.3: the highest number given so far
abbrev pub highest_field : ℕ
highest_field = 0

abbrev pub highest : List ℕ → ℕ
highest w = word w 0 highest_field

abbrev pub with_highest : List ℕ → ℕ → List ℕ
with_highest w v = with_word w 0 highest_field v

-- RULES 1.6: the counter of kind h
abbrev pub counter_fields : ℕ
counter_fields = 1

abbrev pub counter_field : ℕ → ℕ
counter_field h = counter_fields + h

abbrev pub counter : List ℕ → ℕ → ℕ
counter w h = word w 0 (counter_field h)

abbrev pub with_counter : List ℕ → ℕ → ℕ → List ℕ
with_counter w h v = with_word w 0 (counter_field h) v

-- RULES 7.3: no end time is later
abbrev pub last_time : ℕ
last_time = 4000000000

-- RULES 1.12: the rule by which the table judges commits; its word is the rule less 1, so that a table of zeros is under rule 1
abbrev pub rule_field : ℕ
rule_field = 5

abbrev pub rule_of : List ℕ → ℕ
rule_of w = word w 0 rule_field + 1

abbrev pub with_rule : List ℕ → ℕ → List ℕ
with_rule w r = with_word w 0 rule_field (r - 1)

-- backward and forward validation; the two numbers are document 02's
abbrev pub backward_rule : ℕ
backward_rule = 1

abbrev pub forward_rule : ℕ
forward_rule = 2

abbrev pub is_rule : ℕ → Bool
is_rule r = eqb r backward_rule || eqb r forward_rule

-- the table judges forwards
abbrev pub is_forward : List ℕ → Bool
is_forward w = eqb (rule_of w) forward_rule

-- RULES 1.6 and 11.1: the new table that an opening under r leaves; r may be no rule, and then it is under rule 1
unfoldable pub new_table_under : ℕ → List ℕ
new_table_under r = cond (eqb r forward_rule) (with_rule new_table forward_rule) new_table

-- ---- RULES 1.5: the parts of an action

-- its parent, 0 for the store
abbrev pub parent_field : ℕ
parent_field = 0

abbrev pub parent_of : List ℕ → ℕ → ℕ
parent_of w n = word w n parent_field

abbrev pub with_parent : List ℕ → ℕ → ℕ → List ℕ
with_parent w n v = with_word w n parent_field v

-- its kind
abbrev pub kind_of : List ℕ → ℕ → ℕ
kind_of w n = kind_under (parent_of w n)

-- its state, one of the three below
abbrev pub state_field : ℕ
state_field = 1

abbrev pub state_of : List ℕ → ℕ → ℕ
state_of w n = word w n state_field

abbrev pub with_state : List ℕ → ℕ → ℕ → List ℕ
with_state w n v = with_word w n state_field v

-- its end time, of its kind
abbrev pub end_field : ℕ
end_field = 2

abbrev pub end_time : List ℕ → ℕ → ℕ
end_time w n = word w n end_field

abbrev pub with_end_time : List ℕ → ℕ → ℕ → List ℕ
with_end_time w n v = with_word w n end_field v

-- its read set: the entry of account k, 0 where k is not in the set, t + 1 where it was read at topaction time t
abbrev pub read_fields : ℕ
read_fields = 3

abbrev pub read_field : ℕ → ℕ
read_field k = read_fields + k

abbrev pub read_entry : List ℕ → ℕ → ℕ → ℕ
read_entry w n k = word w n (read_field k)

abbrev pub with_read : List ℕ → ℕ → ℕ → ℕ → List ℕ
with_read w n k v = with_word w n (read_field k) v

abbrev pub has_read : List ℕ → ℕ → ℕ → Bool
has_read w n k = not (eqb (read_entry w n k) 0)

-- the subaction time of that read, behind the queues' entries (Queue.antt); it says nothing where k is not in the set
abbrev pub sub_time_fields : ℕ
sub_time_fields = 89

abbrev pub sub_time_field : ℕ → ℕ
sub_time_field k = sub_time_fields + k

abbrev pub sub_time : List ℕ → ℕ → ℕ → ℕ
sub_time w n k = word w n (sub_time_field k)

abbrev pub with_sub_time : List ℕ → ℕ → ℕ → ℕ → List ℕ
with_sub_time w n k v = with_word w n (sub_time_field k) v

-- the read's time of kind h
abbrev pub read_time : List ℕ → ℕ → ℕ → ℕ → ℕ
read_time w h n k = cond (eqb h top_kind) (read_entry w n k - 1) (sub_time w n k)

-- its write set: the entry of account k, 0 where k is not in the set, and what a write or a commit enters there
abbrev pub write_fields : ℕ
write_fields = 35

abbrev pub write_field : ℕ → ℕ
write_field k = write_fields + k

abbrev pub write_entry : List ℕ → ℕ → ℕ → ℕ
write_entry w n k = word w n (write_field k)

abbrev pub with_write : List ℕ → ℕ → ℕ → ℕ → List ℕ
with_write w n k v = with_word w n (write_field k) v

abbrev pub entered : ℕ
entered = 1

abbrev pub has_written : List ℕ → ℕ → ℕ → Bool
has_written w n k = not (eqb (write_entry w n k) 0)

-- the write set is not empty
unfoldable pub has_writes : List ℕ → ℕ → Bool
has_writes w n = any (has_written w n) accounts

-- it has a card of its own for account k; it never has one for a charge account
abbrev pub has_card : List ℕ → ℕ → ℕ → Bool
has_card w n k = not (is_charge k) && has_written w n k

-- its pending sum for charge account k, and the word that this is; the first charge account's stands behind the write set
abbrev pub pending_fields : ℕ
pending_fields = 43

abbrev pub pending_field : ℕ → ℕ
pending_field k = pending_fields + k

abbrev pub pending_word : List ℕ → ℕ → ℕ → ℕ
pending_word w n k = word w n (pending_field k)

abbrev pub with_pending : List ℕ → ℕ → ℕ → ℕ → List ℕ
with_pending w n k v = with_word w n (pending_field k) v

abbrev pub pending_sum : List ℕ → ℕ → ℕ → ℤ
pending_sum w n k = amount_of (pending_word w n k)

-- its own adds for charge account k, which are the sum of the adds that it did itself, and the word that this is; the first
-- charge account's stands behind the pending sums
abbrev pub own_adds_fields : ℕ
own_adds_fields = 51

abbrev pub own_adds_field : ℕ → ℕ
own_adds_field k = own_adds_fields + k

abbrev pub own_adds_word : List ℕ → ℕ → ℕ → ℕ
own_adds_word w n k = word w n (own_adds_field k)

abbrev pub with_own_adds : List ℕ → ℕ → ℕ → ℕ → List ℕ
with_own_adds w n k v = with_word w n (own_adds_field k) v

abbrev pub own_adds : List ℕ → ℕ → ℕ → ℤ
own_adds w n k = amount_of (own_adds_word w n k)

-- action n has added nothing to any of them
unfoldable pub without_adds : List ℕ → ℕ → List ℕ
without_adds w n = with_fields w n own_adds_field charge_accounts (λ k. 0)

-- its kept sum for charge account k, which is the sum of its committed children's totals, and the word that this is; the
-- first charge account's stands behind the subaction times. Row 0's is the store's: what the topactions that committed have
-- brought since the opening.
abbrev pub kept_fields : ℕ
kept_fields = 97

abbrev pub kept_field : ℕ → ℕ
kept_field k = kept_fields + k

abbrev pub kept_word : List ℕ → ℕ → ℕ → ℕ
kept_word w n k = word w n (kept_field k)

abbrev pub with_kept : List ℕ → ℕ → ℕ → ℕ → List ℕ
with_kept w n k v = with_word w n (kept_field k) v

abbrev pub kept_sum : List ℕ → ℕ → ℕ → ℤ
kept_sum w n k = amount_of (kept_word w n k)

-- no child of action n has brought anything to any of them
unfoldable pub without_kept : List ℕ → ℕ → List ℕ
without_kept w n = with_fields w n kept_field charge_accounts (λ k. 0)

-- its newest end time for account k: the end time of the child of its that committed last with k in the write set, 0 where none
-- has; the children's times, so of their kind. Row 0's is the store's, of the topactions.
abbrev pub newest_fields : ℕ
newest_fields = 129

abbrev pub newest_field : ℕ → ℕ
newest_field k = newest_fields + k

abbrev pub newest : List ℕ → ℕ → ℕ → ℕ
newest w p k = word w p (newest_field k)

abbrev pub with_newest : List ℕ → ℕ → ℕ → ℕ → List ℕ
with_newest w p k v = with_word w p (newest_field k) v

-- no child of action n has written any account
unfoldable pub without_newest : List ℕ → ℕ → List ℕ
without_newest w n = with_fields w n newest_field accounts (λ k. 0)

-- RULES 12.2: its total for charge account k: its own adds, and the totals of its committed children
abbrev pub total_of : List ℕ → ℕ → ℕ → ℤ
total_of w n k = own_adds w n k +ℤ kept_sum w n k

-- p's kept sum for charge account k once its child n has committed
abbrev pub kept_after : List ℕ → ℕ → ℕ → ℕ → ℤ
kept_after w n p k = kept_sum w p k +ℤ total_of w n k

-- the read set of action n given anew: account k's read entry is reads k, the subaction time beside it times k
unfoldable pub with_reads : List ℕ → ℕ → (ℕ → ℕ) → (ℕ → ℕ) → List ℕ
with_reads w n reads times = with_fields (with_fields w n read_field accounts reads) n sub_time_field accounts times

-- .. and its write set: account k's write entry is writes k
unfoldable pub with_both_sets : List ℕ → ℕ → (ℕ → ℕ) → (ℕ → ℕ) → (ℕ → ℕ) → List ℕ
with_both_sets w n reads times writes = with_fields (with_reads w n reads times) n write_field accounts writes

-- .. and its pending sums: the word of charge account k's is sums k
unfoldable pub with_sets : List ℕ → ℕ → (ℕ → ℕ) → (ℕ → ℕ) → (ℕ → ℕ) → (ℕ → ℕ) → List ℕ
with_sets w n reads times writes sums = with_fields (with_both_sets w n reads times writes) n pending_field charge_accounts sums

-- ---- RULES 1.7: which words of a row are an action's

-- those of the queues' entries stand from here on, up to the subaction times
abbrev pub entry_fields : ℕ
entry_fields = 83

abbrev pub IsActionField : ℕ → Type 0
IsActionField g = (g < entry_fields) ⊎ ((sub_time_fields ≤ g) × (g < width))

-- ---- RULES 1.5: the states

abbrev pub live : ℕ
live = 1

abbrev pub committed : ℕ
committed = 2

abbrev pub aborted : ℕ
aborted = 3

abbrev pub is_live : List ℕ → ℕ → Bool
is_live w n = eqb (state_of w n) live

abbrev pub is_committed : List ℕ → ℕ → Bool
is_committed w n = eqb (state_of w n) committed

-- committed with a non-empty write set: those whose end times are used again
abbrev pub has_end : List ℕ → ℕ → Bool
has_end w n = is_committed w n && has_writes w n

-- ---- the actions of a table, and the children of a parent

-- the numbers given so far; every scan is over these
unfoldable pub actions : List ℕ → List ℕ
actions w = up_from 1 (highest w)

-- whatever may have children: the store, which is 0, and these
unfoldable pub parents : List ℕ → List ℕ
parents w = up_from 0 (highest w + 1)

abbrev pub is_child_of : List ℕ → ℕ → ℕ → Bool
is_child_of w p m = eqb (parent_of w m) p

abbrev pub is_live_child_of : List ℕ → ℕ → ℕ → Bool
is_live_child_of w p m = is_child_of w p m && is_live w m

unfoldable pub has_live_child : List ℕ → ℕ → Bool
has_live_child w p = any (is_live_child_of w p) (actions w)

-- RULES 4.1: m is a record of p; document 01's term
unfoldable pub is_record_of : List ℕ → ℕ → ℕ → Bool
is_record_of w p m = is_child_of w p m && has_end w m

unfoldable pub records : List ℕ → ℕ → List ℕ
records w p = filter (is_record_of w p) (actions w)
