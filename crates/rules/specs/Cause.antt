-- RULES 8: why an event is refused. Assumes nothing.
use Rattle.std.specs.Prelude.{ℕ, ◌+◌, Bool, false, not, cond, ◌&&◌, ◌||◌, List, [], ◌∷◌, ◌++◌, leb, ltb, eqb, length, ℤ, ◌+ℤ◌, Option, Some, None}
use Rattle.rules.specs.Card.{account_count, is_charge, charge_accounts, card_length, base_length, shadow_length}
use Rattle.rules.specs.Amount.{is_amount, is_addable, amount_in}
use Rattle.rules.specs.Range.{any}
use Rattle.rules.specs.Table.{highest, is_forward, parent_of, kind_of, has_written, pending_sum, own_adds, kept_after, counter, last_time, is_live, has_live_child}
use Rattle.rules.specs.Held.{held_sum}
use Rattle.rules.specs.Sound.{sound}
use Rattle.rules.specs.Free.{next_number}
use Rattle.rules.specs.Queue.{queue_length, is_queued, is_queued_ready, is_waiting}
use Rattle.rules.specs.Event.{Event, start_code, judge_code, is_start, is_read, is_write, is_commit, is_abort, is_add, is_enter, is_judge}
use Rattle.rules.specs.Nearest.{read_sum}
use Rattle.rules.specs.declared.Found.{Found}
use Rattle.rules.specs.Verdict.{commit_verdict}

-- a cause: its number, and whether it applies
pub record Cause : Type 0 where
  pub number : ℕ
  pub applies : Bool

-- the number of the first cause that applies, 0 where none does
abbrev pub first_cause : List Cause → ℕ
first_cause [] = 0
first_cause (c ∷ cs) = cond c.applies c.number (first_cause cs)

-- ---- the causes of RULES 8.1: each one's number, and where it applies

abbrev pub store_length_cause : ℕ
store_length_cause = 1

abbrev pub is_store_length_wrong : List ℕ → List ℕ → Bool
is_store_length_wrong base shadow = not (eqb (length base) base_length && eqb (length shadow) shadow_length)

abbrev pub unsound_cause : ℕ
unsound_cause = 2

abbrev pub code_cause : ℕ
code_cause = 3

abbrev pub is_code_unknown : ℕ → Bool
is_code_unknown code = not (leb start_code code && leb code judge_code)

-- RULES 9.2, 11.3 and 14.2: a length or a count that is wrong, and opening accounts that are. They are asked of a day file, of a
-- list of events and of a list of charges, each with a test of its own; no event has them
abbrev pub length_cause : ℕ
length_cause = 10

abbrev pub count_cause : ℕ
count_cause = 11

abbrev pub opening_cause : ℕ
opening_cause = 12

-- RULES 11.1: an opening's alone, for a rule that is none; no event has it
abbrev pub rule_cause : ℕ
rule_cause = 20

abbrev pub misfit_cause : ℕ
misfit_cause = 21

-- RULES 15.4: that of a call for a short day, where it would have too many events; no event has it
abbrev pub long_day_cause : ℕ
long_day_cause = 25

-- the table judges forwards, so that nobody waits; asked of an enter and of a judge
abbrev pub is_rule_misfit : List ℕ → Bool → Bool
is_rule_misfit w used = used && is_forward w

abbrev pub number_cause : ℕ
number_cause = 4

-- the second part is whether the event is a start, whose number may be 0
abbrev pub is_number_unknown : List ℕ → Bool → ℕ → Bool
is_number_unknown w start n = ltb (highest w) n || eqb n 0 && not start

abbrev pub not_live_cause : ℕ
not_live_cause = 5

-- 0 names the store, no action
abbrev pub is_not_live : List ℕ → ℕ → Bool
is_not_live w n = not (eqb n 0) && not (is_live w n)

abbrev pub table_full_cause : ℕ
table_full_cause = 6

-- no number is free; asked of a start alone
abbrev pub is_table_full : List ℕ → Bool → Bool
is_table_full w start =
    let full = eqb (next_number w) 0 in
    cond start full false

-- from here on the Bool is whether the event uses what the cause asks of
abbrev pub account_cause : ℕ
account_cause = 7

abbrev pub is_account_unknown : Bool → ℕ → Bool
is_account_unknown used k = used && leb account_count k

abbrev pub card_length_cause : ℕ
card_length_cause = 8

abbrev pub is_card_length_wrong : Bool → List ℕ → Bool
is_card_length_wrong used card = used && not (eqb (length card) card_length)

abbrev pub kind_cause : ℕ
kind_cause = 13

-- an add to an account that is no charge account, or a write to one that is
abbrev pub is_kind_wrong : Event → Bool
is_kind_wrong e = is_add e && not (is_charge e.account) || is_write e && is_charge e.account

abbrev pub amount_cause : ℕ
amount_cause = 14

abbrev pub is_amount_too_large : Bool → List ℕ → Bool
is_amount_too_large used card = used && not (is_addable (amount_in card))

abbrev pub child_live_cause : ℕ
child_live_cause = 9

abbrev pub is_child_live : List ℕ → Bool → ℕ → Bool
is_child_live w used n = used && has_live_child w n

abbrev pub queued_cause : ℕ
queued_cause = 16

abbrev pub is_queued_already : List ℕ → Bool → ℕ → Bool
is_queued_already w used n = used && is_waiting w n

abbrev pub judge_cause : ℕ
judge_cause = 17

-- the action isn't in the queue of its kind, or it is ready there
abbrev pub is_judge_vain : List ℕ → Bool → ℕ → Bool
is_judge_vain w used n = used && (not (is_queued w (kind_of w n) n) || is_queued_ready w (kind_of w n) n)

abbrev pub queue_cause : ℕ
queue_cause = 18

-- the queue of the action's kind isn't empty
abbrev pub is_overtaking : List ℕ → Bool → ℕ → Bool
is_overtaking w used n = used && not (eqb (queue_length w (kind_of w n)) 0)

abbrev pub time_cause : ℕ
time_cause = 19

-- no end time of the action's kind is left for it: the counter and those who wait in its queue have come to the last
abbrev pub is_time_spent : List ℕ → Bool → ℕ → Bool
is_time_spent w used n = used && leb last_time (counter w (kind_of w n) + queue_length w (kind_of w n))

abbrev pub sum_cause : ℕ
sum_cause = 15

-- ---- the sums of RULES 8.4, and where one is outside 64 signed bits

-- the sum that n's commit makes for charge account k, at its parent or in the base store
unfoldable pub commit_sum : List ℕ → List ℕ → ℕ → ℕ → ℤ
commit_sum w base n k = held_sum w base (parent_of w n) k +ℤ pending_sum w n k

-- that sum is outside; without a write of n's there is none
abbrev pub is_copy_outside : List ℕ → List ℕ → ℕ → ℕ → Bool
is_copy_outside w base n k = has_written w n k && not (is_amount (commit_sum w base n k))

-- what is kept for charge account k at n's parent, or as the store's, is outside after n's commit
abbrev pub is_kept_outside : List ℕ → ℕ → ℕ → Bool
is_kept_outside w n k = not (is_amount (kept_after w n (parent_of w n) k))

-- one of them is, for one of the charge accounts; a commit that something is found against makes none
unfoldable pub is_commit_outside : List ℕ → List ℕ → ℕ → Option Found → Bool
is_commit_outside w base n None = any (λ k. is_copy_outside w base n k || is_kept_outside w n k) charge_accounts
is_commit_outside w base n (Some f) = false

-- the sum that n's read of account k answers is outside; an account that is no charge account has none
unfoldable pub is_read_outside : List ℕ → List ℕ → ℕ → ℕ → Bool
is_read_outside w base n k = is_charge k && not (is_amount (read_sum w base n k))

-- the pending sum that n's add of this card's amount to charge account k leaves is outside, or its own adds are
abbrev pub is_add_outside : List ℕ → ℕ → ℕ → List ℕ → Bool
is_add_outside w n k card =
    not (is_amount (pending_sum w n k +ℤ amount_in card)) || not (is_amount (own_adds w n k +ℤ amount_in card))

-- which sums an event makes: by its code, so that a commit alone is judged
pub data Sums : Type 0 where
  in_read in_add in_commit in_none : Sums

abbrev pub sums_of : Event → Sums
sums_of e = cond (is_read e) in_read (cond (is_add e) in_add (cond (is_commit e) in_commit in_none))

-- one of them is outside
unfoldable pub are_outside : List ℕ → List ℕ → Event → Sums → Bool
are_outside w base e in_read = is_read_outside w base e.number e.account
are_outside w base e in_add = is_add_outside w e.number e.account e.card
are_outside w base e in_commit = is_commit_outside w base e.number (commit_verdict w e.number)
are_outside w base e in_none = false

abbrev pub is_sum_outside : List ℕ → List ℕ → Event → Bool
is_sum_outside w base e = are_outside w base e (sums_of e)

-- ---- the lists

-- those of every call
unfoldable pub store_causes : List ℕ → List ℕ → List ℕ → List Cause
store_causes w base shadow =
    record { number = store_length_cause; applies = is_store_length_wrong base shadow }
    ∷ record { number = unsound_cause; applies = not (sound w) }
    ∷ []

-- those of an event on a sound table over stores that fit, but for the last: table and event alone decide them
unfoldable pub early_causes : List ℕ → Event → List Cause
early_causes w e =
    record { number = code_cause; applies = is_code_unknown e.code }
    ∷ record { number = misfit_cause; applies = is_rule_misfit w (is_enter e || is_judge e) }
    ∷ record { number = number_cause; applies = is_number_unknown w (is_start e) e.number }
    ∷ record { number = not_live_cause; applies = is_not_live w e.number }
    ∷ record { number = table_full_cause; applies = is_table_full w (is_start e) }
    ∷ record { number = account_cause; applies = is_account_unknown (is_read e || is_write e || is_add e) e.account }
    ∷ record { number = card_length_cause; applies = is_card_length_wrong (is_write e || is_add e) e.card }
    ∷ record { number = kind_cause; applies = is_kind_wrong e }
    ∷ record { number = amount_cause; applies = is_amount_too_large (is_add e) e.card }
    ∷ record { number = child_live_cause; applies = is_child_live w (is_read e || is_write e || is_commit e || is_add e || is_enter e) e.number }
    ∷ record { number = queued_cause; applies = is_queued_already w (not (is_judge e || is_abort e)) e.number }
    ∷ record { number = judge_cause; applies = is_judge_vain w (is_judge e) e.number }
    ∷ record { number = queue_cause; applies = is_overtaking w (is_commit e) e.number }
    ∷ record { number = time_cause; applies = is_time_spent w (is_commit e || is_enter e) e.number }
    ∷ []

-- the last
unfoldable pub late_causes : List ℕ → List ℕ → Event → List Cause
late_causes w base e = record { number = sum_cause; applies = is_sum_outside w base e } ∷ []

-- all of them
unfoldable pub causes_of : List ℕ → List ℕ → List ℕ → Event → List Cause
causes_of w base shadow e = store_causes w base shadow ++ early_causes w e ++ late_causes w base e

-- the number of the cause that an event is refused with, 0 where it has none
unfoldable pub cause_of : List ℕ → List ℕ → List ℕ → Event → ℕ
cause_of w base shadow e = first_cause (causes_of w base shadow e)

-- the same where the table is sound and the stores fit, so that it has neither of the first two
unfoldable pub later_cause : List ℕ → List ℕ → Event → ℕ
later_cause w base e = first_cause (early_causes w e ++ late_causes w base e)
