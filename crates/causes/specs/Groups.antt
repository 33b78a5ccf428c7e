-- RULES 8.1: the causes that are asked together, by the kind of the event; they are those of `early_causes` that are left
-- (proofs/Grouped.antt). Assumes nothing.
use Rattle.std.specs.Prelude.{ℕ, Bool, true, not, cond, ◌||◌, List, [], ◌∷◌, ◌++◌, eqb}
use Rattle.rules.specs.Card.{is_charge}
use Rattle.rules.specs.Event.{Event, write_code, add_code, enter_code, judge_code, is_commit, is_abort, is_enter, is_judge}
use Rattle.rules.specs.Cause.{Cause, is_rule_misfit, not_live_cause, is_not_live, table_full_cause, is_table_full, account_cause, is_account_unknown, card_length_cause, is_card_length_wrong, kind_cause, amount_cause, is_amount_too_large, child_live_cause, is_child_live, queued_cause, is_queued_already, judge_cause, is_judge_vain, queue_cause, is_overtaking, time_cause, is_time_spent}

-- cause 21 applies to an event with this code
abbrev pub is_misfit : List ℕ → ℕ → Bool
is_misfit w code = is_rule_misfit w (eqb code enter_code || eqb code judge_code)

-- of a start under a number that is known
unfoldable pub start_causes : List ℕ → ℕ → List Cause
start_causes w n =
    record { number = not_live_cause; applies = is_not_live w n }
    ∷ record { number = table_full_cause; applies = is_table_full w true }
    ∷ record { number = queued_cause; applies = is_queued_already w true n }
    ∷ []

-- of a write and of an add, from account and card
unfoldable pub write_causes : ℕ → List ℕ → List Cause
write_causes account card =
    record { number = card_length_cause; applies = is_card_length_wrong true card }
    ∷ record { number = kind_cause; applies = is_charge account }
    ∷ []

unfoldable pub add_causes : ℕ → List ℕ → List Cause
add_causes account card =
    record { number = card_length_cause; applies = is_card_length_wrong true card }
    ∷ record { number = kind_cause; applies = not (is_charge account) }
    ∷ record { number = amount_cause; applies = is_amount_too_large true card }
    ∷ []

-- by the code: no other event has a card
unfoldable pub card_causes : ℕ → ℕ → List ℕ → List Cause
card_causes code account card =
    cond (eqb code write_code) (write_causes account card) (cond (eqb code add_code) (add_causes account card) [])

-- of an action that is busy: a child of it is live, or it is queued
unfoldable pub busy_causes : List ℕ → ℕ → List Cause
busy_causes w n =
    record { number = child_live_cause; applies = is_child_live w true n }
    ∷ record { number = queued_cause; applies = is_queued_already w true n }
    ∷ []

-- of a read, a write and an add
unfoldable pub account_causes : List ℕ → Event → List Cause
account_causes w e =
    record { number = account_cause; applies = is_account_unknown true e.account }
    ∷ card_causes e.code e.account e.card
    ++ busy_causes w e.number

-- of an action for which no end time is left
unfoldable pub time_causes : List ℕ → ℕ → List Cause
time_causes w n = record { number = time_cause; applies = is_time_spent w true n } ∷ []

-- of an enter
unfoldable pub enter_causes : List ℕ → ℕ → List Cause
enter_causes w n = busy_causes w n ++ time_causes w n

-- of a commit
unfoldable pub commit_causes : List ℕ → ℕ → List Cause
commit_causes w n = busy_causes w n ++ (record { number = queue_cause; applies = is_overtaking w true n } ∷ time_causes w n)

-- of a judge
unfoldable pub judge_causes : List ℕ → ℕ → List Cause
judge_causes w n = record { number = judge_cause; applies = is_judge_vain w true n } ∷ []

-- of any event but a start, by an action that is live
unfoldable pub kind_causes : List ℕ → Event → List Cause
kind_causes w e =
    cond (is_abort e) []
    (cond (is_judge e) (judge_causes w e.number)
    (cond (is_commit e) (commit_causes w e.number)
    (cond (is_enter e) (enter_causes w e.number) (account_causes w e))))
