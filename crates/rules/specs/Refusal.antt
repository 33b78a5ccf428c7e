-- RULES 8.1, 9.2, 11, 14.2 and 15.4: the refusals that calls answer, by the numbers of their causes (Cause.antt).
use Rattle.std.specs.Prelude.{ℕ, cond, eqb, Result, Ok, Err}
use Rattle.rules.specs.declared.refusal.Refusal.{Refusal}
use Rattle.rules.specs.declared.refusal.Refusal.TheVariants.{StoreLength, Unsound, Code, Number, NotLive, TableFull, Account, CardLength, ChildLive, Length, Count, Opening, Kind, Amount, Sum, Queued, Judge, Queue, Time, Rule, Misfit, LongDay}
use Rattle.rules.specs.Cause.{store_length_cause, unsound_cause, code_cause, number_cause, not_live_cause, table_full_cause, account_cause, card_length_cause, child_live_cause, length_cause, count_cause, opening_cause, kind_cause, amount_cause, sum_cause, queued_cause, judge_cause, queue_cause, time_cause, rule_cause, misfit_cause, long_day_cause}

abbrev pub refusal_number : Refusal → ℕ
refusal_number StoreLength = store_length_cause
refusal_number Unsound = unsound_cause
refusal_number Code = code_cause
refusal_number Number = number_cause
refusal_number NotLive = not_live_cause
refusal_number TableFull = table_full_cause
refusal_number Account = account_cause
refusal_number CardLength = card_length_cause
refusal_number ChildLive = child_live_cause
refusal_number Length = length_cause
refusal_number Count = count_cause
refusal_number Opening = opening_cause
refusal_number Kind = kind_cause
refusal_number Amount = amount_cause
refusal_number Sum = sum_cause
refusal_number Queued = queued_cause
refusal_number Judge = judge_cause
refusal_number Queue = queue_cause
refusal_number Time = time_cause
refusal_number Rule = rule_cause
refusal_number Misfit = misfit_cause
refusal_number LongDay = long_day_cause

-- what a call answers, as a number: that of its refusal, 0 where it isn't refused
abbrev pub refusal_of : {A : Type 0} → Result A Refusal → ℕ
refusal_of (Ok x) = 0
refusal_of (Err refusal) = refusal_number refusal

-- the refusal with a number; of a number that is no cause's, the last
abbrev pub refusal_numbered : ℕ → Refusal
refusal_numbered number =
    cond (eqb number store_length_cause) StoreLength
    (cond (eqb number unsound_cause) Unsound
    (cond (eqb number code_cause) Code
    (cond (eqb number number_cause) Number
    (cond (eqb number not_live_cause) NotLive
    (cond (eqb number table_full_cause) TableFull
    (cond (eqb number account_cause) Account
    (cond (eqb number card_length_cause) CardLength
    (cond (eqb number child_live_cause) ChildLive
    (cond (eqb number length_cause) Length
    (cond (eqb number count_cause) Count
    (cond (eqb number opening_cause) Opening
    (cond (eqb number kind_cause) Kind
    (cond (eqb number amount_cause) Amount
    (cond (eqb number sum_cause) Sum
    (cond (eqb number queued_cause) Queued
    (cond (eqb number judge_cause) Judge
    (cond (eqb number queue_cause) Queue
    (cond (eqb number time_cause) Time
    (cond (eqb number rule_cause) Rule
    (cond (eqb number misfit_cause) Misfit
    LongDay))))))))))))))))))))
