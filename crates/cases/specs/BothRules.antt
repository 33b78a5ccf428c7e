-- RULES 13: the worked cases under both rules, from 46 on: what the forward rule answers, beside what the backward rule does where
-- that is new. Assumes nothing.
use Rattle.std.specs.Prelude.{List, [], ◌∷◌}
use Rattle.rules.specs.declared.Answer.TheVariants.{Started, Read, ReadSum, Written, Added, Committed, Failed, Aborted, Refused}
use Rattle.rules.specs.Table.{backward_rule, forward_rule}
use Rattle.rules.specs.Event.{Event, event_of, start_under, read_by, write_by, commit_of, abort_of, enter_of, judge_of}
use Rattle.cases.specs.Case.{filled_with, asking_under, giving, adding, Case, case}
use Rattle.rules.specs.declared.refusal.Refusal.TheVariants.{ChildLive, Code, Misfit, Number}

-- two topactions, and one action below the second, which has read what the first writes
abbrev read_below_sibling : List Event
read_below_sibling =
    start_under 0 ∷ start_under 0 ∷ start_under 2 ∷ read_by 3 5 ∷ write_by 1 5 (filled_with 1) ∷ commit_of 1 ∷ commit_of 3 ∷ commit_of 2 ∷ []

-- two topactions with an action below each, one of which has read what the other writes
abbrev read_by_cousin : List Event
read_by_cousin =
    start_under 0 ∷ start_under 0 ∷ start_under 1 ∷ start_under 2 ∷ read_by 4 5 ∷ write_by 3 5 (filled_with 1) ∷ commit_of 3 ∷ commit_of 1 ∷ []

unfoldable pub cases_to51 : List Case
cases_to51 =
    -- 46: the events of 4
    case
    (asking_under forward_rule
    (start_under 0 ∷ start_under 0 ∷ read_by 1 0 ∷ read_by 2 0 ∷ write_by 1 0 (filled_with 1) ∷ commit_of 1 ∷ commit_of 2 ∷ []) [] [])
    (giving (Started 1 ∷ Started 2 ∷ Read 0 1 ∷ Read 0 1 ∷ Written ∷ Failed 2 0 ∷ Committed 0 ∷ []) 2 0 0 [] [])
    -- 47: of 5
    ∷ case
    (asking_under forward_rule
    (start_under 0 ∷ start_under 0 ∷ write_by 1 0 (filled_with 1) ∷ write_by 2 0 (filled_with 2) ∷ commit_of 1 ∷ commit_of 2 ∷ [])
    (0 ∷ []) [])
    (giving (Started 1 ∷ Started 2 ∷ Written ∷ Written ∷ Committed 1 ∷ Committed 2 ∷ []) 2 2 0 (filled_with 2 ∷ []) [])
    -- 48: of 8
    ∷ case
    (asking_under forward_rule
    (start_under 0 ∷ start_under 1 ∷ start_under 1 ∷ read_by 3 4 ∷ write_by 2 4 (filled_with 1) ∷ commit_of 2 ∷ commit_of 3 ∷ []) [] [])
    (giving (Started 1 ∷ Started 2 ∷ Started 3 ∷ Read 0 2 ∷ Written ∷ Failed 3 4 ∷ Committed 0 ∷ []) 3 0 0 [] [])
    -- 49: of 8b
    ∷ case
    (asking_under forward_rule
    (start_under 0 ∷ start_under 1 ∷ start_under 1 ∷ write_by 2 4 (filled_with 1) ∷ commit_of 2 ∷ read_by 3 4 ∷ commit_of 3 ∷ []) [] [])
    (giving (Started 1 ∷ Started 2 ∷ Started 3 ∷ Written ∷ Committed 1 ∷ Read 1 1 ∷ Committed 0 ∷ []) 3 0 1 [] [])
    -- 50: of 9
    ∷ case
    (asking_under forward_rule
    (start_under 0 ∷ start_under 1 ∷ read_by 2 6 ∷ start_under 0 ∷ write_by 3 6 (filled_with 1) ∷ commit_of 3 ∷ start_under 1 ∷ read_by 4 6
    ∷ commit_of 2 ∷ commit_of 4 ∷ commit_of 1 ∷ []) [] [])
    (giving
    (Started 1 ∷ Started 2 ∷ Read 0 2 ∷ Started 3 ∷ Written ∷ Failed 2 6 ∷ Started 3 ∷ Refused Number ∷ Committed 0 ∷ Refused Number
    ∷ Refused ChildLive ∷ []) 3 0 0 [] [])
    -- 51: of 13
    ∷ case
    (asking_under forward_rule
    (start_under 0 ∷ start_under 0 ∷ write_by 1 2 (filled_with 1) ∷ read_by 1 2 ∷ write_by 2 2 (filled_with 2) ∷ commit_of 2 ∷ commit_of 1 ∷ [])
    (2 ∷ []) [])
    (giving
    (Started 1 ∷ Started 2 ∷ Written ∷ Read 1 0 ∷ Written ∷ Committed 1 ∷ Committed 2 ∷ []) 2 2 0 (filled_with 1 ∷ []) [])
    ∷ []

unfoldable pub cases_to62 : List Case
cases_to62 =
    -- 52
    case
    (asking_under backward_rule read_below_sibling [] [])
    (giving
    (Started 1 ∷ Started 2 ∷ Started 3 ∷ Read 0 2 ∷ Written ∷ Committed 1 ∷ Committed 0 ∷ Failed 1 5 ∷ []) 3 1 0 [] [])
    -- 53
    ∷ case
    (asking_under forward_rule read_below_sibling [] [])
    (giving
    (Started 1 ∷ Started 2 ∷ Started 3 ∷ Read 0 2 ∷ Written ∷ Failed 3 5 ∷ Committed 0 ∷ Committed 0 ∷ []) 3 0 0 [] [])
    -- 54
    ∷ case
    (asking_under forward_rule
    (start_under 0 ∷ start_under 0 ∷ start_under 0 ∷ read_by 3 7 ∷ read_by 3 2 ∷ read_by 2 9 ∷ write_by 1 9 (filled_with 1)
    ∷ write_by 1 2 (filled_with 1) ∷ write_by 1 7 (filled_with 1) ∷ commit_of 1 ∷ []) [] [])
    (giving
    (Started 1 ∷ Started 2 ∷ Started 3 ∷ Read 0 1 ∷ Read 0 1 ∷ Read 0 1 ∷ Written ∷ Written ∷ Written ∷ Failed 2 9 ∷ [])
    3 0 0 [] [])
    -- 55
    ∷ case
    (asking_under backward_rule read_by_cousin (5 ∷ []) [])
    (giving
    (Started 1 ∷ Started 2 ∷ Started 3 ∷ Started 4 ∷ Read 0 2 ∷ Written ∷ Committed 1 ∷ Committed 1 ∷ [])
    4 1 1 (filled_with 1 ∷ []) [])
    -- 56
    ∷ case
    (asking_under forward_rule read_by_cousin (5 ∷ []) [])
    (giving
    (Started 1 ∷ Started 2 ∷ Started 3 ∷ Started 4 ∷ Read 0 2 ∷ Written ∷ Committed 1 ∷ Failed 4 5 ∷ [])
    4 0 1 (filled_with 0 ∷ []) [])
    -- 57
    ∷ case
    (asking_under forward_rule
    (start_under 0 ∷ start_under 0 ∷ start_under 0 ∷ abort_of 1 ∷ start_under 0 ∷ read_by 1 3 ∷ read_by 2 3 ∷ write_by 3 3 (filled_with 1)
    ∷ commit_of 3 ∷ []) [] [])
    (giving
    (Started 1 ∷ Started 2 ∷ Started 3 ∷ Aborted 1 0 ∷ Started 1 ∷ Read 0 1 ∷ Read 0 1 ∷ Written ∷ Failed 1 3 ∷ [])
    3 0 0 [] [])
    -- 58
    ∷ case
    (asking_under forward_rule
    (start_under 0 ∷ start_under 0 ∷ read_by 2 5 ∷ abort_of 2 ∷ write_by 1 5 (filled_with 1) ∷ commit_of 1 ∷ []) [] [])
    (giving (Started 1 ∷ Started 2 ∷ Read 0 1 ∷ Aborted 1 0 ∷ Written ∷ Committed 1 ∷ []) 2 1 0 [] [])
    -- 59
    ∷ case
    (asking_under forward_rule (start_under 0 ∷ start_under 0 ∷ read_by 2 24 ∷ adding 1 24 5 ∷ commit_of 1 ∷ []) [] [])
    (giving (Started 1 ∷ Started 2 ∷ ReadSum 0 1 0 ∷ Added ∷ Failed 2 24 ∷ []) 2 0 0 [] [])
    -- 60
    ∷ case
    (asking_under forward_rule
    (start_under 0 ∷ start_under 0 ∷ read_by 1 5 ∷ write_by 1 6 (filled_with 1) ∷ write_by 2 5 (filled_with 2) ∷ commit_of 1 ∷ commit_of 2
    ∷ []) [] [])
    (giving (Started 1 ∷ Started 2 ∷ Read 0 1 ∷ Written ∷ Written ∷ Committed 1 ∷ Committed 2 ∷ []) 2 2 0 [] [])
    -- 61
    ∷ case
    (asking_under forward_rule
    (start_under 0 ∷ start_under 0 ∷ write_by 2 5 (filled_with 2) ∷ read_by 2 5 ∷ write_by 1 5 (filled_with 1) ∷ commit_of 1 ∷ commit_of 2
    ∷ []) (5 ∷ []) [])
    (giving
    (Started 1 ∷ Started 2 ∷ Written ∷ Read 2 0 ∷ Written ∷ Committed 1 ∷ Committed 2 ∷ []) 2 2 0 (filled_with 2 ∷ []) [])
    -- 62
    ∷ case
    (asking_under forward_rule
    (start_under 0 ∷ enter_of 1 ∷ judge_of 1 ∷ enter_of 9 ∷ judge_of 0 ∷ event_of 9 1 0 [] ∷ []) [] [])
    (giving (Started 1 ∷ Refused Misfit ∷ Refused Misfit ∷ Refused Misfit ∷ Refused Misfit ∷ Refused Code ∷ []) 1 0 0 [] [])
    ∷ []
