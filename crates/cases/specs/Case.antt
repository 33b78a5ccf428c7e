-- RULES 13: what a worked case asks and what it gives, and those of rule 1 that are proved, in five parts, each of which computes by
-- itself. BothRules.antt has those of both rules, Cases.antt the one list of all. Assumes nothing.
use Rattle.std.specs.Prelude.{ℕ, ◌≡◌, List, [], ◌∷◌, map, replicate, ℤ, pos, neg_ℤ}
use Rattle.rules.specs.declared.Answer.{Answer}
use Rattle.rules.specs.declared.Answer.TheVariants.{Started, Read, ReadSum, Written, Added, Entered, Ready, JudgedFailed, Committed, Failed, Aborted, Refused}
use Rattle.rules.specs.Card.{card_length, base_length, shadow_length, base_place, card_at}
use Rattle.rules.specs.Amount.{with_amount}
use Rattle.rules.specs.Kind.{top_kind, sub_kind}
use Rattle.rules.specs.Table.{backward_rule, highest, counter}
use Rattle.rules.specs.Event.{Event, event_of, start_under, read_by, write_by, commit_of, abort_of, add_by, enter_of, judge_of}
use Rattle.rules.specs.Look.{look, bytes_of}
use Rattle.rules.specs.Ledger.{Ledger}
use Rattle.rules.specs.Run.{Ran, run}
use Rattle.rules.specs.Serial.Told.{Told, told_all}
use Rattle.rules.specs.Serial.Demand.{new_over}
use Rattle.rules.specs.declared.refusal.Refusal.TheVariants.{Account, Amount, ChildLive, Code, Judge, Kind, NotLive, Queue, Queued}

-- a new table under rule r over stores of zeros
abbrev pub opening_under : ℕ → Ledger
opening_under r = new_over r (replicate base_length 0) (replicate shadow_length 0)

abbrev pub opening : Ledger
opening = opening_under backward_rule

-- what the serial run is told of what events gave (RULES 6.1)
abbrev pub told_in : Ran → List Told
told_in ran = told_all ran.answers ran.leavers

-- a card of 32 bytes b
abbrev pub filled_with : ℕ → List ℕ
filled_with b = replicate card_length b

-- a card of zeros but for its amount
abbrev pub amount_card : ℤ → List ℕ
amount_card z = with_amount (filled_with 0) z

-- an action and an account to look at, once the events are done
pub record Spot : Type 0 where
  pub action : ℕ
  pub account : ℕ

-- what a look there gives: its cause, the card that it shows and the moves up to it
pub record Shown : Type 0 where
  pub cause : ℕ
  pub card : List ℕ
  pub moves : ℕ

abbrev shown : Ledger → Spot → Shown
shown s spot =
    let looked = look s.table s.base s.shadow spot.action spot.account in
    record { cause = looked.cause; card = bytes_of s.base s.shadow looked.part; moves = looked.moves }

-- what is asked of a case: the table's rule, its events, and which base cards and which looks to show after them
pub record Question : Type 0 where
  pub rule : ℕ
  pub events : List Event
  pub base_accounts : List ℕ
  pub spots : List Spot

-- what it gives: every answer, the highest number, the two counters, and the cards and looks asked for
pub record Result : Type 0 where
  pub answers : List Answer
  pub highest : ℕ
  pub tops : ℕ
  pub subs : ℕ
  pub base_cards : List (List ℕ)
  pub looks : List Shown

-- .. of what the events gave and left
unfoldable pub result_in : Question → Ran → Result
result_in q ran =
    record {
      answers = ran.answers;
      highest = highest ran.after.table;
      tops = counter ran.after.table top_kind;
      subs = counter ran.after.table sub_kind;
      base_cards = map (λ k. card_at ran.after.base (base_place k)) q.base_accounts;
      looks = map (shown ran.after) q.spots;
    }

unfoldable pub result_of : Question → Result
result_of q = result_in q (run (opening_under q.rule) q.events)

pub record Case : Type 0 where
  pub question : Question
  pub expected : Result

-- .. under a rule, and under rule 1
abbrev pub asking_under : ℕ → List Event → List ℕ → List Spot → Question
asking_under r es ks spots = record { rule = r; events = es; base_accounts = ks; spots = spots }

abbrev asking : List Event → List ℕ → List Spot → Question
asking = asking_under backward_rule

abbrev pub giving : List Answer → ℕ → ℕ → ℕ → List (List ℕ) → List Shown → Result
giving answers most tops subs base_cards looks =
    record { answers = answers; highest = most; tops = tops; subs = subs; base_cards = base_cards; looks = looks }

-- action n and account k as a spot
abbrev at : ℕ → ℕ → Spot
at n k = record { action = n; account = k }

-- a look that shows a card of 32 bytes b, so many moves up, and one that is refused
abbrev showing : ℕ → ℕ → Shown
showing b moves = record { cause = 0; card = filled_with b; moves = moves }

abbrev refusing : ℕ → Shown
refusing cause = record { cause = cause; card = []; moves = 0 }

-- n adds so many cents to charge account k, or takes them away
abbrev pub adding : ℕ → ℕ → ℕ → Event
adding n k cents = add_by n k (amount_card (pos cents))

abbrev pub taking : ℕ → ℕ → ℕ → Event
taking n k cents = add_by n k (amount_card (neg_ℤ (pos cents)))

abbrev pub case : Question → Result → Case
case q r = record { question = q; expected = r }

-- the cases of this list hold
abbrev pub Hold : List Case → Type 0
Hold cases = map (λ c. result_of c.question) cases ≡ map (λ c. c.expected) cases

-- accounts with cards
unfoldable pub cases_to14 : List Case
cases_to14 =
    -- 1
    case (asking [] [] []) (giving [] 0 0 0 [] [])
    -- 2
    ∷ case
    (asking (start_under 0 ∷ commit_of 1 ∷ []) [] [])
    (giving (Started 1 ∷ Committed 0 ∷ []) 1 0 0 [] [])
    -- 3
    ∷ case
    (asking (start_under 0 ∷ write_by 1 5 (filled_with 7) ∷ commit_of 1 ∷ []) (5 ∷ []) [])
    (giving (Started 1 ∷ Written ∷ Committed 1 ∷ []) 1 1 0 (filled_with 7 ∷ []) [])
    -- 4
    ∷ case
    (asking
    (start_under 0 ∷ start_under 0 ∷ read_by 1 0 ∷ read_by 2 0 ∷ write_by 1 0 (filled_with 1) ∷ commit_of 1 ∷ commit_of 2 ∷ []) [] [])
    (giving
    (Started 1 ∷ Started 2 ∷ Read 0 1 ∷ Read 0 1 ∷ Written ∷ Committed 1 ∷ Failed 1 0 ∷ []) 2 1 0 [] [])
    -- 5
    ∷ case
    (asking
    (start_under 0 ∷ start_under 0 ∷ write_by 1 0 (filled_with 1) ∷ write_by 2 0 (filled_with 2) ∷ commit_of 1 ∷ commit_of 2 ∷ [])
    (0 ∷ []) [])
    (giving
    (Started 1 ∷ Started 2 ∷ Written ∷ Written ∷ Committed 1 ∷ Committed 2 ∷ []) 2 2 0 (filled_with 2 ∷ []) [])
    -- 6
    ∷ case
    (asking
    (start_under 0 ∷ write_by 1 3 (filled_with 1) ∷ start_under 1 ∷ read_by 2 3 ∷ write_by 2 3 (filled_with 2) ∷ abort_of 2
    ∷ read_by 1 3 ∷ [])
    [] (at 1 3 ∷ []))
    (giving
    (Started 1 ∷ Written ∷ Started 2 ∷ Read 1 1 ∷ Written ∷ Aborted 1 0 ∷ Read 1 0 ∷ []) 2 0 0 [] (showing 1 0 ∷ []))
    -- 7
    ∷ case
    (asking (start_under 0 ∷ start_under 1 ∷ read_by 1 0 ∷ commit_of 1 ∷ []) [] [])
    (giving (Started 1 ∷ Started 2 ∷ Refused ChildLive ∷ Refused ChildLive ∷ []) 2 0 0 [] [])
    -- 8 and 8b
    ∷ case
    (asking
    (start_under 0 ∷ start_under 1 ∷ start_under 1 ∷ read_by 3 4 ∷ write_by 2 4 (filled_with 1) ∷ commit_of 2 ∷ commit_of 3 ∷ []) [] [])
    (giving
    (Started 1 ∷ Started 2 ∷ Started 3 ∷ Read 0 2 ∷ Written ∷ Committed 1 ∷ Failed 1 4 ∷ []) 3 0 1 [] [])
    ∷ case
    (asking
    (start_under 0 ∷ start_under 1 ∷ start_under 1 ∷ write_by 2 4 (filled_with 1) ∷ commit_of 2 ∷ read_by 3 4 ∷ commit_of 3 ∷ []) [] [])
    (giving
    (Started 1 ∷ Started 2 ∷ Started 3 ∷ Written ∷ Committed 1 ∷ Read 1 1 ∷ Committed 0 ∷ []) 3 0 1 [] [])
    -- 9
    ∷ case
    (asking
    (start_under 0 ∷ start_under 1 ∷ read_by 2 6 ∷ start_under 0 ∷ write_by 3 6 (filled_with 1) ∷ commit_of 3 ∷ start_under 1 ∷ read_by 4 6
    ∷ commit_of 2 ∷ commit_of 4 ∷ commit_of 1 ∷ []) [] [])
    (giving
    (Started 1 ∷ Started 2 ∷ Read 0 2 ∷ Started 3 ∷ Written ∷ Committed 1 ∷ Started 4 ∷ Read 0 2
    ∷ Committed 0 ∷ Committed 0 ∷ Failed 1 6 ∷ []) 4 1 0 [] [])
    -- 10
    ∷ case
    (asking (start_under 0 ∷ start_under 1 ∷ start_under 2 ∷ abort_of 1 ∷ commit_of 2 ∷ []) [] [])
    (giving (Started 1 ∷ Started 2 ∷ Started 3 ∷ Aborted 3 0 ∷ Refused NotLive ∷ []) 3 0 0 [] [])
    -- 13
    ∷ case
    (asking
    (start_under 0 ∷ start_under 0 ∷ write_by 1 2 (filled_with 1) ∷ read_by 1 2 ∷ write_by 2 2 (filled_with 2) ∷ commit_of 2
    ∷ commit_of 1 ∷ [])
    (2 ∷ []) [])
    (giving
    (Started 1 ∷ Started 2 ∷ Written ∷ Read 1 0 ∷ Written ∷ Committed 1 ∷ Committed 2 ∷ []) 2 2 0 (filled_with 1 ∷ []) [])
    -- 14
    ∷ case
    (asking
    (start_under 0 ∷ write_by 1 7 (filled_with 1) ∷ start_under 1 ∷ start_under 2 ∷ read_by 3 7 ∷ read_by 3 8
    ∷ write_by 3 8 (filled_with 2)
    ∷ read_by 3 8 ∷ commit_of 3 ∷ read_by 2 8 ∷ [])
    [] (at 2 7 ∷ at 2 8 ∷ at 2 9 ∷ at 1 7 ∷ []))
    (giving
    (Started 1 ∷ Written ∷ Started 2 ∷ Started 3 ∷ Read 1 2 ∷ Read 0 3 ∷ Written
    ∷ Read 3 0 ∷ Committed 1 ∷ Read 2 0 ∷ []) 3 0 1 [] (showing 1 1 ∷ showing 2 0 ∷ showing 0 2 ∷ refusing 9 ∷ []))
    ∷ []

-- charge accounts, and which reads count
unfoldable pub cases_to25 : List Case
cases_to25 =
    -- 15
    case
    (asking
    (start_under 0 ∷ start_under 0 ∷ adding 1 24 500 ∷ taking 2 24 200 ∷ commit_of 1 ∷ commit_of 2 ∷ start_under 0 ∷ read_by 1 24
    ∷ commit_of 1 ∷ []) (24 ∷ []) [])
    (giving
    (Started 1 ∷ Started 2 ∷ Added ∷ Added ∷ Committed 1 ∷ Committed 2 ∷ Started 1 ∷ ReadSum 0 1 300
    ∷ Committed 0 ∷ []) 2 2 0 (amount_card (pos 300) ∷ []) [])
    -- 16
    ∷ case
    (asking
    (start_under 0 ∷ start_under 0 ∷ read_by 1 24 ∷ adding 1 24 5 ∷ adding 2 24 7 ∷ commit_of 2 ∷ commit_of 1 ∷ []) [] [])
    (giving
    (Started 1 ∷ Started 2 ∷ ReadSum 0 1 0 ∷ Added ∷ Added ∷ Committed 1 ∷ Failed 1 24 ∷ []) 2 1 0 [] [])
    -- 17
    ∷ case
    (asking
    (start_under 0 ∷ start_under 0 ∷ read_by 2 30 ∷ adding 1 30 0 ∷ commit_of 1 ∷ commit_of 2 ∷ []) [] [])
    (giving
    (Started 1 ∷ Started 2 ∷ ReadSum 0 1 0 ∷ Added ∷ Committed 1 ∷ Failed 1 30 ∷ []) 2 1 0 [] [])
    -- 18
    ∷ case
    (asking
    (start_under 0 ∷ adding 1 24 100 ∷ start_under 1 ∷ taking 2 24 30 ∷ read_by 2 24 ∷ start_under 2 ∷ read_by 3 24 ∷ commit_of 3
    ∷ commit_of 2 ∷ read_by 1 24 ∷ commit_of 1 ∷ []) (24 ∷ []) [])
    (giving
    (Started 1 ∷ Added ∷ Started 2 ∷ Added ∷ ReadSum 0 2 70 ∷ Started 3 ∷ ReadSum 0 3 70 ∷ Committed 0
    ∷ Committed 1 ∷ ReadSum 0 1 70 ∷ Committed 1 ∷ []) 3 1 1 (amount_card (pos 70) ∷ []) [])
    -- 19
    ∷ case
    (asking
    (start_under 0 ∷ start_under 1 ∷ adding 1 5 0 ∷ adding 1 24 2000000 ∷ adding 1 24 1 ∷ adding 2 40 1 ∷ adding 2 23 1
    ∷ write_by 2 24 (filled_with 0) ∷ adding 2 24 1000001 ∷ taking 2 24 1000001 ∷ adding 2 24 1000000 ∷ taking 2 31 1000000
    ∷ event_of 9 2 24 (filled_with 0) ∷ commit_of 1 ∷ []) [] [])
    (giving
    (Started 1 ∷ Started 2 ∷ Refused Kind ∷ Refused Amount ∷ Refused ChildLive ∷ Refused Account ∷ Refused Kind
    ∷ Refused Kind ∷ Refused Amount ∷ Refused Amount ∷ Added ∷ Added
    ∷ Refused Code ∷ Refused ChildLive ∷ []) 2 0 0 [] [])
    -- 20
    ∷ case
    (asking
    (start_under 0 ∷ start_under 1 ∷ read_by 2 3 ∷ write_by 2 3 (filled_with 1) ∷ commit_of 2 ∷ start_under 0
    ∷ write_by 2 3 (filled_with 2)
    ∷ commit_of 2 ∷ commit_of 1 ∷ []) (3 ∷ []) [])
    (giving
    (Started 1 ∷ Started 2 ∷ Read 0 2 ∷ Written ∷ Committed 1 ∷ Started 2 ∷ Written
    ∷ Committed 1 ∷ Failed 1 3 ∷ []) 2 1 1 (filled_with 2 ∷ []) [])
    -- 21
    ∷ case
    (asking
    (start_under 0 ∷ write_by 1 3 (filled_with 1) ∷ start_under 1 ∷ start_under 2 ∷ read_by 3 3 ∷ commit_of 3 ∷ start_under 1
    ∷ write_by 3 3 (filled_with 2) ∷ commit_of 3 ∷ commit_of 2 ∷ []) [] [])
    (giving
    (Started 1 ∷ Written ∷ Started 2 ∷ Started 3 ∷ Read 1 2 ∷ Committed 0 ∷ Started 3
    ∷ Written ∷ Committed 1 ∷ Failed 1 3 ∷ []) 3 0 1 [] [])
    -- 22
    ∷ case
    (asking
    (start_under 0 ∷ adding 1 24 5 ∷ read_by 1 24 ∷ start_under 0 ∷ adding 2 24 3 ∷ commit_of 2 ∷ commit_of 1 ∷ []) (24 ∷ []) [])
    (giving
    (Started 1 ∷ Added ∷ ReadSum 0 1 5 ∷ Started 2 ∷ Added ∷ Committed 1 ∷ Failed 1 24 ∷ []) 2 1 0 (amount_card (pos 3) ∷ []) [])
    -- 23
    ∷ case
    (asking
    (start_under 0 ∷ start_under 0 ∷ read_by 1 3 ∷ write_by 1 3 (filled_with 1) ∷ read_by 1 3 ∷ write_by 2 3 (filled_with 2) ∷ commit_of 2
    ∷ commit_of 1 ∷ []) [] [])
    (giving
    (Started 1 ∷ Started 2 ∷ Read 0 1 ∷ Written ∷ Read 1 0 ∷ Written ∷ Committed 1 ∷ Failed 1 3 ∷ []) 2 1 0 [] [])
    -- 24
    ∷ case
    (asking
    (start_under 0 ∷ write_by 1 3 (filled_with 1) ∷ start_under 1 ∷ read_by 2 3 ∷ commit_of 2 ∷ start_under 0
    ∷ write_by 2 3 (filled_with 2)
    ∷ commit_of 2 ∷ commit_of 1 ∷ []) (3 ∷ []) [])
    (giving
    (Started 1 ∷ Written ∷ Started 2 ∷ Read 1 1 ∷ Committed 0 ∷ Started 2 ∷ Written
    ∷ Committed 1 ∷ Committed 2 ∷ []) 2 2 0 (filled_with 1 ∷ []) [])
    -- 25
    ∷ case
    (asking
    (start_under 0 ∷ write_by 1 3 (filled_with 1) ∷ start_under 1 ∷ start_under 1 ∷ read_by 2 3 ∷ write_by 3 3 (filled_with 2)
    ∷ commit_of 3
    ∷ commit_of 2 ∷ []) [] [])
    (giving
    (Started 1 ∷ Written ∷ Started 2 ∷ Started 3 ∷ Read 1 1 ∷ Written ∷ Committed 1 ∷ Failed 1 3 ∷ []) 3 0 1 [] [])
    ∷ []

-- a queue
unfoldable pub cases_to30 : List Case
cases_to30 =
    -- 26
    case
    (asking
    (start_under 0 ∷ start_under 0 ∷ write_by 1 5 (filled_with 7) ∷ write_by 2 5 (filled_with 8) ∷ enter_of 1 ∷ enter_of 2 ∷ judge_of 2
    ∷ judge_of 1 ∷ []) (5 ∷ []) [])
    (giving
    (Started 1 ∷ Started 2 ∷ Written ∷ Written ∷ Entered ∷ Entered ∷ Ready 0 ∷ Ready 2 ∷ []) 2 2 0 (filled_with 8 ∷ []) [])
    -- 27
    ∷ case
    (asking
    (start_under 0 ∷ start_under 0 ∷ read_by 2 0 ∷ write_by 1 0 (filled_with 1) ∷ enter_of 1 ∷ enter_of 2 ∷ judge_of 1 ∷ judge_of 2 ∷ [])
    [] [])
    (giving
    (Started 1 ∷ Started 2 ∷ Read 0 1 ∷ Written ∷ Entered ∷ Entered ∷ Ready 1 ∷ JudgedFailed 0 ∷ []) 2 1 0 [] [])
    -- 28
    ∷ case
    (asking
    (start_under 0 ∷ start_under 0 ∷ read_by 2 0 ∷ write_by 1 0 (filled_with 1) ∷ enter_of 1 ∷ enter_of 2 ∷ abort_of 1 ∷ judge_of 2 ∷ [])
    [] [])
    (giving
    (Started 1 ∷ Started 2 ∷ Read 0 1 ∷ Written ∷ Entered ∷ Entered ∷ Aborted 1 0 ∷ JudgedFailed 0 ∷ []) 2 0 0 [] [])
    -- 29
    ∷ case
    (asking
    (start_under 0 ∷ start_under 0 ∷ write_by 2 1 (filled_with 1) ∷ enter_of 1 ∷ enter_of 2 ∷ judge_of 2 ∷ abort_of 1 ∷ []) (1 ∷ []) [])
    (giving
    (Started 1 ∷ Started 2 ∷ Written ∷ Entered ∷ Entered ∷ Ready 0 ∷ Aborted 1 1 ∷ []) 2 1 0 (filled_with 1 ∷ []) [])
    -- 30
    ∷ case
    (asking
    (start_under 0 ∷ start_under 0 ∷ enter_of 1 ∷ read_by 1 0 ∷ start_under 1 ∷ commit_of 1 ∷ commit_of 2 ∷ judge_of 2 ∷ judge_of 1
    ∷ judge_of 1 ∷ commit_of 2 ∷ []) [] [])
    (giving
    (Started 1 ∷ Started 2 ∷ Entered ∷ Refused Queued ∷ Refused Queued ∷ Refused Queued ∷ Refused Queue ∷ Refused Judge ∷ Ready 1
    ∷ Refused NotLive ∷ Committed 0 ∷ []) 2 0 0 [] [])
    ∷ []

-- the two kinds of action side by side
unfoldable pub cases_to37 : List Case
cases_to37 =
    -- 31
    case
    (asking
    (start_under 0 ∷ start_under 0 ∷ start_under 2 ∷ write_by 1 5 (filled_with 7) ∷ enter_of 1 ∷ write_by 3 4 (filled_with 9) ∷ enter_of 3
    ∷ judge_of 3 ∷ enter_of 2 ∷ judge_of 2 ∷ judge_of 1 ∷ []) (5 ∷ 4 ∷ []) [])
    (giving
    (Started 1 ∷ Started 2 ∷ Started 3 ∷ Written ∷ Entered ∷ Written ∷ Entered
    ∷ Ready 1 ∷ Entered ∷ Ready 0 ∷ Ready 2 ∷ []) 3 2 1 (filled_with 7 ∷ filled_with 9 ∷ []) [])
    -- 32
    ∷ case
    (asking
    (start_under 0 ∷ start_under 1 ∷ write_by 2 0 (filled_with 1) ∷ commit_of 2 ∷ start_under 1 ∷ write_by 2 0 (filled_with 2)
    ∷ commit_of 2
    ∷ start_under 0 ∷ read_by 2 1 ∷ start_under 0 ∷ write_by 3 1 (filled_with 3) ∷ commit_of 3 ∷ commit_of 2 ∷ []) [] [])
    (giving
    (Started 1 ∷ Started 2 ∷ Written ∷ Committed 1 ∷ Started 2 ∷ Written ∷ Committed 2
    ∷ Started 2 ∷ Read 0 1 ∷ Started 3 ∷ Written ∷ Committed 1 ∷ Failed 1 1 ∷ []) 3 1 2 [] [])
    -- 33
    ∷ case
    (asking
    (start_under 0 ∷ write_by 1 9 (filled_with 1) ∷ commit_of 1 ∷ start_under 0 ∷ start_under 1 ∷ start_under 1 ∷ read_by 3 0
    ∷ write_by 2 0 (filled_with 2) ∷ commit_of 2 ∷ commit_of 3 ∷ []) [] [])
    (giving
    (Started 1 ∷ Written ∷ Committed 1 ∷ Started 1 ∷ Started 2 ∷ Started 3 ∷ Read 0 2
    ∷ Written ∷ Committed 1 ∷ Failed 1 0 ∷ []) 3 1 1 [] [])
    -- 34
    ∷ case
    (asking
    (start_under 0 ∷ start_under 1 ∷ start_under 2 ∷ read_by 3 0 ∷ start_under 1 ∷ write_by 4 0 (filled_with 1) ∷ commit_of 4
    ∷ start_under 0 ∷ write_by 5 1 (filled_with 2) ∷ commit_of 5 ∷ commit_of 3 ∷ commit_of 2 ∷ []) [] [])
    (giving
    (Started 1 ∷ Started 2 ∷ Started 3 ∷ Read 0 3 ∷ Started 4 ∷ Written ∷ Committed 1
    ∷ Started 5 ∷ Written ∷ Committed 1 ∷ Committed 0 ∷ Failed 1 0 ∷ []) 5 1 1 [] [])
    -- 35
    ∷ case
    (asking
    (start_under 0 ∷ start_under 0 ∷ start_under 0 ∷ start_under 3 ∷ start_under 3 ∷ write_by 2 1 (filled_with 1)
    ∷ write_by 5 2 (filled_with 1)
    ∷ enter_of 1 ∷ enter_of 2 ∷ enter_of 4 ∷ enter_of 5 ∷ judge_of 2 ∷ judge_of 5 ∷ abort_of 4 ∷ abort_of 1 ∷ []) [] [])
    (giving
    (Started 1 ∷ Started 2 ∷ Started 3 ∷ Started 4 ∷ Started 5 ∷ Written ∷ Written
    ∷ Entered ∷ Entered ∷ Entered ∷ Entered ∷ Ready 0 ∷ Ready 0 ∷ Aborted 1 1 ∷ Aborted 1 1 ∷ []) 5 1 1 [] [])
    -- 36
    ∷ case
    (asking (start_under 0 ∷ start_under 0 ∷ start_under 2 ∷ enter_of 1 ∷ commit_of 3 ∷ commit_of 2 ∷ []) [] [])
    (giving (Started 1 ∷ Started 2 ∷ Started 3 ∷ Entered ∷ Committed 0 ∷ Refused Queue ∷ []) 3 0 0 [] [])
    -- 37
    ∷ case
    (asking
    (start_under 0 ∷ start_under 1 ∷ start_under 2 ∷ read_by 3 6 ∷ start_under 1 ∷ write_by 4 6 (filled_with 1) ∷ commit_of 4
    ∷ start_under 2 ∷ read_by 5 6 ∷ commit_of 3 ∷ commit_of 5 ∷ commit_of 2 ∷ []) [] [])
    (giving
    (Started 1 ∷ Started 2 ∷ Started 3 ∷ Read 0 3 ∷ Started 4 ∷ Written ∷ Committed 1
    ∷ Started 5 ∷ Read 1 2 ∷ Committed 0 ∷ Committed 0 ∷ Failed 1 6 ∷ []) 5 0 1 [] [])
    ∷ []

-- numbers that are given again
unfoldable pub cases_to43 : List Case
cases_to43 =
    -- 38
    case
    (asking
    (start_under 0 ∷ abort_of 1 ∷ start_under 0 ∷ write_by 1 0 (filled_with 1) ∷ commit_of 1 ∷ start_under 0 ∷ start_under 0 ∷ []) [] [])
    (giving
    (Started 1 ∷ Aborted 1 0 ∷ Started 1 ∷ Written ∷ Committed 1 ∷ Started 1 ∷ Started 2 ∷ []) 2 1 0 [] [])
    -- 39
    ∷ case
    (asking
    (start_under 0 ∷ read_by 1 5 ∷ start_under 0 ∷ write_by 2 0 (filled_with 1) ∷ commit_of 2 ∷ start_under 0 ∷ commit_of 1
    ∷ start_under 0 ∷ start_under 0 ∷ []) [] [])
    (giving
    (Started 1 ∷ Read 0 1 ∷ Started 2 ∷ Written ∷ Committed 1 ∷ Started 3 ∷ Committed 0
    ∷ Started 1 ∷ Started 2 ∷ []) 3 1 0 [] [])
    -- 40
    ∷ case
    (asking
    (start_under 0 ∷ start_under 0 ∷ start_under 1 ∷ write_by 2 0 (filled_with 1) ∷ read_by 3 0 ∷ commit_of 2 ∷ start_under 0
    ∷ commit_of 3 ∷ commit_of 1 ∷ []) [] [])
    (giving
    (Started 1 ∷ Started 2 ∷ Started 3 ∷ Written ∷ Read 0 2 ∷ Committed 1 ∷ Started 4
    ∷ Committed 0 ∷ Failed 1 0 ∷ []) 4 1 0 [] [])
    -- 41
    ∷ case
    (asking (start_under 0 ∷ start_under 0 ∷ abort_of 1 ∷ start_under 2 ∷ start_under 2 ∷ []) [] [])
    (giving (Started 1 ∷ Started 2 ∷ Aborted 1 0 ∷ Started 1 ∷ Started 3 ∷ []) 3 0 0 [] [])
    -- 42
    ∷ case
    (asking
    (start_under 0 ∷ start_under 0 ∷ write_by 1 0 (filled_with 1) ∷ enter_of 1 ∷ enter_of 2 ∷ judge_of 1 ∷ start_under 0
    ∷ write_by 1 0 (filled_with 2) ∷ enter_of 1 ∷ judge_of 2 ∷ judge_of 1 ∷ []) (0 ∷ []) [])
    (giving
    (Started 1 ∷ Started 2 ∷ Written ∷ Entered ∷ Entered ∷ Ready 1 ∷ Started 1
    ∷ Written ∷ Entered ∷ Ready 1 ∷ Ready 1 ∷ []) 2 2 0 (filled_with 2 ∷ []) [])
    -- 43
    ∷ case
    (asking
    (start_under 0 ∷ start_under 0 ∷ write_by 1 0 (filled_with 1) ∷ commit_of 1 ∷ read_by 2 3 ∷ start_under 0 ∷ []) [] [])
    (giving (Started 1 ∷ Started 2 ∷ Written ∷ Committed 1 ∷ Read 0 1 ∷ Started 1 ∷ []) 2 1 0 [] [])
    ∷ []
