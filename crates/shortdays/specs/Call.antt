-- RULES 15.4: the short day at a place, in one call. Assumes nothing.
use Rattle.std.specs.Prelude.{ℕ, ◌*◌, Bool, not, cond, ◌&&◌, List, [], ◌∷◌, ◌++◌, eqb, ltb, length, drop, get_or, Result, Ok, Err}
use Rattle.rules.specs.declared.refusal.Refusal.{Refusal}
use Rattle.rules.specs.Refusal.{refusal_numbered}
use Rattle.rules.specs.Table.{is_rule}
use Rattle.rules.specs.Encoding.{event_length, bytes_of_events}
use Rattle.rules.specs.Cause.{rule_cause, long_day_cause, first_cause}
use Rattle.enumeration.specs.ShortDay.{most_short}
use Rattle.enumeration.specs.Lists.{short_days}

-- why the call is refused, 0 where it is not
abbrev pub short_cause : ℕ → ℕ → ℕ
short_cause k rule =
    first_cause
    (record { number = rule_cause; applies = not (is_rule rule) } ∷ record { number = long_day_cause; applies = ltb most_short k } ∷ [])

-- there is a short day of k events under the rule at the place
abbrev pub is_placed : ℕ → ℕ → ℕ → Bool
is_placed k rule place = ltb place (length (short_days k rule))

-- what the call answers: whether there is one, or why it is refused
unfoldable pub short_answer : ℕ → ℕ → ℕ → Result Bool Refusal
short_answer k rule place =
    let cause = short_cause k rule in
    cond (eqb cause 0) (Ok (is_placed k rule place)) (Err (refusal_numbered cause))

-- the buffer afterwards: its first bytes are those of the list that is given, and all others stay
unfoldable pub short_list : ℕ → ℕ → ℕ → List ℕ → List ℕ
short_list k rule place buffer =
    cond (eqb (short_cause k rule) 0 && is_placed k rule place)
    (bytes_of_events (get_or (short_days k rule) place []) ++ drop (event_length * k) buffer)
    buffer
