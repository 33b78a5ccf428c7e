-- RULES 2.1: the number of an event's code, and what is read from a number that may be none's. Assumes nothing.
use Rattle.std.specs.Prelude.{ℕ, ◌≡◌, true, Result, MatchResult}
use Rattle.rules.specs.declared.refusal.Refusal.{Refusal}
use Rattle.rules.specs.declared.refusal.Refusal.TheVariants
use Rattle.rules.specs.declared.event.Code.{Code}
use Rattle.rules.specs.declared.event.Code.TheVariants.{Start, Read, Write, Commit, Abort, Add, Enter, Judge}
use Rattle.rules.specs.Event.{start_code, read_code, write_code, commit_code, abort_code, add_code, enter_code, judge_code}
use Rattle.rules.specs.Cause.{is_code_unknown}

abbrev pub code_number : Code → ℕ
code_number Start = start_code
code_number Read = read_code
code_number Write = write_code
code_number Commit = commit_code
code_number Abort = abort_code
code_number Add = add_code
code_number Enter = enter_code
code_number Judge = judge_code

-- the code with the number or, where it is none's, the refusal
abbrev pub ReadsCode : ℕ → Result Code Refusal → Type 0
ReadsCode number result =
    MatchResult result (λ code. code_number code ≡ number) (λ refusal. (refusal ≡ TheVariants.Code) × (is_code_unknown number ≡ true))
