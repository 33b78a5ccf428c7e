-- RULES 2.1: a code and its number. Each is one of the eight, and no two have one. Assumes nothing.
use Prim.Native.Nat.{ℕ}
use mathlib.Core.Path.{◌≡◌, refl, sym, ap, ◌∙◌}
use mathlib.Core.Bool.{false, cond}
use lib.Dec.{eqb}
use Rattle.rules.specs.declared.event.Code.{Code}
use Rattle.rules.specs.declared.event.Code.TheVariants.{Start, Read, Write, Commit, Abort, Add, Enter, Judge}
use Rattle.rules.specs.Event.{start_code, read_code, write_code, commit_code, abort_code, add_code, enter_code}
use Rattle.rules.specs.Cause.{is_code_unknown}
use Rattle.rules.specs.Code.{code_number}

pub code_known : (code : Code) → is_code_unknown (code_number code) ≡ false
code_known Start = refl
code_known Read = refl
code_known Write = refl
code_known Commit = refl
code_known Abort = refl
code_known Add = refl
code_known Enter = refl
code_known Judge = refl

-- the code with a number; of a number that is none's, the last
abbrev code_numbered : ℕ → Code
code_numbered number =
    cond (eqb number start_code) Start
    (cond (eqb number read_code) Read
    (cond (eqb number write_code) Write
    (cond (eqb number commit_code) Commit
    (cond (eqb number abort_code) Abort
    (cond (eqb number add_code) Add
    (cond (eqb number enter_code) Enter
    Judge))))))

numbered_back : (code : Code) → code_numbered (code_number code) ≡ code
numbered_back Start = refl
numbered_back Read = refl
numbered_back Write = refl
numbered_back Commit = refl
numbered_back Abort = refl
numbered_back Add = refl
numbered_back Enter = refl
numbered_back Judge = refl

pub code_one : (a b : Code) → code_number a ≡ code_number b → a ≡ b
code_one a b same = sym (numbered_back a) ∙ ap code_numbered same ∙ numbered_back b
