-- RULES 4.10: newest end times in a row of their own, a word for each account, and what the functions on them ask of their callers.
-- Assumes nothing.
use Rattle.std.specs.Prelude.{ℕ, max, ◌≡◌, Bool, cond, List, eqb, get_or, set}
use Rattle.rules.specs.Range.{all, fold}
use Rattle.rules.specs.Card.{accounts}
use Rattle.rules.specs.Kind.{kind_under}
use Rattle.rules.specs.Table.{end_time, has_written, newest}
use Rattle.rows.specs.declared.times.Time.{Time}
use Rattle.rows.specs.Times.{kind_in, number_in}

-- p has none: no child of its has written any account
abbrev pub has_no_newest : List ℕ → ℕ → Bool
has_no_newest w p = all (λ k. eqb (newest w p k) 0) accounts

-- such a row once m's end has been counted in for account k: where m has written k the later of the two stands there
abbrev pub raised_end : List ℕ → ℕ → ℕ → List ℕ → List ℕ
raised_end w m k ends = let later = set ends k (max (end_time w m) (get_or ends k 0)) in cond (has_written w m k) later ends

-- .. for every account
unfoldable pub raised_ends : List ℕ → ℕ → List ℕ → List ℕ
raised_ends w m ends = fold (raised_end w m) accounts ends

-- t is of the kind of the end times of p's children
abbrev pub IsOfChildrenOf : Time → ℕ → Type 0
IsOfChildrenOf t p = kind_in t ≡ kind_under p

-- this is m's end time
abbrev pub IsEndOf : List ℕ → ℕ → Time → Type 0
IsEndOf w m own = number_in own ≡ end_time w m
