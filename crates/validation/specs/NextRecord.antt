-- The next record of a parent, by rising end time: what is asked of an action in a scan of them. Assumes nothing.
use Rattle.std.specs.Prelude.{ℕ, ◌≤◌, ◌≡◌, Bool, ◌&&◌, List, Option, None, Some, IfSome}
use Rattle.rules.specs.Kind.{kind_under}
use Rattle.rules.specs.Table.{parent_of, is_record_of}
use Rattle.rules.specs.Search.{is_sooner}
use Rattle.rows.specs.declared.times.Time.{Time}
use Rattle.rows.specs.Row.{HasRow}
use Rattle.rows.specs.Times.{kind_in, AreOfOneKind}

-- m is a record of p that ends after t, and sooner than the action `next` where that is one
abbrev pub is_next_record : List ℕ → ℕ → ℕ → ℕ → ℕ → Bool
is_next_record w p t m next = is_record_of w p m && is_sooner w t m next

-- t is of the kind of p's children
abbrev pub IsTimeUnder : Time → ℕ → Type 0
IsTimeUnder t p = kind_in t ≡ kind_under p

-- a record as the code holds it, by its number, 0 for none
abbrev pub number_or_none : Option ℕ → ℕ
number_or_none None = 0
number_or_none (Some m) = m

-- m is the number of an action, which is a child of p, or of m's kind
pub record IsChildOf (w : List ℕ) (p m : ℕ) : Type 0 where
  pub row : HasRow w m
  pub action : 1 ≤ m
  pub child : parent_of w m ≡ p

pub record IsAlike (w : List ℕ) (m next : ℕ) : Type 0 where
  pub row : HasRow w next
  pub action : 1 ≤ next
  pub alike : AreOfOneKind w m next

-- `next` is a child of p, or none
abbrev pub IsChildOrNone : List ℕ → ℕ → Option ℕ → Type 0
IsChildOrNone w p next = IfSome next (IsChildOf w p)

-- `next` is of m's kind, or none
abbrev pub IsAlikeOrNone : List ℕ → ℕ → Option ℕ → Type 0
IsAlikeOrNone w m next = IfSome next (IsAlike w m)
