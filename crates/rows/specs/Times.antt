-- RULES 1.6: times by kind as the code holds them, and what the functions on times ask of their callers. Assumes nothing.
use Rattle.std.specs.Prelude.{ℕ, ◌+◌, ◌^◌, ◌<◌, ◌≤◌, min, max, ◌≡◌, true, cond, List, eqb}
use Rattle.rules.specs.Kind.{top_kind, sub_kind, kind_under}
use Rattle.rules.specs.Table.{last_time, parent_of, kind_of, with_read, has_read, with_sub_time, read_time}
use Rattle.rules.specs.Commit.{joined_read, joined_time}
use Rattle.rows.specs.declared.times.Time.{Time}
use Rattle.rows.specs.declared.times.Time.TheVariants.{Top, Sub}

-- ---- a time of either kind

-- its kind, and its number
abbrev pub kind_in : Time → ℕ
kind_in (Top t) = top_kind
kind_in (Sub t) = sub_kind

abbrev pub number_in : Time → ℕ
number_in (Top t) = t.0
number_in (Sub t) = t.0

-- it is of kind h, and number v
pub record IsTime (t : Time) (h v : ℕ) : Type 0 where
  pub kind : kind_in t ≡ h
  pub number : number_in t ≡ v

-- ---- the times of a read set

-- the smaller of time t and that of n's read of account k, both of kind h; t where k is not in the set
abbrev pub sooner_read : List ℕ → ℕ → ℕ → ℕ → ℕ → ℕ
sooner_read w h n k t = cond (has_read w n k) (min (read_time w h n k) t) t

-- .. and the larger
abbrev pub later_read : List ℕ → ℕ → ℕ → ℕ → ℕ → ℕ
later_read w h n k t = cond (has_read w n k) (max (read_time w h n k) t) t

-- account k's time of kind h put for n's read; a read entry is one more than the topaction time
abbrev pub with_read_time : List ℕ → ℕ → ℕ → ℕ → ℕ → List ℕ
with_read_time w h n k t = cond (eqb h top_kind) (with_read w n k (t + 1)) (with_sub_time w n k t)

-- p's read of account k after the commit of its child n, both words
abbrev pub with_joined_read : List ℕ → ℕ → ℕ → ℕ → List ℕ
with_joined_read w n p k = with_sub_time (with_read w p k (joined_read w n p k)) p k (joined_time w n p k)

-- ---- what is asked

-- action n is of kind h, and so is its end time
abbrev pub IsOfKind : ℕ → List ℕ → ℕ → Type 0
IsOfKind h w n = kind_of w n ≡ h

-- the children of p are of kind h, and so are their newest end times
abbrev pub IsParentOf : ℕ → ℕ → Type 0
IsParentOf h p = kind_under p ≡ h

-- n is a child of p: its end time is of the kind of p's newest ones
abbrev pub IsChild : List ℕ → ℕ → ℕ → Type 0
IsChild w n p = parent_of w n ≡ p

-- a and b are of one kind, so that their end times can be compared
abbrev pub AreOfOneKind : List ℕ → ℕ → ℕ → Type 0
AreOfOneKind w a b = kind_of w a ≡ kind_of w b

-- t is of the kind of n's end time
abbrev pub IsOfKindOf : Time → List ℕ → ℕ → Type 0
IsOfKindOf t w n = kind_in t ≡ kind_of w n

-- account k is in n's read set: the read has its two times
abbrev pub HasRead : List ℕ → ℕ → ℕ → Type 0
HasRead w n k = has_read w n k ≡ true

-- a word has room for a read's time of kind h
abbrev pub HasRoom : ℕ → ℕ → Type 0
HasRoom h t = h ≡ top_kind → t + 1 < 2 ^ 64

-- RULES 4.5: a count that a word has room to raise
abbrev pub CanCount : ℕ → Type 0
CanCount count = count ≤ last_time
