-- RULES 4.10: whether a read has been overwritten since, at a parent: by the records that the parent holds, and by its newest end
-- times, which say it of dropped records too. Assumes nothing.
use Rattle.std.specs.Prelude.{ℕ, Bool, ◌&&◌, List, ltb}
use Rattle.rules.specs.Range.{any}
use Rattle.rules.specs.Card.{accounts}
use Rattle.rules.specs.Table.{parent_of, kind_of, end_time, has_read, read_time, has_written, newest, records}

-- a record of p with account k in its write set ended after t, a time of the kind of p's children
unfoldable pub is_stale : List ℕ → ℕ → ℕ → ℕ → Bool
is_stale w p k t = any (λ m. has_written w m k && ltb t (end_time w m)) (records w p)

-- p's newest end time for account k is after t
abbrev pub is_known_stale : List ℕ → ℕ → ℕ → ℕ → Bool
is_known_stale w p k t = ltb t (newest w p k)

-- by its parent's newest end times action n has a clash: it has read an account that is stale by them
unfoldable pub is_known_clash : List ℕ → ℕ → Bool
is_known_clash w n =
    any (λ k. has_read w n k && is_known_stale w (parent_of w n) k (read_time w (kind_of w n) n k)) accounts
