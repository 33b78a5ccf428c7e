-- `has_no_newest` meets its contract: whether the words of all accounts are 0 is whether those before `k`, the account at the
-- loop's head, joined and all from `k` on are. Assumes nothing.
use Prim.Native.Nat.{◌-◌}
use mathlib.Core.Path.{◌≡◌}
use Rattle.rules.specs.Range.{all}
use Rattle.rules.specs.Card.{account_count, accounts}
use Rattle.rules.specs.Table.{newest}
use Rattle.rows.proofs.JoinedWords.{is_none, none_from}
use Rattle.rows.proofs.times.ends.has_no_newest.Given as goal

abbrev pub invariant-loop-k : goal.invariant-loop-k
invariant-loop-k l = all (is_none (newest l.table l.p)) accounts ≡ none_from (newest l.table l.p) l.k l.joined

abbrev pub decreases-loop-k : goal.decreases-loop-k
decreases-loop-k l = account_count - l.k
