-- RULES 7.16, of one parent, account by account. Assumes nothing.
use Rattle.std.specs.Prelude.{ℕ, Bool, not, ◌||◌, List}
use Rattle.rules.specs.Range.{all}
use Rattle.rules.specs.Table.{is_live, actions}
use Rattle.rules.specs.Walk.{is_under}
use Rattle.rules.specs.Sound.{is_told_true}

-- where m is live and below p, its read of account k is told the truth
unfoldable pub is_read_true : List ℕ → ℕ → ℕ → ℕ → Bool
is_read_true w p k m =
    let told = is_told_true w p m k in
    let below = is_under w p m in
    let read = not below || told in
    not (is_live w m) || read

-- .. and every action's is
unfoldable pub are_reads_true : List ℕ → ℕ → ℕ → Bool
are_reads_true w p k = all (is_read_true w p k) (actions w)
