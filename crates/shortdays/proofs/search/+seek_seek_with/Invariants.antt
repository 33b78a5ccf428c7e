-- What falls from call to call of `seek` and `seek_with` is the number of events left and, among those of one place, of the
-- candidates left. Assumes nothing.
use Prim.Native.Nat.{ℕ, ◌+◌, ◌-◌, ◌*◌}
use Rattle.enumeration.specs.Lists.{candidate_count}
use Rattle.shortdays.proofs.search.+seek_seek_with.Given as goal

-- the calls that one place can take: a turn for each candidate and the one behind the last, and the candidate's own
abbrev turns : ℕ
turns = candidate_count + 2

abbrev pub decreases-seek : goal.decreases-seek
decreases-seek l = l.left * turns + (candidate_count + 1 - l.c)

abbrev pub decreases-seek_with : goal.decreases-seek_with
decreases-seek_with l = l.left * turns
