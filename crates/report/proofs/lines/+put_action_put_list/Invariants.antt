-- What falls from call to call of `put_action` and `put_list` is the number of levels left. Assumes nothing.
use Prim.Native.Nat.{◌+◌, ◌*◌}
use Rattle.report.proofs.Lining.{ListedTo}
use Rattle.report.proofs.lines.+put_action_put_list.Given as goal

abbrev pub decreases-put_action : goal.decreases-put_action
decreases-put_action l = l.levels * 2

abbrev pub decreases-put_list : goal.decreases-put_list
decreases-put_list l = l.levels * 2 + 1

abbrev pub invariant-put_list-loop-i : goal.invariant-put_list-loop-i
invariant-put_list-loop-i l = ListedTo l.levels l.table l.depth l.p l.initial.report l.lines l.report l.next l.i
