-- `run` meets its contract. The loop's invariant: the first i events are done, and what is left leaves and answers
-- what the whole list does. The measure is the number of events that are left. Assumes nothing.
use Prim.Native.Nat.{◌-◌}
use Rattle.rules.specs.Ledger.{ledger_of}
use Rattle.lists.proofs.ListRun.{Done}
use Rattle.lists.proofs.run.run.Given as goal

abbrev pub invariant-loop-i : goal.invariant-loop-i
invariant-loop-i l =
    Done (ledger_of l.initial.table l.initial.base l.initial.shadow) l.events l.initial.answers l.count l.i (ledger_of l.table l.base l.shadow) l.answers

abbrev pub decreases-loop-i : goal.decreases-loop-i
decreases-loop-i l = l.count - l.i
