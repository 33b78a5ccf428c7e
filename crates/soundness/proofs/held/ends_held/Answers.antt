-- `ends_held` meets its contract: the end times once all actions have been counted in are the present ones once those from `m` on
-- have been, `m` the action at the loop's head. Assumes nothing.
use native.Mathlib.Nat.{add-sub_cancel}
use native.Mathlib.Omega.{arith}
use mathlib.Core.Path.{sym, ◌∙◌}
use Rattle.rules.specs.Table.{actions}
use Rattle.rules.proofs.Laws.Ranges.{fold_left_next, fold_left_done}
use Rattle.soundness.specs.Held.{ends_held}
use Rattle.soundness.proofs.held.ends_held.Goals as goal

pub loop-m-init : goal.loop-m-init
unfolding ends_held actions
loop-m-init c = (omega arith, rw (add-sub_cancel, c.highest-last.ensures))

pub loop-m-preserved : goal.loop-m-preserved
loop-m-preserved c =
    let loop = c.loop-m in (
      omega arith,
      rw c.count_in.ensures
          (loop.invariant.1 ∙ fold_left_next _ loop.m _ loop.ends c.loop-m-test.true),
    )

pub returns : goal.returns
returns c = sym (c.loop-m.invariant.1 ∙ fold_left_done _ _ _ _ c.loop-m-test.false)
