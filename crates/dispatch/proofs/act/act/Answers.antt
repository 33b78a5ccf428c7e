-- `act` meets its contract: where no early cause applies, its code's function has what it asks for and gives what the step
-- makes of that code. Assumes nothing.
use Rattle.rules.specs.Step.{start, write, enter}
use Rattle.dispatch.proofs.Permitted.{may_commit, may_enter, may_judge}
use Rattle.dispatch.proofs.Summed.{step_by_code}
use Rattle.dispatch.proofs.act.act.Goals as goal

pub returns-in-Start : goal.returns-in-Start
unfolding start
returns-in-Start c =
    rw (
      step_by_code _ _ (c.requires.stores_fit, c.requires.sound) c.requires.allowed c.args.code c.requires.code,
      c.in-Start.is,
      c.start-n.ensures.number,
      c.start-n.ensures.leaves,
    )

pub returns-in-Read : goal.returns-in-Read
returns-in-Read c =
    rw (
      step_by_code _ _ (c.requires.stores_fit, c.requires.sound) c.requires.allowed c.args.code c.requires.code,
      c.in-Read.is,
      c.read.ensures.says,
      c.read.ensures.leaves,
    )

pub returns-in-Write : goal.returns-in-Write
unfolding write
returns-in-Write c =
    rw (
      step_by_code _ _ (c.requires.stores_fit, c.requires.sound) c.requires.allowed c.args.code c.requires.code,
      c.in-Write.is,
      c.write.ensures.table,
      c.write.ensures.shadow,
    )

pub commit-requires-clause-live_action : goal.commit-requires-clause-live_action
commit-requires-clause-live_action c = may_commit _ c.requires.sound _ c.requires.code c.requires.allowed c.in-Commit.is

pub returns-in-Commit : goal.returns-in-Commit
returns-in-Commit c =
    rw (
      step_by_code _ _ (c.requires.stores_fit, c.requires.sound) c.requires.allowed c.args.code c.requires.code,
      c.in-Commit.is,
    )
    c.commit.ensures

pub returns-in-Abort : goal.returns-in-Abort
returns-in-Abort c =
    rw (
      step_by_code _ _ (c.requires.stores_fit, c.requires.sound) c.requires.allowed c.args.code c.requires.code,
      c.in-Abort.is,
    )
    c.abort.ensures

pub returns-in-Add : goal.returns-in-Add
returns-in-Add c =
    rw (
      step_by_code _ _ (c.requires.stores_fit, c.requires.sound) c.requires.allowed c.args.code c.requires.code,
      c.in-Add.is,
      c.add.ensures.says,
      c.add.ensures.leaves,
    )

pub enter-requires : goal.enter-requires
enter-requires c =
    let may = may_enter _ c.requires.sound _ c.requires.code c.requires.allowed c.in-Enter.is in
    record { sound = c.requires.sound; may_wait = may.0; unqueued = may.1 }

pub returns-in-Enter : goal.returns-in-Enter
unfolding enter
returns-in-Enter c =
    rw (
      step_by_code _ _ (c.requires.stores_fit, c.requires.sound) c.requires.allowed c.args.code c.requires.code,
      c.in-Enter.is,
      c.enter.ensures,
    )

pub judge-requires-clause-queued : goal.judge-requires-clause-queued
judge-requires-clause-queued c = may_judge _ c.requires.sound _ c.requires.code c.requires.allowed c.in-Judge.is

pub returns-in-Judge : goal.returns-in-Judge
returns-in-Judge c =
    rw (
      step_by_code _ _ (c.requires.stores_fit, c.requires.sound) c.requires.allowed c.args.code c.requires.code,
      c.in-Judge.is,
    )
    c.judge.ensures
