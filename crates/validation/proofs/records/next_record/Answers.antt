-- `next_record` meets its contract. The loop's invariant: `next` is the next record among those with a number from `m` on, and
-- where there is one it is a child of `p`. Assumes nothing.
use native.Mathlib.Omega.{arith}
use mathlib.Core.Path.{◌≡◌, sym, ◌∙◌}
use borrow.Author.Rules.{rules}
use Rattle.rules.proofs.Laws.Tests.{and_left}
use Rattle.rules.proofs.Clash.Records.{record_parent}
use Rattle.validation.proofs.ClashSearch.{scan_start, scan_put, scan_over, scan_done}
use Rattle.validation.proofs.records.next_record.Goals as goal

pub loop-m-init : goal.loop-m-init
loop-m-init c = (omega arith, tt, rw (c.highest-last.ensures, scan_start))

pub loop-m-preserved-then-is_next_record : goal.loop-m-preserved-then-is_next_record
loop-m-preserved-then-is_next_record c =
    let told = sym c.is_next_record.ensures ∙ c.if-is_next_record.true in (
      omega arith,
      record { row = search rules; action = omega arith; child = record_parent _ _ _ (and_left _ _ told) },
      scan_put _ _ _ _ c.loop-m-test.true (rw c.highest-last.ensures at c.loop-m.auto.m) c.loop-m.invariant.2 told,
    )

pub loop-m-preserved : goal.loop-m-preserved
loop-m-preserved c = (
  omega arith,
  c.loop-m.invariant.1,
  scan_over _ _ _ _ c.loop-m-test.true (rw c.highest-last.ensures at c.loop-m.auto.m) c.loop-m.invariant.2
      (sym c.is_next_record.ensures ∙ c.if-is_next_record.false),
)

pub returns : goal.returns
returns c =
    let first : c.loop-m.m ≡ 1 = omega (arith, c.loop-m.invariant.0) in
    rw first at c.loop-m.invariant.2 ∙ rw scan_done
