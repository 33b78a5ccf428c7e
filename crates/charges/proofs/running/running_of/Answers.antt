-- The loop's invariant: the record is that after the charges so far. Assumes nothing.
use Rattle.std.proofs.Common.{◌≡◌, ◌<◌, ◌∙◌, add-one, arith}
use Rattle.charges.specs.List.{charges_in}
use Rattle.charges.specs.Running.{running_after}
use Rattle.charges.proofs.Charges.{same_cents, same_charged}
use Rattle.charges.proofs.Faults.{good}
use Rattle.charges.proofs.Totals.{charge_fits}
use Rattle.charges.proofs.running.running_of.Goals as goal

pub loop-charge-init : goal.loop-charge-init
unfolding running_after
loop-charge-init c = (omega arith, c.uncharged-running.ensures)

pub charged_by-running-requires : goal.charged_by-running-requires
charged_by-running-requires c =
    let chunks = c.as_chunks.ensures in
    let i = c.loop-charge.charge-index in
    let inside : i < charges_in c.args.list.now = omega (arith, c.loop-charge-test.true, chunks.front_len) in
    rw (c.loop-charge.invariant.1, same_cents c.args.list.now chunks.front i inside)
    (charge_fits c.args.list.now c.args.account (good _ c.requires) i inside)

pub loop-charge-preserved : goal.loop-charge-preserved
unfolding running_after
loop-charge-preserved c =
    let chunks = c.as_chunks.ensures in
    let i = c.loop-charge.charge-index in
    let inside : i < charges_in c.args.list.now = omega (arith, c.loop-charge-test.true, chunks.front_len) in (
      omega (arith, inside),
      c.charged_by-running.ensures ∙ same_charged c.args.list.now chunks.front i inside _ _ ∙ rw (c.loop-charge.invariant.1, add-one),
    )

pub returns : goal.returns
returns c =
    let done : c.loop-charge.charge-index ≡ charges_in c.args.list.now =
    omega (arith, c.loop-charge.invariant.0, c.loop-charge-test.false, c.as_chunks.ensures.front_len) in
    rw done at c.loop-charge.invariant.1
