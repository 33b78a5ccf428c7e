-- The loop's invariant: the fault of all charges is that of those from the next one on, and the test decides that one itself.
-- Assumes nothing.
use Rattle.std.proofs.Common.{◌<◌, ◌≤◌, sym, ◌∙◌, add-one, arith}
use native.Mathlib.Nat.{sub-zero}
use Rattle.charges.specs.List.{charges_in}
use Rattle.charges.proofs.Charges.{same_fault}
use Rattle.charges.proofs.Faults.{bad_here, good_here, none_left}
use Rattle.charges.proofs.list.charges_fault.Goals as goal

pub loop-charge-init : goal.loop-charge-init
loop-charge-init c = (omega arith, rw sub-zero)

pub returns-in_err-charge_fault : goal.returns-in_err-charge_fault
returns-in_err-charge_fault c =
    let chunks = c.as_chunks.ensures in
    let inside : c.loop-charge.charge-index < charges_in c.args.list.now = omega (arith, c.loop-charge-test.true, chunks.front_len) in
    let asked = c.in_err-charge_fault.ensures ∙ same_fault _ chunks.front c.loop-charge.charge-index inside in
    bad_here _ _ _ _ _ inside c.from_residual.ensures.1 asked ∙ sym c.loop-charge.invariant.1

pub loop-charge-preserved : goal.loop-charge-preserved
loop-charge-preserved c =
    let chunks = c.as_chunks.ensures in
    let inside : c.loop-charge.charge-index < charges_in c.args.list.now = omega (arith, c.loop-charge-test.true, chunks.front_len) in
    let asked = c.in_ok-charge_fault.ensures ∙ same_fault _ chunks.front c.loop-charge.charge-index inside in (
      omega (arith, inside),
      rw add-one (c.loop-charge.invariant.1 ∙ good_here _ _ _ inside (sym asked)),
    )

pub returns : goal.returns
returns c =
    let done : charges_in c.args.list.now ≤ c.loop-charge.charge-index =
    omega (arith, c.loop-charge-test.false, c.as_chunks.ensures.front_len) in
    sym (c.loop-charge.invariant.1 ∙ none_left _ _ _ done)
