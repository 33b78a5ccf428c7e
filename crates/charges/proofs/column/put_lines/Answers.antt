-- The loop's invariant: the lines of the accounts so far are put. Assumes nothing.
use Rattle.std.proofs.Common.{◌≡◌, ◌+◌, ◌-◌, suc, arith}
use Rattle.rules.specs.Card.{first_charge, account_count}
use Rattle.text.proofs.Texts.{writes_then, writes_nothing}
use Rattle.charges.specs.Column.{account_lines}
use Rattle.charges.proofs.Faults.{good}
use Rattle.charges.proofs.Totals.{running_number}
use Rattle.charges.proofs.Lines.{line_fits}
use Rattle.charges.proofs.column.put_lines.Goals as goal

pub loop-account-init : goal.loop-account-init
unfolding account_lines
loop-account-init c = (omega arith, omega arith, writes_nothing _)

pub put_line-requires : goal.put_line-requires
put_line-requires c =
    let (from, _, put) = c.loop-account.invariant in
    let list_good = good _ c.requires.faultless in
    let account = c.loop-account.account in
    let on : first_charge + (account - first_charge) ≡ account = omega (arith, from) in
    let room = rw on at (line_fits _ list_good (account - first_charge) (omega (arith, from, c.loop-account-test.true))) in
    rw c.running_of.ensures
    record { number = running_number _ _ list_good; fits = omega (arith, put, c.requires.room, room) }

pub loop-account-preserved : goal.loop-account-preserved
unfolding account_lines
loop-account-preserved c =
    let (from, _, put) = c.loop-account.invariant in
    let account = c.loop-account.account in
    let on : first_charge + (account - first_charge) ≡ account = omega (arith, from) in
    let next : account + 1 - first_charge ≡ suc (account - first_charge) = omega (arith, from) in
    let line = rw c.running_of.ensures at c.put_line.ensures in
    (omega arith, omega (arith, c.loop-account-test.true), rw (next, on) (writes_then put line))

pub returns : goal.returns
returns c =
    let (_, upto, put) = c.loop-account.invariant in
    let whole : c.loop-account.account ≡ account_count = omega (arith, upto, c.loop-account-test.false) in
    rw whole at put
