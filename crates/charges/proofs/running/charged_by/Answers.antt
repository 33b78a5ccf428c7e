-- `charged_by` meets its contract: the account is the one charged, or the record stays. Assumes nothing.
use Rattle.std.proofs.Common.{eq-eqb, ne_eqb}
use Rattle.charges.specs.Running.{charged_by}
use Rattle.charges.proofs.SignedWords.{held}
use Rattle.charges.proofs.running.charged_by.Goals as goal

pub charged-requires : goal.charged-requires
charged-requires c = rw (held c.cents_of.type_inv, c.cents_of.ensures) c.requires

pub returns-then-account_of-account : goal.returns-then-account_of-account
unfolding charged_by
returns-then-account_of-account c =
    rw (
      c.charged.ensures,
      held c.cents_of.type_inv,
      c.cents_of.ensures,
      ← c.account_of.ensures,
      eq-eqb _ _ c.if-account_of-account.true,
    )

pub returns : goal.returns
unfolding charged_by
returns c = rw (← c.account_of.ensures, ne_eqb _ _ c.if-account_of-account.false)
