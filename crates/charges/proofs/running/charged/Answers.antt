-- `charged` meets its contract: the sum of the cents fits, and the literal is 100. Assumes nothing.
use Rattle.std.proofs.Common.{arith, to_z-of_z}
use lib.Ieee.{of_bits}
use Rattle.charges.specs.Running.{charged_of}
use Rattle.charges.proofs.Numbers.{hundred_is}
use Rattle.charges.proofs.SignedWords.{amount_fits, held}
use Rattle.charges.proofs.running.charged.Goals as goal

pub overflow_add-result : goal.overflow_add-result
overflow_add-result c =
    rw (held {z = c.args.running.cents} (omega arith), to_z-of_z c.ranges.cents) (amount_fits _ c.requires.sum_fits)

pub returns : goal.returns
unfolding of_bits charged_of
returns c =
    rw (
      c.nearest_i64_to_f64.ensures,
      held {z = c.args.running.cents} (omega arith),
      to_z-of_z c.ranges.cents,
      to_z-of_z (amount_fits _ c.requires.sum_fits),
      hundred_is,
    )
