-- `uncharged` meets its contract: the literal's pattern is +0. Assumes nothing.
use Rattle.std.proofs.Common.{refl}
use lib.Ieee.{of_bits}
use Rattle.charges.proofs.running.uncharged.Goals as goal

pub returns : goal.returns
unfolding of_bits
returns c = refl
