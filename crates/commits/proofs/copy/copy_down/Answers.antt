-- `copy_down` leaves what all turns leave. The loop's invariant: the ledger is the one at entry with the turns of the accounts
-- from k up. Assumes nothing.
use native.Mathlib.Omega.{arith}
use mathlib.Core.Path.{◌≡◌, refl, sym}
use borrow.Author.Rules.{rules}
use Rattle.rules.specs.Ledger.{ledger_of}
use Rattle.rules.proofs.Copies.Turns.{CanCopy}
use Rattle.rules.proofs.Copies.Falling.{copied_none}
use Rattle.commits.proofs.NextTurn.{turn_more, fits_in_turn}
use Rattle.commits.proofs.copy.copy_down.Goals as goal

pub loop-k-init : goal.loop-k-init
loop-k-init c = (omega arith, refl, refl, refl, sym (copied_none _ _ _))

pub loop-k-preserved : goal.loop-k-preserved
loop-k-preserved c =
    let loop = c.loop-k in (
      omega arith,
      search rules,
      search rules,
      search rules,
      rw c.copy_one.ensures (turn_more _ _ _ _ loop.k (omega arith) (omega arith) loop.invariant.4),
    )

pub returns : goal.returns
returns c =
    let all : c.loop-k.k ≡ 0 = omega arith in
    rw all at c.loop-k.invariant.4

pub copy_one-requires-clause-sum_fits : goal.copy_one-requires-clause-sum_fits
copy_one-requires-clause-sum_fits c =
    let args = c.args in
    let entry = ledger_of args.table.now args.base.now args.shadow.now in
    let can : CanCopy entry args.n args.p =
    record {
      stores = c.requires.stores_fit;
      own = c.requires.action.0;
      few = c.requires.has_row_2.known;
      apart = c.requires.action.1;
    }
    in
    fits_in_turn entry _ args.n args.p c.loop-k.k (omega arith) (omega arith) c.loop-k.invariant.4 can c.requires.sums_fit
