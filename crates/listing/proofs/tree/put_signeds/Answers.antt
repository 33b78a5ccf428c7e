-- The loop's invariant: the words so far are put. Assumes nothing.
use native.Mathlib.Nat.{zero-add}
use native.Mathlib.Omega.{arith}
use mathlib.Core.Path.{◌≡◌}
use lib.ListN.{length}
use Rattle.listing.specs.Report.{signed_from}
use Rattle.text.proofs.Texts.{writes_then, writes_nothing}
use Rattle.listing.proofs.TreePieces.{signeds_next, next_signed_fits}
use Rattle.listing.proofs.tree.put_signeds.Goals as goal

pub loop-word-init : goal.loop-word-init
unfolding signed_from
loop-word-init c = (omega arith, writes_nothing _)

pub put_byte-requires : goal.put_byte-requires
put_byte-requires c =
    let words = c.args.words.now in
    omega (arith, c.loop-word.invariant.1, c.requires, next_signed_fits words 0 c.loop-word.word-index (length words) (omega arith))

pub put_signed-requires : goal.put_signed-requires
put_signed-requires c =
    let words = c.args.words.now in
    let i = c.loop-word.word-index in
    omega (
      arith,
      c.put_byte.ensures,
      c.loop-word.invariant.1,
      c.requires,
      rw (zero-add i) at (next_signed_fits words 0 i (length words) (omega arith)),
    )

pub loop-word-preserved : goal.loop-word-preserved
loop-word-preserved c = (
  omega arith,
  rw (signeds_next, zero-add c.loop-word.word-index)
      (writes_then c.loop-word.invariant.1 (writes_then c.put_byte.ensures c.put_signed.ensures)),
)

pub returns : goal.returns
returns c =
    let whole : c.loop-word.word-index ≡ length c.args.words.now = omega arith in
    rw whole at c.loop-word.invariant.1
