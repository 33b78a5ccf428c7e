-- `put_signed` meets its contract: a minus is put where the number that the word is lies below 0, and its digits. Assumes
-- nothing.
use native.Mathlib.Omega.{arith}
use mathlib.Core.Path.{ap}
use lib.ListN.{length}
use Rattle.text.proofs.Texts.{writes_then}
use Rattle.text.proofs.Decimals.{signed_below_zero, signed_from_zero}
use Rattle.text.proofs.Text.put_signed.Goals as goal
use Rattle.text.proofs.Text.put_signed.Goals.{then-is_negative, else-is_negative}

pub put_byte-requires : goal.put_byte-requires
put_byte-requires c =
    let number = c.cast_signed-number in
    omega (arith, ap length (signed_below_zero c.args.word number.type_inv number.ensures c.if-is_negative.true))

pub put_number-requires : goal.put_number-requires
put_number-requires c =
    let number = c.cast_signed-number in
    elim c.if-is_negative.branch [
      | then-is_negative w ↦
          let digits = signed_below_zero c.args.word number.type_inv number.ensures w.if-is_negative.true in
          rw (w.self-is, c.unsigned_abs.ensures.value) (omega (arith, w.put_byte.ensures, ap length digits))
      | else-is_negative w ↦
          let digits = signed_from_zero c.args.word number.type_inv number.ensures w.if-is_negative.false in
          rw (w.self-is, c.unsigned_abs.ensures.value) (omega (arith, ap length digits))
    ]

pub returns : goal.returns
returns c =
    let number = c.cast_signed-number in
    let put = rw c.unsigned_abs.ensures.value at c.put_number.ensures in
    elim c.if-is_negative.branch [
      | then-is_negative w ↦
          rw (signed_below_zero c.args.word number.type_inv number.ensures w.if-is_negative.true)
          (writes_then w.put_byte.ensures (rw w.self-is at put))
      | else-is_negative w ↦
          rw (signed_from_zero c.args.word number.type_inv number.ensures w.if-is_negative.false) (rw w.self-is at put)
    ]
