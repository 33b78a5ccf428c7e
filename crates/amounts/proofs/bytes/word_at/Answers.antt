-- `word_at` reads the word of the bytes at a place. Assumes nothing.
use Prim.Native.Nat.{◌+◌, ◌-◌}
use native.Mathlib.Omega.{arith}
use mathlib.Core.Path.{◌≡◌, ◌∙◌}
use Rattle.rules.specs.Amount.{amount_length}
use Rattle.amounts.proofs.Words.{word_read}
use Rattle.amounts.proofs.bytes.word_at.Goals as goal

pub returns : goal.returns
returns c =
    let at = c.args.at in
    let whole : at + amount_length - at ≡ amount_length = omega arith in
    c.from_le_bytes.ensures
    ∙ word_read c.copy_from_slice.new.self (omega arith)
    ∙ rw (c.copy_from_slice.ensures.after, whole)
