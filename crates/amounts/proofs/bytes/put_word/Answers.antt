-- `put_word` leaves the store with the word put at its place. Assumes nothing.
use native.Mathlib.Omega.{arith}
use mathlib.Core.Path.{◌∙◌}
use Rattle.rules.proofs.Laws.CopiedPart.{copied_part}
use Rattle.amounts.specs.Word.{with_bytes}
use Rattle.amounts.proofs.Words.{word_written}
use Rattle.amounts.proofs.bytes.put_word.Goals as goal

pub returns : goal.returns
unfolding with_bytes
returns c =
    let args = c.args in
    copied_part args.store.now c.to_le_bytes.result _ args.at _ (omega arith) c.copy_from_slice.ensures.after
    ∙ rw (c.to_le_bytes.ensures, word_written args.word)
