-- `note_one` meets its contract: where the account isn't written, what stands there could be put there again. Assumes nothing.
use mathlib.Core.Path.{◌∙◌, sym}
use Rattle.rules.proofs.Laws.Words.{with_word_own}
use Rattle.commits.proofs.newest.note_one.Goals as goal

pub returns-then-not-has_written : goal.returns-then-not-has_written
returns-then-not-has_written c = rw (sym c.has_written.ensures ∙ c.if-not-has_written.true) (sym (with_word_own _ _ _))

pub returns : goal.returns
returns c =
    rw (sym c.has_written.ensures ∙ c.if-not-has_written.false) c.note_end.ensures
