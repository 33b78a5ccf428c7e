-- `store_answer` meets its contract: four words put one behind the other are their list put at the first's place. Assumes nothing.
use native.Mathlib.Numerals.{add-one, add-two, add-three}
use mathlib.Core.Path.{ap, ◌∙◌}
use mathlib.Core.List.{[], ◌∷◌}
use lib.Seq.{sets-eq}
use Rattle.std.specs.Prelude.{slice_index_or}
use Rattle.rules.specs.Encoding.{words_of, with_words}
use Rattle.rules.proofs.Laws.AnswerWords.{four_words}
use Rattle.lists.proofs.run.store_answer.Goals as goal

pub returns : goal.returns
returns c =
    let args = c.args in
    let words = words_of args.answer in
    rw (c.words.ensures, add-one args.at, add-two args.at, add-three args.at)
    (sets-eq
    (slice_index_or words 0 0 ∷ slice_index_or words 1 0 ∷ slice_index_or words 2 0 ∷ slice_index_or words 3 0 ∷ [])
    args.buffer.now args.at c.requires
    ∙ ap (with_words args.buffer.now args.at) (four_words args.answer))
