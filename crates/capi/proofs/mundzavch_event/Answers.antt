-- The four numbers handed back are the words of the answer, which is the rule's. Assumes nothing.
use mathlib.Core.Path.{ap, ◌∙◌}
use Rattle.rules.specs.Encoding.{words_of}
use Rattle.rules.proofs.Laws.AnswerWords.{four_words}
use Rattle.capi.proofs.mundzavch_event.Goals as goal

pub returns : goal.returns
returns c =
    let event = c.event-answer in
    record {
      says = rw c.words-words.ensures (four_words event.result ∙ ap words_of event.ensures.is);
      leaves = event.ensures.leaves;
    }
