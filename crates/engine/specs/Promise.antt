-- What an event gives back. Assumes nothing.
use Rattle.std.specs.Prelude.{ℕ, ◌≡◌, List}
use Rattle.rules.specs.declared.Answer.{Answer}
use Rattle.rules.specs.Ledger.{ledger_of}
use Rattle.rules.specs.Answer.{said}
use Rattle.rules.specs.Step.{Outcome}

-- the answer is the outcome's and says what that says, and the ledger is the one that the outcome leaves
pub record Gives (answer : Answer) (table base shadow : List ℕ) (o : Outcome) : Type 0 where
  pub is : answer ≡ o.answer
  pub says : said answer ≡ said o.answer
  pub leaves : ledger_of table base shadow ≡ o.after
