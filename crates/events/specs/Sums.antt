-- RULES 8.4: a read and an add that have no other cause: what they answer and leave, with the sum that each makes.
-- Assumes nothing.
use Rattle.std.specs.Prelude.{ℕ, cond, List}
use Rattle.rules.specs.declared.Answer.{Answer}
use Rattle.rules.specs.declared.Answer.TheVariants.{Added, Refused}
use Rattle.rules.specs.Amount.{amount_in}
use Rattle.rules.specs.declared.refusal.Refusal.TheVariants.{Sum}
use Rattle.rules.specs.Cause.{is_read_outside, is_add_outside}
use Rattle.rules.specs.Step.{read_answer, read_table, add_table}

abbrev pub read_says : List ℕ → List ℕ → ℕ → ℕ → Answer
read_says w base n k = cond (is_read_outside w base n k) (Refused Sum) (read_answer w base n k)

abbrev pub read_leaves : List ℕ → List ℕ → ℕ → ℕ → List ℕ
read_leaves w base n k = cond (is_read_outside w base n k) w (read_table w n k)

abbrev pub add_says : List ℕ → ℕ → ℕ → List ℕ → Answer
add_says w n k card = cond (is_add_outside w n k card) (Refused Sum) Added

abbrev pub add_leaves : List ℕ → ℕ → ℕ → List ℕ → List ℕ
add_leaves w n k card = cond (is_add_outside w n k card) w (add_table w n k (amount_in card))
