-- What stands in a new table, under whichever rule it was opened: no word but that of its rule. Assumes nothing.
use Prim.Native.Nat.{ℕ, ◌+◌, ◌*◌, ◌<◌}
use native.Mathlib.Omega.{arith}
use mathlib.Core.Path.{◌≡◌, ap, ◌∙◌}
use mathlib.Core.Logic.{◌≢◌}
use mathlib.Core.Bool.{Bool, true, false, cond}
use lib.Dec.{eqb}
use lib.ListN.{length-replicate, get_or-replicate}
use Rattle.rules.specs.Kind.{IsKind}
use Rattle.rules.specs.Table.{width, table_length, word, new_table, new_table_under, rule_field, rule_of, with_rule, backward_rule, forward_rule, highest_field, highest}
use Rattle.rules.specs.Queue.{queue_length_field, queue_length}
use Rattle.rules.proofs.Laws.Tests.{cond_holds}
use Rattle.rules.proofs.Laws.Words.{word_same, word_other_field}

-- the words of a table of zeros
zero_word : (f : ℕ) → f < width → word new_table 0 f ≡ 0
unfolding new_table word
zero_word f inside = get_or-replicate table_length (width * 0 + f) 0 0 (omega arith)

-- the head's other words
pub new_head : (r f : ℕ) → f < width → f ≢ rule_field → word (new_table_under r) 0 f ≡ 0
unfolding new_table_under
new_head r f inside other =
    cond_holds (λ w. word w 0 f ≡ 0) (eqb r forward_rule)
    (λ _. word_other_field new_table 0 rule_field f _ other ∙ zero_word f inside)
    (λ _. zero_word f inside)

pub new_rule : (r : ℕ) → rule_of (new_table_under r) ≡ cond (eqb r forward_rule) forward_rule backward_rule
unfolding new_table_under new_table
new_rule r = by_rule (eqb r forward_rule)
  where
    by_rule : (b : Bool) → rule_of (cond b (with_rule new_table forward_rule) new_table) ≡ cond b forward_rule backward_rule
    by_rule true =
        ap (λ x. x + 1) (word_same new_table 0 rule_field 1 (length-replicate {A = ℕ} table_length 0) (omega arith) (omega arith))
    by_rule false = ap (λ x. x + 1) (zero_word rule_field (omega arith))

-- no number has been given, and nobody waits
pub new_highest : (r : ℕ) → highest (new_table_under r) ≡ 0
new_highest r = new_head r highest_field (omega arith) (λ z. omega arith)

pub new_queues_empty : (r h : ℕ) → IsKind h → queue_length (new_table_under r) h ≡ 0
new_queues_empty r h known = new_head r (queue_length_field h) (omega arith) (λ z. omega arith)
