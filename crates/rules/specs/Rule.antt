-- RULES 1.12 and 11.1: the number of a rule, and what is read from a number that may be none's. Assumes nothing.
use Rattle.std.specs.Prelude.{ℕ, ◌≡◌, false, Result, MatchResult}
use Rattle.rules.specs.declared.refusal.Refusal.{Refusal}
use Rattle.rules.specs.declared.refusal.Refusal.TheVariants
use Rattle.rules.specs.declared.rule.Rule.{Rule}
use Rattle.rules.specs.declared.rule.Rule.TheVariants.{Backward, Forward}
use Rattle.rules.specs.Table.{backward_rule, forward_rule, is_rule}

abbrev pub rule_number : Rule → ℕ
rule_number Backward = backward_rule
rule_number Forward = forward_rule

-- the rule with the number or, where it is none's, the refusal
abbrev pub ReadsRule : ℕ → Result Rule Refusal → Type 0
ReadsRule number result =
    MatchResult result (λ rule. rule_number rule ≡ number) (λ refusal. (refusal ≡ TheVariants.Rule) × (is_rule number ≡ false))
