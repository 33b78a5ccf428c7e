-- RULES 8.4: what becomes of a commit with a sum that is no amount. Assumes nothing.
use Rattle.std.specs.Prelude.{Bool, cond}
use Rattle.rules.specs.Ledger.{Ledger}
use Rattle.rules.specs.declared.refusal.Refusal.TheVariants.{Sum}
use Rattle.rules.specs.declared.Answer.TheVariants.{Refused}
use Rattle.rules.specs.Step.{Outcome}

-- RULES 8.4: an outcome, or a refusal with the ledger as it was where a sum is outside
abbrev pub unless_outside : Bool → Ledger → Outcome → Outcome
unless_outside outside s o = cond outside (record { answer = Refused Sum; after = s }) o
