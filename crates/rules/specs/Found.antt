-- RULES 4: what is found against a commit, by what it is found against and the account. Assumes nothing.
use Rattle.std.specs.Prelude.{ℕ, Option, Some}
use Rattle.rules.specs.declared.Found.{Found}

abbrev pub found_at : ℕ → ℕ → Option Found
found_at against account = Some (record { against = against; account = account })
