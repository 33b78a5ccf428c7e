-- RULES 13: all the worked cases that are proved, in one list; proofs/Cases.antt proves them by one theorem. Assumes nothing.
use Rattle.std.specs.Prelude.{List, ◌++◌}
use Rattle.cases.specs.Case.{Case, cases_to14, cases_to25, cases_to30, cases_to37, cases_to43}
use Rattle.cases.specs.BothRules.{cases_to51, cases_to62}

unfoldable pub cases : List Case
cases = cases_to14 ++ cases_to25 ++ cases_to30 ++ cases_to37 ++ cases_to43 ++ cases_to51 ++ cases_to62
