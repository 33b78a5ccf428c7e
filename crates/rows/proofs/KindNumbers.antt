-- The number of a kind is one of the two. Assumes nothing.
use Rattle.rules.specs.declared.action.Kind.{Kind}
use Rattle.rules.specs.declared.action.Kind.TheVariants.{Top, Sub}
use Rattle.rules.specs.Action.{kind_number}
use Rattle.rules.specs.Kind.{IsKind}
use native.Mathlib.Omega.{arith}

pub number_known : (h : Kind) → IsKind (kind_number h)
number_known Top = omega arith
number_known Sub = omega arith
