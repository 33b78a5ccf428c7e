-- RULES 1.3 and 1.5: the numbers of an action's kind and of its state, as the table has them. Assumes nothing.
use Rattle.std.specs.Prelude.{ℕ}
use Rattle.rules.specs.declared.action.Kind.{Kind}
use Rattle.rules.specs.declared.action.Kind.TheVariants.{Top, Sub}
use Rattle.rules.specs.declared.action.State.{State}
use Rattle.rules.specs.declared.action.State.TheVariants.{Live, Committed, Aborted}
use Rattle.rules.specs.Kind.{top_kind, sub_kind}
use Rattle.rules.specs.Table.{live, committed, aborted}

abbrev pub kind_number : Kind → ℕ
kind_number Top = top_kind
kind_number Sub = sub_kind

abbrev pub state_number : State → ℕ
state_number Live = live
state_number Committed = committed
state_number Aborted = aborted
