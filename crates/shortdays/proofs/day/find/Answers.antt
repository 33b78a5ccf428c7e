-- `find` begins the search on a new table over stores of zeros; of no events there is one list. Assumes nothing.
use native.Mathlib.Omega.{arith}
use Prim.Native.Nat.{ℕ, ◌≤◌}
use mathlib.Core.Path.{◌∙◌}
use lib.ListN.{replicate, length-replicate}
use Rattle.rules.specs.Card.{base_length, shadow_length}
use Rattle.rules.specs.Rule.{rule_number}
use Rattle.rules.specs.Table.{table_length}
use Rattle.rules.proofs.Laws.Refusals.{is_accepted}
use Rattle.table.proofs.Opens.{opens}
use Rattle.rules.specs.Ledger.{ledger_of}
use Rattle.shortdays.proofs.WholeDays.{opened_new, searching_first, none_found, none_past, day_sought}
use Rattle.shortdays.proofs.day.find.Goals as goal

pub returns-then-place-eq0 : goal.returns-then-place-eq0
returns-then-place-eq0 c = rw (c.if-k-eq0.true, c.if-place-eq0.true) (none_found _ _)

pub returns-then-k-eq0 : goal.returns-then-k-eq0
returns-then-k-eq0 c = rw c.if-k-eq0.true (none_past _ _ c.if-place-eq0.false)

pub unwrap-requires : goal.unwrap-requires
unwrap-requires c =
    is_accepted _
    ((rw c.from.ensures at c.open.ensures.cause)
    ∙ opens (replicate table_length 0) c.args.rule (length-replicate {A = ℕ} table_length 0))

pub seek-requires-clause-searching : goal.seek-requires-clause-searching
seek-requires-clause-searching c =
    let other = c.if-k-eq0.false in
    searching_first c.requires.short_long (omega (arith, other)) c.requires.k_le_most_short (opened_new (rule_number c.args.rule) (rw c.from.ensures at c.open.ensures.leaves))

pub returns : goal.returns
returns c =
    let args = c.args in
    let some : 1 ≤ args.k = omega (arith, c.if-k-eq0.false) in
    let last = c.seek.new in
    day_sought args.k (rule_number args.rule) args.place (ledger_of c.open.new.table (replicate base_length 0) (replicate shadow_length 0))
    (ledger_of last.table last.base last.shadow) args.list.now last.list c.seek.result some
    (opened_new (rule_number args.rule) (rw c.from.ensures at c.open.ensures.leaves)) c.seek.ensures
