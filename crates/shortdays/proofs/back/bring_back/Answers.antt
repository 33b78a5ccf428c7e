-- `bring_back` opens the table, clears both stores and runs the first events. Assumes nothing.
use Prim.Native.Nat.{ℕ, ◌*◌}
use native.Mathlib.Nat.{sub-zero}
use mathlib.Core.Path.{◌∙◌}
use lib.ListN.{replicate, length-replicate}
use Rattle.rules.specs.Ledger.{ledger_of}
use Rattle.rules.specs.Rule.{rule_number}
use Rattle.rules.proofs.Laws.Refusals.{is_accepted}
use Rattle.table.proofs.Opens.{opens}
use Rattle.rules.specs.Encoding.{event_length, answer_length}
use Rattle.enumeration.specs.ShortDay.{most_short}
use Rattle.shortdays.proofs.BroughtBack.{brought_back}
use Rattle.shortdays.proofs.back.bring_back.Goals as goal

-- the words of the answers
abbrev answers_length : ℕ
answers_length = answer_length * most_short

pub unwrap-requires : goal.unwrap-requires
unwrap-requires c =
    let args = c.args in
    is_accepted _ ((rw c.from.ensures at c.open.ensures.cause) ∙ opens args.table.now args.rule c.requires.table_long)

pub unwrap-requires-2 : goal.unwrap-requires-2
unwrap-requires-2 c =
    let args = c.args in
    let brought =
    brought_back (rule_number args.rule) args.list.now args.p c.requires.has_events (replicate answers_length 0)
    (length-replicate {A = ℕ} answers_length 0) (ledger_of args.table.now args.base.now args.shadow.now)
    c.requires.table_long c.requires.stores_fit (rw c.from.ensures at c.open.ensures.leaves) c.clear.ensures c.clear-2.ensures
    (rw (sub-zero (event_length * args.p)) at c.run.ensures)
    in
    is_accepted _ brought.1

pub returns : goal.returns
returns c =
    let args = c.args in
    let brought =
    brought_back (rule_number args.rule) args.list.now args.p c.requires.has_events (replicate answers_length 0)
    (length-replicate {A = ℕ} answers_length 0) (ledger_of args.table.now args.base.now args.shadow.now)
    c.requires.table_long c.requires.stores_fit (rw c.from.ensures at c.open.ensures.leaves) c.clear.ensures c.clear-2.ensures
    (rw (sub-zero (event_length * args.p)) at c.run.ensures)
    in
    brought.0
