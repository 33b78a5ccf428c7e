-- `first_clash` meets its contract. The outer loop's invariant: `last` is a time of the action's kind, and the search has come to
-- the records with end times above it; the measure is what is left above it of that kind's counter. The inner loop's: the search
-- has come to account `k` of record `m`, and its measure is what is left of the accounts. Assumes nothing.
use native.Mathlib.Omega.{arith}
use mathlib.Core.Path.{refl, sym, ap, ◌∙◌}
use borrow.Author.Rules.{rules}
use Rattle.rules.specs.Card.{accounts}
use Rattle.rules.specs.Kind.{kind_under}
use Rattle.rules.proofs.Clash.Records.{next_given}
use Rattle.rules.proofs.Clash.Searching.{sound_searchable, search_none, search_next, search_after_finds}
use Rattle.rows.proofs.Numbered.{found_at, found_positive, found_none}
use Rattle.validation.proofs.ClashSearch.{next_child, accounts_here, accounts_next, accounts_done, first_reads}
use Rattle.validation.proofs.search.first_clash.Goals as goal

pub records-init : goal.records-init
records-init c =
    let searchable = sound_searchable c.requires.sound c.args.n c.requires.live_action.0 c.requires.live_action.1 in (
      c.first_read-last.ensures.kind,
      rw c.first_read-last.ensures.number (sym (search_after_finds _ _ searchable _ (first_reads _ _ _))),
    )

pub next_record-requires-clause-time_under : goal.next_record-requires-clause-time_under
next_record-requires-clause-time_under c = rw c.parent-p.ensures c.records.invariant.0

-- `m` is the next record after `last`, an action of the table, which ends above `last` and within the counter
pub end_of-last-requires : goal.end_of-last-requires
end_of-last-requires c =
    let is_next = rw c.parent-p.ensures at c.in-Some.ensures in
    let found = next_given c.requires.sound _ _ _ (sym (found_at is_next)) (found_positive _ is_next) in
    search rules

pub loop-k-init : goal.loop-k-init
unfolding accounts
loop-k-init c =
    let searchable = sound_searchable c.requires.sound c.args.n c.requires.live_action.0 c.requires.live_action.1 in
    let is_next = rw c.parent-p.ensures at c.in-Some.ensures in
    rw c.end_of-last.ensures.number (
      omega arith,
      c.records.invariant.1 ∙ search_next _ _ searchable _ _ (sym (found_at is_next)) (found_positive _ is_next),
    )

pub records-smaller : goal.records-smaller
records-smaller c =
    let told = c.end_of-last.ensures.number in
    let is_next = rw c.parent-p.ensures at c.in-Some.ensures in
    let found = next_given c.requires.sound _ _ _ (sym (found_at is_next)) (found_positive _ is_next) in
    omega arith

pub records-preserved : goal.records-preserved
records-preserved c =
    let is_next = rw c.parent-p.ensures at c.in-Some.ensures in (
      c.end_of-last.ensures.kind ∙ ap kind_under (next_child _ _ _ _ (sym (found_at is_next)) (found_positive _ is_next)),
      c.loop-k.invariant.1 ∙ accounts_done _ _ _ _ _ c.loop-k-test.false,
    )

pub is_clash-requires : goal.is_clash-requires
is_clash-requires c =
    let is_next = rw c.parent-p.ensures at c.in-Some.ensures in
    let found = next_given c.requires.sound _ _ _ (sym (found_at is_next)) (found_positive _ is_next) in
    search rules

pub loop-k-preserved : goal.loop-k-preserved
loop-k-preserved c = (
  omega arith,
  c.loop-k.invariant.1
      ∙ accounts_next _ _ _ _ _ c.loop-k-test.true (sym c.is_clash.ensures ∙ c.if-is_clash.false),
)

pub returns-in_default : goal.returns-in_default
returns-in_default c =
    let searchable = sound_searchable c.requires.sound c.args.n c.requires.live_action.0 c.requires.live_action.1 in
    let is_next = rw c.parent-p.ensures at c.in_default.ensures in
    sym (c.records.invariant.1 ∙ search_none _ _ searchable _ _ (sym (found_none is_next)) refl)

pub returns-then-is_clash : goal.returns-then-is_clash
returns-then-is_clash c =
    rw (c.from.ensures, c.end_of-last.ensures.number)
    (sym
    (c.loop-k.invariant.1
    ∙ accounts_here _ _ _ _ _ c.loop-k-test.true (sym c.is_clash.ensures ∙ c.if-is_clash.true)))
