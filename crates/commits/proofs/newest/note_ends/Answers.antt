-- `note_ends` meets its contract: of the end times to note by the table at entry those of the accounts from `k` on are left to put
-- into the present table, `k` the account at the loop's head; by the present table they are the same, and n is a child of p there too
-- (`Noting`). Assumes nothing.
use native.Mathlib.Omega.{arith}
use mathlib.Core.Path.{refl, sym, ◌∙◌}
use borrow.Author.Rules.{rules}
use Rattle.rules.specs.Card.{account_count, accounts, IsAccount}
use Rattle.rules.specs.Table.{with_fields}
use Rattle.rules.specs.Commit.{note_table}
use Rattle.rules.proofs.Laws.Ranges.{fold_left_next, fold_left_done}
use Rattle.commits.proofs.Noting.{same_notes_next, child_still}
use Rattle.commits.proofs.newest.note_ends.Goals as goal

pub loop-k-init : goal.loop-k-init
unfolding note_table with_fields accounts
loop-k-init c = (omega arith, refl, c.requires.child, λ j later is. refl, refl)

pub note_one-requires-clause-child : goal.note_one-requires-clause-child
note_one-requires-clause-child c = c.loop-k.invariant.2

pub loop-k-preserved : goal.loop-k-preserved
loop-k-preserved c =
    let loop = c.loop-k in
    let args = c.args in
    let apart = c.requires.are_two in
    let account : IsAccount loop.k = omega arith in
    let made = loop.invariant.3 loop.k (omega arith) account in (
      omega arith,
      search rules,
      rw c.note_one.ensures (child_still loop.table args.n args.p loop.k _ apart account loop.invariant.2),
      rw c.note_one.ensures
          (same_notes_next loop.table args.n args.p loop.k _ apart account args.table.now loop.invariant.3),
      rw (c.note_one.ensures, made) (loop.invariant.4 ∙ fold_left_next _ _ account_count _ c.loop-k-test.true),
    )

pub returns : goal.returns
returns c = sym (c.loop-k.invariant.4 ∙ fold_left_done _ _ account_count _ c.loop-k-test.false)
