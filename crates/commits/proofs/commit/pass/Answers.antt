-- `pass` leaves what `committed_under` says: the copies, then the end, then the kept sums, then the newest end times, then the sets
-- joined where the parent is an action. The end, the kept sums and whose child n is go by what no copy changes. A live action is not
-- its own parent, so the two have different rows. Assumes nothing.
use native.Mathlib.Omega.{arith}
use mathlib.Core.Path.{sym, ap, ◌∙◌}
use borrow.Author.Rules.{rules}
use borrow.Author.Tests.{eq-eqb, ne_eqb}
use Rattle.rules.specs.Table.{counter, parent_of, kind_of}
use Rattle.rules.specs.Ledger.{Ledger, ledger_of}
use Rattle.rules.specs.Commit.{commit_time, committed_under}
use Rattle.rules.proofs.Laws.Kinds.{kind_known}
use Rattle.rules.proofs.Laws.Walking.{live_no_own_parent}
use Rattle.rules.proofs.Copies.Whole.{copied_own_counter, copied_time}
use Rattle.rules.proofs.Sound.Committing.{parent_kept}
use Rattle.rules.proofs.Sound.Soundness.{counter_at_most}
use Rattle.commits.proofs.FittingSums.{sums_fit, kept_fit}
use Rattle.commits.proofs.commit.pass.Goals as goal

pub copy_down-requires : goal.copy_down-requires
copy_down-requires c =
    let parent = c.parent-p in
    let sound = c.requires.sound in
    let known = sound.known c.args.n c.requires.live_action.0 in
    let apart = live_no_own_parent sound c.args.n c.requires.live_action.0 c.requires.live_action.1 in
    let fit = sums_fit c.args.table.now c.args.base.now c.args.n c.requires.n_value in record { has_row = search rules; has_row_2 = omega (arith, known, parent.ensures, sound.few, sound.long); action = (search rules, omega (arith, apart, parent.ensures)); stores_fit = search rules; sums_fit = rw parent.ensures fit }

pub end-time-requires : goal.end-time-requires
end-time-requires c =
    let n = c.args.n in
    let kept =
    ap (λ (t : Ledger). counter t.table (kind_of t.table n)) c.copy_down.ensures ∙ copied_own_counter _ _ _ in
    let known = kind_known (parent_of c.args.table.now n) in
    record { has_row = search rules; can_count = rw kept (counter_at_most c.args.table.now c.requires.sound _ known) }

pub keep_totals-requires : goal.keep_totals-requires
keep_totals-requires c =
    let parent = c.parent-p in
    let args = c.args in
    let entry = ledger_of args.table.now args.base.now args.shadow.now in
    let sound = c.requires.sound in
    let known = sound.known args.n c.requires.live_action.0 in
    let apart = live_no_own_parent sound args.n c.requires.live_action.0 c.requires.live_action.1 in
    let table = ap (λ (t : Ledger). t.table) c.copy_down.ensures in
    let fit = kept_fit entry args.n c.requires.live_action.0.0 c.requires.n_value in record { has_row = search rules; has_row_2 = omega (arith, known, parent.ensures, sound.few, sound.long); are_two = omega (arith, apart, parent.ensures); kept_fit = rw (c.end-time.ensures.leaves, table, parent.ensures) fit }

pub note_ends-requires : goal.note_ends-requires
note_ends-requires c =
    let parent = c.parent-p in
    let args = c.args in
    let entry = ledger_of args.table.now args.base.now args.shadow.now in
    let sound = c.requires.sound in
    let known = sound.known args.n c.requires.live_action.0 in
    let apart = live_no_own_parent sound args.n c.requires.live_action.0 c.requires.live_action.1 in
    let table = ap (λ (t : Ledger). t.table) c.copy_down.ensures in
    let child = parent_kept entry args.n parent.result c.requires.live_action.0.0 ∙ sym parent.ensures in record { has_row = search rules; has_row_2 = omega (arith, known, parent.ensures, sound.few, sound.long); are_two = omega (arith, apart, parent.ensures); child = rw (c.keep_totals.ensures, c.end-time.ensures.leaves, table) child }

pub join_sets-requires : goal.join_sets-requires
join_sets-requires c =
    let parent = c.parent-p in
    let sound = c.requires.sound in
    let known = sound.known c.args.n c.requires.live_action.0 in
    let apart = live_no_own_parent sound c.args.n c.requires.live_action.0 c.requires.live_action.1 in
    omega (arith, known, apart, parent.ensures, sound.few, sound.long)

pub returns-then-p-ne-STORE : goal.returns-then-p-ne-STORE
unfolding committed_under
returns-then-p-ne-STORE c =
    let parent = c.parent-p in
    let n = c.args.n in
    let time = ap (λ (t : Ledger). commit_time t.table n) c.copy_down.ensures ∙ copied_time _ _ _ in record {
      time = rw c.end-time.ensures.time time;
      leaves = rw (
        ← parent.ensures,
        ne_eqb parent.result 0 c.if-p-ne-STORE.true,
        c.join_sets.ensures,
        c.note_ends.ensures,
        c.keep_totals.ensures,
        c.end-time.ensures.leaves,
        ← c.copy_down.ensures,
      );
    }

pub returns-else-p-ne-STORE : goal.returns-else-p-ne-STORE
unfolding committed_under
returns-else-p-ne-STORE c =
    let parent = c.parent-p in
    let n = c.args.n in
    let time = ap (λ (t : Ledger). commit_time t.table n) c.copy_down.ensures ∙ copied_time _ _ _ in record {
      time = rw c.end-time.ensures.time time;
      leaves = rw (
        ← parent.ensures,
        eq-eqb parent.result 0 c.if-p-ne-STORE.false,
        c.note_ends.ensures,
        c.keep_totals.ensures,
        c.end-time.ensures.leaves,
        ← c.copy_down.ensures,
      );
    }
