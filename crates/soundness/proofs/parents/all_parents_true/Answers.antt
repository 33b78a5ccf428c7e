-- `all_parents_true` meets its contract: where the store has passed, whether all parents pass is whether those of the live actions
-- from `m` on do, `m` the action at the loop's head, and the test decides `m` itself; who is marked has passed. Assumes nothing.
use Prim.Native.Nat.{◌+◌}
use native.Mathlib.Nat.{add-sub_cancel}
use native.Mathlib.Omega.{arith}
use mathlib.Core.Path.{sym, ◌∙◌}
use mathlib.Core.Bool.{false}
use lib.ListN.{replicate}
use borrow.Author.Rules.{rules}
use Rattle.rules.specs.Table.{most_actions, actions}
use Rattle.rules.proofs.Laws.Ranges.{all_left_here, all_left_next, all_left_done}
use Rattle.soundness.proofs.TestedParents.{parents_by_live, none_passed, one_passes, parent_passes}
use Rattle.soundness.proofs.parents.all_parents_true.Goals as goal

pub are_newest_true-requires-clause-live_climb : goal.are_newest_true-requires-clause-live_climb
are_newest_true-requires-clause-live_climb c = c.requires.live_climb

pub are_newest_true-requires-clause-store_or_live : goal.are_newest_true-requires-clause-store_or_live
are_newest_true-requires-clause-store_or_live c = (omega arith, λ none. absurd (omega arith))

pub returns-then-not-is_true_above : goal.returns-then-not-is_true_above
returns-then-not-is_true_above c =
    sym (c.loop-m.invariant.2
    ∙ all_left_here _ _ _ c.loop-m-test.true (sym c.is_true_above.ensures ∙ c.if-not-is_true_above.true))

pub pass_parent-requires : goal.pass_parent-requires
pass_parent-requires c =
    let climb = c.requires.live_climb in
    record { has_row = search rules; has_parent_row = omega (arith, climb.known c.loop-m.m (omega (arith, c.highest-last.ensures)), climb.few) }

pub loop-m-preserved : goal.loop-m-preserved
loop-m-preserved c =
    let loop = c.loop-m in
    let above = sym c.is_true_above.ensures ∙ c.if-not-is_true_above.false in (
      omega arith,
      rw c.pass_parent.ensures (parent_passes _ _ loop.invariant.1 loop.m above),
      loop.invariant.2 ∙ all_left_next _ _ _ c.loop-m-test.true above,
    )

pub returns : goal.returns
returns c = sym (c.loop-m.invariant.2 ∙ all_left_done _ _ _ c.loop-m-test.false)

pub returns-then-not-are_newest_true : goal.returns-then-not-are_newest_true
returns-then-not-are_newest_true c =
    rw (parents_by_live _ c.requires.live_climb c.requires.live_parents, sym c.are_newest_true.ensures ∙ c.if-not-are_newest_true.true)

pub loop-m-init : goal.loop-m-init
unfolding actions
loop-m-init c =
    let store = sym c.are_newest_true.ensures ∙ c.if-not-are_newest_true.false in (
      omega arith,
      one_passes _ (replicate (most_actions + 1) false) (none_passed _ (most_actions + 1)) 0 store,
      rw (parents_by_live _ c.requires.live_climb c.requires.live_parents, store, add-sub_cancel, c.highest-last.ensures),
    )

pub is_true_above-requires : goal.is_true_above-requires
is_true_above-requires c =
    record { live_climb = c.requires.live_climb; live_parents = c.requires.live_parents; given = omega (arith, c.highest-last.ensures); are_passed = c.loop-m.invariant.1 }
