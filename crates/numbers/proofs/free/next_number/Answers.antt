-- `next_number` meets its contract: the lowest free number of all that were given is the lowest from `m` on, `m` the number at
-- the loop's head, and the test decides `m` itself; where there is none, the highest number decides. Assumes nothing.
use native.Mathlib.Nat.{add-sub_cancel}
use native.Mathlib.Omega.{arith}
use mathlib.Core.Path.{sym, ◌∙◌}
use Rattle.rules.specs.Table.{actions}
use Rattle.numbers.proofs.Lowest.{lowest_here, lowest_next, lowest_done, found, not_found}
use Rattle.numbers.proofs.free.next_number.Goals as goal

pub overflow_add-m-end : goal.overflow_add-m-end
overflow_add-m-end c = let sound = c.requires in omega (arith, c.highest-last.ensures, sound.few)

pub loop-m-init : goal.loop-m-init
unfolding actions
loop-m-init c =
    (omega arith, omega arith, omega (arith, c.highest-last.ensures), rw (add-sub_cancel, c.highest-last.ensures))

pub is_free-requires : goal.is_free-requires
is_free-requires c =
    let loop = c.loop-m.invariant in
    record { sound = c.requires; given = (loop.0, omega (arith, loop.2, c.loop-m-test.true)) }

pub returns-then-is_free : goal.returns-then-is_free
returns-then-is_free c =
    let loop = c.loop-m.invariant in
    found _ _ loop.0 (loop.3 ∙ lowest_here _ _ _ c.loop-m-test.true (sym c.is_free.ensures ∙ c.if-is_free.true))

pub loop-m-preserved : goal.loop-m-preserved
loop-m-preserved c =
    let loop = c.loop-m.invariant in (
      omega arith,
      omega arith,
      loop.2,
      loop.3 ∙ lowest_next _ _ _ c.loop-m-test.true (sym c.is_free.ensures ∙ c.if-is_free.false),
    )

pub returns : goal.returns
returns c =
    let none = c.loop-m.invariant.3 ∙ lowest_done _ _ _ c.loop-m-test.false in
    c.then_some.ensures ∙ rw c.highest-last.ensures (not_found c.args.table.now none)
