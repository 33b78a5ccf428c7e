-- `put_action` and `put_list` meet their contracts, by one proof for the two. Assumes nothing.
use Prim.Native.Nat.{◌+◌, ◌-◌}
use native.Mathlib.Omega.{arith}
use mathlib.Core.Path.{sym, ◌∙◌}
use mathlib.Core.List.{[], ◌∷◌}
use Rattle.rules.specs.Sound.{IsGiven}
use Rattle.rules.proofs.Tree.Shown.{child_shown}
use Rattle.report.specs.Lined.{line_at_depth, lines_from}
use Rattle.report.proofs.Lining.{lined_one, lined_both, lined_length, room_then, line_first, lines_of_last, lines_of_action, listed_first, room_listed, listed_next, listed_over, listed_last}
use Rattle.report.proofs.lines.+put_action_put_list.Goals as goal
use Rattle.report.proofs.lines.+put_action_put_list.Goals.{put_list-then-is_child, put_list-else-is_child}

-- ---- `put_action`

pub put_action-put_line-requires : goal.put_action-put_line-requires
put_action-put_line-requires t c =
    record {
      figures_fit = c.requires.figures_fit;
      has_line = c.requires.has_line;
      has_room_for = line_first _ _ _ _ c.requires.has_line_room;
    }

pub put_action-overflow_mul-lines : goal.put_action-overflow_mul-lines
put_action-overflow_mul-lines t c =
    omega (arith, line_first _ _ _ _ c.requires.has_line_room, c.requires.has_line_room.whole)

pub put_action-overflow_add-next : goal.put_action-overflow_add-next
put_action-overflow_add-next t c =
    omega (arith, line_first _ _ _ _ c.requires.has_line_room, c.requires.has_line_room.whole)

pub put_action-returns-then-levels-eq0 : goal.put_action-returns-then-levels-eq0
put_action-returns-then-levels-eq0 t c =
    rw (c.if-levels-eq0.true, lines_of_last c.args.table.now c.args.depth c.args.n) (lined_one _ _ _ _ _ c.put_line.ensures)

pub put_action-put_list-requires : goal.put_action-put_list-requires
put_action-put_list-requires t c =
    let args = c.args in
    let first = lined_one _ _ _ _ _ c.put_line.ensures in
    let lines = lines_of_action args.table.now args.depth args.n args.levels (omega arith) in
    let under = lines_from (args.levels - 1) args.table.now (args.depth + 1) args.n 1 in
    let behind =
    room_then (line_at_depth args.depth args.n ∷ []) under (rw lines at c.requires.has_line_room) _ (lined_length _ first) _
    first.counted
    in (
      omega arith,
      (
        c.requires.figures_fit,
        (c.requires.has_line.1, (omega (arith, c.requires.has_levels), behind)),
      ),
    )

pub put_action-returns : goal.put_action-returns
put_action-returns t c =
    rw (lines_of_action c.args.table.now c.args.depth c.args.n c.args.levels (omega arith))
    (lined_both _ (lined_one _ _ _ _ _ c.put_line.ensures) c.put_list.ensures)

-- ---- `put_list`

pub put_list-loop-i-init : goal.put_list-loop-i-init
put_list-loop-i-init t c = listed_first _ _ _ _ _ _

pub put_list-put_action-next-requires : goal.put_list-put_action-next-requires
put_list-put_action-next-requires t c =
    let args = c.args in
    let listed = c.loop-i.invariant in
    let is = sym c.is_child.ensures ∙ c.if-is_child.true in
    let given : IsGiven args.table.now c.loop-i.i = omega (arith, c.highest-last.ensures, listed.begun) in
    let shown = child_shown c.requires.figures_fit.sound args.p c.loop-i.i given is c.requires.shown in
    let room = room_listed _ _ _ _ listed given.1 is c.requires.has_line_room in
    (omega arith, (c.requires.figures_fit, ((given, shown), (c.requires.has_levels, room))))

pub put_list-loop-i-preserved : goal.put_list-loop-i-preserved
put_list-loop-i-preserved t c =
    let listed = c.loop-i.invariant in
    let tested = sym c.is_child.ensures in
    elim c.if-is_child.branch [
      | put_list-then-is_child w ↦
          rw (w.report-is, w.next-is)
          (listed_next _ _ _ _ listed (omega (arith, c.highest-last.ensures)) (tested ∙ w.if-is_child.true) w.put_action-next.ensures)
      | put_list-else-is_child w ↦
          rw (w.report-is, w.next-is)
          (listed_over _ _ _ _ listed (omega (arith, c.highest-last.ensures)) (tested ∙ w.if-is_child.false))
    ]

pub put_list-returns : goal.put_list-returns
put_list-returns t c = listed_last _ _ _ _ c.loop-i.invariant (omega (arith, c.highest-last.ensures))
