-- `put_block` puts the line of one account behind that of the other. Assumes nothing.
use native.Mathlib.Omega.{arith}
use mathlib.Core.Path.{◌≡◌, refl}
use mathlib.Core.List.{List, flat_map}
use Prim.Native.Nat.{ℕ, ◌-◌}
use lib.ListN.{length}
use Rattle.rules.specs.Range.{up_from}
use Rattle.rules.specs.Card.{charge_accounts}
use Rattle.rules.specs.Tree.{balance_length, block_place, report_length, balance_words}
use Rattle.report.proofs.Words.{put_first, room_here, put_next, put_last}
use Rattle.report.proofs.balance.put_block.Goals as goal

one_line : (table base opening : List ℕ) (k : ℕ) → length (balance_words table base opening k) ≡ balance_length
unfolding balance_words
one_line table base opening k = refl

all_lines :
    (table base opening : List ℕ) → length (flat_map (balance_words table base opening) charge_accounts) ≡ report_length - block_place
unfolding charge_accounts up_from flat_map balance_words
all_lines table base opening = refl

pub loop-k-init : goal.loop-k-init
loop-k-init c =
    let args = c.args in
    put_first _ balance_length _ block_place (omega (arith, all_lines args.table.now args.base.now args.opening.now))

pub put_balance-requires : goal.put_balance-requires
put_balance-requires c =
    let loop = c.loop-k in
    let room = room_here _ _ loop.invariant c.loop-k-test.true in
    let words = one_line c.args.table.now c.args.base.now c.args.opening.now loop.k in
    record { has_row = c.requires.has_row; base = c.requires.base; charge = omega (arith, loop.invariant); has_room_for = omega (arith, room, words) }

pub loop-k-preserved : goal.loop-k-preserved
loop-k-preserved c =
    let loop = c.loop-k in
    put_next _ _ loop.invariant c.loop-k-test.true (one_line _ _ _ _) _
    c.put_balance.ensures

pub shape_of-report : goal.shape_of-report
shape_of-report c = c.loop-k.invariant.long

pub returns : goal.returns
returns c = put_last _ _ c.loop-k.invariant c.loop-k-test.false
