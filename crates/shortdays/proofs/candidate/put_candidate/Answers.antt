-- `put_candidate` puts the candidate's three first bytes and then its card. Assumes nothing.
use Prim.Native.Nat.{ℕ, ◌+◌, ◌*◌}
use native.Mathlib.Numerals.{add-one, add-two}
use native.Mathlib.Omega.{arith}
use mathlib.Core.Path.{◌≡◌}
use mathlib.Core.Bool.{cond}
use lib.Dec.{eqb}
use lib.ListN.{length-set, length-replicate}
use Rattle.rules.specs.Card.{card_length}
use Rattle.rules.specs.Event.{write_code}
use Rattle.rules.specs.Encoding.{event_length}
use Rattle.enumeration.specs.Lists.{candidate, code_tried}
use Rattle.shortdays.specs.Written.{with_event}
use Rattle.shortdays.proofs.Writing.{event_put, filling_low}
use Rattle.shortdays.proofs.candidate.put_candidate.Goals as goal

pub bounds-list-at-2 : goal.bounds-list-at-2
bounds-list-at-2 c = simp length-set (omega arith)

pub bounds-list-at-3 : goal.bounds-list-at-3
bounds-list-at-3 c = simp length-set (omega arith)

pub byte_of-card-requires : goal.byte_of-card-requires
byte_of-card-requires c =
    rw c.filling.ensures (filling_low (eqb c.code_of-code.result write_code) c.args.p c.requires.has_event.0)

pub returns : goal.returns
unfolding with_event
returns c =
    let args = c.args in
    let at = event_length * args.p in
    let next : event_length * (args.p + 1) ≡ at + event_length = omega arith in
    rw (
      c.put_card.ensures,
      c.byte_of-card.ensures,
      c.filling.ensures,
      c.byte_of-2.ensures,
      c.byte_of.ensures,
      c.code_of-code.ensures,
      add-one at,
      add-two at,
      next,
    )
    (event_put args.list.now at (candidate args.p args.c)
    (length-replicate {A = ℕ} card_length (cond (eqb (code_tried args.c) write_code) (args.p + 1) 0)) (omega arith))
