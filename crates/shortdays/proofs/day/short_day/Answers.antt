-- `short_day` asks its causes, searches in a list of its own, and gives the list that is found there. Assumes nothing.
use Prim.Native.Nat.{◌+◌, ◌*◌, ◌≤◌}
use native.Mathlib.Nat.{sub-zero}
use native.Mathlib.Omega.{arith}
use mathlib.Core.Path.{◌≡◌, refl, sym}
use lib.ListN.{length, take}
use lib.Seq.{length-take-le}
use Rattle.rules.specs.Encoding.{event_length}
use Rattle.rules.proofs.Laws.CopiedPart.{copied_part}
use Rattle.enumeration.specs.ShortDay.{most_short}
use Rattle.shortdays.proofs.WholeDays.{day_refused, few_events, day_given, day_none}
use Rattle.shortdays.proofs.day.short_day.Goals as goal

pub returns-in_err-asked : goal.returns-in_err-asked
returns-in_err-asked c =
    let made = day_refused _ _ _ _ _ _ c.from_residual.ensures.1 c.in_err-asked.ensures.cause in
    record { answer = made.0; list = made.1 }

pub find-requires-clause-short_long : goal.find-requires-clause-short_long
find-requires-clause-short_long c = refl

pub returns-in-Ok : goal.returns-in-Ok
returns-in-Ok c =
    let args = c.args in
    let none = sym c.in_ok-asked.ensures.cause in
    let few : args.k ≤ most_short = few_events args.k args.rule none in
    let found = c.find.new.list in
    let inside : event_length * args.k ≤ length found = omega (arith, c.find.auto.list) in
    let whole : 0 + length (take (event_length * args.k) found) ≡ event_length * args.k =
    omega (arith, length-take-le (event_length * args.k) found inside) in
    let list =
    rw sub-zero at
    (copied_part args.list.now (take (event_length * args.k) found) _ 0 (event_length * args.k) whole c.copy_from_slice.ensures.after)
    in
    let made = day_given _ _ _ _ none found (rw c.in_ok-asked.ensures.rule at c.in-Ok.ensures) list in
    record { answer = made.0; list = made.1 }

pub returns-in-Err : goal.returns-in-Err
returns-in-Err c =
    let none = sym c.in_ok-asked.ensures.cause in
    let made = day_none _ _ _ _ none _ (rw c.in_ok-asked.ensures.rule at c.in-Err.ensures) in
    record { answer = made.0; list = made.1 }
