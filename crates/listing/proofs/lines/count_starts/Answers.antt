-- The loop's invariant: `starts` is how many of the answers so far are starts, and so it is at most their number. Assumes
-- nothing.
use Prim.Native.Nat.{ℕ, ◌+◌, ◌*◌, ◌<◌}
use native.Mathlib.Omega.{arith}
use mathlib.Core.Path.{◌≡◌, refl, ap, ap₂, ◌∙◌}
use lib.ListN.{get_or}
use Rattle.rules.specs.Encoding.{answer_length}
use Rattle.listing.specs.Buffer.{starts_of, starts_from}
use Rattle.listing.proofs.Starts.{starts_next, one_start}
use Rattle.listing.proofs.AnswerRows.{kind_of_row, counted}
use Rattle.listing.proofs.lines.count_starts.Goals as goal

pub loop-answer-init : goal.loop-answer-init
unfolding starts_from
loop-answer-init c = (omega arith, omega arith, refl)

pub loop-answer-preserved : goal.loop-answer-preserved
loop-answer-preserved c =
    let loop = c.loop-answer in
    let are = c.rows-answer-items.ensures in
    let inside : loop.answer-index < c.args.count = omega (arith, c.loop-answer-test.true, are.many) in
    let more : c.from-starts.result ≡ starts_of (get_or c.args.answers.now (answer_length * loop.answer-index) 0) =
    c.from-starts.ensures ∙ counted _ ∙ ap starts_of (kind_of_row are loop.answer-index inside) in (
      omega arith,
      omega (arith, loop.invariant.1, one_start _ more),
      rw starts_next (ap₂ (λ (m n : ℕ). m + n) loop.invariant.2 more),
    )

pub returns : goal.returns
returns c =
    let whole : c.loop-answer.answer-index ≡ c.args.count =
    omega (arith, c.loop-answer.invariant.0, c.loop-answer-test.false, c.rows-answer-items.ensures.many) in
    rw whole at c.loop-answer.invariant.2
