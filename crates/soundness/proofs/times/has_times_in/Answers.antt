-- `has_times_in` meets its contract: the latest time so far and the accounts from `k` on decide as all of them do; that time stays
-- one of kind `h`. Assumes nothing.
use Rattle.std.proofs.Common.{rules, ◌≡◌, refl, ◌∙◌, arith}
use Rattle.rules.specs.Action.{kind_number}
use Rattle.rules.specs.Card.{account_count}
use Rattle.rules.specs.Sound.{has_times_in}
use Rattle.rules.proofs.Laws.RangeTests.{fold_of_range}
use Rattle.rows.specs.Times.{kind_in, number_in, later_read, IsTime}
use Rattle.soundness.proofs.ReadTimes.{times_in_from, times_in_all, times_in_next, times_in_done}
use Rattle.soundness.proofs.times.has_times_in.Goals as goal

pub returns : goal.returns
returns c =
    let w = c.args.table.now in
    let n = c.args.n in
    let h = kind_number c.args.h in
    let latest_all =
    fold_of_range (λ k latest. (kind_in latest ≡ h) × (has_times_in w n h ≡ times_in_from w h n k (number_in latest)))
    c.fold-latest.ensures.ran (omega arith) (c.counter-first.ensures.kind, rw c.counter-first.ensures.number (times_in_all _ _ _))
    (λ k a b q inside holds called.
    let later : IsTime b (kind_in a) (later_read w (kind_in a) n k (number_in a)) = search rules in
    (search rules, (later.kind ∙ holds.0, holds.1 ∙ times_in_next _ _ _ k (number_in a) inside ∙ rw (later.number, holds.0) refl))) in
    rw (latest_all.1 ∙ times_in_done _ _ _ account_count _ (omega arith), ← latest_all.0) c.is_in_time.ensures
