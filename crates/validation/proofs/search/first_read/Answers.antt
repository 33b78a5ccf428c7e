-- `first_read` meets its contract: the smallest time so far is of the action's kind, and what is left of the accounts, from `k` on,
-- makes of it what they all make of the counter. Assumes nothing.
use Rattle.std.proofs.Common.{rules, ◌≡◌, refl, sym, ◌∙◌, arith}
use Rattle.rules.specs.Card.{account_count}
use Rattle.rules.specs.Table.{kind_of}
use Rattle.rules.proofs.Laws.RangeTests.{fold_of_range}
use Rattle.rows.specs.Times.{kind_in, number_in, sooner_read, IsTime}
use Rattle.validation.specs.FirstRead.{first_read}
use Rattle.validation.proofs.ClashSearch.{first_read_from, first_all, first_next, first_done}
use Rattle.validation.proofs.search.first_read.Goals as goal

pub returns : goal.returns
returns c =
    let w = c.args.table.now in
    let n = c.args.n in
    let h = kind_of w n in
    let first_of_all =
    fold_of_range (λ k first. (kind_in first ≡ h) × (first_read w h n ≡ first_read_from w h n k (number_in first)))
    c.fold.ensures.ran (omega arith)
    (c.counter-latest.ensures.kind ∙ c.kind_of.ensures, rw (c.counter-latest.ensures.number, c.kind_of.ensures) (first_all _ _ _))
    (λ k a b q inside holds called.
    let sooner : IsTime b (kind_in a) (sooner_read w (kind_in a) n k (number_in a)) = search rules in
    (search rules, (sooner.kind ∙ holds.0, holds.1 ∙ first_next _ _ _ k (number_in a) inside ∙ rw (sooner.number, holds.0) refl))) in
    record { kind = first_of_all.0; number = sym (first_of_all.1 ∙ first_done _ _ _ account_count _ (omega arith)) }
