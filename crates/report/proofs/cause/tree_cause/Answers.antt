-- `tree_cause` meets its contract: each exit gives the first of the causes that applies. Assumes nothing.
use mathlib.Core.Path.{◌≡◌, refl, sym, ◌∙◌}
use mathlib.Core.Bool.{true, false}
use Rattle.rules.specs.Range.{any}
use Rattle.rules.specs.Card.{charge_accounts}
use Rattle.rules.specs.Tree.{is_figure_outside}
use Rattle.rules.proofs.Laws.Tests.{not_holds, not_fails}
use Rattle.causes.proofs.Grouped.{stores_passed, stores_accepted}
use Rattle.report.proofs.Causes.{figure_causes, opening_wrong, opening_right, refused_by_stores}
use Rattle.report.proofs.cause.tree_cause.Goals as goal

pub returns-then-opening-ne-BASE_LENGTH : goal.returns-then-opening-ne-BASE_LENGTH
returns-then-opening-ne-BASE_LENGTH c = sym (opening_wrong _ _ _ _ c.if-opening-ne-BASE_LENGTH.true)

pub returns-in_err-store_cause : goal.returns-in_err-store_cause
returns-in_err-store_cause c =
    refused_by_stores _ _ _ _ _ _ c.if-opening-ne-BASE_LENGTH.false c.from_residual.ensures.1 c.in_err-store_cause.ensures

pub all_fit-requires : goal.all_fit-requires
all_fit-requires c = (stores_accepted _ _ _ refl (sym c.in_ok-store_cause.ensures)).1

pub returns-then-not-all_fit : goal.returns-then-not-all_fit
returns-then-not-all_fit c =
    let w = c.args.table.now in
    let accepted = stores_accepted _ _ _ refl (sym c.in_ok-store_cause.ensures) in
    let outside : any (is_figure_outside w) charge_accounts ≡ true = (not_fails _).0 (sym c.all_fit.ensures ∙ c.if-not-all_fit.true) in
    sym (opening_right _ _ _ _ c.if-opening-ne-BASE_LENGTH.false ∙ stores_passed _ _ _ (figure_causes w) accepted ∙ rw outside)

pub returns : goal.returns
returns c =
    let w = c.args.table.now in
    let accepted = stores_accepted _ _ _ refl (sym c.in_ok-store_cause.ensures) in
    let inside : any (is_figure_outside w) charge_accounts ≡ false = (not_holds _).0 (sym c.all_fit.ensures ∙ c.if-not-all_fit.false) in
    sym (opening_right _ _ _ _ c.if-opening-ne-BASE_LENGTH.false ∙ stores_passed _ _ _ (figure_causes w) accepted ∙ rw inside)
