-- Where no figure of a tree is outside every total is an amount; and the words of figures that are. Assumes nothing.
use Prim.Native.Nat.{ℕ, ◌<◌}
use native.Mathlib.Omega.{arith}
use mathlib.Core.Path.{◌≡◌, sym, ap, ◌∙◌}
use mathlib.Core.Bool.{false, not, ◌&&◌}
use mathlib.Core.List.{List}
use Rattle.rules.specs.Range.{any}
use Rattle.rules.specs.Card.{first_charge, charge_count, charge_accounts, base_place}
use Rattle.rules.specs.Amount.{amount_of, amount_word, is_amount, base_amount}
use Rattle.rules.specs.Table.{highest, total_of, actions}
use Rattle.rules.specs.Sound.{Sound}
use Rattle.rules.specs.Tree.{is_shown, is_figure_outside}
use Rattle.rules.proofs.Laws.Tests.{not_fails, and_fails}
use Rattle.rules.proofs.Laws.Amounts.{word_read_back}
use Rattle.rules.proofs.Laws.Ranges.{not_any_at}
use Rattle.rules.proofs.Laws.Sets.{charge_within}
use Rattle.amounts.specs.Sum.{word_values}
use Rattle.amounts.specs.Word.{word_at}
use Rattle.amounts.proofs.Places.{base_amount_at}
use Rattle.report.specs.Asked.{FiguresFit}

pub figures_fit : {w : List ℕ} → Sound w → any (is_figure_outside w) charge_accounts ≡ false → FiguresFit w
unfolding charge_accounts is_figure_outside actions
figures_fit {w} s none =
    record {
      sound = s;
      totals =
          λ n k has charge.
          let here = not_any_at (is_figure_outside w) first_charge charge_count k none (charge_within charge) in
          let inside = not_any_at (λ m. is_shown w m && not (is_amount (total_of w m k))) 1 (highest w) n here (omega arith) in
          (not_fails _).0 ((and_fails (is_shown w n) _).0 inside has.1);
    }

-- the word at a card, for its amount
pub store_word :
    (store : List ℕ) (k word : ℕ) → word ≡ word_at store (base_place k) → word < word_values → amount_word (base_amount store k) ≡ word
store_word store k word there short = ap amount_word (base_amount_at store k ∙ ap amount_of (sym there)) ∙ word_read_back word short
