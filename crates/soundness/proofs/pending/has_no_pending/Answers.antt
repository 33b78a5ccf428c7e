-- `has_no_pending` meets its contract: the words joined so far and those of the accounts from `k` on are 0 as all of them are.
-- Assumes nothing.
use Rattle.std.proofs.Common.{rules, ◌≡◌, ◌≤◌, bit_or, refl, sym, ◌∙◌, arith}
use Rattle.rules.specs.Range.{all}
use Rattle.rules.specs.Card.{account_count, first_charge, charge_accounts}
use Rattle.rules.specs.Table.{pending_word}
use Rattle.rules.proofs.Laws.RangeTests.{fold_of_range}
use Rattle.rows.proofs.JoinedWords.{is_none, none_from, none_all, none_next, none_done}
use Rattle.soundness.proofs.pending.has_no_pending.Goals as goal

pub returns : goal.returns
unfolding charge_accounts
returns c =
    let word = pending_word c.args.table.now c.args.n in
    let joined_all =
    fold_of_range (λ k joined. (first_charge ≤ k) × (all (is_none word) charge_accounts ≡ none_from word k joined))
    c.fold.ensures.ran (omega arith) (omega arith, none_all word first_charge)
    (λ k a b q inside holds called.
    let joined : b ≡ bit_or a (word k) = search rules in
    (search rules, (omega arith, holds.1 ∙ none_next word k a inside ∙ rw joined refl))) in
    sym (joined_all.1 ∙ none_done word account_count _ (omega arith))
