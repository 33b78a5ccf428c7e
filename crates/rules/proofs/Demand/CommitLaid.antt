-- What a commit lays: the effects of the one that commits on its parent's or, where it is a topaction, on what the base shows.
-- It is asked that the sums fit. Assumes nothing.
use Prim.Native.Nat.{ℕ, ◌≤◌, ◌<◌}
use native.Mathlib.Omega.{arith}
use mathlib.Core.Path.{◌≡◌, sym, ap, ◌∙◌}
use mathlib.Core.Logic.{◌≢◌}
use mathlib.Core.Bool.{true, false, cond}
use lib.IntN.{◌+ℤ◌}
use Rattle.std.specs.Prelude.{None}
use Rattle.rules.specs.Card.{account_count, first_charge, IsCharge, base_place, shadow_place, card_at}
use Rattle.rules.specs.Amount.{amount_of, is_amount, amount_in, with_amount, base_amount}
use Rattle.rules.specs.Table.{parent_of, write_entry, entered, has_written, pending_word, pending_sum}
use Rattle.rules.specs.Sound.{IsGiven}
use Rattle.rules.specs.Ledger.{Ledger}
use Rattle.rules.specs.Cause.{is_commit_outside}
use Rattle.rules.specs.Commit.{committed_under}
use Rattle.rules.specs.Serial.Effect.{puts, adds, lay}
use Rattle.rules.proofs.Laws.Amounts.{amount_read_back, amount_put}
use Rattle.rules.proofs.Laws.Charges.{commit_sum_top, commit_sum_below, has_card_below}
use Rattle.rules.proofs.Laws.Bytes.{card_at_beyond}
use Rattle.rules.proofs.Laws.Permitted.{Committable, commit_sum_fits}
use Rattle.rules.proofs.Copies.Turns.{settled_card, added_word}
use Rattle.rules.proofs.Sound.Committing.{commit_write, commit_pending}
use Rattle.rules.proofs.Serial.Values.{charge, over}
use Rattle.rules.proofs.Serial.Shown.{shown_card, shown_base, shown_plain, shown_charge}
use Rattle.rules.proofs.Serial.Settling.{is_charge_true, below_charges}
use Rattle.rules.proofs.Demand.Abstraction.{effect_of}
use Rattle.rules.proofs.Demand.Proper.{Proper}
use Rattle.rules.proofs.Demand.AbstractionLaws.{effect_card, effect_sum, effect_unwritten, effect_no_account, sum_laid, by_charge}
use Rattle.rules.proofs.Demand.Views.{effect_kept}
use Rattle.rules.proofs.Demand.CommitTable.{number_few, parent_few, parent_other}
use Rattle.rules.proofs.Demand.CommitCards.{by_write_set, commit_base_length, commit_base_card, commit_parent_card}

module _
    {s : Ledger} (proper : Proper s) {n p : ℕ} (judged : Committable s.table n) (under : parent_of s.table n ≡ p)
    (fits : is_commit_outside s.table s.base n None ≡ false) (k : ℕ) where
  -- k is in n's write set, or it isn't
  abbrev Written : Type 0
  Written = has_written s.table n k ≡ true

  abbrev Unwritten : Type 0
  Unwritten = has_written s.table n k ≡ false

  by_effect :
      {P : Type 0} → (k < first_charge → Written → P) → (IsCharge k → Written → P) → (k < account_count → Unwritten → P) →
      (account_count ≤ k → P) → P
  by_effect card sum =
      by_write_set s.table n k
      (λ account written. by_charge account (λ below. card below written) (λ is. sum is written))

  -- ---- a topaction's commit, on what the base shows

  module _ (top : p ≡ 0) where
    abbrev LaidOnBase : Type 0
    LaidOnBase = shown_base (committed_under s n p).base k ≡ over (effect_of s n k) (shown_base s.base k)

    base_card :
        k < account_count →
        card_at (committed_under s n p).base (base_place k)
        ≡ cond (has_written s.table n k) (settled_card s n k) (card_at s.base (base_place k))
    base_card = commit_base_card proper judged under top k

    pub base_sum_fits : IsCharge k → Written → is_amount (base_amount s.base k +ℤ pending_sum s.table n k) ≡ true
    base_sum_fits is written =
        rw (commit_sum_top s.table s.base n k (under ∙ top)) at (commit_sum_fits s.table s.base n fits k is written)

    base_card_laid : k < first_charge → Written → LaidOnBase
    unfolding settled_card over
    base_card_laid below written =
        rw (effect_card s n k below written, base_card (omega arith), written, below_charges below)
        (shown_plain k _ (below_charges below))

    base_sum_laid : IsCharge k → Written → LaidOnBase
    unfolding settled_card base_amount over
    base_sum_laid is written =
        let card = card_at s.base (base_place k) in
        let sum = amount_in card +ℤ pending_sum s.table n k in
        rw (effect_sum s n k is written, base_card is.1, written, is_charge_true is, shown_charge k card (is_charge_true is))
        (shown_charge k (with_amount card sum) (is_charge_true is)
        ∙ ap (charge (with_amount card sum)) (amount_put card sum (base_sum_fits is written)))

    base_left : k < account_count → Unwritten → LaidOnBase
    unfolding over
    base_left account unwritten =
        rw (effect_unwritten s n k account unwritten) (ap (shown_card k) (base_card account ∙ rw unwritten))

    base_beyond : account_count ≤ k → LaidOnBase
    unfolding over
    base_beyond h =
        rw (effect_no_account s n k h)
        (ap (shown_card k)
        (card_at_beyond _ (base_place k) (omega (arith, commit_base_length proper judged under, proper.base_fits))
        ∙ sym (card_at_beyond _ (base_place k) (omega (arith, proper.base_fits)))))

    pub commit_base_laid : shown_base (committed_under s n p).base k ≡ over (effect_of s n k) (shown_base s.base k)
    commit_base_laid = by_effect base_card_laid base_sum_laid base_left base_beyond

  -- ---- a subaction's, on its parent's effects

  module _ (sub : p ≢ 0) where
    abbrev LaidOnParent : Type 0
    LaidOnParent = effect_of (committed_under s n p) p k ≡ lay (effect_of s n k) (effect_of s p k)

    parent_card :
        k < first_charge →
        card_at (committed_under s n p).shadow (shadow_place p k)
        ≡ cond (has_written s.table n k) (card_at s.shadow (shadow_place n k)) (card_at s.shadow (shadow_place p k))
    parent_card below = rw (← has_card_below s.table n k below) (commit_parent_card proper judged under sub k (omega arith))

    parent_entry :
        k < account_count →
        write_entry (committed_under s n p).table p k ≡ cond (has_written s.table n k) entered (write_entry s.table p k)
    parent_entry =
        commit_write s n p judged.own.0 proper.sound.long (number_few proper judged under)
        (omega arith) (parent_few proper judged under) k

    pub parent_pending :
        IsCharge k →
        pending_word (committed_under s n p).table p k
        ≡ cond (has_written s.table n k) (added_word s.table n p k) (pending_word s.table p k)
    parent_pending =
        commit_pending s n p judged.own.0 proper.sound.long (number_few proper judged under)
        (omega arith) (parent_few proper judged under) (λ e. parent_other proper judged under (sym e)) k

    pub parent_sum_fits : IsCharge k → Written → is_amount (pending_sum s.table p k +ℤ pending_sum s.table n k) ≡ true
    parent_sum_fits is written =
        let below = commit_sum_below s.table s.base n k (λ top. sub (sym under ∙ top)) in
        rw under at (rw below at (commit_sum_fits s.table s.base n fits k is written))

    parent_card_laid : k < first_charge → Written → LaidOnParent
    unfolding lay
    parent_card_laid below written =
        rw (effect_card s n k below written)
        (effect_card (committed_under s n p) p k below (rw (parent_entry (omega arith), written))
        ∙ ap puts (parent_card below ∙ rw written))

    parent_sum_laid : IsCharge k → Written → LaidOnParent
    parent_sum_laid is written =
        let begun : IsGiven s.table p = (omega arith, rw under at (proper.sound.known n judged.own)) in
        rw (effect_sum s n k is written)
        (effect_sum (committed_under s n p) p k is (rw (parent_entry is.1, written))
        ∙ ap adds (ap amount_of (parent_pending is ∙ rw written) ∙ amount_read_back _ (parent_sum_fits is written))
        ∙ sym (sum_laid s proper p k begun is (pending_sum s.table n k)))

    parent_left : k < account_count → Unwritten → LaidOnParent
    unfolding lay
    parent_left account unwritten =
        rw (effect_unwritten s n k account unwritten)
        (effect_kept s (committed_under s n p) p k
        (λ _. parent_entry account ∙ rw unwritten)
        (λ is. parent_pending is ∙ rw unwritten)
        (λ below. parent_card below ∙ rw unwritten))

    parent_beyond : account_count ≤ k → LaidOnParent
    unfolding lay
    parent_beyond h =
        rw (effect_no_account s n k h)
        (effect_no_account (committed_under s n p) p k h ∙ sym (effect_no_account s p k h))

    pub commit_effect_laid : effect_of (committed_under s n p) p k ≡ lay (effect_of s n k) (effect_of s p k)
    commit_effect_laid = by_effect parent_card_laid parent_sum_laid parent_left parent_beyond
