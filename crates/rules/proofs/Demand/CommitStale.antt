-- What a commit does to stale reads: those there were stay, those of the one that commits pass to a parent that doesn't hide
-- them, and what it changes makes every earlier read of it stale. Assumes nothing.
use Prim.Native.Nat.{ℕ, ◌+◌, ◌≤◌, ◌<◌}
use native.Mathlib.Omega.{arith}
use mathlib.Core.Path.{◌≡◌, sym, ◌∙◌}
use mathlib.Core.Logic.{◌⊎◌, inl, inr}
use mathlib.Core.Bool.{true}
use mathlib.Core.List.{List}
use borrow.Author.Tests.{eq-eqb}
use Rattle.rules.specs.Card.{account_count, accounts}
use Rattle.rules.specs.Kind.{kind_under}
use Rattle.rules.specs.Table.{width, word, counter, parent_of, end_time, read_fields, write_field, has_written, has_writes, has_card, is_record_of}
use Rattle.rules.specs.Ledger.{Ledger}
use Rattle.rules.specs.Commit.{commit_time, committed_under}
use Rattle.rules.specs.Serial.Effect.{nothing}
use Rattle.rules.proofs.Laws.Tests.{and_both, not_both, false_of_not_true}
use Rattle.rules.proofs.Laws.Ranges.{any_at}
use Rattle.rules.proofs.Laws.Sets.{account_within}
use Rattle.rules.proofs.Laws.Kinds.{kind_known}
use Rattle.rules.proofs.Sound.TableChanges.{writes_agree}
use Rattle.rules.proofs.Sound.Committing.{commit_parent, commit_keeps_sets, commit_end}
use Rattle.rules.proofs.Laws.Permitted.{Committable}
use Rattle.rules.proofs.Serial.AbstractState.{HasRead}
use Rattle.rules.proofs.Serial.Change.{Stays}
use Rattle.rules.proofs.Serial.Stale.{AtCommit}
use Rattle.rules.proofs.Demand.Abstraction.{effect_of, abstraction, Stale}
use Rattle.rules.proofs.Demand.Proper.{Proper}
use Rattle.rules.proofs.Demand.AbstractionLaws.{alive_given, alive_live, read_account, read_entered, effect_unwritten, effect_no_account, card_hides}
use Rattle.rules.proofs.Demand.Views.{stale_stays, change_records}
use Rattle.rules.proofs.Demand.CommitTable.{ReadsOn, table_change, number_few, parent_other, now_committed, read_joined, read_kept}
use Rattle.rules.proofs.Demand.CommitCards.{by_write_set}

module _ {s : Ledger} (proper : Proper s) {n p : ℕ} (judged : Committable s.table n) (under : parent_of s.table n ≡ p) where
  -- the state and the table after the commit
  abbrev after : Ledger
  after = committed_under s n p

  abbrev table' : List ℕ
  table' = (committed_under s n p).table

  -- ---- a read that was stale

  stale_kept : {X Y Q k : ℕ} → k < account_count → ReadsOn s.table X table' Y k → Stale s X Q k → Stale after Y Q k
  stale_kept account on = stale_stays s after account (change_records (table_change proper judged under)) on.times

  -- ---- a read that is stale now: n is a record of p then, with an end time above every live action's reads by the times of n's
  -- kind

  own_set_kept : (g : ℕ) → read_fields ≤ g → g < width → word table' n g ≡ word s.table n g
  own_set_kept =
      commit_keeps_sets s n p judged.own.0 (λ e. parent_other proper judged under (sym e))

  pub own_writes_kept : has_writes table' n ≡ has_writes s.table n
  own_writes_kept = writes_agree s.table table' n (λ j h. own_set_kept (write_field j) (omega arith) (omega arith))

  module _ (has_writes_true : has_writes s.table n ≡ true) where
    pub now_record : is_record_of table' p n ≡ true
    unfolding is_record_of
    now_record =
        and_both (eq-eqb _ _ (commit_parent s n p judged.own.0 n ∙ under))
        (and_both (now_committed proper judged under) (own_writes_kept ∙ has_writes_true))

    now_ended : end_time table' n ≡ counter s.table (kind_under p) + 1
    unfolding commit_time
    now_ended =
        commit_end s n p judged.own.0 proper.sound.long (number_few proper judged under) ∙ rw (has_writes_true, under)

  module _ (k : ℕ) (account : k < account_count) (written : has_written s.table n k ≡ true) where
    has_writes_true : has_writes s.table n ≡ true
    unfolding has_writes accounts
    has_writes_true = any_at (has_written s.table n) 0 account_count k (account_within account) written

    now_stale : (X : ℕ) → Stays (abstraction s) (abstraction after) X → HasRead (abstraction s) X k → Stale after X p k
    now_stale X x has =
        let begun = alive_given s.table X x.before in
        let live = alive_live s.table X x.before in
        let in_time =
        proper.sound.reads (kind_under p) X k (kind_known p) begun live account (read_entered s.table X k has) in
        let on = (read_kept proper judged under k X x.before x.after has).times (kind_under p) in
        record {
          holder = n;
          begun = rw (table_change proper judged under).same_highest judged.own;
          is_record = now_record has_writes_true;
          written = rw (own_set_kept (write_field k) (omega arith) (omega arith)) written;
          later = rw (now_ended has_writes_true) (omega (arith, in_time, on));
        }

  no_effect_or_stale :
      (k : ℕ) → (effect_of s n k ≡ nothing) ⊎ ((X : ℕ) → Stays (abstraction s) (abstraction after) X → HasRead (abstraction s) X k → Stale after X p k)
  no_effect_or_stale k =
      by_write_set s.table n k
      (λ account written. inr (now_stale k account written))
      (λ account unwritten. inl (effect_unwritten s n k account unwritten))
      (λ beyond. inl (effect_no_account s n k beyond))

  -- ---- what the proof asks of a commit's stale reads

  pub stale_at_commit : AtCommit (abstraction s) (abstraction (committed_under s n p)) (Stale s) (Stale (committed_under s n p)) n p
  stale_at_commit =
      record {
        old = λ X Q k x has seen.
            stale_kept (read_account s.table X k has) (read_kept proper judged under k X x.before x.after has);
        now = no_effect_or_stale;
        join = λ Q k l' has shown seen.
            let account = read_account s.table n k has in
            let bare = false_of_not_true (has_card s.table p k) (λ card. not_both (card_hides s p k account card) shown) in
            stale_kept account (read_joined proper judged under k l' has bare);
      }
