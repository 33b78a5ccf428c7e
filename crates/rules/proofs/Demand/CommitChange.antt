-- A commit as demand 3's proof sees it: the effects of the one that commits are laid on its parent, which has its reads then,
-- but where the parent's own card hides what they saw. Assumes nothing.
use Prim.Native.Nat.{ℕ}
use native.Mathlib.Omega.{arith}
use mathlib.Core.Path.{◌≡◌, ap, ◌∙◌}
use mathlib.Core.Logic.{inl, inr, ⊎_elim}
use mathlib.Core.Bool.{false}
use mathlib.Core.List.{List}
use Rattle.std.specs.Prelude.{None}
use Rattle.rules.specs.Table.{parent_of, has_card}
use Rattle.rules.specs.Ledger.{Ledger}
use Rattle.rules.specs.Cause.{is_commit_outside}
use Rattle.rules.specs.Commit.{committed_under}
use Rattle.rules.proofs.Laws.Tests.{test}
use Rattle.rules.proofs.Sound.SoundKept.{change_keeps_sound}
use Rattle.rules.proofs.Laws.Permitted.{Committable}
use Rattle.rules.proofs.Serial.Shown.{shown_base}
use Rattle.rules.proofs.Serial.Change.{Change}
use Rattle.rules.proofs.Serial.Events.{Commit}
use Rattle.rules.proofs.Demand.Abstraction.{effect_of, abstraction}
use Rattle.rules.proofs.Demand.Proper.{Proper}
use Rattle.rules.proofs.Demand.AbstractionLaws.{alive_given, live_alive, read_account, account_read, card_hides, abstract_tree}
use Rattle.rules.proofs.Demand.Views.{was_alive, same_parent}
use Rattle.rules.proofs.Demand.CommitTable.{table_change, still_alive_other, read_joined, read_kept}
use Rattle.rules.proofs.Demand.CommitCards.{commit_base_length, commit_shadow_length, commit_base_same, commit_effect_kept}
use Rattle.rules.proofs.Demand.CommitLaid.{commit_base_laid, commit_effect_laid}

module _
    {s : Ledger} (proper : Proper s) {n p : ℕ} (judged : Committable s.table n) (under : parent_of s.table n ≡ p)
    (fits : is_commit_outside s.table s.base n None ≡ false) where
  -- the table after the commit
  abbrev table' : List ℕ
  table' = (committed_under s n p).table

  pub committed_proper : Proper (committed_under s n p)
  committed_proper =
      record {
        sound = change_keeps_sound s.table table' n proper.sound (table_change proper judged under);
        base_fits = commit_base_length proper judged under ∙ proper.base_fits;
        shadow_fits = commit_shadow_length proper judged under ∙ proper.shadow_fits;
      }

  abstract_change : Change (abstraction s) (abstraction (committed_under s n p)) p (effect_of s n)
  abstract_change =
      record {
        tree = abstract_tree s proper;
        tree' = abstract_tree (committed_under s n p) committed_proper;
        parent_kept = λ X x. same_parent (table_change proper judged under) X x.before;
        reads_kept = λ X k x has.
            account_read table' X k (read_account s.table X k has)
            (read_kept proper judged under k X x.before x.after has).has;
        eff_kept = λ X k x other.
            commit_effect_kept proper judged under X k (alive_given s.table X x.before)
            (still_alive_other proper judged under X x.after) other;
        eff_laid = λ X k x e.
            let action = alive_given s.table X x.before in
            rw e (commit_effect_laid proper judged under fits k (λ z. omega arith));
        base_kept = λ k sub. ap (λ base. shown_base base k) (commit_base_same proper judged under sub);
        base_laid = commit_base_laid proper judged under fits;
      }

  pub abstract_commit : Commit (abstraction s) (abstraction (committed_under s n p)) n p
  abstract_commit =
      record {
        change = abstract_change;
        nobody_new = was_alive (table_change proper judged under);
        committer_live = live_alive s.table n judged.own judged.alive;
        committer_under = under;
        reads_noted = λ k l' has.
            let account = read_account s.table n k has in
            ⊎_elim
            (λ card. inr (card_hides s p k account card))
            (λ bare. inl (account_read table' p k account (read_joined proper judged under k l' has bare).has))
            (test (has_card s.table p k));
      }
