-- The table after a commit, as demand 3's proof sees it: who is still live, and what they have read. Assumes nothing.
use Prim.Native.Nat.{ℕ, ◌≤◌, ◌<◌}
use native.Mathlib.Omega.{arith}
use native.Mathlib.Decide.{ℕ_discrete}
use native.Mathlib.Nat.{le_refl}
use mathlib.Core.Path.{◌≡◌, ap}
use mathlib.Core.Logic.{inl, ◌≢◌}
use mathlib.Core.Bool.{true, false, not}
use mathlib.Core.List.{List}
use borrow.Author.Tests.{eq-eqb, not-true}
use Rattle.rules.specs.Card.{account_count}
use Rattle.rules.specs.Table.{width, word, most_actions, parent_of, read_field, read_entry, has_read, sub_time_field, read_time, has_card, is_committed}
use Rattle.rules.specs.Ledger.{Ledger}
use Rattle.rules.specs.Commit.{passes_read, joined_word, joined_read, committed_under}
use Rattle.rules.proofs.Laws.Tests.{and_left, and_both, not_holds, nonzero, cond_holds}
use Rattle.rules.proofs.Laws.Permitted.{Committable, not_own_parent}
use Rattle.rules.proofs.Sound.TableChanges.{TableChange, live_uncommitted}
use Rattle.rules.proofs.Sound.Committing.{commit_keeps_row, commit_state, commit_read, commit_read_time}
use Rattle.rules.proofs.Sound.Judging.{commit_change}
use Rattle.rules.proofs.Demand.Abstraction.{is_alive, has_read_account}
use Rattle.rules.proofs.Demand.Proper.{Proper}
use Rattle.rules.proofs.Demand.AbstractionLaws.{alive_given, alive_live, read_account, read_entered}
use Rattle.rules.proofs.Demand.Views.{NoLater, same_no_later}

-- ---- joined reads

-- an account is in the read set exactly where its entry isn't 0
read_has_entry : (w : List ℕ) (X k : ℕ) → has_read w X k ≡ true → 1 ≤ read_entry w X k
read_has_entry w X k has = (nonzero (read_entry w X k)).0 (not-true _ has)

entry_has_read : (w : List ℕ) (X k : ℕ) → 1 ≤ read_entry w X k → has_read w X k ≡ true
entry_has_read w X k one = (not_holds _).1 ((nonzero (read_entry w X k)).1 one)

module _ (w : List ℕ) (n p k : ℕ) where
  -- of a read that is passed the joined word is no greater than the child's, and of one that the parent has than the parent's
  joined_child : passes_read w n p k ≡ true → (a b : ℕ) → joined_word w n p k a b ≤ a
  joined_child passes a b = rw passes (cond_holds (λ x. x ≤ a) (has_read w p k) (λ _. omega arith) (λ _. le_refl a))

  joined_parent : has_read w p k ≡ true → (a b : ℕ) → joined_word w n p k a b ≤ b
  joined_parent has a b = cond_holds (λ x. x ≤ b) (passes_read w n p k) (λ _. rw has (omega arith)) (λ _. le_refl b)

  -- and in either case the parent has a read then
  joined_child_read : passes_read w n p k ≡ true → 1 ≤ joined_read w n p k
  joined_child_read passes =
      let own = read_has_entry w n k (and_left (has_read w n k) _ passes) in
      rw passes
      (cond_holds (λ x. 1 ≤ x) (has_read w p k) (λ has. omega (arith, own, read_has_entry w p k has)) (λ _. own))

  joined_parent_read : has_read w p k ≡ true → 1 ≤ joined_read w n p k
  joined_parent_read has =
      let above = read_has_entry w p k has in
      cond_holds (λ x. 1 ≤ x) (passes_read w n p k)
      (λ passes. rw has (omega (arith, above, read_has_entry w n k (and_left (has_read w n k) _ passes))))
      (λ _. above)

-- ---- reads that go on

-- Y has read account k in v, at times no later than those at which X had in w
pub record ReadsOn (w : List ℕ) (X : ℕ) (v : List ℕ) (Y k : ℕ) : Type 0 where
  pub has : has_read v Y k ≡ true
  pub times : NoLater w X v Y k

-- ---- action n commits under p

module _ {s : Ledger} (proper : Proper s) {n p : ℕ} (judged : Committable s.table n) (under : parent_of s.table n ≡ p) where
  pub table_change : TableChange s.table (committed_under s n p).table n
  table_change = rw under at (commit_change s proper.sound n judged)

  pub number_few : n ≤ most_actions
  number_few = omega (arith, judged.own, proper.sound.few)

  pub parent_few : p ≤ most_actions
  parent_few = omega (arith, rw under at (proper.sound.known n judged.own), proper.sound.few)

  pub parent_other : p ≢ n
  parent_other = rw under at (not_own_parent judged)

  pub now_committed : is_committed (committed_under s n p).table n ≡ true
  now_committed = eq-eqb _ _ (commit_state s n p judged.own.0 proper.sound.long number_few)

  pub still_alive_other : (X : ℕ) → is_alive (committed_under s n p).table X ≡ true → X ≢ n
  still_alive_other X l e = live_uncommitted _ n (rw e at (alive_live _ X l)) now_committed

  module _ (k : ℕ) where
    -- the words of the parent's read
    module _ (action : 1 ≤ p) (account : k < account_count) where
      pub parent_read : read_entry (committed_under s n p).table p k ≡ joined_read s.table n p k
      parent_read = commit_read s n p judged.own.0 proper.sound.long number_few action parent_few k account

      pub parent_time :
          (h : ℕ) →
          read_time (committed_under s n p).table h p k
          ≡ joined_word s.table n p k (read_time s.table h n k) (read_time s.table h p k)
      parent_time h = commit_read_time s n p judged.own.0 proper.sound.long number_few action parent_few h k account

    -- a parent that is an action, and had no card for the account, has the reads of the one that commits
    pub read_joined :
        is_alive (committed_under s n p).table p ≡ true → has_read_account s.table n k ≡ true → has_card s.table p k ≡ false →
        ReadsOn s.table n (committed_under s n p).table p k
    read_joined l' has bare =
        let action = (alive_given _ p l').0 in
        let account = read_account s.table n k has in
        let passes : passes_read s.table n p k ≡ true = and_both (read_entered s.table n k has) (ap not bare) in
        record {
          has = entry_has_read _ p k (rw (parent_read action account) (joined_child_read s.table n p k passes));
          times = λ h. rw (parent_time action account h) (joined_child s.table n p k passes _ _);
        }

    -- the parent has the reads that it had
    parent_kept : 1 ≤ p → k < account_count → has_read s.table p k ≡ true → ReadsOn s.table p (committed_under s n p).table p k
    parent_kept action account has =
        record {
          has = entry_has_read _ p k (rw (parent_read action account) (joined_parent_read s.table n p k has));
          times = λ h. rw (parent_time action account h) (joined_parent s.table n p k has _ _);
        }

    -- so has whoever is still live
    pub read_kept :
        (X : ℕ) → is_alive s.table X ≡ true → is_alive (committed_under s n p).table X ≡ true →
        has_read_account s.table X k ≡ true → ReadsOn s.table X (committed_under s n p).table X k
    read_kept X l l' has = cases (ℕ_discrete X p)
      where
        action : 1 ≤ X
        action = (alive_given s.table X l).0

        account : k < account_count
        account = read_account s.table X k has

        row : X ≢ p → (g : ℕ) → g < width → word (committed_under s n p).table X g ≡ word s.table X g
        row ne g inside = commit_keeps_row s n p judged.own.0 X g inside action (still_alive_other X l') (inl ne)

        cases : Dec (X ≡ p) → ReadsOn s.table X (committed_under s n p).table X k
        cases (yes e) = rw e (parent_kept (rw e at action) account (rw e at (read_entered s.table X k has)))
        cases (no ne) =
            let entry = row ne (read_field k) (omega (arith, account)) in
            record {
              has = rw entry (read_entered s.table X k has);
              times = same_no_later s.table _ X k entry (row ne (sub_time_field k) (omega (arith, account)));
            }
