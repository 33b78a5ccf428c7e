-- A parent's newest end times are true where they are so account by account, and for an account where the one is that of the
-- parent's records. Assumes nothing.
use Prim.Native.Nat.{ℕ, ◌<◌}
use native.Mathlib.Omega.{arith}
use mathlib.Core.Path.{◌≡◌, sym, ap, ◌∙◌}
use mathlib.Core.Bool.{true}
use mathlib.Core.List.{List}
use lib.Dec.{ltb, eqb}
use lib.ListN.{get_or}
use borrow.Author.Tests.{eqb-true}
use Rattle.rules.specs.Range.{all}
use Rattle.rules.specs.Card.{account_count, accounts}
use Rattle.rules.specs.Kind.{kind_under}
use Rattle.rules.specs.Table.{has_read, read_time, newest, is_live, actions}
use Rattle.rules.specs.Walk.{is_under}
use Rattle.rules.specs.Stale.{is_known_stale, is_stale}
use Rattle.rules.specs.Sound.{is_told_true, is_newest_true, are_newest_true, StoreOrLive}
use Rattle.rules.proofs.Laws.Tests.{implied, implies, same_test}
use Rattle.rules.proofs.Laws.Ranges.{all_at, all_of}
use Rattle.rules.proofs.Sound.Scans.{all_given, given_all}
use Rattle.rules.proofs.Sound.NewestClauses.{same_alike, held_test}
use Rattle.soundness.specs.Held.{ends_held}
use Rattle.soundness.specs.Reads.{is_read_true, are_reads_true}
use Rattle.soundness.proofs.HeldEnds.{stale_by_ends}

module _ (w : List ℕ) (p : ℕ) where
  -- ---- one account

  same_told : (k : ℕ) → k < account_count → newest w p k ≡ get_or (ends_held w p) k 0 → (m : ℕ) → is_told_true w p m k ≡ true
  unfolding is_told_true
  same_told k account same m =
      let t = read_time w (kind_under p) m k in
      implies (has_read w m k) _ (λ has. same_alike (is_known_stale w p k t) (is_stale w p k t) (ap (ltb t) same ∙ sym (stale_by_ends w p k account t)))

  pub same_end_true : (k : ℕ) → k < account_count → eqb (newest w p k) (get_or (ends_held w p) k 0) ≡ true → are_reads_true w p k ≡ true
  unfolding are_reads_true is_read_true
  same_end_true k account same =
      given_all w _
      (λ m given.
      implies (is_live w m) _ (λ live. implies (is_under w p m) _ (λ below. same_told k account (eqb-true _ _ same) m)))

  -- ---- all of them

  by_account : all (is_newest_true w p) (actions w) ≡ all (are_reads_true w p) accounts
  unfolding is_newest_true are_reads_true is_read_true accounts
  by_account = same_test _ _ each every
    where
      each : all (is_newest_true w p) (actions w) ≡ true → all (are_reads_true w p) accounts ≡ true
      each t =
          all_of _ 0 account_count
          (λ k r.
          given_all w _
          (λ m given.
          implies (is_live w m) _
          (λ live.
          implies (is_under w p m) _
          (λ below.
          all_at (is_told_true w p m) 0 account_count k
          (implied (is_under w p m) _ (implied (is_live w m) _ (all_given w (is_newest_true w p) t m given) live) below) r))))

      every : all (are_reads_true w p) accounts ≡ true → all (is_newest_true w p) (actions w) ≡ true
      every t =
          given_all w _
          (λ m given.
          implies (is_live w m) _
          (λ live.
          implies (is_under w p m) _
          (λ below.
          all_of _ 0 account_count
          (λ k r.
          implied (is_under w p m) _
          (implied (is_live w m) _ (all_given w (is_read_true w p k) (all_at (are_reads_true w p) 0 account_count k t r) m given) live) below))))

  pub true_by_account : StoreOrLive w p → are_newest_true w p ≡ all (are_reads_true w p) accounts
  unfolding are_newest_true
  true_by_account held = rw (held_test w p held) by_account

  pub same_ends_true :
      StoreOrLive w p → all (λ k. eqb (newest w p k) (get_or (ends_held w p) k 0)) accounts ≡ true → are_newest_true w p ≡ true
  unfolding accounts
  same_ends_true held same =
      true_by_account held
      ∙ all_of _ 0 account_count
      (λ k r.
      same_end_true k (omega arith) (all_at (λ j. eqb (newest w p j) (get_or (ends_held w p) j 0)) 0 account_count k same r))
