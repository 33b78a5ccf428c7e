-- The stores after a commit, card by card, and so the effects of those who are neither the one that commits nor its parent.
-- Assumes nothing.
use Prim.Native.Nat.{ℕ, ◌≤◌, ◌<◌}
use native.Mathlib.Omega.{arith}
use mathlib.Core.Path.{◌≡◌, sym, ◌∙◌}
use mathlib.Core.Logic.{inl, ⊎_elim, ◌≢◌}
use mathlib.Core.Bool.{true, false, cond}
use mathlib.Core.List.{List}
use lib.ListN.{length}
use Rattle.rules.specs.Card.{account_count, base_place, shadow_place, card_at}
use Rattle.rules.specs.Table.{parent_of, write_field, has_written, has_card, pending_field}
use Rattle.rules.specs.Sound.{IsGiven}
use Rattle.rules.specs.Ledger.{Ledger}
use Rattle.rules.specs.Commit.{copied_down, committed_under}
use Rattle.rules.proofs.Laws.Tests.{test}
use Rattle.rules.proofs.Laws.Permitted.{Committable}
use Rattle.rules.proofs.Copies.Turns.{settled_card, CanCopy, sound_can_copy}
use Rattle.rules.proofs.Copies.Between.{StoresAt, stores_between}
use Rattle.rules.proofs.Copies.Whole.{copied_base_card, copied_parent_card}
use Rattle.rules.proofs.Sound.Committing.{commit_keeps_row}
use Rattle.rules.proofs.Demand.Abstraction.{effect_of}
use Rattle.rules.proofs.Demand.Proper.{Proper, stores_fit}
use Rattle.rules.proofs.Demand.AbstractionLaws.{by_account}
use Rattle.rules.proofs.Demand.Views.{effect_kept}

-- an account is in action n's write set or it isn't, or k is no account
pub by_write_set :
    {P : Type 0} (w : List ℕ) (n k : ℕ) → (k < account_count → has_written w n k ≡ true → P) →
    (k < account_count → has_written w n k ≡ false → P) → (account_count ≤ k → P) → P
by_write_set w n k written unwritten =
    by_account k (λ account. ⊎_elim (written account) (unwritten account) (test (has_written w n k)))

module _ {s : Ledger} (proper : Proper s) {n p : ℕ} (judged : Committable s.table n) (under : parent_of s.table n ≡ p) where
  can_copy : CanCopy s n p
  can_copy = rw under at (sound_can_copy proper.sound (stores_fit proper) n judged.own judged.alive)

  -- ---- the stores

  after : StoresAt s n p can_copy 0 (copied_down s n p 0)
  after = stores_between s n p can_copy 0 (omega arith)

  pub commit_base_length : length (committed_under s n p).base ≡ length s.base
  unfolding committed_under
  commit_base_length = after.can_copy.stores.base_fits ∙ sym proper.base_fits

  pub commit_shadow_length : length (committed_under s n p).shadow ≡ length s.shadow
  unfolding committed_under
  commit_shadow_length = after.can_copy.stores.shadow_fits ∙ sym proper.shadow_fits

  pub commit_base_card :
      p ≡ 0 → (k : ℕ) → k < account_count →
      card_at (committed_under s n p).base (base_place k)
      ≡ cond (has_written s.table n k) (settled_card s n k) (card_at s.base (base_place k))
  unfolding committed_under
  commit_base_card top k account = copied_base_card s n p can_copy.apart k account can_copy top

  pub commit_parent_card :
      p ≢ 0 → (k : ℕ) → k < account_count →
      card_at (committed_under s n p).shadow (shadow_place p k)
      ≡ cond (has_card s.table n k) (card_at s.shadow (shadow_place n k)) (card_at s.shadow (shadow_place p k))
  unfolding committed_under
  commit_parent_card sub k account = copied_parent_card s n p can_copy.apart k account can_copy sub

  other_card :
      (X k : ℕ) → IsGiven s.table X → X ≢ p → k < account_count →
      card_at (committed_under s n p).shadow (shadow_place X k) ≡ card_at s.shadow (shadow_place X k)
  unfolding committed_under
  other_card X k begun other account =
      after.same_cards X k (begun.0, omega (arith, begun, proper.sound.few)) other account

  -- ---- what the commit leaves as it was

  pub commit_effect_kept :
      (X k : ℕ) → IsGiven s.table X → X ≢ n → X ≢ p → effect_of (committed_under s n p) X k ≡ effect_of s X k
  commit_effect_kept X k begun not_n not_p =
      effect_kept s (committed_under s n p) X k
      (λ account. commit_keeps_row s n p judged.own.0 X (write_field k) (omega arith) begun.0 not_n (inl not_p))
      (λ charge. commit_keeps_row s n p judged.own.0 X (pending_field k) (omega arith) begun.0 not_n (inl not_p))
      (λ below. other_card X k begun not_p (omega arith))

  pub commit_base_same : p ≢ 0 → (committed_under s n p).base ≡ s.base
  unfolding committed_under
  commit_base_same = after.same_base
