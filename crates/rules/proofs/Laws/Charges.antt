-- Charge accounts: what an action sees of one follows from the action and its parent, and none has a card of its own for it.
-- Assumes nothing.
use Prim.Native.Nat.{ℕ, ◌≤◌, ◌<◌}
use mathlib.Core.Path.{◌≡◌, ◌∙◌}
use mathlib.Core.Logic.{◌≢◌}
use mathlib.Core.Bool.{true, false}
use mathlib.Core.List.{List}
use lib.IntN.{◌+ℤ◌}
use borrow.Author.Tests.{le-leb, lt-leb, eq-eqb, ne_eqb}
use Rattle.rules.specs.Card.{first_charge, is_charge}
use Rattle.rules.specs.Amount.{base_amount}
use Rattle.rules.specs.Table.{most_actions, parent_of, has_written, has_card, pending_sum}
use Rattle.rules.specs.Walk.{Climbs}
use Rattle.rules.specs.Nearest.{nearest, moves_up, read_sum}
use Rattle.rules.specs.Cause.{commit_sum}
use Rattle.rules.proofs.Laws.Walking.{walk_store, walk_step, climb_holds, moves_to_store, nearest_store, nearest_step}
use Rattle.rules.proofs.Laws.Versions.{moves_to_base}

-- ---- what an action sees of charge account k

module _ (w base : List ℕ) where
  pub read_sum_store : (k : ℕ) → read_sum w base 0 k ≡ base_amount base k
  unfolding read_sum
  read_sum_store k = walk_store _ _ _ most_actions

  pub read_sum_step :
      (n k : ℕ) → n ≢ 0 → Climbs w n → read_sum w base n k ≡ read_sum w base (parent_of w n) k +ℤ pending_sum w n k
  unfolding read_sum
  read_sum_step n k = walk_step _ _ _ most_actions n

-- ---- what account k gets at n's commit, in the base store or from its parent on

module _ (w base : List ℕ) (n k : ℕ) where
  pub commit_sum_top : parent_of w n ≡ 0 → commit_sum w base n k ≡ base_amount base k +ℤ pending_sum w n k
  unfolding commit_sum
  commit_sum_top top = rw (eq-eqb (parent_of w n) 0 top)

  pub commit_sum_below : parent_of w n ≢ 0 → commit_sum w base n k ≡ pending_sum w (parent_of w n) k +ℤ pending_sum w n k
  unfolding commit_sum
  commit_sum_below below = rw (ne_eqb (parent_of w n) 0 below)

-- ---- own cards

module _ (w : List ℕ) where
  -- of an account below the charge accounts each write makes one
  pub has_card_below : (n k : ℕ) → k < first_charge → has_card w n k ≡ has_written w n k
  has_card_below n k below = rw (lt-leb first_charge k below)

  pub has_card_charge : (n k : ℕ) → first_charge ≤ k → has_card w n k ≡ false
  has_card_charge n k charge = rw (le-leb first_charge k charge)

  -- RULES 3.4: so the nearest version of a charge account is the base card, as many moves up as the action lies deep
  pub nearest_charge : (k : ℕ) → is_charge k ≡ true → (n : ℕ) → Climbs w n → nearest w n k ≡ 0
  nearest_charge k charge =
      climb_holds w (λ n. nearest w n k ≡ 0) (nearest_store w k) (λ n ne up above. nearest_step w n k ne up ∙ rw charge above)

  pub moves_up_charge : (k : ℕ) → is_charge k ≡ true → (n : ℕ) → Climbs w n → moves_up w n k ≡ moves_to_store w n
  moves_up_charge k charge n up = moves_to_base w k n up (nearest_charge k charge n up)
