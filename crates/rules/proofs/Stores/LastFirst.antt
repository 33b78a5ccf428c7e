-- RULES 4.8: between two turns of a commit its parent holds, from some account up, what the whole commit leaves, and below it
-- what it held before; what the turns leave in the end doesn't tell their order. Assumes nothing.
use Prim.Native.Nat.{ℕ, ◌≤◌}
use mathlib.Core.Path.{◌≡◌, sym, ◌∙◌}
use mathlib.Core.Bool.{true}
use Rattle.rules.specs.Card.{account_count, StoresFit}
use Rattle.rules.specs.Table.{parent_of, is_live}
use Rattle.rules.specs.Sound.{IsGiven, Sound}
use Rattle.rules.specs.Ledger.{Ledger}
use Rattle.rules.specs.Commit.{committed_under}
use Rattle.rules.specs.LastFirst.{LastFirst, CopiesLastFirst, CopiesTellNoOrder}
use Rattle.rules.proofs.Copies.Turns.{CanCopy, sound_can_copy}
use Rattle.rules.proofs.Copies.Between.{holds_same, sum_made, holds_before, card_put}
use Rattle.rules.proofs.Copies.EitherOrder.{either_order}
use Rattle.rules.proofs.Sound.Committing.{commit_sum_copied}

module _
    (s : Ledger) (sound : Sound s.table) (fits : StoresFit s.base s.shadow) (n : ℕ) (begun : IsGiven s.table n)
    (alive : is_live s.table n ≡ true) (k : ℕ) (few : k ≤ account_count) where
  abbrev p : ℕ
  p = parent_of s.table n

  can_copy : CanCopy s n p
  can_copy = sound_can_copy sound fits n begun alive

  between : LastFirst s n p k
  unfolding committed_under
  between =
      record {
        from_here_up = λ j account above.
            holds_same p j _ _ (card_put s n p can_copy k j few above account)
            (λ charge. sum_made s n p k j few above ∙ sym (commit_sum_copied s n p begun.0 j charge));
        below = λ j. holds_before s n p can_copy k j few;
      }

pub copies_last_first : CopiesLastFirst
copies_last_first = between

pub copies_tell_no_order : CopiesTellNoOrder
copies_tell_no_order s sound fits n begun alive = either_order (sound_can_copy sound fits n begun alive)
