-- A start carries the sums on: the new action has added nothing and nothing is kept of its children, who are none. Assumes
-- nothing.
use Prim.Native.Nat.{ℕ}
use native.Mathlib.Omega.{arith}
use mathlib.Core.Path.{◌≡◌, sym}
use mathlib.Core.Logic.{◌≢◌}
use mathlib.Core.List.{List}
use lib.IntN.{ℤ, pos, +ℤ_idr}
use Rattle.rules.specs.Card.{IsCharge}
use Rattle.rules.specs.Table.{pending_field, pending_sum, own_adds_field, kept_field, total_of}
use Rattle.rules.specs.Sound.{IsGiven, Sound}
use Rattle.rules.specs.Step.{give_table}
use Rattle.rules.proofs.Laws.Amounts.{amount_zero}
use Rattle.rules.proofs.Laws.Freeing.{Givable}
use Rattle.rules.proofs.Sound.Giving.{give_head, give_pending, give_own_adds, give_kept}
use Rattle.rules.proofs.Sound.Started.{by_age, old_field}
use Rattle.rules.proofs.Tree.Carried.{Carried}

module _ {w : List ℕ} (s : Sound w) (n p k : ℕ) (charge : IsCharge k) (g : Givable w n) where
  abbrev v : List ℕ
  v = give_table w n p

  new_carried : pending_sum v n k ≡ total_of v n k
  new_carried =
      rw (
        give_pending w n p s.long g.first g.few k charge,
        give_own_adds w n p s.long g.first g.few k charge,
        give_kept w n p s.long g.first g.few k charge,
        amount_zero,
      )
      (sym (+ℤ_idr (pos 0)))

  module _ {opening now : ℤ} (was : Carried k opening w now) where
    old_carried : (m : ℕ) → IsGiven w m × (m ≢ n) → pending_sum v m k ≡ total_of v m k
    old_carried m old =
        rw (
          old_field w n p s g m (pending_field k) old (omega arith) (λ z. omega arith),
          old_field w n p s g m (own_adds_field k) old (omega arith) (λ z. omega arith),
          old_field w n p s g m (kept_field k) old (omega arith) (λ z. omega arith),
        )
        (was.sums m old.0)

    pub start_carried : Carried k opening v now
    start_carried =
        record {
          sums = by_age w n p s g _ old_carried new_carried;
          closing = rw (give_head w n p (kept_field k) g.first (omega arith) (λ z. omega arith)) was.closing;
        }
