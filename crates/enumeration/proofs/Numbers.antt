-- The highest number that has been given grows by one at most with each event. Assumes nothing.
use Prim.Native.Nat.{suc, ◌≤◌}
use native.Mathlib.Omega.{arith}
use Rattle.rules.specs.Card.{first_charge, IsCharge}
use Rattle.rules.specs.Table.{highest, parent_of}
use Rattle.rules.specs.Free.{next_number}
use Rattle.rules.specs.Event.{Event}
use Rattle.rules.specs.Ledger.{Ledger}
use Rattle.rules.specs.Step.{give_table, step}
use Rattle.rules.proofs.Laws.Freeing.{next_givable}
use Rattle.rules.proofs.Laws.Permitted.{Startable}
use Rattle.rules.proofs.Sound.Giving.{give_highest}
use Rattle.rules.proofs.Sound.Committing.{commit_highest}
use Rattle.rules.proofs.Demand.Proper.{Proper}
use Rattle.rules.proofs.Tree.ByChange.{step_by_change}

module _ (s : Ledger) (e : Event) (proper : Proper s) where
  -- a start gives a number that is one above the highest at most
  start_highest :
      Startable s.table e.number →
      highest (give_table s.table (next_number s.table) e.number) ≤ suc (highest s.table)
  start_highest p =
      let sound = proper.sound in
      let next = next_givable s.table sound.few p.room in
      omega (arith, give_highest s.table (next_number s.table) e.number sound.long next.first next.few, next.near)

  -- which charge account the changes are watched at makes no difference here
  watched : IsCharge first_charge
  watched = omega arith

  pub step_highest : highest (step s e).after.table ≤ suc (highest s.table)
  step_highest =
      step_by_change watched (λ t. highest t.table ≤ suc (highest s.table))
      (λ t v shadow calm was. omega (arith, calm.starts))
      (λ t _ n may _ was. omega (arith, commit_highest t n (parent_of t.table n) may.own.0))
      s e proper (omega arith) start_highest
      (λ v quiet. omega (arith, quiet.starts))
