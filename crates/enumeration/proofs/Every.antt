-- Each list of short events of which none is refused is one of the lists. Assumes nothing.
use Prim.Native.Nat.{ℕ, zero, suc, ◌+◌, ◌≤◌}
use native.Mathlib.Omega.{arith}
use mathlib.Core.Path.{refl}
use mathlib.Core.List.{List, [], ◌∷◌, Memᴰ}
use Rattle.rules.specs.Table.{highest}
use Rattle.rules.specs.Event.{Event}
use Rattle.rules.specs.Ledger.{Ledger}
use Rattle.rules.specs.Step.{step}
use Rattle.rules.proofs.Laws.Allowed.{allowed}
use Rattle.rules.proofs.Demand.Proper.{Proper, step_keeps_proper}
use Rattle.enumeration.specs.ShortDay.{most_short}
use Rattle.enumeration.specs.Lists.{candidate_count, lists}
use Rattle.enumeration.proofs.Numbers.{step_highest}
use Rattle.enumeration.proofs.Candidates.{short_candidate}
use Rattle.enumeration.proofs.Beginnings.{in_beginning, in_beginning_from}
use Rattle.enumeration.proofs.Taken.{AreTaken, taken_parts}

-- no number above the events before has been given, and there are fewer of these than numbers tried
pub taken_listed :
    (k p : ℕ) (s : Ledger) → Proper s → p + k ≤ most_short → highest s.table ≤ p → (es : List Event) → AreTaken k p s es →
    Memᴰ es (lists k p s)
unfolding lists
taken_listed zero p s proper few low [] h = Memᴰ.head refl
taken_listed zero p s proper few low (e ∷ es) h = absurd (omega (arith, h.many))
taken_listed (suc k) p s proper few low [] h = absurd (omega (arith, h.many))
taken_listed (suc k) p s proper few low (e ∷ es) h =
    let (short, none, rest) = taken_parts h in
    let known = (allowed s.table s.base s.shadow e none).early.number_known in
    let (c, within, is) = short_candidate p e short (omega arith) in
    let later = taken_listed k (suc p) (step s e).after (step_keeps_proper s e proper) (omega arith)
    (omega (arith, step_highest s e proper)) es rest in
    in_beginning_from (lists k (suc p)) s p candidate_count 0 c (omega arith) (rw is (in_beginning (lists k (suc p)) s e none later))
