-- A lineage and its R, whatever the events and what was told of them: numbers stand for starts that were, parents are older,
-- and the rule of R holds of just one choice of starts. Assumes nothing.
use Prim.Native.Nat.{ℕ, zero, suc, ◌≤◌, ◌<◌}
use native.Mathlib.Nat.{le_refl}
use native.Mathlib.Omega.{arith}
use native.Mathlib.Decide.{ℕ_discrete}
use mathlib.Core.Path.{◌≡◌, refl, sym, ◌∙◌}
use mathlib.Core.Logic.{◌⊎◌, inl, inr, ⊎_elim}
use mathlib.Core.Bool.{Bool, true, false, ◌&&◌}
use mathlib.Core.List.{List, [], ◌∷◌}
use Rattle.rules.specs.Event.{Event}
use Rattle.rules.specs.Serial.Told.{Told, it_began, it_read, it_wrote, it_added, it_committed, it_let_leave, it_did_nothing}
use Rattle.rules.specs.Serial.Collect.{commits_at}
use Rattle.rules.specs.Serial.Starts.{Lineage, no_starts, with_start, with_commit, with_commits, with_start_at, lineage_one, lineage_from, is_in_r, IsR}
use Rattle.rules.proofs.Laws.Tests.{same_test, and_holds}
use Rattle.rules.proofs.Laws.Puts.{put_elsewhere, put_holds}
use Rattle.rules.proofs.Laws.Climbing.{falling_climbs}
use Rattle.rules.proofs.Laws.Walking.{walk_store, walk_step}

-- ---- what holds of every lineage

-- x is the start of an action
abbrev pub IsStart : Lineage → ℕ → Type 0
IsStart h x = (1 ≤ x) × (x ≤ h.starts)

pub record Ordered (h : Lineage) : Type 0 where
  -- no number stands for a start that is yet to come
  pub known : (n : ℕ) → h.start_of n ≤ h.starts
  pub older : (x : ℕ) → IsStart h x → h.parent_start x < x
  -- nor has one committed
  pub later : (x : ℕ) → h.starts < x → h.has_committed x ≡ false

pub ordered_at_first : Ordered no_starts
unfolding no_starts
ordered_at_first = record { known = λ n. le_refl 0; older = λ m up. absurd (omega arith); later = λ x above. refl }

-- what stays as a lineage grows: who started, its parent, and that it committed
pub record Extends (h h' : Lineage) : Type 0 where
  pub no_fewer : h.starts ≤ h'.starts
  pub parents : (x : ℕ) → x ≤ h.starts → h'.parent_start x ≡ h.parent_start x
  pub commits : (x : ℕ) → h.has_committed x ≡ true → h'.has_committed x ≡ true

pub extends_itself : (h : Lineage) → Extends h h
extends_itself h = record { no_fewer = le_refl h.starts; parents = λ x begun. refl; commits = λ x done. done }

pub extends_further : {h h' h'' : Lineage} → Extends h h' → Extends h' h'' → Extends h h''
extends_further f g =
    record {
      no_fewer = omega (arith, f.no_fewer, g.no_fewer);
      parents = λ x begun. g.parents x (omega (arith, f.no_fewer)) ∙ f.parents x begun;
      commits = λ x done. g.commits x (f.commits x done);
    }

-- ---- a start, a commit

module _ {h : Lineage} (o : Ordered h) where
  pub start_ordered : (n p : ℕ) → Ordered (with_start h n p)
  start_ordered n p =
      record {
        known =
            put_holds h.start_of n (suc h.starts) (λ m x. x ≤ suc h.starts)
            (le_refl (suc h.starts)) (λ m _. omega (arith, o.known m));
        older =
            put_holds h.parent_start (suc h.starts) (h.start_of p) (λ x q. (1 ≤ x) × (x ≤ suc h.starts) → q < x)
            (λ _. omega (arith, o.known p)) (λ x other up. o.older x (omega arith));
        later = λ x above. o.later x (omega arith);
      }

  pub commit_ordered : (n : ℕ) → Ordered (with_commit h n)
  commit_ordered n =
      record {
        known = o.known;
        older = o.older;
        later =
            put_holds h.has_committed (h.start_of n) true (λ x has. h.starts < x → has ≡ false)
            (λ above. absurd (omega (arith, o.known n))) (λ x _. o.later x);
      }

module _ (h : Lineage) where
  pub start_extends : (n p : ℕ) → Extends h (with_start h n p)
  start_extends n p =
      record {
        no_fewer = omega arith;
        parents = λ x begun. put_elsewhere h.parent_start (suc h.starts) (h.start_of p) x (λ e. omega arith);
        commits = λ x done. done;
      }

  pub commit_extends : (n : ℕ) → Extends h (with_commit h n)
  commit_extends n =
      record {
        no_fewer = le_refl h.starts;
        parents = λ x begun. refl;
        commits =
            put_holds h.has_committed (h.start_of n) true (λ x has. h.has_committed x ≡ true → has ≡ true)
            (λ _. refl) (λ x _ done. done);
      }

-- ---- event by event

commits_ordered : {h : Lineage} → Ordered h → (ns : List ℕ) → Ordered (with_commits h ns)
unfolding with_commits
commits_ordered o [] = o
commits_ordered {h = h} o (n ∷ ns) = commits_ordered {h = with_commit h n} (commit_ordered o n) ns

pub commits_keep_starts : (h : Lineage) (ns : List ℕ) → (with_commits h ns).starts ≡ h.starts
unfolding with_commits
commits_keep_starts h [] = refl
commits_keep_starts h (n ∷ ns) = commits_keep_starts (with_commit h n) ns

start_at_ordered : {h : Lineage} → Ordered h → (e : Event) (it : Told) → Ordered (with_start_at e it h)
unfolding with_start_at
start_at_ordered o e (it_began n) = start_ordered o n e.number
start_at_ordered o e it_read = o
start_at_ordered o e it_wrote = o
start_at_ordered o e it_added = o
start_at_ordered o e it_committed = o
start_at_ordered o e (it_let_leave leavers) = o
start_at_ordered o e it_did_nothing = o

one_ordered : {h : Lineage} → Ordered h → (e : Event) (it : Told) → Ordered (lineage_one e it h)
unfolding lineage_one
one_ordered o e it = commits_ordered (start_at_ordered o e it) (commits_at e it)

pub from_ordered : {h : Lineage} → Ordered h → (es : List Event) (its : List Told) → Ordered (lineage_from es its h)
unfolding lineage_from
from_ordered o [] its = o
from_ordered o (e ∷ es) [] = o
from_ordered {h = h} o (e ∷ es) (it ∷ its) = from_ordered {h = lineage_one e it h} (one_ordered o e it) es its

-- ---- R

pub store_in_r : (h : Lineage) → is_in_r h 0 ≡ true
unfolding is_in_r
store_in_r h = walk_store _ _ _ h.starts

pub in_r_step :
    {h : Lineage} → Ordered h → (x : ℕ) → IsStart h x → is_in_r h x ≡ (h.has_committed x && is_in_r h (h.parent_start x))
unfolding is_in_r
in_r_step {h} o x begun =
    walk_step _ _ _ h.starts x (λ z. omega arith)
    (falling_climbs h.parent_start h.starts o.older h.starts x begun.1 begun.1)

-- what the rule asks of the parent of x
abbrev AboveChosen : Lineage → (ℕ → Bool) → ℕ → Type 0
AboveChosen h chosen x = (h.parent_start x ≡ 0) ⊎ (chosen (h.parent_start x) ≡ true)

pub in_r_by_rule : {h : Lineage} → Ordered h → IsR h (is_in_r h)
in_r_by_rule {h} o x one begun =
    let step = in_r_step o x (one, begun) in
    let both = and_holds (h.has_committed x) (is_in_r h (h.parent_start x)) in (
      λ is. let (done, above) = both.0 (sym step ∙ is) in (done, inr above),
      λ (done, above). step ∙ both.1 (done, ⊎_elim (λ store. rw store (store_in_r h)) (λ is. is) above),
    )

-- Of two choices by the rule one has whom the other has: so it is with the parent, which is older.
module _ {h : Lineage} (o : Ordered h) (chosen chosen' : ℕ → Bool) (r : IsR h chosen) (r' : IsR h chosen') where
  chosen_by_both : (bound x : ℕ) → x ≤ bound → 1 ≤ x → x ≤ h.starts → chosen x ≡ true → chosen' x ≡ true
  chosen_by_both zero x low one begun is = absurd (omega arith)
  chosen_by_both (suc bound) x low one begun is =
      let (done, above) = (r x one begun).0 is in
      let down = o.older x (one, begun) in
      (r' x one begun).1 (
        done,
        cases (ℕ_discrete (h.parent_start x) 0)
            (λ action. chosen_by_both bound (h.parent_start x) (omega arith) action (omega arith)) above,
      )
    where
      cases :
          Dec (h.parent_start x ≡ 0) →
          (1 ≤ h.parent_start x → chosen (h.parent_start x) ≡ true → chosen' (h.parent_start x) ≡ true) →
          AboveChosen h chosen x → AboveChosen h chosen' x
      cases (yes store) up above = inl store
      cases (no action) up above = inr (up (omega arith) (⊎_elim (λ store. absurd (action store)) (λ is. is) above))

pub rule_decides :
    {h : Lineage} → Ordered h → (chosen : ℕ → Bool) → IsR h chosen → (x : ℕ) → 1 ≤ x → x ≤ h.starts → chosen x ≡ is_in_r h x
rule_decides {h} o chosen r x one begun =
    same_test _ _
    (chosen_by_both o chosen (is_in_r h) r (in_r_by_rule o) x x (le_refl x) one begun)
    (chosen_by_both o (is_in_r h) chosen (in_r_by_rule o) r x x (le_refl x) one begun)
