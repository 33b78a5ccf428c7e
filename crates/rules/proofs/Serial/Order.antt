-- The store's block stands in the order of S, and each child's operations before the event of the child's commit,
-- whatever the events and what is told of them. Assumes nothing.
use Prim.Native.Nat.{ℕ, suc, ◌+◌, ◌≤◌}
use native.Mathlib.Omega.{arith}
use mathlib.Core.Path.{◌≡◌, refl}
use mathlib.Core.Bool.{true, ◌&&◌}
use mathlib.Core.List.{List, [], ◌∷◌}
use lib.Dec.{ltb}
use lib.ListN.{length}
use borrow.Author.Tests.{ltb-true, lt-ltb}
use Rattle.rules.specs.Event.{Event}
use Rattle.rules.specs.Serial.Effect.{Effect}
use Rattle.rules.specs.Serial.Block.{Block, empty, read, write, child}
use Rattle.rules.specs.Serial.Told.{Told, it_began, it_read, it_wrote, it_added, it_committed, it_let_leave, it_did_nothing}
use Rattle.rules.specs.Serial.Collect.{put, Known, laid, commits_at, laid_all, stepped, collect_one, collect_from, unknown, store_block}
use Rattle.rules.specs.Serial.Reach.{in_order}
use Rattle.rules.proofs.Laws.Tests.{and_left, and_right, and_both}
use Rattle.rules.proofs.Laws.Puts.{put_holds}

-- each block stands in order: what its action did itself before place t, its children's commits before place u
abbrev AllInOrder : ℕ → ℕ → (ℕ → Block Effect) → Type 0
AllInOrder t u blocks = (n : ℕ) → in_order t u (blocks n) ≡ true

ltb_later : {s t : ℕ} → s ≤ t → (i : ℕ) → ltb i s ≡ true → ltb i t ≡ true
ltb_later {s} {t} s≤t i before = let i<s = ltb-true i s before in lt-ltb i t (omega arith)

-- what stands before a place stands before any later place
module _ {t t' u u' : ℕ} (t≤t' : t ≤ t') (u≤u' : u ≤ u') where
  in_order_later : (b : Block Effect) → in_order t u b ≡ true → in_order t' u' b ≡ true
  unfolding in_order
  in_order_later empty ordered = refl
  in_order_later (read b i k) ordered =
      and_both (ltb_later t≤t' i (and_left _ _ ordered)) (and_right (ltb i t) _ ordered)
  in_order_later (write b i k f) ordered =
      and_both (ltb_later t≤t' i (and_left _ _ ordered)) (and_right (ltb i t) _ ordered)
  in_order_later (child b i who d) ordered =
      let own = and_left _ (in_order i (suc i) d) ordered in
      and_both (and_both (ltb_later u≤u' i (and_left _ _ own)) (and_right (ltb i u) _ own))
      (and_right (ltb i u && in_order i (suc i) b) _ ordered)

  all_later : (blocks : ℕ → Block Effect) → AllInOrder t u blocks → AllInOrder t' u' blocks
  all_later blocks ordered n = in_order_later (blocks n) (ordered n)

all_put :
    (t u : ℕ) (blocks : ℕ → Block Effect) (n : ℕ) (b : Block Effect) → AllInOrder t u blocks → in_order t u b ≡ true →
    AllInOrder t u (put blocks n b)
all_put t u blocks n b ordered new = put_holds blocks n b (λ m now. in_order t u now ≡ true) new (λ m m≢n. ordered m)

-- ---- the event at place j

before_next : (j : ℕ) → ltb j (suc j) ≡ true
before_next j = lt-ltb j (suc j) (omega arith)

-- Its commits all stand at j, one behind the other; what the actions did themselves stands before j.
module _ (j : ℕ) where
  laid_ordered : (c : Known) → AllInOrder j (suc j) c.block → (n : ℕ) → AllInOrder j (suc j) (laid j c n).block
  unfolding in_order
  laid_ordered c ordered n =
      let rest_ordered = all_put j (suc j) c.block n empty ordered refl in
      all_put j (suc j) _ (c.parent n) _ rest_ordered
      (and_both (and_both (before_next j) (rest_ordered (c.parent n))) (ordered n))

  laid_all_ordered :
      (c : Known) (ns : List ℕ) → AllInOrder j (suc j) c.block → AllInOrder j (suc j) (laid_all j c ns).block
  unfolding laid_all
  laid_all_ordered c [] ordered = ordered
  laid_all_ordered c (n ∷ ns) ordered = laid_all_ordered (laid j c n) ns (laid_ordered c ordered n)

module _ (j : ℕ) (c : Known) (ordered : AllInOrder j j c.block) where
  -- a step of an action's own stands at j, behind all that was there
  put_ordered :
      (n : ℕ) (b : Block Effect) → in_order (suc j) (suc j) b ≡ true → AllInOrder (suc j) (suc j) (put c.block n b)
  put_ordered n b =
      all_put (suc j) (suc j) c.block n b (all_later (omega arith) (omega arith) c.block ordered)

  commits_ordered : (ns : List ℕ) → AllInOrder (suc j) (suc j) (laid_all j c ns).block
  commits_ordered ns =
      all_later (omega arith) (omega arith) _
      (laid_all_ordered j c ns (all_later (omega arith) (omega arith) c.block ordered))

  -- No event adds both a step of an action's own and a commit: the commit would not stand behind the step.
  collected_ordered : (e : Event) (it : Told) → AllInOrder (suc j) (suc j) (collect_one j e it (commits_at e it) c).block
  unfolding collect_one stepped commits_at laid_all in_order
  collected_ordered e (it_began n) = put_ordered n empty refl
  collected_ordered e it_read = put_ordered e.number _ (and_both (before_next j) (ordered e.number))
  collected_ordered e it_wrote = put_ordered e.number _ (and_both (before_next j) (ordered e.number))
  collected_ordered e it_added = put_ordered e.number _ (and_both (before_next j) (ordered e.number))
  collected_ordered e it_committed = commits_ordered (e.number ∷ [])
  collected_ordered e (it_let_leave leavers) = commits_ordered leavers
  collected_ordered e it_did_nothing = commits_ordered []

-- t: a place that S doesn't pass
ordered_to_end :
    (j t : ℕ) (es : List Event) (its : List Told) (c : Known) → j + length es ≤ t → AllInOrder j j c.block →
    AllInOrder t t (collect_from j es its c).block
unfolding collect_from
ordered_to_end j t [] its c fits ordered = all_later (omega arith) (omega arith) c.block ordered
ordered_to_end j t (e ∷ es) [] c fits ordered = all_later (omega arith) (omega arith) c.block ordered
ordered_to_end j t (e ∷ es) (it ∷ its) c fits ordered =
    ordered_to_end (suc j) t es its _ (omega arith) (collected_ordered j c ordered e it)

pub is_in_order : (es : List Event) (its : List Told) → in_order (length es) (length es) (store_block es its) ≡ true
unfolding store_block unknown in_order
is_in_order es its = ordered_to_end 0 (length es) es its unknown (omega arith) (λ n. refl) 0
