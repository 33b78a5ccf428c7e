-- Which number's block holds the read or write of a place, followed through one event of the collecting: it passes up
-- where its holder commits, and is lost where the holder's number is given again. Assumes nothing.
use Prim.Native.Nat.{ℕ}
use native.Mathlib.Decide.{ℕ_discrete}
use mathlib.Core.Path.{◌≡◌, refl, sym, ◌∙◌}
use mathlib.Core.Logic.{◌≢◌}
use mathlib.Core.Bool.{cond}
use mathlib.Core.List.{List, [], ◌∷◌}
use lib.Dec.{eqb}
use borrow.Author.Tests.{eqb-true, eqb-false}
use Rattle.rules.specs.Event.{Event}
use Rattle.rules.specs.Serial.Effect.{Effect}
use Rattle.rules.specs.Serial.Block.{Block, empty}
use Rattle.rules.specs.Serial.Told.{Told, it_began, it_read, it_wrote, it_added, it_committed, it_let_leave, it_did_nothing}
use Rattle.rules.specs.Serial.Collect.{put, Known, begun, laid, commits_at, laid_all, stepped, collect_one, unknown}
use Rattle.rules.specs.Serial.Reach.{Act, act_of, at_place, parents_after, is_given_to, moved_up}
use Rattle.rules.proofs.Laws.Tests.{cond_holds, cond_same}
use Rattle.rules.proofs.Laws.Puts.{put_there, put_elsewhere, put_holds}
use Rattle.rules.proofs.Serial.Acts.{acts_of, none_before, none_behind, act_there}

-- what n's block holds of place i
abbrev pub held_at : ℕ → (ℕ → Block Effect) → ℕ → List Act
held_at i blocks n = at_place i (acts_of n (blocks n))

-- Of place i, h's block holds l and no other block holds anything. Nothing is held where l is [].
pub record Held (i : ℕ) (blocks : ℕ → Block Effect) (h : ℕ) (l : List Act) : Type 0 where
  pub there : held_at i blocks h ≡ l
  pub elsewhere : (n : ℕ) → n ≢ h → held_at i blocks n ≡ []

-- before S nothing is held
pub none_at_first : (i : ℕ) → Held i unknown.block 0 []
unfolding unknown acts_of at_place
none_at_first i = record { there = refl; elsewhere = λ n n≢0. refl }

module _ {i : ℕ} {blocks : ℕ → Block Effect} where
  pub none_held : {h : ℕ} → Held i blocks h [] → (n : ℕ) → held_at i blocks n ≡ []
  none_held {h} clear n = cases (ℕ_discrete n h)
    where
      cases : Dec (n ≡ h) → held_at i blocks n ≡ []
      cases (yes n≡h) = rw n≡h clear.there
      cases (no n≢h) = clear.elsewhere n n≢h

  -- where nothing is held any number may be called the holder
  any_holder : {h : ℕ} → Held i blocks h [] → (n : ℕ) → Held i blocks n []
  any_holder clear n = record { there = none_held clear n; elsewhere = λ m m≢n. none_held clear m }

  -- ---- another block is put in at n

  -- it holds of place i what n's block held
  same_held :
      {h : ℕ} {l : List Act} → Held i blocks h l → (n : ℕ) (b : Block Effect) →
      at_place i (acts_of n b) ≡ held_at i blocks n → Held i (put blocks n b) h l
  same_held {h} held n b same =
      record { there = as_before h ∙ held.there; elsewhere = λ m m≢h. as_before m ∙ held.elsewhere m m≢h }
    where
      as_before : (m : ℕ) → held_at i (put blocks n b) m ≡ held_at i blocks m
      as_before = put_holds blocks n b (λ m now. at_place i (acts_of m now) ≡ held_at i blocks m) same (λ m m≢n. refl)

  -- it holds l, where nothing was held
  first_held :
      {h : ℕ} {l : List Act} → Held i blocks h [] → (n : ℕ) (b : Block Effect) →
      at_place i (acts_of n b) ≡ l → Held i (put blocks n b) n l
  first_held clear n b holds =
      record {
        there = rw (put_there blocks n b) holds;
        elsewhere = λ m m≢n. rw (put_elsewhere blocks n b m m≢n) (none_held clear m);
      }

  -- it is empty
  holder_emptied : {h : ℕ} {l : List Act} → Held i blocks h l → Held i (put blocks h empty) h []
  unfolding acts_of at_place
  holder_emptied {h} held =
      record {
        there = rw (put_there blocks h empty);
        elsewhere = λ m m≢h. rw (put_elsewhere blocks h empty m m≢h) (held.elsewhere m m≢h);
      }

  other_emptied : {h : ℕ} {l : List Act} → Held i blocks h l → (n : ℕ) → n ≢ h → Held i (put blocks n empty) h l
  unfolding acts_of at_place
  other_emptied held n n≢h = same_held held n empty (sym (held.elsewhere n n≢h))

-- ---- a start: what the number has held is lost

begun_held :
    {i h : ℕ} {l : List Act} (c : Known) (n p : ℕ) → Held i c.block h l →
    Held i (begun c n p).block h (cond (eqb h n) [] l)
begun_held {i} {h} c n p held =
    cond_holds (Held i (begun c n p).block h) (eqb h n)
    (λ same. rw (sym (eqb-true h n same)) (holder_emptied held))
    (λ differs. other_emptied held n (λ n≡h. eqb-false h n differs (sym n≡h)))

-- ---- a commit: what the number has held is its parent's

module _ {i : ℕ} {l : List Act} (j : ℕ) (c : Known) (n : ℕ) where
  -- also where n is its own parent: its block is taken out before it is laid
  holder_laid : Held i c.block n l → Held i (laid j c n).block (c.parent n) l
  unfolding acts_of
  holder_laid held =
      let out = holder_emptied held in
      first_held out (c.parent n) _ (none_before i _ _ (none_held out (c.parent n)) ∙ held.there)

  other_laid : {h : ℕ} → Held i c.block h l → n ≢ h → Held i (laid j c n).block h l
  unfolding acts_of
  other_laid held n≢h =
      same_held (other_emptied held n n≢h) (c.parent n) _ (none_behind i _ _ (held.elsewhere n n≢h))

  laid_held : {h : ℕ} → Held i c.block h l → Held i (laid j c n).block (cond (eqb h n) (c.parent h) h) l
  laid_held {h} held =
      cond_holds (λ now. Held i (laid j c n).block now l) (eqb h n)
      (λ same. rw (eqb-true h n same) (holder_laid (rw (eqb-true h n same) at held)))
      (λ differs. other_laid held (λ n≡h. eqb-false h n differs (sym n≡h)))

laid_all_held :
    {i h : ℕ} {l : List Act} (j : ℕ) (c : Known) (ns : List ℕ) → Held i c.block h l →
    Held i (laid_all j c ns).block (moved_up c.parent ns h) l
unfolding laid_all moved_up
laid_all_held j c [] held = held
laid_all_held {i = i} {h = h} {l = l} j c (n ∷ ns) held =
    laid_all_held {i = i} {h = cond (eqb h n) (c.parent h) h} {l = l} j (laid j c n) ns (laid_held j c n held)

-- ---- the collector's parents are those by which R is found

stepped_parent : (j : ℕ) (e : Event) (it : Told) (c : Known) → (stepped j e it c).parent ≡ parents_after e it c.parent
unfolding stepped parents_after
stepped_parent j e (it_began n) c = refl
stepped_parent j e it_read c = refl
stepped_parent j e it_wrote c = refl
stepped_parent j e it_added c = refl
stepped_parent j e it_committed c = refl
stepped_parent j e (it_let_leave leavers) c = refl
stepped_parent j e it_did_nothing c = refl

laid_all_parent : (j : ℕ) (c : Known) (ns : List ℕ) → (laid_all j c ns).parent ≡ c.parent
unfolding laid_all
laid_all_parent j c [] = refl
laid_all_parent j c (n ∷ ns) = laid_all_parent j (laid j c n) ns

-- ---- a whole event

-- one that does nothing at place i
stepped_held :
    {i h : ℕ} {l : List Act} (j : ℕ) (e : Event) (it : Told) (c : Known) → at_place i (act_of j e it) ≡ [] →
    Held i c.block h l → Held i (stepped j e it c).block h (cond (is_given_to it h) [] l)
unfolding stepped is_given_to act_of acts_of
stepped_held j e (it_began n) c not_here held = begun_held c n e.number held
stepped_held {i} j e it_read c not_here held = same_held held e.number _ (none_behind i _ _ not_here)
stepped_held {i} j e it_wrote c not_here held = same_held held e.number _ (none_behind i _ _ not_here)
stepped_held {i} j e it_added c not_here held = same_held held e.number _ (none_behind i _ _ not_here)
stepped_held j e it_committed c not_here held = held
stepped_held j e (it_let_leave leavers) c not_here held = held
stepped_held j e it_did_nothing c not_here held = held

module _ (j : ℕ) (e : Event) (it : Told) (c : Known) where
  abbrev pub known_after : Known
  known_after = collect_one j e it (commits_at e it) c

  pub parents_after_are : known_after.parent ≡ parents_after e it c.parent
  unfolding collect_one
  parents_after_are = laid_all_parent j (stepped j e it c) (commits_at e it) ∙ stepped_parent j e it c

  pub held_after :
      {i h : ℕ} {l : List Act} → at_place i (act_of j e it) ≡ [] → Held i c.block h l →
      Held i known_after.block (moved_up (parents_after e it c.parent) (commits_at e it) h) (cond (is_given_to it h) [] l)
  unfolding collect_one
  held_after not_here held =
      rw (sym (stepped_parent j e it c))
      (laid_all_held j (stepped j e it c) (commits_at e it) (stepped_held j e it c not_here held))

  pub none_after : {i h : ℕ} → at_place i (act_of j e it) ≡ [] → Held i c.block h [] → Held i known_after.block h []
  none_after {h = h} not_here clear = any_holder (rw cond_same at (held_after not_here clear)) h

-- the one at place i: its read or write, if there is one, is held by the number whose it is
pub own_held_after :
    {i h : ℕ} (e : Event) (it : Told) (c : Known) → Held i c.block h [] →
    Held i (known_after i e it c).block e.number (act_of i e it)
unfolding collect_one stepped commits_at laid_all act_of acts_of
own_held_after {i} e it_read c clear =
    first_held clear e.number _ (none_before i _ _ (none_held clear e.number) ∙ act_there i e it_read)
own_held_after {i} e it_wrote c clear =
    first_held clear e.number _ (none_before i _ _ (none_held clear e.number) ∙ act_there i e it_wrote)
own_held_after {i} e it_added c clear =
    first_held clear e.number _ (none_before i _ _ (none_held clear e.number) ∙ act_there i e it_added)
own_held_after {i} e (it_began n) c clear =
    any_holder (none_after i e (it_began n) c (act_there i e (it_began n)) clear) e.number
own_held_after {i} e it_committed c clear =
    any_holder (none_after i e it_committed c (act_there i e it_committed) clear) e.number
own_held_after {i} e (it_let_leave leavers) c clear =
    any_holder (none_after i e (it_let_leave leavers) c (act_there i e (it_let_leave leavers)) clear) e.number
own_held_after e it_did_nothing c clear = any_holder clear e.number
