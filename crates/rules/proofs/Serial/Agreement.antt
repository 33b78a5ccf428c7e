-- What an event does to who is live, by what is told of it; and that the parents by which R is found and the lineage agree
-- on the live actions, at every place of S. Of a number that is given it is asked that it isn't live, and no more.
-- Assumes nothing.
use Prim.Native.Nat.{ℕ, suc, ◌≤◌}
use native.Mathlib.Omega.{arith}
use native.Mathlib.Decide.{ℕ_discrete}
use mathlib.Core.Path.{◌≡◌, refl, sym, ap, ◌∙◌}
use mathlib.Core.Logic.{◌⊎◌, inl, inr, ◌≢◌}
use mathlib.Core.Bool.{true, false}
use mathlib.Core.List.{List, [], ◌∷◌}
use Rattle.rules.specs.Event.{Event}
use Rattle.rules.specs.Serial.Told.{Told, it_began, it_read, it_wrote, it_added, it_committed, it_let_leave, it_did_nothing}
use Rattle.rules.specs.Serial.Collect.{put, commits_at}
use Rattle.rules.specs.Serial.Reach.{parents_after}
use Rattle.rules.specs.Serial.Starts.{Lineage, no_starts, with_start, with_commit, with_commits, with_start_at, lineage_one}
use Rattle.rules.proofs.Laws.Puts.{put_there, put_elsewhere}
use Rattle.rules.proofs.Serial.Values.{Values}
use Rattle.rules.proofs.Serial.AbstractState.{AbstractState, Live, Tree, live_not_store}
use Rattle.rules.proofs.Serial.Change.{Stays, Change}
use Rattle.rules.proofs.Serial.Events.{NobodyNew, Drop, stays}
use Rattle.rules.proofs.Serial.Lineages.{Ordered, ordered_at_first, start_ordered, commit_ordered}

-- ---- the events

module _ {Vs : Values} where
  abbrev pub StoreOrLive : AbstractState Vs → ℕ → Type 0
  StoreOrLive s X = (X ≡ 0) ⊎ Live s X

  -- number n is given to a new action under p
  pub record Begins (s s' : AbstractState Vs) (n p : ℕ) : Type 0 where
    pub was_free : Live s n → ⊥
    pub now_live : Live s' n
    pub under : s'.parent n ≡ p
    pub nobody_else_new : (X : ℕ) → Live s' X → X ≢ n → Live s X

  -- C is live no more, and what it was under is still there
  pub record Ends (s s' : AbstractState Vs) (C : ℕ) : Type 0 where
    pub live_before : Live s C
    pub now_ended : Live s' C → ⊥
    pub parent_does_stay : StoreOrLive s' (s.parent C)
    pub nobody_new : NobodyNew s s'

  -- A step at which nobody starts: some may have ended.
  pub record Quiet (s s' : AbstractState Vs) : Type 0 where
    pub tree' : Tree s'
    pub parent_kept : (X : ℕ) → Stays s s' X → s'.parent X ≡ s.parent X
    pub nobody_new : NobodyNew s s'

  -- From s to s' these end, one after the other in this order. Before, between and after their ends others may be dropped.
  pub data LetLeave : AbstractState Vs → AbstractState Vs → List ℕ → Type 0 where
    none_leaves : {s : AbstractState Vs} → LetLeave s s []
    some_dropped : {s t s' : AbstractState Vs} {ns : List ℕ} → Quiet s t → LetLeave t s' ns → LetLeave s s' ns
    one_leaves :
        {s t s' : AbstractState Vs} {n : ℕ} {ns : List ℕ} → Quiet s t → Ends s t n → LetLeave t s' ns → LetLeave s s' (n ∷ ns)

  abbrev pub WhoLives : AbstractState Vs → AbstractState Vs → Event → Told → Type 0
  WhoLives s s' e (it_began n) = Begins s s' n e.number
  WhoLives s s' e it_read = NobodyNew s s' × Live s' e.number
  WhoLives s s' e it_wrote = NobodyNew s s' × Live s' e.number
  WhoLives s s' e it_added = NobodyNew s s' × Live s' e.number
  WhoLives s s' e it_committed = Ends s s' e.number
  WhoLives s s' e (it_let_leave leavers) = LetLeave s s' leavers
  WhoLives s s' e it_did_nothing = NobodyNew s s'

  -- The step from s to s' is that of event e, of which `it` is told.
  pub record Tells (s s' : AbstractState Vs) (e : Event) (it : Told) : Type 0 where
    pub tree' : Tree s'
    pub parent_kept : (X : ℕ) → Stays s s' X → s'.parent X ≡ s.parent X
    pub lives : WhoLives s s' e it

  -- The steps from s on are those of the events, of which these are told.
  pub data TellAll : AbstractState Vs → List Event → List Told → Type 0 where
    no_more : {s : AbstractState Vs} → TellAll s [] []
    tells_then :
        {s s' : AbstractState Vs} {e : Event} {es : List Event} {it : Told} {its : List Told} →
        Tells s s' e it → TellAll s' es its → TellAll s (e ∷ es) (it ∷ its)

pub parent_other : {Vs : Values} {s : AbstractState Vs} → Tree s → {X : ℕ} → Live s X → s.parent X ≢ X
parent_other t {X} l own = omega (arith, rw own at (t.rank_falls X l))

module _ {Vs : Values} {s s' : AbstractState Vs} where
  pub change_tells : {P : ℕ} {f : ℕ → Vs.Eff} {e : Event} {it : Told} → Change s s' P f → WhoLives s s' e it → Tells s s' e it
  change_tells c lives = record { tree' = c.tree'; parent_kept = c.parent_kept; lives = lives }

  pub change_quiet : {P : ℕ} {f : ℕ → Vs.Eff} → Change s s' P f → NobodyNew s s' → Quiet s s'
  change_quiet c new = record { tree' = c.tree'; parent_kept = c.parent_kept; nobody_new = new }

  pub drop_quiet : Drop s s' → Quiet s s'
  drop_quiet d = change_quiet d.still d.nobody_new

  pub tells_quiet : {e : Event} {it : Told} → Tells s s' e it → NobodyNew s s' → Quiet s s'
  tells_quiet step new = record { tree' = step.tree'; parent_kept = step.parent_kept; nobody_new = new }

  -- a number that is given is neither the store's nor a live action's
  pub given_free : {n p : ℕ} → Tree s' → Begins s s' n p → {X : ℕ} → StoreOrLive s X → X ≢ n
  given_free t b (inl store) X≡n = live_not_store t b.now_live (sym X≡n ∙ store)
  given_free t b (inr l) X≡n = b.was_free (rw X≡n at l)

  -- what holds of the new action and of those that stay holds of every live one
  pub by_age :
      {n p : ℕ} → Begins s s' n p → (P : ℕ → Type 0) → P n → ((X : ℕ) → X ≢ n → Stays s s' X → P X) →
      (X : ℕ) → Live s' X → P X
  by_age {n} b P new old X l' = cases (ℕ_discrete X n)
    where
      cases : Dec (X ≡ n) → P X
      cases (yes same) = rw same new
      cases (no other) = old X other (record { before = b.nobody_else_new X l' other; after = l' })

  quiet_then : {t : AbstractState Vs} → Quiet s t → Quiet t s' → Quiet s s'
  quiet_then q r =
      record {
        tree' = r.tree';
        parent_kept =
            λ X x.
            let there = r.nobody_new X x.after in
            r.parent_kept X (record { before = there; after = x.after })
            ∙ q.parent_kept X (record { before = x.before; after = there });
        nobody_new = λ X l'. q.nobody_new X (r.nobody_new X l');
      }

module _ {Vs : Values} where
  -- the leaving, taken as one step
  leave_quiet : {s s' : AbstractState Vs} {ns : List ℕ} → Tree s → LetLeave s s' ns → Quiet s s'
  leave_quiet t none_leaves = record { tree' = t; parent_kept = λ X x. refl; nobody_new = λ X l. l }
  leave_quiet t (some_dropped q rest) = quiet_then q (leave_quiet q.tree' rest)
  leave_quiet t (one_leaves q ends rest) = quiet_then q (leave_quiet q.tree' rest)

  pub leave_tells :
      {s s' : AbstractState Vs} {e : Event} {leavers : List ℕ} → Tree s → LetLeave s s' leavers →
      Tells s s' e (it_let_leave leavers)
  leave_tells t leave =
      let whole = leave_quiet t leave in
      record { tree' = whole.tree'; parent_kept = whole.parent_kept; lives = leave }

-- ---- what is kept

-- The state s, the parents by which R is found, and the lineage h.
pub record Agree {Vs : Values} (s : AbstractState Vs) (parent : ℕ → ℕ) (h : Lineage) : Type 0 where
  pub tree : Tree s
  pub ordered : Ordered h
  pub store : h.start_of 0 ≡ 0
  -- of the live actions: their parents, that they started and have not committed, and that each has a start of its own
  pub parents : (X : ℕ) → Live s X → parent X ≡ s.parent X
  pub begun : (X : ℕ) → Live s X → 1 ≤ h.start_of X
  pub under : (X : ℕ) → Live s X → h.parent_start (h.start_of X) ≡ h.start_of (s.parent X)
  pub uncommitted : (X : ℕ) → Live s X → h.has_committed (h.start_of X) ≡ false
  pub alone : (X : ℕ) → Live s X → (Y : ℕ) → Live s Y → h.start_of X ≡ h.start_of Y → X ≡ Y

-- before S nobody is live
pub agree_at_first : {Vs : Values} {s : AbstractState Vs} → Tree s → ((X : ℕ) → Live s X → ⊥) → Agree s (λ n. 0) no_starts
unfolding no_starts
agree_at_first t nobody =
    record {
      tree = t;
      ordered = ordered_at_first;
      store = refl;
      parents = λ X l. absurd (nobody X l);
      begun = λ X l. absurd (nobody X l);
      under = λ X l. absurd (nobody X l);
      uncommitted = λ X l. absurd (nobody X l);
      alone = λ X l. absurd (nobody X l);
    }

module _ {Vs : Values} {s s' : AbstractState Vs} {parent : ℕ → ℕ} {h : Lineage} (kept : Agree s parent h) where
  module _ (q : Quiet s s') where
    -- some may have been dropped, of which nothing is told
    pub quiet_agree : Agree s' parent h
    quiet_agree =
        let new = q.nobody_new in
        record {
          tree = q.tree';
          ordered = kept.ordered;
          store = kept.store;
          parents = λ X l'. kept.parents X (new X l') ∙ sym (q.parent_kept X (stays new l'));
          begun = λ X l'. kept.begun X (new X l');
          under = λ X l'. kept.under X (new X l') ∙ ap h.start_of (sym (q.parent_kept X (stays new l')));
          uncommitted = λ X l'. kept.uncommitted X (new X l');
          alone = λ X l' Y m'. kept.alone X (new X l') Y (new Y m');
        }

    -- a commit: nobody who is still live has the start of the one that commits
    pub end_agree : {C : ℕ} → Ends s s' C → Agree s' parent (with_commit h C)
    end_agree {C} c =
        record {
          tree = q.tree';
          ordered = commit_ordered kept.ordered C;
          store = kept.store;
          parents = quiet_agree.parents;
          begun = quiet_agree.begun;
          under = quiet_agree.under;
          uncommitted = λ X l'. put_elsewhere h.has_committed _ true _ (other X l') ∙ quiet_agree.uncommitted X l';
          alone = quiet_agree.alone;
        }
      where
        other : (X : ℕ) → Live s' X → h.start_of X ≢ h.start_of C
        other X l' same = c.now_ended (rw (kept.alone X (c.nobody_new X l') C c.live_before same) at l')

  -- a start
  module _
      {n p : ℕ} (tree' : Tree s') (parent_kept : (X : ℕ) → Stays s s' X → s'.parent X ≡ s.parent X)
      (b : Begins s s' n p) where
    -- the new action's start
    abbrev newest : ℕ
    newest = suc h.starts

    abbrev start_of' : ℕ → ℕ
    start_of' = put h.start_of n newest

    abbrev parent_start' : ℕ → ℕ
    parent_start' = put h.parent_start newest (h.start_of p)

    start_of_new : start_of' n ≡ newest
    start_of_new = put_there h.start_of n newest

    start_of_old : (X : ℕ) → X ≢ n → start_of' X ≡ h.start_of X
    start_of_old = put_elsewhere h.start_of n newest

    newest_alone : (X : ℕ) → X ≢ n → start_of' n ≢ start_of' X
    newest_alone X other same = omega (arith, kept.ordered.known X, sym start_of_new ∙ same ∙ start_of_old X other)

    new_under : parent_start' (start_of' n) ≡ start_of' (s'.parent n)
    new_under =
        rw (start_of_new, b.under, start_of_old p (λ p≡n. parent_other tree' b.now_live (b.under ∙ p≡n)))
        (put_there h.parent_start newest (h.start_of p))

    old_under : (X : ℕ) → X ≢ n → Stays s s' X → parent_start' (start_of' X) ≡ start_of' (s'.parent X)
    old_under X other x =
        let held = kept.tree.parent_held X x.before in
        rw (start_of_old X other, parent_kept X x, start_of_old (s.parent X) (given_free tree' b held))
        (put_elsewhere h.parent_start newest (h.start_of p) (h.start_of X) (λ same. omega (arith, kept.ordered.known X))
        ∙ kept.under X x.before)

    begin_agree : Agree s' (put parent n p) (with_start h n p)
    begin_agree =
        record {
          tree = tree';
          ordered = start_ordered kept.ordered n p;
          store = start_of_old 0 (given_free tree' b (inl refl)) ∙ kept.store;
          parents =
              by_age b (λ X. put parent n p X ≡ s'.parent X)
              (put_there parent n p ∙ sym b.under)
              (λ X other x. put_elsewhere parent n p X other ∙ kept.parents X x.before ∙ sym (parent_kept X x));
          begun =
              by_age b (λ X. 1 ≤ start_of' X)
              (rw start_of_new (omega arith))
              (λ X other x. rw (start_of_old X other) (kept.begun X x.before));
          under = by_age b (λ X. parent_start' (start_of' X) ≡ start_of' (s'.parent X)) new_under old_under;
          uncommitted =
              by_age b (λ X. h.has_committed (start_of' X) ≡ false)
              (rw start_of_new (kept.ordered.later newest (omega arith)))
              (λ X other x. rw (start_of_old X other) (kept.uncommitted X x.before));
          alone =
              by_age b (λ X. (Y : ℕ) → Live s' Y → start_of' X ≡ start_of' Y → X ≡ Y)
              (by_age b (λ Y. start_of' n ≡ start_of' Y → n ≡ Y) (λ _. refl) (λ Y other y same. absurd (newest_alone Y other same)))
              (λ X other x.
              by_age b (λ Y. start_of' X ≡ start_of' Y → X ≡ Y)
              (λ same. absurd (newest_alone X other (sym same)))
              (λ Y other' y same.
              kept.alone X x.before Y y.before (sym (start_of_old X other) ∙ same ∙ start_of_old Y other')));
        }

leave_agree :
    {Vs : Values} {s s' : AbstractState Vs} {parent : ℕ → ℕ} {h : Lineage} {ns : List ℕ} →
    LetLeave s s' ns → Agree s parent h → Agree s' parent (with_commits h ns)
unfolding with_commits
leave_agree none_leaves kept = kept
leave_agree (some_dropped q rest) kept = leave_agree rest (quiet_agree kept q)
leave_agree (one_leaves q ends rest) kept = leave_agree rest (end_agree kept q ends)

pub one_agree :
    {Vs : Values} {s s' : AbstractState Vs} {parent : ℕ → ℕ} {h : Lineage} {e : Event} {it : Told} →
    Tells s s' e it → Agree s parent h → Agree s' (parents_after e it parent) (lineage_one e it h)
unfolding parents_after lineage_one with_start_at commits_at with_commits
one_agree {it = it_began n} step kept = begin_agree kept step.tree' step.parent_kept step.lives
one_agree {it = it_read} step kept = quiet_agree kept (tells_quiet step step.lives.0)
one_agree {it = it_wrote} step kept = quiet_agree kept (tells_quiet step step.lives.0)
one_agree {it = it_added} step kept = quiet_agree kept (tells_quiet step step.lives.0)
one_agree {it = it_committed} step kept = end_agree kept (tells_quiet step step.lives.nobody_new) step.lives
one_agree {it = it_let_leave leavers} step kept = leave_agree step.lives kept
one_agree {it = it_did_nothing} step kept = quiet_agree kept (tells_quiet step step.lives)
