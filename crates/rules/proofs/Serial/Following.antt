-- A number that is followed through S reaches the store just where its action is in R by the words of the rule; so R as Reach
-- finds it has the same actions, and the same reads and writes. Assumes nothing.
use Prim.Native.Nat.{ℕ, suc, ◌-◌, ◌≤◌, ◌<◌}
use native.Mathlib.Omega.{arith}
use mathlib.Core.Path.{◌≡◌, refl, sym, ap, ◌∙◌}
use mathlib.Core.Logic.{◌⊎◌, inl, inr, ⊎_elim, ◌≢◌}
use mathlib.Core.Bool.{Bool, true, false, cond}
use mathlib.Core.List.{List, ◌++◌, map}
use lib.Dec.{eqb}
use borrow.Author.Tests.{eqb-true, eqb-false, ne_eqb}
use Rattle.rules.specs.Range.{up_from}
use Rattle.rules.specs.Event.{Event}
use Rattle.rules.specs.Serial.Told.{Told, it_began, it_read, it_wrote, it_added, it_committed, it_let_leave, it_did_nothing}
use Rattle.rules.specs.Serial.Collect.{commits_at}
use Rattle.rules.specs.Serial.Reach.{parents_after, is_given_to, moved_up, reaches_store, Act, act_of, acts_of_r}
use Rattle.rules.specs.Serial.Starts.{Lineage, with_start, with_commit, with_commits, with_start_at, lineage_one, lineage_from, is_in_r, given_at, starts_reach, acts_of_starts}
use Rattle.rules.proofs.Laws.Tests.{test, cond_holds, cond_same, not_both}
use Rattle.rules.proofs.Laws.Puts.{put_there, put_elsewhere}
use Rattle.rules.proofs.Serial.Values.{Values}
use Rattle.rules.proofs.Serial.AbstractState.{AbstractState, Live, Tree, live_not_store}
use Rattle.rules.proofs.Serial.Change.{Stays}
use Rattle.rules.proofs.Serial.Lineages.{IsStart, Ordered, Extends, extends_itself, extends_further, start_extends, commit_extends, commits_keep_starts, store_in_r, in_r_step}
use Rattle.rules.proofs.Serial.Agreement.{StoreOrLive, Begins, Ends, Quiet, LetLeave, none_leaves, some_dropped, one_leaves, Tells, TellAll, no_more, tells_then, tells_quiet, given_free, by_age, Agree, quiet_agree, end_agree, one_agree}

-- ---- what is left of S

-- the action of start x has not committed, and none that is live is that action
record Dropped {Vs : Values} (s : AbstractState Vs) (h : Lineage) (x : ℕ) : Type 0 where
  pub known : x ≤ h.starts
  pub unheld : (X : ℕ) → Live s X → h.start_of X ≢ x
  pub uncommitted : h.has_committed x ≡ false

-- What is left of S from the state s and the lineage h on: the numbers that reach the store by it, and the lineage after it.
-- Shown from the end of S back, step by step.
record Followed {Vs : Values} (s : AbstractState Vs) (h : Lineage) (reaches : ℕ → Bool) (final : Lineage) : Type 0 where
  pub ordered : Ordered final
  pub extends : Extends h final
  -- the store and every live action reach the store just where they are in R
  pub held : (X : ℕ) → StoreOrLive s X → reaches X ≡ is_in_r final (h.start_of X)
  -- a number under which nobody is live is lost: no commit is told of it before it is given to another
  pub lost : (X : ℕ) → X ≢ 0 → (Live s X → ⊥) → reaches X ≡ false
  -- and no action commits that is live no more
  pub never : (x : ℕ) → Dropped s h x → final.has_committed x ≡ false

uncommitted_not_in_r : {h : Lineage} → Ordered h → (x : ℕ) → IsStart h x → h.has_committed x ≡ false → is_in_r h x ≡ false
uncommitted_not_in_r o x up uncommitted = in_r_step o x up ∙ rw uncommitted

-- ---- one step: a start, a commit, or neither

-- what each of the three does to the starts
record Moves {Vs : Values} (s s' : AbstractState Vs) (h h' : Lineage) : Type 0 where
  pub grown : Extends h h'
  pub start_kept : (X : ℕ) → StoreOrLive s X → h'.start_of X ≡ h.start_of X
  -- who wasn't live has started since
  pub old_or_new : (X : ℕ) → Live s' X → Live s X ⊎ (h.starts < h'.start_of X)

module _ {Vs : Values} {s s' : AbstractState Vs} {h h' : Lineage} (m : Moves s s' h h') where
  -- x started before the step, has not committed with it, and nobody who stays has it
  dropped_now :
      {x : ℕ} → x ≤ h.starts → ((X : ℕ) → Stays s s' X → h.start_of X ≢ x) → h'.has_committed x ≡ false → Dropped s' h' x
  dropped_now {x} known unheld uncommitted =
      record {
        known = omega (arith, m.grown.no_fewer);
        unheld = λ X l' same. ⊎_elim (old X l' same) (λ new. omega arith) (m.old_or_new X l');
        uncommitted = uncommitted;
      }
    where
      old : (X : ℕ) → Live s' X → h'.start_of X ≡ x → Live s X → ⊥
      old X l' same l = unheld X (record { before = l; after = l' }) (sym (m.start_kept X (inr l)) ∙ same)

  stays_dropped : {x : ℕ} → Dropped s h x → h'.has_committed x ≡ false → Dropped s' h' x
  stays_dropped d = dropped_now d.known (λ X x. d.unheld X x.before)

  module _
      {parent : ℕ → ℕ} (kept : Agree s parent h) {reaches : ℕ → Bool} {final : Lineage}
      (later : Followed s' h' reaches final) where
    -- X ends and doesn't commit
    ended_followed :
        (X : ℕ) → Live s X → s'.live X ≡ false → h'.has_committed (h.start_of X) ≡ false →
        reaches X ≡ is_in_r final (h.start_of X)
    ended_followed X l ended uncommitted =
        later.lost X (live_not_store kept.tree l) (λ l'. not_both l' ended)
        ∙ sym (uncommitted_not_in_r later.ordered (h.start_of X) started (later.never (h.start_of X) dropped))
      where
        dropped : Dropped s' h' (h.start_of X)
        dropped =
            dropped_now (kept.ordered.known X)
            (λ Y y same. not_both (rw (kept.alone Y y.before X l same) at y.after) ended) uncommitted

        started : IsStart final (h.start_of X)
        started = (kept.begun X l, omega (arith, dropped.known, later.extends.no_fewer))

    uncommitting_followed :
        (X : ℕ) → StoreOrLive s X → (Live s X → h'.has_committed (h.start_of X) ≡ false) →
        reaches X ≡ is_in_r final (h.start_of X)
    uncommitting_followed X (inl store) uncommitted =
        later.held X (inl store) ∙ ap (is_in_r final) (m.start_kept X (inl store))
    uncommitting_followed X (inr l) uncommitted =
        ⊎_elim
        (λ l'. later.held X (inr l') ∙ ap (is_in_r final) (m.start_kept X (inr l)))
        (λ ended. ended_followed X l ended (uncommitted l))
        (test (s'.live X))

module _ {Vs : Values} {s s' : AbstractState Vs} {parent : ℕ → ℕ} {h : Lineage} (kept : Agree s parent h)
    {reaches : ℕ → Bool} {final : Lineage} where
  -- some may have been dropped
  quiet_followed : Quiet s s' → Followed s' h reaches final → Followed s h reaches final
  quiet_followed q later =
      record {
        ordered = later.ordered;
        extends = later.extends;
        held = λ X held. uncommitting_followed moves kept later X held (kept.uncommitted X);
        lost = λ X X≢0 ended. later.lost X X≢0 (λ l'. ended (q.nobody_new X l'));
        never = λ x d. later.never x (stays_dropped moves d d.uncommitted);
      }
    where
      moves : Moves s s' h h
      moves =
          record { grown = extends_itself h; start_kept = λ X held. refl; old_or_new = λ X l'. inl (q.nobody_new X l') }

  -- C commits
  module _ {C : ℕ} (c : Ends s s' C) (later : Followed s' (with_commit h C) reaches final) where
    -- it is its parent that is followed
    committed_followed : reaches (parent C) ≡ is_in_r final (h.start_of C)
    committed_followed =
        rw (kept.parents C c.live_before)
        (later.held (s.parent C) c.parent_does_stay ∙ ap (is_in_r final) (sym (kept.under C c.live_before)) ∙ sym walk)
      where
        x : ℕ
        x = h.start_of C

        done : final.has_committed x ≡ true
        done = later.extends.commits x (put_there h.has_committed x true)

        walk : is_in_r final x ≡ is_in_r final (h.parent_start x)
        walk =
            in_r_step later.ordered x
            (kept.begun C c.live_before, omega (arith, kept.ordered.known C, later.extends.no_fewer))
            ∙ rw (done, later.extends.parents x (kept.ordered.known C)) refl

    others_unchanged : (x : ℕ) → x ≢ h.start_of C → (with_commit h C).has_committed x ≡ h.has_committed x
    others_unchanged = put_elsewhere h.has_committed (h.start_of C) true

    commit_moves : Moves s s' h (with_commit h C)
    commit_moves =
        record {
          grown = commit_extends h C;
          start_kept = λ X held. refl;
          old_or_new = λ X l'. inl (c.nobody_new X l');
        }

    end_followed : Followed s h (λ X. reaches (cond (eqb X C) (parent X) X)) final
    end_followed =
        record {
          ordered = later.ordered;
          extends = extends_further (commit_extends h C) later.extends;
          held =
              λ X held.
              cond_holds (λ Y. reaches Y ≡ is_in_r final (h.start_of X)) (eqb X C)
              (λ same. rw (eqb-true X C same) committed_followed)
              (λ differs.
              uncommitting_followed commit_moves kept later X held
              (λ l.
              others_unchanged (h.start_of X) (λ same. eqb-false X C differs (kept.alone X l C c.live_before same))
              ∙ kept.uncommitted X l));
          lost =
              λ X X≢0 ended.
              rw (ne_eqb X C (λ X≡C. ended (rw X≡C c.live_before))) (later.lost X X≢0 (λ l'. ended (c.nobody_new X l')));
          never =
              λ x d.
              later.never x
              (stays_dropped commit_moves d
              (others_unchanged x (λ same. d.unheld C c.live_before (sym same)) ∙ d.uncommitted));
        }

  -- n is given to a new action under p
  begin_followed :
      {n p : ℕ} → Tree s' → Begins s s' n p → Followed s' (with_start h n p) reaches final →
      Followed s h (λ X. cond (eqb X n) false (reaches X)) final
  begin_followed {n} {p} tree' b later =
      record {
        ordered = later.ordered;
        extends = extends_further (start_extends h n p) later.extends;
        held =
            λ X held.
            rw (ne_eqb X n (given_free tree' b held)) (uncommitting_followed moves kept later X held (kept.uncommitted X));
        lost =
            λ X X≢0 ended.
            cond_holds (λ now. now ≡ false) (eqb X n)
            (λ _. refl)
            (λ differs. later.lost X X≢0 (λ l'. ended (b.nobody_else_new X l' (eqb-false X n differs))));
        never = λ x d. later.never x (stays_dropped moves d d.uncommitted);
      }
    where
      moves : Moves s s' h (with_start h n p)
      moves =
          record {
            grown = start_extends h n p;
            start_kept = λ X held. put_elsewhere h.start_of n _ X (given_free tree' b held);
            old_or_new =
                by_age b (λ X. Live s X ⊎ (h.starts < (with_start h n p).start_of X))
                (inr (rw (put_there h.start_of n (suc h.starts)) (omega arith)))
                (λ X other x. inl x.before);
          }

-- ---- one event, and the events to the end

leave_followed :
    {Vs : Values} {s s' : AbstractState Vs} {ns : List ℕ} → LetLeave s s' ns → {parent : ℕ → ℕ} {h : Lineage} → Agree s parent h →
    {reaches : ℕ → Bool} {final : Lineage} → Followed s' (with_commits h ns) reaches final →
    Followed s h (λ X. reaches (moved_up parent ns X)) final
unfolding moved_up with_commits
leave_followed none_leaves kept later = later
leave_followed (some_dropped q rest) kept later = quiet_followed kept q (leave_followed rest (quiet_agree kept q) later)
leave_followed (one_leaves q ends rest) kept later = end_followed kept ends (leave_followed rest (end_agree kept q ends) later)

one_followed :
    {Vs : Values} {s s' : AbstractState Vs} {e : Event} {it : Told} → Tells s s' e it →
    {parent : ℕ → ℕ} {h : Lineage} → Agree s parent h →
    {reaches : ℕ → Bool} {final : Lineage} → Followed s' (lineage_one e it h) reaches final →
    Followed s h (λ X. cond (is_given_to it X) false (reaches (moved_up (parents_after e it parent) (commits_at e it) X))) final
unfolding is_given_to moved_up parents_after commits_at lineage_one with_start_at with_commits
one_followed {it = it_began n} step kept later = begin_followed kept step.tree' step.lives later
one_followed {it = it_read} step kept later = quiet_followed kept (tells_quiet step step.lives.0) later
one_followed {it = it_wrote} step kept later = quiet_followed kept (tells_quiet step step.lives.0) later
one_followed {it = it_added} step kept later = quiet_followed kept (tells_quiet step step.lives.0) later
one_followed {it = it_committed} step kept later = end_followed kept step.lives later
one_followed {it = it_let_leave leavers} step kept later = leave_followed step.lives kept later
one_followed {it = it_did_nothing} step kept later = quiet_followed kept (tells_quiet step step.lives) later

followed :
    {Vs : Values} {s : AbstractState Vs} {es : List Event} {its : List Told} → TellAll s es its →
    {parent : ℕ → ℕ} {h : Lineage} → Agree s parent h → Followed s h (reaches_store parent es its) (lineage_from es its h)
unfolding reaches_store lineage_from
followed {s = s} no_more {h = h} kept =
    record {
      ordered = kept.ordered;
      extends = extends_itself h;
      held = at_end;
      lost = λ X X≢0 ended. ne_eqb X 0 X≢0;
      never = λ x d. d.uncommitted;
    }
  where
    at_end : (X : ℕ) → StoreOrLive s X → eqb X 0 ≡ is_in_r h (h.start_of X)
    at_end X (inl store) = rw (store, kept.store) (sym (store_in_r h))
    at_end X (inr l) =
        ne_eqb X 0 (live_not_store kept.tree l)
        ∙ sym
        (uncommitted_not_in_r kept.ordered (h.start_of X) (kept.begun X l, kept.ordered.known X) (kept.uncommitted X l))
followed (tells_then step rest) kept = one_followed step kept (followed rest (one_agree step kept))

-- ---- every action, in the order of the starts

-- of those who start from here on, where `last` start in all: the one that starts at this event comes first
one_start :
    {Vs : Values} {s s' : AbstractState Vs} {e : Event} (it : Told) → Tells s s' e it → (h : Lineage) (last : ℕ) →
    (lineage_one e it h).starts ≤ last → (reaches in_r : ℕ → Bool) →
    ((X : ℕ) → StoreOrLive s' X → reaches X ≡ in_r ((lineage_one e it h).start_of X)) →
    map reaches (given_at it) ++ map in_r (up_from (suc (lineage_one e it h).starts) (last - (lineage_one e it h).starts))
    ≡ map in_r (up_from (suc h.starts) (last - h.starts))
unfolding given_at lineage_one with_start_at commits_at with_commits up_from
one_start (it_began n) step h last more reaches in_r same =
    let one_more : last - h.starts ≡ suc (last - suc h.starts) = omega arith in
    rw (one_more, same n (inr step.lives.now_live), put_there h.start_of n (suc h.starts)) refl
one_start it_read step h last more reaches in_r same = refl
one_start it_wrote step h last more reaches in_r same = refl
one_start it_added step h last more reaches in_r same = refl
one_start it_committed step h last more reaches in_r same = refl
one_start (it_let_leave leavers) step h last more reaches in_r same = rw (commits_keep_starts h leavers)
one_start it_did_nothing step h last more reaches in_r same = refl

pub same_starts :
    {Vs : Values} {s : AbstractState Vs} {es : List Event} {its : List Told} → TellAll s es its →
    {parent : ℕ → ℕ} {h : Lineage} → Agree s parent h →
    starts_reach parent es its
    ≡ map (is_in_r (lineage_from es its h)) (up_from (suc h.starts) ((lineage_from es its h).starts - h.starts))
unfolding starts_reach lineage_from up_from
same_starts no_more {h = h} kept = let none : h.starts - h.starts ≡ 0 = omega arith in rw none refl
same_starts (tells_then {it = it} step rest) {h = h} kept =
    let kept' = one_agree step kept in
    let later = followed rest kept' in
    rw (same_starts rest kept') (one_start it step h _ later.extends.no_fewer _ _ later.held)

-- ---- the reads and writes of R

-- those that took place at one event: whose they are is live then
own_acts :
    {Vs : Values} {s s' : AbstractState Vs} (i : ℕ) (e : Event) (it : Told) → Tells s s' e it → (b b' : Bool) (later : List Act) →
    (Live s' e.number → b ≡ b') → cond b (act_of i e it ++ later) later ≡ cond b' (act_of i e it ++ later) later
unfolding act_of
own_acts i e it_read step b b' later same = rw (same step.lives.1)
own_acts i e it_wrote step b b' later same = rw (same step.lives.1)
own_acts i e it_added step b b' later same = rw (same step.lives.1)
own_acts i e (it_began n) step b b' later same = cond_same b later ∙ sym (cond_same b' later)
own_acts i e it_committed step b b' later same = cond_same b later ∙ sym (cond_same b' later)
own_acts i e (it_let_leave leavers) step b b' later same = cond_same b later ∙ sym (cond_same b' later)
own_acts i e it_did_nothing step b b' later same = cond_same b later ∙ sym (cond_same b' later)

pub same_acts :
    {Vs : Values} {s : AbstractState Vs} {es : List Event} {its : List Told} → TellAll s es its →
    (i : ℕ) {parent : ℕ → ℕ} {h : Lineage} → Agree s parent h →
    acts_of_r i parent es its ≡ acts_of_starts (is_in_r (lineage_from es its h)) i h es its
unfolding acts_of_r acts_of_starts lineage_from
same_acts no_more i kept = refl
same_acts (tells_then {e = e} {it = it} step rest) i kept =
    let kept' = one_agree step kept in
    rw (same_acts rest (suc i) kept')
    (own_acts i e it step _ _ _ (λ l'. (followed rest kept').held e.number (inr l')))
