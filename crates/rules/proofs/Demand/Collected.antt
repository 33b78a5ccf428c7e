-- The collector beside the engine: event by event, what demand 3's proof keeps of both, whatever the judging rule.
-- Assumes nothing.
use Prim.Native.Nat.{ℕ}
use native.Mathlib.Omega.{arith}
use native.Mathlib.Decide.{ℕ_discrete}
use mathlib.Core.Path.{◌≡◌, refl, sym, ap, ◌∙◌}
use mathlib.Core.Logic.{◌≢◌}
use mathlib.Core.Bool.{true, false}
use Rattle.std.specs.Prelude.{None}
use Rattle.rules.specs.Card.{is_charge}
use Rattle.rules.specs.Table.{parent_of}
use Rattle.rules.specs.Free.{next_number}
use Rattle.rules.specs.Sound.{IsGiven}
use Rattle.rules.specs.Ledger.{Ledger}
use Rattle.rules.specs.Cause.{is_commit_outside}
use Rattle.rules.specs.Commit.{committed_under}
use Rattle.rules.specs.Step.{start, read}
use Rattle.rules.specs.Serial.Effect.{Effect}
use Rattle.rules.specs.Serial.Block.{Block, empty, child}
use Rattle.rules.specs.Serial.Collect.{put, Known, begun, laid, grown}
use Rattle.rules.proofs.Laws.Freeing.{Givable}
use Rattle.rules.proofs.Laws.Permitted.{Startable, Touchable, Committable, not_own_parent}
use Rattle.rules.proofs.Laws.Puts.{put_there, put_elsewhere, put_holds}
use Rattle.rules.proofs.Serial.Values.{AccountValue, account_values}
use Rattle.rules.proofs.Serial.AbstractState.{AbstractState, Live}
use Rattle.rules.proofs.Serial.Change.{Stays}
use Rattle.rules.proofs.Serial.Events.{NobodyNew, Drop}
use Rattle.rules.proofs.Serial.Invariant.{Put}
use Rattle.rules.proofs.Serial.GroundedRule.{GroundedHolds, grounded_start, grounded_read, grounded_write, grounded_commit, grounded_drop}
use Rattle.rules.proofs.Serial.Shown.{shown_base, account_charges}
use Rattle.rules.proofs.Serial.Settling.{WholeOn}
use Rattle.rules.proofs.Serial.Running.{Whole, OnlyChildren}
use Rattle.rules.proofs.Sound.Giving.{give_parent}
use Rattle.rules.proofs.Demand.Abstraction.{view_of, abstraction}
use Rattle.rules.proofs.Demand.Proper.{Proper}
use Rattle.rules.proofs.Demand.AbstractionLaws.{live_alive, charges_seen}
use Rattle.rules.proofs.Demand.Starts.{start_givable, start_starts}
use Rattle.rules.proofs.Demand.Reads.{read_reads}
use Rattle.rules.proofs.Demand.Entering.{Entering, entering_writes}
use Rattle.rules.proofs.Demand.CommitTable.{still_alive_other}
use Rattle.rules.proofs.Demand.CommitChange.{abstract_commit}
use Rattle.rules.proofs.Demand.JudgingRule.{JudgingRule}

-- ---- what is kept

-- of the live actions the collector knows the parents
abbrev KnowsParents : AbstractState account_values → (ℕ → ℕ) → Type 0
KnowsParents s parent = (X : ℕ) → Live s X → parent X ≡ s.parent X

-- got: what the reader at each place saw; ground: what the base showed there of a charge account; opening: what the opening base
-- store shows
pub record Kept (J : JudgingRule) (got ground opening : ℕ → AccountValue) (s : Ledger) (c : Known) : Type 0 where
  pub proper : Proper s
  pub holds : GroundedHolds J.rule account_charges got ground opening s c.block
  pub parents : KnowsParents (abstraction s) c.parent
  pub whole : (n : ℕ) → Whole (c.block n)
  pub top : OnlyChildren (c.block 0)
  pub waiting : J.waits.Waiting s

-- a parent that is known stays so while nobody is new and live actions keep their parents
same_parents :
    {s s' : AbstractState account_values} {parent : ℕ → ℕ} → NobodyNew s s' → ((X : ℕ) → Stays s s' X → s'.parent X ≡ s.parent X) →
    KnowsParents s parent → KnowsParents s' parent
same_parents nobody_new kept known X l' =
    let l = nobody_new X l' in
    known X l ∙ sym (kept X (record { before = l; after = l' }))

-- ---- event by event

-- J, got, ground and opening as above, at place i, from a state and what is collected before it to the state after
module _
    (J : JudgingRule) (got ground opening : ℕ → AccountValue) {s : Ledger} {c : Known} (kept : Kept J got ground opening s c) (i : ℕ) where
  -- some are dropped, or a queue changes: no block does
  pub drop_kept :
      (s' : Ledger) → Proper s' → Drop (abstraction s) (abstraction s') → J.rule.CalmFacts s s' → J.waits.Waiting s' →
      Kept J got ground opening s' c
  drop_kept s' proper' drop facts waiting' =
      record {
        proper = proper';
        holds = grounded_drop J.rule account_charges got ground opening charges_seen s s' kept.holds drop facts;
        parents = same_parents drop.nobody_new drop.still.parent_kept kept.parents;
        whole = kept.whole;
        top = kept.top;
        waiting = waiting';
      }

  -- a start: the new action's block is empty
  module _ (p : ℕ) (permitted : Startable s.table p) where
    abbrev new : ℕ
    new = next_number s.table

    givable : Givable s.table new
    givable = start_givable kept.proper permitted

    new_put : Put (abstraction (start s p).after) c.block (put c.block new empty) new empty
    new_put =
        record {
          new = put_there c.block new empty;
          store_kept = λ _. put_elsewhere c.block new empty 0 (λ z. omega (arith, givable.first));
          live_kept = λ X _ ne. put_elsewhere c.block new empty X ne;
        }

    new_parents : KnowsParents (abstraction (start s p).after) (put c.parent new p)
    unfolding start
    new_parents =
        let starts = start_starts s kept.proper p permitted in
        put_holds c.parent new p (λ X q. Live (abstraction (start s p).after) X → q ≡ parent_of (start s p).after.table X)
        (λ _. sym (give_parent s.table new p kept.proper.sound.long givable.first givable.few))
        (λ X ne l'.
        let l = starts.nobody_else_new X l' ne in
        kept.parents X l ∙ sym (starts.still.parent_kept X (record { before = l; after = l' })))

    pub start_kept : Proper (start s p).after → Kept J got ground opening (start s p).after (begun c new p)
    unfolding start Whole
    start_kept proper' =
        record {
          proper = proper';
          holds =
              grounded_start J.rule account_charges got ground opening charges_seen s (start s p).after kept.holds new
              (start_starts s kept.proper p permitted) (J.at_start s kept.proper p permitted) new_put;
          parents = new_parents;
          whole = put_holds c.block new empty (λ _. Whole) tt (λ m _. kept.whole m);
          top = rw (put_elsewhere c.block new empty 0 (λ z. omega (arith, givable.first))) kept.top;
          waiting = J.waits.waits_start s kept.proper p permitted kept.waiting;
        }

  -- a step of the action n itself: its block grows by one, the store's stays
  module _ (n : ℕ) (own : IsGiven s.table n) (d : Block Effect) where
    own_put : (s' : Ledger) → Put (abstraction s') c.block (put c.block n d) n d
    own_put s' =
        record {
          new = put_there c.block n d;
          store_kept = λ ne. put_elsewhere c.block n d 0 (λ z. ne (sym z));
          live_kept = λ X _ ne. put_elsewhere c.block n d X ne;
        }

    own_top : OnlyChildren (put c.block n d 0)
    own_top = rw (put_elsewhere c.block n d 0 (λ z. omega (arith, own))) kept.top

    own_whole : Whole d → (m : ℕ) → Whole (put c.block n d m)
    own_whole whole = put_holds c.block n d (λ _. Whole) whole (λ m _. kept.whole m)

  module _ (n k : ℕ) (permitted : Touchable s.table n k) where
    pub read_kept :
        Proper (read s n k).after → view_of (read s n k).after n k ≡ got i →
        (is_charge k ≡ true → shown_base (read s n k).after.base k ≡ ground i) →
        Kept J got ground opening (read s n k).after (grown c n (Block.read (c.block n) i k))
    unfolding read Whole
    read_kept proper' seen below =
        let reads = read_reads s kept.proper n k permitted in
        let own = permitted.own in
        record {
          proper = proper';
          holds =
              grounded_read J.rule account_charges got ground opening charges_seen s (read s n k).after kept.holds n k i reads
              seen below (J.at_read s kept.proper n k permitted)
              (own_put n own (Block.read (c.block n) i k) (read s n k).after);
          parents = same_parents reads.nobody_new reads.still.parent_kept kept.parents;
          whole = own_whole n own (Block.read (c.block n) i k) (kept.whole n);
          top = own_top n own (Block.read (c.block n) i k);
          waiting = J.waits.waits_read s kept.proper n k permitted kept.waiting;
        }

    -- a write or an add
    pub enter_kept :
        {s' : Ledger} {f : Effect} → Entering s s' n k f → WholeOn k f → J.rule.CalmFacts s s' → J.waits.Waiting s' →
        Kept J got ground opening s' (grown c n (Block.write (c.block n) i k f))
    unfolding Whole
    enter_kept {s'} {f} enters whole facts waiting' =
        let writes = entering_writes kept.proper permitted enters in
        let own = permitted.own in
        record {
          proper = enters.proper;
          holds =
              grounded_write J.rule account_charges got ground opening charges_seen s s' kept.holds n k i f writes facts
              (own_put n own (Block.write (c.block n) i k f) s');
          parents = same_parents writes.nobody_new writes.change.parent_kept kept.parents;
          whole = own_whole n own (Block.write (c.block n) i k f) (kept.whole n, whole);
          top = own_top n own (Block.write (c.block n) i k f);
          waiting = waiting';
        }

  -- a commit: the block of n is taken out and laid into its parent's
  module _ (n : ℕ) (j : Committable s.table n) where
    abbrev p : ℕ
    p = parent_of s.table n

    abbrev s' : Ledger
    s' = committed_under s n p

    rest : ℕ → Block Effect
    rest = put c.block n empty

    known_parent : c.parent n ≡ p
    known_parent = kept.parents n (live_alive s.table n j.own j.alive)

    laid_blocks : (laid i c n).block ≡ put rest p (child (rest p) i n (c.block n))
    unfolding rest
    laid_blocks = rw known_parent

    -- every block but n's is left by taking n's out
    rest_kept : (m : ℕ) → m ≢ n → rest m ≡ c.block m
    unfolding rest
    rest_kept m ne = put_elsewhere c.block n empty m ne

    store_other : 0 ≢ n
    store_other e = omega (arith, j.own)

    laid_put : Put (abstraction s') c.block (laid i c n).block p (child (c.block p) i n (c.block n))
    laid_put =
        rw laid_blocks
        (record {
          new = put_there rest p _ ∙ ap (λ b. child b i n (c.block n)) (rest_kept p (not_own_parent j));
          store_kept = λ ne. put_elsewhere rest p _ 0 (λ z. ne (sym z)) ∙ rest_kept 0 store_other;
          live_kept = λ X l ne.
              put_elsewhere rest p _ X ne ∙ rest_kept X (still_alive_other kept.proper j refl X l);
        })

    rest_whole : (m : ℕ) → Whole (rest m)
    unfolding rest Whole
    rest_whole = put_holds c.block n empty (λ _. Whole) tt (λ m _. kept.whole m)

    laid_whole : (m : ℕ) → Whole ((laid i c n).block m)
    unfolding Whole
    laid_whole =
        rw laid_blocks
        (put_holds rest p _ (λ _. Whole) (rest_whole p, kept.whole n) (λ m _. rest_whole m))

    rest_top : OnlyChildren (rest 0)
    rest_top = rw (rest_kept 0 store_other) kept.top

    laid_top : OnlyChildren ((laid i c n).block 0)
    unfolding OnlyChildren
    laid_top = rw laid_blocks (cases (ℕ_discrete 0 p))
      where
        cases : Dec (0 ≡ p) → OnlyChildren (put rest p (child (rest p) i n (c.block n)) 0)
        cases (yes e) = rw (← e) (rw (put_there rest 0 (child (rest 0) i n (c.block n))) rest_top)
        cases (no ne) = rw (put_elsewhere rest p (child (rest p) i n (c.block n)) 0 ne) rest_top

    pub pass_kept :
        is_commit_outside s.table s.base n None ≡ false → Proper s' → J.rule.pass s n → J.waits.Waiting s' →
        Kept J got ground opening s' (laid i c n)
    pass_kept fits proper' passed waiting' =
        let commits = abstract_commit kept.proper j refl fits in
        record {
          proper = proper';
          holds =
              grounded_commit J.rule account_charges got ground opening charges_seen s s' kept.holds n p i commits
              (J.at_commit s kept.proper n j) passed laid_put;
          parents = same_parents commits.nobody_new commits.change.parent_kept kept.parents;
          whole = laid_whole;
          top = laid_top;
          waiting = waiting';
        }
