-- What the base showed of a charge account where a block reads it. Every action sees a charge account through to the base, so
-- while it is fine the base shows that account as it did at the read: also where its block comes to stand in the store's.
-- Assumes nothing.
use mathlib.Core.Path.{◌≡◌, sym, ap, ◌∙◌}
use mathlib.Core.Bool.{Bool, true, false, false≢true}
use mathlib.Core.Logic.{inl, inr, ◌≢◌}
use Prim.Native.Nat.{ℕ}
use native.Mathlib.Decide.{ℕ_discrete}
use Rattle.rules.specs.Serial.Block.{Block, empty, read, write, child}
use Rattle.rules.proofs.Serial.Values.{Values}
use Rattle.rules.proofs.Serial.Blocks.{after}
use Rattle.rules.proofs.Serial.AbstractState.{AbstractState, Live, HasRead, Tree, Seen, direct, through, live_not_store, PathUp, to_store, to_parent, path_up}
use Rattle.rules.proofs.Serial.Change.{Stays, Change, Undisturbed, base_same}
use Rattle.rules.proofs.Serial.Events.{Noted, Start, Read, Write, Drop, Commit, Calm, stays, still_calm, write_calm, read_passed_up}
use Rattle.rules.proofs.Serial.Invariant.{StoreSure, Put}
use Rattle.rules.proofs.Serial.Preservation.{OkBefore, CommitObligations}

-- which accounts are charge accounts, and of what an account shows, that the base has room for its sum
pub record Charges (Vs : Values) : Type 1 where
  pub is_charge : ℕ → Bool
  pub Fit : Vs.Val → Type 0

-- ---- the reads of charge accounts

-- every read of a charge account in the block, at any depth, has P of its place and its account
unfoldable pub ChargeReads : {E : Type 0} → (ℕ → Bool) → (ℕ → ℕ → Type 0) → Block E → Type 0
ChargeReads is_charge P empty = Unit {0}
ChargeReads is_charge P (read b i k) = ChargeReads is_charge P b × (is_charge k ≡ true → P i k)
ChargeReads is_charge P (write b i k e) = ChargeReads is_charge P b
ChargeReads is_charge P (child b i who d) = ChargeReads is_charge P b × ChargeReads is_charge P d

pub charge_reads_map :
    {E : Type 0} (is_charge : ℕ → Bool) (P Q : ℕ → ℕ → Type 0) → ((i k : ℕ) → is_charge k ≡ true → P i k → Q i k) →
    (b : Block E) → ChargeReads is_charge P b → ChargeReads is_charge Q b
unfolding ChargeReads
charge_reads_map is_charge P Q to empty reads = tt
charge_reads_map is_charge P Q to (read b i k) (earlier, own) =
    (charge_reads_map is_charge P Q to b earlier, λ charge. to i k charge (own charge))
charge_reads_map is_charge P Q to (write b i k e) reads = charge_reads_map is_charge P Q to b reads
charge_reads_map is_charge P Q to (child b i who d) (earlier, inner) =
    (charge_reads_map is_charge P Q to b earlier, charge_reads_map is_charge P Q to d inner)

-- ---- what is asked of a state

-- Whatever a live action has done to a charge account, what lies above is seen through it; and the base has room for what it
-- shows.
pub record ChargesSeen {Vs : Values} (K : Charges Vs) (s : AbstractState Vs) : Type 0 where
  pub seen_through : (X k : ℕ) → Live s X → K.is_charge k ≡ true → Vs.hides (s.eff X k) ≡ false
  pub fits : (k : ℕ) → K.Fit (s.base k)

-- every live action sees every charge account through to the store
module _ {Vs : Values} (K : Charges Vs) {s : AbstractState Vs} (seen : ChargesSeen K s) where
  store_seen_along : {k X : ℕ} → K.is_charge k ≡ true → PathUp s X → Live s X → Seen s k 0 X
  store_seen_along charge (to_store e) l = direct l e
  store_seen_along {k} {X} charge (to_parent lp w) l =
      through l (seen.seen_through (s.parent X) k lp charge) (store_seen_along charge w lp)

  store_seen : Tree s → {k X : ℕ} → K.is_charge k ≡ true → Live s X → Seen s k 0 X
  store_seen t {X = X} charge l = store_seen_along charge (path_up t X l) l

-- ---- what is kept

-- ground: what the base showed, at each place of S, of the account that is read there
module _ {Vs : Values} (K : Charges Vs) (ground : ℕ → Vs.Val) where
  open Vs use {Val, Eff}

  -- X has read k, and the base shows k as it did at place i
  abbrev Stands : AbstractState Vs → ℕ → ℕ → ℕ → Type 0
  Stands s X i k = HasRead s X k × (s.base k ≡ ground i)

  -- so it is with every read of a charge account in the block d of X
  abbrev pub Grounded : AbstractState Vs → ℕ → Block Eff → Type 0
  Grounded s X d = ChargeReads K.is_charge (Stands s X) d

  -- The store's block, run from the opening base: what stands before each child is what the base showed to the child's reads of
  -- charge accounts, and the base has room for what stands after it.
  unfoldable pub FromStore : (ℕ → Val) → Block Eff → Type 0
  FromStore opening empty = Unit {0}
  FromStore opening (read b i k) = FromStore opening b
  FromStore opening (write b i k e) = FromStore opening b
  FromStore opening (child b i who d) =
      FromStore opening b
      × ChargeReads K.is_charge (λ j k. after Vs b opening k ≡ ground j) d
      × ((k : ℕ) → K.Fit (after Vs (child b i who d) opening k))

  -- ok: who is still fine; b: the blocks
  pub record GroundInv (s : AbstractState Vs) (opening : ℕ → Val) (ok : ℕ → Type 0) (b : ℕ → Block Eff) : Type 0 where
    pub store : FromStore opening (b 0)
    pub actions : (X : ℕ) → Live s X → ok X → Grounded s X (b X)

  -- before the first event
  pub ground_opening :
      {s : AbstractState Vs} {opening : ℕ → Val} {ok : ℕ → Type 0} {b : ℕ → Block Eff} →
      ((X : ℕ) → Live s X → ⊥) → b 0 ≡ empty → GroundInv s opening ok b
  unfolding FromStore
  ground_opening nobody none = record { store = rw none tt; actions = λ X l. absurd (nobody X l) }

  -- ---- event by event

  module _ {s s' : AbstractState Vs} (seen : ChargesSeen K s) (seen' : ChargesSeen K s') where
    -- a read stands as long as its action is undisturbed: it would see a change of the base
    stands_still :
        {P X : ℕ} {f : ℕ → Eff} → Change s s' P f → Stays s s' X → Undisturbed s s' P f X →
        (i k : ℕ) → K.is_charge k ≡ true → Stands s X i k → Stands s' X i k
    stands_still {P} {X} c x undisturbed i k charge (has, same) = (
      c.reads_kept X k x has,
      base_same c k (λ P≡0. undisturbed k has (rw P≡0 (store_seen K seen' c.tree' charge x.after))) ∙ same,
    )

    still_grounded :
        {P X : ℕ} {f : ℕ → Eff} → Change s s' P f → Stays s s' X → Undisturbed s s' P f X →
        (d : Block Eff) → Grounded s X d → Grounded s' X d
    still_grounded {X = X} c x undisturbed =
        charge_reads_map K.is_charge (Stands s X) (Stands s' X) (stands_still c x undisturbed)

    -- a read of the present base, by an action that doesn't hide the account
    read_stands :
        {A k : ℕ} → Read s s' A k → K.is_charge k ≡ true → {i : ℕ} → s'.base k ≡ ground i → Stands s' A i k
    read_stands {A} {k} e charge given = (cases e.noted, given)
      where
        cases : Noted s s' A k → HasRead s' A k
        cases (inl has) = has
        cases (inr hidden) =
            absurd (false≢true (sym (seen.seen_through A k (e.nobody_new A e.reader_live) charge) ∙ hidden))

    -- at a commit under an action the reads pass up with the block
    passed_up :
        {C P : ℕ} → Commit s s' C P → Live s' P → (d : Block Eff) → Grounded s C d → Grounded s' P d
    passed_up {C} {P} e l_p' =
        let l_p = e.nobody_new P l_p' in
        charge_reads_map K.is_charge (Stands s C) (Stands s' P)
        (λ i k charge (has, same). (
          read_passed_up e k l_p' has (seen.seen_through P k l_p charge),
          e.change.base_kept k (live_not_store e.change.tree l_p) ∙ same,
        ))

    module _ {opening : ℕ → Val} {ok ok' : ℕ → Type 0} {b : ℕ → Block Eff} (inv : GroundInv s opening ok b) where
      calm_grounded : Calm s s' → OkBefore s s' ok ok' → (X : ℕ) → Stays s s' X → ok' X → Grounded s' X (b X)
      calm_grounded c ok_before X x o =
          still_grounded c.change x (λ k has. c.unseen X k) (b X) (inv.actions X x.before (ok_before X x o))

      pub drop_keeps_ground : Drop s s' → OkBefore s s' ok ok' → GroundInv s' opening ok' b
      drop_keeps_ground e ok_before =
          record {
            store = inv.store;
            actions = λ X l'. calm_grounded (still_calm e.still) ok_before X (stays e.nobody_new l');
          }

      module _ {b' : ℕ → Block Eff} where
        -- from the block of A, which the step has changed to d, and those that it has kept
        ground_put :
            {A : ℕ} {d : Block Eff} → Put s' b b' A d → (A ≡ 0 → FromStore opening d) → (Live s' A → ok' A → Grounded s' A d) →
            ((X : ℕ) → Live s' X → X ≢ A → ok' X → Grounded s' X (b X)) → GroundInv s' opening ok' b'
        ground_put {A} {d} p top changed kept =
            record { store = at_store (ℕ_discrete A 0); actions = λ X l'. at_action X l' (ℕ_discrete X A) }
          where
            at_store : Dec (A ≡ 0) → FromStore opening (b' 0)
            at_store (yes A≡0) = rw (ap b' (sym A≡0) ∙ p.new) (top A≡0)
            at_store (no A≢0) = rw (p.store_kept A≢0) inv.store

            at_action : (X : ℕ) → Live s' X → Dec (X ≡ A) → ok' X → Grounded s' X (b' X)
            at_action X l' (yes X≡A) o = rw X≡A (rw p.new (changed (rw X≡A at l') (rw X≡A at o)))
            at_action X l' (no X≢A) o = rw (p.live_kept X l' X≢A) (kept X l' X≢A o)

        pub start_keeps_ground :
            {A : ℕ} → Start s s' A → OkBefore s s' ok ok' → Put s' b b' A empty → GroundInv s' opening ok' b'
        unfolding ChargeReads
        start_keeps_ground {A} e ok_before p =
            ground_put p
            (λ A≡0. absurd (live_not_store e.still.tree' e.started_live A≡0))
            (λ l' o. tt)
            (λ X l' X≢A.
            calm_grounded (still_calm e.still) ok_before X (record { before = e.nobody_else_new X l' X≢A; after = l' }))

        -- i: the place of the read; where k is a charge account, ground has there what the base shows
        pub read_keeps_ground :
            {A k i : ℕ} → Read s s' A k → (K.is_charge k ≡ true → s'.base k ≡ ground i) → OkBefore s s' ok ok' →
            Put s' b b' A (read (b A) i k) → GroundInv s' opening ok' b'
        unfolding ChargeReads
        read_keeps_ground {A} {k} {i} e given ok_before p =
            ground_put p
            (λ A≡0. absurd (live_not_store e.still.tree' e.reader_live A≡0))
            (λ l' o. (stay A l' o, λ charge. read_stands e charge (given charge)))
            (λ X l' X≢A. stay X l')
          where
            stay : (X : ℕ) → Live s' X → ok' X → Grounded s' X (b X)
            stay X l' = calm_grounded (still_calm e.still) ok_before X (stays e.nobody_new l')

        pub write_keeps_ground :
            {A k i : ℕ} {f : Eff} → Write s s' A k f → OkBefore s s' ok ok' → Put s' b b' A (write (b A) i k f) →
            GroundInv s' opening ok' b'
        unfolding ChargeReads
        write_keeps_ground {A} e ok_before p =
            ground_put p (λ A≡0. absurd (live_not_store e.change.tree' e.writer_live A≡0)) (stay A) (λ X l' X≢A. stay X l')
          where
            stay : (X : ℕ) → Live s' X → ok' X → Grounded s' X (b X)
            stay X l' = calm_grounded (write_calm e) ok_before X (stays e.nobody_new l')

        -- the store's block shows the base before the commit, and with C's block the base after it
        module _ {C P i : ℕ} (e : Commit s s' C P) (j : CommitObligations s s' ok ok' C P) {got : ℕ → Val}
            (sure : StoreSure s got opening (b 0)) (sure' : StoreSure s' got opening (b' 0))
            (p : Put s' b b' P (child (b P) i C (b C))) where
          child_of_store : P ≡ 0 → FromStore opening (child (b P) i C (b C))
          unfolding FromStore
          child_of_store P≡0 =
              let laid : b' 0 ≡ child (b 0) i C (b C) = rw P≡0 at p.new in
              let reads = inv.actions C e.committer_live (j.child_of_store P≡0) in
              rw P≡0 (
                inv.store,
                charge_reads_map K.is_charge (Stands s C) _ (λ i k charge (has, same). sure.leaves k ∙ same) (b C) reads,
                λ k. rw (← laid, sure'.leaves k) (seen'.fits k),
              )

          child_of_action : Live s' P → ok' P → Grounded s' P (child (b P) i C (b C))
          unfolding ChargeReads
          child_of_action l' o =
              let x = stays e.nobody_new l' in (
                still_grounded e.change x (j.undisturbed P x o) (b P) (inv.actions P x.before (j.ok_before P x o)),
                passed_up e l' (b C) (inv.actions C e.committer_live (j.child_of_action l' o)),
              )

          pub commit_keeps_ground : GroundInv s' opening ok' b'
          commit_keeps_ground =
              ground_put p child_of_store child_of_action
              (λ X l' X≢P o.
              let x = stays e.nobody_new l' in
              still_grounded e.change x (j.undisturbed X x o) (b X) (inv.actions X x.before (j.ok_before X x o)))
