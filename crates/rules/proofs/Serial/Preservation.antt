-- Every event keeps the invariant, if the rule for judging meets its obligations at a commit. Assumes nothing.
use mathlib.Core.Path.{◌≡◌, refl}
use mathlib.Core.Logic.{◌≢◌}
use Prim.Native.Nat.{ℕ}
use Rattle.rules.specs.Serial.Block.{Block, empty, read, write, child}
use Rattle.rules.proofs.Serial.Values.{Values}
use Rattle.rules.proofs.Serial.AbstractState.{AbstractState, Live, live_not_store}
use Rattle.rules.proofs.Serial.Change.{Stays, Undisturbed, base_same}
use Rattle.rules.proofs.Serial.Events.{Still, Start, Read, Write, Drop, Commit, stays, write_unseen}
use Rattle.rules.proofs.Serial.Invariant.{StoreSure, Sure, Inv, Put, inv_put, store_stays, sure_stays}
use Rattle.rules.proofs.Serial.Grown.{start_sure, read_sure, write_sure, commit_store_sure, commit_sure}

-- Nobody becomes fine: ok and ok' say who is still fine before and after the step.
abbrev pub OkBefore : {Vs : Values} → AbstractState Vs → AbstractState Vs → (ℕ → Type 0) → (ℕ → Type 0) → Type 0
OkBefore s s' ok ok' = (B : ℕ) → Stays s s' B → ok' B → ok B

-- What a rule must give at a commit of C under P.
pub record CommitObligations {Vs : Values} (s s' : AbstractState Vs) (ok ok' : ℕ → Type 0) (C P : ℕ) : Type 0 where
  -- (i)
  pub ok_before : OkBefore s s' ok ok'
  -- (ii) C is fine if P is the store, or an action that is fine with C's reads among its own
  pub child_of_store : P ≡ 0 → ok C
  pub child_of_action : Live s' P → ok' P → ok C
  -- (iii) who is fine after the commit has read nothing that it sees C change
  pub undisturbed : (B : ℕ) → Stays s s' B → ok' B → Undisturbed s s' P (s.eff C) B

module _ {Vs : Values} {s s' : AbstractState Vs} {got opening : ℕ → Vs.Val} {ok : ℕ → Type 0} {b : ℕ → Block Vs.Eff}
    (inv : Inv s got opening ok b) where
  still_store : Still s s' → StoreSure s' got opening (b 0)
  still_store c = store_stays (λ k. base_same c k (λ 0≡0. refl)) inv.store

  module _ {ok' : ℕ → Type 0} where
    still_sure : Still s s' → OkBefore s s' ok ok' → (X : ℕ) → Stays s s' X → Sure s' got (ok' X) X (b X)
    still_sure c ok_before X x =
        sure_stays c x (ok_before X x) (λ o k has seen. refl) (inv.actions X x.before)
        (live_not_store c.tree' x.after)

    -- the blocks of those who are dropped no longer count, so none has to change
    pub drop_keeps : Drop s s' → OkBefore s s' ok ok' → Inv s' got opening ok' b
    drop_keeps e ok_before =
        record {
          store = still_store e.still;
          actions = λ X l'. still_sure e.still ok_before X (stays e.nobody_new l');
        }

    module _ {b' : ℕ → Block Vs.Eff} where
      pub start_keeps : {A : ℕ} → Start s s' A → OkBefore s s' ok ok' → Put s' b b' A empty → Inv s' got opening ok' b'
      start_keeps {A} e ok_before p = inv_put p (λ l'. start_sure e) others not_store (λ A≢0. still_store e.still)
        where
          others : (X : ℕ) → Live s' X → X ≢ A → Sure s' got (ok' X) X (b X)
          others X l' X≢A = still_sure e.still ok_before X (record { before = e.nobody_else_new X l' X≢A; after = l' })

          not_store : A ≡ 0 → StoreSure s' got opening empty
          not_store A≡0 = absurd (live_not_store e.still.tree' e.started_live A≡0)

      -- i: the place of the read in S
      pub read_keeps : {A k i : ℕ} → Read s s' A k → s'.view A k ≡ got i → OkBefore s s' ok ok'
          → Put s' b b' A (read (b A) i k) → Inv s' got opening ok' b'
      read_keeps {A} {k} {i} e given ok_before p = inv_put p reader others not_store (λ A≢0. still_store e.still)
        where
          reader : Live s' A → Sure s' got (ok' A) A (read (b A) i k)
          reader l' = read_sure e given (ok_before A (stays e.nobody_new l')) (inv.actions A (e.nobody_new A l'))

          others : (X : ℕ) → Live s' X → X ≢ A → Sure s' got (ok' X) X (b X)
          others X l' X≢A = still_sure e.still ok_before X (stays e.nobody_new l')

          not_store : A ≡ 0 → StoreSure s' got opening (read (b A) i k)
          not_store A≡0 = absurd (live_not_store e.still.tree' e.reader_live A≡0)

      pub write_keeps : {A k i : ℕ} {f : Vs.Eff} → Write s s' A k f → OkBefore s s' ok ok'
          → Put s' b b' A (write (b A) i k f) → Inv s' got opening ok' b'
      write_keeps {A} {k} {i} {f} e ok_before p =
          inv_put p writer others not_store (λ A≢0. store_stays (λ j. e.change.base_kept j A≢0) inv.store)
        where
          writer : Live s' A → Sure s' got (ok' A) A (write (b A) i k f)
          writer l' = write_sure e (ok_before A (stays e.nobody_new l')) (inv.actions A (e.nobody_new A l'))

          others : (X : ℕ) → Live s' X → X ≢ A → Sure s' got (ok' X) X (b X)
          others X l' X≢A =
              let x = stays e.nobody_new l' in
              sure_stays e.change x (ok_before X x) (λ o j has seen. absurd (write_unseen e X j seen))
              (inv.actions X x.before) X≢A

          not_store : A ≡ 0 → StoreSure s' got opening (write (b A) i k f)
          not_store A≡0 = absurd (live_not_store e.change.tree' e.writer_live A≡0)

      -- C's block is laid into P's, which is another action's or the store's
      pub commit_keeps : {C P i : ℕ} → Commit s s' C P → CommitObligations s s' ok ok' C P
          → Put s' b b' P (child (b P) i C (b C)) → Inv s' got opening ok' b'
      commit_keeps {C} {P} {i} e j p =
          inv_put p parent others store (λ P≢0. store_stays (λ k. e.change.base_kept k P≢0) inv.store)
        where
          committer : Sure s got (ok C) C (b C)
          committer = inv.actions C e.committer_live

          parent : Live s' P → Sure s' got (ok' P) P (child (b P) i C (b C))
          parent l' =
              let x = stays e.nobody_new l' in
              commit_sure e committer l' (j.ok_before P x) (j.child_of_action l') (inv.actions P x.before)

          store : P ≡ 0 → StoreSure s' got opening (child (b P) i C (b C))
          store P≡0 = commit_store_sure e committer P≡0 (rw P≡0 inv.store) (j.child_of_store P≡0)

          others : (X : ℕ) → Live s' X → X ≢ P → Sure s' got (ok' X) X (b X)
          others X l' X≢P =
              let x = stays e.nobody_new l' in
              sure_stays e.change x (j.ok_before X x) (j.undisturbed X x) (inv.actions X x.before) X≢P
