-- The one block that an event changes: what was known of it before the event is known of it after. Assumes nothing.
use mathlib.Core.Path.{◌≡◌, refl, sym, ◌∙◌, ap, ap₂}
use mathlib.Core.Logic.{inl, inr}
use Prim.Native.Nat.{ℕ}
use Rattle.rules.specs.Serial.Block.{Block, empty, read, write, child}
use Rattle.rules.proofs.Serial.Values.{Values}
use Rattle.rules.proofs.Serial.Blocks.{only, own, after, good}
use Rattle.rules.proofs.Serial.AbstractState.{AbstractState, Live, above, live_not_store}
use Rattle.rules.proofs.Serial.Change.{Stays, above_same, place_sees_none}
use Rattle.rules.proofs.Serial.Events.{Noted, Start, Read, Write, Commit, stays, write_unseen}
use Rattle.rules.proofs.Serial.Invariant.{Agrees, StoreSure, Sure, good_stays}

module _ {Vs : Values} {s s' : AbstractState Vs} {A : ℕ} (st : Start s s' A) where
  pub start_sure : {got : ℕ → Vs.Val} {ok' : Type 0} → Sure s' got ok' A empty
  unfolding own good
  start_sure = record { leaves = λ k. sym (st.started_empty k); fine = λ o ctx agrees. tt }

-- Run in a context that agrees, a block shows an account whose read is noted as the state does.
module _ {Vs : Values} (s s' : AbstractState Vs) {got : ℕ → Vs.Val} {ok : Type 0} {A : ℕ} {d : Block Vs.Eff}
    (sure : Sure s got ok A d) {ctx : ℕ → Vs.Val} (agrees : Agrees s' A ctx) where
  open Vs use {over, over_hides}

  noted_shows : (k : ℕ) → Noted s s' A k → after Vs d ctx k ≡ over (s.eff A k) (above s' A k)
  noted_shows k (inl has) = ap₂ over (sure.leaves k) (agrees k has)
  noted_shows k (inr hidden) =
      ap (λ e. over e (ctx k)) (sure.leaves k) ∙ over_hides (s.eff A k) hidden (ctx k) (above s' A k)

module _ {Vs : Values} {s s' : AbstractState Vs} {A k : ℕ} (r : Read s s' A k) where
  reader_stays : Stays s s' A
  reader_stays = stays r.nobody_new r.reader_live

  reader_eff_kept : (j : ℕ) → s'.eff A j ≡ s.eff A j
  reader_eff_kept j = r.still.eff_kept A j reader_stays (live_not_store r.still.tree' r.reader_live)

  reader_view : Vs.over (s.eff A k) (above s' A k) ≡ s'.view A k
  reader_view = rw (← reader_eff_kept k) (sym (r.still.tree'.live_view A r.reader_live k))

  -- i: the place of the read, at which it was given what A's view shows
  pub read_sure : {got : ℕ → Vs.Val} {ok ok' : Type 0} {d : Block Vs.Eff} {i : ℕ}
      → s'.view A k ≡ got i → (ok' → ok) → Sure s got ok A d → Sure s' got ok' A (read d i k)
  unfolding own good
  read_sure given ok_before sure =
      record {
        leaves = λ j. sure.leaves j ∙ sym (reader_eff_kept j);
        fine = λ o ctx agrees. (
          good_stays r.still reader_stays ok_before (λ o j has seen. refl) sure o ctx agrees,
          noted_shows s s' sure agrees k r.noted ∙ reader_view ∙ given,
        );
      }

module _ {Vs : Values} {s s' : AbstractState Vs} {A k : ℕ} {e : Vs.Eff} (w : Write s s' A k e) where
  pub write_sure : {got : ℕ → Vs.Val} {ok ok' : Type 0} {d : Block Vs.Eff} {i : ℕ}
      → (ok' → ok) → Sure s got ok A d → Sure s' got ok' A (write d i k e)
  unfolding own good
  write_sure ok_before sure =
      let a = stays w.nobody_new w.writer_live in
      record {
        leaves = λ j. ap (Vs.lay (only Vs k e j)) (sure.leaves j) ∙ sym (w.change.eff_laid A j a refl);
        fine = good_stays w.change a ok_before (λ o j has seen. absurd (write_unseen w A j seen)) sure;
      }

module _ {Vs : Values} {s s' : AbstractState Vs} {C P : ℕ} (c : Commit s s' C P)
    {got : ℕ → Vs.Val} {ok_c : Type 0} {d_c : Block Vs.Eff} (sure_c : Sure s got ok_c C d_c) where
  open Vs use {Val, Eff, lay, over, over_lay}

  child_begins : (k : ℕ) → above s C k ≡ s.view P k
  child_begins k = ap (λ Q. s.view Q k) c.committer_under

  -- The commit of a topaction: C's block begins from the base that the store's block leaves.
  module _ {opening : ℕ → Val} {d : Block Eff} (P≡0 : P ≡ 0) (sure : StoreSure s got opening d) where
    child_begins_from_store : (k : ℕ) → after Vs d opening k ≡ above s C k
    child_begins_from_store k =
        sure.leaves k ∙ sym (child_begins k ∙ ap (λ Q. s.view Q k) P≡0 ∙ c.change.tree.store_view k)

    pub commit_store_sure : {i : ℕ} → ok_c → StoreSure s' got opening (child d i C d_c)
    unfolding own good
    commit_store_sure o =
        record {
          leaves = λ k. over_lay (own Vs d_c k) (own Vs d k) (opening k) ∙ ap₂ over (sure_c.leaves k) (sure.leaves k)
              ∙ sym (c.change.base_laid k P≡0);
          fine = (sure.fine, sure_c.fine o (after Vs d opening) (λ k has. child_begins_from_store k));
        }

  -- The commit of a subaction: C's block begins from what P's block leaves, in any context in which P's block is run.
  module _ {ok_p ok_p' : Type 0} {d : Block Eff} (l_p' : Live s' P) (ok_before : ok_p' → ok_p) (ok_child : ok_p' → ok_c)
      (sure : Sure s got ok_p P d) where
    parent_does_stay : Stays s s' P
    parent_does_stay = stays c.nobody_new l_p'

    parent_view : (k : ℕ) → over (s.eff P k) (above s' P k) ≡ above s C k
    parent_view k =
        ap (over (s.eff P k)) (above_same c.change parent_does_stay (place_sees_none c.change))
        ∙ sym (child_begins k ∙ c.change.tree.live_view P parent_does_stay.before k)

    child_agrees : {ctx : ℕ → Val} → Agrees s' P ctx → Agrees s C (after Vs d ctx)
    child_agrees agrees k has = noted_shows s s' sure agrees k (c.reads_noted k l_p' has) ∙ parent_view k

    pub commit_sure : {i : ℕ} → Sure s' got ok_p' P (child d i C d_c)
    unfolding own good
    commit_sure =
        record {
          leaves = λ k. ap₂ lay (sure_c.leaves k) (sure.leaves k) ∙ sym (c.change.eff_laid P k parent_does_stay refl);
          fine = λ o ctx agrees. (
            good_stays c.change parent_does_stay ok_before (λ o k has. place_sees_none c.change) sure o ctx agrees,
            sure_c.fine (ok_child o) (after Vs d ctx) (child_agrees agrees),
          );
        }
