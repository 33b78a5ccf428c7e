-- Who is who in the table after a start. Assumes nothing.
use Prim.Native.Nat.{ℕ, ◌+◌, ◌≤◌, ◌<◌}
use native.Mathlib.Omega.{arith}
use native.Mathlib.Decide.{ℕ_discrete}
use mathlib.Core.Path.{◌≡◌, refl, sym, ap, ◌∙◌}
use mathlib.Core.Logic.{◌⊎◌, inl, inr, ⊎_elim, ◌≢◌}
use mathlib.Core.Bool.{Bool, true, false, cond}
use mathlib.Core.List.{List}
use borrow.Author.Tests.{eqb-true, eq-eqb, ne_eqb}
use Rattle.rules.specs.Kind.{sub_kind, kind_under}
use Rattle.rules.specs.Table.{has_end, width, word, highest, parent_field, parent_of, kind_of, state_field, state_of, write_field, is_live, is_committed, is_child_of}
use Rattle.rules.specs.Sound.{IsGiven, Sound}
use Rattle.rules.specs.Step.{give_table}
use Rattle.rules.proofs.Laws.Walking.{parent_store_or_live}
use Rattle.rules.proofs.Laws.Freeing.{Givable}
use Rattle.rules.proofs.Laws.Tests.{and_left, not_both, test}
use Rattle.rules.proofs.Sound.TableChanges.{writes_agree, live_uncommitted}
use Rattle.rules.proofs.Sound.Giving.{give_keeps_field, give_keeps_row, give_highest, give_parent_other, give_parent, give_state}

-- the children of any action are of one kind
action_kind : (q : ℕ) → 1 ≤ q → kind_under q ≡ sub_kind
unfolding kind_under
action_kind q one = rw (ne_eqb q 0 (λ z. omega arith))

module _ (w : List ℕ) (n p : ℕ) (s : Sound w) (g : Givable w n) where
  abbrev v : List ℕ
  v = give_table w n p

  -- an action of the table is another than the new one, and was there before, or it is the new one
  abbrev IsOld : ℕ → Type 0
  IsOld m = IsGiven w m × (m ≢ n)

  pub start_highest : (highest w ≤ highest v) × (n ≤ highest v) × (highest v ≤ highest w + 1)
  start_highest = omega (arith, give_highest w n p s.long g.first g.few, g.near)

  pub old_or_new : (m : ℕ) → IsGiven v m → IsOld m ⊎ (m ≡ n)
  old_or_new m h = go (ℕ_discrete m n)
    where
      go : Dec (m ≡ n) → IsOld m ⊎ (m ≡ n)
      go (yes e) = inr e
      go (no ne) = inl (omega (arith, give_highest w n p s.long g.first g.few, g.near), ne)

  -- a test that holds of every old action and of the new one holds of every action
  pub by_age : (P : ℕ → Type 0) → ((m : ℕ) → IsOld m → P m) → P n → (m : ℕ) → IsGiven v m → P m
  by_age P old fresh m h = ⊎_elim (old m) (λ e. rw e fresh) (old_or_new m h)

  -- every word of an old action but the parent
  pub old_field : (m f : ℕ) → IsOld m → f < width → f ≢ parent_field → word v m f ≡ word w m f
  old_field m f (h, other) inside ne = give_keeps_field w n p m f inside ne h.0 other

  pub old_state : (m : ℕ) → IsOld m → state_of v m ≡ state_of w m
  old_state m old = old_field m state_field old (omega arith) (λ z. omega arith)

  pub old_end : (m : ℕ) → IsOld m → has_end v m ≡ has_end w m
  old_end m old =
      rw (old_state m old, writes_agree w v m (λ k hk. old_field m (write_field k) old (omega arith) (λ z. omega arith))) refl

  -- whoever is live had another number and has another parent
  pub live_old : (m : ℕ) → IsGiven w m → is_live w m ≡ true → IsOld m
  live_old m h l = (h, λ same. not_both l (rw same (g.idle (rw same at h.1))))

  live_parent_other : (m : ℕ) → IsGiven w m → is_live w m ≡ true → parent_of w m ≢ n
  live_parent_other m h l same =
      let above = parent_store_or_live s m h l in
      not_both (rw same at (above.1 (rw same g.first))) (g.idle (rw same at above.0))

  pub live_row : (m f : ℕ) → IsGiven w m → is_live w m ≡ true → f < width → word v m f ≡ word w m f
  live_row m f h l inside = give_keeps_row w n p m f inside h.0 (live_old m h l).1 (live_parent_other m h l)

  -- an old action's parent: a child of the earlier holder is its own
  pub old_parent : (m : ℕ) → IsOld m → parent_of v m ≡ cond (is_child_of w n m) m (parent_of w m)
  old_parent m (h, other) = give_parent_other w n p s.long g.first g.few s.few m h other

  -- who isn't its own parent has the parent that it had
  pub old_parent_kept : (m : ℕ) → IsOld m → parent_of v m ≢ m → parent_of v m ≡ parent_of w m
  old_parent_kept m old other = go (is_child_of w n m) (old_parent m old)
    where
      go : (b : Bool) → parent_of v m ≡ cond b m (parent_of w m) → parent_of v m ≡ parent_of w m
      go true own = absurd (other own)
      go false kept = kept

  pub old_row : (m f : ℕ) → IsOld m → parent_of v m ≢ m → f < width → word v m f ≡ word w m f
  old_row m f old other inside = go (ℕ_discrete f parent_field)
    where
      go : Dec (f ≡ parent_field) → word v m f ≡ word w m f
      go (yes e) = rw e (old_parent_kept m old other)
      go (no ne) = old_field m f old inside ne

  pub old_kind : (m : ℕ) → IsOld m → kind_of v m ≡ kind_of w m
  old_kind m old = ⊎_elim orphan kept (test (is_child_of w n m))
    where
      orphan : is_child_of w n m ≡ true → kind_of v m ≡ kind_of w m
      orphan is =
          ap kind_under (old_parent m old ∙ rw is refl) ∙ action_kind m old.0.0
          ∙ sym (ap kind_under (eqb-true _ _ is) ∙ action_kind n g.first)

      kept : is_child_of w n m ≡ false → kind_of v m ≡ kind_of w m
      kept is = ap kind_under (old_parent m old ∙ rw is refl)

  pub new_live : is_live v n ≡ true
  new_live = eq-eqb _ _ (give_state w n p s.long g.first g.few)

  -- the new action is live, so it has no end
  pub new_no_end : has_end v n ≡ true → ⊥
  new_no_end e = live_uncommitted v n new_live (and_left (is_committed v n) _ e)

  pub new_parent : parent_of v n ≡ p
  new_parent = give_parent w n p s.long g.first g.few
