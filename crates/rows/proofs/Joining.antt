-- The sets of two actions joined in place: account by account, each from what the present table holds. What is read for an
-- account is as it was at entry, since the fields before it are others. Assumes nothing.
use Prim.Native.Nat.{ℕ, zero, suc, ◌<◌}
use native.Mathlib.Omega.{arith}
use mathlib.Core.Path.{◌≡◌, refl, ap, ◌∙◌}
use mathlib.Core.Logic.{◌≢◌}
use mathlib.Core.Bool.{false}
use mathlib.Core.List.{List}
use Rattle.rules.specs.Card.{account_count, accounts}
use Rattle.rules.specs.Range.{up_from, fold}
use Rattle.rules.specs.Table.{width, word, with_word, with_fields, read_field, sub_time_field, write_field, with_read, with_sub_time, with_write, with_reads, with_both_sets}
use Rattle.rules.specs.Commit.{passes_read, joined_read, joined_time, joined_write, join_table}
use Rattle.rules.proofs.Laws.Ranges.{Within, fold_agree}
use Rattle.rules.proofs.Laws.Words.{word_other_row, word_other_field, with_word_own, with_word_swap}
use Rattle.rules.proofs.Laws.Fields.{with_fields_off_field, with_fields_agree}
use Rattle.rows.specs.Times.{with_joined_read}

-- ---- a read that is not passed

pub read_stays : (w : List ℕ) (n p k : ℕ) → passes_read w n p k ≡ false → with_joined_read w n p k ≡ w
read_stays w n p k stays = rw (stays, with_word_own w p (read_field k)) (with_word_own w p (sub_time_field k))

-- ---- two runs of changes that don't disturb each other may be made as one

module _ {A : Type 0} (f g : ℕ → A → A) where
  -- one change of the second run before the first run or after it
  change_late :
      (k a n : ℕ) → ((x : ℕ) → Within a n x → (s : A) → g k (f x s) ≡ f x (g k s)) → (s : A) →
      g k (fold f (up_from a n) s) ≡ fold f (up_from a n) (g k s)
  unfolding fold up_from
  change_late k a zero apart s = refl
  change_late k a (suc n) apart s =
      change_late k (suc a) n (λ x h. apart x (omega arith)) (f a s) ∙ ap (fold f (up_from (suc a) n)) (apart a (omega arith) s)

  as_one :
      (a n : ℕ) → ((k x : ℕ) → Within a n k → Within a n x → (s : A) → g k (f x s) ≡ f x (g k s)) → (s : A) →
      fold g (up_from a n) (fold f (up_from a n) s) ≡ fold (λ k now. g k (f k now)) (up_from a n) s
  unfolding fold up_from
  as_one a zero apart s = refl
  as_one a (suc n) apart s =
      ap (fold g (up_from (suc a) n)) (change_late a (suc a) n (λ x h. apart a x (omega arith) (omega arith)) (f a s))
      ∙ as_one (suc a) n (λ k x h r. apart k x (omega arith) (omega arith)) (g a (f a s))

-- both words of each read given anew, one read after the other
reads_by_account :
    (w : List ℕ) (p : ℕ) (reads times : ℕ → ℕ) →
    with_reads w p reads times ≡ fold (λ k now. with_sub_time (with_read now p k (reads k)) p k (times k)) accounts w
unfolding with_reads with_fields accounts
reads_by_account w p reads times =
    as_one (λ k now. with_read now p k (reads k)) (λ k now. with_sub_time now p k (times k)) 0 account_count
    (λ k x h r now. with_word_swap now p (read_field x) (sub_time_field k) _ _ (λ z. omega arith))
    w

-- ---- a set joined in place

module _ (w : List ℕ) (n p : ℕ) (apart : n ≢ p) where
  -- the present table is as it was at entry in row n and, in row p, in those fields
  abbrev SameIn : (ℕ → Type 0) → List ℕ → Type 0
  SameIn fields now =
      ((g : ℕ) → g < width → word now n g ≡ word w n g) × ((g : ℕ) → fields g → word now p g ≡ word w p g)

  same_put :
      {fields left : ℕ → Type 0} (now : List ℕ) (f v : ℕ) → f < width →
      ((g : ℕ) → left g → fields g) → ((g : ℕ) → left g → g ≢ f) → SameIn fields now → SameIn left (with_word now p f v)
  same_put now f v inside fewer other same = (
    λ g hg. word_other_row now p n f g v inside hg apart ∙ same.0 g hg,
    λ g left. word_other_field now p f g v (other g left) ∙ same.1 g (fewer g left),
  )

  -- a field of no read before account k's, and of no write
  abbrev ReadsLeft : ℕ → ℕ → Type 0
  ReadsLeft k g = (j : ℕ) → j < k → (g ≢ read_field j) × (g ≢ sub_time_field j)

  abbrev WritesLeft : ℕ → ℕ → Type 0
  WritesLeft k g = (j : ℕ) → j < k → g ≢ write_field j

  pub reads_in_place :
      with_reads w p (joined_read w n p) (joined_time w n p) ≡ fold (λ k now. with_joined_read now n p k) accounts w
  unfolding accounts
  reads_in_place =
      reads_by_account w p (joined_read w n p) (joined_time w n p)
      ∙ fold_agree (λ k. SameIn (ReadsLeft k)) _ _ 0 account_count
      (λ k h now same.
      rw (
        same.0 (read_field k) (omega arith),
        same.0 (sub_time_field k) (omega arith),
        same.1 (read_field k) (λ j jk. (λ z. omega arith, λ z. omega arith)),
        same.1 (sub_time_field k) (λ j jk. (λ z. omega arith, λ z. omega arith)),
        same.1 (write_field k) (λ j jk. (λ z. omega arith, λ z. omega arith)),
      ))
      (λ k h now same.
      same_put (with_read now p k (joined_read now n p k)) (sub_time_field k) _ (omega arith)
      (λ g left. left) (λ g left. (left k (omega arith)).1)
      (same_put now (read_field k) _ (omega arith)
      (λ g left j jk. left j (omega arith)) (λ g left. (left k (omega arith)).0) same))
      w (λ g hg. refl, λ g left. refl)

  pub writes_in_place :
      with_fields w p write_field accounts (joined_write w n p)
      ≡ fold (λ k now. with_write now p k (joined_write now n p k)) accounts w
  unfolding with_fields accounts
  writes_in_place =
      fold_agree (λ k. SameIn (WritesLeft k)) _ _ 0 account_count
      (λ k h now same. rw (same.0 (write_field k) (omega arith), same.1 (write_field k) (λ j jk z. omega arith)))
      (λ k h now same.
      same_put now (write_field k) _ (omega arith)
      (λ g left j jk. left j (omega arith)) (λ g left. left k (omega arith)) same)
      w (λ g hg. refl, λ g left. refl)

-- ---- one set after the other

module _ (w : List ℕ) (n p : ℕ) where
  abbrev reads_joined : List ℕ
  reads_joined = with_reads w p (joined_read w n p) (joined_time w n p)

  -- the write entries are as they were
  writes_kept : (m k : ℕ) → Within 0 account_count k → word reads_joined m (write_field k) ≡ word w m (write_field k)
  unfolding with_reads accounts
  writes_kept m k h =
      with_fields_off_field _ p sub_time_field 0 account_count _ m (write_field k) (λ x r. omega arith) (omega arith)
      (λ x r z. omega arith)
      ∙ with_fields_off_field w p read_field 0 account_count _ m (write_field k) (λ x r. omega arith) (omega arith)
      (λ x r z. omega arith)

  pub both_joined : with_fields reads_joined p write_field accounts (joined_write reads_joined n p) ≡ join_table w n p
  unfolding join_table with_both_sets accounts
  both_joined = with_fields_agree _ p write_field 0 account_count _ _ (λ k h. rw (writes_kept n k h, writes_kept p k h))
