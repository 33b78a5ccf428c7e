-- Several fields of a row given anew, one for each number of a run: what stands in the table then. Assumes nothing.
use Prim.Native.Nat.{ℕ, ◌≤◌, ◌<◌}
use native.Mathlib.Decide.{ℕ_discrete}
use mathlib.Core.Path.{◌≡◌, refl, ap, ◌∙◌}
use mathlib.Core.Logic.{◌≢◌}
use mathlib.Core.List.{List}
use lib.ListN.{length}
use Rattle.rules.specs.Range.{up_from}
use Rattle.rules.specs.Table.{width, table_length, word, with_word, with_fields, most_actions}
use Rattle.rules.proofs.Laws.Ranges.{Within, fold_keeps, fold_agree, fold_puts}
use Rattle.rules.proofs.Laws.Words.{with_word_length, word_same, word_other_row, word_other_field}

module _ (w : List ℕ) (n : ℕ) (field : ℕ → ℕ) (a c : ℕ) (values : ℕ → ℕ) where
  abbrev given : List ℕ
  given = with_fields w n field (up_from a c) values

  pub with_fields_length : length given ≡ length w
  unfolding with_fields
  with_fields_length = fold_keeps (λ s. length s ≡ length w) _ a c (λ k h s e. with_word_length s n _ _ ∙ e) w refl

  -- the rows of others
  pub with_fields_other_row :
      (m g : ℕ) → ((k : ℕ) → Within a c k → field k < width) → g < width → m ≢ n → word given m g ≡ word w m g
  unfolding with_fields
  with_fields_other_row m g inside hg ne =
      fold_keeps (λ s. word s m g ≡ word w m g) _ a c
      (λ k h s e. word_other_row s n m (field k) g _ (inside k h) hg ne ∙ e) w refl

  -- a field that none of them is
  pub with_fields_other_field : (g : ℕ) → ((k : ℕ) → Within a c k → g ≢ field k) → word given n g ≡ word w n g
  unfolding with_fields
  with_fields_other_field g none =
      fold_keeps (λ s. word s n g ≡ word w n g) _ a c
      (λ k h s e. word_other_field s n (field k) g _ (none k h) ∙ e) w refl

  -- the same, in whatever row
  pub with_fields_off_field :
      (m g : ℕ) → ((k : ℕ) → Within a c k → field k < width) → g < width → ((k : ℕ) → Within a c k → g ≢ field k) →
      word given m g ≡ word w m g
  with_fields_off_field m g inside hg none = go (ℕ_discrete m n)
    where
      go : Dec (m ≡ n) → word given m g ≡ word w m g
      go (yes e) = rw e (with_fields_other_field g none)
      go (no apart) = with_fields_other_row m g inside hg apart

  -- the field of k, which is no other's
  pub with_fields_same :
      length w ≡ table_length → n ≤ most_actions →
      (k : ℕ) → Within a c k → field k < width → ((x : ℕ) → Within a c x → x ≢ k → field k ≢ field x) →
      word given n (field k) ≡ values k
  unfolding with_fields
  with_fields_same long few k hk inside own =
      fold_puts (λ s. length s ≡ table_length) (λ s. word s n (field k)) (values k) _ a c k
      (λ x h s e. with_word_length s n _ _ ∙ e)
      (λ s e. word_same s n (field k) _ e few inside)
      (λ x h ne s. word_other_field s n (field x) (field k) _ (own x h ne))
      hk w long

  -- other values that are the same for each of them
  pub with_fields_agree :
      (others : ℕ → ℕ) → ((k : ℕ) → Within a c k → values k ≡ others k) → given ≡ with_fields w n field (up_from a c) others
  unfolding with_fields
  with_fields_agree others same =
      fold_agree (λ k s. Unit {0}) _ _ a c (λ k h s u. ap (with_word s n (field k)) (same k h)) (λ k h s u. u) w tt
