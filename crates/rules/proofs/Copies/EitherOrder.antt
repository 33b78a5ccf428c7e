-- RULES 4.8: the order of the turns changes nothing of what they leave. Those of two accounts don't disturb each other, so the
-- accounts may rise as well as fall. Assumes nothing.
use Prim.Native.Nat.{ℕ, ◌<◌}
use native.Mathlib.Omega.{arith}
use native.Mathlib.Decide.{ℕ_discrete}
use mathlib.Core.Path.{◌≡◌, refl, sym, ap, ap₂, ◌∙◌}
use mathlib.Core.Logic.{inl, ◌≢◌}
use mathlib.Core.Bool.{Bool, true, false, not, cond, ◌&&◌}
use mathlib.Core.List.{List}
use Rattle.rules.specs.Range.{fold}
use Rattle.rules.specs.Card.{account_count, accounts, is_charge, base_place, shadow_place, card_at, with_card}
use Rattle.rules.specs.Amount.{base_amount}
use Rattle.rules.specs.Table.{width, word, write_field, has_written, has_card, pending_field, with_pending}
use Rattle.rules.specs.Ledger.{Ledger, ledger_of}
use Rattle.rules.specs.Commit.{copy_one, copied_down}
use Rattle.rules.proofs.Laws.Tests.{and_false, cond_holds}
use Rattle.rules.proofs.Laws.Words.{word_other_row, word_other_field, with_word_swap}
use Rattle.rules.proofs.Laws.Cards.{card_at_apart, with_card_swap}
use Rattle.rules.proofs.Laws.Ranges.{fold_either_way}
use Rattle.rules.proofs.Copies.Lines.{shadow_apart, line_fits, line_apart, line_card}
use Rattle.rules.proofs.Copies.Turns.{settled_card, added_word, turn_leaves, CanCopy, own_line, parent_line, store_line, settled_card_length, turn_can_copy}

-- ---- two puts into a list

-- For a number k, where it is chosen, a value is put into a list; both may go by what the list holds.
record Puts (A : Type 0) : Type 0 where
  chosen : ℕ → List ℕ → Bool
  value : ℕ → List ℕ → A
  put : ℕ → A → List ℕ → List ℕ

abbrev put_for : {A : Type 0} → Puts A → ℕ → List ℕ → List ℕ
put_for puts k l = cond (puts.chosen k l) (puts.put k (puts.value k l) l) l

-- what is put for x is the same whether y comes first or not
abbrev Undisturbed : {A : Type 0} → Puts A → ℕ → ℕ → List ℕ → Type 0
Undisturbed puts x y l =
    (puts.chosen x (put_for puts y l) ≡ puts.chosen x l) × (puts.value x (put_for puts y l) ≡ puts.value x l)

puts_swap :
    {A : Type 0} (puts : Puts A) (x y : ℕ) (l : List ℕ) → Undisturbed puts x y l → Undisturbed puts y x l →
    puts.put x (puts.value x l) (puts.put y (puts.value y l) l)
    ≡ puts.put y (puts.value y l) (puts.put x (puts.value x l) l) →
    put_for puts x (put_for puts y l) ≡ put_for puts y (put_for puts x l)
puts_swap puts x y l first second swap =
    ap₂ (λ b v. cond b (puts.put x v (put_for puts y l)) (put_for puts y l)) first.0 first.1
    ∙ by_choice (puts.chosen x l) (puts.chosen y l)
    ∙ sym (ap₂ (λ b v. cond b (puts.put y v (put_for puts x l)) (put_for puts x l)) second.0 second.1)
  where
    with : ℕ → List ℕ → List ℕ
    with k now = puts.put k (puts.value k l) now

    by_choice :
        (b c : Bool) →
        cond b (with x (cond c (with y l) l)) (cond c (with y l) l) ≡ cond c (with y (cond b (with x l) l)) (cond b (with x l) l)
    by_choice true true = swap
    by_choice true false = refl
    by_choice false true = refl
    by_choice false false = refl

-- ---- a turn as such puts

-- into the base store, where p is the store
abbrev settling : List ℕ → List ℕ → ℕ → Puts (List ℕ)
settling w shadow n =
    record {
      chosen = λ k _. has_written w n k;
      value = λ k base. settled_card (ledger_of w base shadow) n k;
      put = λ k card base. with_card base (base_place k) card;
    }

-- into the table and into the shadow store, where p is an action
abbrev adding : ℕ → ℕ → Puts ℕ
adding n p =
    record {
      chosen = λ k w. is_charge k && has_written w n k;
      value = λ k w. added_word w n p k;
      put = λ k v w. with_pending w p k v;
    }

abbrev copying : List ℕ → ℕ → ℕ → Puts (List ℕ)
copying w n p =
    record {
      chosen = λ k _. has_card w n k;
      value = λ k shadow. card_at shadow (shadow_place n k);
      put = λ k card shadow. with_card shadow (shadow_place p k) card;
    }

abbrev settles : Ledger → ℕ → ℕ → List ℕ → List ℕ
settles s n = put_for (settling s.table s.shadow n)

abbrev adds : ℕ → ℕ → ℕ → List ℕ → List ℕ
adds n p = put_for (adding n p)

abbrev copies : List ℕ → ℕ → ℕ → ℕ → List ℕ → List ℕ
copies w n p = put_for (copying w n p)

module _ (n p : ℕ) where
  turn_to_store :
      p ≡ 0 → (s : Ledger) (k : ℕ) →
      copy_one s n p k ≡ ledger_of s.table (settles s n k s.base) s.shadow
  turn_to_store top s k =
      turn_leaves (λ t. t ≡ ledger_of s.table (settles s n k s.base) s.shadow) s n p k
      (λ written _. rw written refl)
      (λ _ sub _. absurd (sub top))
      (λ _ sub _. absurd (sub top))
      (λ unwritten. rw unwritten refl)

  turn_to_action :
      p ≢ 0 → (s : Ledger) (k : ℕ) →
      copy_one s n p k ≡ ledger_of (adds n p k s.table) s.base (copies s.table n p k s.shadow)
  turn_to_action sub s k =
      turn_leaves (λ t. t ≡ ledger_of (adds n p k s.table) s.base (copies s.table n p k s.shadow)) s n p k
      (λ _ top. absurd (sub top))
      (λ written _ charge. rw (charge, written) refl)
      (λ written _ plain. rw (plain, written) refl)
      (λ unwritten. rw (unwritten, and_false (is_charge k), and_false (not (is_charge k))) refl)

-- ---- two turns

module _ {s : Ledger} {n p : ℕ} (can : CanCopy s n p) where
  -- in the base store the card of x stands as it did before y's turn, and so does what is made of it
  settled_undisturbed :
      (x y : ℕ) → x < account_count → y < account_count → x ≢ y →
      settled_card (ledger_of s.table (settles s n y s.base) s.shadow) n x ≡ settled_card s n x
  unfolding settled_card base_amount
  settled_undisturbed x y hx hy ne = rw stands refl
    where
      stands : card_at (settles s n y s.base) (base_place x) ≡ card_at s.base (base_place x)
      stands =
          cond_holds (λ base. card_at base (base_place x) ≡ card_at s.base (base_place x)) (has_written s.table n y)
          (λ _.
          card_at_apart s.base (base_place y) _ (line_fits (store_line can) y hy) (settled_card_length can y hy)
          (base_place x) (line_fits (store_line can) x hx) (line_apart (store_line can) y x (λ z. ne (sym z))))
          (λ _. refl)

  -- in the shadow store n's card for x does, p being an action
  own_undisturbed :
      p ≢ 0 → (x y : ℕ) → x < account_count → y < account_count →
      card_at (copies s.table n p y s.shadow) (shadow_place n x) ≡ card_at s.shadow (shadow_place n x)
  own_undisturbed sub x y hx hy =
      cond_holds (λ shadow. card_at shadow (shadow_place n x) ≡ card_at s.shadow (shadow_place n x)) (has_card s.table n y)
      (λ _.
      card_at_apart s.shadow (shadow_place p y) _ (line_fits (parent_line can) y hy) (line_card (own_line can) y hy)
      (shadow_place n x) (line_fits (own_line can) x hx)
      (shadow_apart p n y x (omega arith) can.own.0 hy hx (inl can.apart)))
      (λ _. refl)

  -- in the table n's row does, and p's sum for x
  row_undisturbed : (y g : ℕ) → y < account_count → g < width → word (adds n p y s.table) n g ≡ word s.table n g
  row_undisturbed y g hy hg =
      cond_holds (λ w. word w n g ≡ word s.table n g) (is_charge y && has_written s.table n y)
      (λ _. word_other_row s.table p n (pending_field y) g _ (omega arith) hg can.apart) (λ _. refl)

  sum_undisturbed : (x y : ℕ) → x ≢ y → word (adds n p y s.table) p (pending_field x) ≡ word s.table p (pending_field x)
  sum_undisturbed x y ne =
      cond_holds (λ w. word w p (pending_field x) ≡ word s.table p (pending_field x)) (is_charge y && has_written s.table n y)
      (λ _. word_other_field s.table p (pending_field y) (pending_field x) _ (λ z. ne (omega arith))) (λ _. refl)

  module _ (x y : ℕ) (hx : x < account_count) (hy : y < account_count) (ne : x ≢ y) where
    settles_swap :
        settles s n x (settles s n y s.base)
        ≡ settles s n y (settles s n x s.base)
    settles_swap =
        puts_swap (settling s.table s.shadow n) x y s.base
        (refl, settled_undisturbed x y hx hy ne)
        (refl, settled_undisturbed y x hy hx (λ z. ne (sym z)))
        (with_card_swap s.base (base_place y) (base_place x) (settled_card s n y) (settled_card s n x)
        (line_fits (store_line can) y hy) (line_fits (store_line can) x hx)
        (settled_card_length can y hy) (settled_card_length can x hx)
        (line_apart (store_line can) y x (λ z. ne (sym z))))

    copies_swap :
        p ≢ 0 →
        copies s.table n p x (copies s.table n p y s.shadow)
        ≡ copies s.table n p y (copies s.table n p x s.shadow)
    copies_swap sub =
        puts_swap (copying s.table n p) x y s.shadow
        (refl, own_undisturbed sub x y hx hy)
        (refl, own_undisturbed sub y x hy hx)
        (with_card_swap s.shadow (shadow_place p y) (shadow_place p x)
        (card_at s.shadow (shadow_place n y)) (card_at s.shadow (shadow_place n x))
        (line_fits (parent_line can) y hy) (line_fits (parent_line can) x hx)
        (line_card (own_line can) y hy) (line_card (own_line can) x hx)
        (line_apart (parent_line can) y x (λ z. ne (sym z))))

    adds_swap : adds n p x (adds n p y s.table) ≡ adds n p y (adds n p x s.table)
    adds_swap =
        puts_swap (adding n p) x y s.table
        (undisturbed x y hx hy ne) (undisturbed y x hy hx (λ z. ne (sym z)))
        (with_word_swap s.table p (pending_field y) (pending_field x)
        (added_word s.table n p y) (added_word s.table n p x) (λ z. ne (omega arith)))
      where
        undisturbed :
            (x y : ℕ) → x < account_count → y < account_count → x ≢ y →
            ((is_charge x && has_written (adds n p y s.table) n x) ≡ (is_charge x && has_written s.table n x))
            × (added_word (adds n p y s.table) n p x ≡ added_word s.table n p x)
        undisturbed x y hx hy ne = (
          rw (row_undisturbed y (write_field x) hy (omega arith)) refl,
          rw (row_undisturbed y (pending_field x) hy (omega arith), sum_undisturbed x y ne) refl,
        )

-- the turn of y and then that of x, where p is the store and where it is an action
module _ (s : Ledger) (n p x y : ℕ) where
  two_to_store :
      p ≡ 0 →
      copy_one (copy_one s n p y) n p x
      ≡ ledger_of s.table (settles s n x (settles s n y s.base)) s.shadow
  two_to_store top = ap (λ t. copy_one t n p x) (turn_to_store n p top s y) ∙ turn_to_store n p top _ x

  two_to_action :
      p ≢ 0 →
      copy_one (copy_one s n p y) n p x
      ≡ ledger_of (adds n p x (adds n p y s.table)) s.base
      (copies (adds n p y s.table) n p x (copies s.table n p y s.shadow))
  two_to_action sub = ap (λ t. copy_one t n p x) (turn_to_action n p sub s y) ∙ turn_to_action n p sub _ x

module _
    {s : Ledger} {n p : ℕ} (can : CanCopy s n p) (x y : ℕ) (hx : x < account_count) (hy : y < account_count) (ne : x ≢ y) where
  -- a turn adds nothing to n's write set
  same_copies : (j k : ℕ) → j < account_count → k < account_count → (shadow : List ℕ) →
      copies (adds n p j s.table) n p k shadow ≡ copies s.table n p k shadow
  same_copies j k hj hk shadow = rw (row_undisturbed can j (write_field k) hj (omega arith)) refl

  turns_swap : copy_one (copy_one s n p y) n p x ≡ copy_one (copy_one s n p x) n p y
  turns_swap = by_parent (ℕ_discrete p 0)
    where
      by_parent : Dec (p ≡ 0) → copy_one (copy_one s n p y) n p x ≡ copy_one (copy_one s n p x) n p y
      by_parent (yes top) =
          two_to_store s n p x y top
          ∙ ap (λ base. ledger_of s.table base s.shadow) (settles_swap can x y hx hy ne)
          ∙ sym (two_to_store s n p y x top)
      by_parent (no sub) =
          two_to_action s n p x y sub
          ∙ ap₂ (λ w shadow. ledger_of w s.base shadow) (adds_swap can x y hx hy ne)
          (same_copies y x hy hx _ ∙ copies_swap can x y hx hy ne sub ∙ sym (same_copies x y hx hy _))
          ∙ sym (two_to_action s n p y x sub)

-- all turns leave the same whether the accounts rise or fall
pub either_order : {s : Ledger} {n p : ℕ} → CanCopy s n p → copied_down s n p 0 ≡ fold (λ k now. copy_one now n p k) accounts s
unfolding copied_down accounts
either_order {s} {n} {p} can =
    fold_either_way (λ t. CanCopy t n p) (λ k now. copy_one now n p k) 0 account_count
    (λ k h t now. turn_can_copy now k (omega arith))
    (λ x y hx hy ne t now. turns_swap now x y (omega arith) (omega arith) ne)
    s can
