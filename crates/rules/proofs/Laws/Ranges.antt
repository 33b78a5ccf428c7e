-- What is asked of each number of a run, as facts about the numbers from a on, below a + n. Assumes nothing.
use Prim.Native.Nat.{ℕ, zero, suc, ◌+◌, ◌-◌, ◌≤◌, ◌<◌}
use native.Mathlib.Nat.{add-suc, suc-add, add-zero}
use native.Mathlib.Omega.{arith}
use native.Mathlib.Numerals.{add-one}
use native.Mathlib.Decide.{ℕ_discrete}
use mathlib.Core.Path.{◌≡◌, refl, sym, ap, ap₂, ◌∙◌}
use mathlib.Core.Logic.{◌⊎◌, inl, inr, ⊎_elim, ◌≢◌}
use mathlib.Core.Bool.{Bool, true, false, cond, false≢true, ◌||◌}
use mathlib.Core.List.Memᴰ
use mathlib.Core.List.{List, [], ◌∷◌, map, Memᴰ}
use lib.ListN.{length}
use Rattle.rules.specs.Range.{up_from, down_to, any, all, count, filter, fold}
use Rattle.rules.proofs.Laws.Tests.{and_left, and_right, and_both, or_cases, or_inl, or_inr, or_neither, cond_holds}

-- x is one of the n numbers from a on
abbrev pub Within : ℕ → ℕ → ℕ → Type 0
Within a n x = (a ≤ x) × (x < a + n)

-- one of them is the first, or one of the rest
pub first_or_rest : (a n x : ℕ) → Within a (suc n) x → (x ≡ a) ⊎ Within (suc a) n x
first_or_rest a n x h = go (ℕ_discrete x a)
  where
    go : Dec (x ≡ a) → (x ≡ a) ⊎ Within (suc a) n x
    go (yes e) = inl e
    go (no ne) = inr (omega (arith, add-suc a n, suc-add a n))

pub first_within : (a n : ℕ) → Within a (suc n) a
first_within a n = omega (arith, add-suc a n)

pub rest_within : (a n x : ℕ) → Within (suc a) n x → Within a (suc n) x
rest_within a n x h = omega (arith, add-suc a n, suc-add a n)

-- ---- any: f holds of one at least

pub any_at : (f : ℕ → Bool) (a n x : ℕ) → Within a n x → f x ≡ true → any f (up_from a n) ≡ true
unfolding any up_from
any_at f a zero x h p = absurd (omega (arith, add-zero a))
any_at f a (suc n) x h p =
    ⊎_elim (λ e. or_inl _ (rw e at p)) (λ r. or_inr (f a) (any_at f (suc a) n x r p)) (first_or_rest a n x h)

pub any_found : (f : ℕ → Bool) (a n : ℕ) → any f (up_from a n) ≡ true → (x : ℕ) × Within a n x × (f x ≡ true)
unfolding any up_from
any_found f a zero p = absurd (false≢true p)
any_found f a (suc n) p =
    ⊎_elim
    (λ here. (a, first_within a n, here))
    (λ later. let (x, r, is) = any_found f (suc a) n later in (x, rest_within a n x r, is))
    (or_cases (f a) (any f (up_from (suc a) n)) p)

pub not_any_at : (f : ℕ → Bool) (a n x : ℕ) → any f (up_from a n) ≡ false → Within a n x → f x ≡ false
unfolding any up_from
not_any_at f a zero x q h = absurd (omega (arith, add-zero a))
not_any_at f a (suc n) x q h =
    let none = or_neither (f a) (any f (up_from (suc a) n)) q in
    ⊎_elim (λ e. rw e none.0) (λ r. not_any_at f (suc a) n x none.1 r) (first_or_rest a n x h)

pub not_any : (f : ℕ → Bool) (a n : ℕ) → ((x : ℕ) → Within a n x → f x ≡ false) → any f (up_from a n) ≡ false
unfolding any up_from
not_any f a zero h = refl
not_any f a (suc n) h =
    rw (h a (first_within a n)) (not_any f (suc a) n (λ x r. h x (rest_within a n x r)))

-- ---- all: f holds of each

pub all_at : (f : ℕ → Bool) (a n x : ℕ) → all f (up_from a n) ≡ true → Within a n x → f x ≡ true
unfolding all up_from
all_at f a zero x p h = absurd (omega (arith, add-zero a))
all_at f a (suc n) x p h =
    ⊎_elim
    (λ e. rw e (and_left (f a) (all f (up_from (suc a) n)) p))
    (λ r. all_at f (suc a) n x (and_right (f a) (all f (up_from (suc a) n)) p) r)
    (first_or_rest a n x h)

pub all_of : (f : ℕ → Bool) (a n : ℕ) → ((x : ℕ) → Within a n x → f x ≡ true) → all f (up_from a n) ≡ true
unfolding all up_from
all_of f a zero h = refl
all_of f a (suc n) h =
    and_both (h a (first_within a n)) (all_of f (suc a) n (λ x r. h x (rest_within a n x r)))

-- ---- two tests that agree on each of them

pub any_agree : (f g : ℕ → Bool) (a n : ℕ) → ((x : ℕ) → Within a n x → f x ≡ g x) → any f (up_from a n) ≡ any g (up_from a n)
unfolding any up_from
any_agree f g a zero h = refl
any_agree f g a (suc n) h =
    ap₂ ◌||◌ (h a (first_within a n)) (any_agree f g (suc a) n (λ x r. h x (rest_within a n x r)))

pub count_agree : (f g : ℕ → Bool) (a n : ℕ) → ((x : ℕ) → Within a n x → f x ≡ g x) → count f (up_from a n) ≡ count g (up_from a n)
unfolding count up_from
count_agree f g a zero h = refl
count_agree f g a (suc n) h =
    rw (h a (first_within a n), count_agree f g (suc a) n (λ x r. h x (rest_within a n x r)))

pub map_agree :
    {A : Type 0} (f g : ℕ → A) (a n : ℕ) → ((x : ℕ) → Within a n x → f x ≡ g x) → map f (up_from a n) ≡ map g (up_from a n)
unfolding up_from
map_agree f g a zero h = refl
map_agree f g a (suc n) h = ap₂ ◌∷◌ (h a (first_within a n)) (map_agree f g (suc a) n (λ x r. h x (rest_within a n x r)))

pub length_up_from : (a n : ℕ) → length (up_from a n) ≡ n
unfolding up_from
length_up_from a zero = refl
length_up_from a (suc n) = ap suc (length_up_from (suc a) n)

-- ---- keep: those of which f holds

-- y is kept before l, or it is not
module _ {x : ℕ} (y : ℕ) (l : List ℕ) where
  in_chosen : (b : Bool) → Memᴰ x (cond b (y ∷ l) l) → ((x ≡ y) × (b ≡ true)) ⊎ Memᴰ x l
  in_chosen true m = ⊎_elim (λ e. inl (e, refl)) inr (Memᴰ.cases_cons m)
  in_chosen false m = inr m

  rest_chosen : (b : Bool) → Memᴰ x l → Memᴰ x (cond b (y ∷ l) l)
  rest_chosen true m = Memᴰ.tail m
  rest_chosen false m = m

pub filter_only : (f : ℕ → Bool) (a n x : ℕ) → Memᴰ x (filter f (up_from a n)) → Within a n x × (f x ≡ true)
unfolding filter up_from
filter_only f a zero x m = absurd (Memᴰ.not-nil m)
filter_only f a (suc n) x m =
    ⊎_elim
    (λ h. (omega arith, rw h.0 h.1))
    (λ r. let h = filter_only f (suc a) n x r in (omega arith, h.1))
    (in_chosen a (filter f (up_from (suc a) n)) (f a) m)

pub filter_every : (f : ℕ → Bool) (a n x : ℕ) → Within a n x → f x ≡ true → Memᴰ x (filter f (up_from a n))
unfolding filter up_from
filter_every f a zero x h p = absurd (omega arith)
filter_every f a (suc n) x h p = go (ℕ_discrete x a) (λ r. filter_every f (suc a) n x r p)
  where
    go : Dec (x ≡ a) → (Within (suc a) n x → Memᴰ x (filter f (up_from (suc a) n))) → Memᴰ x (filter f (up_from a (suc n)))
    go (yes e) rest = rw (rw e at p) (Memᴰ.head e)
    go (no ne) rest = rest_chosen a (filter f (up_from (suc a) n)) (f a) (rest (omega arith))

-- ---- counts

-- there are no more of them than numbers in the run
pub count_at_most : (f : ℕ → Bool) (a n : ℕ) → count f (up_from a n) ≤ n
unfolding count up_from
count_at_most f a zero = omega arith
count_at_most f a (suc n) = one_more (f a) (count_at_most f (suc a) n)
  where
    one_more : (b : Bool) {m : ℕ} → m ≤ n → cond b (suc m) m ≤ suc n
    one_more true h = omega arith
    one_more false h = omega arith

-- g holds only where f does: it counts no more
count_no_more :
    (f g : ℕ → Bool) (a n : ℕ) → ((y : ℕ) → Within a n y → g y ≡ true → f y ≡ true) → count g (up_from a n) ≤ count f (up_from a n)
unfolding count up_from
count_no_more f g a zero only = omega arith
count_no_more f g a (suc n) only =
    one_more (g a) (f a) (only a (first_within a n)) (count_no_more f g (suc a) n (λ y r. only y (rest_within a n y r)))
  where
    one_more : (b c : Bool) {k m : ℕ} → (b ≡ true → c ≡ true) → k ≤ m → cond b (suc k) k ≤ cond c (suc m) m
    one_more true true both h = omega arith
    one_more true false both h = absurd (false≢true (both refl))
    one_more false true both h = omega arith
    one_more false false both h = h

-- .. and fewer where it leaves out one of which f holds
pub count_fewer :
    (f g : ℕ → Bool) (a n x : ℕ) → Within a n x → f x ≡ true → g x ≡ false →
    ((y : ℕ) → Within a n y → g y ≡ true → f y ≡ true) → count g (up_from a n) < count f (up_from a n)
unfolding count up_from
count_fewer f g a zero x h p q only = absurd (omega (arith, add-zero a))
count_fewer f g a (suc n) x h p q only =
    ⊎_elim
    (λ e. rw (rw e at p, rw e at q) (omega (arith, count_no_more f g (suc a) n (λ y r. only y (rest_within a n y r)))))
    (λ r.
    one_more (g a) (f a) (only a (first_within a n)) (count_fewer f g (suc a) n x r p q (λ y s. only y (rest_within a n y s))))
    (first_or_rest a n x h)
  where
    one_more : (b c : Bool) {k m : ℕ} → (b ≡ true → c ≡ true) → k < m → cond b (suc k) k < cond c (suc m) m
    one_more true true both h = omega arith
    one_more true false both h = absurd (false≢true (both refl))
    one_more false true both h = omega arith
    one_more false false both h = h

-- where f holds of one at least, the count is at least 1
pub count_some : (f : ℕ → Bool) (l : List ℕ) → any f l ≡ true → 1 ≤ count f l
unfolding any count
count_some f [] p = absurd (false≢true p)
count_some f (x ∷ xs) p =
    cond_holds (λ c. 1 ≤ c) (f x)
    (λ q. omega arith)
    (λ q. count_some f xs (rw q at p))

-- ---- fold: a change made once for each of them

-- what every change keeps, all of them keep
pub fold_keeps :
    {A : Type 0} (P : A → Type 0) (f : ℕ → A → A) (a n : ℕ) → ((x : ℕ) → Within a n x → (s : A) → P s → P (f x s)) →
    (s : A) → P s → P (fold f (up_from a n) s)
unfolding fold up_from
fold_keeps P f a zero h s p = p
fold_keeps P f a (suc n) h s p =
    fold_keeps P f (suc a) n (λ x r. h x (rest_within a n x r)) (f a s) (h a (first_within a n) s p)

-- two changes that agree wherever they are made; P x is what holds where x is next
pub fold_agree :
    {A : Type 0} (P : ℕ → A → Type 0) (f g : ℕ → A → A) (a n : ℕ) →
    ((x : ℕ) → Within a n x → (s : A) → P x s → f x s ≡ g x s) →
    ((x : ℕ) → Within a n x → (s : A) → P x s → P (suc x) (g x s)) →
    (s : A) → P a s → fold f (up_from a n) s ≡ fold g (up_from a n) s
unfolding fold up_from
fold_agree P f g a zero agree keeps s p = refl
fold_agree P f g a (suc n) agree keeps s p =
    ap (fold f (up_from (suc a) n)) (agree a (first_within a n) s p)
    ∙ fold_agree P f g (suc a) n (λ x r. agree x (rest_within a n x r)) (λ x r. keeps x (rest_within a n x r))
    (g a s) (keeps a (first_within a n) s p)

-- What the change for k makes of a cell stands there after all of them, where no other change touches that cell. P is
-- what the changes need and keep.
pub fold_changes :
    {A B : Type 0} (P : A → Type 0) (cell : A → B) (g : B → B) (f : ℕ → A → A) (a n k : ℕ) →
    ((x : ℕ) → Within a n x → (s : A) → P s → P (f x s)) → ((s : A) → P s → cell (f k s) ≡ g (cell s)) →
    ((x : ℕ) → Within a n x → x ≢ k → (s : A) → P s → cell (f x s) ≡ cell s) → Within a n k →
    (s : A) → P s → cell (fold f (up_from a n) s) ≡ g (cell s)
unfolding fold up_from
fold_changes P cell g f a zero k keeps changes other h s p = absurd (omega arith)
fold_changes {A} P cell g f a (suc n) k keeps changes other h s p =
    by_place (ℕ_discrete k a)
    (fold_changes P cell g f (suc a) n k (λ x r. keeps x (omega arith)) changes (λ x r. other x (omega arith)))
  where
    first : Within a (suc n) a
    first = omega arith

    by_place : Dec (k ≡ a) →
        (Within (suc a) n k → (t : A) → P t → cell (fold f (up_from (suc a) n) t) ≡ g (cell t)) →
        cell (fold f (up_from (suc a) n) (f a s)) ≡ g (cell s)
    by_place (yes e) rest =
        (fold_keeps (λ t. P t × (cell t ≡ g (cell s))) f (suc a) n
        (λ x r t q. (keeps x (omega arith) t q.0, other x (omega arith) (λ z. omega arith) t q.0 ∙ q.1))
        (f a s) (keeps a first s p, rw e at (changes s p))).1
    by_place (no ne) rest = rest (omega arith) (f a s) (keeps a first s p) ∙ ap g (other a first (λ z. ne (sym z)) s p)

-- What the change for k puts into a cell stands there after all of them, where no other change touches that cell.
pub fold_puts :
    {A B : Type 0} (P : A → Type 0) (cell : A → B) (v : B) (f : ℕ → A → A) (a n k : ℕ) →
    ((x : ℕ) → Within a n x → (s : A) → P s → P (f x s)) → ((s : A) → P s → cell (f k s) ≡ v) →
    ((x : ℕ) → Within a n x → x ≢ k → (s : A) → cell (f x s) ≡ cell s) → Within a n k →
    (s : A) → P s → cell (fold f (up_from a n) s) ≡ v
fold_puts P cell v f a n k keeps puts other =
    fold_changes P cell (λ _. v) f a n k keeps puts (λ x h ne s _. other x h ne s)

-- of a falling run the lowest number comes last
pub fold_down_last :
    {A : Type 0} (f : ℕ → A → A) (a n : ℕ) (s : A) → fold f (down_to a (suc n)) s ≡ f a (fold f (down_to (suc a) n) s)
unfolding fold down_to
fold_down_last f a zero s = rw (add-zero a)
fold_down_last f a (suc n) s =
    let same : a + suc n ≡ suc a + n = omega (arith, add-suc a n, suc-add a n) in
    fold_down_last f a n (f (a + suc n) s) ∙ ap (λ x. f a (fold f (down_to (suc a) n) (f x s))) same

-- a change that disturbs none of the others may come after them or before
fold_late :
    {A : Type 0} (P : A → Type 0) (f : ℕ → A → A) (k a n : ℕ) →
    ((x : ℕ) → Within a n x → (s : A) → P s → P (f x s)) →
    ((x : ℕ) → Within a n x → (s : A) → P s → f k (f x s) ≡ f x (f k s)) →
    (s : A) → P s → f k (fold f (up_from a n) s) ≡ fold f (up_from a n) (f k s)
unfolding fold up_from
fold_late P f k a zero keeps swap s p = refl
fold_late P f k a (suc n) keeps swap s p =
    fold_late P f k (suc a) n (λ x r. keeps x (rest_within a n x r)) (λ x r. swap x (rest_within a n x r))
    (f a s) (keeps a (first_within a n) s p)
    ∙ ap (fold f (up_from (suc a) n)) (swap a (first_within a n) s p)

-- changes that don't disturb each other may be made rising or falling; P is what they need and keep
pub fold_either_way :
    {A : Type 0} (P : A → Type 0) (f : ℕ → A → A) (a n : ℕ) →
    ((x : ℕ) → Within a n x → (s : A) → P s → P (f x s)) →
    ((x y : ℕ) → Within a n x → Within a n y → x ≢ y → (s : A) → P s → f x (f y s) ≡ f y (f x s)) →
    (s : A) → P s → fold f (down_to a n) s ≡ fold f (up_from a n) s
unfolding fold down_to up_from
fold_either_way P f a zero keeps swap s p = refl
fold_either_way P f a (suc n) keeps swap s p =
    fold_down_last f a n s
    ∙ ap (f a)
    (fold_either_way P f (suc a) n (λ x r. keeps x (rest_within a n x r))
    (λ x y r q. swap x y (rest_within a n x r) (rest_within a n y q)) s p)
    ∙ fold_late P f a (suc a) n (λ x r. keeps x (rest_within a n x r))
    (λ x r. swap a x (first_within a n) (rest_within a n x r) (λ z. omega (arith, r.0))) s p

-- ---- a run taken from its front, as a loop does: what is left from a on, below an end

pub left_next : (a end : ℕ) → a < end → up_from a (end - a) ≡ a ∷ up_from (a + 1) (end - (a + 1))
unfolding up_from
left_next a end h =
    let e : end - a ≡ suc (end - (a + 1)) = omega arith in
    rw (e, add-one a) refl

pub left_done : (a end : ℕ) → end ≤ a → up_from a (end - a) ≡ []
unfolding up_from
left_done a end h = let e : end - a ≡ 0 = omega arith in rw e

module _ (f : ℕ → Bool) (a end : ℕ) where
  -- the first of what is left decides, or it is passed over
  pub all_left_here : a < end → f a ≡ false → all f (up_from a (end - a)) ≡ false
  unfolding all
  all_left_here h p = rw (left_next a end h, p)

  pub all_left_next : a < end → f a ≡ true → all f (up_from a (end - a)) ≡ all f (up_from (a + 1) (end - (a + 1)))
  unfolding all
  all_left_next h p = rw (left_next a end h, p)

  pub all_left_done : end ≤ a → all f (up_from a (end - a)) ≡ true
  unfolding all
  all_left_done h = rw (left_done a end h)

  -- the first of what is left is counted, or it is passed over
  pub count_left_here : a < end → f a ≡ true → count f (up_from a (end - a)) ≡ suc (count f (up_from (a + 1) (end - (a + 1))))
  unfolding count
  count_left_here h p = rw (left_next a end h, p)

  pub count_left_next : a < end → f a ≡ false → count f (up_from a (end - a)) ≡ count f (up_from (a + 1) (end - (a + 1)))
  unfolding count
  count_left_next h p = rw (left_next a end h, p)

  pub count_left_done : end ≤ a → count f (up_from a (end - a)) ≡ 0
  unfolding count
  count_left_done h = rw (left_done a end h)

module _ (f : ℕ → Bool) (a end : ℕ) where
  -- the first of what is left is kept, or it is passed over
  pub filter_left_here : a < end → f a ≡ true → filter f (up_from a (end - a)) ≡ a ∷ filter f (up_from (a + 1) (end - (a + 1)))
  unfolding filter
  filter_left_here h p = rw (left_next a end h, p)

  pub filter_left_next : a < end → f a ≡ false → filter f (up_from a (end - a)) ≡ filter f (up_from (a + 1) (end - (a + 1)))
  unfolding filter
  filter_left_next h p = rw (left_next a end h, p)

  pub filter_left_done : end ≤ a → filter f (up_from a (end - a)) ≡ []
  unfolding filter
  filter_left_done h = rw (left_done a end h)

pub fold_left_next :
    {A : Type 0} (f : ℕ → A → A) (a end : ℕ) (s : A) → a < end →
    fold f (up_from a (end - a)) s ≡ fold f (up_from (a + 1) (end - (a + 1))) (f a s)
unfolding fold
fold_left_next f a end s h = rw (left_next a end h)

pub fold_left_done : {A : Type 0} (f : ℕ → A → A) (a end : ℕ) (s : A) → end ≤ a → fold f (up_from a (end - a)) s ≡ s
unfolding fold
fold_left_done f a end s h = rw (left_done a end h)
