-- The lists stand in their order: each comes before all that stand behind it. Assumes nothing.
use Prim.Native.Nat.{ℕ, zero, suc, ◌<◌}
use native.Mathlib.Omega.{arith}
use native.Mathlib.Decide.{dec_lt}
use mathlib.Core.Path.{◌≡◌, refl, sym}
use mathlib.Core.Logic.{⊎_elim}
use mathlib.Core.Bool.{Bool, true, false}
use mathlib.Core.List.{List, [], ◌∷◌, ◌++◌, map}
use mathlib.Core.List.Memᴰ
use mathlib.Core.List.{Memᴰ}
use lib.Dec.{eqb, ltb}
use lib.ListN.{length, get_or}
use borrow.Author.Tests.{eq-eqb, le-ltb}
use Rattle.rules.specs.Event.{Event}
use Rattle.rules.specs.Ledger.{Ledger}
use Rattle.rules.specs.Step.{step}
use Rattle.rules.proofs.Laws.Tests.{and_both, or_inl, or_inr, not_both}
use Rattle.rules.proofs.Laws.EventCases.{cause_in}
use Rattle.enumeration.specs.Lists.{candidate_count, candidate, beginning_by, beginning, beginning_from, lists}
use Rattle.enumeration.specs.Order.{is_lower, is_alike, comes_first}
use Rattle.enumeration.proofs.Candidates.{candidates_rise}
use Rattle.enumeration.proofs.Beginnings.{member_mapped, begins_with, begins_with_candidate}

-- ---- the order of two lists

not_lower_itself : (e : Event) → is_lower e e ≡ false
not_lower_itself e =
    let not_below : (n : ℕ) → ltb n n ≡ false = λ n. le-ltb n n (omega arith) in
    rw (not_below e.code, eq-eqb e.code e.code refl, not_below e.number)

alike_itself : (e : Event) → is_alike e e ≡ true
alike_itself e = and_both (eq-eqb e.code e.code refl) (eq-eqb e.number e.number refl)

not_before_itself : (es : List Event) → comes_first es es ≡ false
unfolding comes_first
not_before_itself [] = refl
not_before_itself (e ∷ es) = rw (not_lower_itself e, alike_itself e) (not_before_itself es)

before_behind : (e : Event) (es fs : List Event) → comes_first es fs ≡ true → comes_first (e ∷ es) (e ∷ fs) ≡ true
unfolding comes_first
before_behind e es fs before = or_inr (is_lower e e) (and_both (alike_itself e) before)

before_by_first : (e f : Event) (es fs : List Event) → is_lower e f ≡ true → comes_first (e ∷ es) (f ∷ fs) ≡ true
unfolding comes_first
before_by_first e f es fs lower = or_inl _ lower

-- ---- lists that stand in it

-- d comes before each of these
abbrev ComesFirstOfAll : List Event → List (List Event) → Type 0
ComesFirstOfAll d days = (f : List Event) → Memᴰ f days → comes_first d f ≡ true

pub Rising : List (List Event) → Type 0
Rising [] = Unit {0}
Rising (d ∷ days) = ComesFirstOfAll d days × Rising days

mapped_rising : (e : Event) (days : List (List Event)) → Rising days → Rising (map (λ es. e ∷ es) days)
unfolding Rising
mapped_rising e [] rising = tt
mapped_rising e (d ∷ days) (first, later) = (
  (λ f m. let (es, is, same) = member_mapped (λ l. e ∷ l) days m in rw same (before_behind e d es (first es is))),
  mapped_rising e days later,
)

append_rising :
    (some more : List (List Event)) → Rising some → Rising more → ((d : List Event) → Memᴰ d some → ComesFirstOfAll d more) →
    Rising (some ++ more)
unfolding Rising
append_rising [] more _ rising across = rising
append_rising (d ∷ some) more (first, later) rising across = (
  (λ f m. ⊎_elim (first f) (across d (Memᴰ.head refl) f) (Memᴰ.append_cases some m)),
  append_rising some more later rising (λ x m. across x (Memᴰ.tail m)),
)

-- ---- those that begin with an event, and with each of the candidates

module _ (follow : Ledger → List (List Event)) (rise : (s : Ledger) → Rising (follow s)) (s : Ledger) where
  beginning_rising : (e : Event) → Rising (beginning follow s e)
  unfolding beginning_by Rising
  beginning_rising e = by_cause (eqb (cause_in s e) 0)
    where
      by_cause : (b : Bool) → Rising (beginning_by b follow s e)
      by_cause true = mapped_rising e (follow (step s e).after) (rise (step s e).after)
      by_cause false = tt

  beginning_from_rising : (p left c : ℕ) → Rising (beginning_from follow p s left c)
  unfolding beginning_from Rising
  beginning_from_rising p zero c = tt
  beginning_from_rising p (suc left) c =
      append_rising (beginning follow s (candidate p c)) (beginning_from follow p s left (suc c))
      (beginning_rising (candidate p c)) (beginning_from_rising p left (suc c))
      (λ d here f later.
      let one = begins_with follow s (candidate p c) here in
      let (n, within, other) = begins_with_candidate follow s p left (suc c) later in
      rw (one.whole, other.whole)
      (before_by_first (candidate p c) (candidate p n) one.rest other.rest (candidates_rise p c n (omega arith))))

pub lists_rising : (k p : ℕ) (s : Ledger) → Rising (lists k p s)
unfolding lists Rising
lists_rising zero p s = ((λ f m. absurd (Memᴰ.not-nil m)), tt)
lists_rising (suc k) p s = beginning_from_rising (lists k (suc p)) (lists_rising k (suc p)) s p candidate_count 0

-- ---- by places

member_at : (days : List (List Event)) (i : ℕ) → i < length days → Memᴰ (get_or days i []) days
member_at [] i within = absurd (omega arith)
member_at (d ∷ days) zero within = Memᴰ.head refl
member_at (d ∷ days) (suc i) within = Memᴰ.tail (member_at days i (omega arith))

pub rising_places :
    (days : List (List Event)) → Rising days → (i j : ℕ) → i < j → j < length days →
    comes_first (get_or days i []) (get_or days j []) ≡ true
unfolding Rising
rising_places [] rising i j before within = absurd (omega arith)
rising_places (d ∷ days) rising i zero before within = absurd (omega arith)
rising_places (d ∷ days) (first, later) zero (suc j) before within = first _ (member_at days j (omega arith))
rising_places (d ∷ days) (first, later) (suc i) (suc j) before within = rising_places days later i j (omega arith) (omega arith)

-- none stands at two places, as it doesn't come before itself
pub rising_once :
    (days : List (List Event)) → Rising days → (i j : ℕ) → i < length days → j < length days →
    get_or days i [] ≡ get_or days j [] → i ≡ j
rising_once days rising i j first second same = by_order (dec_lt i j) (dec_lt j i)
  where
    apart : (m n : ℕ) → m < n → n < length days → get_or days m [] ≡ get_or days n [] → ⊥
    apart m n before within twice =
        not_both (rising_places days rising m n before within) (rw twice (not_before_itself (get_or days n [])))

    by_order : Dec (i < j) → Dec (j < i) → i ≡ j
    by_order (yes less) _ = absurd (apart i j less second same)
    by_order (no not_less) (yes more) = absurd (apart j i more first (sym same))
    by_order (no not_less) (no not_more) = omega arith
