-- The candidates are the short events with a low number, and the earlier of two is the lower. Assumes nothing.
use Prim.Native.Nat.{ℕ, ◌+◌, ◌*◌, ◌-◌, ◌<◌}
use native.Mathlib.Omega.{arith}
use native.Mathlib.Decide.{dec_lt}
use mathlib.Core.Path.{◌≡◌, refl, sym, ap, ◌∙◌}
use mathlib.Core.Bool.{true}
use borrow.Author.Tests.{lt-ltb, eq-eqb}
use lib.Dec.{ltb}
use Rattle.rules.specs.Event.{Event, start_code}
use Rattle.rules.proofs.Laws.Tests.{and_both, or_inl, or_inr}
use Rattle.enumeration.specs.ShortDay.{card_for, IsShort}
use Rattle.enumeration.specs.Lists.{numbers_tried, candidate_count, code_tried, number_tried, candidate}
use Rattle.enumeration.specs.Order.{is_lower}

pub candidate_short : (p c : ℕ) → c < candidate_count → IsShort p (candidate p c)
candidate_short p c within = record { coded = omega arith; placed = refl; carded = refl }

-- the candidate that has this code and this number
abbrev place_of : Event → ℕ
place_of e = (e.code - start_code) * numbers_tried + e.number

pub short_candidate :
    (p : ℕ) (e : Event) → IsShort p e → e.number < numbers_tried → (c : ℕ) × (c < candidate_count) × (candidate p c ≡ e)
short_candidate p e short low =
    let code : code_tried (place_of e) ≡ e.code = omega (arith, short.coded) in
    let number : number_tried (place_of e) ≡ e.number = omega arith in
    let card : card_for (code_tried (place_of e)) p ≡ e.card = ap (λ x. card_for x p) code ∙ sym short.carded in (
      place_of e,
      omega (arith, short.coded),
      λ i. record { code = code i; number = number i; account = sym short.placed i; card = card i },
    )

pub candidates_rise : (p c d : ℕ) → c < d → is_lower (candidate p c) (candidate p d) ≡ true
candidates_rise p c d before = by_code (dec_lt (code_tried c) (code_tried d))
  where
    by_code : Dec (code_tried c < code_tried d) → is_lower (candidate p c) (candidate p d) ≡ true
    by_code (yes less) = or_inl _ (lt-ltb (code_tried c) (code_tried d) less)
    by_code (no not_less) =
        or_inr (ltb (code_tried c) (code_tried d))
        (and_both (eq-eqb (code_tried c) (code_tried d) (omega arith)) (lt-ltb (number_tried c) (number_tried d) (omega arith)))
