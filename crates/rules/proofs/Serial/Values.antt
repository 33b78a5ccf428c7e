-- What an account shows and what an action has done to it, known by their laws alone. Assumes nothing.
use mathlib.Core.Path.{◌≡◌, refl}
use mathlib.Core.Bool.{Bool, true, false, false≢true}
use mathlib.Core.List.{List}
use Prim.Native.Nat.{ℕ}
use lib.IntN.{ℤ, ◌+ℤ◌, +ℤ_assoc}
use Rattle.rules.specs.Amount.{with_amount}
use Rattle.rules.specs.Serial.Effect.{Effect, nothing, puts, adds, lay}
use Rattle.rules.proofs.Laws.Amounts.{with_amount_again}

pub record Values : Type 1 where
  pub Val : Type 0
  pub Eff : Type 0
  pub nil : Eff
  -- lay f g: first g, then f
  pub lay : Eff → Eff → Eff
  pub over : Eff → Val → Val
  -- what stood there before makes no difference
  pub hides : Eff → Bool
  pub lay_nil : (g : Eff) → lay nil g ≡ g
  pub over_nil : (v : Val) → over nil v ≡ v
  pub over_lay : (f g : Eff) (v : Val) → over (lay f g) v ≡ over f (over g v)
  pub over_hides : (f : Eff) → hides f ≡ true → (v w : Val) → over f v ≡ over f w

-- What stood there before makes no difference where f hides it, and none where it is the same.
pub over_same : (Vs : Values) (f : Vs.Eff) {v w : Vs.Val} → (Vs.hides f ≡ false → v ≡ w) → Vs.over f v ≡ Vs.over f w
over_same Vs f {v} {w} same = cases (Vs.hides f) refl
  where
    cases : (b : Bool) → Vs.hides f ≡ b → Vs.over f v ≡ Vs.over f w
    cases true hidden = Vs.over_hides f hidden v w
    cases false shown = rw (same shown)

-- The values of our accounts. An account below the charge accounts shows a card. A charge account shows the card as it would
-- stand if all sums on the way up were settled, and the exact sum: so what an action sees before its commit and what the base
-- shows after it are one expression.
pub data AccountValue : Type 0 where
  plain : (card : List ℕ) → AccountValue
  charge : (card : List ℕ) (sum : ℤ) → AccountValue

-- a sum over a plain card is never met
unfoldable pub over : Effect → AccountValue → AccountValue
over nothing v = v
over (puts card) v = plain card
over (adds x) (plain card) = plain card
over (adds x) (charge card z) = charge (with_amount card (z +ℤ x)) (z +ℤ x)

-- only an own card hides what lies above
unfoldable pub hides : Effect → Bool
hides nothing = false
hides (puts card) = true
hides (adds x) = false

pub lay_nothing : (g : Effect) → lay nothing g ≡ g
unfolding lay
lay_nothing g = refl

pub over_nothing : (v : AccountValue) → over nothing v ≡ v
unfolding over
over_nothing v = refl

pub over_laid : (f g : Effect) (v : AccountValue) → over (lay f g) v ≡ over f (over g v)
unfolding lay over
over_laid nothing g v = refl
over_laid (puts card) g v = refl
over_laid (adds x) nothing v = refl
over_laid (adds x) (puts card) v = refl
over_laid (adds x) (adds y) (plain card) = refl
over_laid (adds x) (adds y) (charge card z) = rw (+ℤ_assoc z y x, with_amount_again card (z +ℤ y) (z +ℤ (y +ℤ x)))

pub over_hidden : (f : Effect) → hides f ≡ true → (v w : AccountValue) → over f v ≡ over f w
unfolding over hides
over_hidden nothing h v w = absurd (false≢true h)
over_hidden (puts card) h v w = refl
over_hidden (adds x) h v w = absurd (false≢true h)

abbrev pub account_values : Values
account_values =
    record {
      Val = AccountValue;
      Eff = Effect;
      nil = nothing;
      lay = lay;
      over = over;
      hides = hides;
      lay_nil = lay_nothing;
      over_nil = over_nothing;
      over_lay = over_laid;
      over_hides = over_hidden;
    }
