-- Signed cents and their words. Assumes nothing.
use Rattle.std.proofs.Common.{◌≡◌, ℕ, ◌^◌, ◌<◌, true, ℤ, to_z-of_z, w64, SFits, to_z, of_z, ltb-true, ap, ◌∙◌}
use lib.Signed.{mag}
use Rattle.rules.specs.Amount.{amount_of, is_amount}

-- 64 signed bits hold an amount
pub amount_fits : (z : ℤ) → is_amount z ≡ true → SFits w64 z
unfolding is_amount
amount_fits z h = record { sfits = ltb-true (mag z) (2 ^ 63) h }

-- a number that they hold is read back from its word
pub held : {z : ℤ} → mag z < 2 ^ 63 → to_z w64 (of_z w64 z) ≡ z
held h = to_z-of_z {w = w64} (record { sfits = h })

-- and so the word of what is read back stands for the number
pub word_shown : (z : ℤ) {word : ℕ} → mag z < 2 ^ 63 → word ≡ of_z w64 (to_z w64 (of_z w64 z)) → amount_of word ≡ z
unfolding amount_of
word_shown z h is = ap (to_z w64) (is ∙ ap (of_z w64) (held {z = z} h)) ∙ held {z = z} h
