-- An answer has four words. Assumes nothing.
use mathlib.Core.Path.{◌≡◌, refl, sym, ap}
use mathlib.Core.List.{[], ◌∷◌}
use lib.ListN.{length, get_or}
use Rattle.rules.specs.declared.Answer.{Answer}
use Rattle.rules.specs.declared.Answer.TheVariants.{Started, Read, ReadSum, Written, Added, Entered, Ready, JudgedFailed, Committed, Failed, Aborted, Refused}
use Rattle.rules.specs.Encoding.{answer_length, words_of}

pub four_words :
    (a : Answer) → (get_or (words_of a) 0 0 ∷ get_or (words_of a) 1 0 ∷ get_or (words_of a) 2 0 ∷ get_or (words_of a) 3 0 ∷ []) ≡ words_of a
four_words (Refused c) = refl
four_words (Started n) = refl
four_words (Read holder moves) = refl
four_words Written = refl
four_words (Committed t) = refl
four_words (Failed t k) = refl
four_words (Aborted n left) = refl
four_words Added = refl
four_words (ReadSum holder moves x) = refl
four_words Entered = refl
four_words (Ready left) = refl
four_words (JudgedFailed left) = refl

pub words_length : (a : Answer) → length (words_of a) ≡ answer_length
words_length a = sym (ap length (four_words a))
