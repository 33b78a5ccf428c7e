-- RULES 5: what an answer says. Assumes nothing.
use Rattle.std.specs.Prelude.{ℕ, Bool, true, false, List, [], ◌∷◌, ℤ}
use Rattle.std.proofs.Math.Option.{Option, none, some}
use Rattle.rules.specs.declared.Answer.{Answer}
use Rattle.rules.specs.declared.Answer.TheVariants.{Started, Read, ReadSum, Written, Added, Entered, Ready, JudgedFailed, Committed, Failed, Aborted, Refused}
use Rattle.rules.specs.Amount.{amount_of}
use Rattle.rules.specs.Refusal.{refusal_number}

-- a word, as the ASCII codes of its letters, then numbers, and behind them a sum where there is one
pub record Said : Type 0 where
  pub word : List ℕ
  pub numbers : List ℕ
  pub sum : Option ℤ

-- for each case of the type its word, `started` to `refused`, its numbers in their order, and its sum; the first number of a failed
-- commit is an end time under rule 1 and an action under rule 2
abbrev pub said : Answer → Said
said (Started n) = record { word = 115 ∷ 116 ∷ 97 ∷ 114 ∷ 116 ∷ 101 ∷ 100 ∷ []; numbers = n ∷ []; sum = none }
said (Read holder moves) = record { word = 114 ∷ 101 ∷ 97 ∷ 100 ∷ []; numbers = holder ∷ moves ∷ []; sum = none }
said (ReadSum holder moves x) = record { word = 114 ∷ 101 ∷ 97 ∷ 100 ∷ []; numbers = holder ∷ moves ∷ []; sum = some (amount_of x) }
said Written = record { word = 119 ∷ 114 ∷ 105 ∷ 116 ∷ 116 ∷ 101 ∷ 110 ∷ []; numbers = []; sum = none }
said Added = record { word = 97 ∷ 100 ∷ 100 ∷ 101 ∷ 100 ∷ []; numbers = []; sum = none }
said Entered = record { word = 101 ∷ 110 ∷ 116 ∷ 101 ∷ 114 ∷ 101 ∷ 100 ∷ []; numbers = []; sum = none }
said (Ready left) = record { word = 114 ∷ 101 ∷ 97 ∷ 100 ∷ 121 ∷ []; numbers = left ∷ []; sum = none }
said (JudgedFailed left) = record { word = 102 ∷ 97 ∷ 105 ∷ 108 ∷ 101 ∷ 100 ∷ []; numbers = left ∷ []; sum = none }
said (Committed t) =
    record { word = 99 ∷ 111 ∷ 109 ∷ 109 ∷ 105 ∷ 116 ∷ 116 ∷ 101 ∷ 100 ∷ []; numbers = t ∷ []; sum = none }
said (Failed t k) = record { word = 102 ∷ 97 ∷ 105 ∷ 108 ∷ 101 ∷ 100 ∷ []; numbers = t ∷ k ∷ []; sum = none }
said (Aborted n left) = record { word = 97 ∷ 98 ∷ 111 ∷ 114 ∷ 116 ∷ 101 ∷ 100 ∷ []; numbers = n ∷ left ∷ []; sum = none }
said (Refused refusal) = record { word = 114 ∷ 101 ∷ 102 ∷ 117 ∷ 115 ∷ 101 ∷ 100 ∷ []; numbers = refusal_number refusal ∷ []; sum = none }

-- whether it is that of a refused event
abbrev pub is_refused : Answer → Bool
is_refused (Started n) = false
is_refused (Read holder moves) = false
is_refused (ReadSum holder moves x) = false
is_refused Written = false
is_refused Added = false
is_refused Entered = false
is_refused (Ready left) = false
is_refused (JudgedFailed left) = false
is_refused (Committed t) = false
is_refused (Failed t k) = false
is_refused (Aborted n left) = false
is_refused (Refused c) = true
