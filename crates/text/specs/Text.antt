-- RULES 10.1: numbers as text, and the line that all programs print of what they refuse, as ASCII. Assumes nothing.
use Rattle.std.specs.Prelude.{ℕ, zero, suc, ◌+◌, ◌/◌, ◌%◌, cond, List, [], ◌∷◌, ◌++◌, ltb, ℤ, pos, negsuc}
use Rattle.rules.specs.declared.Answer.TheVariants.{Refused}
use Rattle.rules.specs.Refusal.{refusal_numbered}
use Rattle.rules.specs.Answer.{said}
use Rattle.io.specs.Digits.{last_digits}

abbrev pub space : ℕ
space = 32

abbrev pub line_feed : ℕ
line_feed = 10

abbrev pub zero_digit : ℕ
zero_digit = 48

-- `-`
abbrev pub minus : ℕ
minus = 45

-- a number in decimal: at most as many digits as the first number says
unfoldable pub decimal_within : ℕ → ℕ → List ℕ
decimal_within zero n = []
decimal_within (suc places) n =
    let higher = decimal_within places (n / 10) in
    cond (ltb n 10) ((zero_digit + n) ∷ []) (higher ++ ((zero_digit + n % 10) ∷ []))

-- the digits of the largest 64-bit number
abbrev pub most_digits : ℕ
most_digits = 20

abbrev pub decimal : ℕ → List ℕ
decimal n = decimal_within most_digits n

-- an integer in decimal, a negative one with `-` in front (negsuc n is n + 1 below 0)
unfoldable pub signed : ℤ → List ℕ
signed (pos n) = decimal n
signed (negsuc n) = minus ∷ decimal (suc n)

-- each number with a space before it
unfoldable pub spaced : List ℕ → List ℕ
spaced [] = []
spaced (n ∷ ns) = (space ∷ decimal n) ++ spaced ns

-- RULES 14.4: a 64-bit number in hexadecimal, the highest digit first; always as many digits as its bits need, in lower case
abbrev pub hex_digits : ℕ
hex_digits = 16

abbrev pub hex_base : ℕ
hex_base = 16

unfoldable pub hexadecimal : ℕ → List ℕ
hexadecimal n = last_digits hex_base hex_digits n

-- RULES 10.4: the line of what is refused, a day or a list: the word of a refused event, and the fault's number
abbrev pub refused_line : ℕ → List ℕ
refused_line fault = (said (Refused (refusal_numbered fault))).word ++ (space ∷ decimal fault) ++ (line_feed ∷ [])
