-- RULES 9.3: the base store that a day opens with. Assumes nothing.
use Rattle.std.specs.Prelude.{ℕ, ◌≡◌, List, replicate}
use Rattle.rules.specs.Range.{up_from, fold}
use Rattle.rules.specs.Card.{base_length, base_place, with_card}
use Rattle.dayread.specs.File.{card_count, account_at, opening_card, file_fault}

-- each opening card at its account, zeros everywhere else
unfoldable pub opening_base : List ℕ → List ℕ
opening_base file =
    fold (λ i now. with_card now (base_place (account_at file i)) (opening_card file i)) (up_from 0 (card_count file))
    (replicate base_length 0)

-- what a day asks before it opens: a file without a fault
abbrev pub IsFaultless : List ℕ → Type 0
IsFaultless file = file_fault file ≡ 0
