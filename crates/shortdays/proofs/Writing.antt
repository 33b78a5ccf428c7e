-- An event written into a list, byte by byte, and what stands there then. Assumes nothing.
use Prim.Native.Nat.{ℕ, ◌+◌, ◌≤◌, ◌<◌}
use native.Mathlib.Omega.{arith}
use mathlib.Core.Path.{◌≡◌, refl, ap, ◌∙◌}
use mathlib.Core.Bool.{Bool, true, false, cond}
use mathlib.Core.List.{List, [], ◌∷◌, ◌++◌, append_assoc}
use lib.ListN.{length, take, drop, length-append}
use lib.Seq.{sets, sets-eq, length-take-le, take_at, drop_at, drop-drop}
use Rattle.rules.specs.Amount.{byte_values}
use Rattle.rules.specs.Card.{card_length, with_card}
use Rattle.rules.specs.Event.{Event}
use Rattle.rules.specs.Encoding.{event_length, bytes_of_event}
use Rattle.rules.proofs.Laws.EventBytes.{IsWhole}
use Rattle.shortdays.specs.Written.{FewBefore}

-- its first three bytes put one behind the other, and then its card
module _ (list : List ℕ) (at : ℕ) (e : Event) (whole : IsWhole e) (room : at + event_length ≤ length list) where
  abbrev three : List ℕ
  three = e.code ∷ e.number ∷ e.account ∷ []

  abbrev front : List ℕ
  front = take at list ++ three

  front_length : length front ≡ at + 3
  front_length = length-append (take at list) three ∙ ap (λ n. n + 3) (length-take-le at list (omega arith))

  pub event_put :
      with_card (sets list at three) (at + 3) e.card ≡ take at list ++ bytes_of_event e ++ drop (at + event_length) list
  unfolding with_card
  event_put =
      let rest = drop (at + 3) list in
      let behind : at + 3 + card_length ≡ at + event_length = omega arith in
      rw (
        sets-eq three list at (omega arith),
        take_at front rest (at + 3) front_length,
        ← drop-drop card_length (at + 3) (front ++ rest),
        drop_at front rest (at + 3) front_length,
        drop-drop card_length (at + 3) list,
        behind,
        append_assoc (take at list) three e.card,
      )
      refl

-- what fills a card is a byte
pub filling_low : (writes : Bool) (p : ℕ) → FewBefore p → cond writes (p + 1) 0 < byte_values
filling_low true p few = omega arith
filling_low false p few = omega arith
