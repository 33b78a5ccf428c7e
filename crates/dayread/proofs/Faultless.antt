-- A day file without a fault, as facts about its bytes: what the tests that `file_fault` passed over say. Assumes nothing.
use Prim.Native.Nat.{ℕ, ◌≤◌, ◌<◌}
use native.Mathlib.Omega.{arith}
use mathlib.Core.Path.{◌≡◌}
use mathlib.Core.List.{List}
use lib.ListN.{length}
use borrow.Author.Tests.{ltb-true, ltb-false, eqb-true}
use Rattle.rules.specs.Card.{account_count}
use Rattle.rules.proofs.Laws.Tests.{and_left, not_fails, nonzero}
use Rattle.rules.proofs.Laws.Ranges.{all_at}
use Rattle.rules.proofs.Laws.Allowed.{not_given}
use Rattle.rules.specs.Encoding.{most_events}
use Rattle.dayread.specs.File.{most_cards, card_count, account_at, event_count, events_place, file_length, is_rising, file_fault}

-- what holds of a file in which nothing is wrong
pub record Faultless (file : List ℕ) : Type 0 where
  pub nonempty : 1 ≤ length file
  pub few_cards : card_count file ≤ most_cards
  pub counted : events_place file ≤ length file
  pub few_events : event_count file ≤ most_events
  pub whole : length file ≡ file_length file
  pub account_known : (i : ℕ) → i < card_count file → account_at file i < account_count

pub faultless : (file : List ℕ) → file_fault file ≡ 0 → Faultless file
unfolding file_fault
faultless file none₁ =
    let (empty, none₂) = not_given _ _ _ none₁ in
    let (many_cards, none₃) = not_given _ _ _ none₂ in
    let (cut, none₄) = not_given _ _ _ none₃ in
    let (many_events, none₅) = not_given _ _ _ none₄ in
    let (wrong, none₆) = not_given _ _ _ none₅ in
    let (unordered, none) = not_given _ _ _ none₆ in
    let rising = all_at (is_rising file) 0 (card_count file) in
    record {
      nonempty = (nonzero _).0 empty;
      few_cards = ltb-false _ _ many_cards;
      counted = ltb-false _ _ cut;
      few_events = ltb-false _ _ many_events;
      whole = eqb-true _ _ ((not_fails _).0 wrong);
      account_known = λ i h. ltb-true _ _ (and_left _ _ (rising i ((not_fails _).0 unordered) (omega arith)));
    }
