-- RULES 15.3: what is claimed of all short days. Assumes nothing.
use Rattle.std.specs.Prelude.{ℕ, ◌<◌, ◌≡◌, true, length, get_or}
use mathlib.Core.List.{List, [], Memᴰ}
use Rattle.rules.specs.Event.{Event}
use Rattle.enumeration.specs.ShortDay.{IsShortDay}
use Rattle.enumeration.specs.Order.{comes_first}

-- days are all short days of k events under the rule: each member is one, each one is a member, and of two places the lower one has
-- that which comes first, so that none stands twice
pub record Enumerates (k rule : ℕ) (days : List (List Event)) : Type 0 where
  pub only : (es : List Event) → Memᴰ es days → IsShortDay k rule es
  pub every : (es : List Event) → IsShortDay k rule es → Memᴰ es days
  pub rising : (i j : ℕ) → i < j → j < length days → comes_first (get_or days i []) (get_or days j []) ≡ true
