-- RULES 15.4: the events of a short day are read back from its bytes. Assumes nothing.
use Prim.Native.Nat.{ℕ, suc, ◌+◌, ◌*◌}
use mathlib.Core.Path.{◌≡◌, ap, ◌∙◌}
use mathlib.Core.Bool.{cond}
use mathlib.Core.List.{List, [], ◌∷◌}
use lib.Dec.{eqb}
use lib.ListN.{length, length-replicate}
use Rattle.rules.specs.Card.{card_length}
use Rattle.rules.specs.Event.{Event, write_code}
use Rattle.rules.specs.Encoding.{event_length, bytes_of_events, events_in}
use Rattle.rules.proofs.Laws.Each.{Each}
use Rattle.rules.proofs.Laws.EventBytes.{IsWhole, events_length, read_back}
use Rattle.enumeration.specs.ShortDay.{IsShort, AreShort, IsShortDay}

short_whole : (p : ℕ) (e : Event) → IsShort p e → IsWhole e
short_whole p e short =
    ap length short.carded ∙ length-replicate {A = ℕ} card_length (cond (eqb e.code write_code) (p + 1) 0)

all_whole : (p : ℕ) (es : List Event) → AreShort p es → Each IsWhole es
unfolding AreShort Each
all_whole p [] short = tt
all_whole p (e ∷ es) (first, later) = (short_whole p e first, all_whole (suc p) es later)

module _ {k rule : ℕ} (es : List Event) (day : IsShortDay k rule es) where
  pub day_length : length (bytes_of_events es) ≡ event_length * k
  day_length = events_length es (all_whole 0 es day.short) ∙ ap (λ n. event_length * n) day.many

  pub day_read_back : events_in (bytes_of_events es) ≡ es
  day_read_back = read_back es (all_whole 0 es day.short)
