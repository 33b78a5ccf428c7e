-- The abstraction of a ledger, which is all that the proof of demand 3 sees of table and stores, and what makes a read stale
-- there. Assumes nothing.
use Prim.Native.Nat.{ℕ, ◌<◌}
use mathlib.Core.Path.{◌≡◌}
use mathlib.Core.Bool.{Bool, true, cond, ◌&&◌}
use mathlib.Core.List.{List}
use lib.Dec.{leb, ltb, eqb}
use Rattle.rules.specs.Card.{account_count, is_charge, base_place, shadow_place, card_at}
use Rattle.rules.specs.Kind.{kind_under}
use Rattle.rules.specs.Table.{most_actions, highest, parent_of, end_time, has_read, read_time, has_written, pending_sum, is_live, is_record_of}
use Rattle.rules.specs.Walk.{walk_up}
use Rattle.rules.specs.Sound.{IsGiven}
use Rattle.rules.specs.Ledger.{Ledger}
use Rattle.rules.specs.Serial.Effect.{Effect, nothing, puts, adds}
use Rattle.rules.proofs.Serial.Values.{AccountValue, over, account_values}
use Rattle.rules.proofs.Serial.AbstractState as serial
use Rattle.rules.proofs.Serial.Shown.{shown_base}

-- X is the number of a live action
unfoldable pub is_alive : List ℕ → ℕ → Bool
is_alive w X = leb 1 X && leb X (highest w) && is_live w X

-- the card of an action, or of the store, for an account
unfoldable pub card_of : Ledger → ℕ → ℕ → List ℕ
card_of s X k = cond (eqb X 0) (card_at s.base (base_place k)) (card_at s.shadow (shadow_place X k))

-- what an action has done to an account in its write set: its own card stands there or, of a charge account, its pending sum
unfoldable pub written_effect : Ledger → ℕ → ℕ → Effect
written_effect s X k = cond (is_charge k) (adds (pending_sum s.table X k)) (puts (card_at s.shadow (shadow_place X k)))

-- on numbers that are no account nobody has an effect
unfoldable pub effect_of : Ledger → ℕ → ℕ → Effect
effect_of s X k = cond (ltb k account_count && has_written s.table X k) (written_effect s X k) nothing

-- an action's view of an account: its own effect over what its parent sees, and so on up to what the base shows
unfoldable pub view_of : Ledger → ℕ → ℕ → AccountValue
view_of s X k = walk_up (parent_of s.table) (shown_base s.base k) (λ m above. over (effect_of s m k) above) most_actions X

unfoldable pub has_read_account : List ℕ → ℕ → ℕ → Bool
has_read_account w X k = ltb k account_count && has_read w X k

abbrev pub abstraction : Ledger → serial.AbstractState account_values
abstraction s =
    record {
      live = is_alive s.table;
      parent = parent_of s.table;
      has_read = has_read_account s.table;
      eff = effect_of s;
      base = shown_base s.base;
      view = view_of s;
    }

-- since X read k, a child of Q has committed with k in its write set: by the read's time of the kind of Q's children
pub record Stale (s : Ledger) (X Q k : ℕ) : Type 0 where
  pub holder : ℕ
  pub begun : IsGiven s.table holder
  pub is_record : is_record_of s.table Q holder ≡ true
  pub written : has_written s.table holder k ≡ true
  pub later : read_time s.table (kind_under Q) X k < end_time s.table holder
