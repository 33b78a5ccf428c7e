-- RULES 3.2: a look; document 01's term. Assumes nothing.
use Rattle.std.specs.Prelude.{ℕ, true, false, not, cond, List, [], ◌∷◌, eqb, take, drop}
use Rattle.rules.specs.declared.Version.{Version}
use Rattle.rules.specs.Card.{card_length, base_place, shadow_place}
use Rattle.rules.specs.Sound.{sound}
use Rattle.rules.specs.Cause.{first_cause, store_length_cause, is_store_length_wrong, unsound_cause, number_cause, is_number_unknown, not_live_cause, is_not_live, account_cause, is_account_unknown, child_live_cause, is_child_live, queued_cause, is_queued_already, sum_cause, is_read_outside}
use Rattle.rules.specs.Nearest.{version}

-- RULES 8.3: its causes, which are a read's (proofs/Stores/Looking.antt)
unfoldable pub look_cause : List ℕ → List ℕ → List ℕ → ℕ → ℕ → ℕ
look_cause w base shadow n k =
    first_cause
    (record { number = store_length_cause; applies = is_store_length_wrong base shadow }
    ∷ record { number = unsound_cause; applies = not (sound w) }
    ∷ record { number = number_cause; applies = is_number_unknown w false n }
    ∷ record { number = not_live_cause; applies = is_not_live w n }
    ∷ record { number = account_cause; applies = is_account_unknown true k }
    ∷ record { number = child_live_cause; applies = is_child_live w true n }
    ∷ record { number = queued_cause; applies = is_queued_already w true n }
    ∷ record { number = sum_cause; applies = is_read_outside w base n k }
    ∷ [])

-- one of the two stores
pub data Store : Type 0 where
  in_base in_shadow : Store

-- a part of a store: its first byte's place, and how many bytes it has
pub record Part : Type 0 where
  pub store : Store
  pub place : ℕ
  pub size : ℕ

-- what a look gives: its cause, 0 where it has none, a part, and the moves up to the version that the part is of
pub record Looked : Type 0 where
  pub cause : ℕ
  pub part : Part
  pub moves : ℕ

-- the part of a refused look
abbrev pub empty_part : Part
empty_part = record { store = in_base; place = 0; size = 0 }

-- the card of account k that n holds: an action's own card, or the base card where n is 0
abbrev pub card_part : ℕ → ℕ → Part
card_part n k =
    cond (eqb n 0)
    (record { store = in_base; place = base_place k; size = card_length })
    (record { store = in_shadow; place = shadow_place n k; size = card_length })

-- a look that shows version v of account k, and one that is refused
abbrev pub look_at : Version → ℕ → Looked
look_at v k = record { cause = 0; part = card_part v.holder k; moves = v.moves }

abbrev pub look_refused : ℕ → Looked
look_refused cause = record { cause = cause; part = empty_part; moves = 0 }

-- RULES 3.2: a look of action n at account k
unfoldable pub look : List ℕ → List ℕ → List ℕ → ℕ → ℕ → Looked
look w base shadow n k =
    let cause = look_cause w base shadow n k in
    cond (eqb cause 0) (look_at (version w n k) k) (look_refused cause)

-- the bytes of a part, by the store that it is of
abbrev pub bytes_in : List ℕ → List ℕ → Store → List ℕ
bytes_in base shadow in_base = base
bytes_in base shadow in_shadow = shadow

abbrev pub bytes_of : List ℕ → List ℕ → Part → List ℕ
bytes_of base shadow p = take p.size (drop p.place (bytes_in base shadow p.store))

-- the card that a look shows
abbrev pub looked_card : List ℕ → List ℕ → List ℕ → ℕ → ℕ → List ℕ
looked_card w base shadow n k = bytes_of base shadow (look w base shadow n k).part
