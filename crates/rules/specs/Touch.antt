-- RULES 2.7: the bytes of the two stores that an event may change; proofs/Stores/Untouched.antt shows that no other one
-- does. Assumes nothing.
use Rattle.std.specs.Prelude.{ℕ, ◌+◌, Bool, not, cond, ◌&&◌, ◌||◌, List, [], ◌∷◌, leb, ltb, eqb}
use Rattle.rules.specs.Range.{any}
use Rattle.rules.specs.Card.{accounts, is_charge, card_length, base_place, shadow_place}
use Rattle.rules.specs.Amount.{amount_length}
use Rattle.rules.specs.Table.{parent_of, has_written, has_card}
use Rattle.rules.specs.Event.{Event, is_write, is_commit}
use Rattle.rules.specs.Clash.{is_clear}
use Rattle.rules.specs.Verdict.{commit_verdict}
use Rattle.rules.specs.Ledger.{Ledger}
use Rattle.rules.specs.Step.{leavers_at}

-- byte i is one of so many from a place on
abbrev pub is_among : ℕ → ℕ → ℕ → Bool
is_among size place i = leb place i && ltb i (place + size)

-- RULES 2.4: a write puts its card over byte i
abbrev pub is_put : Event → ℕ → Bool
is_put e i = is_write e && is_among card_length (shadow_place e.number e.account) i

-- RULES 4.5: how many bytes of account k's base card a topaction's commit may change: of a charge account its amount alone
abbrev pub settled_length : ℕ → ℕ
settled_length k = cond (is_charge k) amount_length card_length

-- a commit of topaction n settles one of its accounts over byte i of the base store
unfoldable pub is_settled : List ℕ → ℕ → ℕ → Bool
is_settled w n i = any (λ k. has_written w n k && is_among (settled_length k) (base_place k) i) accounts

-- a commit of n under p copies one of its own cards over byte i of the shadow store
unfoldable pub is_copied : List ℕ → ℕ → ℕ → ℕ → Bool
is_copied w n p i = any (λ k. has_card w n k && is_among card_length (shadow_place p k) i) accounts

-- a commit that passes
abbrev pub is_committing : List ℕ → Event → Bool
is_committing w e = is_commit e && is_clear (commit_verdict w e.number)

-- who commits at an event, by it or by leaving a queue
unfoldable pub committers_at : Ledger → Event → List ℕ
committers_at s e = cond (is_committing s.table e) (e.number ∷ []) (leavers_at s e)

-- of the ledger before the event, the event, and the byte's place: a topaction's commit changes the base store
unfoldable pub may_change_base : Ledger → Event → ℕ → Bool
may_change_base s e i = any (λ n. eqb (parent_of s.table n) 0 && is_settled s.table n i) (committers_at s e)

-- a subaction's commit copies over byte i of the shadow store
abbrev pub is_joined : List ℕ → ℕ → ℕ → Bool
is_joined w n i = not (eqb (parent_of w n) 0) && is_copied w n (parent_of w n) i

-- .. and a write, or a subaction's commit, the shadow store
unfoldable pub may_change_shadow : Ledger → Event → ℕ → Bool
may_change_shadow s e i = is_put e i || any (λ n. is_joined s.table n i) (committers_at s e)
