-- RULES 4.8: what the store or an action holds for an account, where a commit under it puts what it copies: a card and, of a
-- charge account, a sum. The store is p = 0. Assumes nothing.
use Rattle.std.specs.Prelude.{ℕ, cond, List, eqb, ℤ}
use Rattle.rules.specs.Card.{base_place, shadow_place, card_at, with_card}
use Rattle.rules.specs.Amount.{amount_word, with_amount, base_amount}
use Rattle.rules.specs.Table.{with_pending, pending_sum}
use Rattle.rules.specs.Ledger.{Ledger, ledger_of, with_table}

-- the base card, or the action's card in the shadow store
abbrev pub held_card : List ℕ → List ℕ → ℕ → ℕ → List ℕ
held_card base shadow p k = cond (eqb p 0) (card_at base (base_place k)) (card_at shadow (shadow_place p k))

-- the base amount, or the action's pending sum
abbrev pub held_sum : List ℕ → List ℕ → ℕ → ℕ → ℤ
held_sum w base p k = cond (eqb p 0) (base_amount base k) (pending_sum w p k)

-- the ledger with another base card for account k
abbrev pub with_base_card : Ledger → ℕ → List ℕ → Ledger
with_base_card s k card = ledger_of s.table (with_card s.base (base_place k) card) s.shadow

-- .. with another card of p's
unfoldable pub with_held_card : Ledger → ℕ → ℕ → List ℕ → Ledger
with_held_card s p k card =
    cond (eqb p 0)
    (with_base_card s k card)
    (ledger_of s.table s.base (with_card s.shadow (shadow_place p k) card))

-- .. with another sum of p's; of a base card no byte but the amount's changes
unfoldable pub with_held_sum : Ledger → ℕ → ℕ → ℤ → Ledger
with_held_sum s p k z =
    cond (eqb p 0)
    (with_base_card s k (with_amount (card_at s.base (base_place k)) z))
    (with_table s (with_pending s.table p k (amount_word z)))
