-- RULES 3.1 and 3.4: the nearest version of an account, its holder and how many moves up lead there; and what an action sees
-- of a charge account. Assumes nothing.
use Rattle.std.specs.Prelude.{ℕ, zero, suc, ◌<◌, ◌≡◌, ◌≢◌, true, false, cond, List, ℤ, ◌+ℤ◌}
use Rattle.rules.specs.declared.Version.{Version}
use Rattle.rules.specs.Amount.{base_amount}
use Rattle.rules.specs.Table.{most_actions, parent_of, has_card, pending_sum}
use Rattle.rules.specs.Walk.{walk_up}

-- its holder, seen from action n: the number of the action whose own card it is, 0 where it is the base card
unfoldable pub nearest : List ℕ → ℕ → ℕ → ℕ
nearest w n k = walk_up (parent_of w) 0 (λ m above. cond (has_card w m k) m above) most_actions n

-- the moves up from action n to that holder, the one from a topaction to the store included
unfoldable pub moves_up : List ℕ → ℕ → ℕ → ℕ
moves_up w n k = walk_up (parent_of w) 0 (λ m above. cond (has_card w m k) 0 (suc above)) most_actions n

-- the two as one version: whoever takes one of them from here has the other with it
abbrev pub version : List ℕ → ℕ → ℕ → Version
version w n k = record { holder = nearest w n k; moves = moves_up w n k }

-- RULES 3.4: what action n sees of charge account k: the base amount and the pending sums of n and of all above it, exactly
unfoldable pub read_sum : List ℕ → List ℕ → ℕ → ℕ → ℤ
read_sum w base n k = walk_up (parent_of w) (base_amount base k) (λ m above. above +ℤ pending_sum w m k) most_actions n

-- ---- what the moves say, with no walk in it; proofs/Laws/Versions.antt proves it of `version`

-- where so many moves up lead from n
unfoldable pub climbed : List ℕ → ℕ → ℕ → ℕ
climbed w zero n = n
climbed w (suc moves) n = climbed w moves (parent_of w n)

-- v is the nearest version of account k seen from n: its moves lead to its holder, which is the store or has a card of its own
-- for k, and fewer moves lead only to actions that have none
pub record IsNearest (w : List ℕ) (n k : ℕ) (v : Version) : Type 0 where
  pub leads : climbed w v.moves n ≡ v.holder
  pub holds : v.holder ≢ 0 → has_card w v.holder k ≡ true
  pub fewer : (m : ℕ) → m < v.moves → (climbed w m n ≢ 0) × (has_card w (climbed w m n) k ≡ false)
