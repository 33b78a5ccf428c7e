-- RULES 6.1, 6.2 and 6.4: the blocks, from S and what is told of its events; nothing is known here of table or stores.
-- Assumes nothing.
use Rattle.std.specs.Prelude.{ℕ, suc, cond, List, [], ◌∷◌, eqb}
use Rattle.rules.specs.Amount.{amount_in}
use Rattle.rules.specs.Event.{Event}
use Rattle.rules.specs.Serial.Effect.{Effect, puts, adds}
use Rattle.rules.specs.Serial.Block.{Block, empty, read, write, child}
use Rattle.rules.specs.Serial.Told.{Told, it_began, it_read, it_wrote, it_added, it_committed, it_let_leave, it_did_nothing}

-- f with v at n
unfoldable pub put : {A : Type 0} → (ℕ → A) → ℕ → A → ℕ → A
put f n v m = cond (eqb m n) v (f m)

-- what is known of the actions at some place of S: each one's parent, and its block so far
pub record Known : Type 0 where
  pub parent : ℕ → ℕ
  pub block : ℕ → Block Effect

-- action n begins under p
abbrev pub begun : Known → ℕ → ℕ → Known
begun c n p = record { parent = put c.parent n p; block = put c.block n empty }

-- action n commits at place i: its block is taken out and stands, whole, at the end of its parent's
abbrev pub laid : ℕ → Known → ℕ → Known
laid i c n =
    let p = c.parent n in
    let rest = put c.block n empty in
    record { parent = c.parent; block = put rest p (child (rest p) i n (c.block n)) }

-- who commits at an event, as a list in the order of the commits
unfoldable pub commits_at : Event → Told → List ℕ
commits_at e it_committed = e.number ∷ []
commits_at e (it_began n) = []
commits_at e it_read = []
commits_at e it_wrote = []
commits_at e it_added = []
commits_at e (it_let_leave leavers) = leavers
commits_at e it_did_nothing = []

unfoldable pub laid_all : ℕ → Known → List ℕ → Known
laid_all i c [] = c
laid_all i c (n ∷ ns) = laid_all i (laid i c n) ns

-- action n's block grows to d
abbrev pub grown : Known → ℕ → Block Effect → Known
grown c n d = record { parent = c.parent; block = put c.block n d }

-- an action's own step at place i: a start, a read, a write or an add that took place
unfoldable pub stepped : ℕ → Event → Told → Known → Known
stepped i e (it_began n) c = begun c n e.number
stepped i e it_read c = grown c e.number (read (c.block e.number) i e.account)
stepped i e it_wrote c = grown c e.number (write (c.block e.number) i e.account (puts e.card))
stepped i e it_added c = grown c e.number (write (c.block e.number) i e.account (adds (amount_in e.card)))
stepped i e it_committed c = c
stepped i e (it_let_leave leavers) c = c
stepped i e it_did_nothing c = c

-- one event, what is told of it, and who commits at it
unfoldable pub collect_one : ℕ → Event → Told → List ℕ → Known → Known
collect_one i e it commits c = laid_all i (stepped i e it c) commits

-- the events from place i on
unfoldable pub collect_from : ℕ → List Event → List Told → Known → Known
collect_from i [] its c = c
collect_from i (e ∷ es) [] c = c
collect_from i (e ∷ es) (it ∷ its) c = collect_from (suc i) es its (collect_one i e it (commits_at e it) c)

-- before S nothing is known
unfoldable pub unknown : Known
unknown = record { parent = λ n. 0; block = λ n. empty }

-- the store's block, after all of S
unfoldable pub store_block : List Event → List Told → Block Effect
store_block es its = (collect_from 0 es its unknown).block 0
