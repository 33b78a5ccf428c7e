-- RULES 4.4: the search for the first clash; proofs/Clash/Searching.antt shows that it finds a live action's `first_clash`.
-- Assumes nothing.
use Rattle.std.specs.Prelude.{ℕ, zero, suc, Bool, cond, ◌&&◌, ◌||◌, List, [], ◌∷◌, ltb, eqb, Option, None}
use Rattle.rules.specs.Card.{accounts}
use Rattle.rules.specs.Table.{most_actions, parent_of, end_time, records}
use Rattle.rules.specs.declared.Found.{Found}
use Rattle.rules.specs.Found.{found_at}
use Rattle.rules.specs.Clash.{is_clash}

-- m ends after t, and sooner than the action `next` where that is one
abbrev pub is_sooner : List ℕ → ℕ → ℕ → ℕ → Bool
is_sooner w t m next = ltb t (end_time w m) && (eqb next 0 || ltb (end_time w m) (end_time w next))

-- of the actions ms the one with the smallest end time above t, 0 where there is none
unfoldable pub next_after : List ℕ → ℕ → List ℕ → ℕ
next_after w t [] = 0
next_after w t (m ∷ ms) =
    let next = next_after w t ms in
    cond (is_sooner w t m next) m next

-- the first of the accounts ks at which n clashes with record m; else what `rest` finds
unfoldable pub search_accounts : List ℕ → ℕ → ℕ → Option Found → List ℕ → Option Found
search_accounts w n m rest [] = rest
search_accounts w n m rest (k ∷ ks) =
    let later = search_accounts w n m rest ks in
    cond (is_clash w n m k) (found_at (end_time w m) k) later

-- the records with end times above t, by rising end time; the first number bounds how many there are
unfoldable pub search_records : List ℕ → ℕ → ℕ → ℕ → Option Found
search_records w n zero t = None
search_records w n (suc left) t =
    let m = next_after w t (records w (parent_of w n)) in
    let here = search_accounts w n m (search_records w n left (end_time w m)) accounts in
    cond (eqb m 0) None here

unfoldable pub search : List ℕ → ℕ → Option Found
search w n = search_records w n most_actions 0
