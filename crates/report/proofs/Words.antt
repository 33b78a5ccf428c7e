-- Words put into a report in turn. Assumes nothing.
use Prim.Native.Nat.{ℕ, suc, ◌+◌, ◌-◌, ◌*◌, ◌≤◌, ◌<◌}
use native.Mathlib.Nat.{add-zero, add-suc, suc-add, mul-suc}
use native.Mathlib.Omega.{arith}
use mathlib.Core.Path.{◌≡◌, refl, sym, ap, ap₂, ◌∙◌}
use mathlib.Core.List.{List, [], ◌∷◌, ◌++◌, map, flat_map, map-append}
use lib.ListN.{length, set, length-append}
use lib.Seq.{sets, length-sets}
use lib.IntN.{ℤ}
use Rattle.rules.specs.Range.{up_from}
use Rattle.rules.specs.Card.{account_count, first_charge, charge_accounts}
use Rattle.rules.proofs.Laws.Ranges.{left_next, left_done}

pub sets_append : (l : List ℕ) (at : ℕ) (xs ys : List ℕ) → sets l at (xs ++ ys) ≡ sets (sets l at xs) (at + length xs) ys
sets_append l at [] ys = rw add-zero
sets_append l at (x ∷ xs) ys =
    sets_append (set l at x) (suc at) xs ys
    ∙ ap (λ next. sets (sets (set l at x) (suc at) xs) next ys) (suc-add at (length xs) ∙ sym (add-suc at (length xs)))

-- ---- f's words for each charge account, so many for each, put from a place on, one account after the other

module _ (f : ℕ → List ℕ) (width : ℕ) where
  -- those of the accounts from k on
  abbrev pub words_from : ℕ → List ℕ
  words_from k = flat_map f (up_from k (account_count - k))

  -- where those of account k stand
  abbrev pub place : ℕ → ℕ → ℕ
  place from k = from + width * (k - first_charge)

  -- What is left from account k on has room in the report and, put there, gives what all of it gives, put into the report as it
  -- stood at first.
  pub record PutSoFar (first : List ℕ) (from : ℕ) (now : List ℕ) (k : ℕ) : Type 0 where
    pub above : first_charge ≤ k
    pub below : k ≤ account_count
    pub long : length now ≡ length first
    pub room : place from k + length (words_from k) ≤ length now
    pub gives : sets first from (flat_map f charge_accounts) ≡ sets now (place from k) (words_from k)

  pub put_first :
      (first : List ℕ) (from : ℕ) → from + length (flat_map f charge_accounts) ≤ length first → PutSoFar first from first first_charge
  unfolding charge_accounts
  put_first first from room =
      let here : place from first_charge ≡ from = omega arith in
      record { above = omega arith; below = omega arith; long = refl; room = rw here room; gives = rw here }

  module _ {first : List ℕ} {from : ℕ} {now : List ℕ} {k : ℕ} (so_far : PutSoFar first from now k) where
    module _ (more : k < account_count) where
      split : words_from k ≡ f k ++ words_from (k + 1)
      unfolding flat_map
      split = rw (left_next k account_count more)

      lengths : length (words_from k) ≡ length (f k) + length (words_from (k + 1))
      lengths = ap length split ∙ length-append (f k) (words_from (k + 1))

      pub room_here : place from k + length (f k) ≤ length now
      room_here = omega (arith, so_far.room, lengths)

      next_place : place from k + width ≡ place from (k + 1)
      next_place =
          let one_more : k + 1 - first_charge ≡ suc (k - first_charge) = omega (arith, so_far.above) in
          rw one_more (omega (arith, mul-suc width (k - first_charge)))

      -- the next account's words are put
      pub put_next : length (f k) ≡ width → (then : List ℕ) → then ≡ sets now (place from k) (f k) → PutSoFar first from then (k + 1)
      put_next is then put =
          let kept : length then ≡ length now = ap length put ∙ length-sets now (place from k) (f k) in
          let behind : place from k + length (f k) ≡ place from (k + 1) = ap (λ many. place from k + many) is ∙ next_place in
          record {
            above = omega (arith, so_far.above);
            below = omega arith;
            long = kept ∙ so_far.long;
            room = omega (arith, so_far.room, lengths, behind, kept);
            gives =
                so_far.gives ∙ ap (sets now (place from k)) split ∙ sets_append now (place from k) (f k) (words_from (k + 1))
                ∙ ap₂ (λ l next. sets l next (words_from (k + 1))) (sym put) behind;
          }

    -- nothing is left
    pub put_last : account_count ≤ k → now ≡ sets first from (flat_map f charge_accounts)
    unfolding flat_map
    put_last over = sym (so_far.gives ∙ rw (left_done k account_count over))

-- the words of several lists of figures, one after the other
pub words_in_turn :
    (word : ℤ → ℕ) (f : ℕ → List ℤ) (l : List ℕ) → map word (flat_map f l) ≡ flat_map (λ k. map word (f k)) l
unfolding flat_map
words_in_turn word f [] = refl
words_in_turn word f (k ∷ l) = map-append word (f k) (flat_map f l) ∙ ap (λ rest. map word (f k) ++ rest) (words_in_turn word f l)
