-- What holds between two turns of the loop that sums up a charge account's pending sums on the way to the store. Assumes nothing.
use Prim.Native.Nat.{ℕ, suc, ◌+◌, ◌≤◌, ◌<◌}
use native.Mathlib.Omega.{arith}
use mathlib.Core.Path.{◌≡◌, sym, ap, ap₂, ◌∙◌}
use mathlib.Core.List.{List}
use lib.IntN.{◌+ℤ◌, +ℤ_idl, +ℤ_assoc, +ℤ_comm}
use Rattle.rules.specs.Card.{IsCharge, base_place}
use Rattle.rules.specs.Amount.{amount_of}
use Rattle.rules.specs.Table.{most_actions, parent_of, pending_word, pending_sum}
use Rattle.rules.specs.Walk.{Climbs}
use Rattle.rules.specs.Sound.{IsGiven, StoreOrLive, Sound}
use Rattle.rules.specs.Nearest.{moves_up, read_sum}
use Rattle.rules.proofs.Laws.Amounts.{amount_zero}
use Rattle.rules.proofs.Laws.Walking.{parent_store_or_live, sound_climbs, moves_to_store, moves_to_store_step}
use Rattle.rules.proofs.Laws.Versions.{moves_up_store, moves_up_step, moves_up_at_most}
use Rattle.rules.proofs.Laws.Charges.{read_sum_store, read_sum_step, has_card_charge}
use Rattle.amounts.specs.declared.sum.Sum.{Sum}
use Rattle.amounts.specs.Sum.{word_values, value_of, sum_of, plus_word, HasRoom}
use Rattle.amounts.specs.Word.{word_at}
use Rattle.amounts.proofs.Places.{base_amount_at}
use Rattle.amounts.proofs.Sums.{value_of_word, value_plus, Counted, counted_first, counted_plus, counted_room}
use Rattle.ancestry.specs.Seen.{seen_from, seen_by}

-- The walk from n has come to `at` after so many moves, with the pending sums of all before it summed up.
pub record Summed (w base : List ℕ) (n k at moves : ℕ) (sum : Sum) : Type 0 where
  pub from : StoreOrLive w at
  pub counted : Counted (moves + 1) sum
  pub walked : moves + moves_up w at k ≡ moves_up w n k
  pub summed : value_of sum +ℤ read_sum w base at k ≡ read_sum w base n k

module _ (w base : List ℕ) (n k : ℕ) where
  pub summed_first : StoreOrLive w n → Summed w base n k n 0 (sum_of 0)
  summed_first from =
      let none = value_of_word 0 (omega arith) ∙ amount_zero in
      record {
        from = from;
        counted = counted_first 0 (omega arith);
        walked = omega arith;
        summed = ap (λ z. z +ℤ read_sum w base n k) none ∙ +ℤ_idl (read_sum w base n k);
      }

  module _ {at moves : ℕ} {sum : Sum} (now : Summed w base n k at moves sum) where
    pub moves_few : moves ≤ most_actions
    moves_few = omega (arith, now.walked, moves_up_at_most w k n)

    pub room_left : HasRoom sum
    room_left = counted_room sum now.counted (omega (arith, moves_few))

    -- an action's pending sum is added, and the walk goes on at its parent
    module _ (good : Sound w) (charge : IsCharge k) (here : IsGiven w at) (fits : pending_word w at k < word_values) where
      up : Climbs w at
      up = sound_climbs good at now.from

      -- one move nearer to the store
      pub nearer : moves_to_store w (parent_of w at) < moves_to_store w at
      nearer = omega (arith, moves_to_store_step w at (λ z. omega arith) up)

      one_more_move : moves_up w at k ≡ suc (moves_up w (parent_of w at) k)
      one_more_move = moves_up_step w k at (λ z. omega arith) up ∙ rw (has_card_charge w at k charge.0)

      sum_at_parent :
          value_of (plus_word sum (pending_word w at k)) +ℤ read_sum w base (parent_of w at) k
          ≡ value_of sum +ℤ read_sum w base at k
      sum_at_parent =
          let above = read_sum w base (parent_of w at) k in
          let own = pending_sum w at k in
          ap (λ z. z +ℤ above) (value_plus sum (pending_word w at k) fits)
          ∙ +ℤ_assoc (value_of sum) own above
          ∙ ap (λ z. value_of sum +ℤ z) (+ℤ_comm own above ∙ sym (read_sum_step w base at k (λ z. omega arith) up))

      pub summed_next : Summed w base n k (parent_of w at) (moves + 1) (plus_word sum (pending_word w at k))
      summed_next =
          let more = counted_plus sum (pending_word w at k) now.counted fits in
          record {
            from = parent_store_or_live good at here (now.from.1 here.0);
            counted = omega (arith, more);
            walked = omega (arith, now.walked, one_more_move);
            summed = sum_at_parent ∙ now.summed;
          }

    -- at the store the base amount is added last
    pub summed_last :
        at ≡ 0 → (word : ℕ) → word ≡ word_at base (base_place k) → word < word_values →
        seen_from moves (value_of (plus_word sum word)) ≡ seen_by w base n k
    summed_last store word there fits = ap₂ seen_from all_moves all_sums
      where
        all_moves : moves ≡ moves_up w n k
        all_moves = omega (arith, now.walked, ap (λ m. moves_up w m k) store, moves_up_store w k)

        sum_there : read_sum w base at k ≡ amount_of word
        sum_there = ap (λ m. read_sum w base m k) store ∙ read_sum_store w base k ∙ base_amount_at base k ∙ ap amount_of (sym there)

        all_sums : value_of (plus_word sum word) ≡ read_sum w base n k
        all_sums = value_plus sum word fits ∙ ap (λ z. value_of sum +ℤ z) (sym sum_there) ∙ now.summed
