-- RULES 3.3: a read and the look directly after it: what the reader has seen is what the answer and the look give.
-- Assumes nothing.
use Prim.Native.Nat.{ℕ, ◌<◌}
use native.Mathlib.Omega.{arith}
use mathlib.Core.Path.{◌≡◌, sym, ap, ◌∙◌}
use mathlib.Core.Bool.{true, false, false≢true}
use mathlib.Core.List.{List, []}
use lib.IntN.{◌+ℤ◌}
use Rattle.rules.specs.Card.{first_charge, is_charge, IsCharge}
use Rattle.rules.specs.Amount.{amount_of}
use Rattle.rules.specs.Table.{most_actions, highest, parent_field, state_field, state_of, pending_field, is_live, is_live_child_of, has_live_child, actions}
use Rattle.rules.specs.Sound.{IsGiven}
use Rattle.rules.specs.Event.{read_by}
use Rattle.rules.specs.Answer.{said}
use Rattle.rules.specs.Nearest.{read_sum}
use Rattle.rules.specs.Cause.{is_read_outside, are_outside}
use Rattle.rules.specs.Queue.{is_queued, is_waiting}
use Rattle.rules.specs.Ledger.{Ledger, with_table}
use Rattle.rules.specs.Step.{read_table, read_answer, read}
use Rattle.rules.proofs.Laws.Amounts.{amount_read_back}
use Rattle.rules.proofs.Laws.Ranges.{any_agree}
use Rattle.rules.proofs.Laws.Walking.{walk_agree}
use Rattle.rules.proofs.Laws.Kinds.{unqueued_in, unqueued_of}
use Rattle.rules.proofs.Laws.Allowed.{allowed_none}
use Rattle.rules.proofs.Laws.Permitted.{Touchable, read_sum_fits}
use Rattle.rules.proofs.Sound.Soundness.{tested}
use Rattle.rules.proofs.Sound.TableChanges.{TableChange}
use Rattle.rules.proofs.Laws.Queue.{queue_kept}
use Rattle.rules.proofs.Sound.Reading.{read_keeps_field, read_line, read_change}
use Rattle.rules.proofs.Stores.Looking.{look_refused_as_read}
use Rattle.rules.proofs.Serial.Values.{charge}
use Rattle.rules.proofs.Serial.Shown.{shown_base, card_shown}
use Rattle.rules.proofs.Serial.Settling.{is_charge_true, below_charges}
use Rattle.rules.proofs.Demand.Abstraction.{view_of}
use Rattle.rules.proofs.Demand.Proper.{Proper}
use Rattle.rules.proofs.Demand.AbstractionLaws.{by_charge}
use Rattle.rules.proofs.Demand.ViewCases.{view_sum}
use Rattle.rules.proofs.Demand.Views.{change_keeps_proper}
use Rattle.rules.proofs.Demand.Looks.{look_cause_in, looked_in, seen_with, shown_under, view_looked, base_shown}

module _ (s : Ledger) (proper : Proper s) (n k : ℕ) (permitted : Touchable s.table n k) where
  open permitted use {own, alive, childless, unqueued, account}

  abbrev before : List ℕ
  before = s.table

  abbrev after : List ℕ
  after = read_table before n k

  change : TableChange before after n
  change = read_change before n k account proper.sound own alive

  proper_after : Proper (with_table s after)
  proper_after = change_keeps_proper proper change

  own_after : IsGiven after n
  own_after = rw change.same_highest own

  state_kept : (m : ℕ) → state_of after m ≡ state_of before m
  state_kept m = read_keeps_field before n k account m state_field (omega arith) (λ z. omega arith) (λ z. omega arith)

  alive_after : is_live after n ≡ true
  alive_after = rw (state_kept n) alive

  childless_after : has_live_child after n ≡ false
  unfolding has_live_child actions
  childless_after =
      rw change.same_highest
      (any_agree (is_live_child_of after n) (is_live_child_of before n) 1 (highest before)
      (λ m h. rw (change.parents m (omega arith), state_kept m))
      ∙ childless)

  -- the read changes no sum
  sum_kept : read_sum after s.base n k ≡ read_sum before s.base n k
  unfolding read_sum
  sum_kept =
      let up = proper.sound.climb n own alive in
      walk_agree _ _ _ _ _ (λ _. Unit {0}) (λ m _ _. tt)
      (λ m _ _. read_keeps_field before n k account m parent_field (omega arith) (λ z. omega arith) (λ z. omega arith))
      (λ m _ _ above.
      ap (λ x. above +ℤ amount_of x)
      (read_keeps_field before n k account m (pending_field k) (omega arith) (λ z. omega arith) (λ z. omega arith)))
      most_actions most_actions n tt up up

  unqueued_after : is_waiting after n ≡ false
  unfolding is_queued
  unqueued_after =
      unqueued_of after n
      (λ h known.
      rw (queue_kept before after h known (read_line before n k account proper.sound own h known))
      (unqueued_in before n unqueued h known))

  module _ (fits : is_read_outside before s.base n k ≡ false) where
    fits_after : is_read_outside after s.base n k ≡ false
    unfolding is_read_outside
    fits_after = rw sum_kept fits

    -- so it changes nothing for which a read is refused
    look_allowed : look_cause_in (with_table s after) n k ≡ 0
    unfolding are_outside
    look_allowed =
        look_refused_as_read after s.base s.shadow n k []
        ∙ allowed_none after s.base s.shadow (read_by n k)
        (record {
          base_fits = proper.base_fits;
          shadow_fits = proper.shadow_fits;
          sound_test = tested after proper_after.sound;
          early =
              record {
                code_known = omega arith;
                rule_fits = λ waits. absurd (false≢true waits);
                number_known = own_after.1;
                named = λ _. own.0;
                alive = λ _. alive_after;
                room = λ starts. absurd (false≢true starts);
                account_known = λ _. account;
                card_fits = λ writes. absurd (false≢true writes);
                charge_added = λ adds. absurd (false≢true adds);
                no_card_on_charge = λ writes. absurd (false≢true writes);
                addable = λ adds. absurd (false≢true adds);
                childless = λ _. childless_after;
                unqueued = λ _. unqueued_after;
                judge_due = λ judges. absurd (false≢true judges);
                queue_empty = λ commits. absurd (false≢true commits);
                time_left = λ ends. absurd (false≢true ends);
              };
          sums_fit = fits_after;
        })

    -- ---- the reader's view

    -- it is what answer and look give
    abbrev AsGiven : Type 0
    AsGiven = view_of (with_table s after) n k ≡ seen_with (said (read_answer before s.base n k)).sum (with_table s after) n k

    card_seen : k < first_charge → AsGiven
    unfolding read_answer seen_with
    card_seen below =
        let up = proper_after.sound.climb n own_after alive_after in
        rw (below_charges below) (view_looked (with_table s after) n k look_allowed up below)

    sum_seen : IsCharge k → AsGiven
    unfolding read_answer seen_with
    sum_seen is =
        let answered = amount_read_back _ (read_sum_fits before s.base n k fits (is_charge_true is)) in
        rw (is_charge_true is)
        (view_sum (with_table s after) proper_after k is n (own_after.1, λ _. alive_after)
        ∙ ap (charge (card_shown (view_of (with_table s after) n k))) (sum_kept ∙ sym answered))

    pub read_seen : view_of (read s n k).after n k ≡ seen_with (said (read s n k).answer).sum (read s n k).after n k
    unfolding read
    read_seen = by_charge account card_seen sum_seen

    pub read_ground : is_charge k ≡ true → shown_base (read s n k).after.base k ≡ shown_under (looked_in (read s n k).after n k)
    unfolding read
    read_ground = base_shown (with_table s after) n k look_allowed
