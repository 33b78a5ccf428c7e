-- Demand 3 and conservation: what the collector and the engine keep through every list of events gives the statements of
-- specs/Serial/Demand.antt and specs/Serial/Conserved.antt. Assumes nothing.
use Prim.Native.Nat.{ℕ, suc, ◌+◌}
use native.Mathlib.Nat.{zero-add, add-zero, add-suc, suc-add}
use mathlib.Core.Path.{◌≡◌, refl, sym, ap, ◌∙◌}
use mathlib.Core.Bool.{Bool, true, false, cond}
use mathlib.Core.List.{List, [], ◌∷◌}
use lib.Dec.{eqb}
use lib.ListN.{length, take, get_or}
use Rattle.rules.specs.Card.{base_length, shadow_length, base_place, card_at}
use Rattle.rules.specs.Table.{new_table_under, rule_of, backward_rule, forward_rule}
use Rattle.rules.specs.Event.{Event, start_under}
use Rattle.rules.specs.Ledger.{Ledger}
use Rattle.rules.specs.Step.{step}
use Rattle.rules.specs.Run.{run}
use Rattle.rules.specs.Serial.Collect.{collect_from, unknown, store_block}
use Rattle.rules.specs.Serial.Machine.{serial}
use Rattle.rules.specs.Serial.Demand.{card_given, new_over, told_of, sum_given, Demand3}
use Rattle.rules.specs.Serial.Conserved.{Conserved}
use Rattle.rules.proofs.Laws.Bytes.{store_by_cards}
use Rattle.rules.proofs.Laws.NewTables.{new_rule, new_queues_empty}
use Rattle.rules.proofs.Serial.Values.{AccountValue, account_values}
use Rattle.rules.proofs.Serial.Blocks.{after}
use Rattle.rules.proofs.Serial.GroundedRule.{grounded_opening}
use Rattle.rules.proofs.Serial.Shown.{shown_base, account_charges, card_shown, sum_shown, card_read, card_shown_is}
use Rattle.rules.proofs.Serial.Running.{Whole, OnlyChildren, SerialRun, block_runs}
use Rattle.rules.proofs.Serial.Exact.{exact_acts}
use Rattle.rules.proofs.Serial.Order.{is_in_order}
use Rattle.rules.proofs.Serial.Conserving.{store_conserves}
use Rattle.rules.proofs.Demand.Proper.{new_proper}
use Rattle.rules.proofs.Demand.AbstractionLaws.{new_nobody_alive}
use Rattle.rules.proofs.Demand.Looks.{seen_with, shown_under, card_looked, sum_answered}
use Rattle.rules.proofs.Demand.JudgingRule.{JudgingRule}
use Rattle.rules.proofs.Demand.Backward.{backward, backward_number}
use Rattle.rules.proofs.Demand.Forward.{forward, forward_number}
use Rattle.rules.proofs.Demand.Collected.{Kept}
use Rattle.rules.proofs.Demand.RunKeeps.{GivesAlong, run_keeps}

-- ---- what each place of S was given

-- what the reader saw, by the answer and the look directly after
seen_at : Ledger → List Event → ℕ → AccountValue
seen_at s es i =
    let e = get_or es i (start_under 0) in
    seen_with (sum_given (run s es).answers i) (run s (take (suc i) es)).after e.number e.account

-- what the base showed of a charge account
ground_at : Ledger → List Event → ℕ → AccountValue
ground_at s es i = shown_under (card_given s es i)

module _ (s : Ledger) (es : List Event) (i : ℕ) where
  card_given_is : card_read (seen_at s es i) (ground_at s es i) ≡ card_given s es i
  unfolding seen_at ground_at card_given
  card_given_is =
      let e = get_or es i (start_under 0) in
      card_looked (run s (take (suc i) es)).after e.number e.account (sum_given (run s es).answers i)

  sum_given_is : sum_shown (seen_at s es i) ≡ sum_given (run s es).answers i
  unfolding seen_at
  sum_given_is =
      let e = get_or es i (start_under 0) in
      sum_answered (run s (take (suc i) es)).after e.number e.account (sum_given (run s es).answers i)

given_along :
    (got ground : ℕ → AccountValue) (i : ℕ) (s : Ledger) (es : List Event) → ((j : ℕ) → got (i + j) ≡ seen_at s es j) →
    ((j : ℕ) → ground (i + j) ≡ ground_at s es j) → GivesAlong got ground i s es
unfolding GivesAlong seen_at ground_at card_given run
given_along got ground i s [] seen below = tt
given_along got ground i s (e ∷ es) seen below = (
  sym (seen 0) ∙ ap got (add-zero i),
  sym (below 0) ∙ ap ground (add-zero i),
  given_along got ground (suc i) (step s e).after es
      (λ j. ap got (suc-add i j ∙ sym (add-suc i j)) ∙ seen (suc j))
      (λ j. ap ground (suc-add i j ∙ sym (add-suc i j)) ∙ below (suc j)),
)

-- ---- under any judging rule

module _
    (J : JudgingRule) (r : ℕ) (ruled : rule_of (new_table_under r) ≡ J.number) (base shadow : List ℕ)
    (base_fits : length base ≡ base_length) (shadow_fits : length shadow ≡ shadow_length) where
  kept_at_first : (got ground : ℕ → AccountValue) → Kept J got ground (shown_base base) (new_over r base shadow) unknown
  unfolding unknown Whole OnlyChildren
  kept_at_first got ground =
      record {
        proper = new_proper r base shadow base_fits shadow_fits;
        holds =
            grounded_opening J.rule account_charges got ground (shown_base base) (new_nobody_alive r) (λ k. refl) refl;
        parents = λ X l. absurd (new_nobody_alive r X l);
        whole = λ n. tt;
        top = tt;
        waiting = J.waits.none_waits (new_over r base shadow) (new_queues_empty r);
      }

  module _ (es : List Event) where
    abbrev got : ℕ → AccountValue
    got = seen_at (new_over r base shadow) es

    abbrev ground : ℕ → AccountValue
    ground = ground_at (new_over r base shadow) es

    abbrev final : Ledger
    final = (run (new_over r base shadow) es).after

    kept_at_last : Kept J got ground (shown_base base) final (collect_from 0 es (told_of r base shadow es) unknown)
    kept_at_last =
        run_keeps J got ground (shown_base base) 0 es (kept_at_first got ground) ruled
        (given_along got ground 0 (new_over r base shadow) es (λ j. ap got (zero-add j)) (λ j. ap ground (zero-add j)))

    block_ran : SerialRun got ground (store_block es (told_of r base shadow es)) base (serial es (told_of r base shadow es) base)
    unfolding serial store_block
    block_ran =
        block_runs got ground _ (kept_at_last.whole 0) kept_at_last.top base base_fits
        kept_at_last.holds.grounded.store kept_at_last.holds.holds.store.fine

    -- what the store's block leaves is what the base store shows after S
    block_leaves :
        (k : ℕ) → after account_values (store_block es (told_of r base shadow es)) (shown_base base) k ≡ shown_base final.base k
    unfolding store_block
    block_leaves = kept_at_last.holds.holds.store.leaves

    same_cards :
        (k : ℕ) → card_at (serial es (told_of r base shadow es) base).base (base_place k) ≡ card_at final.base (base_place k)
    same_cards k =
        sym (card_shown_is k _) ∙ ap card_shown (block_ran.leaves k ∙ block_leaves k) ∙ card_shown_is k _

    demand3_under : Demand3 r base shadow es
    demand3_under =
        record {
          reads = λ g m. (block_ran.reads g m).card ∙ card_given_is (new_over r base shadow) es g.place;
          amounts = λ g m. (block_ran.reads g m).amount ∙ sum_given_is (new_over r base shadow) es g.place;
          store = store_by_cards _ _ block_ran.long kept_at_last.proper.base_fits (λ k _. same_cards k);
          exact = exact_acts es (told_of r base shadow es);
          order = is_in_order es (told_of r base shadow es);
        }

    conserved_under : Conserved r base shadow es
    unfolding store_block
    conserved_under =
        record {
          conserves = λ k charge.
              store_conserves es (told_of r base shadow es) (kept_at_last.whole 0) charge base final.base (block_leaves k);
        }

-- ---- under the engine's

-- the judging rule of a table that was opened under r, by whether that is rule 2
chosen : Bool → JudgingRule
chosen true = forward
chosen false = backward

chosen_number : (b : Bool) → (chosen b).number ≡ cond b forward_rule backward_rule
unfolding chosen
chosen_number true = forward_number
chosen_number false = backward_number

judging : ℕ → JudgingRule
judging r = chosen (eqb r forward_rule)

opened_under : (r : ℕ) → rule_of (new_table_under r) ≡ (judging r).number
unfolding judging
opened_under r = new_rule r ∙ sym (chosen_number (eqb r forward_rule))

-- for both rules; where r is neither, the table is under rule 1
pub demand3 :
    (r : ℕ) (base shadow : List ℕ) → length base ≡ base_length → length shadow ≡ shadow_length → (es : List Event) →
    Demand3 r base shadow es
demand3 r = demand3_under (judging r) r (opened_under r)

pub conserved :
    (r : ℕ) (base shadow : List ℕ) → length base ≡ base_length → length shadow ≡ shadow_length → (es : List Event) →
    Conserved r base shadow es
conserved r = conserved_under (judging r) r (opened_under r)
