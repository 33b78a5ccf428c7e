-- An event that has no cause to be refused, as facts about the table, the stores and the event. Assumes nothing.
use Prim.Native.Nat.{ℕ, suc, ◌+◌, ◌≤◌, ◌<◌}
use native.Mathlib.Omega.{arith}
use mathlib.Core.Path.{◌≡◌, refl}
use mathlib.Core.Logic.Iff
use mathlib.Core.Logic.{◌↔◌, ◌≢◌}
use mathlib.Core.Bool.{Bool, true, false, not, cond, ◌||◌, false≢true}
use mathlib.Core.List.{List, [], ◌++◌}
use lib.ListN.{length}
use borrow.Author.Tests.{eqb-false, ne_eqb}
use Rattle.rules.specs.Card.{account_count, is_charge, card_length, base_length, shadow_length}
use Rattle.rules.specs.Amount.{is_addable, amount_in}
use Rattle.rules.specs.Table.{highest, kind_of, is_live, has_live_child, counter, last_time, is_forward}
use Rattle.rules.specs.Queue.{queue_length, is_queued, is_queued_ready, is_waiting}
use Rattle.rules.specs.Sound.{sound}
use Rattle.rules.specs.Free.{next_number}
use Rattle.rules.specs.Event.{Event, start_code, judge_code, is_start, is_read, is_write, is_commit, is_abort, is_add, is_enter, is_judge}
use Rattle.rules.specs.Cause.{is_store_length_wrong, is_code_unknown, is_number_unknown, is_not_live, is_table_full, is_account_unknown, is_card_length_wrong, is_kind_wrong, is_amount_too_large, is_child_live, is_queued_already, is_judge_vain, is_overtaking, is_time_spent, is_sum_outside, Cause, first_cause, store_causes, early_causes, late_causes, causes_of, cause_of, is_rule_misfit}
use Rattle.rules.proofs.Laws.Tests.{not_holds, not_fails, and_holds, and_fails, and_fails_left, or_fails, eqb_holds, nonzero, leb_holds, leb_fails, ltb_fails}

-- ---- what each cause denies

pub stores_fit : (base shadow : List ℕ) → (is_store_length_wrong base shadow ≡ false) ↔ ((length base ≡ base_length) × (length shadow ≡ shadow_length))
stores_fit base shadow = simp (not_fails, and_holds, eqb_holds) Iff.rfl

code_is_known : (code : ℕ) → (is_code_unknown code ≡ false) ↔ ((start_code ≤ code) × (code ≤ judge_code))
code_is_known code = simp (not_fails, and_holds, leb_holds) Iff.rfl

rule_does_fit : (w : List ℕ) (used : Bool) → (is_rule_misfit w used ≡ false) ↔ (used ≡ true → is_forward w ≡ false)
rule_does_fit w used = and_fails used (is_forward w)

number_is_known : (w : List ℕ) (start : Bool) (n : ℕ) → (is_number_unknown w start n ≡ false) ↔ ((n ≤ highest w) × (start ≡ false → 1 ≤ n))
number_is_known w start n = simp (or_fails, and_fails_left, not_holds, ltb_fails, nonzero) Iff.rfl

number_alive : (w : List ℕ) (n : ℕ) → (is_not_live w n ≡ false) ↔ (1 ≤ n → is_live w n ≡ true)
number_alive w n = simp (and_fails, not_holds, not_fails, nonzero) Iff.rfl

number_left : (w : List ℕ) (start : Bool) → (is_table_full w start ≡ false) ↔ (start ≡ true → next_number w ≢ 0)
number_left w true = (λ some _. eqb-false _ _ some, λ some. ne_eqb _ _ (some refl))
number_left w false = (λ _ never. absurd (false≢true never), λ _. refl)

account_is_known : (used : Bool) (k : ℕ) → (is_account_unknown used k ≡ false) ↔ (used ≡ true → k < account_count)
account_is_known used k = simp (and_fails, leb_fails) Iff.rfl

card_does_fit : (used : Bool) (card : List ℕ) → (is_card_length_wrong used card ≡ false) ↔ (used ≡ true → length card ≡ card_length)
card_does_fit used card = simp (and_fails, not_fails, eqb_holds) Iff.rfl

kind_right :
    (e : Event) →
    (is_kind_wrong e ≡ false) ↔ ((is_add e ≡ true → is_charge e.account ≡ true) × (is_write e ≡ true → is_charge e.account ≡ false))
kind_right e = simp (or_fails, and_fails, not_fails) Iff.rfl

amount_small : (used : Bool) (card : List ℕ) → (is_amount_too_large used card ≡ false) ↔ (used ≡ true → is_addable (amount_in card) ≡ true)
amount_small used card = simp (and_fails, not_fails) Iff.rfl

child_finished : (w : List ℕ) (used : Bool) (n : ℕ) → (is_child_live w used n ≡ false) ↔ (used ≡ true → has_live_child w n ≡ false)
child_finished w used n = and_fails used (has_live_child w n)

not_waiting : (w : List ℕ) (used : Bool) (n : ℕ) → (is_queued_already w used n ≡ false) ↔ (used ≡ true → is_waiting w n ≡ false)
not_waiting w used n = and_fails used (is_waiting w n)

judge_is_due :
    (w : List ℕ) (used : Bool) (n : ℕ) →
    (is_judge_vain w used n ≡ false) ↔ (used ≡ true → (is_queued w (kind_of w n) n ≡ true) × (is_queued_ready w (kind_of w n) n ≡ false))
judge_is_due w used n = simp (and_fails, or_fails, not_fails) Iff.rfl

queue_is_empty : (w : List ℕ) (used : Bool) (n : ℕ) → (is_overtaking w used n ≡ false) ↔ (used ≡ true → queue_length w (kind_of w n) ≡ 0)
queue_is_empty w used n = simp (and_fails, not_fails, eqb_holds) Iff.rfl

time_is_left :
    (w : List ℕ) (used : Bool) (n : ℕ) →
    (is_time_spent w used n ≡ false) ↔ (used ≡ true → counter w (kind_of w n) + queue_length w (kind_of w n) < last_time)
time_is_left w used n = simp (and_fails, leb_fails) Iff.rfl

-- ---- all of them together

-- what holds of an event that has none of the early causes
pub record EarlyAllowed (w : List ℕ) (e : Event) : Type 0 where
  pub code_known : (start_code ≤ e.code) × (e.code ≤ judge_code)
  pub rule_fits : (is_enter e || is_judge e) ≡ true → is_forward w ≡ false
  pub number_known : e.number ≤ highest w
  pub named : is_start e ≡ false → 1 ≤ e.number
  pub alive : 1 ≤ e.number → is_live w e.number ≡ true
  pub room : is_start e ≡ true → next_number w ≢ 0
  pub account_known : (is_read e || is_write e || is_add e) ≡ true → e.account < account_count
  pub card_fits : (is_write e || is_add e) ≡ true → length e.card ≡ card_length
  pub charge_added : is_add e ≡ true → is_charge e.account ≡ true
  pub no_card_on_charge : is_write e ≡ true → is_charge e.account ≡ false
  pub addable : is_add e ≡ true → is_addable (amount_in e.card) ≡ true
  pub childless : (is_read e || is_write e || is_commit e || is_add e || is_enter e) ≡ true → has_live_child w e.number ≡ false
  pub unqueued : not (is_judge e || is_abort e) ≡ true → is_waiting w e.number ≡ false
  pub judge_due :
      is_judge e ≡ true →
      (is_queued w (kind_of w e.number) e.number ≡ true) × (is_queued_ready w (kind_of w e.number) e.number ≡ false)
  pub queue_empty : is_commit e ≡ true → queue_length w (kind_of w e.number) ≡ 0
  pub time_left :
      (is_commit e || is_enter e) ≡ true → counter w (kind_of w e.number) + queue_length w (kind_of w e.number) < last_time

-- what holds of an event that isn't refused
pub record Allowed (w base shadow : List ℕ) (e : Event) : Type 0 where
  pub base_fits : length base ≡ base_length
  pub shadow_fits : length shadow ≡ shadow_length
  pub sound_test : sound w ≡ true
  pub early : EarlyAllowed w e
  pub sums_fit : is_sum_outside w base e ≡ false

-- a cause that isn't given doesn't apply, and none of those behind it is given
pub not_given : (b : Bool) (c rest : ℕ) → cond b (suc c) rest ≡ 0 → (b ≡ false) × (rest ≡ 0)
not_given true c rest z = absurd (omega arith)
not_given false c rest z = (refl, z)

module _ (w : List ℕ) (e : Event) where
  -- none of the early causes is given, and none of any others behind them
  early_parts : (rest : List Cause) → first_cause (early_causes w e ++ rest) ≡ 0 → EarlyAllowed w e × (first_cause rest ≡ 0)
  unfolding early_causes
  early_parts rest none₁ =
      let (code_unknown, none₂) = not_given _ _ _ none₁ in
      let (misfit, none₃) = not_given _ _ _ none₂ in
      let (number_unknown, none₄) = not_given _ _ _ none₃ in
      let (not_live, none₅) = not_given _ _ _ none₄ in
      let (full, none₆) = not_given _ _ _ none₅ in
      let (account_unknown, none₇) = not_given _ _ _ none₆ in
      let (card, none₈) = not_given _ _ _ none₇ in
      let (kind, none₉) = not_given _ _ _ none₈ in
      let (amount, none₁₀) = not_given _ _ _ none₉ in
      let (child_live, none₁₁) = not_given _ _ _ none₁₀ in
      let (waiting, none₁₂) = not_given _ _ _ none₁₁ in
      let (vain, none₁₃) = not_given _ _ _ none₁₂ in
      let (overtaking, none₁₄) = not_given _ _ _ none₁₃ in
      let (spent, none) = not_given _ _ _ none₁₄ in (
        record {
          code_known = (code_is_known e.code).0 code_unknown;
          rule_fits = (rule_does_fit w (is_enter e || is_judge e)).0 misfit;
          number_known = ((number_is_known w (is_start e) e.number).0 number_unknown).0;
          named = ((number_is_known w (is_start e) e.number).0 number_unknown).1;
          alive = (number_alive w e.number).0 not_live;
          room = (number_left w (is_start e)).0 full;
          account_known = (account_is_known (is_read e || is_write e || is_add e) e.account).0 account_unknown;
          card_fits = (card_does_fit (is_write e || is_add e) e.card).0 card;
          charge_added = ((kind_right e).0 kind).0;
          no_card_on_charge = ((kind_right e).0 kind).1;
          addable = (amount_small (is_add e) e.card).0 amount;
          childless = (child_finished w (is_read e || is_write e || is_commit e || is_add e || is_enter e) e.number).0 child_live;
          unqueued = (not_waiting w (not (is_judge e || is_abort e)) e.number).0 waiting;
          judge_due = (judge_is_due w (is_judge e) e.number).0 vain;
          queue_empty = (queue_is_empty w (is_commit e) e.number).0 overtaking;
          time_left = (time_is_left w (is_commit e || is_enter e) e.number).0 spent;
        },
        none,
      )

  pub early_allowed : first_cause (early_causes w e) ≡ 0 → EarlyAllowed w e
  unfolding early_causes
  early_allowed none = (early_parts [] none).0

  early_none : EarlyAllowed w e → (rest : List Cause) → first_cause (early_causes w e ++ rest) ≡ first_cause rest
  unfolding early_causes
  early_none a rest =
      rw (
        (code_is_known e.code).1 a.code_known,
        (rule_does_fit w (is_enter e || is_judge e)).1 a.rule_fits,
        (number_is_known w (is_start e) e.number).1 (a.number_known, a.named),
        (number_alive w e.number).1 a.alive,
        (number_left w (is_start e)).1 a.room,
        (account_is_known (is_read e || is_write e || is_add e) e.account).1 a.account_known,
        (card_does_fit (is_write e || is_add e) e.card).1 a.card_fits,
        (kind_right e).1 (a.charge_added, a.no_card_on_charge),
        (amount_small (is_add e) e.card).1 a.addable,
        (child_finished w (is_read e || is_write e || is_commit e || is_add e || is_enter e) e.number).1 a.childless,
        (not_waiting w (not (is_judge e || is_abort e)) e.number).1 a.unqueued,
        (judge_is_due w (is_judge e) e.number).1 a.judge_due,
        (queue_is_empty w (is_commit e) e.number).1 a.queue_empty,
        (time_is_left w (is_commit e || is_enter e) e.number).1 a.time_left,
      )

module _ (w base shadow : List ℕ) (e : Event) where
  pub allowed : cause_of w base shadow e ≡ 0 → Allowed w base shadow e
  unfolding cause_of causes_of store_causes late_causes
  allowed none₁ =
      let (wrong, none₂) = not_given _ _ _ none₁ in
      let (unsound, none₃) = not_given _ _ _ none₂ in
      let (early, none₄) = early_parts w e (late_causes w base e) none₃ in
      let (outside, none) = not_given _ _ _ none₄ in
      record {
        base_fits = ((stores_fit base shadow).0 wrong).0;
        shadow_fits = ((stores_fit base shadow).0 wrong).1;
        sound_test = (not_fails (sound w)).0 unsound;
        early = early;
        sums_fit = outside;
      }

  pub allowed_none : Allowed w base shadow e → cause_of w base shadow e ≡ 0
  unfolding cause_of causes_of store_causes late_causes
  allowed_none a =
      rw (
        (stores_fit base shadow).1 (a.base_fits, a.shadow_fits),
        a.sound_test,
        early_none w e a.early (late_causes w base e),
        a.sums_fit,
      )
