-- An event that isn't refused, kind by kind: what holds of the action that it names. Assumes nothing.
use Prim.Native.Nat.{ℕ, ◌+◌, ◌≤◌, ◌<◌}
use native.Mathlib.Omega.{arith}
use mathlib.Core.Path.{◌≡◌, refl}
use mathlib.Core.Logic.{◌≢◌}
use mathlib.Core.Bool.{true, false, ◌||◌}
use mathlib.Core.List.{List, []}
use lib.Dec.{eqb}
use lib.IntN.{◌+ℤ◌}
use borrow.Author.Tests.{eqb-true, eq-eqb}
use Rattle.rules.specs.declared.Answer.TheVariants.{Refused}
use Rattle.rules.specs.declared.Found.{Found}
use Rattle.std.specs.Prelude.{Option, None}
use Rattle.rules.specs.Card.{account_count, first_charge, charge_count, is_charge, charge_accounts, IsCharge, IsCard}
use Rattle.rules.specs.Amount.{is_amount, amount_in}
use Rattle.rules.specs.Table.{highest, parent_of, kind_of, has_written, pending_sum, own_adds, kept_after, counter, last_time, is_live, is_live_child_of, has_live_child, actions, is_forward}
use Rattle.rules.specs.Sound.{IsGiven}
use Rattle.rules.specs.Free.{next_number}
use Rattle.rules.specs.Queue.{queue_length, is_queued, is_queued_ready, is_waiting}
use Rattle.rules.specs.Event.{Event, start_code, read_code, write_code, commit_code, abort_code, add_code, enter_code, judge_code, is_start, is_read, is_write, is_commit, is_add, is_enter, is_judge}
use Rattle.rules.specs.Ledger.{Ledger}
use Rattle.rules.specs.Nearest.{read_sum}
use Rattle.rules.specs.Verdict.{commit_verdict}
use Rattle.rules.specs.Cause.{commit_sum, is_copy_outside, is_kept_outside, is_commit_outside, is_read_outside, in_read, in_add, in_commit, sums_of, are_outside}
use Rattle.rules.specs.Step.{start, read, write, judged, commit, add, enter, judge_left, judge, abort_left, abort, step, leavers_at}
use Rattle.rules.proofs.Laws.Tests.{and_both, not_both, or_inl, or_inr, not_fails, and_fails, or_fails, leb_holds, leb_fails}
use Rattle.rules.proofs.Laws.Ranges.{not_any_at}
use Rattle.rules.proofs.Laws.Sets.{charge_within}
use Rattle.rules.proofs.Laws.EventCases.{cause_in, AllowedIn, OfStep, step_by_cause, act_by_kind, no_start, no_judge_or_abort}
use Rattle.rules.specs.Refusal.{refusal_numbered}

-- an action may start under p: p is the store or live and isn't queued, and there is a number left
pub record Startable (w : List ℕ) (p : ℕ) : Type 0 where
  pub known : p ≤ highest w
  pub alive : 1 ≤ p → is_live w p ≡ true
  pub room : next_number w ≢ 0
  pub unqueued : is_waiting w p ≡ false

-- n may read account k, and write it or add to it: it is live, has no live child and isn't queued
pub record Touchable (w : List ℕ) (n k : ℕ) : Type 0 where
  pub own : IsGiven w n
  pub alive : is_live w n ≡ true
  pub childless : has_live_child w n ≡ false
  pub unqueued : is_waiting w n ≡ false
  pub account : k < account_count

-- n may commit, fail or enter its queue: it is live, has no live child and isn't queued, and there is an end time left for it
pub record Committable (w : List ℕ) (n : ℕ) : Type 0 where
  pub own : IsGiven w n
  pub alive : is_live w n ≡ true
  pub childless : has_live_child w n ≡ false
  pub unqueued : is_waiting w n ≡ false
  pub time_left : counter w (kind_of w n) + queue_length w (kind_of w n) < last_time

-- n's verdict may be revealed: it waits in its queue and isn't ready
pub record Judgeable (w : List ℕ) (n : ℕ) : Type 0 where
  pub own : IsGiven w n
  pub queued : is_queued w (kind_of w n) n ≡ true
  pub unready : is_queued_ready w (kind_of w n) n ≡ false

-- the sums that n's add of this card's amount to charge account k leaves are amounts
pub record AddFits (w : List ℕ) (n k : ℕ) (card : List ℕ) : Type 0 where
  pub pending_fits : is_amount (pending_sum w n k +ℤ amount_in card) ≡ true
  pub own_adds_fit : is_amount (own_adds w n k +ℤ amount_in card) ≡ true

-- ---- what an event that isn't refused permits

sums_of_read : (e : Event) → is_read e ≡ true → sums_of e ≡ in_read
sums_of_read e is = rw is

sums_of_add : (e : Event) → is_add e ≡ true → sums_of e ≡ in_add
sums_of_add e is = rw (eqb-true e.code add_code is)

sums_of_commit : (e : Event) → is_commit e ≡ true → sums_of e ≡ in_commit
sums_of_commit e is = rw (eqb-true e.code commit_code is)

module _ {s : Ledger} {e : Event} (a : AllowedIn s e) where
  start_permitted : is_start e ≡ true → Startable s.table e.number
  start_permitted is =
      record {
        known = a.early.number_known;
        alive = a.early.alive;
        room = a.early.room is;
        unqueued = a.early.unqueued (no_judge_or_abort e start_code is refl);
      }

  pub named_given : is_start e ≡ false → IsGiven s.table e.number
  named_given other = (a.early.named other, a.early.number_known)

  pub named_alive : is_start e ≡ false → is_live s.table e.number ≡ true
  named_alive other = a.early.alive (a.early.named other)

  -- an event with this code, which asks that no child is live and that the action doesn't wait
  module _
      (code : ℕ) (is : eqb e.code code ≡ true) (other : eqb code start_code ≡ false)
      (waits : (eqb code judge_code || eqb code abort_code) ≡ false)
      (asks : (is_read e || is_write e || is_commit e || is_add e || is_enter e) ≡ true) where
    -- a commit or an enter
    end_permitted : (is_commit e || is_enter e) ≡ true → Committable s.table e.number
    end_permitted ends =
        let no = no_start e code is other in
        record {
          own = named_given no;
          alive = named_alive no;
          childless = a.early.childless asks;
          unqueued = a.early.unqueued (no_judge_or_abort e code is waits);
          time_left = a.early.time_left ends;
        }

    -- a read, a write or an add
    touch_permitted : (is_read e || is_write e || is_add e) ≡ true → Touchable s.table e.number e.account
    touch_permitted used =
        let no = no_start e code is other in
        record {
          own = named_given no;
          alive = named_alive no;
          childless = a.early.childless asks;
          unqueued = a.early.unqueued (no_judge_or_abort e code is waits);
          account = a.early.account_known used;
        }

  pub judge_permitted : is_judge e ≡ true → Judgeable s.table e.number
  judge_permitted is =
      let (queued, unready) = a.early.judge_due is in
      record { own = named_given (no_start e judge_code is refl); queued = queued; unready = unready }

  -- the sums that it makes, by its kind
  pub read_fits : is_read e ≡ true → is_read_outside s.table s.base e.number e.account ≡ false
  unfolding are_outside
  read_fits is = rw (sums_of_read e is) at a.sums_fit

  add_fits : is_add e ≡ true → AddFits s.table e.number e.account e.card
  unfolding are_outside
  add_fits is =
      let (pending, own) = (or_fails _ _).0 (rw (sums_of_add e is) at a.sums_fit) in
      record { pending_fits = (not_fails _).0 pending; own_adds_fit = (not_fails _).0 own }

  commit_fits : is_commit e ≡ true → is_commit_outside s.table s.base e.number (commit_verdict s.table e.number) ≡ false
  unfolding are_outside
  commit_fits is = rw (sums_of_commit e is) at a.sums_fit

  write_below : is_write e ≡ true → e.account < first_charge
  write_below is = (leb_fails first_charge e.account).0 (a.early.no_card_on_charge is)

  add_charge : is_add e ≡ true → IsCharge e.account
  add_charge is = ((leb_holds first_charge e.account).0 (a.early.charge_added is), a.early.account_known (or_inr (is_read e || is_write e) is))

-- What holds of a refused event, and of an event of each kind where it is permitted, holds of the event.
module _ (s : Ledger) (e : Event) (P : OfStep) where
  pub step_by_kind :
      P (record { answer = Refused (refusal_numbered (cause_in s e)); after = s }) [] →
      (Startable s.table e.number → P (start s e.number) []) →
      (Touchable s.table e.number e.account → is_read_outside s.table s.base e.number e.account ≡ false →
      P (read s e.number e.account) []) →
      (Touchable s.table e.number e.account → IsCard e.card → e.account < first_charge →
      P (write s e.number e.account e.card) []) →
      (Committable s.table e.number → queue_length s.table (kind_of s.table e.number) ≡ 0 →
      (f : Option Found) → commit_verdict s.table e.number ≡ f →
      is_commit_outside s.table s.base e.number f ≡ false → P (judged s e.number f) []) →
      (Touchable s.table e.number e.account → IsCard e.card → IsCharge e.account →
      AddFits s.table e.number e.account e.card → P (add s e.number e.account e.card) []) →
      (Committable s.table e.number → is_forward s.table ≡ false → P (enter s e.number) []) →
      (Judgeable s.table e.number → P (judge s e.number) (judge_left s e.number).commits) →
      P (abort s e.number) (abort_left s e.number).commits →
      P (step s e) (leavers_at s e)
  unfolding commit
  step_by_kind refused starts reads writes judges adds enters reveals aborts =
      step_by_cause s e P refused
      (λ a. act_by_kind s e P a
      (λ is. starts (start_permitted a is))
      (λ is.
      reads
      (touch_permitted a read_code is refl refl
      (or_inl (is_enter e) (or_inl (is_add e) (or_inl (is_commit e) (or_inl (is_write e) is)))) (or_inl (is_add e) (or_inl (is_write e) is)))
      (read_fits a is))
      (λ is.
      writes
      (touch_permitted a write_code is refl refl
      (or_inl (is_enter e) (or_inl (is_add e) (or_inl (is_commit e) (or_inr (is_read e) is)))) (or_inl (is_add e) (or_inr (is_read e) is)))
      (a.early.card_fits (or_inl (is_add e) is)) (write_below a is))
      (λ is.
      judges
      (end_permitted a commit_code is refl refl
      (or_inl (is_enter e) (or_inl (is_add e) (or_inr (is_read e || is_write e) is))) (or_inl (is_enter e) is))
      (a.early.queue_empty is) (commit_verdict s.table e.number) refl (commit_fits a is))
      (λ is.
      adds
      (touch_permitted a add_code is refl refl
      (or_inl (is_enter e) (or_inr (is_read e || is_write e || is_commit e) is)) (or_inr (is_read e || is_write e) is))
      (a.early.card_fits (or_inr (is_write e) is)) (add_charge a is) (add_fits a is))
      (λ is.
      enters
      (end_permitted a enter_code is refl refl
      (or_inr (is_read e || is_write e || is_commit e || is_add e) is) (or_inr (is_commit e) is))
      (a.early.rule_fits (or_inl (is_judge e) is)))
      (λ is. reveals (judge_permitted a is))
      (λ _. aborts))

-- ---- RULES 8.1: sums that aren't outside 64 signed bits

module _ (w base : List ℕ) (n : ℕ) where
  pub read_sum_fits : (k : ℕ) → is_read_outside w base n k ≡ false → is_charge k ≡ true → is_amount (read_sum w base n k) ≡ true
  unfolding is_read_outside
  read_sum_fits k fits charge = (not_fails _).0 ((and_fails (is_charge k) _).0 fits charge)

  -- of a commit that passes: neither sum of a charge account is outside
  sums_inside :
      is_commit_outside w base n None ≡ false →
      (k : ℕ) → IsCharge k → (is_copy_outside w base n k ≡ false) × (is_kept_outside w n k ≡ false)
  unfolding is_commit_outside charge_accounts
  sums_inside fits k charge =
      (or_fails (is_copy_outside w base n k) (is_kept_outside w n k)).0
      (not_any_at (λ j. is_copy_outside w base n j || is_kept_outside w n j) first_charge charge_count k fits (charge_within charge))

  -- what is copied of one in the write set
  pub commit_sum_fits :
      is_commit_outside w base n None ≡ false →
      (k : ℕ) → IsCharge k → has_written w n k ≡ true → is_amount (commit_sum w base n k) ≡ true
  commit_sum_fits fits k charge written =
      (not_fails _).0 ((and_fails (has_written w n k) _).0 (sums_inside fits k charge).0 written)

  -- what is kept, of any
  pub kept_sum_fits :
      is_commit_outside w base n None ≡ false →
      (k : ℕ) → IsCharge k → is_amount (kept_after w n (parent_of w n) k) ≡ true
  kept_sum_fits fits k charge = (not_fails _).0 (sums_inside fits k charge).1

-- ---- an action without a live child

pub no_live_child :
    (w : List ℕ) (n : ℕ) → has_live_child w n ≡ false → (m : ℕ) → IsGiven w m → is_live w m ≡ true → parent_of w m ≡ n → ⊥
unfolding has_live_child actions
no_live_child w n none m h l e =
    not_both (and_both (eq-eqb _ _ e) l) (not_any_at (is_live_child_of w n) 1 (highest w) m none (omega arith))

-- where it is live it is not its own parent
pub not_own_parent : {w : List ℕ} {n : ℕ} → Committable w n → parent_of w n ≢ n
not_own_parent {w} {n} j = no_live_child w n j.childless n j.own j.alive
