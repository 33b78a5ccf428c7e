-- What an event leaves as it was: a refused one everything, any other each byte of the two stores that RULES 2.7 keeps, and
-- the lengths of both. Assumes nothing.
use Prim.Native.Nat.{ℕ}
use native.Mathlib.Omega.{arith}
use mathlib.Core.Path.{◌≡◌, refl, ◌∙◌}
use mathlib.Core.Logic.{◌≢◌}
use mathlib.Core.Bool.{Bool, true, false, cond, ◌||◌, true≢false}
use mathlib.Core.List.{List, [], ◌∷◌}
use lib.ListN.{length, get_or}
use borrow.Author.Tests.{eqb-true, ne_eqb}
use Rattle.rules.specs.declared.Answer.TheVariants.{Refused}
use Rattle.rules.specs.declared.Found.{Found}
use Rattle.std.specs.Prelude.{Option, Some, None}
use Rattle.rules.specs.Answer.{is_refused}
use Rattle.rules.specs.Range.{any}
use Rattle.rules.specs.Card.{is_charge, card_length, shadow_place}
use Rattle.rules.specs.Sound.{Sound}
use Rattle.rules.specs.Event.{Event, commit_code, judge_code, abort_code, is_read, is_write, is_commit, is_abort, is_add, is_judge}
use Rattle.rules.specs.Verdict.{commit_verdict}
use Rattle.rules.specs.Ledger.{Ledger}
use Rattle.rules.specs.Step.{start, read_answer, read, write, add, judged, commit, enter, is_judged_failed, judge_left, judge_answer, judge, abort_left, abort, act, step}
use Rattle.rules.specs.Run.{run}
use Rattle.rules.specs.Touch.{is_put, is_joined, is_committing, committers_at, may_change_base, may_change_shadow}
use Rattle.rules.proofs.Laws.Tests.{and_fails, or_inl, or_inr, or_neither, cond_holds}
use Rattle.rules.proofs.Laws.Cards.{Fits, with_card_length, with_card_outside}
use Rattle.rules.proofs.Laws.EventCases.{cause_in, AllowedIn, OfStep, step_by_cause, act_by_kind, no_start}
use Rattle.rules.proofs.Laws.Permitted.{named_given, named_alive, judge_permitted}
use Rattle.rules.proofs.Sound.Soundness.{facts}
use Rattle.rules.proofs.Copies.Lines.{shadow_line, line_fits}
use Rattle.rules.proofs.Stores.Leaves.{LedgerFits, SameLengths, Leaves, stores_stay, is_settled_by, LeavesBy}
use Rattle.rules.proofs.Stores.Committed.{not_among, commit_leaves}
use Rattle.rules.proofs.Stores.Leavers.{judge_leaves, abort_leaves}
use Rattle.rules.specs.Refusal.{refusal_numbered}
use Rattle.rules.specs.declared.refusal.Refusal.{Refusal}

-- ---- RULES 2.8: refused events

pub cause_leaves : (s : Ledger) (e : Event) → cause_in s e ≢ 0 → step s e ≡ record { answer = Refused (refusal_numbered (cause_in s e)); after = s }
unfolding step
cause_leaves s e h = rw (ne_eqb (cause_in s e) 0 h)

judged_not_refused : (failed : Bool) (left : ℕ) → is_refused (judge_answer failed left) ≡ false
judged_not_refused true left = refl
judged_not_refused false left = refl

pub act_not_refused : (s : Ledger) (e : Event) → AllowedIn s e → is_refused (act s e).answer ≡ false
unfolding start read read_answer write commit add enter judge abort judged
act_not_refused s e a =
    act_by_kind s e (λ o _. is_refused o.answer ≡ false) a
    (λ _. refl)
    (λ _. cond_holds (λ a. is_refused a ≡ false) (is_charge e.account) (λ _. refl) (λ _. refl))
    (λ _. refl)
    (λ _. commit_not (commit_verdict s.table e.number))
    (λ _. refl)
    (λ _. refl)
    (λ _. judged_not_refused (is_judged_failed s.table e.number) _)
    (λ _. refl)
  where
    commit_not : (found : Option Found) → is_refused (judged s e.number found).answer ≡ false
    commit_not None = refl
    commit_not (Some f) = refl

pub refused_leaves : (s : Ledger) (e : Event) (refusal : Refusal) → (step s e).answer ≡ Refused refusal → (step s e).after ≡ s
refused_leaves s e refusal =
    step_by_cause s e (λ o _. o.answer ≡ Refused refusal → o.after ≡ s) (λ _. refl)
    (λ a refused. absurd (true≢false (rw refused at (act_not_refused s e a))))

-- ---- RULES 2.7: what may change, by who commits

module _ (s : Ledger) (e : Event) where
  -- of who leaves a queue at the event
  abbrev committers : List ℕ → List ℕ
  committers leavers = cond (is_committing s.table e) (e.number ∷ []) leavers

  abbrev Touched : Ledger → List ℕ → Type 0
  Touched t leavers =
      Leaves (λ i. any (is_settled_by s.table i) (committers leavers))
      (λ i. is_put e i || any (λ n. is_joined s.table n i) (committers leavers)) s t

  by_commits :
      {t : Ledger} (leavers ns : List ℕ) → committers leavers ≡ ns → LeavesBy s.table ns s t → Touched t leavers
  by_commits leavers ns same leaves =
      record {
        lengths = leaves.lengths;
        keeps_base = λ i none. leaves.keeps_base i (rw same at none);
        keeps_shadow = λ i none. leaves.keeps_shadow i (rw same at (or_neither (is_put e i) _ none).1);
      }

  -- an event that isn't refused
  module _ (a : AllowedIn s e) where
    sound : Sound s.table
    sound = facts s.table a.sound_test

    fits : LedgerFits s
    fits = record { base_fits = a.base_fits; shadow_fits = a.shadow_fits }

    -- a write: where its card stands, and what putting it there leaves
    module _ (writes : is_write e ≡ true) where
      abbrev place : ℕ
      place = shadow_place e.number e.account

      written_fits : Fits s.shadow place
      written_fits =
          line_fits (shadow_line s.shadow e.number a.shadow_fits (omega (arith, a.early.number_known, sound.few)))
          e.account (a.early.account_known (or_inl (is_add e) (or_inr (is_read e) writes)))

      written_whole : length e.card ≡ card_length
      written_whole = a.early.card_fits (or_inl (is_add e) writes)

      write_touches : Touched (write s e.number e.account e.card).after []
      unfolding write
      write_touches =
          record {
            lengths =
                record { of_base = refl; of_shadow = with_card_length s.shadow place e.card written_fits written_whole };
            keeps_base = λ i _. refl;
            keeps_shadow = λ i none.
                let not_put = (and_fails (is_write e) _).0 (or_neither (is_put e i) _ none).0 writes in
                with_card_outside s.shadow place e.card written_fits written_whole i (not_among card_length place i not_put);
          }

    commit_touches :
        is_commit e ≡ true → (f : Option Found) → commit_verdict s.table e.number ≡ f → Touched (judged s e.number f).after []
    unfolding judged
    commit_touches is None clear =
        by_commits [] (e.number ∷ []) (rw (is, clear))
        (let other = no_start e commit_code is refl in
        commit_leaves s sound fits e.number (named_given a other) (named_alive a other) s.table refl (λ k h. refl))
    commit_touches is (Some f) clash = stores_stay s _

    judge_touches : is_judge e ≡ true → Touched (judge s e.number).after (judge_left s e.number).commits
    unfolding judge
    judge_touches is =
        by_commits _ _ (rw (eqb-true e.code judge_code is)) (judge_leaves s sound fits e.number (judge_permitted a is))

    abort_touches : is_abort e ≡ true → Touched (abort s e.number).after (abort_left s e.number).commits
    unfolding abort
    abort_touches is = by_commits _ _ (rw (eqb-true e.code abort_code is)) (abort_leaves s sound fits e.number)

  step_leaves : Leaves (may_change_base s e) (may_change_shadow s e) s (step s e).after
  unfolding may_change_base may_change_shadow committers_at start read add enter commit
  step_leaves =
      let P : OfStep = λ o. Touched o.after in
      step_by_cause s e P (stores_stay s s.table)
      (λ a. act_by_kind s e P a
      (λ _. stores_stay s _)
      (λ _. stores_stay s _)
      (write_touches a)
      (λ is. commit_touches a is (commit_verdict s.table e.number) refl)
      (λ _. stores_stay s _)
      (λ _. stores_stay s _)
      (judge_touches a)
      (abort_touches a))

-- ---- the theorems

pub lengths_kept : (s : Ledger) (e : Event) → SameLengths s (step s e).after
lengths_kept s e = (step_leaves s e).lengths

pub run_lengths_kept : (s : Ledger) (es : List Event) → SameLengths s (run s es).after
unfolding run
run_lengths_kept s [] = record { of_base = refl; of_shadow = refl }
run_lengths_kept s (e ∷ es) =
    let one = lengths_kept s e in
    let rest = run_lengths_kept (step s e).after es in
    record { of_base = rest.of_base ∙ one.of_base; of_shadow = rest.of_shadow ∙ one.of_shadow }

pub base_untouched :
    (s : Ledger) (e : Event) (i : ℕ) → may_change_base s e i ≡ false → get_or (step s e).after.base i 0 ≡ get_or s.base i 0
base_untouched s e = (step_leaves s e).keeps_base

pub shadow_untouched :
    (s : Ledger) (e : Event) (i : ℕ) → may_change_shadow s e i ≡ false → get_or (step s e).after.shadow i 0 ≡ get_or s.shadow i 0
shadow_untouched s e = (step_leaves s e).keeps_shadow
