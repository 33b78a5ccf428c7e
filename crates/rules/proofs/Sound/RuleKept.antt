-- RULES 1.12 and 7.17: a sound table is under one of the two rules, and no event changes which, nor does a list of them. Assumes
-- nothing.
use Prim.Native.Nat.{ℕ}
use native.Mathlib.Omega.{arith}
use mathlib.Core.Path.{◌≡◌, refl, ◌∙◌}
use mathlib.Core.Logic.{◌⊎◌, inl, inr, ⊎_elim}
use mathlib.Core.Bool.{Bool, true, false}
use mathlib.Core.List.{List, [], ◌∷◌}
use lib.Dec.{eqb}
use borrow.Author.Tests.{eqb-true}
use Rattle.rules.specs.declared.Found.{Found}
use Rattle.std.specs.Prelude.{Option, Some, None}
use Rattle.rules.specs.Card.{IsCharge}
use Rattle.rules.specs.Kind.{IsKind, top_kind, sub_kind}
use Rattle.rules.specs.Table.{rule_of, backward_rule, forward_rule, parent_of, kind_of}
use Rattle.rules.specs.Queue.{is_head_ready}
use Rattle.rules.specs.Sound.{Sound}
use Rattle.rules.specs.Event.{Event}
use Rattle.rules.specs.Ledger.{Ledger}
use Rattle.rules.specs.Step.{Outcome, start, read, write, add, judged, finished, head_in, head_out, is_head_outside, head_left, leave, leave_both, enter_table, enter, is_judged_failed, revealed, judge_left, judge, out_of_both, dropped, abort_left, abort, step}
use Rattle.rules.specs.Run.{run}
use Rattle.rules.proofs.Laws.Tests.{or_cases}
use Rattle.rules.proofs.Laws.Kinds.{kind_known}
use Rattle.rules.proofs.Laws.Freeing.{next_givable}
use Rattle.rules.proofs.Laws.Permitted.{Startable, Touchable, Committable, Judgeable, step_by_kind}
use Rattle.rules.proofs.Sound.Giving.{give_rule}
use Rattle.rules.proofs.Sound.Reading.{read_change}
use Rattle.rules.proofs.Sound.Writing.{write_change}
use Rattle.rules.proofs.Sound.Adding.{add_change}
use Rattle.rules.proofs.Sound.Judging.{fail_change, commit_change}
use Rattle.rules.proofs.Sound.Aborting.{abort_change}
use Rattle.rules.proofs.Sound.QueueChanges.{tail_change, ready_change, without_change, out_committable}
use Rattle.rules.proofs.Sound.TakingOut.{half_sound, out_sound, out_reach, out_spared}
use Rattle.rules.proofs.Sound.Leaving.{head_out_sound, head_committable, leave_by_heads, leave_keeps_sound}
use Rattle.rules.proofs.Sound.Kept.{left_sound, revealed_sound, dropped_sound, step_keeps_sound}

pub sound_rule : {w : List ℕ} → Sound w → (rule_of w ≡ backward_rule) ⊎ (rule_of w ≡ forward_rule)
sound_rule {w} s =
    ⊎_elim
    (λ is. inl (eqb-true (rule_of w) backward_rule is))
    (λ is. inr (eqb-true (rule_of w) forward_rule is))
    (or_cases (eqb (rule_of w) backward_rule) (eqb (rule_of w) forward_rule) s.ruled)

-- ---- it stays

-- the ledger t has the rule of s
abbrev SameRule : Ledger → Ledger → Type 0
SameRule s t = rule_of t.table ≡ rule_of s.table

-- ---- those who leave a queue

module _ (h : ℕ) (known : IsKind h) where
  head_left_rule : (s : Ledger) → Sound s.table → is_head_ready s.table h ≡ true → SameRule s (head_left h s)
  unfolding finished
  head_left_rule s sound ready =
      by_sums (is_head_outside h s) ∙ (without_change sound h known (head_in h s) 0).same_rule
    where
      free : Committable (head_out h s).table (head_in h s)
      free = head_committable h known s sound ready

      by_sums : (b : Bool) → SameRule (head_out h s) (finished (head_out h s) (head_in h s) b)
      by_sums true = (fail_change (head_out h s).table (head_out_sound h known s sound ready) (head_in h s) free).same_rule
      by_sums false = (commit_change (head_out h s) (head_out_sound h known s sound ready) (head_in h s) free).same_rule

  leave_rule : (s : Ledger) → Sound s.table → SameRule s (leave h s).after
  leave_rule =
      leave_by_heads h known (λ s left. SameRule s left.after) (λ s sound. refl)
      (λ s sound ready rest kept. kept ∙ head_left_rule s sound ready)

both_leave_rule : (s : Ledger) → Sound s.table → SameRule s (leave_both s).after
unfolding leave_both
both_leave_rule s sound =
    leave_rule sub_kind (omega arith) _ (leave_keeps_sound top_kind (omega arith) s sound) ∙ leave_rule top_kind (omega arith) s sound

-- ---- event by event, where it isn't refused

module _ (s : Ledger) (sound : Sound s.table) (n : ℕ) where
  abbrev KeepsRule : Outcome → List ℕ → Type 0
  KeepsRule o leavers = SameRule s o.after

  starts : Startable s.table n → KeepsRule (start s n) []
  unfolding start
  starts p = give_rule s.table _ n (next_givable s.table sound.few p.room).first

  reads : (k : ℕ) → Touchable s.table n k → KeepsRule (read s n k) []
  unfolding read
  reads k p = (read_change s.table n k p.account sound p.own p.alive).same_rule

  writes : (k : ℕ) (card : List ℕ) → Touchable s.table n k → KeepsRule (write s n k card) []
  unfolding write
  writes k card p = (write_change s.table sound n k p.own p.alive p.account).same_rule

  adds : (k : ℕ) (card : List ℕ) → Touchable s.table n k → IsCharge k → KeepsRule (add s n k card) []
  unfolding add
  adds k card p charge = (add_change s.table sound n k p.own p.alive charge _).same_rule

  judges : Committable s.table n → (f : Option Found) → KeepsRule (judged s n f) []
  unfolding judged
  judges j None = (commit_change s sound n j).same_rule
  judges j (Some f) = (fail_change s.table sound n j).same_rule

  enters : Committable s.table n → KeepsRule (enter s n) []
  unfolding enter enter_table
  enters free = (tail_change sound (kind_of s.table n) (kind_known (parent_of s.table n)) n refl free _ n).same_rule

  reveals : Judgeable s.table n → KeepsRule (judge s n) []
  unfolding judge judge_left revealed
  reveals j =
      let failed = is_judged_failed s.table n in
      leave_rule (kind_of s.table n) known _ (revealed_sound s sound n j.queued failed) ∙ by_verdict failed
    where
      known : IsKind (kind_of s.table n)
      known = kind_known (parent_of s.table n)

      by_verdict : (b : Bool) → SameRule s (revealed s n b)
      by_verdict true =
          (fail_change _ (left_sound s sound n) n (out_committable sound (kind_of s.table n) known n j.queued)).same_rule
          ∙ (without_change sound (kind_of s.table n) known n n).same_rule
      by_verdict false = (ready_change sound (kind_of s.table n) known n n).same_rule

  aborts : KeepsRule (abort s n) []
  unfolding abort abort_left dropped out_of_both
  aborts = both_leave_rule _ (dropped_sound s sound n) ∙ gone
    where
      gone : SameRule s (dropped s n)
      gone =
          (abort_change _ n (out_sound sound n) (λ h known m queued. out_reach sound n m ∙ (out_spared sound n h known m queued).1)).same_rule
          ∙ (without_change (half_sound sound n) sub_kind (omega arith) n n).same_rule
          ∙ (without_change sound top_kind (omega arith) n n).same_rule

-- ---- any event, and a list

pub step_keeps_rule : (s : Ledger) (e : Event) → Sound s.table → rule_of (step s e).after.table ≡ rule_of s.table
step_keeps_rule s e sound =
    let n = e.number in
    step_by_kind s e (λ o _. SameRule s o.after) refl
    (starts s sound n) (λ p _. reads s sound n e.account p) (λ p _ _. writes s sound n e.account e.card p)
    (λ j _ f _ _. judges s sound n j f) (λ p _ charge _. adds s sound n e.account e.card p charge)
    (λ free _. enters s sound n free) (reveals s sound n) (aborts s sound n)

pub run_keeps_rule : (s : Ledger) (es : List Event) → Sound s.table → rule_of (run s es).after.table ≡ rule_of s.table
unfolding run
run_keeps_rule s [] sound = refl
run_keeps_rule s (e ∷ es) sound =
    run_keeps_rule (step s e).after es (step_keeps_sound s e sound) ∙ step_keeps_rule s e sound
