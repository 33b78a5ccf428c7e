-- What the collector and the engine keep through every event is kept through every list of events, whatever the judging rule.
-- Assumes nothing.
use Prim.Native.Nat.{ℕ, suc, ◌<◌}
use mathlib.Core.Path.{◌≡◌, refl, ◌∙◌}
use mathlib.Core.Bool.{Bool, true, false}
use mathlib.Core.List.{List, [], ◌∷◌}
use lib.IntN.{◌+ℤ◌}
use Rattle.rules.specs.declared.Found.{Found}
use Rattle.std.specs.Prelude.{Option, Some, None}
use Rattle.rules.specs.Card.{first_charge, IsCharge, IsCard}
use Rattle.rules.specs.Amount.{is_amount, amount_in}
use Rattle.rules.specs.Table.{pending_sum, rule_of, is_forward}
use Rattle.rules.specs.Event.{Event}
use Rattle.rules.specs.Answer.{said}
use Rattle.rules.specs.Verdict.{commit_verdict}
use Rattle.rules.specs.Cause.{is_read_outside, is_commit_outside}
use Rattle.rules.specs.Ledger.{Ledger}
use Rattle.rules.specs.Table.{parent_of, kind_of}
use Rattle.rules.specs.Queue.{queue_length}
use Rattle.rules.specs.Step.{Outcome, start, read, write, add, judged, leave, enter, is_judged_failed, revealed, judge_left, judge_answer, judge, abort_left, abort, step, leavers_at}
use Rattle.rules.specs.Run.{run}
use Rattle.rules.specs.Serial.Told.{it_let_leave, told, told_all}
use Rattle.rules.specs.Serial.Collect.{Known, commits_at, laid_all, stepped, collect_one, collect_from}
use Rattle.rules.proofs.Laws.Kinds.{kind_known}
use Rattle.rules.proofs.Laws.Permitted.{Startable, Touchable, Committable, Judgeable, step_by_kind}
use Rattle.rules.proofs.Serial.Values.{AccountValue}
use Rattle.rules.proofs.Serial.Settling.{whole_card, charge_sum}
use Rattle.rules.proofs.Demand.Proper.{Proper, step_keeps_proper}
use Rattle.rules.proofs.Demand.Looks.{looked_in, seen_with, shown_under}
use Rattle.rules.proofs.Demand.Reads.{read_told}
use Rattle.rules.proofs.Demand.ReadGiven.{read_seen, read_ground}
use Rattle.rules.proofs.Demand.Writes.{write_enters}
use Rattle.rules.proofs.Demand.Adds.{add_enters}
use Rattle.rules.proofs.Demand.Drops.{fail_drops}
use Rattle.rules.proofs.Demand.JudgingRule.{JudgingRule}
use Rattle.rules.proofs.Demand.LeaversKept.{enter_queue_kept, dropped_kept, revealed_kept, leave_kept, both_leave_kept}
use Rattle.rules.proofs.Sound.RuleKept.{step_keeps_rule}
use Rattle.rules.proofs.Demand.Collected.{Kept, drop_kept, start_kept, read_kept, enter_kept, pass_kept}

-- ---- what a place was given

-- an event's action and account, were they a read's that was answered so: what the reader saw, and what the base showed
abbrev seen_after : Event → Outcome → AccountValue
seen_after e o = seen_with (said o.answer).sum o.after e.number e.account

abbrev ground_after : Event → Outcome → AccountValue
ground_after e o = shown_under (looked_in o.after e.number e.account)

-- ---- one event

-- an answer that lets some leave tells who of them committed, in the order of leaving
pub judge_told : (b : Bool) (left : ℕ) (leavers : List ℕ) → told (judge_answer b left) leavers ≡ it_let_leave leavers
judge_told true left leavers = refl
judge_told false left leavers = refl

module _
    (J : JudgingRule) (got ground opening : ℕ → AccountValue) (i : ℕ) (e : Event) {s : Ledger} {c : Known}
    (kept : Kept J got ground opening s c) (ruled : rule_of s.table ≡ J.number) where
  -- what is kept is kept after an outcome that is proper, where got and ground have what it gives
  KeptAfter : Outcome → List ℕ → Type 0
  KeptAfter o leavers =
      Proper o.after → seen_after e o ≡ got i → ground_after e o ≡ ground i →
      Kept J got ground opening o.after (collect_one i e (told o.answer leavers) (commits_at e (told o.answer leavers)) c)

  starts : Startable s.table e.number → KeptAfter (start s e.number) []
  unfolding KeptAfter start collect_one commits_at stepped laid_all
  starts permitted proper' seen below = start_kept J got ground opening kept i e.number permitted proper'

  reads :
      Touchable s.table e.number e.account → is_read_outside s.table s.base e.number e.account ≡ false →
      KeptAfter (read s e.number e.account) []
  unfolding KeptAfter read collect_one commits_at stepped laid_all
  reads permitted fits proper' seen below =
      rw (read_told s.table s.base e.number e.account [])
      (read_kept J got ground opening kept i e.number e.account permitted proper'
      (read_seen s kept.proper e.number e.account permitted fits ∙ seen)
      (λ is. read_ground s kept.proper e.number e.account permitted fits is ∙ below))

  writes :
      Touchable s.table e.number e.account → IsCard e.card → e.account < first_charge →
      KeptAfter (write s e.number e.account e.card) []
  unfolding KeptAfter write collect_one commits_at stepped laid_all
  writes permitted card plain proper' seen below =
      enter_kept J got ground opening kept i e.number e.account permitted
      (write_enters s kept.proper e.number e.account permitted plain e.card card) (whole_card plain card)
      (J.at_write s kept.proper e.number e.account permitted plain e.card card)
      (J.waits.waits_write s kept.proper e.number e.account permitted plain e.card card kept.waiting)

  joins :
      Touchable s.table e.number e.account → IsCharge e.account →
      is_amount (pending_sum s.table e.number e.account +ℤ amount_in e.card) ≡ true →
      KeptAfter (add s e.number e.account e.card) []
  unfolding KeptAfter add collect_one commits_at stepped laid_all
  joins permitted charge fits proper' seen below =
      enter_kept J got ground opening kept i e.number e.account permitted
      (add_enters s kept.proper e.number e.account permitted charge e.card fits) (charge_sum charge)
      (J.at_add s kept.proper e.number e.account permitted charge e.card fits)
      (J.waits.waits_add s kept.proper e.number e.account permitted charge e.card fits kept.waiting)

  -- a commit event: nobody of its kind waits
  judges :
      Committable s.table e.number → queue_length s.table (kind_of s.table e.number) ≡ 0 →
      (f : Option Found) → commit_verdict s.table e.number ≡ f →
      is_commit_outside s.table s.base e.number f ≡ false → KeptAfter (judged s e.number f) []
  unfolding KeptAfter judged collect_one commits_at stepped laid_all
  judges j empty None clear fits proper' seen below =
      pass_kept J got ground opening kept i e.number j fits proper' (J.passes s kept.proper e.number j ruled clear)
      (J.waits.waits_commit s kept.proper e.number j empty kept.waiting)
  judges j empty (Some f) found fits proper' seen below =
      drop_kept J got ground opening kept i _ proper'
      (fail_drops s kept.proper e.number j) (J.at_failed_commit s kept.proper e.number j)
      (J.waits.waits_fail s kept.proper e.number j kept.waiting)

  enters : Committable s.table e.number → is_forward s.table ≡ false → KeptAfter (enter s e.number) []
  unfolding KeptAfter enter collect_one commits_at stepped laid_all
  enters free fits proper' seen below = enter_queue_kept J got ground opening i kept e.number free ruled fits

  reveals : Judgeable s.table e.number → KeptAfter (judge s e.number) (judge_left s e.number).commits
  unfolding KeptAfter judge judge_left collect_one commits_at stepped
  reveals j proper' seen below =
      let h = kind_of s.table e.number in
      let failed = is_judged_failed s.table e.number in
      let shown = revealed_kept J got ground opening i kept e.number j failed refl in
      rw (judge_told failed (leave h (revealed s e.number failed)).many (leave h (revealed s e.number failed)).commits)
      (leave_kept J got ground opening i h (kind_known (parent_of s.table e.number)) _ shown.proper.sound c shown)

  aborts : KeptAfter (abort s e.number) (abort_left s e.number).commits
  unfolding KeptAfter abort abort_left collect_one commits_at stepped
  aborts proper' seen below =
      let gone = dropped_kept J got ground opening i kept e.number in
      both_leave_kept J got ground opening i _ gone.proper.sound c gone

  step_keeps : KeptAfter (step s e) (leavers_at s e)
  unfolding KeptAfter collect_one commits_at stepped laid_all
  step_keeps =
      step_by_kind s e KeptAfter (λ _ _ _. kept) starts reads writes judges
      (λ permitted _ charge fits. joins permitted charge fits.pending_fits) enters reveals aborts

-- ---- a list of events

-- from place i on, each event gives what `got` and `ground` have there
unfoldable pub GivesAlong : (got ground : ℕ → AccountValue) → ℕ → Ledger → List Event → Type 0
GivesAlong got ground i s [] = Unit {0}
GivesAlong got ground i s (e ∷ es) =
    (seen_after e (step s e) ≡ got i) × (ground_after e (step s e) ≡ ground i) × GivesAlong got ground (suc i) (step s e).after es

pub run_keeps :
    (J : JudgingRule) (got ground opening : ℕ → AccountValue) (i : ℕ) (es : List Event) {s : Ledger} {c : Known} →
    Kept J got ground opening s c → rule_of s.table ≡ J.number → GivesAlong got ground i s es →
    Kept J got ground opening (run s es).after (collect_from i es (told_all (run s es).answers (run s es).leavers) c)
unfolding run told_all collect_from GivesAlong KeptAfter
run_keeps J got ground opening i [] kept ruled given = kept
run_keeps J got ground opening i (e ∷ es) {s} kept ruled (seen, below, later) =
    run_keeps J got ground opening (suc i) es
    (step_keeps J got ground opening i e kept ruled (step_keeps_proper s e kept.proper) seen below)
    (step_keeps_rule s e kept.proper.sound ∙ ruled) later
