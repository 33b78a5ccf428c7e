-- A read, a write, an add, a failed commit, an abort and a change of a queue keep what is remembered. Assumes nothing.
use Prim.Native.Nat.{ℕ}
use native.Mathlib.Omega.{arith}
use mathlib.Core.Logic.{inl, inr}
use mathlib.Core.List.{List}
use Rattle.rules.specs.Kind.{IsKind}
use Rattle.rules.specs.Table.{aborted, state_field, counter_field}
use Rattle.rules.specs.Queue.{Entry, with_queue}
use Rattle.rules.specs.Ledger.{Ledger, with_table}
use Rattle.rules.specs.Step.{read_table, read, failed_ledger, abort_table}
use Rattle.rules.specs.History.{History}
use Rattle.rules.specs.Serial.Effect.{Effect}
use Rattle.rules.proofs.Laws.Words.{word_other_row}
use Rattle.rules.proofs.Laws.Permitted.{Touchable, Committable}
use Rattle.rules.proofs.Sound.TableChanges.{TableChange}
use Rattle.rules.proofs.Sound.Reading.{read_keeps_field, read_change}
use Rattle.rules.proofs.Sound.QueueChanges.{given_keeps}
use Rattle.rules.proofs.Sound.Judging.{fail_change}
use Rattle.rules.proofs.Sound.Aborting.{Spared, abort_keeps_row, abort_change}
use Rattle.rules.proofs.Demand.Proper.{Proper}
use Rattle.rules.proofs.Demand.Entering.{Entering}
use Rattle.rules.proofs.History.Remembered.{Remembers}
use Rattle.rules.proofs.History.Following.{calm_remembers}

module _ {s : Ledger} (proper : Proper s) {had : History} (remembers : Remembers s had) where
  abbrev w : List ℕ
  w = s.table

  pub read_remembers : (n k : ℕ) → Touchable w n k → Remembers (read s n k).after had
  unfolding read
  read_remembers n k permitted =
      calm_remembers s (with_table s (read_table w n k)) proper
      (read_change w n k permitted.account proper.sound permitted.own permitted.alive) remembers
      (λ h known. read_keeps_field w n k permitted.account 0 (counter_field h) (omega arith) (λ z. omega arith) (λ z. omega arith))

  -- a write or an add
  pub entering_remembers : {n k : ℕ} {t : Ledger} {f : Effect} → Entering s t n k f → Remembers t had
  entering_remembers {t = t} enters =
      calm_remembers s t proper enters.change remembers (λ h known. enters.fields 0 (counter_field h) (omega arith))

  -- a queue
  pub queue_remembers :
      (h : ℕ) → IsKind h → (es : List Entry) {now : ℕ} → TableChange w (with_queue w h es) now →
      Remembers (with_table s (with_queue w h es)) had
  queue_remembers h known es change =
      calm_remembers s (with_table s (with_queue w h es)) proper change remembers
      (λ x is. given_keeps w proper.sound h known es 0 (counter_field x) (inl (omega arith)) (inr (λ z. omega arith)))

  -- some are aborted
  pub abort_remembers : (n : ℕ) → Spared w n proper.sound → Remembers (with_table s (abort_table w n)) had
  abort_remembers n spared =
      calm_remembers s (with_table s (abort_table w n)) proper (abort_change w n proper.sound spared) remembers
      (λ h known. abort_keeps_row w n 0 (counter_field h) (omega arith) (λ given _. omega arith))

  pub fail_remembers : (n : ℕ) → Committable w n → Remembers (failed_ledger s n) had
  fail_remembers n free =
      calm_remembers s (failed_ledger s n) proper (fail_change w proper.sound n free) remembers
      (λ h known. word_other_row w n 0 state_field (counter_field h) aborted (omega arith) (omega arith) (λ z. omega (arith, free.own)))
