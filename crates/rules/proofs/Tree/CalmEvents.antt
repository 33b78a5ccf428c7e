-- A read, a write, a failed commit, an abort and a change of a queue start and commit nothing, and change no sum. Assumes
-- nothing.
use Prim.Native.Nat.{ℕ, ◌<◌}
use native.Mathlib.Omega.{arith}
use mathlib.Core.Path.{◌≡◌}
use mathlib.Core.Logic.{inl, inr, ◌≢◌}
use mathlib.Core.List.{List}
use Rattle.rules.specs.Card.{first_charge, IsCharge}
use Rattle.rules.specs.Kind.{IsKind}
use Rattle.rules.specs.Table.{IsActionField, width, word, aborted, with_state, highest_field, kind_of, state_field, pending_field, own_adds_field, kept_field}
use Rattle.rules.specs.Queue.{with_tail, with_ready, without_below}
use Rattle.rules.specs.Sound.{Sound}
use Rattle.rules.specs.Step.{read_table, write_table, abort_table}
use Rattle.rules.proofs.Laws.Permitted.{Touchable, Committable}
use Rattle.rules.proofs.Sound.QueueChanges.{OffLength, tail_keeps, ready_keeps, without_keeps}
use Rattle.rules.proofs.Sound.Reading.{read_keeps_field}
use Rattle.rules.proofs.Sound.Writing.{write_keeps_field}
use Rattle.rules.proofs.Sound.Judging.{fail_keeps_field}
use Rattle.rules.proofs.Sound.Aborting.{abort_keeps_field}
use Rattle.rules.proofs.Tree.Quiet.{Calm}

module _ {w : List ℕ} (s : Sound w) (n k : ℕ) (charge : IsCharge k) where
  -- ---- entries

  pub read_calm : (j : ℕ) → Touchable w n j → Calm w (read_table w n j) k
  read_calm j p =
      let kept = read_keeps_field w n j p.account in
      record {
        starts = kept 0 highest_field (omega arith) (λ z. omega arith) (λ z. omega arith);
        kept = λ m. kept m (kept_field k) (omega arith) (λ z. omega (arith, p.account)) (λ z. omega (arith, p.account));
        pendings = λ m h. kept m (pending_field k) (omega arith) (λ z. omega (arith, p.account)) (λ z. omega (arith, p.account));
        owns = λ m h. kept m (own_adds_field k) (omega arith) (λ z. omega (arith, p.account)) (λ z. omega (arith, p.account));
      }

  pub write_calm : (j : ℕ) → Touchable w n j → j < first_charge → Calm w (write_table w n j) k
  write_calm j p below =
      let kept = write_keeps_field w s n j p.own p.alive p.account in
      record {
        starts = kept 0 highest_field (omega arith) (λ z. omega arith);
        kept = λ m. kept m (kept_field k) (omega arith) (λ z. omega arith);
        pendings = λ m h. kept m (pending_field k) (omega arith) (λ z. omega arith);
        owns = λ m h. kept m (own_adds_field k) (omega arith) (λ z. omega arith);
      }

  -- ---- states

  states_calm : {v : List ℕ} → ((m g : ℕ) → g < width → g ≢ state_field → word v m g ≡ word w m g) → Calm w v k
  states_calm kept =
      record {
        starts = kept 0 highest_field (omega arith) (λ z. omega arith);
        kept = λ m. kept m (kept_field k) (omega arith) (λ z. omega arith);
        pendings = λ m h. kept m (pending_field k) (omega arith) (λ z. omega arith);
        owns = λ m h. kept m (own_adds_field k) (omega arith) (λ z. omega arith);
      }

  pub fail_calm : Committable w n → Calm w (with_state w n aborted) k
  fail_calm j = states_calm (fail_keeps_field w s n j)

  pub abort_calm : Calm w (abort_table w n) k
  abort_calm = states_calm (abort_keeps_field w n)

  -- ---- a queue

  module _ (h : ℕ) (known : IsKind h) where
    queue_calm : {v : List ℕ} → ((m g : ℕ) → IsActionField g → OffLength h m g → word v m g ≡ word w m g) → Calm w v k
    queue_calm kept =
        record {
          starts = kept 0 highest_field (inl (omega arith)) (inr (λ z. omega arith));
          kept = λ m. kept m (kept_field k) (inr (omega arith)) (inr (λ z. omega arith));
          pendings = λ m begun. kept m (pending_field k) (inl (omega arith)) (inl begun.0);
          owns = λ m begun. kept m (own_adds_field k) (inl (omega arith)) (inl begun.0);
        }

    pub tail_calm : kind_of w n ≡ h → Committable w n → (verdict : ℕ) → Calm w (with_tail w h n verdict) k
    tail_calm kind free verdict = queue_calm (tail_keeps s h known n kind free verdict)

    pub ready_calm : Calm w (with_ready w h n) k
    ready_calm = queue_calm (ready_keeps s h known n)

    pub out_calm : Calm w (without_below w h n) k
    out_calm = queue_calm (without_keeps s h known n)
