-- Those who leave a queue: of the two stores they change no byte but those that their commits change by the table before the
-- event, since whoever waits, in either queue, keeps its parent and its write set. Assumes nothing.
use Prim.Native.Nat.{ℕ, ◌≤◌, ◌<◌}
use native.Mathlib.Omega.{arith}
use mathlib.Core.Path.{◌≡◌, refl, ◌∙◌}
use mathlib.Core.Logic.{◌⊎◌, inl, inr, ⊎_elim, ◌≢◌}
use mathlib.Core.Bool.{Bool, true, false}
use mathlib.Core.List.{List, [], ◌∷◌}
use Rattle.rules.specs.Card.{account_count}
use Rattle.rules.specs.Kind.{IsKind, top_kind, sub_kind}
use Rattle.rules.specs.Table.{entry_fields, word, parent_field, parent_of, kind_of, state_field, aborted, with_state, write_fields, write_field, write_entry}
use Rattle.rules.specs.Queue.{queue_length_field, is_queued, is_head_ready, with_ready, without_below}
use Rattle.rules.specs.Sound.{Sound}
use Rattle.rules.specs.Ledger.{Ledger, with_table}
use Rattle.rules.specs.Step.{finished, committing, Left, leave, leave_both, is_judged_failed, revealed, judge_left, abort_table, out_of_both, dropped, abort_left, head_in, head_out, is_head_outside, head_left, head_before}
use Rattle.rules.proofs.Laws.Kinds.{kind_known}
use Rattle.rules.proofs.Laws.Permitted.{Judgeable}
use Rattle.rules.proofs.Sound.QueueChanges.{ready_keeps, without_keeps, out_committable}
use Rattle.rules.proofs.Sound.TakingOut.{out_keeps}
use Rattle.rules.proofs.Sound.Judging.{fail_keeps_field}
use Rattle.rules.proofs.Sound.Aborting.{abort_keeps_field}
use Rattle.rules.proofs.Sound.Leaving.{head_queued, head_out_sound, head_committable, leave_by_heads, leave_keeps_sound}
use Rattle.rules.proofs.Sound.Waiting.{waited_before, waiting_row}
use Rattle.rules.proofs.Sound.Kept.{left_sound, revealed_sound, dropped_sound}
use Rattle.rules.proofs.Stores.Leaves.{LedgerFits, SameLengths, still_fit, stores_stay, LeavesBy, leaves_then}
use Rattle.rules.proofs.Stores.Committed.{commit_leaves}

-- m has the parent and the write set in v that it has in w
record SameWrites (w v : List ℕ) (m : ℕ) : Type 0 where
  parent : parent_of v m ≡ parent_of w m
  writes : (k : ℕ) → k < account_count → write_entry v m k ≡ write_entry w m k

-- a word that is a parent, or stands from the write set on: no state, and of the head no length of a queue
abbrev IsParentOrSums : ℕ → Type 0
IsParentOrSums g = (g < state_field) ⊎ (write_fields ≤ g)

kept_writes :
    {w v : List ℕ} (m : ℕ) → ((g : ℕ) → g < entry_fields → IsParentOrSums g → word v m g ≡ word w m g) → SameWrites w v m
kept_writes m kept =
    record {
      parent = kept parent_field (omega arith) (inl (omega arith));
      writes = λ k h. kept (write_field k) (omega arith) (inr (omega arith));
    }

no_state : {g : ℕ} → IsParentOrSums g → g ≢ state_field
no_state off z = ⊎_elim (λ before. omega arith) (λ behind. omega arith) off

no_length : (h : ℕ) → IsKind h → {g : ℕ} → IsParentOrSums g → g ≢ queue_length_field h
no_length h known off z = ⊎_elim (λ before. omega arith) (λ behind. omega arith) off

writes_then : {w v u : List ℕ} {m : ℕ} → SameWrites w v m → SameWrites v u m → SameWrites w u m
writes_then first then =
    record { parent = then.parent ∙ first.parent; writes = λ k h. then.writes k h ∙ first.writes k h }

-- everyone who waits in v, in either queue, has
abbrev WaitingKept : List ℕ → List ℕ → Type 0
WaitingKept w v = (h : ℕ) → IsKind h → (m : ℕ) → is_queued v h m ≡ true → SameWrites w v m

out_kept : {w : List ℕ} → Sound w → (h : ℕ) → IsKind h → (n m : ℕ) → SameWrites w (without_below w h n) m
out_kept sound h known n m =
    kept_writes m (λ g inside off. without_keeps sound h known n m g (inl inside) (inr (no_length h known off)))

-- ---- one who leaves

module _ (h : ℕ) (known : IsKind h) (s : Ledger) (sound : Sound s.table) (ready : is_head_ready s.table h ≡ true) where
  others_kept : WaitingKept s.table (head_left h s).table
  others_kept x is m queued = kept_writes m (λ g inside _. waiting_row h known s sound ready x is m queued g (inl inside))

  module _ (fits : LedgerFits s) (w : List ℕ) (kept : WaitingKept w s.table) where
    finished_leaves : (b : Bool) → LeavesBy w (committing (head_in h s) b) s (finished (head_out h s) (head_in h s) b)
    unfolding finished
    finished_leaves true = stores_stay s _
    finished_leaves false =
        let same =
        writes_then (kept h known (head_in h s) (head_queued s.table h ready)) (out_kept sound h known (head_in h s) (head_in h s)) in
        leaves_then w [] (head_in h s ∷ []) (stores_stay s _)
        (commit_leaves (head_out h s) (head_out_sound h known s sound ready) fits (head_in h s)
        (head_committable h known s sound ready).own (head_committable h known s sound ready).alive w same.parent same.writes)

    head_leaves_bytes : LeavesBy w (committing (head_in h s) (is_head_outside h s)) s (head_left h s)
    head_leaves_bytes = finished_leaves (is_head_outside h s)

  pub head_lengths : LedgerFits s → SameLengths s (head_left h s)
  head_lengths fits = (head_leaves_bytes fits s.table (λ _ _ m _. kept_writes m (λ g _ _. refl))).lengths

-- ---- all who leave

module _ (w : List ℕ) where
  -- they change those bytes alone, and who waits then still has its parent and its write set
  abbrev OfLeavers : Ledger → Left → Type 0
  OfLeavers s left =
      LedgerFits s → WaitingKept w s.table →
      LeavesBy w left.commits s left.after × WaitingKept w left.after.table

  with_head :
      (h : ℕ) (known : IsKind h) (s : Ledger) → Sound s.table → is_head_ready s.table h ≡ true → (rest : Left) →
      OfLeavers (head_left h s) rest → OfLeavers s (head_before h s rest)
  with_head h known s sound ready rest later fits kept =
      let one = head_leaves_bytes h known s sound ready fits w kept in
      let still : WaitingKept w (head_left h s).table =
      (λ x is m queued.
      writes_then (kept x is m (waited_before h known s sound ready x is m queued)) (others_kept h known s sound ready x is m queued)) in
      let (leaves, end) = later (still_fit one.lengths fits) still in
      (leaves_then w _ rest.commits one leaves, end)

  leavers_leave : (h : ℕ) → IsKind h → (s : Ledger) → Sound s.table → OfLeavers s (leave h s)
  leavers_leave h known = leave_by_heads h known OfLeavers (λ s sound fits kept. (stores_stay s _, kept)) (with_head h known)

  both_leave : (s : Ledger) → Sound s.table → OfLeavers s (leave_both s)
  unfolding leave_both
  both_leave s sound fits kept =
      let (tops, between) = leavers_leave top_kind (omega arith) s sound fits kept in
      let (subs, end) =
      leavers_leave sub_kind (omega arith) _ (leave_keeps_sound top_kind (omega arith) s sound) (still_fit tops.lengths fits) between in
      (leaves_then w _ _ tops subs, end)

-- ---- those of a judge and of an abort

module _ (s : Ledger) (sound : Sound s.table) (fits : LedgerFits s) (n : ℕ) where
  -- its queue
  abbrev h : ℕ
  h = kind_of s.table n

  known : IsKind h
  known = kind_known (parent_of s.table n)

  -- after a change of the table alone that keeps those who wait
  after_change :
      (v : List ℕ) (left : Left) → OfLeavers s.table (with_table s v) left → WaitingKept s.table v →
      LeavesBy s.table left.commits s left.after
  after_change v left leaves kept = leaves_then s.table [] _ (stores_stay s v) (leaves fits kept).0

  ready_kept : WaitingKept s.table (with_ready s.table h n)
  ready_kept _ _ m _ =
      kept_writes m (λ g inside off. ready_keeps sound h known n m g (inl inside) (inr (no_length h known off)))

  failed_kept : Judgeable s.table n → WaitingKept s.table (with_state (without_below s.table h n) n aborted)
  failed_kept j _ _ m _ =
      writes_then (out_kept sound h known n m)
      (kept_writes m
      (λ g inside off.
      fail_keeps_field _ (left_sound s sound n) n (out_committable sound h known n j.queued) m g (omega arith) (no_state off)))

  dropped_kept : WaitingKept s.table (abort_table (out_of_both s.table n) n)
  dropped_kept _ _ m _ =
      writes_then
      (kept_writes m
      (λ g inside off. out_keeps sound n m g (inl inside) (inr (⊎_elim (λ before. inl (omega arith)) (λ behind. inr (omega arith)) off))))
      (kept_writes m (λ g inside off. abort_keeps_field _ n m g (omega arith) (no_state off)))

  revealed_leaves :
      Judgeable s.table n → (b : Bool) → Sound (revealed s n b).table →
      let left = leave h (revealed s n b) in LeavesBy s.table left.commits s left.after
  unfolding revealed
  revealed_leaves j true sounds =
      let failed = with_state (without_below s.table h n) n aborted in
      after_change failed (leave h (with_table s failed)) (leavers_leave s.table h known _ sounds) (failed_kept j)
  revealed_leaves j false sounds =
      let readied = with_ready s.table h n in
      after_change readied (leave h (with_table s readied)) (leavers_leave s.table h known _ sounds) ready_kept

  pub judge_leaves : Judgeable s.table n → LeavesBy s.table (judge_left s n).commits s (judge_left s n).after
  unfolding judge_left
  judge_leaves j =
      let failed = is_judged_failed s.table n in revealed_leaves j failed (revealed_sound s sound n j.queued failed)

  pub abort_leaves : LeavesBy s.table (abort_left s n).commits s (abort_left s n).after
  unfolding abort_left dropped
  abort_leaves =
      let gone = abort_table (out_of_both s.table n) n in
      after_change gone (leave_both (with_table s gone)) (both_leave s.table _ (dropped_sound s sound n)) dropped_kept
