-- Those whom an abort reaches taken out of both queues: what stands in the table then. Assumes nothing.
use Prim.Native.Nat.{ℕ, zero, suc, ◌≤◌, ◌<◌}
use native.Mathlib.Omega.{arith}
use mathlib.Core.Path.{◌≡◌, ap, ◌∙◌, fun_ext}
use mathlib.Core.Logic.{◌⊎◌, inl, inr}
use mathlib.Core.Bool.{true, false, not}
use mathlib.Core.List.{List}
use Rattle.rules.specs.Range.{filter}
use Rattle.rules.specs.Kind.{IsKind, top_kind, sub_kind}
use Rattle.rules.specs.Table.{IsActionField, word}
use Rattle.rules.specs.Walk.{is_aborted_by}
use Rattle.rules.specs.Queue.{queue_length_field, Entry, queue, is_queued, keeps_place, without_below}
use Rattle.rules.specs.Sound.{Sound}
use Rattle.rules.specs.Step.{out_of_both}
use Rattle.rules.proofs.Sound.SoundKept.{change_keeps_sound}
use Rattle.rules.proofs.Sound.QueueChanges.{without_keeps, without_queue, without_other_queue, without_change, kept_listed, same_reach}

-- a word that is no queue's length
abbrev pub OffLengths : ℕ → ℕ → Type 0
OffLengths m g = (1 ≤ m) ⊎ ((g < queue_length_field top_kind) ⊎ (queue_length_field sub_kind < g))

module _ {w : List ℕ} (s : Sound w) (n : ℕ) where
  -- the table when the topactions' queue has closed up
  abbrev half : List ℕ
  half = without_below w top_kind n

  pub half_sound : Sound (without_below w top_kind n)
  half_sound = change_keeps_sound w half n s (without_change s top_kind (omega arith) n n)

  pub out_sound : Sound (out_of_both w n)
  unfolding out_of_both
  out_sound = change_keeps_sound half (out_of_both w n) n half_sound (without_change half_sound sub_kind (omega arith) n n)

  pub out_keeps : (m g : ℕ) → IsActionField g → OffLengths m g → word (out_of_both w n) m g ≡ word w m g
  unfolding out_of_both
  out_keeps m g field (inl row) =
      without_keeps half_sound sub_kind (omega arith) n m g field (inl row) ∙ without_keeps s top_kind (omega arith) n m g field (inl row)
  out_keeps m g field (inr (inl lower)) =
      without_keeps half_sound sub_kind (omega arith) n m g field (inr (λ z. omega arith))
      ∙ without_keeps s top_kind (omega arith) n m g field (inr (λ z. omega arith))
  out_keeps m g field (inr (inr higher)) =
      without_keeps half_sound sub_kind (omega arith) n m g field (inr (λ z. omega arith))
      ∙ without_keeps s top_kind (omega arith) n m g field (inr (λ z. omega arith))

  -- whom an abort reaches is the same as before
  pub out_reach : (m : ℕ) → is_aborted_by (out_of_both w n) n m ≡ is_aborted_by w n m
  unfolding out_of_both
  out_reach m = same_reach half_sound sub_kind (omega arith) n m ∙ same_reach s top_kind (omega arith) n m

  same_places : keeps_place half n ≡ keeps_place w n
  unfolding keeps_place
  same_places = fun_ext (λ (e : Entry). ap not (same_reach s top_kind (omega arith) n e.number))

  -- in each queue the others are left
  pub out_queue : (h : ℕ) → IsKind h → queue (out_of_both w n) h ≡ filter (keeps_place w n) (queue w h)
  unfolding out_of_both
  out_queue zero is =
      without_other_queue half_sound sub_kind (omega arith) n top_kind (omega arith) (λ z. omega arith)
      ∙ without_queue s top_kind (omega arith) n
  out_queue (suc zero) is =
      without_queue half_sound sub_kind (omega arith) n
      ∙ rw (same_places, without_other_queue s top_kind (omega arith) n sub_kind (omega arith) (λ z. omega arith))
  out_queue (suc (suc h)) is = absurd (omega arith)

  pub out_spared :
      (h : ℕ) → IsKind h → (m : ℕ) → is_queued (out_of_both w n) h m ≡ true →
      (is_queued w h m ≡ true) × (is_aborted_by w n m ≡ false)
  unfolding is_queued
  out_spared h is m queued = kept_listed s h is n m (rw (out_queue h is) at queued)
