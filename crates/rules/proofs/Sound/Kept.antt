-- The new table is sound, and every event keeps every sound table sound, refused ones included: the theorem that the rest
-- of the folder leads to. Assumes nothing.
use Prim.Native.Nat.{ℕ}
use mathlib.Core.Path.{◌≡◌, refl, ◌∙◌}
use mathlib.Core.Bool.{Bool, true, false}
use mathlib.Core.List.{List, []}
use lib.Dec.{eqb}
use Rattle.rules.specs.Range.{up_from, all}
use Rattle.rules.specs.Card.{IsCharge, accounts}
use Rattle.rules.specs.Table.{word, new_table, kind_of, parent_of, actions, parents, with_word, with_rule, forward_rule, new_table_under}
use Rattle.rules.specs.Kind.{kinds, kind_under}
use Rattle.rules.specs.Free.{next_number}
use Rattle.rules.specs.Queue.{queue, is_queued, without_below}
use Rattle.rules.specs.Sound.{is_bounded, are_distinct, queue_numbers, is_sound_queue, sound, Sound, is_newest_in_time, are_newest_true}
use Rattle.rules.specs.Event.{Event}
use Rattle.rules.specs.declared.Found.{Found}
use Rattle.std.specs.Prelude.{Option, Some, None}
use Rattle.rules.specs.Ledger.{Ledger}
use Rattle.rules.specs.Step.{Outcome, start, read, write, add, judged, enter_table, enter, is_judged_failed, revealed, judge_left, judge, dropped, abort_left, abort, step}
use Rattle.rules.proofs.Laws.Tests.{cond_holds}
use Rattle.rules.proofs.Laws.Kinds.{kind_known}
use Rattle.rules.proofs.Laws.Freeing.{next_givable}
use Rattle.rules.proofs.Laws.Permitted.{Startable, Touchable, Committable, Judgeable, step_by_kind}
use Rattle.rules.proofs.Sound.Soundness.{facts}
use Rattle.rules.proofs.Sound.TableChanges.{TableChange}
use Rattle.rules.proofs.Sound.SoundKept.{change_keeps_sound}
use Rattle.rules.proofs.Sound.Starting.{start_keeps_sound}
use Rattle.rules.proofs.Sound.Reading.{read_change}
use Rattle.rules.proofs.Sound.Writing.{write_change}
use Rattle.rules.proofs.Sound.Adding.{add_change}
use Rattle.rules.proofs.Sound.Judging.{fail_change, commit_change}
use Rattle.rules.proofs.Sound.Aborting.{abort_change}
use Rattle.rules.proofs.Sound.QueueChanges.{tail_change, ready_change, without_change, out_committable}
use Rattle.rules.proofs.Sound.TakingOut.{out_sound, out_reach, out_spared}
use Rattle.rules.proofs.Sound.Leaving.{leave_keeps_sound, both_keep_sound}

-- a new table, whichever rule was asked
pub new_sound : (r : ℕ) → Sound (new_table_under r)
unfolding new_table_under sound new_table word with_word actions parents up_from all accounts kinds kind_under is_bounded is_sound_queue are_distinct queue_numbers queue is_newest_in_time are_newest_true
new_sound r = cond_holds Sound (eqb r forward_rule) (λ _. facts (with_rule new_table forward_rule) refl) (λ _. facts new_table refl)

-- ---- event by event, where it isn't refused

-- the table after an event is sound
abbrev Sounds : Outcome → List ℕ → Type 0
Sounds o leavers = Sound o.after.table

module _ (s : Ledger) (was : Sound s.table) (n : ℕ) where
  by_change : (v : List ℕ) → TableChange s.table v n → Sound v
  by_change v c = change_keeps_sound s.table v n was c

  start_sound : Startable s.table n → Sounds (start s n) []
  unfolding start
  start_sound p =
      start_keeps_sound s.table (next_number s.table) n was (next_givable s.table was.few p.room) p.known p.alive
      p.unqueued

  read_sound : (k : ℕ) → Touchable s.table n k → Sounds (read s n k) []
  unfolding read
  read_sound k p = by_change _ (read_change s.table n k p.account was p.own p.alive)

  write_sound : (k : ℕ) (card : List ℕ) → Touchable s.table n k → Sounds (write s n k card) []
  unfolding write
  write_sound k card p = by_change _ (write_change s.table was n k p.own p.alive p.account)

  add_sound : (k : ℕ) (card : List ℕ) → Touchable s.table n k → IsCharge k → Sounds (add s n k card) []
  unfolding add
  add_sound k card p charge = by_change _ (add_change s.table was n k p.own p.alive charge _)

  judged_sound : Committable s.table n → (f : Option Found) → Sounds (judged s n f) []
  unfolding judged
  judged_sound j None = by_change _ (commit_change s was n j)
  judged_sound j (Some f) = by_change _ (fail_change s.table was n j)

  enter_sound : Committable s.table n → Sounds (enter s n) []
  unfolding enter enter_table
  enter_sound free = by_change _ (tail_change was (kind_of s.table n) (kind_known (parent_of s.table n)) n refl free _ n)

  -- before a head is tried: where it is its own queue's
  pub left_sound : Sound (without_below s.table (kind_of s.table n) n)
  left_sound = by_change _ (without_change was (kind_of s.table n) (kind_known (parent_of s.table n)) n n)

  pub revealed_sound : is_queued s.table (kind_of s.table n) n ≡ true → (b : Bool) → Sound (revealed s n b).table
  unfolding revealed
  revealed_sound queued true =
      change_keeps_sound _ _ n left_sound
      (fail_change _ left_sound n (out_committable was (kind_of s.table n) (kind_known (parent_of s.table n)) n queued))
  revealed_sound queued false =
      by_change _ (ready_change was (kind_of s.table n) (kind_known (parent_of s.table n)) n n)

  -- .. and where it is either queue's
  pub dropped_sound : Sound (dropped s n).table
  unfolding dropped
  dropped_sound =
      change_keeps_sound _ _ n (out_sound was n)
      (abort_change _ n (out_sound was n) (λ h known m queued. out_reach was n m ∙ (out_spared was n h known m queued).1))

  -- and after
  judge_sound : Judgeable s.table n → Sounds (judge s n) []
  unfolding judge judge_left
  judge_sound j =
      leave_keeps_sound (kind_of s.table n) (kind_known (parent_of s.table n)) _
      (revealed_sound j.queued (is_judged_failed s.table n))

  abort_sound : Sounds (abort s n) []
  unfolding abort abort_left
  abort_sound = both_keep_sound _ dropped_sound

-- ---- any event

pub step_keeps_sound : (s : Ledger) (e : Event) → Sound s.table → Sound (step s e).after.table
step_keeps_sound s e was =
    let n = e.number in
    step_by_kind s e Sounds was
    (start_sound s was n) (λ p _. read_sound s was n e.account p) (λ p _ _. write_sound s was n e.account e.card p)
    (λ j _ f _ _. judged_sound s was n j f) (λ p _ charge _. add_sound s was n e.account e.card p charge)
    (λ free _. enter_sound s was n free) (judge_sound s was n) (abort_sound s was n)
