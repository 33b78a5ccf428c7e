-- What an event without an early cause may ask, by its code, of those who carry it out and of those who test its sums. Assumes nothing.
use Prim.Native.Nat.{ℕ}
use native.Mathlib.Omega.{arith}
use mathlib.Core.Path.{◌≡◌, refl, sym, ap, ◌∙◌}
use mathlib.Core.Logic.{◌≢◌}
use mathlib.Core.Bool.{◌||◌}
use mathlib.Core.List.{List}
use borrow.Author.Tests.{eq-eqb, ne_eqb, leb-true}
use Rattle.rules.specs.declared.event.Code.{Code}
use Rattle.rules.specs.declared.event.Code.TheVariants.{Start, Read, Write, Commit, Add, Enter, Judge}
use Rattle.rules.specs.Card.{first_charge, IsCharge, IsAccount, IsCard}
use Rattle.rules.specs.Code.{code_number}
use Rattle.rules.specs.Table.{kind_of, IsAction}
use Rattle.rules.specs.Free.{next_number}
use Rattle.rules.specs.Sound.{IsGiven, IsLiveAction, MayWait, Sound}
use Rattle.rules.specs.Event.{Event, start_code, read_code, write_code, add_code, judge_code, is_read, is_write}
use Rattle.rules.specs.Cause.{first_cause, early_causes}
use Rattle.rules.proofs.Laws.Tests.{or_inl, or_inr}
use Rattle.rules.proofs.Laws.Allowed.{EarlyAllowed, early_allowed}
use Rattle.ancestry.specs.Ancestry.{Readable}
use Rattle.judging.specs.Asked.{IsUnqueued, IsQueued}
use Rattle.rows.specs.Row.{HasRow}

module _ {w : List ℕ} (e : Event) (sound : Sound w) (code : Code) (is : code_number code ≡ e.code) (none : first_cause (early_causes w e) ≡ 0) where
  event : EarlyAllowed w e
  event = early_allowed w e none

  numbered : {c : Code} → code ≡ c → e.code ≡ code_number c
  numbered one = sym is ∙ ap code_number one

  own_number : e.code ≢ start_code → IsGiven w e.number
  own_number other = (event.named (ne_eqb e.code start_code other), event.number_known)

  own_row : HasRow w e.number
  own_row = record { long = sound.long; known = omega (arith, event.number_known, sound.few) }

  pub may_start : code ≡ Start → next_number w ≢ 0
  may_start one = event.room (eq-eqb e.code start_code (numbered one))

  pub may_read : code ≡ Read → Readable w e.number e.account
  may_read one =
      record {
        sound = sound;
        known = event.number_known;
        alive = event.alive;
        account = event.account_known (or_inl _ (or_inl (is_write e) (eq-eqb e.code read_code (numbered one))));
      }

  pub may_write : code ≡ Write → HasRow w e.number × ((IsAction e.number × IsAccount e.account) × IsCard e.card)
  may_write one =
      let writes = eq-eqb e.code write_code (numbered one) in
      let own = own_number (λ starts. omega (arith, starts, numbered one)) in (
        own_row,
        (
          ((own.0, omega (arith, own, sound.few)), event.account_known (or_inl _ (or_inr (is_read e) writes))),
          event.card_fits (or_inl _ writes),
        ),
      )

  pub may_commit : code ≡ Commit → IsLiveAction w e.number
  may_commit one = let own = own_number (λ starts. omega (arith, starts, numbered one)) in (own, event.alive own.0)

  pub may_add : code ≡ Add → HasRow w e.number × (IsCharge e.account × IsCard e.card)
  may_add one =
      let adds = eq-eqb e.code add_code (numbered one) in (
        own_row,
        (
          (leb-true first_charge e.account (event.charge_added adds), event.account_known (or_inr (is_read e || is_write e) adds)),
          event.card_fits (or_inr (is_write e) adds),
        ),
      )

  pub may_enter : code ≡ Enter → MayWait w (kind_of w e.number) e.number × IsUnqueued w e.number
  may_enter one =
      let own = own_number (λ starts. omega (arith, starts, numbered one)) in (
        record { begun = own; alive = event.alive own.0; kind = refl; childless = event.childless (rw (numbered one) refl) },
        event.unqueued (rw (numbered one) refl),
      )

  pub may_judge : code ≡ Judge → IsQueued w e.number
  may_judge one = (event.judge_due (eq-eqb e.code judge_code (numbered one))).0
