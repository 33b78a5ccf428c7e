-- A look: its cause is a read's, and with one it gives the empty part; else the part is a whole card inside its store, the
-- base card where the account is a charge account. Assumes nothing.
use Prim.Native.Nat.{ℕ, ◌+◌, ◌≤◌}
use native.Mathlib.Omega.{arith}
use mathlib.Core.Path.{◌≡◌, refl, sym, ◌∙◌}
use mathlib.Core.Logic.{◌≢◌}
use mathlib.Core.Bool.{true}
use mathlib.Core.List.{List, []}
use lib.Dec.{eqb}
use lib.ListN.{length}
use borrow.Author.Tests.{eq-eqb, ne_eqb}
use Rattle.rules.specs.Card.{is_charge, card_length, base_place, card_at}
use Rattle.rules.specs.Table.{most_actions}
use Rattle.rules.specs.Event.{read_code, read_by}
use Rattle.rules.specs.Cause.{are_outside, store_causes, early_causes, late_causes, causes_of, cause_of}
use Rattle.rules.specs.Nearest.{nearest, version}
use Rattle.rules.specs.Look.{Looked, look_cause, Part, empty_part, look_at, look, bytes_in, looked_card}
use Rattle.rules.proofs.Laws.Tests.{cond_holds}
use Rattle.rules.proofs.Laws.Walking.{sound_climbs, moves_to_store, nearest_given}
use Rattle.rules.proofs.Laws.Charges.{nearest_charge, moves_up_charge}
use Rattle.rules.proofs.Sound.Soundness.{facts}
use Rattle.rules.proofs.Laws.Allowed.{Allowed, allowed}
use Rattle.rules.proofs.Copies.Lines.{base_line, shadow_line, line_fits}

-- RULES 3.2: its cause is the one of a read of the same action and account
pub look_refused_as_read :
    (w base shadow : List ℕ) (n k : ℕ) (card : List ℕ) →
    look_cause w base shadow n k ≡ cause_of w base shadow (record { code = read_code; number = n; account = k; card = card })
unfolding look_cause cause_of causes_of store_causes early_causes late_causes are_outside
look_refused_as_read w base shadow n k card = refl

-- RULES 3.2: refused
pub look_refused_is :
    (w base shadow : List ℕ) (n k : ℕ) → look_cause w base shadow n k ≢ 0 →
    look w base shadow n k ≡ record { cause = look_cause w base shadow n k; part = empty_part; moves = 0 }
unfolding look
look_refused_is w base shadow n k h = rw (ne_eqb (look_cause w base shadow n k) 0 h)

pub look_given :
    (w base shadow : List ℕ) (n k : ℕ) → look_cause w base shadow n k ≡ 0 →
    look w base shadow n k ≡ look_at (version w n k) k
unfolding look
look_given w base shadow n k h = rw (eq-eqb (look_cause w base shadow n k) 0 h)

-- ---- a look that isn't refused

-- no cause applies to the read either
pub read_allowed : (w base shadow : List ℕ) (n k : ℕ) → look_cause w base shadow n k ≡ 0 → Allowed w base shadow (read_by n k)
read_allowed w base shadow n k h = allowed w base shadow (read_by n k) (sym (look_refused_as_read w base shadow n k []) ∙ h)

-- a part that is a card of 32 bytes inside its store
abbrev pub IsWholeCard : List ℕ → List ℕ → Part → Type 0
IsWholeCard base shadow p = (p.size ≡ card_length) × (p.place + p.size ≤ length (bytes_in base shadow p.store))

pub look_inside :
    (w base shadow : List ℕ) (n k : ℕ) → look_cause w base shadow n k ≡ 0 → IsWholeCard base shadow (look w base shadow n k).part
look_inside w base shadow n k h =
    let a = read_allowed w base shadow n k h in
    let sound = facts w a.sound_test in
    let few : nearest w n k ≤ most_actions = omega (arith, nearest_given w sound n k (a.early.number_known, a.early.alive), sound.few) in
    let in_base_store = line_fits (base_line base a.base_fits) k (a.early.account_known refl) in
    let in_shadow_store = line_fits (shadow_line shadow (nearest w n k) a.shadow_fits few) k (a.early.account_known refl) in
    rw (look_given w base shadow n k h)
    (cond_holds (IsWholeCard base shadow) (eqb (nearest w n k) 0) (λ _. (refl, in_base_store)) (λ _. (refl, in_shadow_store)))

-- RULES 3.4: of a charge account it shows the base card, as many moves up as the action lies deep
module _ (w base shadow : List ℕ) (n k : ℕ) (given : look_cause w base shadow n k ≡ 0) (charge : is_charge k ≡ true) where
  pub look_charge : look w base shadow n k ≡ look_at (record { holder = 0; moves = moves_to_store w n }) k
  look_charge =
      let a = read_allowed w base shadow n k given in
      let up = sound_climbs (facts w a.sound_test) n (a.early.number_known, a.early.alive) in
      look_given w base shadow n k given ∙ rw (nearest_charge w k charge n up, moves_up_charge w k charge n up)

  pub looked_card_charge : looked_card w base shadow n k ≡ card_at base (base_place k)
  unfolding card_at
  looked_card_charge = rw look_charge

-- a look's part, refused or not, is no longer than a card
pub look_at_most_card : (w base shadow : List ℕ) (n k : ℕ) → (look w base shadow n k).part.size ≤ card_length
unfolding look
look_at_most_card w base shadow n k =
    cond_holds (λ (l : Looked). l.part.size ≤ card_length) (eqb (look_cause w base shadow n k) 0)
    (λ _. cond_holds (λ (p : Part). p.size ≤ card_length) (eqb (nearest w n k) 0) (λ _. omega arith) (λ _. omega arith))
    (λ _. omega arith)
