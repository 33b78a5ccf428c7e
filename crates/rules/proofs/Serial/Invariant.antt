-- What holds after every event: the blocks collected so far, run one after the other, do what the engine did. Who is still
-- fine is left open: the judging rule says it. Assumes nothing.
use mathlib.Core.Path.{◌≡◌, sym, ◌∙◌, ap}
use mathlib.Core.Logic.{◌≢◌}
use Prim.Native.Nat.{ℕ}
use native.Mathlib.Decide.{ℕ_discrete}
use Rattle.rules.specs.Serial.Block.{Block, empty}
use Rattle.rules.proofs.Serial.Values.{Values}
use Rattle.rules.proofs.Serial.Blocks.{own, good}
use Rattle.rules.proofs.Serial.AbstractState.{AbstractState, Live, HasRead, above}
use Rattle.rules.proofs.Serial.Change.{Stays, Change, Undisturbed, above_same}

-- ctx shows X each account that X has read as X's parent shows it now.
abbrev pub Agrees : {Vs : Values} → AbstractState Vs → ℕ → (ℕ → Vs.Val) → Type 0
Agrees s X ctx = (k : ℕ) → HasRead s X k → ctx k ≡ above s X k

-- What is known of the block d of a live action X: what it leaves and, while X is fine, that its reads come out right in
-- every context that agrees. Once X is no longer fine its reads may disagree, and no run of it is needed.
pub record Sure {Vs : Values} (s : AbstractState Vs) (got : ℕ → Vs.Val) (ok : Type 0) (X : ℕ) (d : Block Vs.Eff) : Type 0 where
  pub leaves : (k : ℕ) → own Vs d k ≡ s.eff X k
  pub fine : ok → (ctx : ℕ → Vs.Val) → Agrees s X ctx → good Vs got d ctx

-- What is known of the store's block d, which is run from the opening base store.
pub record StoreSure {Vs : Values} (s : AbstractState Vs) (got opening : ℕ → Vs.Val) (d : Block Vs.Eff) : Type 0 where
  pub leaves : (k : ℕ) → Vs.over (own Vs d k) (opening k) ≡ s.base k
  pub fine : good Vs got d opening

-- got: what the read at each place of S was given; ok: who is still fine; b: the blocks.
pub record Inv {Vs : Values} (s : AbstractState Vs) (got opening : ℕ → Vs.Val) (ok : ℕ → Type 0) (b : ℕ → Block Vs.Eff)
    : Type 0 where
  pub store : StoreSure s got opening (b 0)
  pub actions : (X : ℕ) → Live s X → Sure s got (ok X) X (b X)

-- The collector puts d for the block of A and keeps every other block that counts: the store's and the live actions'.
pub record Put {Vs : Values} (s' : AbstractState Vs) (b b' : ℕ → Block Vs.Eff) (A : ℕ) (d : Block Vs.Eff) : Type 0 where
  pub new : b' A ≡ d
  pub store_kept : A ≢ 0 → b' 0 ≡ b 0
  pub live_kept : (X : ℕ) → Live s' X → X ≢ A → b' X ≡ b X

-- Before the first event.
pub inv_opening : {Vs : Values} {s : AbstractState Vs} {got opening : ℕ → Vs.Val} {ok : ℕ → Type 0} {b : ℕ → Block Vs.Eff}
    → ((X : ℕ) → Live s X → ⊥) → ((k : ℕ) → s.base k ≡ opening k) → b 0 ≡ empty → Inv s got opening ok b
unfolding own good
inv_opening {Vs} {opening = opening} nobody base≡ none =
    record {
      store = rw none (record { leaves = λ k. Vs.over_nil (opening k) ∙ sym (base≡ k); fine = tt });
      actions = λ X l. absurd (nobody X l);
    }

-- From the one block that a step has changed, and those that it has kept, to the invariant after it.
module _ {Vs : Values} {s' : AbstractState Vs} {b b' : ℕ → Block Vs.Eff} {A : ℕ} {d : Block Vs.Eff} (p : Put s' b b' A d)
    {got : ℕ → Vs.Val} where
  put_store : {opening : ℕ → Vs.Val} → (A ≡ 0 → StoreSure s' got opening d) → (A ≢ 0 → StoreSure s' got opening (b 0))
      → StoreSure s' got opening (b' 0)
  put_store {opening} changed kept = cases (ℕ_discrete A 0)
    where
      cases : Dec (A ≡ 0) → StoreSure s' got opening (b' 0)
      cases (yes A≡0) = rw (ap b' (sym A≡0) ∙ p.new) (changed A≡0)
      cases (no A≢0) = rw (p.store_kept A≢0) (kept A≢0)

  module _ {ok' : ℕ → Type 0} (changed : Live s' A → Sure s' got (ok' A) A d)
      (kept : (X : ℕ) → Live s' X → X ≢ A → Sure s' got (ok' X) X (b X)) where
    put_actions : (X : ℕ) → Live s' X → Sure s' got (ok' X) X (b' X)
    put_actions X l' = cases (ℕ_discrete X A)
      where
        cases : Dec (X ≡ A) → Sure s' got (ok' X) X (b' X)
        cases (yes X≡A) = rw X≡A (rw p.new (changed (rw X≡A at l')))
        cases (no X≢A) = rw (p.live_kept X l' X≢A) (kept X l' X≢A)

    pub inv_put : {opening : ℕ → Vs.Val} → (A ≡ 0 → StoreSure s' got opening d) → (A ≢ 0 → StoreSure s' got opening (b 0))
        → Inv s' got opening ok' b'
    inv_put store_changed store_kept = record { store = put_store store_changed store_kept; actions = put_actions }

-- Of a block that a step leaves alone, what was known is known still.
pub store_stays : {Vs : Values} {s s' : AbstractState Vs} {got opening : ℕ → Vs.Val} {d : Block Vs.Eff}
    → ((k : ℕ) → s'.base k ≡ s.base k) → StoreSure s got opening d → StoreSure s' got opening d
store_stays base≡ sure = record { leaves = λ k. sure.leaves k ∙ sym (base≡ k); fine = sure.fine }

module _ {Vs : Values} {s s' : AbstractState Vs} {P : ℕ} {f : ℕ → Vs.Eff} (c : Change s s' P f) {X : ℕ} (x : Stays s s' X)
    {ok ok' : Type 0} (ok_before : ok' → ok) (undisturbed : ok' → Undisturbed s s' P f X)
    {got : ℕ → Vs.Val} {d : Block Vs.Eff} (sure : Sure s got ok X d) where
  pub good_stays : ok' → (ctx : ℕ → Vs.Val) → Agrees s' X ctx → good Vs got d ctx
  good_stays o ctx agrees =
      sure.fine (ok_before o) ctx (λ k has. agrees k (c.reads_kept X k x has) ∙ above_same c x (undisturbed o k has))

  pub sure_stays : X ≢ P → Sure s' got ok' X d
  sure_stays X≢P = record { leaves = λ k. sure.leaves k ∙ sym (c.eff_kept X k x X≢P); fine = good_stays }
