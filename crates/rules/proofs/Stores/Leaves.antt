-- What a change leaves of the two stores: the bytes that it may not change, and both lengths. Assumes nothing.
use Prim.Native.Nat.{ℕ}
use mathlib.Core.Path.{◌≡◌, refl, sym, ◌∙◌}
use mathlib.Core.Bool.{Bool, false, ◌&&◌}
use mathlib.Core.List.{List, ◌++◌}
use lib.Dec.{eqb}
use lib.ListN.{length, get_or}
use Rattle.rules.specs.Range.{any}
use Rattle.rules.specs.Card.{StoresFit}
use Rattle.rules.specs.Table.{parent_of}
use Rattle.rules.specs.Ledger.{Ledger, with_table}
use Rattle.rules.specs.Touch.{is_settled, is_joined}
use Rattle.rules.proofs.Laws.Tests.{or_neither}
use Rattle.rules.proofs.Laws.Lists.{any_append}

-- both stores have their lengths
abbrev pub LedgerFits : Ledger → Type 0
LedgerFits s = StoresFit s.base s.shadow

-- in t both are as long as in s
pub record SameLengths (s t : Ledger) : Type 0 where
  pub of_base : length t.base ≡ length s.base
  pub of_shadow : length t.shadow ≡ length s.shadow

pub still_fit : {s t : Ledger} → SameLengths s t → LedgerFits s → LedgerFits t
still_fit same fits =
    record { base_fits = same.of_base ∙ fits.base_fits; shadow_fits = same.of_shadow ∙ fits.shadow_fits }

-- the ledger t, after s, where byte i of the base store may have changed if in_base i, and of the shadow store if in_shadow i
pub record Leaves (in_base in_shadow : ℕ → Bool) (s t : Ledger) : Type 0 where
  pub lengths : SameLengths s t
  pub keeps_base : (i : ℕ) → in_base i ≡ false → get_or t.base i 0 ≡ get_or s.base i 0
  pub keeps_shadow : (i : ℕ) → in_shadow i ≡ false → get_or t.shadow i 0 ≡ get_or s.shadow i 0

-- a change of the table alone
pub stores_stay : {in_base in_shadow : ℕ → Bool} (s : Ledger) (v : List ℕ) → Leaves in_base in_shadow s (with_table s v)
stores_stay s v =
    record { lengths = record { of_base = refl; of_shadow = refl }; keeps_base = λ i h. refl; keeps_shadow = λ i h. refl }

-- RULES 4.5: by the table w, a commit of n changes byte i of the base store
abbrev pub is_settled_by : List ℕ → ℕ → ℕ → Bool
is_settled_by w i n = eqb (parent_of w n) 0 && is_settled w n i

-- .. and these commits, by the table w, change no other byte of either store
abbrev pub LeavesBy : List ℕ → List ℕ → Ledger → Ledger → Type 0
LeavesBy w ns = Leaves (λ i. any (is_settled_by w i) ns) (λ i. any (λ n. is_joined w n i) ns)

-- some commits, and then others
pub leaves_then :
    (w ns ms : List ℕ) {s t u : Ledger} → LeavesBy w ns s t → LeavesBy w ms t u → LeavesBy w (ns ++ ms) s u
leaves_then w ns ms first then =
    record {
      lengths =
          record {
            of_base = then.lengths.of_base ∙ first.lengths.of_base;
            of_shadow = then.lengths.of_shadow ∙ first.lengths.of_shadow;
          };
      keeps_base = λ i none.
          let (one, others) = neither (is_settled_by w i) none in
          then.keeps_base i others ∙ first.keeps_base i one;
      keeps_shadow = λ i none.
          let (one, others) = neither (λ n. is_joined w n i) none in
          then.keeps_shadow i others ∙ first.keeps_shadow i one;
    }
  where
    neither : (f : ℕ → Bool) → any f (ns ++ ms) ≡ false → (any f ns ≡ false) × (any f ms ≡ false)
    neither f none = or_neither (any f ns) (any f ms) (sym (any_append f ns ms) ∙ none)
