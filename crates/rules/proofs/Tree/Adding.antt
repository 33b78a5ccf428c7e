-- An add starts and commits nothing, and adds to the pending sum and the own adds alike. Assumes nothing.
use Prim.Native.Nat.{ℕ, ◌<◌}
use native.Mathlib.Omega.{arith}
use native.Mathlib.Decide.{ℕ_discrete}
use mathlib.Core.Path.{◌≡◌, ap, ◌∙◌}
use mathlib.Core.Logic.{◌≢◌}
use mathlib.Core.List.{List}
use lib.IntN.{ℤ}
use Rattle.rules.specs.Card.{IsCharge}
use Rattle.rules.specs.Amount.{amount_of, amount_in}
use Rattle.rules.specs.Table.{width, word, highest_field, write_field, pending_field, own_adds_field, kept_field}
use Rattle.rules.specs.Sound.{Sound}
use Rattle.rules.specs.Step.{add_table}
use Rattle.rules.proofs.Laws.Amounts.{amount_read_back}
use Rattle.rules.proofs.Laws.Permitted.{Touchable, AddFits}
use Rattle.rules.proofs.Sound.Adding.{first_own_adds, add_keeps_field, add_keeps_behind, add_keeps_row, add_pending, add_own_adds, add_keeps_own_adds}
use Rattle.rules.proofs.Tree.Quiet.{GrowAlike, grow_nothing, Quiet}

-- n adds the amount in this card to charge account j
module _
    {w : List ℕ} (s : Sound w) (n k : ℕ) (charge : IsCharge k) (j : ℕ) (card : List ℕ) (permitted : Touchable w n j)
    (to : IsCharge j) (fits : AddFits w n j card) where
  abbrev x : ℤ
  x = amount_in card

  abbrev v : List ℕ
  v = add_table w n j x

  field_kept : (m g : ℕ) → g < first_own_adds → g ≢ write_field j → g ≢ pending_field j → word v m g ≡ word w m g
  field_kept = add_keeps_field w s n j permitted.own permitted.alive to x

  kept_row : (m g : ℕ) → g < width → m ≢ n → word v m g ≡ word w m g
  kept_row = add_keeps_row w s n j permitted.own permitted.alive to x

  grown_there : GrowAlike w v j n
  grown_there =
      record {
        by = x;
        pending =
            ap amount_of (add_pending w s n j permitted.own permitted.alive to x) ∙ amount_read_back _ fits.pending_fits;
        own = ap amount_of (add_own_adds w s n j permitted.own permitted.alive to x) ∙ amount_read_back _ fits.own_adds_fit;
      }

  grown : (m : ℕ) → Dec (m ≡ n) → Dec (k ≡ j) → GrowAlike w v k m
  grown m (no ne) _ =
      grow_nothing w v k m (kept_row m (pending_field k) (omega arith) ne) (kept_row m (own_adds_field k) (omega arith) ne)
  grown m (yes e) (no ne) =
      grow_nothing w v k m
      (field_kept m (pending_field k) (omega arith) (λ z. omega arith) (λ z. ne (omega arith)))
      (add_keeps_own_adds w s n j permitted.own permitted.alive to x m k charge ne)
  grown m (yes e) (yes same) = rw (e, same) grown_there

  pub add_quiet : Quiet w v k
  add_quiet =
      record {
        starts = field_kept 0 highest_field (omega arith) (λ z. omega arith) (λ z. omega arith);
        kept = λ m. add_keeps_behind w s n j permitted.own permitted.alive to x m (kept_field k) (omega arith) (omega arith);
        grown = λ m h. grown m (ℕ_discrete m n) (ℕ_discrete k j);
      }
