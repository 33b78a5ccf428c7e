-- A change of the table that starts and commits nothing carries the sums on: a calm one, which changes no sum, and a quiet one,
-- which may add to pending sums and own adds alike. Assumes nothing.
use Prim.Native.Nat.{ℕ}
use mathlib.Core.Path.{◌≡◌, sym, ap, ap₂, ◌∙◌}
use mathlib.Core.List.{List}
use lib.IntN.{ℤ, pos, ◌+ℤ◌, +ℤ_idr, +ℤ_assoc, +ℤ_comm}
use Rattle.rules.specs.Amount.{amount_of}
use Rattle.rules.specs.Table.{highest, pending_word, pending_sum, own_adds_word, own_adds, kept_word, kept_sum, total_of}
use Rattle.rules.specs.Sound.{IsGiven}
use Rattle.rules.proofs.Tree.Carried.{Carried}

-- what is added to the first of two is added to both
add_behind : (a b z : ℤ) → (a +ℤ z) +ℤ b ≡ (a +ℤ b) +ℤ z
add_behind a b z = +ℤ_assoc a z b ∙ ap (λ y. a +ℤ y) (+ℤ_comm z b) ∙ sym (+ℤ_assoc a b z)

-- action m's pending sum and its own adds have grown by the same
pub record GrowAlike (w v : List ℕ) (k m : ℕ) : Type 0 where
  pub by : ℤ
  pub pending : pending_sum v m k ≡ pending_sum w m k +ℤ by
  pub own : own_adds v m k ≡ own_adds w m k +ℤ by

-- so they have where neither word changed
pub grow_nothing :
    (w v : List ℕ) (k m : ℕ) → pending_word v m k ≡ pending_word w m k → own_adds_word v m k ≡ own_adds_word w m k → GrowAlike w v k m
grow_nothing w v k m pending own =
    record {
      by = pos 0;
      pending = ap amount_of pending ∙ sym (+ℤ_idr (pending_sum w m k));
      own = ap amount_of own ∙ sym (+ℤ_idr (own_adds w m k));
    }

-- the table v after w: the same actions and kept sums; their other two sums grow alike
pub record Quiet (w v : List ℕ) (k : ℕ) : Type 0 where
  pub starts : highest v ≡ highest w
  pub kept : (m : ℕ) → kept_word v m k ≡ kept_word w m k
  pub grown : (m : ℕ) → IsGiven w m → GrowAlike w v k m

-- .. where no sum changes at all
pub record Calm (w v : List ℕ) (k : ℕ) : Type 0 where
  pub starts : highest v ≡ highest w
  pub kept : (m : ℕ) → kept_word v m k ≡ kept_word w m k
  pub pendings : (m : ℕ) → IsGiven w m → pending_word v m k ≡ pending_word w m k
  pub owns : (m : ℕ) → IsGiven w m → own_adds_word v m k ≡ own_adds_word w m k

pub calm_quiet : {w v : List ℕ} {k : ℕ} → Calm w v k → Quiet w v k
calm_quiet {w} {v} {k} calm =
    record {
      starts = calm.starts;
      kept = calm.kept;
      grown = λ m h. grow_nothing w v k m (calm.pendings m h) (calm.owns m h);
    }

pub quiet_carried : {w v : List ℕ} {k : ℕ} {opening now : ℤ} → Quiet w v k → Carried k opening w now → Carried k opening v now
quiet_carried {w} {v} {k} {opening} quiet was =
    record {
      sums = λ n h. carries n (h.0, rw quiet.starts at h.1);
      closing = was.closing ∙ ap (λ z. opening +ℤ z) (sym (kept_same 0));
    }
  where
    kept_same : (m : ℕ) → kept_sum v m k ≡ kept_sum w m k
    kept_same m = ap amount_of (quiet.kept m)

    carries : (n : ℕ) → IsGiven w n → pending_sum v n k ≡ total_of v n k
    carries n h =
        let grown = quiet.grown n h in
        grown.pending ∙ ap (λ y. y +ℤ grown.by) (was.sums n h)
        ∙ sym (ap₂ ◌+ℤ◌ grown.own (kept_same n) ∙ add_behind (own_adds w n k) (kept_sum w n k) grown.by)
