-- What a table must remember of the records that each parent has had: every one that ended after a read of somebody below that
-- parent. Each event keeps this (Kept.antt). Assumes nothing.
use Prim.Native.Nat.{ℕ, ◌≤◌, ◌<◌}
use native.Mathlib.Omega.{arith}
use mathlib.Core.Path.{◌≡◌, sym, ap, ◌∙◌}
use mathlib.Core.Logic.{◌⊎◌, inl}
use mathlib.Core.Bool.{true, not}
use mathlib.Core.List.{List, Memᴰ}
use lib.Dec.{eqb}
use Rattle.rules.specs.Card.{account_count}
use Rattle.rules.specs.Kind.{kind_under}
use Rattle.rules.specs.Table.{counter, end_field, end_time, read_time, write_field, has_written, is_record_of, highest, newest}
use Rattle.rules.specs.Sound.{IsGiven}
use Rattle.rules.specs.Ledger.{Ledger}
use Rattle.rules.specs.History.{Had, History, record_in}
use Rattle.rules.proofs.Serial.AbstractState.{Live, Below, HasRead}
use Rattle.rules.proofs.Demand.Abstraction.{abstraction}
use Rattle.rules.proofs.Sound.NewestKept.{record_kept}
use Rattle.rules.proofs.Sound.TableChanges.{RowKept}
use Rattle.rules.specs.NewestHad.{newest_had}

-- ---- a record in the table

-- what is known of the record r stands in row m
pub record StandsIn (w : List ℕ) (r : Had) (m : ℕ) : Type 0 where
  pub end : end_time w m ≡ r.end
  pub wrote : (k : ℕ) → k < account_count → has_written w m k ≡ r.wrote k

-- the table has r as a record of Q
pub record Recorded (w : List ℕ) (Q : ℕ) (r : Had) : Type 0 where
  pub holder : ℕ
  pub begun : IsGiven w holder
  pub is_record : is_record_of w Q holder ≡ true
  pub stands : StandsIn w r holder

module _ (w v : List ℕ) (m : ℕ) (row : RowKept w v m) where
  written_kept : (k : ℕ) → k < account_count → has_written v m k ≡ has_written w m k
  written_kept k account = ap (λ entry. not (eqb entry 0)) (row (write_field k) (inl (omega arith)))

  -- a row that is kept holds the record that it held
  pub stands_on : {r : Had} → StandsIn w r m → StandsIn v r m
  stands_on stands =
      record {
        end = row end_field (inl (omega arith)) ∙ stands.end;
        wrote = λ k account. written_kept k account ∙ stands.wrote k account;
      }

  -- .. what is read from it afterwards too
  pub read_later : StandsIn w (record_in v m) m
  read_later =
      record {
        end = sym (row end_field (inl (omega arith)));
        wrote = λ k account. sym (written_kept k account);
      }

pub recorded_on :
    {w v : List ℕ} {Q : ℕ} {r : Had} (is : Recorded w Q r) → IsGiven v is.holder → RowKept w v is.holder → Recorded v Q r
recorded_on {w} {v} {Q} is begun row =
    record {
      holder = is.holder;
      begun = begun;
      is_record = record_kept w v Q is.holder row ∙ is.is_record;
      stands = stands_on w v is.holder row is.stands;
    }

-- ---- what is remembered

-- Q is the store or live
abbrev pub Held : Ledger → ℕ → Type 0
Held s Q = (Q ≡ 0) ⊎ Live (abstraction s) Q

-- `had` has the records that each parent has had
pub record Remembers (s : Ledger) (had : History) : Type 0 where
  -- one that ended after a read, of whatever account, of somebody below its parent is in the table
  pub kept :
      (Q X k : ℕ) → Below (abstraction s) Q X → HasRead (abstraction s) X k → (r : Had) → Memᴰ r (had Q) →
      read_time s.table (kind_under Q) X k < r.end → Recorded s.table Q r
  -- the table has no other
  pub real :
      (Q m : ℕ) → Held s Q → IsGiven s.table m → is_record_of s.table Q m ≡ true →
      (r : Had) × Memᴰ r (had Q) × StandsIn s.table r m
  -- none ended later than now
  pub ends : (Q : ℕ) → Held s Q → (r : Had) → Memᴰ r (had Q) → r.end ≤ counter s.table (kind_under Q)
  -- the newest is noted, of finished parents too
  pub newests : (Q k : ℕ) → Q ≤ highest s.table → k < account_count → newest s.table Q k ≡ newest_had k (had Q)
