-- A step that starts nothing keeps what is remembered of the records that there were: whoever has committed keeps its row, and
-- each read has a time that there was, or is made now. Assumes nothing.
use Prim.Native.Nat.{ℕ, ◌≤◌, ◌<◌}
use native.Mathlib.Omega.{arith}
use mathlib.Core.Path.{◌≡◌, sym, ◌∙◌}
use mathlib.Core.Logic.{⊎_map, ⊎_elim}
use mathlib.Core.Bool.{true}
use mathlib.Core.List.{Memᴰ}
use Rattle.rules.specs.Card.{account_count}
use Rattle.rules.specs.Kind.{IsKind, kind_under}
use Rattle.rules.specs.Table.{highest, counter, parent_of, read_time, newest, has_writes, is_committed, is_record_of}
use Rattle.rules.specs.Sound.{IsGiven}
use Rattle.rules.specs.Ledger.{Ledger}
use Rattle.rules.specs.History.{Had, History}
use Rattle.rules.proofs.Laws.Tests.{and_left}
use Rattle.rules.proofs.Laws.Kinds.{kind_known}
use Rattle.rules.proofs.Sound.TableChanges.{ReadFrom, own, child's, made_now, NewestNow, TableChange}
use Rattle.rules.proofs.Sound.NewestKept.{record_committed, record_kept}
use Rattle.rules.proofs.Clash.Records.{record_has_end}
use Rattle.rules.proofs.Serial.AbstractState.{Below, child_of, further, HasRead}
use Rattle.rules.proofs.Demand.Abstraction.{is_alive, abstraction}
use Rattle.rules.proofs.Demand.Proper.{Proper}
use Rattle.rules.proofs.Demand.AbstractionLaws.{alive_given, alive_live, live_alive, read_account, read_entered, account_read}
use Rattle.rules.proofs.Demand.Views.{was_alive, same_parent}
use Rattle.rules.proofs.Demand.Unders.{below_live, below_held}
use Rattle.rules.proofs.History.Remembered.{StandsIn, Recorded, recorded_on, stands_on, Held, Remembers}

module _ (s t : Ledger) (proper : Proper s) {now : ℕ} (c : TableChange s.table t.table now) where
  held_before : {Q : ℕ} → Held t Q → Held s Q
  held_before = ⊎_map (λ store. store) (was_alive c _)

  below_before : {Q X : ℕ} → Below (abstraction t) Q X → Below (abstraction s) Q X
  below_before (child_of {X = X} l e) =
      let was = was_alive c X l in child_of was (sym (same_parent c X was) ∙ e)
  below_before (further {X = X} l b) =
      let was = was_alive c X l in further was (rw (same_parent c X was) at (below_before b))

  module _ {had : History} (remembers : Remembers s had) where
    -- it was in the table, as a record, and its row is kept
    recorded_still : {Q : ℕ} {r : Had} → Recorded s.table Q r → Recorded t.table Q r
    recorded_still {Q} is =
        recorded_on is (rw c.same_highest is.begun)
        (c.finals is.holder is.begun (record_committed s.table Q is.holder is.is_record))

    pub old_kept :
        (Q X k : ℕ) → Below (abstraction t) Q X → HasRead (abstraction t) X k → (r : Had) → Memᴰ r (had Q) →
        read_time t.table (kind_under Q) X k < r.end → Recorded t.table Q r
    old_kept Q X k below has r member late =
        recorded_still
        (from
        (c.reads (kind_under Q) X k (kind_known Q) (alive_given s.table X (was_alive c X l)) (alive_live t.table X l) account
        (read_entered t.table X k has)))
      where
        l : is_alive t.table X ≡ true
        l = below_live below

        account : k < account_count
        account = read_account t.table X k has

        was : Below (abstraction s) Q X
        was = below_before below

        from : ReadFrom s.table t.table (kind_under Q) X k → Recorded s.table Q r
        from (own had_read same) =
            remembers.kept Q X k was (account_read s.table X k account had_read) r member (omega (arith, same))
        from (child's x (given, lives) under had_read same) =
            remembers.kept Q x k (further (live_alive s.table x given lives) (rw under was))
            (account_read s.table x k account had_read) r member (omega (arith, same))
        from (made_now same) = absurd (omega (arith, same, remembers.ends Q (below_held s proper was) r member))

    -- a record that had committed before
    pub old_real :
        (Q m : ℕ) → Held t Q → IsGiven s.table m → is_committed s.table m ≡ true → is_record_of t.table Q m ≡ true →
        (r : Had) × Memᴰ r (had Q) × StandsIn t.table r m
    old_real Q m held begun done is =
        let row = c.finals m begun done in
        let (r, member, stands) =
        remembers.real Q m (held_before held) begun (sym (record_kept s.table t.table Q m row) ∙ is) in
        (r, member, stands_on s.table t.table m row stands)

    pub old_ends : (Q : ℕ) → Held t Q → (r : Had) → Memᴰ r (had Q) → r.end ≤ counter t.table (kind_under Q)
    old_ends Q held r member =
        omega (arith, remembers.ends Q (held_before held) r member, c.rising (kind_under Q) (kind_known Q))

    -- ---- where nobody commits

    module _ (counters : (h : ℕ) → IsKind h → counter t.table h ≡ counter s.table h) where
      -- an end that is new would be above the counter
      had_committed : (m : ℕ) → IsGiven s.table m → (Q : ℕ) → is_record_of t.table Q m ≡ true → is_committed s.table m ≡ true
      had_committed m begun Q is =
          ⊎_elim
          (λ old. and_left (is_committed s.table m) (has_writes s.table m) old.0)
          (λ new. absurd (omega (arith, new.2, counters _ (kind_known (parent_of s.table m)))))
          (c.ends m begun (record_has_end t.table Q m is))

      same_newest : (Q k : ℕ) → Q ≤ highest s.table → k < account_count → newest t.table Q k ≡ newest s.table Q k
      same_newest Q k known account =
          ⊎_elim
          (λ stays. stays.0)
          (λ (is : NewestNow s.table t.table Q k).
          absurd (omega (arith, is.late, is.in_time, counters (kind_under Q) (kind_known Q))))
          (c.newests Q k known account)

      pub calm_remembers : Remembers t had
      calm_remembers =
          record {
            kept = old_kept;
            real = λ Q m held begun is.
                let was : IsGiven s.table m = rw c.same_highest at begun in
                old_real Q m held was (had_committed m was Q is) is;
            ends = old_ends;
            newests = λ Q k known account.
                let was : Q ≤ highest s.table = rw c.same_highest at known in
                same_newest Q k was account ∙ remembers.newests Q k was account;
          }
