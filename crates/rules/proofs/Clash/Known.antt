-- The verdict by the newest end times is the verdict by the records: in a sound table a live action has a known clash exactly where
-- its clash list is not empty. Assumes nothing.
use Prim.Native.Nat.{ℕ, ◌<◌}
use native.Mathlib.Omega.{arith}
use mathlib.Core.Path.{◌≡◌, refl, sym, ◌∙◌}
use mathlib.Core.Bool.{true, false, not, ◌&&◌, true≢false}
use mathlib.Core.List.{List, Memᴰ}
use lib.Dec.{ltb}
use borrow.Author.Tests.{ltb-true, lt-ltb}
use Rattle.rules.specs.declared.Found.{Found}
use Rattle.std.specs.Prelude.{Option, Some, None}
use Rattle.rules.specs.Card.{account_count, accounts}
use Rattle.rules.specs.Table.{parent_of, kind_of, end_time, has_read, read_time, has_written}
use Rattle.rules.specs.Stale.{is_stale, is_known_stale, is_known_clash}
use Rattle.rules.specs.Clash.{Pair, clashes, first_clash, is_clear}
use Rattle.rules.specs.Sound.{IsLiveAction, Sound}
use Rattle.rules.proofs.Laws.Tests.{and_left, and_right, and_both, and_fails, false_of_not_true}
use Rattle.rules.proofs.Laws.Ranges.{any_at, not_any}
use Rattle.rules.proofs.Laws.Walking.{parent_store_or_live}
use Rattle.rules.proofs.Laws.Under.{under_parent}
use Rattle.rules.proofs.Laws.Staleness.{Overwrites, stale_by, stale_record}
use Rattle.rules.proofs.Clash.Clashes.{IsClashing, in_clashes, clash_was_read, Finds, finds_none, finds_at, first_clash_finds}
use Rattle.rules.proofs.Clash.Records.{record_parent}

module _ (w : List ℕ) (n : ℕ) where
  -- the time of n's read of account k that is compared
  abbrev read_at : ℕ → ℕ
  read_at k = read_time w (kind_of w n) n k

  -- a record that n clashes with over account k makes n's read stale
  clash_overwrites : (c : Pair) → IsClashing w n c → Overwrites w (parent_of w n) c.account (read_at c.account) c.holder
  clash_overwrites c h =
      let m = c.holder in
      let k = c.account in
      let both = and_left (has_written w m k && has_read w n k) _ h.clash in
      let late = and_right (has_written w m k && has_read w n k) (ltb (read_time w (kind_of w m) n k) (end_time w m)) h.clash in
      record {
        begun = h.begun;
        is_record = h.is_record;
        written = and_left (has_written w m k) (has_read w n k) both;
        later = rw (record_parent w (parent_of w n) m h.is_record) at (ltb-true (read_time w (kind_of w m) n k) (end_time w m) late);
      }

  -- .. and any that makes it stale is one
  overwrites_clash :
      (m k : ℕ) → k < account_count → has_read w n k ≡ true → Overwrites w (parent_of w n) k (read_at k) m →
      Memᴰ (record { holder = m; account = k }) (clashes w n)
  overwrites_clash m k account read o =
      (in_clashes w n _).1
      (record {
        begun = o.begun;
        is_record = o.is_record;
        known = account;
        clash = and_both (and_both o.written read) (rw (record_parent w (parent_of w n) m o.is_record) (lt-ltb _ _ o.later));
      })

  module _ (s : Sound w) (lives : IsLiveAction w n) where
    -- what a sound table says of n and its own parent
    told :
        (k : ℕ) → k < account_count → has_read w n k ≡ true →
        is_known_stale w (parent_of w n) k (read_at k) ≡ is_stale w (parent_of w n) k (read_at k)
    told k = s.newest_true (parent_of w n) n k (parent_store_or_live s n lives.0 lives.1) lives (under_parent s n lives)

    known_as_found : {found : Option Found} → Finds w (λ c. Memᴰ c (clashes w n)) found → is_known_clash w n ≡ not (is_clear found)
    unfolding is_known_clash accounts
    known_as_found (finds_none none) =
        not_any _ 0 account_count
        (λ k inside.
        (and_fails (has_read w n k) _).1
        (λ read.
        told k (omega arith) read
        ∙ false_of_not_true _
        (λ is.
        let (m, o) = stale_record w (parent_of w n) k (read_at k) is in
        none _ (overwrites_clash m k (omega arith) read o))))
    known_as_found (finds_at {k = k} first) =
        let c : Pair = record { holder = first.holder; account = k } in
        let h = (in_clashes w n c).0 first.listed in
        let read = clash_was_read w n c.holder k h.clash in
        any_at _ 0 account_count k (omega (arith, h.known))
        (and_both read (told k h.known read ∙ stale_by w (parent_of w n) k (read_at k) c.holder (clash_overwrites c h)))

-- RULES 4.10
pub known_clash : (w : List ℕ) → Sound w → (n : ℕ) → IsLiveAction w n → is_known_clash w n ≡ not (is_clear (first_clash w n))
known_clash w s n lives = known_as_found w n s lives (first_clash_finds w n)

-- so the records are searched only for a clash that is there
pub known_clear : (w : List ℕ) → Sound w → (n : ℕ) → IsLiveAction w n → is_known_clash w n ≡ false → first_clash w n ≡ None
known_clear w s n lives none = go (first_clash w n) refl
  where
    go : (found : Option Found) → first_clash w n ≡ found → first_clash w n ≡ None
    go None e = e
    go (Some f) e = absurd (true≢false (sym (rw e at (known_clash w s n lives)) ∙ none))
