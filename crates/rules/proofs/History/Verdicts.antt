-- The first clash with the records that are in the table is the first with all that the parent has had: the pairs of end time and
-- account are the same. Assumes nothing.
use Rattle.std.specs.Prelude.{Option}
use Prim.Native.Nat.{ℕ, ◌<◌}
use native.Mathlib.Omega.{arith}
use mathlib.Core.Path.{◌≡◌, refl, sym, ap, ◌∙◌}
use mathlib.Core.Logic.{◌↔◌, ◌⊎◌, inl, inr, ⊎_elim}
use mathlib.Core.Bool.{true, ◌&&◌}
use mathlib.Core.List.Memᴰ
use mathlib.Core.List.{List, [], ◌∷◌, Memᴰ}
use lib.Dec.{ltb}
use borrow.Author.Tests.{ltb-true}
use Rattle.rules.specs.declared.Found.{Found}
use Rattle.rules.specs.Range.{filter}
use Rattle.rules.specs.Card.{account_count, accounts}
use Rattle.rules.specs.Table.{parent_of, kind_of, has_read, read_time, is_live}
use Rattle.rules.specs.Sound.{IsGiven}
use Rattle.rules.specs.Clash.{clashes, first_clash}
use Rattle.rules.specs.Ledger.{Ledger}
use Rattle.rules.specs.History.{Had, History, is_had_clash, earliest, first_had_clash}
use Rattle.rules.proofs.Laws.Tests.{and_left, and_right}
use Rattle.rules.proofs.Laws.Ranges.{filter_only, filter_every}
use Rattle.rules.proofs.Clash.Firsts.{Pairs, FindsPair, no_pair, pair_once, pair_same, earlier_pair}
use Rattle.rules.proofs.Clash.Clashes.{in_clashes, TimesOf, least_pair}
use Rattle.rules.proofs.Clash.Records.{record_parent}
use Rattle.rules.proofs.Serial.AbstractState.{child_of}
use Rattle.rules.proofs.Demand.Abstraction.{is_alive}
use Rattle.rules.proofs.Demand.Proper.{Proper}
use Rattle.rules.proofs.Demand.AbstractionLaws.{live_alive, account_read, parent_alive}
use Rattle.rules.proofs.History.Remembered.{Remembers}

-- ---- the first clash with records that were had

-- one of these accounts at time t, or a pair with P
abbrev OrAt : ℕ → List ℕ → Pairs → Pairs
OrAt t ks P u l = ((u ≡ t) × Memᴰ l ks) ⊎ P u l

earliest_pair : {P : Pairs} (t : ℕ) (ks : List ℕ) {found : Option Found} → FindsPair P found → FindsPair (OrAt t ks P) (earliest t ks found)
unfolding earliest
earliest_pair t [] first = pair_same (λ u l. (inr, ⊎_elim (λ at. absurd (Memᴰ.not-nil at.1)) (λ p. p))) first
earliest_pair {P} t (k ∷ ks) first = pair_same same (earlier_pair t k (earliest_pair t ks first))
  where
    same : (u l : ℕ) → (((u ≡ t) × (l ≡ k)) ⊎ OrAt t ks P u l) ↔ OrAt t (k ∷ ks) P u l
    same u l = (
      ⊎_elim
          (λ at. inl (at.0, Memᴰ.head at.1))
          (⊎_elim (λ at. inl (at.0, Memᴰ.tail at.1)) inr),
      ⊎_elim
          (λ at. ⊎_elim (λ e. inl (at.0, e)) (λ later. inr (inl (at.0, later))) (Memᴰ.cases_cons at.1))
          (λ p. inr (inr p)),
    )

module _ (w : List ℕ) (n : ℕ) where
  -- the end times and accounts of n's clashes with these records
  abbrev HadTimes : List Had → Pairs
  HadTimes rs t k =
      (r : Had) × Memᴰ r rs × (r.end ≡ t) × (k < account_count) × (is_had_clash w n r k ≡ true)

  first_or_later :
      (r : Had) (rs : List Had) (t k : ℕ) →
      OrAt r.end (filter (is_had_clash w n r) accounts) (HadTimes rs) t k ↔ HadTimes (r ∷ rs) t k
  unfolding accounts
  first_or_later r rs t k = (
    ⊎_elim
        (λ (time, member).
        let (inside, clash) = filter_only (is_had_clash w n r) 0 account_count k member in
        (r, Memᴰ.head refl, sym time, omega arith, clash))
        (λ (x, member, time, account, clash). (x, Memᴰ.tail member, time, account, clash)),
    λ (x, member, time, account, clash).
        ⊎_elim
        (λ e. inl (sym time ∙ ap (λ y. y.end) e, filter_every (is_had_clash w n r) 0 account_count k (omega arith) (rw e at clash)))
        (λ later. inr (x, later, time, account, clash))
        (Memᴰ.cases_cons member),
  )

  had_pair : (rs : List Had) → FindsPair (HadTimes rs) (first_had_clash w n rs)
  unfolding first_had_clash
  had_pair [] = no_pair (λ t k had. Memᴰ.not-nil had.1)
  had_pair (r ∷ rs) =
      pair_same (first_or_later r rs) (earliest_pair r.end (filter (is_had_clash w n r) accounts) (had_pair rs))

-- ---- the same pairs

module _
    {s : Ledger} (proper : Proper s) {had : History} (remembers : Remembers s had) (n : ℕ) (given : IsGiven s.table n)
    (live : is_live s.table n ≡ true) where
  abbrev w : List ℕ
  w = s.table

  abbrev p : ℕ
  p = parent_of w n

  alive : is_alive w n ≡ true
  alive = live_alive w n given live

  -- a clash with a record in the table is one with a record that was had
  table_had : (t k : ℕ) → TimesOf w (λ c. Memᴰ c (clashes w n)) t k → HadTimes w n (had p) t k
  table_had t k (m, member, time) =
      let h = (in_clashes w n _).0 member in
      let (r, there, stands) = remembers.real p m (parent_alive s proper n alive) h.begun h.is_record in (
        r,
        there,
        sym stands.end ∙ time,
        h.known,
        rw (stands.wrote k h.known, record_parent w p m h.is_record, stands.end) at h.clash,
      )

  -- and such a record is in the table: n has read before it ended
  had_table : (t k : ℕ) → HadTimes w n (had p) t k → TimesOf w (λ c. Memᴰ c (clashes w n)) t k
  had_table t k (r, there, time, account, clash) =
      let both = and_left (r.wrote k && has_read w n k) _ clash in
      let late : read_time w (kind_of w n) n k < r.end =
      ltb-true _ _ (and_right (r.wrote k && has_read w n k) (ltb (read_time w (kind_of w n) n k) r.end) clash) in
      let is =
      remembers.kept p n k (child_of alive refl) (account_read w n k account (and_right (r.wrote k) (has_read w n k) both)) r
      there late in (
        is.holder,
        (in_clashes w n _).1
            (record {
              begun = is.begun;
              is_record = is.is_record;
              known = account;
              clash = rw (is.stands.wrote k account, record_parent w p is.holder is.is_record, is.stands.end) clash;
            }),
        is.stands.end ∙ time,
      )

  pub same_verdict : first_clash s.table n ≡ first_had_clash s.table n (had (parent_of s.table n))
  unfolding first_clash
  same_verdict =
      pair_once
      (pair_same (λ t k. (table_had t k, had_table t k)) (least_pair w (clashes w n)))
      (had_pair w n (had p))
