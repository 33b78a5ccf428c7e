-- The readers ahead of an action, RULES 4.12 and 4.13: the search names the first of them, or there is none. Assumes nothing.
use Prim.Native.Nat.{ℕ, zero, suc, ◌<◌}
use native.Mathlib.Omega.{arith}
use native.Mathlib.Nat.{add-zero}
use native.Mathlib.Decide.{ℕ_discrete}
use mathlib.Core.Path.{◌≡◌, refl, sym}
use mathlib.Core.Logic.{◌↔◌, ◌⊎◌, inl, inr, ⊎_elim}
use mathlib.Core.Bool.{true, false}
use mathlib.Core.List.{List}
use Rattle.rules.specs.declared.Found.{Found}
use Rattle.std.specs.Prelude.{Option, None}
use Rattle.rules.specs.Found.{found_at}
use Rattle.rules.specs.Range.{up_from}
use Rattle.rules.specs.Card.{account_count, accounts}
use Rattle.rules.specs.Table.{highest, actions}
use Rattle.rules.specs.Ahead.{is_rival, is_read_ahead, ahead_over, ahead_by, or_else, ahead_among, first_ahead, ReaderAhead, IsFirstAhead}
use Rattle.rules.proofs.Laws.Tests.{test, not_both}
use Rattle.rules.proofs.Laws.Ranges.{Within, first_or_rest, first_within, rest_within}
use Rattle.rules.proofs.Clash.Firsts.{Before, Pairs, IsFirstPair, FindsPair, no_pair, pair_at, pair_once, pair_same}

-- what is found first is the first, where all of the one kind come before all of the other
or_else_finds :
    {P Q : Pairs} {f g : Option Found} → ((t k u l : ℕ) → P t k → Q u l → t < u) → FindsPair P f → FindsPair Q g →
    FindsPair (λ u l. P u l ⊎ Q u l) (or_else f g)
or_else_finds sooner (no_pair none) found = pair_same (λ u l. (inr, ⊎_elim (λ p. absurd (none u l p)) (λ q. q))) found
or_else_finds sooner (pair_at {t = t} {k = k} it) found =
    pair_at
    (record {
      has = inl it.has;
      first = λ u l. ⊎_elim (it.first u l) (λ q. inl (sooner t k u l it.has q));
    })

module _ (w : List ℕ) (n : ℕ) where
  -- m with one of the c accounts from a on that it has read and n has written
  abbrev Over : ℕ → ℕ → ℕ → Pairs
  Over m a c u l = (u ≡ m) × Within a c l × (is_read_ahead w n m l ≡ true)

  over_finds : (m a c : ℕ) → FindsPair (Over m a c) (ahead_over w n m (up_from a c))
  unfolding ahead_over up_from
  over_finds m a zero = no_pair (λ u l (_, inside, _). omega (arith, inside, add-zero a))
  over_finds m a (suc c) =
      ⊎_elim
      (λ met.
      rw met
      (pair_at
      (record {
        has = (refl, first_within a c, met);
        first = λ u l (same, inside, _). inr (sym same, inside.0);
      })))
      (λ unmet.
      rw unmet
      (pair_same
      (λ u l. (
        λ (same, inside, met). (same, rest_within a c l inside, met),
        λ (same, inside, met). (same, rest_of unmet l inside met, met),
      ))
      (over_finds m (suc a) c)))
      (test (is_read_ahead w n m a))
    where
      rest_of : is_read_ahead w n m a ≡ false → (l : ℕ) → Within a (suc c) l → is_read_ahead w n m l ≡ true → Within (suc a) c l
      rest_of unmet l inside met =
          ⊎_elim (λ e. absurd (not_both (rw e at met) unmet)) (λ rest. rest) (first_or_rest a c l inside)

  -- m with an account over which it is a reader ahead
  abbrev By : ℕ → Pairs
  By m u l = (u ≡ m) × (is_rival w n m ≡ true) × (l < account_count) × (is_read_ahead w n m l ≡ true)

  by_finds : (m : ℕ) → FindsPair (By m) (ahead_by w n m)
  unfolding ahead_by accounts
  by_finds m =
      ⊎_elim
      (λ rival.
      rw rival
      (pair_same
      (λ u l. (
        λ (same, inside, met). (same, rival, omega arith, met),
        λ (same, _, account, met). (same, omega arith, met),
      ))
      (over_finds m 0 account_count)))
      (λ none. rw none (no_pair (λ u l is. not_both is.1 none)))
      (test (is_rival w n m))

  -- a reader ahead that is one of the c actions from a on
  abbrev Among : ℕ → ℕ → Pairs
  Among a c u l = Within a c u × (is_rival w n u ≡ true) × (l < account_count) × (is_read_ahead w n u l ≡ true)

  among_finds : (a c : ℕ) → FindsPair (Among a c) (ahead_among w n (up_from a c))
  unfolding ahead_among up_from
  among_finds a zero = no_pair (λ u l is. omega (arith, is.0, add-zero a))
  among_finds a (suc c) =
      pair_same (λ u l. (together u l, apart u l))
      (or_else_finds (λ t k u l first later. omega (arith, first.0, later.0)) (by_finds a) (among_finds (suc a) c))
    where
      together : (u l : ℕ) → By a u l ⊎ Among (suc a) c u l → Among a (suc c) u l
      together u l =
          ⊎_elim
          (λ (same, rival, account, met). (rw same (first_within a c), rw same rival, account, rw same met))
          (λ (inside, rival, account, met). (rest_within a c u inside, rival, account, met))

      apart : (u l : ℕ) → Among a (suc c) u l → By a u l ⊎ Among (suc a) c u l
      apart u l (inside, rival, account, met) =
          ⊎_elim
          (λ e. inl (e, rw e at rival, account, rw e at met))
          (λ rest. inr (rest, rival, account, met))
          (first_or_rest a c u inside)

  -- ---- of all actions

  first_ahead_finds : FindsPair (ReaderAhead w n) (first_ahead w n)
  unfolding first_ahead actions
  first_ahead_finds =
      pair_same
      (λ u l. (
        λ (inside, rival, account, met). record { given = omega arith; rival = rival; account = account; met = met },
        λ is. let i = is.given in (omega arith, is.rival, is.account, is.met),
      ))
      (among_finds 1 (highest w))

  -- the first pair by number and account, in the words of the rule
  first_pair_ahead : (m k : ℕ) → IsFirstPair (ReaderAhead w n) m k ↔ IsFirstAhead w n m k
  first_pair_ahead m k = (
    λ it.
        record {
          reader = it.has;
          lowest = λ u l is. ⊎_elim (λ less. omega arith) (λ same. omega arith) (it.first u l is);
          lowest_account = λ l is. ⊎_elim (λ less. absurd (omega arith)) (λ same. same.1) (it.first m l is);
        },
    λ it. record { has = it.reader; first = λ u l is. by_number it u l is (ℕ_discrete m u) },
  )
    where
      by_number : IsFirstAhead w n m k → (u l : ℕ) → ReaderAhead w n u l → Dec (m ≡ u) → Before m k u l
      by_number it u l is (yes same) = inr (same, it.lowest_account l (rw same is))
      by_number it u l is (no other) = let low = it.lowest u l is in inl (omega arith)

  pub first_ahead_at : (m k : ℕ) → (first_ahead w n ≡ found_at m k) ↔ IsFirstAhead w n m k
  first_ahead_at m k = (
    λ e. (first_pair_ahead m k).0 (named (rw e at first_ahead_finds)),
    λ it. pair_once first_ahead_finds (pair_at ((first_pair_ahead m k).1 it)),
  )
    where
      named : FindsPair (ReaderAhead w n) (found_at m k) → IsFirstPair (ReaderAhead w n) m k
      named (pair_at it) = it

  pub first_ahead_none : (first_ahead w n ≡ None) ↔ ((m k : ℕ) → ReaderAhead w n m k → ⊥)
  first_ahead_none = (λ e. none (rw e at first_ahead_finds), λ nobody. pair_once first_ahead_finds (no_pair nobody))
    where
      none : FindsPair (ReaderAhead w n) None → (m k : ℕ) → ReaderAhead w n m k → ⊥
      none (no_pair nobody) = nobody
