-- RULES 4.10: what makes a read stale is a record, and any such record does. Assumes nothing.
use Prim.Native.Nat.{ℕ, ◌<◌}
use native.Mathlib.Omega.{arith}
use mathlib.Core.Path.{◌≡◌, sym, ◌∙◌}
use mathlib.Core.Bool.{true, ◌&&◌}
use mathlib.Core.List.{List}
use borrow.Author.Tests.{ltb-true, lt-ltb}
use lib.Dec.{ltb}
use Rattle.rules.specs.Range.{up_from}
use Rattle.rules.specs.Table.{highest, end_time, has_written, actions, is_record_of, records}
use Rattle.rules.specs.Sound.{IsGiven}
use Rattle.rules.specs.Stale.{is_stale}
use Rattle.rules.proofs.Laws.Tests.{and_left, and_right, and_both}
use Rattle.rules.proofs.Laws.Ranges.{any_at, any_found}
use Rattle.rules.proofs.Laws.Lists.{any_filter}

-- m is a record of p with account k in its write set, and ended after t
pub record Overwrites (w : List ℕ) (p k t m : ℕ) : Type 0 where
  pub begun : IsGiven w m
  pub is_record : is_record_of w p m ≡ true
  pub written : has_written w m k ≡ true
  pub later : t < end_time w m

module _ (w : List ℕ) (p k t : ℕ) where
  pub stale_by : (m : ℕ) → Overwrites w p k t m → is_stale w p k t ≡ true
  unfolding is_stale records actions
  stale_by m o =
      any_filter (λ x. has_written w x k && ltb t (end_time w x)) (is_record_of w p) (up_from 1 (highest w))
      ∙ any_at _ 1 (highest w) m (omega (arith, o.begun))
      (and_both o.is_record (and_both o.written (lt-ltb _ _ o.later)))

  pub stale_record : is_stale w p k t ≡ true → (m : ℕ) × Overwrites w p k t m
  unfolding is_stale records actions
  stale_record is =
      let (m, inside, all) =
      any_found (λ x. is_record_of w p x && (has_written w x k && ltb t (end_time w x))) 1 (highest w)
      (sym (any_filter (λ x. has_written w x k && ltb t (end_time w x)) (is_record_of w p) (up_from 1 (highest w))) ∙ is) in
      let both = and_right (is_record_of w p m) _ all in (
        m,
        record {
          begun = omega arith;
          is_record = and_left (is_record_of w p m) _ all;
          written = and_left (has_written w m k) _ both;
          later = ltb-true t (end_time w m) (and_right (has_written w m k) (ltb t (end_time w m)) both);
        },
      )
