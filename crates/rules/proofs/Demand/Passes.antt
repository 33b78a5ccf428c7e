-- An action without a clash passes: no read of its own is stale at its parent. Assumes nothing.
use Prim.Native.Nat.{ℕ}
use mathlib.Core.Path.{◌≡◌}
use mathlib.Core.Bool.{true}
use mathlib.Core.List.Memᴰ
use mathlib.Core.List.{Memᴰ}
use lib.Dec.{ltb}
use borrow.Author.Tests.{lt-ltb}
use Rattle.rules.specs.Table.{parent_of, kind_of, end_time, read_time}
use Rattle.std.specs.Prelude.{None}
use Rattle.rules.specs.Clash.{clashes, first_clash}
use Rattle.rules.specs.Ledger.{Ledger}
use Rattle.rules.proofs.Laws.Tests.{and_both}
use Rattle.rules.proofs.Clash.Records.{record_parent}
use Rattle.rules.proofs.Clash.Clashes.{in_clashes, first_clash_none}
use Rattle.rules.proofs.Serial.Stale.{Passes}
use Rattle.rules.proofs.Demand.Abstraction.{has_read_account, abstraction, Stale}
use Rattle.rules.proofs.Demand.AbstractionLaws.{read_account, read_entered}

-- what makes a read stale at the parent is a pair of the clash list
stale_clashes :
    (s : Ledger) (n k : ℕ) → has_read_account s.table n k ≡ true → (st : Stale s n (parent_of s.table n) k) →
    Memᴰ (record { holder = st.holder; account = k }) (clashes s.table n)
stale_clashes s n k has st =
    let w = s.table in
    -- the record is of the kind of n's parent's children
    let before : ltb (read_time w (kind_of w st.holder) n k) (end_time w st.holder) ≡ true =
    rw (record_parent w (parent_of w n) st.holder st.is_record) (lt-ltb _ _ st.later) in
    (in_clashes s.table n _).1
    (record {
      begun = st.begun;
      is_record = st.is_record;
      known = read_account s.table n k has;
      clash = and_both (and_both st.written (read_entered s.table n k has)) before;
    })

pub no_clash_passes : (s : Ledger) (n : ℕ) → first_clash s.table n ≡ None → Passes (abstraction s) (Stale s) n
no_clash_passes s n clear k has st =
    Memᴰ.not-nil (rw ((first_clash_none s.table n).0 clear) at (stale_clashes s n k has st))
