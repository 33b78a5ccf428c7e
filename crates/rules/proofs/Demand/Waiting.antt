-- What holds of those who wait in a queue, by the order in which they wait: a ready one has a good verdict, one with a good
-- verdict would pass now, and it has read nothing that a sibling before it is about to write. A step that leaves each of them
-- alone keeps this. Assumes nothing.
use Prim.Native.Nat.{ℕ, ◌<◌}
use native.Mathlib.Omega.{arith}
use mathlib.Core.Path.{◌≡◌, sym, ◌∙◌}
use mathlib.Core.Logic.{inl, inr}
use mathlib.Core.Bool.{Bool, true, false, cond}
use mathlib.Core.List.{List, [], ◌∷◌, ◌++◌}
use Rattle.rules.specs.Range.{filter}
use Rattle.rules.specs.Card.{account_count}
use Rattle.rules.specs.Table.{parent_field, parent_of, read_field, has_read, sub_time_field, write_field, has_written, is_committed, is_record_of}
use Rattle.rules.specs.Queue.{Entry, has_failed, is_ready}
use Rattle.rules.specs.Sound.{IsGiven}
use Rattle.rules.specs.Ledger.{Ledger}
use Rattle.rules.proofs.Laws.Each.{Each, each_both, each_filter, each_append}
use Rattle.rules.proofs.Serial.Stale.{Passes}
use Rattle.rules.proofs.Demand.Abstraction.{abstraction, Stale}
use Rattle.rules.proofs.Demand.AbstractionLaws.{read_account, read_entered, account_read}
use Rattle.rules.proofs.Demand.Views.{same_no_later, stale_by_kept_row}
use Rattle.rules.proofs.Sound.NewestKept.{record_committed}
use Rattle.rules.proofs.Sound.TableChanges.{RowKept}

-- ---- the fact

-- of an entry by itself
pub record Here (s : Ledger) (e : Entry) : Type 0 where
  pub earned : is_ready e ≡ true → has_failed e ≡ false
  pub passes : has_failed e ≡ false → Passes (abstraction s) (Stale s) e.number

-- of an entry d that stands behind e
abbrev pub Behind : Ledger → Entry → Entry → Type 0
Behind s e d =
    has_failed d ≡ false → parent_of s.table d.number ≡ parent_of s.table e.number → (k : ℕ) → k < account_count →
    has_written s.table e.number k ≡ true → has_read s.table d.number k ≡ true → ⊥

-- of these entries, in their order
unfoldable pub Waits : Ledger → List Entry → Type 0
Waits s [] = Unit {0}
Waits s (e ∷ es) = Here s e × Each (Behind s e) es × Waits s es

-- ---- a step that leaves them alone

-- Of entry e's action the parent is the same and neither set has grown; and if its verdict is good and it passed before, it does
-- after. (A sibling with a failed verdict may well have a read that is stale now.)
pub record LeftAlone (s t : Ledger) (e : Entry) : Type 0 where
  pub parent : parent_of t.table e.number ≡ parent_of s.table e.number
  pub reads : (k : ℕ) → k < account_count → has_read t.table e.number k ≡ true → has_read s.table e.number k ≡ true
  pub writes : (k : ℕ) → k < account_count → has_written t.table e.number k ≡ true → has_written s.table e.number k ≡ true
  pub passes : has_failed e ≡ false → Passes (abstraction s) (Stale s) e.number → Passes (abstraction t) (Stale t) e.number

module _ (s t : Ledger) where
  here_kept : (e : Entry) → LeftAlone s t e → Here s e → Here t e
  here_kept e alone here = record { earned = here.earned; passes = λ fine. alone.passes fine (here.passes fine) }

  behind_kept : (e : Entry) → LeftAlone s t e → (d : Entry) → LeftAlone s t d → Behind s e d → Behind t e d
  behind_kept e first d second behind fine siblings k account written has =
      behind fine (sym second.parent ∙ siblings ∙ first.parent) k account
      (first.writes k account written) (second.reads k account has)

  pub waits_alone : (es : List Entry) → Each (LeftAlone s t) es → Waits s es → Waits t es
  unfolding Waits Each
  waits_alone [] alone waits = tt
  waits_alone (e ∷ es) (first, later) (here, behind, rest) = (
    here_kept e first here,
    each_both (LeftAlone s t) (Behind s e) (Behind t e) (behind_kept e first) es later behind,
    waits_alone es later rest,
  )

-- ---- steps at which nobody commits

-- whoever has committed in v had so in w, and no word of it has changed
abbrev pub NoneCommits : List ℕ → List ℕ → Type 0
NoneCommits w v = (m : ℕ) → IsGiven v m → is_committed v m ≡ true → IsGiven w m × RowKept w v m

-- .. whoever is a record of Q in v
abbrev pub NoNewRecord : List ℕ → List ℕ → ℕ → Type 0
NoNewRecord w v Q = (m : ℕ) → IsGiven v m → is_record_of v Q m ≡ true → IsGiven w m × RowKept w v m

pub none_no_new : (w v : List ℕ) → NoneCommits w v → (Q : ℕ) → NoNewRecord w v Q
none_no_new w v none Q m begun is = none m begun (record_committed v Q m is)

module _
    (s t : Ledger) (X : ℕ) (row : RowKept s.table t.table X)
    (none : NoNewRecord s.table t.table (parent_of t.table X)) where
  -- so a read of X that is stale at X's parent was so before
  stale_before : {k : ℕ} → k < account_count → Stale t X (parent_of t.table X) k → Stale s X (parent_of t.table X) k
  stale_before {k} account st =
      let (begun, kept) = none st.holder st.begun st.is_record in
      stale_by_kept_row t s account st begun (λ g field. sym (kept g field))
      (same_no_later t.table s.table X k (sym (row (read_field k) (inl (omega arith))))
      (sym (row (sub_time_field k) (inr (omega arith, omega arith)))))

  pub passes_still : Passes (abstraction s) (Stale s) X → Passes (abstraction t) (Stale t) X
  passes_still passes k has st =
      let account = read_account t.table X k has in
      passes k
      (account_read s.table X k account (rw (row (read_field k) (inl (omega arith))) at (read_entered t.table X k has)))
      (rw (row parent_field (inl (omega arith))) at (stale_before account st))

-- a row that is kept, at a step at which no sibling of the action commits
pub row_alone :
    (s t : Ledger) (e : Entry) → RowKept s.table t.table e.number →
    NoNewRecord s.table t.table (parent_of t.table e.number) → LeftAlone s t e
row_alone s t e row none =
    record {
      parent = row parent_field (inl (omega arith));
      reads = λ k account has. rw (row (read_field k) (inl (omega arith))) at has;
      writes = λ k account written. rw (row (write_field k) (inl (omega arith))) at written;
      passes = λ _. passes_still s t e.number row none;
    }

-- ---- some leave, one comes

pub waits_filter : (s : Ledger) (f : Entry → Bool) (es : List Entry) → Waits s es → Waits s (filter f es)
unfolding Waits filter
waits_filter s f [] waits = tt
waits_filter s f (e ∷ es) (here, behind, rest) = chosen (f e) (waits_filter s f es rest)
  where
    chosen : (b : Bool) → Waits s (filter f es) → Waits s (cond b (e ∷ filter f es) (filter f es))
    chosen true later = (here, each_filter (Behind s e) f es behind, later)
    chosen false later = later

pub waits_append :
    (s : Ledger) (es : List Entry) (d : Entry) → Waits s es → Here s d → Each (λ e. Behind s e d) es → Waits s (es ++ (d ∷ []))
unfolding Waits Each
waits_append s [] d waits here before = (here, tt, tt)
waits_append s (e ∷ es) d (first, behind, rest) here (one, more) = (
  first,
  each_append (Behind s e) es d behind one,
  waits_append s es d rest here more,
)
