-- The records after a start, and the newest end times: who is below whom stays, and the record that is dropped was needed by
-- nobody. Assumes nothing.
use Prim.Native.Nat.{ℕ, ◌≤◌, ◌<◌}
use native.Mathlib.Omega.{arith}
use native.Mathlib.Decide.{ℕ_discrete}
use mathlib.Core.Path.{◌≡◌, refl, sym, ap, ◌∙◌}
use mathlib.Core.Logic.{inl, inr, ◌≢◌}
use mathlib.Core.Bool.{Bool, true, false, not, cond}
use mathlib.Core.List.{List}
use borrow.Author.Tests.{eq-eqb, le-ltb}
use lib.Dec.{eqb, ltb}
use Rattle.rules.specs.Card.{account_count}
use Rattle.rules.specs.Kind.{kind_under}
use Rattle.rules.specs.Table.{highest, counter, parent_field, parent_of, state_field, end_time, read_field, read_entry, has_read, sub_time_field, sub_time, read_time, newest_field, newest, is_live, is_committed, is_child_of, is_record_of}
use Rattle.rules.specs.Walk.{is_under}
use Rattle.rules.specs.Stale.{is_stale, is_known_stale}
use Rattle.rules.specs.Sound.{IsGiven, IsLiveAction, StoreOrLive, Sound}
use Rattle.rules.specs.Step.{give_table}
use Rattle.rules.proofs.Laws.Tests.{not_both, same_test, false_of_not_true}
use Rattle.rules.proofs.Laws.Kinds.{kind_known}
use Rattle.rules.proofs.Laws.Walking.{parent_store_or_live}
use Rattle.rules.proofs.Laws.Under.{under_agree}
use Rattle.rules.proofs.Laws.Freeing.{Givable, record_needed}
use Rattle.rules.proofs.Laws.Staleness.{stale_by, stale_record}
use Rattle.rules.proofs.Sound.NewestClauses.{held_test}
use Rattle.rules.proofs.Sound.TableChanges.{live_uncommitted, action_width, RowKept}
use Rattle.rules.proofs.Sound.NewestKept.{record_committed, overwrites_on}
use Rattle.rules.proofs.Sound.Giving.{give_keeps_row, give_head, give_counter, give_highest, give_read, give_newest}
use Rattle.rules.proofs.Sound.Started.{start_highest, by_age, old_field, live_row, old_parent, old_row, new_live}
use Rattle.rules.proofs.Clash.Records.{record_parent}

module _ (w : List ℕ) (n p : ℕ) (s : Sound w) (g : Givable w n) where
  abbrev v : List ℕ
  v = give_table w n p

  -- ---- who was there

  -- neither the store nor a live action had the number
  pub held_other : {Q : ℕ} → StoreOrLive w Q → Q ≢ n
  held_other {Q} (known, lives) same =
      not_both (rw same at (lives (rw same g.first))) (g.idle (rw same at known))

  pub live_before : (X : ℕ) → IsLiveAction v X → X ≢ n → IsLiveAction w X
  live_before X (given, lives) other =
      by_age w n p s g (λ x. x ≢ n → is_live v x ≡ true → IsLiveAction w x)
      (λ x old _ l. (old.0, rw (old_field w n p s g x state_field old (omega arith) (λ z. omega arith)) at l))
      (λ new. absurd (new refl))
      X given other lives

  held_before : (Q : ℕ) → StoreOrLive v Q → Q ≢ n → StoreOrLive w Q
  held_before Q (known, lives) other = go (ℕ_discrete Q 0)
    where
      go : Dec (Q ≡ 0) → StoreOrLive w Q
      go (yes store) = (omega arith, λ one. absurd (omega arith))
      go (no action) =
          let (given, l) = live_before Q ((omega arith, known), lives (omega arith)) other in
          (given.1, λ _. l)

  -- a live action's row, and the way up from it, stay
  pub live_kept : (X : ℕ) → IsLiveAction w X → RowKept w v X
  live_kept X (given, lives) f inside = live_row w n p s g X f given lives (action_width f inside)

  under_was : (Q X : ℕ) → IsLiveAction w X → is_under v Q X ≡ is_under w Q X
  under_was Q X is =
      under_agree s v (StoreOrLive w)
      (λ x given held. parent_store_or_live s x given (held.1 given.0))
      (λ x given held. live_kept x (given, held.1 given.0) parent_field (inl (omega arith)))
      (λ x held. held.0)
      Q X is (is.0.1, λ _. is.1)

  -- ---- the records

  -- a record of the store or of a live action that isn't the number's keeps its row
  record_row_kept : {Q m : ℕ} → StoreOrLive w Q → IsGiven w m → is_record_of w Q m ≡ true → m ≢ n → RowKept w v m
  record_row_kept {Q} {m} held begun is other f inside =
      give_keeps_row w n p m f (action_width f inside) begun.0 other
      (λ same. held_other held (sym (record_parent w Q m is) ∙ same))

  -- who has committed isn't the new one
  pub committed_other : (m : ℕ) → is_committed v m ≡ true → m ≢ n
  committed_other m did new = live_uncommitted v n (new_live w n p s g) (rw new at did)

  -- a record of the store or of a live action was one before: an orphan is its own parent, and has finished
  module _ {Q m : ℕ} (held : StoreOrLive w Q) (begun : IsGiven v m) (is : is_record_of v Q m ≡ true) where
    not_its_own_parent : parent_of v m ≢ m
    not_its_own_parent own =
        let same : m ≡ Q = sym own ∙ record_parent v Q m is in
        let one : 1 ≤ Q = rw (← same) begun.0 in
        live_uncommitted v Q (rw (live_kept Q ((one, held.0), held.1 one) state_field (inl (omega arith))) (held.1 one))
        (rw same at (record_committed v Q m is))

    pub record_was_there : IsGiven w m × RowKept w v m
    record_was_there =
        by_age w n p s g (λ x. parent_of v x ≢ x → x ≢ n → IsGiven w x × RowKept w v x)
        (λ x old other _. (old.0, λ f inside. old_row w n p s g x f old other (action_width f inside)))
        (λ _ new. absurd (new refl))
        m begun not_its_own_parent (committed_other m (record_committed v Q m is))

  -- the new action has none: its earlier holder's children are nobody's
  pub no_record : (m : ℕ) → IsGiven v m → is_record_of v n m ≡ true → ⊥
  no_record m begun is =
      by_age w n p s g (λ x. parent_of v x ≡ n → x ≢ n → ⊥)
      (λ x old child other. by_child x other (is_child_of w n x) refl (sym (old_parent w n p s g x old) ∙ child))
      (λ _ new. new refl)
      m begun (record_parent v n m is) (committed_other m (record_committed v n m is))
    where
      by_child : (x : ℕ) → x ≢ n → (b : Bool) → is_child_of w n x ≡ b → cond b x (parent_of w x) ≡ n → ⊥
      by_child x other true child own = other own
      by_child x other false child kept = not_both (eq-eqb _ _ kept) child

  -- A record that ended after a read, of whatever account, of somebody below its parent is needed, so it isn't the number's.
  pub needed_row_kept :
      {Q X m : ℕ} (k : ℕ) → StoreOrLive w Q → IsLiveAction w X → is_under w Q X ≡ true → k < account_count →
      has_read w X k ≡ true → IsGiven w m → is_record_of w Q m ≡ true → read_time w (kind_under Q) X k < end_time w m → RowKept w v m
  needed_row_kept {Q} {X} {m} k held lives below account has begun is later =
      let needed =
      record_needed w Q m X k is (held_test w Q held) lives.0 lives.1 below account has later in
      record_row_kept held begun is (λ same. not_both (rw same at needed) (g.unneeded (rw same at begun.1)))

  -- ---- the newest end times

  -- of the store, and of every other action
  pub newest_kept : (Q k : ℕ) → Q ≤ highest v → Q ≢ n → k < account_count → newest v Q k ≡ newest w Q k
  newest_kept Q k known other account = go (ℕ_discrete Q 0)
    where
      go : Dec (Q ≡ 0) → newest v Q k ≡ newest w Q k
      go (yes store) = rw store (give_head w n p (newest_field k) g.first (omega arith) (λ z. omega arith))
      go (no action) =
          by_age w n p s g (λ x. x ≢ n → newest v x k ≡ newest w x k)
          (λ x old _. old_field w n p s g x (newest_field k) old (omega arith) (λ z. omega arith))
          (λ new. absurd (new refl))
          Q (omega arith, known) other

  pub start_newest_in_time : (Q k : ℕ) → Q ≤ highest v → k < account_count → newest v Q k ≤ counter v (kind_under Q)
  start_newest_in_time Q k known account = go (ℕ_discrete Q n)
    where
      go : Dec (Q ≡ n) → newest v Q k ≤ counter v (kind_under Q)
      go (yes new) = rw new (omega (arith, give_newest w n p s.long g.first g.few k account))
      go (no other) =
          rw (newest_kept Q k known other account, give_counter w n p (kind_under Q) g.first (kind_known Q))
          (s.newest_in_time Q k known_before account)
        where
          known_before : Q ≤ highest w
          known_before = omega (arith, give_highest w n p s.long g.first g.few, g.near)

  -- a read of X's at Q
  module _ (Q X k : ℕ) (held : StoreOrLive w Q) (lives : IsLiveAction w X) (below : is_under w Q X ≡ true)
      (account : k < account_count) (has : has_read w X k ≡ true) where
    abbrev time : ℕ
    time = read_time w (kind_under Q) X k

    stale_was : is_stale v Q k time ≡ true → is_stale w Q k time ≡ true
    stale_was is =
        let (m, o) = stale_record v Q k time is in
        let (begun, row) = record_was_there held o.begun o.is_record in
        stale_by w Q k time m (overwrites_on v w account (λ f inside. sym (row f inside)) begun o)

    stale_still : is_stale w Q k time ≡ true → is_stale v Q k time ≡ true
    stale_still is =
        let (m, o) = stale_record w Q k time is in
        let row = needed_row_kept k held lives below account has o.begun o.is_record o.later in
        stale_by v Q k time m
        (overwrites_on w v account row (omega (arith, o.begun, start_highest w n p s g)) o)

    alike_still : is_known_stale v Q k time ≡ is_stale v Q k time
    alike_still =
        ap (ltb time) (newest_kept Q k (omega (arith, held.0, start_highest w n p s g)) (held_other held) account)
        ∙ s.newest_true Q X k held lives below account has
        ∙ same_test _ _ stale_still stale_was

  -- at the new action nothing is stale
  alike_new : (k t : ℕ) → k < account_count → is_known_stale v n k t ≡ is_stale v n k t
  alike_new k t account =
      le-ltb t (newest v n k) (omega (arith, give_newest w n p s.long g.first g.few k account))
      ∙ sym (false_of_not_true _ (λ is. let (m, o) = stale_record v n k t is in no_record m o.begun o.is_record))

  no_read : (k : ℕ) → k < account_count → has_read v n k ≡ true → ⊥
  no_read k account has =
      not_both has
      (ap (λ entry. not (eqb entry 0)) (give_read w n p s.long g.first g.few k account))

  pub start_newest_true :
      (Q X k : ℕ) → StoreOrLive v Q → IsLiveAction v X → is_under v Q X ≡ true → k < account_count → has_read v X k ≡ true →
      let t = read_time v (kind_under Q) X k in is_known_stale v Q k t ≡ is_stale v Q k t
  start_newest_true Q X k held' lives' below account has = go (ℕ_discrete Q n)
    where
      lives : IsLiveAction w X
      lives = live_before X lives' (λ new. no_read k account (rw new at has))

      entry : read_entry v X k ≡ read_entry w X k
      entry = live_kept X lives (read_field k) (inl (omega arith))

      sub_time_same : sub_time v X k ≡ sub_time w X k
      sub_time_same = live_kept X lives (sub_time_field k) (inr (omega arith, omega arith))

      go : Dec (Q ≡ n) → let t = read_time v (kind_under Q) X k in is_known_stale v Q k t ≡ is_stale v Q k t
      go (yes new) = rw new (alike_new k _ account)
      go (no other) =
          rw (entry, sub_time_same)
          (alike_still Q X k (held_before Q held' other) lives (sym (under_was Q X lives) ∙ below) account (rw entry at has))
