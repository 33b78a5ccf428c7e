-- A change of the table that starts nothing keeps a sound table sound. Assumes nothing.
use Prim.Native.Nat.{ℕ, ◌≤◌, ◌<◌}
use native.Mathlib.Omega.{arith}
use native.Mathlib.Decide.{ℕ_discrete}
use mathlib.Core.Path.{◌≡◌, sym, ◌∙◌}
use mathlib.Core.Logic.{◌⊎◌, inl, inr, ⊎_elim, ◌≢◌}
use mathlib.Core.Bool.{true, false}
use mathlib.Core.List.{List}
use Rattle.rules.specs.Card.{account_count, IsCharge}
use Rattle.rules.specs.Kind.{IsKind}
use Rattle.rules.specs.Table.{most_actions, highest, counter, parent_of, kind_of, end_time, has_read, read_time, has_written, pending_word, is_live, has_end}
use Rattle.rules.specs.Walk.{climbs}
use Rattle.rules.specs.Sound.{IsGiven, Sound}
use Rattle.rules.proofs.Laws.Kinds.{kind_known}
use Rattle.rules.proofs.Laws.Climbing.{climbs_agree}
use Rattle.rules.proofs.Sound.TableChanges.{Ended, ReadFrom, own, child's, made_now, TableChange}
use Rattle.rules.proofs.Sound.NewestKept.{newest_still_in_time, newest_still_true}

module _ (w v : List ℕ) (now : ℕ) (s : Sound w) (c : TableChange w v now) where
  -- the numbers that were given are the same
  before : (m : ℕ) → IsGiven v m → IsGiven w m
  before m h = (h.0, rw c.same_highest at h.1)

  parent_alive : (m : ℕ) → IsGiven v m → is_live v m ≡ true → (parent_of v m ≡ 0) ⊎ (is_live v (parent_of v m) ≡ true)
  parent_alive m h l =
      rw (c.parents m (before m h))
      (⊎_elim inl (λ q. go q (ℕ_discrete (parent_of w m) 0)) (s.alive m (before m h) (c.was_live m (before m h) l)))
    where
      go : is_live w (parent_of w m) ≡ true → Dec (parent_of w m ≡ 0) → (parent_of w m ≡ 0) ⊎ (is_live v (parent_of w m) ≡ true)
      go q (yes e) = inl e
      go q (no ne) = inr (c.parent_stays m (before m h) l q (omega arith))

  end_in_time : (m : ℕ) → IsGiven v m → has_end v m ≡ true → (1 ≤ end_time v m) × (end_time v m ≤ counter v (kind_of v m))
  end_in_time m h e =
      rw (c.parents m (before m h))
      (⊎_elim
      (λ old. let was = s.ends m (before m h) old.0 in omega (arith, c.rising (kind_of w m) (kind_known (parent_of w m)), old.1))
      (λ new. omega (arith, new.1, new.2))
      (c.ends m (before m h) e))

  -- the parents on the way up are the same
  still_climbs : (m : ℕ) → IsGiven v m → is_live v m ≡ true → climbs (parent_of v) most_actions m ≡ true
  still_climbs m h l =
      climbs_agree (parent_of w) (parent_of v) (λ x. x ≤ highest w)
      (λ x ne known. let begun : IsGiven w x = (omega arith, known) in (c.parents x begun, s.known x begun))
      most_actions m (before m h).1 (s.climb m (before m h) (c.was_live m (before m h) l))

  -- two ends with one time under one parent are one: an old time is at most the old counter, the new one above it
  end_alone :
      (n m : ℕ) → IsGiven v n → IsGiven v m → has_end v n ≡ true → has_end v m ≡ true → parent_of v n ≢ n → parent_of v m ≢ m →
      parent_of v m ≡ parent_of v n → end_time v m ≡ end_time v n → m ≡ n
  end_alone n m hn hm en em other other' parents ends = go (c.ends n (before n hn) en) (c.ends m (before m hm) em)
    where
      under : parent_of w m ≡ parent_of w n
      under = sym (c.parents m (before m hm)) ∙ parents ∙ c.parents n (before n hn)

      -- both are of the kind of n's parent's children
      go : Ended w v now n → Ended w v now m → m ≡ n
      go (inl a) (inl b) =
          s.alone n m (before n hn) (before m hm) a.0 b.0
          (rw (c.parents n (before n hn)) at other) (rw (c.parents m (before m hm)) at other')
          under (sym b.1 ∙ ends ∙ a.1)
      go (inl a) (inr b) =
          absurd (omega (arith, s.ends n (before n hn) a.0, a.1, rw under at b.1, rw under at b.2))
      go (inr a) (inl b) =
          absurd (omega (arith, rw under at (s.ends m (before m hm) b.0), b.1, a.1, a.2))
      go (inr a) (inr b) = b.0 ∙ sym a.0

  -- a read's time is one that there was, or the counter that was
  reads_in_time :
      (h m k : ℕ) → IsKind h → IsGiven v m → is_live v m ≡ true → k < account_count → has_read v m k ≡ true →
      read_time v h m k ≤ counter v h
  reads_in_time h m k known begun l account has = from (c.reads h m k known (before m begun) l account has)
    where
      from : ReadFrom w v h m k → read_time v h m k ≤ counter v h
      from (own had same) =
          omega (arith, same, c.rising h known, s.reads h m k known (before m begun) (c.was_live m (before m begun) l) account had)
      from (child's x (given, lives) under had same) =
          omega (arith, same, c.rising h known, s.reads h x k known given lives account had)
      from (made_now same) = omega (arith, same, c.rising h known)

  pending_written : (m k : ℕ) → IsGiven v m → IsCharge k → has_written v m k ≡ false → pending_word v m k ≡ 0
  pending_written m k h charge none =
      let was = c.pendings m k (before m h) charge none in was.1 ∙ s.pendings m k (before m h) charge was.0

  pub change_keeps_sound : Sound v
  change_keeps_sound =
      record {
        long = c.long;
        few = rw c.same_highest s.few;
        ruled = rw c.same_rule s.ruled;
        states = λ m h. c.states m (before m h);
        bounded = c.bounded;
        known = λ m h. rw (c.parents m (before m h), c.same_highest) (s.known m (before m h));
        climb = still_climbs;
        alive = parent_alive;
        reads = reads_in_time;
        ends = end_in_time;
        alone = end_alone;
        pendings = pending_written;
        lines = c.lines;
        newest_in_time = newest_still_in_time w v now s c;
        newest_true = newest_still_true w v now s c;
      }
