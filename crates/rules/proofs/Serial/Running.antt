-- The machine of the serial run, given the schedule of a block, does what `own` and `good` say of the block. Inside a topaction's
-- block the base store stays as it is; between the topactions' blocks it has room for every sum. Assumes nothing.
use Prim.Native.Nat.{ℕ}
use mathlib.Core.Path.{◌≡◌, refl, sym, ap, ◌∙◌, subst⁻¹, fun_ext}
use mathlib.Core.Logic.{⊎_elim}
use mathlib.Core.Bool.{Bool, true, false, cond}
use mathlib.Core.List.Memᴰ
use mathlib.Core.List.{List, [], ◌∷◌, ◌++◌, append-nil, append_assoc, Memᴰ}
use lib.ListN.{length}
use lib.Dec.{eqb}
use borrow.Author.Tests.{eqb-true}
use Rattle.rules.specs.Card.{is_charge, base_length}
use Rattle.rules.specs.Serial.Effect.{Effect, nothing, lay}
use Rattle.rules.specs.Serial.Block.{Block, empty, read, write, child}
use Rattle.rules.specs.Serial.Collect.{put}
use Rattle.rules.specs.Serial.Schedule.{Operation, schedule_of}
use Rattle.rules.specs.Serial.Machine.{Own, Given, Machine, shows_card, shows_amount, written, ended, perform, perform_all}
use Rattle.rules.proofs.Laws.Tests.{cond_holds}
use Rattle.rules.proofs.Serial.Values.{AccountValue, over, lay_nothing, over_laid, account_values}
use Rattle.rules.proofs.Serial.Blocks.{only, own, after, good}
use Rattle.rules.proofs.Serial.Ground.{ChargeReads, charge_reads_map, FromStore}
use Rattle.rules.proofs.Serial.Shown.{shown_base, account_charges, sum_shown, card_read}
use Rattle.rules.proofs.Serial.Settling.{WholeOn, untouched, AllWhole, whole_laid, settled, settled_length, settled_shown}
use Rattle.rules.proofs.Serial.MachineShows.{shows, AllWholeIn, card_read_is, amount_read}

-- ---- what is asked of the store's block

-- every effect in the block, at any depth, is one that the base store has room for
unfoldable pub Whole : Block Effect → Type 0
Whole empty = Unit {0}
Whole (read b i k) = Whole b
Whole (write b i k f) = Whole b × WholeOn k f
Whole (child b i who d) = Whole b × Whole d

-- The store reads and writes nothing itself; nothing is asked of the children's blocks.
unfoldable pub OnlyChildren : Block Effect → Type 0
OnlyChildren empty = Unit {0}
OnlyChildren (read b i k) = ⊥
OnlyChildren (write b i k f) = ⊥
OnlyChildren (child b i who d) = OnlyChildren b

pub only_whole : {k : ℕ} {f : Effect} → WholeOn k f → (j : ℕ) → WholeOn j (only account_values k f j)
unfolding only
only_whole {k} {f} whole j = cond_holds (WholeOn j) (eqb j k) (λ same. rw (eqb-true j k same) whole) (λ _. untouched)

pub own_whole : (d : Block Effect) → Whole d → AllWhole (own account_values d)
unfolding Whole own
own_whole empty whole j = untouched
own_whole (read b i k) whole j = own_whole b whole j
own_whole (write b i k f) whole j = whole_laid (only_whole whole.1 j) (own_whole b whole.0 j)
own_whole (child b i who d) whole j = whole_laid (own_whole d whole.1 j) (own_whole b whole.0 j)

-- ---- the reads of a block

-- each read with what it is given where the block is run in an action that begins under `above`
given_in : Block Effect → List ℕ → List Own → List Given
given_in empty base above = []
given_in (read b i k) base above =
    let under = own account_values b ∷ above in
    given_in b base above
    ++ (record { place = i; card = shows_card base under k; amount = shows_amount base under k } ∷ [])
given_in (write b i k f) base above = given_in b base above
given_in (child b i who d) base above = given_in b base above ++ given_in d base (own account_values b ∷ above)

-- got: what the reader saw at each place; ground: what the base showed there of a charge account
module _ (got ground : ℕ → AccountValue) where
  -- the read is given what it was given at its place
  pub record Right (g : Given) : Type 0 where
    pub card : g.card ≡ card_read (got g.place) (ground g.place)
    pub amount : g.amount ≡ sum_shown (got g.place)

  -- run in a context in which the block is good, and on a base that shows what was shown to its charge reads, each of its reads
  -- is right
  block_right :
      (d : Block Effect) → Whole d → (base : List ℕ) (above : List Own) → AllWholeIn above →
      good account_values got d (shows base above) → ChargeReads is_charge (λ i k. shown_base base k ≡ ground i) d →
      (g : Given) → Memᴰ g (given_in d base above) → Right g
  unfolding good given_in shows Whole AllWholeIn ChargeReads
  block_right empty whole base above around fine stands g m = absurd (Memᴰ.not-nil m)
  block_right (read b i k) whole base above around fine stands g m =
      let under = own account_values b ∷ above in
      let all_whole : AllWholeIn under = (own_whole b whole, around) in
      ⊎_elim
      (block_right b whole base above around fine.0 stands.0 g)
      (λ last. subst⁻¹ Right (Memᴰ.eq_of_singleton last)
      (record {
        card = card_read_is base k under all_whole (got i) (ground i) fine.1 stands.1;
        amount = amount_read base k under all_whole (got i) (ground i) fine.1 stands.1;
      }))
      (Memᴰ.append_cases (given_in b base above) m)
  block_right (write b i k f) whole base above around fine stands g m =
      block_right b whole.0 base above around fine stands g m
  block_right (child b i who d) whole base above around fine stands g m =
      ⊎_elim
      (block_right b whole.0 base above around fine.0 stands.0 g)
      (block_right d whole.1 base (own account_values b ∷ above) (own_whole b whole.0, around) fine.1 stands.1 g)
      (Memᴰ.append_cases (given_in b base above) m)

-- ---- the machine inside an action

-- own: the own cards and sums of the innermost action, above: those of its parents
abbrev in_action : List ℕ → List Own → Own → List Given → Machine
in_action base above own given = record { base = base; under_way = own ∷ above; given = given }

-- the steps ys come after the steps xs
perform_all_after : (m : Machine) (xs ys : List (Operation Effect)) {m' : Machine} → perform_all m xs ≡ m' → perform_all m (xs ++ ys) ≡ perform_all m' ys
unfolding perform_all
perform_all_after m [] ys e = ap (λ n. perform_all n ys) e
perform_all_after m (x ∷ xs) ys e = perform_all_after (perform m x) xs ys e

-- the machine's write, as `own` has it
put_laid : (before : Own) (k : ℕ) (f : Effect) → put before k (lay f (before k)) ≡ (λ j. lay (only account_values k f j) (before j))
unfolding put only
put_laid before k f = fun_ext (λ j. by_account j (eqb j k) refl)
  where
    by_account :
        (j : ℕ) (b : Bool) → eqb j k ≡ b → cond b (lay f (before k)) (before j) ≡ lay (cond b f nothing) (before j)
    by_account j true same = rw (eqb-true j k same)
    by_account j false other = sym (lay_nothing (before j))

-- A block, run in an action that has done nothing yet. The base store stays as it is.
block_performed :
    (d : Block Effect) (base : List ℕ) (above : List Own) (given : List Given) →
    perform_all (in_action base above (λ k. nothing) given) (schedule_of d)
    ≡ in_action base above (own account_values d) (given ++ given_in d base above)
unfolding perform_all perform schedule_of own given_in written ended
block_performed empty base above given = ap (in_action base above (λ k. nothing)) (sym (append-nil given))
block_performed (read b i k) base above given =
    perform_all_after _ (schedule_of b) _ (block_performed b base above given)
    ∙ ap (in_action base above (own account_values b)) (append_assoc given _ _)
block_performed (write b i k f) base above given =
    perform_all_after _ (schedule_of b) _ (block_performed b base above given)
    ∙ ap (λ now. in_action base above now (given ++ given_in b base above)) (put_laid (own account_values b) k f)
block_performed (child b i who d) base above given =
    perform_all_after _ (schedule_of b) _ (block_performed b base above given)
    ∙ perform_all_after _ (schedule_of d) _ (block_performed d base (own account_values b ∷ above) (given ++ given_in b base above))
    ∙ ap (in_action base above (own account_values (child b i who d))) (append_assoc given _ _)

-- ---- the machine at the store

-- no action is under way
abbrev at_store : List ℕ → List Given → Machine
at_store base given = record { base = base; under_way = []; given = given }

-- the base store that the store's block leaves: each child's cards and sums are settled in turn
settled_all : Block Effect → List ℕ → List ℕ
settled_all empty opening = opening
settled_all (read b i k) opening = settled_all b opening
settled_all (write b i k f) opening = settled_all b opening
settled_all (child b i who d) opening = settled (own account_values d) (settled_all b opening)

-- and its reads: those of each child, run on the base store before it
given_all : Block Effect → List ℕ → List Given
given_all empty opening = []
given_all (read b i k) opening = given_all b opening
given_all (write b i k f) opening = given_all b opening
given_all (child b i who d) opening = given_all b opening ++ given_in d (settled_all b opening) []

store_performed :
    (d : Block Effect) → OnlyChildren d → (opening : List ℕ) →
    perform_all (at_store opening []) (schedule_of d) ≡ at_store (settled_all d opening) (given_all d opening)
unfolding perform_all perform schedule_of own ended settled_all given_all OnlyChildren
store_performed empty top opening = refl
store_performed (read b i k) top opening = absurd top
store_performed (write b i k f) top opening = absurd top
store_performed (child b i who d) top opening =
    perform_all_after _ (schedule_of b) _ (store_performed b top opening)
    ∙ perform_all_after _ (schedule_of d) _ (block_performed d (settled_all b opening) [] (given_all b opening))

settled_all_length :
    (d : Block Effect) → Whole d → (opening : List ℕ) → length opening ≡ base_length → length (settled_all d opening) ≡ base_length
unfolding settled_all Whole
settled_all_length empty whole opening long = long
settled_all_length (read b i k) whole opening long = settled_all_length b whole opening long
settled_all_length (write b i k f) whole opening long = settled_all_length b whole.0 opening long
settled_all_length (child b i who d) whole opening long =
    settled_length (own_whole d whole.1) (settled_all b opening) (settled_all_length b whole.0 opening long)

module _ (ground : ℕ → AccountValue) (opening : List ℕ) (long : length opening ≡ base_length) where
  -- the base store shows what the block leaves
  settled_all_shown :
      (d : Block Effect) → Whole d → OnlyChildren d → FromStore account_charges ground (shown_base opening) d →
      (k : ℕ) → shown_base (settled_all d opening) k ≡ after account_values d (shown_base opening) k
  unfolding settled_all Whole OnlyChildren FromStore own over
  settled_all_shown empty whole top from k = refl
  settled_all_shown (read b i k) whole top from j = absurd top
  settled_all_shown (write b i k f) whole top from j = absurd top
  settled_all_shown (child b i who d) whole top from k =
      let before = settled_all_shown b whole.0 top from.0 k in
      let both = over_laid (own account_values d k) (own account_values b k) (shown_base opening k) in
      let long_b = settled_all_length b whole.0 opening long in
      settled_shown (own_whole d whole.1) (settled_all b opening) long_b k (rw (before, ← both) (from.2 k))
      ∙ ap (over (own account_values d k)) before ∙ sym both

  store_right :
      (got : ℕ → AccountValue) (d : Block Effect) → Whole d → OnlyChildren d →
      FromStore account_charges ground (shown_base opening) d → good account_values got d (shown_base opening) →
      (g : Given) → Memᴰ g (given_all d opening) → Right got ground g
  unfolding given_all Whole OnlyChildren FromStore good shows AllWholeIn
  store_right got empty whole top from fine g m = absurd (Memᴰ.not-nil m)
  store_right got (read b i k) whole top from fine g m = absurd top
  store_right got (write b i k f) whole top from fine g m = absurd top
  store_right got (child b i who d) whole top from fine g m =
      let before = settled_all_shown b whole.0 top from.0 in
      ⊎_elim
      (store_right got b whole.0 top from.0 fine.0 g)
      (block_right got ground d whole.1 (settled_all b opening) [] tt
      (rw (fun_ext before) fine.1)
      (charge_reads_map is_charge _ _ (λ i k is same. before k ∙ same) d from.1) g)
      (Memᴰ.append_cases (given_all b opening) m)

-- What is known of the machine m that has run over the store's block d, from the opening store.
pub record SerialRun (got ground : ℕ → AccountValue) (d : Block Effect) (opening : List ℕ) (m : Machine) : Type 0 where
  pub reads : (g : Given) → Memᴰ g m.given → Right got ground g
  pub long : length m.base ≡ base_length
  -- also for a k that is no account: no card stands there, before or after
  pub leaves : (k : ℕ) → shown_base m.base k ≡ after account_values d (shown_base opening) k

pub block_runs :
    (got ground : ℕ → AccountValue) (d : Block Effect) → Whole d → OnlyChildren d →
    (opening : List ℕ) → length opening ≡ base_length →
    FromStore account_charges ground (shown_base opening) d → good account_values got d (shown_base opening) →
    SerialRun got ground d opening (perform_all (record { base = opening; under_way = []; given = [] }) (schedule_of d))
block_runs got ground d whole top opening long from fine =
    rw (store_performed d top opening)
    (record {
      reads = store_right ground opening long got d whole top from fine;
      long = settled_all_length d whole opening long;
      leaves = settled_all_shown ground opening long d whole top from;
    })
