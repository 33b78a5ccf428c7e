-- What a read answers is the nearest version by its meaning, and what a look shows, whatever the ledger and the event; and of a
-- charge account the sum, exactly. Assumes nothing.
use Prim.Native.Nat.{ℕ}
use mathlib.Core.Path.{◌≡◌, refl, sym, ap, ap₂, ◌∙◌}
use mathlib.Core.Bool.{Bool, true, false, cond, false≢true}
use mathlib.Core.List.{List, []}
use borrow.Author.Tests.{eqb-true}
use Rattle.rules.specs.declared.Answer.TheVariants.{Read, ReadSum}
use Rattle.rules.specs.declared.Found.{Found}
use Rattle.std.specs.Prelude.{Option, Some, None}
use Rattle.rules.specs.declared.Version.{Version}
use Rattle.rules.specs.Card.{is_charge, base_place, card_at}
use Rattle.rules.specs.Amount.{amount_of, amount_word}
use Rattle.rules.specs.Walk.{Climbs}
use Rattle.rules.specs.Event.{Event, read_code, event_of, is_read}
use Rattle.rules.specs.Ledger.{Ledger}
use Rattle.rules.specs.Cause.{cause_of}
use Rattle.rules.specs.Nearest.{version, read_sum, IsNearest}
use Rattle.rules.specs.Look.{look_cause, look_at, look, looked_card}
use Rattle.rules.specs.Verdict.{commit_verdict}
use Rattle.rules.specs.Serial.Told.{Told, it_began, it_read, it_wrote, it_added, it_committed, it_let_leave, it_did_nothing, told}
use Rattle.rules.specs.Step.{Outcome, start, read_answer, read, write, judged, commit, add, enter, is_judged_failed, judge_left, judge_answer, judge, abort, step, leavers_at}
use Rattle.rules.proofs.Laws.Tests.{not_both}
use Rattle.rules.proofs.Laws.Allowed.{allowed_none}
use Rattle.rules.proofs.Laws.EventCases.{AllowedIn, step_by_cause, act_by_kind}
use Rattle.rules.proofs.Laws.Permitted.{read_fits, read_sum_fits}
use Rattle.rules.proofs.Laws.Walking.{sound_climbs, moves_to_store}
use Rattle.rules.proofs.Laws.Versions.{version_nearest}
use Rattle.rules.proofs.Laws.Charges.{nearest_charge, moves_up_charge}
use Rattle.rules.proofs.Laws.Amounts.{amount_read_back}
use Rattle.rules.proofs.Sound.Soundness.{facts}
use Rattle.rules.proofs.Stores.Looking.{look_refused_as_read, look_given, looked_card_charge}

-- ---- only a read that isn't refused is answered as one

-- of what an answer tells, whether it is a read
abbrev tells_read : Told → Bool
tells_read (it_began n) = false
tells_read it_read = true
tells_read it_wrote = false
tells_read it_added = false
tells_read it_committed = false
tells_read (it_let_leave leavers) = false
tells_read it_did_nothing = false

module _ (s : Ledger) (e : Event) where
  -- an outcome whose answer tells of a read is that of a read
  abbrev OfRead : Outcome → List ℕ → Type 0
  OfRead o leavers =
      tells_read (told o.answer leavers) ≡ true →
      AllowedIn s e × (is_read e ≡ true) × (o.answer ≡ read_answer s.table s.base e.number e.account)

  committed_other : (f : Option Found) → OfRead (judged s e.number f) []
  unfolding judged
  committed_other None tells = absurd (false≢true tells)
  committed_other (Some f) tells = absurd (false≢true tells)

  judge_tells_no_read : (failed : Bool) (left : ℕ) (leavers : List ℕ) → tells_read (told (judge_answer failed left) leavers) ≡ false
  judge_tells_no_read true left leavers = refl
  judge_tells_no_read false left leavers = refl

  judge_other : OfRead (judge s e.number) (judge_left s e.number).commits
  unfolding judge
  judge_other tells = absurd (not_both tells (judge_tells_no_read (is_judged_failed s.table e.number) _ _))

  of_read : OfRead (step s e) (leavers_at s e)
  unfolding start read write commit add enter abort
  of_read =
      step_by_cause s e OfRead
      (λ tells. absurd (false≢true tells))
      (λ a. act_by_kind s e OfRead a
      (λ _ tells. absurd (false≢true tells))
      (λ reads _. (a, reads, refl))
      (λ _ tells. absurd (false≢true tells))
      (λ _. committed_other (commit_verdict s.table e.number))
      (λ _ tells. absurd (false≢true tells))
      (λ _ tells. absurd (false≢true tells))
      (λ _. judge_other)
      (λ _ tells. absurd (false≢true tells)))

-- ---- the two kinds of answers

module _ (u v : Version) (x : ℕ) where
  same_version : u.holder ≡ v.holder → u.moves ≡ v.moves → u ≡ v
  same_version holders moves = ap₂ (λ h m. record { holder = h; moves = m }) holders moves

  plain_chosen :
      (b : Bool) → cond b (ReadSum u.holder u.moves x) (Read u.holder u.moves) ≡ Read v.holder v.moves → u ≡ v
  plain_chosen true is = let apart : false ≡ true = cc in absurd (false≢true apart)
  plain_chosen false is =
      let holders : u.holder ≡ v.holder = cc in
      let moves : u.moves ≡ v.moves = cc in
      same_version holders moves

  sum_chosen :
      (y : ℕ) (b : Bool) →
      cond b (ReadSum u.holder u.moves x) (Read u.holder u.moves) ≡ ReadSum v.holder v.moves y →
      (b ≡ true) × (u ≡ v) × (x ≡ y)
  sum_chosen y true is =
      let holders : u.holder ≡ v.holder = cc in
      let moves : u.moves ≡ v.moves = cc in
      let sums : x ≡ y = cc in
      (refl, same_version holders moves, sums)
  sum_chosen y false is = let apart : false ≡ true = cc in absurd (false≢true apart)

-- ---- RULES 2.3 and 3.1: what is answered

-- a look on the same ledger isn't refused
read_looked :
    (s : Ledger) (e : Event) → AllowedIn s e → is_read e ≡ true →
    look_cause s.table s.base s.shadow e.number e.account ≡ 0
read_looked s e a reads =
    look_refused_as_read s.table s.base s.shadow e.number e.account e.card
    ∙ ap (λ code. cause_of s.table s.base s.shadow (event_of code e.number e.account e.card))
    (sym (eqb-true e.code read_code reads))
    ∙ allowed_none s.table s.base s.shadow e a

module _ (s : Ledger) (e : Event) (v : Version) where
  -- the version that an answer names is the nearest, and a look shows it
  abbrev Named : Type 0
  Named =
      IsNearest s.table e.number e.account v
      × (look s.table s.base s.shadow e.number e.account ≡ look_at v e.account)

  named : AllowedIn s e → is_read e ≡ true → version s.table e.number e.account ≡ v → Named
  named a reads same =
      rw (← same) (
        version_nearest s.table (facts s.table a.sound_test) e.number e.account
            (a.early.number_known, a.early.alive),
        look_given s.table s.base s.shadow e.number e.account (read_looked s e a reads),
      )

  plain_named : (step s e).answer ≡ Read v.holder v.moves → Named
  unfolding read_answer
  plain_named is =
      let (a, reads, answer) = of_read s e (rw is) in
      named a reads (plain_chosen _ v _ (is_charge e.account) (sym answer ∙ is))

  pub read_answers_nearest : (step s e).answer ≡ Read v.holder v.moves → IsNearest s.table e.number e.account v
  read_answers_nearest is = (plain_named is).0

  pub read_answers_look :
      (step s e).answer ≡ Read v.holder v.moves →
      look s.table s.base s.shadow e.number e.account ≡ look_at v e.account
  read_answers_look is = (plain_named is).1

-- RULES 3.4: version v and word x, as a read by n of charge account k answers them: the base card, as many moves up as n lies
-- deep, and the sum, exactly; a look shows that card
pub record IsSumRead (s : Ledger) (n k : ℕ) (v : Version) (x : ℕ) : Type 0 where
  pub charge : is_charge k ≡ true
  pub near : IsNearest s.table n k v
  pub looked : look s.table s.base s.shadow n k ≡ look_at v k
  pub card : looked_card s.table s.base s.shadow n k ≡ card_at s.base (base_place k)
  pub holder : v.holder ≡ 0
  pub moves : v.moves ≡ moves_to_store s.table n
  pub word : x ≡ amount_word (read_sum s.table s.base n k)
  pub exact : amount_of x ≡ read_sum s.table s.base n k

pub read_answers_sum :
    (s : Ledger) (e : Event) (v : Version) (x : ℕ) → (step s e).answer ≡ ReadSum v.holder v.moves x →
    IsSumRead s e.number e.account v x
unfolding read_answer
read_answers_sum s e v x is =
    let w = s.table in
    let n = e.number in
    let k = e.account in
    let (a, reads, answer) = of_read s e (rw is) in
    let (charge, same, word) = sum_chosen (version w n k) v (amount_word (read_sum w s.base n k)) x (is_charge k) (sym answer ∙ is) in
    let up : Climbs w n = sound_climbs (facts w a.sound_test) n (a.early.number_known, a.early.alive) in
    let (near, looked) = named s e v a reads same in
    let fits = read_sum_fits w s.base n k (read_fits a reads) charge in
    record {
      charge = charge;
      near = near;
      looked = looked;
      card = looked_card_charge w s.base s.shadow n k (read_looked s e a reads) charge;
      holder = ap (λ (u : Version). u.holder) (sym same) ∙ nearest_charge w k charge n up;
      moves = ap (λ (u : Version). u.moves) (sym same) ∙ moves_up_charge w k charge n up;
      word = sym word;
      exact = ap amount_of (sym word) ∙ amount_read_back (read_sum w s.base n k) fits;
    }
