-- A day that isn't refused: the list call runs its events, and what it leaves is what the day's definition says. Assumes
-- nothing.
use Prim.Native.Nat.{ℕ, zero, suc, ◌-◌, ◌*◌, ◌/◌, ◌≤◌}
use native.Mathlib.Nat.{le_of_eq}
use native.Mathlib.Omega.{arith}
use native.Mathlib.Decide.{ℕ_discrete}
use mathlib.Core.Path.{◌≡◌, refl, sym, ap, ◌∙◌}
use mathlib.Core.Logic.{◌≢◌}
use mathlib.Core.Bool.{not}
use mathlib.Core.List.{List, [], ◌∷◌}
use borrow.Author.Tests.{eqb-true, eq-eqb, ne_eqb, not-false}
use lib.Dec.{eqb}
use lib.ListN.{length, take, drop, replicate, length-append, length-drop, length-replicate}
use lib.Seq.{take_all}
use Rattle.rules.specs.Card.{base_length}
use Rattle.rules.specs.Kind.{top_kind, sub_kind}
use Rattle.rules.specs.Table.{table_length, new_table, backward_rule, new_table_under, counter}
use Rattle.rules.specs.Cause.{is_store_length_wrong}
use Rattle.rules.specs.Event.{Event}
use Rattle.rules.specs.Ledger.{Ledger, ledger_of}
use Rattle.rules.specs.Step.{step}
use Rattle.rules.specs.Run.{run}
use Rattle.rules.proofs.Laws.Allowed.{not_given, stores_fit}
use Rattle.rules.proofs.Sound.Kept.{new_sound}
use Rattle.table.specs.Open.{open_table}
use Rattle.rules.specs.Encoding.{event_length, most_events, answer_length, events_from, events_in}
use Rattle.lists.specs.Listed.{list_cause, Listed, listed_of, run_list}
use Rattle.causes.proofs.Grouped.{Accepted}
use Rattle.lists.proofs.ListRun.{no_list_cause}
use Rattle.dayread.specs.File.{event_count, event_bytes, events_place}
use Rattle.dayread.specs.Opening.{opening_base}
use Rattle.dayfile.specs.Day.{day_cause, Accepts, HasAnswerRoom, day_run, day_words, day_ledger, day_lines, listing, Day, day_of, run_day}
use Rattle.text.specs.Text.{refused_line}
use Rattle.text.specs.Put.{put_at}
use Rattle.listing.specs.Buffer.{listing_length, starts_from, listing_of}
use Rattle.text.proofs.Texts.{put_at_length}
use Rattle.listing.proofs.Bounds.{listing_fits, refused_fits}
use Rattle.listing.proofs.AnswerLines.{listing_of_answers}
use Rattle.dayread.proofs.Faultless.{faultless}

pub accepts : (s : Ledger) (file : List ℕ) → day_cause s file ≡ 0 → Accepts s file
unfolding day_cause
accepts s file none =
    let (wrong, none₂) = not_given (is_store_length_wrong s.base s.shadow) _ _ none in
    let (short, none₃) = not_given (not (eqb (length s.table) table_length)) _ _ none₂ in
    let fits = (stores_fit s.base s.shadow).0 wrong in
    record {
      base_fits = fits.0;
      shadow_fits = fits.1;
      table_fits = eqb-true _ _ (not-false _ short);
      clean = none₃;
    }

-- the part of the file from the events on
pub events_part : (file : List ℕ) (at : ℕ) → at ≡ events_place file → take (length file - at) (drop at file) ≡ event_bytes file
events_part file at e = rw e (take_all (length file - events_place file) (drop (events_place file) file) (le_of_eq (length-drop (events_place file) file)))

module _ (s : Ledger) (file buffer : List ℕ) (a : Accepts s file) (room : HasAnswerRoom buffer) where
  pub list_length : length (event_bytes file) ≡ event_length * event_count file
  list_length = let f = faultless file a.clean in length-drop (events_place file) file ∙ omega (arith, f.whole)

  -- the list call is given a new table over a base store that fits
  module _ (fits : length (opening_base file) ≡ base_length) where
    abbrev opened : Ledger
    opened = ledger_of new_table (opening_base file) s.shadow

    accepted : Accepted new_table (opening_base file) s.shadow
    unfolding new_table_under
    accepted = (record { base_fits = fits; shadow_fits = a.shadow_fits }, new_sound backward_rule)

    list_runs : list_cause opened (event_bytes file) buffer ≡ 0
    list_runs =
        let f = faultless file a.clean in
        no_list_cause opened (event_bytes file) buffer accepted
        (omega (arith, list_length)) (omega (arith, list_length, f.few_events))

    opened_ran :
        run_list opened (event_bytes file) buffer ≡ listed_of 0 (day_run s.shadow file).after (day_words s.shadow file buffer)
    unfolding run_list day_run day_words
    opened_ran = rw list_runs

  -- from what opening, the opening base store and the list call leave to what the day's definition says
  pub file_ran :
      {table base events words : List ℕ} {now : Ledger} {cause : ℕ} → table ≡ open_table s.table backward_rule → base ≡ opening_base file →
      length base ≡ base_length → events ≡ event_bytes file →
      listed_of cause now words ≡ run_list (ledger_of table base s.shadow) events buffer →
      (now ≡ (day_run s.shadow file).after) × (words ≡ day_words s.shadow file buffer) × (cause ≡ 0)
  unfolding new_table_under
  file_ran {table} {base} {events} {words} {now} {cause} is_table is_base fits is_events listed =
      let new : table ≡ new_table = is_table ∙ rw (eq-eqb _ table_length a.table_fits) in
      let long : length (opening_base file) ≡ base_length = ap length (sym is_base) ∙ fits in
      let ran = (rw (new, is_base, is_events) at listed) ∙ opened_ran long in
      (ap (λ (l : Listed). l.after) ran, ap (λ (l : Listed). l.answers) ran, ap (λ (l : Listed). l.cause) ran)

-- ---- as many answers as events

run_length : (s : Ledger) (es : List Event) → length (run s es).answers ≡ length es
unfolding run
run_length s [] = refl
run_length s (e ∷ es) = ap suc (run_length (step s e).after es)

events_length : (bytes : List ℕ) (i n : ℕ) → length (events_from bytes i n) ≡ n
unfolding events_from
events_length bytes i zero = refl
events_length bytes i (suc n) = ap suc (events_length bytes (suc i) n)

pub answers_length : (s : Ledger) (file : List ℕ) → Accepts s file → length (day_run s.shadow file).answers ≡ event_count file
unfolding day_run events_in
answers_length s file a =
    let long = list_length s file (replicate (answer_length * most_events) 0) a (length-replicate {A = ℕ} (answer_length * most_events) 0) in
    let many : length (event_bytes file) / event_length ≡ event_count file = omega (arith, long) in
    run_length _ _ ∙ events_length (event_bytes file) 0 _ ∙ many

-- ---- the listing and the state of a day, refused or run

pub day_refused :
    (s : Ledger) (file : List ℕ) {cause : ℕ} → cause ≡ day_cause s file → cause ≢ 0 →
    (listing s file ≡ refused_line cause) × (day_ledger s file ≡ s)
unfolding listing day_ledger
day_refused s file {cause} is given = rw (sym is, ne_eqb cause 0 given) (refl, refl)

pub day_runs :
    (s : Ledger) (file : List ℕ) → day_cause s file ≡ 0 →
    (listing s file ≡ day_lines s.shadow file) × (day_ledger s file ≡ (day_run s.shadow file).after)
unfolding listing day_ledger
day_runs s file none = rw none (refl, refl)

-- the lines that are put are those of the definition
pub lines_of_day :
    (s : Ledger) (file buffer : List ℕ) → Accepts s file → {words table : List ℕ} {count : ℕ} →
    words ≡ day_words s.shadow file buffer → count ≡ event_count file → table ≡ (day_run s.shadow file).after.table →
    listing_of words count table ≡ day_lines s.shadow file
unfolding day_words day_lines
lines_of_day s file buffer a is_words is_count is_table =
    rw (is_words, is_count ∙ sym (answers_length s file a), is_table)
    (listing_of_answers (day_run s.shadow file).answers _ _)

lines_bound : (words table : List ℕ) (count : ℕ) → count ≤ most_events → length (listing_of words count table) ≤ listing_length
unfolding listing_of
lines_bound words table count few =
    rw length-append (listing_fits words count (starts_from words 0 count) (counter table top_kind) (counter table sub_kind) few)

listing_bound : (s : Ledger) (file : List ℕ) → length (listing s file) ≤ listing_length
listing_bound s file = go (ℕ_discrete (day_cause s file) 0)
  where
    go : Dec (day_cause s file ≡ 0) → length (listing s file) ≤ listing_length
    go (yes none) =
        let a = accepts s file none in
        let f = faultless file a.clean in
        rw ((day_runs s file none).0, sym (lines_of_day s file [] a refl refl refl)) (lines_bound _ _ _ f.few_events)
    go (no given) = rw (day_refused s file refl given).0 (refused_fits (day_cause s file))

-- ---- what the call gives back, as one record

pub day_given :
    (s : Ledger) (file buffer : List ℕ) {size : ℕ} {out : List ℕ} {after : Ledger} →
    size ≡ length (listing s file) → out ≡ put_at buffer 0 (listing s file) → after ≡ day_ledger s file →
    day_of size out after ≡ run_day s file buffer
unfolding run_day
day_given s file buffer is_size is_out is_after = rw (is_size, is_out, is_after)

module _ (s : Ledger) (file buffer : List ℕ) {size : ℕ} {out : List ℕ} {after : Ledger}
    (gives : day_of size out after ≡ run_day s file buffer) where
  pub day_size : size ≡ length (listing s file)
  unfolding run_day
  day_size = ap (λ (d : Day). d.size) gives

  pub day_out : out ≡ put_at buffer 0 (listing s file)
  unfolding run_day
  day_out = ap (λ (d : Day). d.buffer) gives

  -- what is printed is a part of the program's buffer
  pub printed_fits : length buffer ≡ listing_length → size ≤ length out
  printed_fits room =
      let fits = listing_bound s file in
      rw (day_out, put_at_length buffer (listing s file) 0 (omega arith), room, day_size) fits
