-- The tree of a day that isn't refused: there is a report, its words give the text, and that is what the definition says.
-- Assumes nothing.
use Prim.Native.Nat.{ℕ, ◌≤◌}
use native.Mathlib.Decide.{ℕ_discrete}
use native.Mathlib.Omega.{arith}
use mathlib.Core.Path.{◌≡◌, sym, ap, ◌∙◌}
use mathlib.Core.Logic.{◌≢◌}
use mathlib.Core.Bool.{not}
use mathlib.Core.List.{List}
use borrow.Author.Tests.{eqb-true, ne_eqb, not-false}
use lib.Dec.{eqb}
use lib.ListN.{length, replicate, length-append, length-replicate}
use lib.Seq.{length-sets}
use Rattle.rules.specs.Card.{base_length}
use Rattle.rules.specs.Table.{most_actions, backward_rule, new_table_under}
use Rattle.rules.specs.Ledger.{Ledger, ledger_of}
use Rattle.rules.specs.Encoding.{events_in}
use Rattle.rules.specs.Tree.{tree_lines, report_length, with_report, Report, report_of, report}
use Rattle.rules.proofs.Laws.Allowed.{not_given}
use Rattle.rules.proofs.Tree.Lines.{no_more_lines, line_placed}
use Rattle.rules.proofs.Tree.Theorem.{balanced}
use Rattle.report.proofs.Causes.{reportable}
use Rattle.dayread.specs.File.{event_bytes}
use Rattle.dayread.specs.Opening.{opening_base}
use Rattle.text.specs.Text.{refused_line}
use Rattle.text.specs.Put.{put_at}
use Rattle.listing.specs.Buffer.{listing_length}
use Rattle.listing.specs.Tree.{tree_text}
use Rattle.listing.specs.Report.{text_of_report}
use Rattle.text.proofs.Texts.{put_at_length}
use Rattle.listing.proofs.Bounds.{refused_fits}
use Rattle.listing.proofs.TreePieces.{tree_fits}
use Rattle.listing.proofs.TreeText.{report_text}
use Rattle.dayfile.specs.Day.{day_cause, Accepts, day_run}
use Rattle.dayfile.specs.Tree.{day_tree_cause, HasReport, day_tree, tree_of_day, DayTree, day_tree_of, run_day_tree}
use Rattle.dayfile.proofs.Days.{accepts}

-- ---- a table that has a report

module _ (w base shadow opening : List ℕ) (has : HasReport w base shadow opening) where
  -- no more lines than actions
  pub lines_few : length (tree_lines w) ≤ most_actions
  lines_few =
      let sound = (reportable w base shadow opening has).accepted.1 in
      omega (arith, no_more_lines sound, sound.few)

  -- what the report gives back
  reported :
      (buffer : List ℕ) → report w base shadow opening buffer ≡ report_of 0 (length (tree_lines w)) (with_report buffer w base opening)
  unfolding report
  reported buffer = rw has

  module _ (buffer : List ℕ) (whole : length buffer ≡ report_length) {cause lines : ℕ} {words : List ℕ}
      (given : report_of cause lines words ≡ report w base shadow opening buffer) where
    pub not_refused : cause ≡ 0
    not_refused = ap (λ (r : Report). r.cause) (given ∙ reported buffer)

    pub lines_given : lines ≡ length (tree_lines w)
    lines_given = ap (λ (r : Report). r.lines) (given ∙ reported buffer)

    pub words_given : words ≡ with_report buffer w base opening
    words_given = ap (λ (r : Report). r.words) (given ∙ reported buffer)

    pub words_whole : length words ≡ report_length
    unfolding with_report
    words_whole = ap length words_given ∙ simp length-sets whole

    -- and the text that its words give
    pub text_given : text_of_report words lines ≡ tree_text w base opening
    text_given =
        let may = reportable w base shadow opening has in
        rw (words_given, lines_given)
        (report_text buffer w base opening whole lines_few
        (λ line in_tree k charge.
        let placed = line_placed w line in_tree in may.fit.totals line.number k (placed.0, placed.1) charge))

  -- the text fits the buffer
  pub tree_text_fits : length (tree_text w base opening) ≤ listing_length
  unfolding text_of_report
  tree_text_fits =
      let zeros : List ℕ = replicate report_length 0 in
      let words = with_report zeros w base opening in
      let whole = length-replicate {A = ℕ} report_length 0 in
      rw (← text_given zeros whole (sym (reported zeros)), length-append)
      (tree_fits words (length (tree_lines w)) lines_few)

-- ---- a day

module _ (s : Ledger) (opening file : List ℕ) where
  pub tree_accepts : day_tree_cause s opening file ≡ 0 → (length opening ≡ base_length) × (day_cause s file ≡ 0)
  unfolding day_tree_cause
  tree_accepts none =
      let (right, passed) = not_given (not (eqb (length opening) base_length)) _ _ none in
      (eqb-true _ _ (not-false _ right), passed)

  -- every figure after a day is an amount
  pub day_reported :
      Accepts s file → length (opening_base file) ≡ base_length →
      let after = (day_run s.shadow file).after in
      HasReport after.table after.base after.shadow (opening_base file)
  unfolding day_run new_table_under
  day_reported a opens = (balanced backward_rule (opening_base file) s.shadow opens a.shadow_fits (events_in (event_bytes file))).reported

  -- what the call gives back, refused or run
  pub tree_refused :
      (buffer : List ℕ) {cause size : ℕ} {out : List ℕ} → cause ≡ day_tree_cause s opening file → cause ≢ 0 →
      size ≡ length (refused_line cause) → out ≡ put_at buffer 0 (refused_line cause) →
      day_tree_of size out s opening ≡ run_day_tree s opening file buffer
  unfolding run_day_tree tree_of_day
  tree_refused buffer {cause} is given is_size is_out = rw (is_size, is_out, sym is, ne_eqb cause 0 given)

  -- the table, the stores and the opening store as the run and the opening leave them
  module _ {table base shadow now : List ℕ} (leaves : ledger_of table base shadow ≡ (day_run s.shadow file).after)
      (is_opening : now ≡ opening_base file) where
    pub has_report : Accepts s file → length now ≡ base_length → HasReport table base shadow now
    has_report a opens =
        rw (ap (λ (l : Ledger). l.table) leaves, ap (λ (l : Ledger). l.base) leaves, ap (λ (l : Ledger). l.shadow) leaves, is_opening)
        (day_reported a (ap length (sym is_opening) ∙ opens))

    pub tree_runs :
        (buffer : List ℕ) {size : ℕ} {out : List ℕ} → day_tree_cause s opening file ≡ 0 → size ≡ length (tree_text table base now) →
        out ≡ put_at buffer 0 (tree_text table base now) →
        day_tree_of size out (ledger_of table base shadow) now ≡ run_day_tree s opening file buffer
    unfolding run_day_tree tree_of_day day_tree
    tree_runs buffer none is_size is_out =
        rw (none, is_size, is_out, leaves, ap (λ (l : Ledger). l.table) leaves, ap (λ (l : Ledger). l.base) leaves, is_opening)

  -- ---- the text's length

  -- that of a day that is run, where its opening base store is one
  run_bound : Accepts s file → length (opening_base file) ≡ base_length → length (day_tree s.shadow file) ≤ listing_length
  unfolding day_tree
  run_bound a opens =
      let after = (day_run s.shadow file).after in
      tree_text_fits after.table after.base after.shadow (opening_base file) (day_reported a opens)

  module _ (buffer : List ℕ) {size : ℕ} {out now : List ℕ} {after : Ledger}
      (gives : day_tree_of size out after now ≡ run_day_tree s opening file buffer) (opens : length now ≡ base_length) where
    tree_bound : length (tree_of_day s opening file) ≤ listing_length
    unfolding tree_of_day run_day_tree
    tree_bound = by_cause (ℕ_discrete (day_tree_cause s opening file) 0)
      where
        by_cause : Dec (day_tree_cause s opening file ≡ 0) → length (tree_of_day s opening file) ≤ listing_length
        by_cause (yes none) =
            let is : now ≡ opening_base file = ap (λ (d : DayTree). d.opening) gives ∙ rw none in
            let a = accepts s file (tree_accepts none).1 in
            rw none (run_bound a (ap length (sym is) ∙ opens))
        by_cause (no given) = rw (ne_eqb (day_tree_cause s opening file) 0 given) (refused_fits (day_tree_cause s opening file))

    pub tree_size : size ≡ length (tree_of_day s opening file)
    unfolding run_day_tree
    tree_size = ap (λ (d : DayTree). d.size) gives

    pub tree_out : out ≡ put_at buffer 0 (tree_of_day s opening file)
    unfolding run_day_tree
    tree_out = ap (λ (d : DayTree). d.buffer) gives

    -- what is printed is a part of the program's buffer
    pub tree_printed_fits : length buffer ≡ listing_length → size ≤ length out
    tree_printed_fits room =
        rw (tree_out, put_at_length buffer (tree_of_day s opening file) 0 (omega (arith, tree_bound)), room, tree_size) tree_bound
