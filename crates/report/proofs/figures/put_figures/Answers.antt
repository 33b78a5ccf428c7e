-- `put_figures` puts the figures of one account behind those of the other. Assumes nothing.
use native.Mathlib.Omega.{arith}
use mathlib.Core.Path.{◌≡◌, refl, sym, ap, ◌∙◌}
use mathlib.Core.List.{List, map, flat_map}
use Prim.Native.Nat.{ℕ}
use lib.ListN.{length}
use lib.Seq.{sets}
use Rattle.rules.specs.Range.{up_from}
use Rattle.rules.specs.Card.{charge_accounts}
use Rattle.rules.specs.Amount.{amount_word}
use Rattle.rules.specs.Tree.{account_figures, figures_of}
use Rattle.report.specs.Asked.{account_words, figure_words}
use Rattle.report.proofs.Words.{put_first, room_here, put_next, put_last, words_in_turn}
use Rattle.report.proofs.figures.put_figures.Goals as goal

-- the words of n's figures for an account
abbrev words : List ℕ → ℕ → ℕ → List ℕ
words table n k = map amount_word (account_figures table n k)

all_words : (table : List ℕ) (n : ℕ) → map amount_word (figures_of table n) ≡ flat_map (words table n) charge_accounts
unfolding figures_of
all_words table n = words_in_turn amount_word (account_figures table n) charge_accounts

how_many : (table : List ℕ) (n : ℕ) → length (flat_map (words table n) charge_accounts) ≡ figure_words
unfolding charge_accounts up_from flat_map
how_many table n = refl

pub loop-k-init : goal.loop-k-init
loop-k-init c =
    put_first _ account_words _ _ (omega (arith, how_many c.args.table.now c.args.n))

pub put_account-requires : goal.put_account-requires
put_account-requires c =
    let loop = c.loop-k in
    record { figures_fit = c.requires.figures_fit; has_line = (c.requires.has_line, omega (arith, loop.invariant)); has_room_for = room_here _ _ loop.invariant c.loop-k-test.true }

pub loop-k-preserved : goal.loop-k-preserved
loop-k-preserved c =
    let loop = c.loop-k in
    put_next _ _ loop.invariant c.loop-k-test.true refl _ c.put_account.ensures

pub shape_of-report : goal.shape_of-report
shape_of-report c = c.loop-k.invariant.long

pub returns : goal.returns
returns c =
    let args = c.args in
    put_last _ _ c.loop-k.invariant c.loop-k-test.false ∙ ap (sets args.report.now args.from) (sym (all_words args.table.now args.n))
