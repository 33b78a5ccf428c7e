-- `rows` meets its contract: the first rows of all those that the words make. Assumes nothing.
use Rattle.std.proofs.Common.{◌≤◌, ◌/◌, length, arith, ◌∙◌, ap, length-take-le}
use mathlib.Core.List.{[]}
use lib.ListN.{get_or}
use Rattle.std.proofs.Math.Nat.{le-div_iff_mul-le, mul_comm}
use Rattle.std.proofs.lemmas.List.{get_or-take}
use Rattle.listing.proofs.RowWords.{word_of_row}
use Rattle.listing.proofs.rows.rows.Goals as goal

pub returns : goal.returns
returns g c =
    let all : c.args.count ≤ length c.args.words.now / g.row.N =
    (le-div_iff_mul-le c.requires.positive).1 (omega (arith, c.requires.inside, mul_comm g.row.N c.args.count)) in
    record {
      many = length-take-le _ _ (omega (arith, all, c.as_chunks.ensures.front_len));
      each = λ i k row word.
          ap (λ row. get_or row k 0) (get_or-take c.args.count c.as_chunks.result.0.now i [] row)
          ∙ ap (λ rows. get_or (get_or rows i []) k 0) c.as_chunks.ensures.front
          ∙ word_of_row g.row.N _ c.args.words.now i k (omega (arith, row, all)) word;
    }
