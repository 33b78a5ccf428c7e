-- `put_column` meets its contract: a refused list puts its one line, any other the lines of its accounts. Assumes nothing.
use Rattle.std.proofs.Common.{arith, ne_eqb}
use Rattle.rules.proofs.Laws.Refusals.{never_none}
use Rattle.text.proofs.RefusedLine.{refused_bound}
use Rattle.charges.specs.Column.{column_text}
use Rattle.charges.proofs.column.put_column.Goals as goal

pub put_refused-requires : goal.put_refused-requires
put_refused-requires c = omega (arith, c.requires, refused_bound c.from.result)

pub returns-in-Ok : goal.returns-in-Ok
unfolding column_text
returns-in-Ok c = rw (← c.in-Ok.ensures) c.put_lines.ensures

pub returns-in-Err : goal.returns-in-Err
unfolding column_text
returns-in-Err c = rw (← c.in-Err.ensures, ne_eqb _ _ (never_none c.in-Err.fault), ← c.from.ensures) c.put_refused.ensures
