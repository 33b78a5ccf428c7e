-- `put_tree` meets its contract: the last block is put right behind the lines, and there is room for both. Assumes nothing.
use Rattle.listing.specs.Report.{text_of_report}
use Rattle.text.proofs.Texts.{writes_then}
use Rattle.listing.proofs.tree.put_tree.Goals as goal

pub returns : goal.returns
unfolding text_of_report
returns c = writes_then c.put_action_lines.ensures c.put_balance_lines.ensures
