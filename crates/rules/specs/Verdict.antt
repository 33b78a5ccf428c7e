-- What is found against an action when it asks to commit, by the table's rule; and RULES 4.7: the verdict of one that enters its
-- queue, settled there and then. Assumes nothing.
use Rattle.std.specs.Prelude.{Option, ℕ, Bool, not, cond, ◌&&◌, List, eqb}
use Rattle.rules.specs.Range.{any}
use Rattle.rules.specs.Card.{accounts}
use Rattle.rules.specs.declared.Found.{Found}
use Rattle.rules.specs.Table.{parent_of, is_forward}
use Rattle.rules.specs.Queue.{good, failed, queue}
use Rattle.rules.specs.Clash.{is_clear, first_clash}
use Rattle.rules.specs.Ahead.{is_read_ahead, first_ahead}

-- RULES 4.5 and 4.6: what n's commit is judged by: under rule 1 its first clash, under rule 2 the first reader ahead of it. Under
-- rule 1 the first number is an end time, under rule 2 an action.
unfoldable pub commit_verdict : List ℕ → ℕ → Option Found
commit_verdict w n =
    let clash = first_clash w n in
    let ahead = first_ahead w n in
    cond (is_forward w) ahead clash

-- ---- RULES 4.7: under rule 1 alone

-- m's write set meets n's read set
unfoldable pub meets : List ℕ → ℕ → ℕ → Bool
meets w n m = any (is_read_ahead w m n) accounts

-- m is a sibling of n whose writes n has read
unfoldable pub is_met_by : List ℕ → ℕ → ℕ → Bool
is_met_by w n m = eqb (parent_of w m) (parent_of w n) && meets w n m

-- one of those in queue h is
unfoldable pub is_met_in_queue : List ℕ → ℕ → ℕ → Bool
is_met_in_queue w h n = any (λ e. is_met_by w n e.number) (queue w h)

unfoldable pub verdict_of : List ℕ → ℕ → ℕ → ℕ
verdict_of w h n = cond (is_clear (first_clash w n) && not (is_met_in_queue w h n)) good failed
