-- RULES 6.1 and 6.2: what the serial run is told of an event: what its answer says and, where the head of a queue was tried,
-- who is fed as having committed by leaving. Blocks and R go by this alone, so by the answer's kind and never by the event's
-- code. Assumes nothing.
use Rattle.std.specs.Prelude.{ℕ, List, [], ◌∷◌}
use Rattle.rules.specs.declared.Answer.{Answer}
use Rattle.rules.specs.declared.Answer.TheVariants.{Started, Read, ReadSum, Written, Added, Entered, Ready, JudgedFailed, Committed, Failed, Aborted, Refused}

pub data Told : Type 0 where
  -- an action began under the event's number, and was given number n
  it_began : (n : ℕ) → Told
  -- the action of the event's number read, wrote, added, committed
  it_read it_wrote it_added it_committed : Told
  -- the head of a queue was tried, or of both, and these committed as they left, in this order
  it_let_leave : (leavers : List ℕ) → Told
  -- nothing took place that a block holds
  it_did_nothing : Told

-- of an answer, and of the leavers fed beside it
abbrev pub told : Answer → List ℕ → Told
told (Started n) leavers = it_began n
told (Read holder moves) leavers = it_read
told (ReadSum holder moves x) leavers = it_read
told Written leavers = it_wrote
told Added leavers = it_added
told (Committed t) leavers = it_committed
told (Ready left) leavers = it_let_leave leavers
told (JudgedFailed left) leavers = it_let_leave leavers
told (Aborted n left) leavers = it_let_leave leavers
told (Failed t k) leavers = it_did_nothing
told Entered leavers = it_did_nothing
told (Refused c) leavers = it_did_nothing

-- event by event, as far as both lists go
unfoldable pub told_all : List Answer → List (List ℕ) → List Told
told_all [] fed = []
told_all (a ∷ answers) [] = []
told_all (a ∷ answers) (leavers ∷ fed) = told a leavers ∷ told_all answers fed
