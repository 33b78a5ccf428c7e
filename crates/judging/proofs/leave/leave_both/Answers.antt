-- `leave_both` gives and leaves what `leave_both` says: those who leave the topactions' queue leave the table sound, and then the
-- other queue is left. Assumes nothing.
use native.Mathlib.Omega.{arith}
use mathlib.Core.Path.{ap}
use Rattle.rules.specs.Kind.{top_kind, sub_kind}
use Rattle.rules.specs.Sound.{Sound}
use Rattle.rules.specs.Ledger.{Ledger, ledger_of}
use Rattle.rules.specs.Step.{leave, leave_both}
use Rattle.rules.proofs.Sound.Leaving.{leave_keeps_sound}
use Rattle.judging.proofs.Leaving.{leave_few, leave_fits}
use Rattle.judging.proofs.leave.leave_both.Goals as goal

-- the ledger when the topactions' queue of another has been left
abbrev between : Ledger → Ledger
between s = (leave top_kind s).after

between_sound : (s : Ledger) → Sound s.table → Sound (between s).table
between_sound s sound = leave_keeps_sound top_kind (omega arith) s sound

pub leave-subs-requires : goal.leave-subs-requires
leave-subs-requires c =
    let entry = ledger_of c.args.table.now c.args.base.now c.args.shadow.now in
    let now = c.leave-tops.ensures.leaves in
    let fits = leave_fits top_kind (omega arith) entry c.requires.sound c.requires.stores_fit in
    record {
      sound = rw (ap (λ (l : Ledger). l.table) now) (between_sound entry c.requires.sound);
      stores_fit = rw (ap (λ (l : Ledger). l.base) now, ap (λ (l : Ledger). l.shadow) now) fits;
    }

pub overflow_add-result : goal.overflow_add-result
overflow_add-result c =
    let entry = ledger_of c.args.table.now c.args.base.now c.args.shadow.now in
    let now = c.leave-tops.ensures.leaves in
    let few = leave_few top_kind (omega arith) entry c.requires.sound in
    let more = leave_few sub_kind (omega arith) (between entry) (between_sound entry c.requires.sound) in
    omega (arith, c.leave-tops.ensures.count, rw now at c.leave-subs.ensures.count, few, more)

pub returns : goal.returns
unfolding leave_both
returns c =
    let now = c.leave-tops.ensures.leaves in record { count = rw (c.leave-tops.ensures.count, c.leave-subs.ensures.count, now); leaves = rw (c.leave-subs.ensures.leaves, now) }
