-- `write_full` meets its contract: what a write takes of `rest` joins the bytes in front of it. Assumes nothing.
use Rattle.std.proofs.Common.{◌≡◌, ◌++◌, ℕ, List, ◌-◌, ◌+◌, length, take, drop, sym, ap, ◌∙◌, subst, append_assoc, take-append-drop}
use Rattle.std.proofs.lemmas.List.{take_rest}
use Rattle.std.proofs.Math.Seq.{take-append_seam, take-append-add}
use Rattle.std.specs.Io.KnownBytes.{Appends}
use Rattle.std.proofs.KnownBytes.{Appends-trans, Appends-kept}
use Rattle.streams.specs.Parts.{AppendsFront}
use Rattle.streams.proofs.Errors.{on_err}
use Rattle.streams.proofs.write_full.Goals as goal

-- the front of what is left stands behind what is gone of it
moves_front :
    (all done rest : List ℕ) (n : ℕ) → all ≡ done ++ rest → all ≡ (done ++ take n rest) ++ take (length rest - n) (drop n rest)
moves_front all done rest n e =
    e ∙ ap (λ l. done ++ l) (sym (take-append-drop n rest)) ∙ sym (append_assoc done (take n rest) (drop n rest))
    ∙ ap (λ l. (done ++ take n rest) ++ l) (sym (take_rest rest n))

pub loop-rest-preserved : goal.loop-rest-preserved
loop-rest-preserved g c =
    let (done, split, appended) = c.loop-rest.invariant in
    let rest = c.loop-rest.rest.now in (
      done ++ take c.in_ok-n.n rest,
      moves_front _ done rest c.in_ok-n.n split,
      Appends-trans _ _ _ _ _ appended c.in_ok-n.ensures.bytes,
    )

pub returns-in_err-n-clause-failed : goal.returns-in_err-n-clause-failed
returns-in_err-n-clause-failed g c =
    let (done, split, appended) = c.loop-rest.invariant in
    let front = sym (ap (take (length done)) split ∙ take-append_seam done c.loop-rest.rest.now) in
    let written = subst (Appends _ _) front (Appends-kept _ _ _ _ appended c.in_err-n.ensures.bytes) in
    on_err {P = AppendsFront _ _ _} _ record { many = length done; written = written }

pub returns-then-n-eq0-clause-failed : goal.returns-then-n-eq0-clause-failed
returns-then-n-eq0-clause-failed g c =
    let (done, split, appended) = c.loop-rest.invariant in
    let n = c.in_ok-n.n in
    let front = sym (ap (take (length done + n)) split ∙ take-append-add done c.loop-rest.rest.now n) in
    record { many = length done + n; written = subst (Appends _ _) front (Appends-trans _ _ _ _ _ appended c.in_ok-n.ensures.bytes) }
