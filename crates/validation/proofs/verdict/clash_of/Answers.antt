-- `clash_of` meets its contract: in a sound table a live action has no clash where none is known. Assumes nothing.
use mathlib.Core.Path.{◌∙◌, sym}
use Rattle.rules.proofs.Clash.Known.{known_clear}
use Rattle.validation.proofs.verdict.clash_of.Goals as goal

pub returns-then-not-is_known_clash : goal.returns-then-not-is_known_clash
returns-then-not-is_known_clash c =
    sym (known_clear _ c.requires.sound _ c.requires.live_action (sym c.is_known_clash.ensures ∙ c.if-not-is_known_clash.true))
