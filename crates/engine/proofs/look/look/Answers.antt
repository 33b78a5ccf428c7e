-- `look` meets its contract: with a cause its part is empty, and else the nearest version is a whole card inside one of the
-- stores. Assumes nothing.
use native.Mathlib.Omega.{arith}
use mathlib.Core.Path.{refl, sym, ap, ◌∙◌}
use Rattle.rules.proofs.Laws.Walking.{nearest_given}
use Rattle.rules.specs.declared.Version.{Version}
use Rattle.rules.specs.Look.{look_at}
use Rattle.rules.proofs.Laws.Refusals.{never_none}
use Rattle.rules.proofs.Sound.Soundness.{facts}
use Rattle.rules.proofs.Stores.Looking.{look_refused_is, look_given, read_allowed}
use Rattle.engine.proofs.look.look.Goals as goal

pub returns-in-Err : goal.returns-in-Err
returns-in-Err c =
    rw (look_refused_is _ _ _ _ _ (λ none. never_none _ (c.in-Err.ensures.cause ∙ none)), ← c.in-Err.ensures.cause)
    record { cause = refl; moves = refl; bytes = refl; place = record { points = refl; size = refl } }

pub held_card-requires : goal.held_card-requires
held_card-requires c =
    let read = read_allowed _ _ _ _ _ (sym c.in-Ok.ensures.cause) in
    let sound = facts _ read.sound_test in
    record {
      stores_fit = record { base_fits = read.base_fits; shadow_fits = read.shadow_fits };
      holder =
          omega (
            arith,
            ap (λ (v : Version). v.holder) c.in-Ok.ensures.version,
            nearest_given c.args.table.now sound c.args.n c.args.k (read.early.number_known, read.early.alive),
            sound.few,
          );
      account = read.early.account_known refl;
    }

pub returns-in-Ok : goal.returns-in-Ok
returns-in-Ok c =
    rw (look_given _ _ _ _ _ (sym c.in-Ok.ensures.cause) ∙ ap (λ v. look_at v c.args.k) (sym c.in-Ok.ensures.version))
    record { cause = refl; moves = refl; bytes = c.held_card.ensures.bytes; place = c.held_card.ensures.place }
