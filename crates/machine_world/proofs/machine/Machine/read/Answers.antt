use Rattle.std.proofs.Common.{sym, ◌∙◌, ap, subst}
use Rattle.value_model.specs.Parts.{meant}
use Rattle.luau_tables.specs.Worlds.{MayUseIn}
use Rattle.machine_world.proofs.Written.{part_read, read_usable}
use Rattle.machine_world.proofs.machine.Machine.read.Goals as goal

pub returns-clause-value : goal.returns-clause-value
returns-clause-value c = λ x replies.
    let w = c.args.world.now in
    let m = c.args.self.now in
    ap (meant w.names) c.local.ensures.value
    ∙ part_read w m.code m.stack c.args.register x replies c.requires.has c.local.ensures.layout c.requires.sound

pub returns-clause-usable : goal.returns-clause-usable
returns-clause-usable c =
    subst (MayUseIn c.args.world.now) (sym c.local.ensures.value) (read_usable c.args.world.now c.args.self.now.stack c.args.register c.requires.sound)
