use Rattle.std.proofs.Common.{sym, ◌∙◌, ap, subst}
use Rattle.value_model.specs.Parts.{meant}
use Rattle.luau_tables.specs.Worlds.{MayUseIn}
use Rattle.machine_world.proofs.Upvalues.{part_read_up, up_usable, is_there, runs_up}
use Rattle.machine_world.proofs.machine.Machine.read_up.Goals as goal

pub read_up-requires : goal.read_up-requires
read_up-requires c = is_there c.args.world.now.owner c.args.world.now.arena c.upvalue_cell-cell.result c.upvalue_cell-cell.ensures.cell

pub returns-clause-value : goal.returns-clause-value
returns-clause-value c = λ x replies.
    let w = c.args.world.now in
    let m = c.args.self.now in
    ap (meant w.names) c.read_up.ensures
    ∙ part_read_up w m.code m.stack c.args.upvalue c.upvalue_cell-cell.result x replies (runs_up w.arena m.stack c.args.upvalue c.requires.has) c.lies.ensures c.requires.sound c.upvalue_cell-cell.ensures

pub returns-clause-usable : goal.returns-clause-usable
returns-clause-usable c =
    let w = c.args.world.now in
    subst (MayUseIn w) (sym c.read_up.ensures) (up_usable w c.args.self.now.stack c.upvalue_cell-cell.result c.requires.sound c.upvalue_cell-cell.ensures.cell)
