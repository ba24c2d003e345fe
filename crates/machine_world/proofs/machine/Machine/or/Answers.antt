use Rattle.std.proofs.Common.{sym, subst}
use Rattle.value_model.specs.Parts.{meant}
use Rattle.value_model.specs.Values as m
use Rattle.luau_tables.specs.Worlds.{MayUseIn}
use Rattle.op_words.specs.declared.insn.Insn.TheVariants.{Or}
use Rattle.machine_meaning.specs.Instructions.{row}
use Rattle.machine_meaning.specs.Moves.{give}
use Rattle.machine_meaning.specs.States.{Run, value_in}
use Rattle.value_model.specs.Values.{is_true}
use Rattle.machine_world.specs.Parts.{register_value}
use Rattle.machine_world.proofs.Going.{runs_on}
use Rattle.machine_world.proofs.Here.{row_like, read_here, decides_on, usable_cond}
use Rattle.machine_world.proofs.machine.Machine.or.Goals as goal

pub give-requires-clause-usable : goal.give-requires-clause-usable
give-requires-clause-usable c =
    let w = c.args.world.now in
    subst (MayUseIn w) (sym c.select-chosen.ensures) (usable_cond (MayUseIn w) c.truthy.result c.read-v.result c.read-u.result c.read-v.ensures.usable c.read-u.ensures.usable)

pub returns-clause-makes : goal.returns-clause-makes
returns-clause-makes c = λ chunk words.
    let w = c.args.world.now in
    let k = c.args.self.now in
    row_like w w k.code k.stack c.give.new.self.stack (row chunk words (Or c.args.to c.args.left c.args.right) c.args.next) (give c.args.to (meant w.names c.select-chosen.result) c.args.next) Run (runs_on k.stack c.requires.goes) c.give.ensures.makes
    (λ replies h. decides_on w.names c.truthy.result (value_in h.frame h.world c.args.left) (value_in h.frame h.world c.args.left) (value_in h.frame h.world c.args.right) c.read-v.result c.read-v.result c.read-u.result c.select-chosen.result c.args.to c.args.next h.frame h.others h.world
    (read_here h m.Nil (register_value c.args.left) Run (meant w.names c.read-v.result) (c.read-v.ensures.value Run replies)) (c.truthy.ensures w.names)
    (read_here h m.Nil (register_value c.args.left) Run (meant w.names c.read-v.result) (c.read-v.ensures.value Run replies))
    (read_here h m.Nil (register_value c.args.right) Run (meant w.names c.read-u.result) (c.read-u.ensures.value Run replies)) c.select-chosen.ensures)
