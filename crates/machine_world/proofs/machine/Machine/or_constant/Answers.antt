use Rattle.std.proofs.Common.{refl, sym, ◌∙◌, subst, pos}
use Rattle.value_model.specs.Parts.{meant}
use Rattle.value_model.specs.Values as m
use Rattle.luau_tables.specs.Worlds.{MayUseIn}
use Rattle.op_words.specs.declared.insn.Insn.TheVariants.{OrK}
use Rattle.machine_meaning.specs.Instructions.{row}
use Rattle.machine_meaning.specs.Moves.{give}
use Rattle.machine_meaning.specs.Effects.{decided}
use Rattle.machine_meaning.specs.States.{Run, value_in}
use Rattle.value_model.specs.Values.{is_true}
use Rattle.machine_world.specs.Parts.{register_value}
use Rattle.machine_world.proofs.Going.{runs_on}
use Rattle.machine_world.proofs.Here.{row_like, read_here, with_known, decides_on, usable_cond}
use Rattle.machine_world.proofs.machine.Machine.or_constant.Goals as goal

pub give-requires-clause-usable : goal.give-requires-clause-usable
give-requires-clause-usable c =
    let w = c.args.world.now in
    subst (MayUseIn w) (sym c.select-chosen.ensures) (usable_cond (MayUseIn w) c.truthy.result c.read-v.result c.args.constant c.read-v.ensures.usable c.requires.usable)

pub returns-clause-makes : goal.returns-clause-makes
returns-clause-makes c = λ chunk words n is.
    let w = c.args.world.now in
    let k = c.args.self.now in
    row_like w w k.code k.stack c.give.new.self.stack (row chunk words (OrK c.args.to c.args.left n) c.args.next) (give c.args.to (meant w.names c.select-chosen.result) c.args.next) Run (runs_on k.stack c.requires.goes) c.give.ensures.makes
    (λ replies h. with_known chunk h (pos n) (meant w.names c.args.constant) (λ v. decided (is_true (value_in h.frame h.world c.args.left)) (value_in h.frame h.world c.args.left) v c.args.to c.args.next) is
    ∙ decides_on w.names c.truthy.result (value_in h.frame h.world c.args.left) (value_in h.frame h.world c.args.left) (meant w.names c.args.constant) c.read-v.result c.read-v.result c.args.constant c.select-chosen.result c.args.to c.args.next h.frame h.others h.world
    (read_here h m.Nil (register_value c.args.left) Run (meant w.names c.read-v.result) (c.read-v.ensures.value Run replies)) (c.truthy.ensures w.names)
    (read_here h m.Nil (register_value c.args.left) Run (meant w.names c.read-v.result) (c.read-v.ensures.value Run replies))
    refl c.select-chosen.ensures)
