use Rattle.std.proofs.Common.{pos, refl, ◌∙◌, ap}
use Rattle.value_model.specs.Parts.{meant}
use Rattle.value_model.specs.Values as m
use Rattle.machine_meaning.specs.Constants.{known}
use Rattle.machine_meaning.specs.Effects as effects
use Rattle.machine_meaning.specs.Instructions.{row}
use Rattle.machine_meaning.specs.States.{Run, value_in}
use Rattle.machine_world.specs.Parts.{register_value}
use Rattle.machine_world.proofs.Going.{runs_on}
use Rattle.machine_world.proofs.Here.{read_here}
use Rattle.machine_rows.specs.Operations.{on_constant}
use Rattle.machine_rows.proofs.Operating.{constant_row, operands_read}
use Rattle.machine_rows.proofs.Steps.{does_like}
use Rattle.machine_rows.proofs.arithmetic.operate_with_constant.Goals as goal

pub returns-clause-makes : goal.returns-clause-makes
returns-clause-makes c = λ chunk words n is.
    let w = c.args.world.now in
    let k = c.args.machine.now in
    let a = meant w.names c.read-a.result in
    let b = meant w.names c.args.constant in
    does_like chunk w w k.code k.stack c.calculate.new.machine.stack (row chunk words (on_constant c.args.op c.args.to c.args.left n) c.args.next) (effects.calculate c.args.op a b c.args.to c.args.next) 0 c.calculate.result (runs_on k.stack c.requires.goes)
    (λ replies h. constant_row c.args.op chunk words c.args.to c.args.left n c.args.next b h.frame h.others h.world (ap (λ p. known chunk p (pos n)) h.proto ∙ is)
    ∙ operands_read c.args.op a b (value_in h.frame h.world c.args.left) b c.args.to c.args.next h.frame h.others h.world
    (read_here h m.Nil (register_value c.args.left) Run a (c.read-a.ensures.value Run replies)) refl)
    (c.calculate.ensures.makes chunk)
