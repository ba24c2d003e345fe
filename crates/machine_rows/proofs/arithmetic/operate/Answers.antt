use Rattle.std.proofs.Common.{◌∙◌}
use Rattle.value_model.specs.Parts.{meant}
use Rattle.value_model.specs.Values as m
use Rattle.machine_meaning.specs.Effects as effects
use Rattle.machine_meaning.specs.Instructions.{row}
use Rattle.machine_meaning.specs.States.{Run, value_in}
use Rattle.machine_world.specs.Parts.{register_value}
use Rattle.machine_world.proofs.Going.{runs_on}
use Rattle.machine_world.proofs.Here.{read_here}
use Rattle.machine_rows.specs.Operations.{on_registers}
use Rattle.machine_rows.proofs.Operating.{registers_row, operands_read}
use Rattle.machine_rows.proofs.Steps.{does_like}
use Rattle.machine_rows.proofs.arithmetic.operate.Goals as goal

pub returns-clause-makes : goal.returns-clause-makes
returns-clause-makes c = λ chunk words.
    let w = c.args.world.now in
    let k = c.args.machine.now in
    let a = meant w.names c.read-a.result in
    let b = meant w.names c.read-b.result in
    does_like chunk w w k.code k.stack c.calculate.new.machine.stack (row chunk words (on_registers c.args.op c.args.to c.args.left c.args.right) c.args.next) (effects.calculate c.args.op a b c.args.to c.args.next) 0 c.calculate.result (runs_on k.stack c.requires.goes)
    (λ replies h. registers_row c.args.op chunk words c.args.to c.args.left c.args.right c.args.next h.frame h.others h.world
    ∙ operands_read c.args.op a b (value_in h.frame h.world c.args.left) (value_in h.frame h.world c.args.right) c.args.to c.args.next h.frame h.others h.world
    (read_here h m.Nil (register_value c.args.left) Run a (c.read-a.ensures.value Run replies))
    (read_here h m.Nil (register_value c.args.right) Run b (c.read-b.ensures.value Run replies)))
    (c.calculate.ensures.makes chunk)
