use Rattle.std.proofs.Common.{pos, refl, ◌∙◌}
use Rattle.value_model.specs.Parts.{meant}
use Rattle.value_model.specs.Values as m
use Rattle.value_model.specs.declared.operator.ArithOp.TheVariants as op
use Rattle.op_words.specs.declared.insn.Insn.TheVariants.{SubRK}
use Rattle.machine_meaning.specs.Effects as effects
use Rattle.machine_meaning.specs.Instructions.{row}
use Rattle.machine_meaning.specs.States.{Run, value_in}
use Rattle.machine_world.specs.Parts.{register_value}
use Rattle.machine_world.proofs.Going.{runs_on}
use Rattle.machine_world.proofs.Here.{read_here, with_known}
use Rattle.machine_rows.proofs.Operating.{operands_read}
use Rattle.machine_rows.proofs.Steps.{does_like}
use Rattle.machine_rows.proofs.arithmetic.constant_less.Goals as goal

pub returns-clause-makes : goal.returns-clause-makes
returns-clause-makes c = λ chunk words n is.
    let w = c.args.world.now in
    let k = c.args.machine.now in
    let a = meant w.names c.args.constant in
    let b = meant w.names c.read-b.result in
    does_like chunk w w k.code k.stack c.calculate.new.machine.stack (row chunk words (SubRK c.args.to n c.args.right) c.args.next) (effects.calculate op.Sub a b c.args.to c.args.next) 0 c.calculate.result (runs_on k.stack c.requires.goes)
    (λ replies h. with_known chunk h (pos n) a (λ v. effects.calculate op.Sub v (value_in h.frame h.world c.args.right) c.args.to c.args.next) is
    ∙ operands_read op.Sub a b a (value_in h.frame h.world c.args.right) c.args.to c.args.next h.frame h.others h.world refl
    (read_here h m.Nil (register_value c.args.right) Run b (c.read-b.ensures.value Run replies)))
    (c.calculate.ensures.makes chunk)
