use Rattle.std.proofs.Common.{refl}
use Rattle.op_words.specs.declared.insn.Insn.TheVariants.{SetUpvalue, CloseUpvalues}
use Rattle.machine_meaning.specs.States.{Run}
use Rattle.machine_world.proofs.Going.{runs_on}
use Rattle.machine_steps.proofs.Steps.{executes_made}
use Rattle.machine_steps.proofs.cells.cell.Goals as goal

pub returns-in-SetUpvalue-clause-does : goal.returns-in-SetUpvalue-clause-does
returns-in-SetUpvalue-clause-does c = λ chunk p stands.
    let w = c.args.world.now in
    let k = c.args.machine.now in
    let i = c.in-SetUpvalue in
    executes_made chunk p w c.set_upvalue.new.world k.code k.stack c.set_upvalue.new.self.stack c.args.line.insn (SetUpvalue i.from i.upvalue) c.args.line.next Run i.is refl (runs_on k.stack c.requires.goes) stands (c.set_upvalue.ensures.makes chunk p.code)

pub returns-in-CloseUpvalues-clause-does : goal.returns-in-CloseUpvalues-clause-does
returns-in-CloseUpvalues-clause-does c = λ chunk p stands.
    let w = c.args.world.now in
    let k = c.args.machine.now in
    let i = c.in-CloseUpvalues in
    executes_made chunk p w c.close.new.world k.code k.stack c.close.new.machine.stack c.args.line.insn (CloseUpvalues i.from) c.args.line.next Run i.is refl (runs_on k.stack c.requires.goes) stands (c.close.ensures.makes chunk p.code)
