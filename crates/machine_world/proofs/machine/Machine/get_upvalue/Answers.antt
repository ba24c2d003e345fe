use Rattle.std.proofs.Common.{refl}
use Rattle.value_model.specs.Parts.{meant}
use Rattle.op_words.specs.declared.insn.Insn.TheVariants.{GetUpvalue}
use Rattle.machine_meaning.specs.Instructions.{row}
use Rattle.machine_world.specs.Parts.{upvalue}
use Rattle.machine_world.proofs.Going.{read_makes}
use Rattle.machine_world.proofs.machine.Machine.get_upvalue.Goals as goal

pub returns-clause-makes : goal.returns-clause-makes
returns-clause-makes c = λ chunk words.
    let w = c.args.world.now in
    let k = c.args.self.now in
    read_makes w w k.code k.stack c.give.new.self.stack (row chunk words (GetUpvalue c.args.to c.args.upvalue) c.args.next) c.args.to c.args.next (meant w.names c.read_up-v.result) (upvalue c.args.upvalue) c.give.ensures.makes (λ f fs x. refl) c.read_up-v.ensures.value c.requires.goes
