use Rattle.std.proofs.Common.{refl}
use Rattle.value_model.specs.Parts.{meant}
use Rattle.op_words.specs.declared.insn.Insn.TheVariants.{Move}
use Rattle.machine_meaning.specs.Instructions.{row}
use Rattle.machine_world.specs.Parts.{register_value}
use Rattle.machine_world.proofs.Going.{read_makes}
use Rattle.machine_world.proofs.machine.Machine.move_.Goals as goal

pub returns-clause-makes : goal.returns-clause-makes
returns-clause-makes c = λ chunk words.
    let w = c.args.world.now in
    let k = c.args.self.now in
    read_makes w w k.code k.stack c.give.new.self.stack (row chunk words (Move c.args.to c.args.from) c.args.next) c.args.to c.args.next (meant w.names c.read-v.result) (register_value c.args.from) c.give.ensures.makes (λ f fs x. refl) c.read-v.ensures.value c.requires.goes
