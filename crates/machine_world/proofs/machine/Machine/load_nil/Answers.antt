use Rattle.std.proofs.Common.{refl}
use Rattle.value_model.specs.Parts.{meant}
use Rattle.value_model.specs.Values as m
use Rattle.value_model.specs.declared.value.Value.TheVariants as value
use Rattle.luau_tables.proofs.Sameness.{nil_is}
use Rattle.op_words.specs.declared.insn.Insn.TheVariants.{LoadNil}
use Rattle.machine_meaning.specs.Instructions.{row}
use Rattle.machine_world.proofs.Going.{known_makes}
use Rattle.machine_world.proofs.machine.Machine.load_nil.Goals as goal

pub returns-clause-makes : goal.returns-clause-makes
returns-clause-makes c = λ chunk words.
    let w = c.args.world.now in
    let k = c.args.self.now in
    known_makes w w k.code k.stack c.give.new.self.stack (row chunk words (LoadNil c.args.to) c.args.next) c.args.to c.args.next (meant w.names value.Nil) m.Nil c.give.ensures.makes (nil_is w.names) (λ f fs x. refl) c.requires.goes
