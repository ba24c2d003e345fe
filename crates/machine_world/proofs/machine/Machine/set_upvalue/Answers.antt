use Rattle.std.proofs.Common.{refl, subst}
use Rattle.value_model.specs.Parts.{meant}
use Rattle.op_words.specs.declared.insn.Insn.TheVariants.{SetUpvalue}
use Rattle.machine_meaning.specs.Instructions.{row}
use Rattle.machine_world.specs.Parts.{Becomes, changed, placed, set_upvalue, register_value}
use Rattle.machine_world.proofs.Going.{row_goes, read_becomes}
use Rattle.machine_world.proofs.machine.Machine.set_upvalue.Goals as goal

pub returns-clause-makes : goal.returns-clause-makes
returns-clause-makes c = λ chunk words.
    let w = c.args.world.now in
    let w' = c.write_up.new.world in
    let k = c.args.self.now in
    row_goes w w' k.code k.stack c.write_up.new.self.stack c.go.new.self.stack (row chunk words (SetUpvalue c.args.from c.args.upvalue) c.args.next) (λ i. set_upvalue c.args.upvalue (register_value c.args.from i) i) c.args.next (λ f fs v. refl) (λ i. refl)
    (read_becomes w w' k.code k.stack c.write_up.new.self.stack (set_upvalue c.args.upvalue) (register_value c.args.from) (meant w.names c.read-v.result) c.write_up.ensures.written c.read-v.ensures.value c.requires.goes)
    (subst (λ code. Becomes (changed (placed c.args.next)) w' code c.write_up.new.self.stack w' c.go.new.self.stack) c.write_up.ensures.code c.go.ensures.placed) c.requires.goes
