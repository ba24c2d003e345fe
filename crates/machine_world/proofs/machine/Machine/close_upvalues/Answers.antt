use Rattle.std.proofs.Common.{refl, subst}
use Rattle.op_words.specs.declared.insn.Insn.TheVariants.{CloseUpvalues}
use Rattle.machine_meaning.specs.Instructions.{row}
use Rattle.machine_world.specs.Parts.{Becomes, changed, placed, close}
use Rattle.machine_world.proofs.Going.{row_goes}
use Rattle.machine_world.proofs.machine.Machine.close_upvalues.Goals as goal

pub returns-clause-makes : goal.returns-clause-makes
returns-clause-makes c = λ chunk words.
    let w = c.args.world.now in
    let w' = c.close.new.world in
    let k = c.args.self.now in
    row_goes w w' k.code k.stack c.close.new.self.stack c.go.new.self.stack (row chunk words (CloseUpvalues c.args.from) c.args.next) (close c.args.from) c.args.next (λ f fs v. refl) (λ i. refl) c.close.ensures.closed
    (subst (λ code. Becomes (changed (placed c.args.next)) w' code c.close.new.self.stack w' c.go.new.self.stack) c.close.ensures.code c.go.ensures.placed) c.requires.goes
