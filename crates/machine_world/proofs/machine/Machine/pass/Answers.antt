use Rattle.std.proofs.Common.{zero, suc, pos, refl}
use Rattle.op_words.specs.declared.insn.Insn.TheVariants.{Nop, PrepVarargs}
use Rattle.machine_meaning.specs.Instructions.{row}
use Rattle.machine_world.proofs.Here.{row_passes, row_passes_charged}
use Rattle.machine_world.proofs.machine.Machine.pass.Goals as goal

pub returns-clause-makes : goal.returns-clause-makes
returns-clause-makes c = λ chunk words.
    let w = c.args.world.now in
    let k = c.args.self.now in
    row_passes w k.code k.code k.stack c.go.new.self.stack (row chunk words (Nop (pos zero)) c.args.next) c.args.next c.requires.goes refl c.go.ensures.placed (λ replies h. refl)

pub returns-clause-charges : goal.returns-clause-charges
returns-clause-charges c = λ chunk words.
    let w = c.args.world.now in
    let k = c.args.self.now in
    row_passes_charged w k.code k.stack c.go.new.self.stack (row chunk words (Nop (pos (suc zero))) c.args.next) c.args.next c.requires.goes c.go.ensures.placed (λ replies h. refl)

pub returns-clause-prepares : goal.returns-clause-prepares
returns-clause-prepares c = λ chunk words parameters.
    let w = c.args.world.now in
    let k = c.args.self.now in
    row_passes w k.code k.code k.stack c.go.new.self.stack (row chunk words (PrepVarargs parameters) c.args.next) c.args.next c.requires.goes refl c.go.ensures.placed (λ replies h. refl)
