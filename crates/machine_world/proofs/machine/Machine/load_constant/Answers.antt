use Rattle.std.proofs.Common.{pos}
use Rattle.value_model.specs.Parts.{meant}
use Rattle.op_words.specs.declared.insn.Insn.TheVariants.{LoadK, LoadKX}
use Rattle.machine_meaning.specs.Instructions.{row}
use Rattle.machine_meaning.specs.Moves.{give}
use Rattle.machine_meaning.specs.States.{Run}
use Rattle.machine_world.proofs.Going.{runs_on}
use Rattle.machine_world.proofs.Here.{row_like, with_known}
use Rattle.machine_world.proofs.machine.Machine.load_constant.Goals as goal

pub returns-clause-makes : goal.returns-clause-makes
returns-clause-makes c = λ chunk words n is.
    let w = c.args.world.now in
    let k = c.args.self.now in
    row_like w w k.code k.stack c.give.new.self.stack (row chunk words (LoadK c.args.to n) c.args.next) (give c.args.to (meant w.names c.args.v) c.args.next) Run (runs_on k.stack c.requires.goes) c.give.ensures.makes
    (λ replies h. with_known chunk h n (meant w.names c.args.v) (λ v. give c.args.to v c.args.next) is)

pub returns-clause-further : goal.returns-clause-further
returns-clause-further c = λ chunk words n is.
    let w = c.args.world.now in
    let k = c.args.self.now in
    row_like w w k.code k.stack c.give.new.self.stack (row chunk words (LoadKX c.args.to n) c.args.next) (give c.args.to (meant w.names c.args.v) c.args.next) Run (runs_on k.stack c.requires.goes) c.give.ensures.makes
    (λ replies h. with_known chunk h (pos n) (meant w.names c.args.v) (λ v. give c.args.to v c.args.next) is)
