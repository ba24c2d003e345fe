use Rattle.std.proofs.Common.{◌∙◌}
use Rattle.value_model.specs.Parts.{meant}
use Rattle.value_model.specs.Values as m
use Rattle.op_words.specs.declared.insn.Insn.TheVariants.{GetTableKS}
use Rattle.machine_meaning.specs.Effects as effects
use Rattle.machine_meaning.specs.Instructions.{row}
use Rattle.machine_meaning.specs.States.{Run, value_in}
use Rattle.machine_world.specs.Parts.{register_value}
use Rattle.machine_world.proofs.Going.{runs_on}
use Rattle.machine_world.proofs.Here.{read_here}
use Rattle.machine_rows.proofs.Environments.{with_named}
use Rattle.machine_rows.proofs.Operating.{indexed_read}
use Rattle.machine_rows.proofs.Steps.{does_like}
use Rattle.machine_rows.proofs.indexing.get_member.Goals as goal

pub returns-clause-makes : goal.returns-clause-makes
returns-clause-makes g c = λ chunk words n bytes is text.
    let w = c.args.world.now in
    let k = c.args.machine.now in
    let base = meant w.names c.read-base.result in
    let key = meant w.names c.args.name in
    does_like chunk w w k.code k.stack c.index_into.new.machine.stack (row chunk words (GetTableKS c.args.to c.args.table n) c.args.next) (effects.index base key c.args.to c.args.next) c.index_into.result.1 c.index_into.result.0 (runs_on k.stack c.requires.goes)
    (λ replies h. with_named chunk h n bytes (λ x. effects.index (value_in h.frame h.world c.args.table) (m.Text x) c.args.to c.args.next) is
    ∙ indexed_read base key (value_in h.frame h.world c.args.table) (m.Text bytes) c.args.to c.args.next h.frame h.others h.world
    (read_here h m.Nil (register_value c.args.table) Run base (c.read-base.ensures.value Run replies)) text)
    (c.index_into.ensures.makes chunk)
