use Rattle.std.proofs.Common.{◌∙◌}
use Rattle.value_model.specs.Parts.{meant}
use Rattle.value_model.specs.Values as m
use Rattle.value_model.specs.declared.value.Value.TheVariants as value
use Rattle.op_words.specs.declared.insn.Insn.TheVariants.{GetGlobal}
use Rattle.machine_meaning.specs.Effects as effects
use Rattle.machine_meaning.specs.Instructions.{row}
use Rattle.machine_meaning.specs.Moves.{environment_here}
use Rattle.machine_meaning.specs.States.{Run}
use Rattle.machine_world.proofs.Going.{runs_on}
use Rattle.machine_world.proofs.Here.{read_here}
use Rattle.machine_rows.specs.Operations.{environment_value}
use Rattle.machine_rows.proofs.Environments.{with_named}
use Rattle.machine_rows.proofs.Operating.{indexed_read}
use Rattle.machine_rows.proofs.Steps.{does_like}
use Rattle.machine_rows.proofs.indexing.get_global.Goals as goal

pub environment-env-requires-clause-runs : goal.environment-env-requires-clause-runs
environment-env-requires-clause-runs g c = runs_on c.args.machine.now.stack c.requires.goes

pub returns-clause-makes : goal.returns-clause-makes
returns-clause-makes g c = λ chunk words n bytes is text.
    let w = c.args.world.now in
    let k = c.args.machine.now in
    let base = meant w.names (value.Table c.environment-env.result) in
    let key = meant w.names c.args.name in
    does_like chunk w w k.code k.stack c.index_into.new.machine.stack (row chunk words (GetGlobal c.args.to n) c.args.next) (effects.index base key c.args.to c.args.next) c.index_into.result.1 c.index_into.result.0 (runs_on k.stack c.requires.goes)
    (λ replies h. with_named chunk h n bytes (λ x. effects.index (m.Table (environment_here h.frame h.world)) (m.Text x) c.args.to c.args.next) is
    ∙ indexed_read base key (m.Table (environment_here h.frame h.world)) (m.Text bytes) c.args.to c.args.next h.frame h.others h.world
    (read_here h m.Nil environment_value Run base (c.environment-env.ensures.value Run replies)) text)
    (c.index_into.ensures.makes chunk)
