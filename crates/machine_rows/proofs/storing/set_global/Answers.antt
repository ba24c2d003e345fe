use Rattle.std.proofs.Common.{◌∙◌}
use Rattle.value_model.specs.Parts.{meant}
use Rattle.value_model.specs.Values as m
use Rattle.op_words.specs.declared.insn.Insn.TheVariants.{SetGlobal}
use Rattle.machine_meaning.specs.Effects as effects
use Rattle.machine_meaning.specs.Instructions.{row}
use Rattle.machine_meaning.specs.States.{Run, value_in}
use Rattle.machine_world.specs.Parts.{register_value}
use Rattle.machine_world.proofs.Going.{runs_on}
use Rattle.machine_world.proofs.Here.{read_here}
use Rattle.machine_world.proofs.Results.{if_ok}
use Rattle.value_model.specs.declared.value.Value.TheVariants as value
use Rattle.machine_meaning.specs.Moves.{environment_here}
use Rattle.machine_rows.specs.Operations.{environment_value}
use Rattle.machine_rows.proofs.Environments.{with_named}
use Rattle.machine_rows.proofs.Operating.{stored_read}
use Rattle.machine_rows.proofs.Steps.{does_like}
use Rattle.machine_rows.specs.Leading.{Does}
use Rattle.op_words.specs.Chunks.{ChunkOf}
use Rattle.machine_rows.proofs.storing.set_global.Goals as goal

pub environment-env-requires-clause-runs : goal.environment-env-requires-clause-runs
environment-env-requires-clause-runs g c = runs_on c.args.machine.now.stack c.requires.goes

pub returns-clause-makes : goal.returns-clause-makes
returns-clause-makes g c =
    let w = c.args.world.now in
    let w' = c.store.new.world in
    let k = c.args.machine.now in
    let s' = c.store.new.machine.stack in
    let base = meant w.names (value.Table c.environment-env.result) in
    let key = meant w.names c.args.name in
    let v = meant w.names c.read-v.result in
    if_ok (λ done. (chunk : ChunkOf) → Does chunk (effects.newindex base key v c.args.next) w k.code k.stack done.1 done.0 w' s') _ c.store.result
    (λ done h. λ chunk words n bytes is text.
    does_like chunk w w' k.code k.stack s' (row chunk words (SetGlobal c.args.from n) c.args.next) (effects.newindex base key v c.args.next) done.1 done.0 (runs_on k.stack c.requires.goes)
    (λ replies h. with_named chunk h n bytes (λ x. effects.newindex (m.Table (environment_here h.frame h.world)) (m.Text x) (value_in h.frame h.world c.args.from) c.args.next) is
    ∙ stored_read base key v (m.Table (environment_here h.frame h.world)) (m.Text bytes) (value_in h.frame h.world c.args.from) c.args.next h.frame h.others h.world
    (read_here h m.Nil environment_value Run base (c.environment-env.ensures.value Run replies)) text
    (read_here h m.Nil (register_value c.args.from) Run v (c.read-v.ensures.value Run replies)))
    (h chunk)) c.store.ensures.makes
