use Rattle.value_model.specs.Parts.{meant}
use Rattle.value_model.specs.Values as m
use Rattle.op_words.specs.declared.insn.Insn.TheVariants.{SetTable}
use Rattle.machine_meaning.specs.Effects as effects
use Rattle.machine_meaning.specs.Instructions.{row}
use Rattle.machine_meaning.specs.States.{Run, value_in}
use Rattle.machine_world.specs.Parts.{register_value}
use Rattle.machine_world.proofs.Going.{runs_on}
use Rattle.machine_world.proofs.Here.{read_here}
use Rattle.machine_world.proofs.Results.{if_ok}
use Rattle.machine_rows.proofs.Operating.{stored_read}
use Rattle.machine_rows.proofs.Steps.{does_like}
use Rattle.machine_rows.specs.Leading.{Does}
use Rattle.op_words.specs.Chunks.{ChunkOf}
use Rattle.machine_rows.proofs.storing.set_table.Goals as goal

pub returns-clause-makes : goal.returns-clause-makes
returns-clause-makes g c =
    let w = c.args.world.now in
    let w' = c.store.new.world in
    let k = c.args.machine.now in
    let s' = c.store.new.machine.stack in
    let base = meant w.names c.read-base.result in
    let key = meant w.names c.read-under.result in
    let v = meant w.names c.read-v.result in
    if_ok (λ done. (chunk : ChunkOf) → Does chunk (effects.newindex base key v c.args.next) w k.code k.stack done.1 done.0 w' s') _ c.store.result
    (λ done h. λ chunk words.
    does_like chunk w w' k.code k.stack s' (row chunk words (SetTable c.args.from c.args.table c.args.key) c.args.next) (effects.newindex base key v c.args.next) done.1 done.0 (runs_on k.stack c.requires.goes)
    (λ replies h. stored_read base key v (value_in h.frame h.world c.args.table) (value_in h.frame h.world c.args.key) (value_in h.frame h.world c.args.from) c.args.next h.frame h.others h.world
    (read_here h m.Nil (register_value c.args.table) Run base (c.read-base.ensures.value Run replies))
    (read_here h m.Nil (register_value c.args.key) Run key (c.read-under.ensures.value Run replies))
    (read_here h m.Nil (register_value c.args.from) Run v (c.read-v.ensures.value Run replies)))
    (h chunk)) c.store.ensures.makes
