use Rattle.std.proofs.Common.{sym, ◌∙◌, ap}
use Rattle.value_model.specs.Parts.{meant, table_ref}
use Rattle.value_model.specs.Values as m
use Rattle.luau_tables.proofs.WorldsKept.{keeps_self}
use Rattle.op_words.specs.Chunks.{ChunkOf}
use Rattle.op_words.specs.declared.insn.Insn.TheVariants.{SetList}
use Rattle.machine_meaning.specs.Effects.{list_from, store_list}
use Rattle.machine_meaning.specs.Instructions.{row}
use Rattle.machine_meaning.specs.States.{Run}
use Rattle.machine_world.specs.Parts.{register_value}
use Rattle.machine_world.proofs.Going.{runs_on}
use Rattle.machine_world.proofs.Here.{read_here}
use Rattle.machine_world.proofs.Results.{if_ok}
use Rattle.machine_rows.specs.Leading.{Does}
use Rattle.machine_rows.proofs.Steps.{does_like}
use Rattle.machine_tables.specs.Stored.{list_stored}
use Rattle.machine_tables.proofs.Listed.{table_use, table_means, does_no_list}
use Rattle.machine_tables.proofs.listing.set_list.Goals as goal

pub store-requires-clause-table : goal.store-requires-clause-table
store-requires-clause-table c =
    table_use c.args.world.now c.read-base.result c.in-Some.id (sym c.as_table.ensures ∙ c.in-Some.is) c.read-base.ensures.usable

pub returns-in-Some-clause-makes : goal.returns-in-Some-clause-makes
returns-in-Some-clause-makes c =
    let w = c.args.world.now in
    let w' = c.store.new.world in
    let k = c.args.machine.now in
    let s' = c.store.new.machine.stack in
    let base = meant w.names c.read-base.result in
    let r = list_stored (m.Table (table_ref c.in-Some.id)) c.args.count c.args.from c.args.key c.args.next in
    if_ok (λ done. (chunk : ChunkOf) → Does chunk r w k.code k.stack 0 done w' s') _ c.store.result
    (λ done does. λ chunk words.
    does_like chunk w w' k.code k.stack s' (row chunk words (SetList c.args.table c.args.from c.args.count c.args.key) c.args.next) r 0 done (runs_on k.stack c.requires.goes)
    (λ replies h. ap (λ v. store_list v c.args.key (list_from c.args.count c.args.from h.frame h.world) c.args.next h.frame h.others h.world) (sym (read_here h m.Nil (register_value c.args.table) Run base (c.read-base.ensures.value Run replies)) ∙ table_means w.names c.read-base.result c.in-Some.id (sym c.as_table.ensures ∙ c.in-Some.is)))
    (does chunk)) c.store.ensures.makes

pub returns-in-None-clause-makes : goal.returns-in-None-clause-makes
returns-in-None-clause-makes c = λ chunk words.
    let w = c.args.world.now in
    let k = c.args.machine.now in
    let base = meant w.names c.read-base.result in
    does_no_list chunk w k.code k.stack (row chunk words (SetList c.args.table c.args.from c.args.count c.args.key) c.args.next) c.read-base.result c.no_table.result c.args.count c.args.from c.args.key c.args.next (runs_on k.stack c.requires.goes) (sym c.as_table.ensures ∙ c.in-None.is) (c.no_table.ensures.means w.names)
    (λ replies h. ap (λ v. store_list v c.args.key (list_from c.args.count c.args.from h.frame h.world) c.args.next h.frame h.others h.world) (sym (read_here h m.Nil (register_value c.args.table) Run base (c.read-base.ensures.value Run replies))))

pub returns-in-None-clause-next : goal.returns-in-None-clause-next
returns-in-None-clause-next c = (runs_on c.args.machine.now.stack c.requires.goes, c.no_table.ensures.known c.args.world.now.names)

pub returns-in-None-clause-keeps : goal.returns-in-None-clause-keeps
returns-in-None-clause-keeps c = keeps_self c.args.world.now c.requires.sound.world
