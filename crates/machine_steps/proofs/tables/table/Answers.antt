use Rattle.std.proofs.Common.{ℕ, List, [], refl}
use Rattle.op_words.specs.Chunks.{ChunkOf}
use Rattle.op_words.specs.declared.insn.Insn.TheVariants.{NewTable, SetList}
use Rattle.machine_meaning.specs.Instructions.{row}
use Rattle.machine_meaning.specs.Needs.{listed, one}
use Rattle.machine_meaning.specs.States.{Run}
use Rattle.machine_rows.specs.Leading.{Does}
use Rattle.machine_world.proofs.Going.{runs_on}
use Rattle.machine_world.proofs.Results.{if_ok}
use Rattle.machine_steps.proofs.Lists.{sets_like}
use Rattle.machine_steps.proofs.Owned.{own_range_second}
use Rattle.machine_steps.proofs.Steps.{executes_done, executes_made, does_like}
use Rattle.machine_steps.proofs.tables.table.Goals as goal

pub returns-in_ok-new_table-in-NewTable-clause-does : goal.returns-in_ok-new_table-in-NewTable-clause-does
returns-in_ok-new_table-in-NewTable-clause-does c = λ chunk p stands.
    let w = c.args.world.now in
    let k = c.args.machine.now in
    let i = c.in-NewTable in
    executes_made chunk p w c.new_table.new.world k.code k.stack c.new_table.new.machine.stack c.args.line.insn (NewTable i.to) c.args.line.next Run i.is refl (runs_on k.stack c.requires.goes) stands (c.in_ok-new_table-in-NewTable.ensures.makes chunk p.code)

pub returns-in-SetList-clause-does : goal.returns-in-SetList-clause-does
returns-in-SetList-clause-does c =
    let w = c.args.world.now in
    let k = c.args.machine.now in
    let i = c.in-SetList in
    let w' = c.set_list.new.world in
    let s' = c.set_list.new.machine.stack in
    let from = c.begin-from.result in
    let next = c.args.line.next in
    let runs = runs_on k.stack c.requires.goes in
    let own = own_range_second w k.code k.stack c.args.line.insn (SetList i.table i.from i.count i.key) (one i.table) (listed i.from i.count) [] i.is refl c.requires.ready in
    if_ok (λ done. (chunk : ChunkOf) (words : List ℕ) → Does chunk (row chunk words (SetList i.table from i.count i.key) next) w k.code k.stack 0 done w' s') _ c.set_list.result
    (λ done does. λ chunk p stands.
    executes_done chunk p w w' k.code k.stack s' c.args.line.insn (SetList i.table i.from i.count i.key) next 0 done i.is refl runs stands
    (does_like chunk w w' k.code k.stack s' (row chunk p.code (SetList i.table i.from i.count i.key) next) (row chunk p.code (SetList i.table from i.count i.key) next) 0 done runs (does chunk p.code)
    (λ replies h. sets_like k.stack runs chunk p.code next i.table i.count i.from from i.key own c.begin-from.ensures h.frame h.others h.world)))
    c.set_list.ensures.makes
