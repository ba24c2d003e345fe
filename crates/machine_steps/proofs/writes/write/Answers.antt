use Rattle.std.proofs.Common.{◌≡◌, ℕ, pos, List, [], Some, refl}
use Rattle.op_words.specs.Chunks.{ChunkOf}
use Rattle.op_words.specs.declared.insn.Insn.TheVariants.{SetTable, SetTableKS, SetTableN, SetGlobal}
use Rattle.value_model.specs.Values as m
use Rattle.machine_meaning.specs.Constants.{name_at}
use Rattle.machine_meaning.specs.Instructions.{row}
use Rattle.machine_rows.specs.Leading.{Does}
use Rattle.machine_world.proofs.Results.{if_ok}
use Rattle.value_model.specs.Parts.{meant}
use Rattle.machine_meaning.specs.Needs.{AName}
use Rattle.machine_world.specs.Rows.{proto_here}
use Rattle.machine_steps.proofs.Constants.{name_known}
use Rattle.machine_steps.proofs.Owned.{named_first}
use Rattle.machine_world.proofs.Going.{runs_on}
use Rattle.machine_steps.proofs.Steps.{executes_done}
use Rattle.machine_steps.proofs.writes.write.Goals as goal

pub returns-in-SetTable-clause-does : goal.returns-in-SetTable-clause-does
returns-in-SetTable-clause-does g c =
    let w = c.args.world.now in
    let k = c.args.machine.now in
    let i = c.in-SetTable in
    let w' = c.set_table.new.world in
    let s' = c.set_table.new.machine.stack in
    if_ok (λ done. (chunk : ChunkOf) (words : List ℕ) → Does chunk (row chunk words (SetTable i.from i.table i.key) c.args.line.next) w k.code k.stack done.1 done.0 w' s') _ c.set_table.result
    (λ done does. λ chunk p stands.
    executes_done chunk p w w' k.code k.stack s' c.args.line.insn (SetTable i.from i.table i.key) c.args.line.next done.1 done.0 i.is refl (runs_on k.stack c.requires.goes) stands (does chunk p.code))
    c.set_table.ensures.makes

pub returns-in-SetTableKS-clause-does : goal.returns-in-SetTableKS-clause-does
returns-in-SetTableKS-clause-does g c =
    let w = c.args.world.now in
    let k = c.args.machine.now in
    let i = c.in-SetTableKS in
    let w' = c.set_member.new.world in
    let s' = c.set_member.new.machine.stack in
    if_ok (λ done. (chunk : ChunkOf) (words : List ℕ) → (j : ℕ) (bytes : m.Bytes) → name_at chunk (proto_here w k.code k.stack) j ≡ Some bytes → meant w.names c.constant-name.result ≡ m.Text bytes → Does chunk (row chunk words (SetTableKS i.from i.table j) c.args.line.next) w k.code k.stack done.1 done.0 w' s') _ c.set_member.result
    (λ done does. λ chunk p stands.
    let named = named_first chunk p w k.code k.stack c.args.line.insn (SetTableKS i.from i.table i.place) c.args.line.next (pos i.place) AName [] i.is refl stands in
    let x = name_known chunk (proto_here w k.code k.stack) i.place (meant w.names c.constant-name.result) named (c.constant-name.ensures.known chunk p AName stands.of stands.there named refl) in
    executes_done chunk p w w' k.code k.stack s' c.args.line.insn (SetTableKS i.from i.table i.place) c.args.line.next done.1 done.0 i.is refl (runs_on k.stack c.requires.goes) stands (does chunk p.code i.place x.0 x.1 x.2))
    c.set_member.ensures.makes

pub returns-in-SetTableN-clause-does : goal.returns-in-SetTableN-clause-does
returns-in-SetTableN-clause-does g c =
    let w = c.args.world.now in
    let k = c.args.machine.now in
    let i = c.in-SetTableN in
    let w' = c.set_numbered.new.world in
    let s' = c.set_numbered.new.machine.stack in
    if_ok (λ done. (chunk : ChunkOf) (words : List ℕ) → Does chunk (row chunk words (SetTableN i.from i.table i.index) c.args.line.next) w k.code k.stack done.1 done.0 w' s') _ c.set_numbered.result
    (λ done does. λ chunk p stands.
    executes_done chunk p w w' k.code k.stack s' c.args.line.insn (SetTableN i.from i.table i.index) c.args.line.next done.1 done.0 i.is refl (runs_on k.stack c.requires.goes) stands (does chunk p.code))
    c.set_numbered.ensures.makes

pub returns-in-SetGlobal-clause-does : goal.returns-in-SetGlobal-clause-does
returns-in-SetGlobal-clause-does g c =
    let w = c.args.world.now in
    let k = c.args.machine.now in
    let i = c.in-SetGlobal in
    let w' = c.set_global.new.world in
    let s' = c.set_global.new.machine.stack in
    if_ok (λ done. (chunk : ChunkOf) (words : List ℕ) → (j : ℕ) (bytes : m.Bytes) → name_at chunk (proto_here w k.code k.stack) j ≡ Some bytes → meant w.names c.constant-name-in-SetGlobal.result ≡ m.Text bytes → Does chunk (row chunk words (SetGlobal i.from j) c.args.line.next) w k.code k.stack done.1 done.0 w' s') _ c.set_global.result
    (λ done does. λ chunk p stands.
    let named = named_first chunk p w k.code k.stack c.args.line.insn (SetGlobal i.from i.place) c.args.line.next (pos i.place) AName [] i.is refl stands in
    let x = name_known chunk (proto_here w k.code k.stack) i.place (meant w.names c.constant-name-in-SetGlobal.result) named (c.constant-name-in-SetGlobal.ensures.known chunk p AName stands.of stands.there named refl) in
    executes_done chunk p w w' k.code k.stack s' c.args.line.insn (SetGlobal i.from i.place) c.args.line.next done.1 done.0 i.is refl (runs_on k.stack c.requires.goes) stands (does chunk p.code i.place x.0 x.1 x.2))
    c.set_global.ensures.makes
