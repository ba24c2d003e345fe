use Rattle.std.proofs.Common.{pos, [], refl}
use Rattle.op_words.specs.declared.insn.Insn.TheVariants.{GetTable, GetTableKS, GetTableN, GetGlobal, NameCall}
use Rattle.value_model.specs.Parts.{meant}
use Rattle.machine_meaning.specs.Needs.{AName}
use Rattle.machine_world.specs.Rows.{proto_here}
use Rattle.machine_steps.proofs.Constants.{name_known}
use Rattle.machine_steps.proofs.Owned.{named_first}
use Rattle.machine_world.proofs.Going.{runs_on}
use Rattle.machine_steps.proofs.Steps.{executes_done}
use Rattle.machine_steps.proofs.reads.read.Goals as goal

pub returns-in-GetTable-clause-does : goal.returns-in-GetTable-clause-does
returns-in-GetTable-clause-does g c = λ chunk p stands.
    let w = c.args.world.now in
    let k = c.args.machine.now in
    let i = c.in-GetTable in
    executes_done chunk p w w k.code k.stack c.get_table.new.machine.stack c.args.line.insn (GetTable i.to i.table i.key) c.args.line.next c.get_table.result.1 c.get_table.result.0 i.is refl (runs_on k.stack c.requires.goes) stands (c.get_table.ensures.makes chunk p.code)

pub returns-in-GetTableKS-clause-does : goal.returns-in-GetTableKS-clause-does
returns-in-GetTableKS-clause-does g c = λ chunk p stands.
    let w = c.args.world.now in
    let k = c.args.machine.now in
    let i = c.in-GetTableKS in
    let named = named_first chunk p w k.code k.stack c.args.line.insn (GetTableKS i.to i.table i.place) c.args.line.next (pos i.place) AName [] i.is refl stands in
    let x = name_known chunk (proto_here w k.code k.stack) i.place (meant w.names c.constant-name.result) named (c.constant-name.ensures.known chunk p AName stands.of stands.there named refl) in
    executes_done chunk p w w k.code k.stack c.get_member.new.machine.stack c.args.line.insn (GetTableKS i.to i.table i.place) c.args.line.next c.get_member.result.1 c.get_member.result.0 i.is refl (runs_on k.stack c.requires.goes) stands (c.get_member.ensures.makes chunk p.code i.place x.0 x.1 x.2)

pub returns-in-GetTableN-clause-does : goal.returns-in-GetTableN-clause-does
returns-in-GetTableN-clause-does g c = λ chunk p stands.
    let w = c.args.world.now in
    let k = c.args.machine.now in
    let i = c.in-GetTableN in
    executes_done chunk p w w k.code k.stack c.get_numbered.new.machine.stack c.args.line.insn (GetTableN i.to i.table i.index) c.args.line.next c.get_numbered.result.1 c.get_numbered.result.0 i.is refl (runs_on k.stack c.requires.goes) stands (c.get_numbered.ensures.makes chunk p.code)

pub returns-in-GetGlobal-clause-does : goal.returns-in-GetGlobal-clause-does
returns-in-GetGlobal-clause-does g c = λ chunk p stands.
    let w = c.args.world.now in
    let k = c.args.machine.now in
    let i = c.in-GetGlobal in
    let named = named_first chunk p w k.code k.stack c.args.line.insn (GetGlobal i.to i.place) c.args.line.next (pos i.place) AName [] i.is refl stands in
    let x = name_known chunk (proto_here w k.code k.stack) i.place (meant w.names c.constant-name-in-GetGlobal.result) named (c.constant-name-in-GetGlobal.ensures.known chunk p AName stands.of stands.there named refl) in
    executes_done chunk p w w k.code k.stack c.get_global.new.machine.stack c.args.line.insn (GetGlobal i.to i.place) c.args.line.next c.get_global.result.1 c.get_global.result.0 i.is refl (runs_on k.stack c.requires.goes) stands (c.get_global.ensures.makes chunk p.code i.place x.0 x.1 x.2)

pub returns-in-NameCall-clause-does : goal.returns-in-NameCall-clause-does
returns-in-NameCall-clause-does g c = λ chunk p stands.
    let w = c.args.world.now in
    let k = c.args.machine.now in
    let i = c.in-NameCall in
    let named = named_first chunk p w k.code k.stack c.args.line.insn (NameCall i.base i.object i.place) c.args.line.next (pos i.place) AName [] i.is refl stands in
    let x = name_known chunk (proto_here w k.code k.stack) i.place (meant w.names c.constant-name-in-NameCall.result) named (c.constant-name-in-NameCall.ensures.known chunk p AName stands.of stands.there named refl) in
    executes_done chunk p w w k.code k.stack c.name_call.new.machine.stack c.args.line.insn (NameCall i.base i.object i.place) c.args.line.next c.name_call.result.1 c.name_call.result.0 i.is refl (runs_on k.stack c.requires.goes) stands (c.name_call.ensures.makes chunk p.code i.place x.0 x.1 x.2)
