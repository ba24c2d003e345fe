use Rattle.std.proofs.Common.{to_z, of_z, w16, ◌≡◌, false, List, [], map, refl, sym, ◌∙◌, ap, subst, arith}
use Rattle.std.proofs.lemmas.Int.{to_z-of_z}
use Rattle.value_model.specs.Parts.{meant}
use Rattle.value_model.specs.Values.{Bytes}
use Rattle.value_model.specs.Waits.{ByScript}
use Rattle.luau_tables.specs.declared.globals.LibWorld.{LibWorld}
use Rattle.op_words.specs.declared.insn.Insn.TheVariants.{Call, Return, GetVarargs, ForGLoop}
use Rattle.machine_meaning.specs.Instructions.{row}
use Rattle.machine_meaning.specs.Needs.{listed}
use Rattle.machine_meaning.specs.States.{Run, Invoke, Hand}
use Rattle.machine_rows.specs.Leading.{goes}
use Rattle.machine_world.proofs.Going.{runs_on}
use Rattle.machine_world.proofs.Here.{row_like}
use Rattle.machine_steps.specs.Courses.{Executes, Leads, Untold}
use Rattle.machine_steps.proofs.Lists.{returns_like}
use Rattle.machine_steps.proofs.Owned.{own_range}
use Rattle.machine_steps.proofs.Steps.{executes, executes_made, executes_looped}
use Rattle.machine_steps.proofs.calls.call.Goals as goal

pub returns-in_ok-callee-in-Call-clause-does : goal.returns-in_ok-callee-in-Call-clause-does
returns-in_ok-callee-in-Call-clause-does c = λ chunk p stands.
    let w = c.args.world.now in
    let k = c.args.machine.now in
    let i = c.in-Call in
    let x = Invoke ByScript (meant w.names c.in_ok-callee-in-Call.callee) (map (meant w.names) c.call.new.values.items) in
    executes_made chunk p w w k.code k.stack c.call.new.self.stack c.args.line.insn (Call i.base i.arguments i.results) c.args.line.next x i.is refl (runs_on k.stack c.requires.goes) stands (c.in_ok-callee-in-Call.ensures.makes chunk p.code)

pub returns-in_ok-return_-in-Return-clause-does : goal.returns-in_ok-return_-in-Return-clause-does
returns-in_ok-return_-in-Return-clause-does c = λ chunk p stands.
    let w = c.args.world.now in
    let w' = c.return_.new.world in
    let k = c.args.machine.now in
    let s' = c.return_.new.self.stack in
    let i = c.in-Return in
    let from = c.begin-from.result in
    let vs = c.return_.new.values.items in
    let x = Hand (map (meant w.names) vs) in
    let next = c.args.line.next in
    let runs = runs_on k.stack c.requires.goes in
    let own = own_range w k.code k.stack c.args.line.insn (Return i.base i.count) (listed i.base i.count) [] i.is refl c.requires.ready in
    let names : w'.names ≡ w.names = ap (λ (v : LibWorld). v.names) c.in_ok-return_-in-Return.ensures.world in
    subst (λ (ns : List Bytes). Executes chunk c.args.line.insn w k.code k.stack 0 (Leads (Hand (map (meant ns) vs))) w' s') (sym names)
    (executes_made chunk p w w' k.code k.stack s' c.args.line.insn (Return i.base i.count) next x i.is refl runs stands
    (row_like w w' k.code k.stack s' (row chunk p.code (Return i.base i.count) next) (row chunk p.code (Return from i.count) next) x runs (c.in_ok-return_-in-Return.ensures.makes chunk p.code next)
    (λ replies h. returns_like k.stack runs chunk p.code next i.count i.base from own c.begin-from.ensures h.frame h.others h.world)))

pub returns-in_ok-get_varargs-in-GetVarargs-clause-does : goal.returns-in_ok-get_varargs-in-GetVarargs-clause-does
returns-in_ok-get_varargs-in-GetVarargs-clause-does c = λ chunk p stands.
    let w = c.args.world.now in
    let k = c.args.machine.now in
    let i = c.in-GetVarargs in
    executes_made chunk p w w k.code k.stack c.get_varargs.new.machine.stack c.args.line.insn (GetVarargs i.base i.count) c.args.line.next Run i.is refl (runs_on k.stack c.requires.goes) stands (c.in_ok-get_varargs-in-GetVarargs.ensures.makes chunk p.code)

pub returns-else-reaches-clause-does : goal.returns-else-reaches-clause-does
returns-else-reaches-clause-does c = λ chunk p stands.
    let w = c.args.world.now in
    let k = c.args.machine.now in
    let i = c.in-GetVarargs in
    executes chunk p w w k.code k.stack k.stack c.args.line.insn (GetVarargs i.base i.count) c.args.line.next 0 Untold false i.is refl (runs_on k.stack c.requires.goes) stands (λ replies. tt)

pub returns-in_ok-generator-in-ForGLoop-clause-does : goal.returns-in_ok-generator-in-ForGLoop-clause-does
returns-in_ok-generator-in-ForGLoop-clause-does c = λ chunk p stands.
    let w = c.args.world.now in
    let k = c.args.machine.now in
    let i = c.in-ForGLoop in
    let same : to_z w16 (of_z w16 i.by) ≡ i.by = grind (arith, to_z-of_z) in
    let x = Invoke ByScript (meant w.names c.in_ok-generator-in-ForGLoop.generator) (map (meant w.names) c.ask.new.values.items) in
    executes_looped chunk p w w k.code k.stack c.ask.new.machine.stack c.args.line.insn (ForGLoop i.base (to_z w16 (of_z w16 i.by)) i.variables) c.args.line.next 0 (Leads x) (i.is ∙ ap (λ z. ForGLoop i.base z i.variables) (sym same)) refl (runs_on k.stack c.requires.goes) stands (c.in_ok-generator-in-ForGLoop.ensures.charges chunk p.code)
    (λ replies. goes 0 (c.in_ok-generator-in-ForGLoop.ensures.makes replies))
