use Rattle.std.proofs.Common.{map}
use Rattle.value_model.specs.Library.{lib}
use Rattle.value_model.specs.Parts.{meant}
use Rattle.value_model.specs.Values as m
use Rattle.value_model.specs.Waits.{ByScript}
use Rattle.luau_tables.specs.Answers.{raised_by}
use Rattle.luau_tables.specs.Worlds.{store_in}
use Rattle.luau_tables.proofs.WorldsKept.{may_use_on}
use Rattle.machine_meaning.specs.States.{Invoke}
use Rattle.machine_library.specs.Leads.{LedTo}
use Rattle.machine_library.proofs.Kept.{machine_kept, imports_kept}
use Rattle.machine_library.proofs.Leading.{both_ok, led_by, led_call}
use Rattle.machine_library.proofs.calls.call_library.Goals as goal

pub returns-in_err-given-clause-imports : goal.returns-in_err-given-clause-imports
returns-in_err-given-clause-imports c = imports_kept c.args.world.now c.answer.new.world c.args.machine.now.code c.answer.ensures.keeps c.requires.imports

pub returns-in_err-given-clause-uses : goal.returns-in_err-given-clause-uses
returns-in_err-given-clause-uses c = λ v h. may_use_on c.args.world.now c.answer.new.world c.answer.ensures.keeps v h

pub follow-requires-clause-sound : goal.follow-requires-clause-sound
follow-requires-clause-sound c = machine_kept c.args.world.now c.answer.new.world c.args.machine.now.stack c.answer.ensures.keeps c.requires.sound

pub returns-clause-leads : goal.returns-clause-leads
returns-clause-leads c =
    let w = c.args.world.now in
    let w' = c.answer.new.world in
    let k = c.args.machine.now in
    let s' = c.follow.new.machine.stack in
    let f = c.args.builtin in
    let vs = map (meant w.names) c.args.args.now in
    let rs = c.args.results.now.items in
    let rs' = c.answer.new.results.items in
    let a = c.in_ok-given.given in
    let h = c.in_ok-given.ensures.answered in
    let x = Invoke ByScript (m.Native f) vs in
    both_ok _ _ (λ next. LedTo w w' k.code k.stack s' rs rs' next x) c.follow.result
    (λ next leads usable. led_by w w w' k.code k.stack k.stack s' rs rs' (raised_by f vs) (lib f vs (store_in w)) a next x h
    (λ chunk replies. led_call chunk w w' k.code k.stack replies f vs rs rs' a c.requires.builtin c.answer.ensures.keeps c.requires.sound c.requires.imports h) leads usable)
    c.follow.ensures.leads c.follow.ensures.next

pub returns-clause-imports : goal.returns-clause-imports
returns-clause-imports c = imports_kept c.args.world.now c.answer.new.world c.args.machine.now.code c.answer.ensures.keeps c.requires.imports

pub returns-clause-uses : goal.returns-clause-uses
returns-clause-uses c = λ v h. may_use_on c.args.world.now c.answer.new.world c.answer.ensures.keeps v h
