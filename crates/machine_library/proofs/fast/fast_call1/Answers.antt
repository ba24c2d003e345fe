use Rattle.std.proofs.Common.{[], ◌∷◌}
use Rattle.value_model.specs.Parts.{meant}
use Rattle.value_model.specs.Values as m
use Rattle.op_words.specs.declared.insn.Insn.TheVariants.{FastCall1}
use Rattle.machine_meaning.specs.Instructions.{row}
use Rattle.machine_meaning.specs.States.{Run}
use Rattle.machine_world.specs.Parts.{register_value}
use Rattle.machine_world.proofs.Here.{read_here}
use Rattle.machine_world.proofs.Results.{on_ok}
use Rattle.machine_library.specs.Fast.{call_of}
use Rattle.machine_library.proofs.InPlace.{row_tries, tries_one}
use Rattle.machine_library.proofs.fast.fast_call1.Goals as goal

pub returns-clause-makes : goal.returns-clause-makes
returns-clause-makes c =
    let w = c.args.world.now in
    let w' = c.try_in_place.new.world in
    let k = c.args.machine.now in
    let s' = c.finish.new.machine.stack in
    let n = c.args.number in
    let call = call_of c.args.call in
    let next = c.args.next in
    let us = c.try_in_place.new.values.items in
    let v = meant w.names c.read-v.result in
    on_ok _ _ c.finish.result (λ makes chunk words over is. row_tries w w' k.code k.stack s' n (v ∷ []) us c.in_ok-done.done call next (row chunk words (FastCall1 n c.args.argument over) next) c.requires.goes c.in_ok-done.ensures.leads makes
    (λ replies h. tries_one h chunk words n over call next is c.args.argument v (read_here h m.Nil (register_value c.args.argument) Run v (c.read-v.ensures.value Run replies)))) c.finish.ensures.makes
