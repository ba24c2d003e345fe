use Rattle.std.proofs.Common.{[], map, ◌∙◌, ap}
use Rattle.value_model.specs.Parts.{meant}
use Rattle.op_words.specs.declared.insn.Insn.TheVariants.{FastCall}
use Rattle.machine_meaning.specs.Instructions.{row}
use Rattle.machine_meaning.specs.Moves.{inside}
use Rattle.machine_meaning.specs.States.{Run}
use Rattle.machine_world.specs.Parts.{list_of}
use Rattle.machine_world.proofs.Here.{read_here}
use Rattle.machine_world.proofs.Results.{on_ok}
use Rattle.machine_library.specs.Fast.{call_of}
use Rattle.machine_library.proofs.InPlace.{row_tries, tries_all}
use Rattle.machine_library.proofs.fast.fast_call.Goals as goal

pub returns-clause-makes : goal.returns-clause-makes
returns-clause-makes c =
    let w = c.args.world.now in
    let w' = c.try_in_place.new.world in
    let k = c.args.machine.now in
    let s' = c.finish.new.machine.stack in
    let n = c.args.number in
    let call = call_of c.args.call in
    let next = c.args.next in
    let us = c.try_in_place.new.values.items in
    let vs = map (meant w.names) c.list-args.result.now in
    on_ok _ _ c.finish.result (λ makes chunk words over is. row_tries w w' k.code k.stack s' n (vs) us c.in_ok-done.done call next (row chunk words (FastCall n over) next) c.requires.goes c.in_ok-done.ensures.leads makes
    (λ replies h. tries_all h chunk words n over c.args.call next vs is (read_here h [] (list_of c.args.call.arguments c.behind-first.result) Run vs (c.list-args.ensures.values Run replies) ∙ ap (λ r. list_of c.args.call.arguments r (inside h.frame h.world)) c.behind-first.ensures))) c.finish.ensures.makes
