use Rattle.std.proofs.Common.{map, sym, ◌∙◌, ap, subst}
use Rattle.value_model.specs.Parts.{meant}
use Rattle.op_words.specs.Chunks.{ChunkOf}
use Rattle.call_frames.specs.declared.frame.ReturnKind.TheVariants as kind
use Rattle.machine_meaning.specs.Effects.{follow_names, receive}
use Rattle.machine_meaning.specs.Moves.{now}
use Rattle.machine_meaning.specs.States.{Idle, Follow}
use Rattle.machine_world.specs.Functions.{text_of}
use Rattle.machine_world.specs.Rows.{takes}
use Rattle.machine_world.proofs.Here.{runs_waiting, waits_here}
use Rattle.machine_world.proofs.Results.{if_ok}
use Rattle.machine_rows.specs.Leading.{Does}
use Rattle.machine_rows.proofs.NamesFollowed.{follow_waiting}
use Rattle.machine_rows.proofs.Waking.{has_woken, first_meant, first_use, does_taken}
use Rattle.machine_rows.proofs.importing.take_followed.Goals as goal

pub wake-requires-clause-runs : goal.wake-requires-clause-runs
wake-requires-clause-runs g c = runs_waiting c.args.machine.now.stack (kind.Import c.args.to c.args.names.now c.args.next) c.requires.waits

pub follow-requires-clause-has : goal.follow-requires-clause-has
follow-requires-clause-has g c =
    let k = c.args.machine.now in
    has_woken k.stack c.wake.new.machine.stack c.args.to (runs_waiting k.stack (kind.Import c.args.to c.args.names.now c.args.next) c.requires.waits) c.wake.ensures.stack c.requires.has

pub follow-requires-clause-base : goal.follow-requires-clause-base
follow-requires-clause-base g c = first_use c.args.world.now c.args.values.now c.first-base.result c.first-base.ensures c.requires.usable

pub returns-clause-makes : goal.returns-clause-makes
returns-clause-makes g c =
    let w = c.args.world.now in
    let k = c.args.machine.now in
    let s1 = c.wake.new.machine.stack in
    let s' = c.follow.new.machine.stack in
    let to = c.args.to in
    let next = c.args.next in
    let kind = kind.Import to c.args.names.now next in
    let vs = map (meant w.names) c.args.values.now in
    let base = meant w.names c.first-base.result in
    let names = map (text_of w.names) c.args.names.now in
    let runs = runs_waiting k.stack kind c.requires.waits in
    if_ok (λ done. (chunk : ChunkOf) → Does chunk (follow_names base names to next) w c.wake.new.machine.code s1 done.1 done.0 w s') _ c.follow.result
    (λ done does. λ chunk.
    does_taken chunk w w k.code k.stack s1 s' kind (takes vs) (follow_names base names to next) (Follow base names to next) done.1 done.0 runs c.wake.ensures.wakes
    (λ replies h. ap (λ p. receive p vs h.frame h.others h.world) (waits_here h kind c.requires.waits)
    ∙ ap (λ v. now (Follow v names to next) h.frame h.others h.world) (first_meant w.names c.args.values.now ∙ sym (ap (meant w.names) c.first-base.ensures)))
    (λ replies h. sym (follow_waiting base names to next Idle h.frame h.others h.world))
    (subst (λ code. Does chunk (follow_names base names to next) w code s1 done.1 done.0 w s') c.wake.ensures.code (does chunk))) c.follow.ensures.makes
