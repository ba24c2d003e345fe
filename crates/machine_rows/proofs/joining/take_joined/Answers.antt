use Rattle.std.proofs.Common.{◌∷◌, map, sym, ◌∙◌, ap, subst}
use Rattle.value_model.specs.Parts.{meant}
use Rattle.op_words.specs.Chunks.{ChunkOf}
use Rattle.call_frames.specs.declared.frame.ReturnKind.TheVariants as kind
use Rattle.machine_meaning.specs.Effects.{join, receive}
use Rattle.machine_meaning.specs.Moves.{now}
use Rattle.machine_meaning.specs.States.{Idle, Join}
use Rattle.machine_world.specs.Rows.{takes}
use Rattle.machine_world.proofs.Here.{runs_waiting, waits_here}
use Rattle.machine_world.proofs.Results.{if_ok}
use Rattle.machine_rows.specs.Leading.{Does}
use Rattle.machine_rows.proofs.Joined.{join_waiting}
use Rattle.machine_rows.proofs.Waking.{has_woken, knows_woken, first_meant, first_use, does_taken}
use Rattle.machine_rows.proofs.joining.take_joined.Goals as goal

pub wake-requires-clause-runs : goal.wake-requires-clause-runs
wake-requires-clause-runs c = runs_waiting c.args.machine.now.stack (kind.Join c.args.to c.args.left.now c.args.next) c.requires.waits

pub join-requires : goal.join-requires
join-requires c =
    let w = c.args.world.now in
    let k = c.args.machine.now in
    let runs = runs_waiting k.stack (kind.Join c.args.to c.args.left.now c.args.next) c.requires.waits in
    record {
      sound = c.wake.ensures.sound;
      goes = c.wake.ensures.goes;
      has = has_woken k.stack c.wake.new.machine.stack c.args.to runs c.wake.ensures.stack c.requires.has;
      texts = knows_woken w k.code c.wake.new.machine.code k.stack c.wake.new.machine.stack runs c.wake.ensures.stack c.wake.ensures.code c.requires.texts;
      last = first_use w c.args.values.now c.first-last.result c.first-last.ensures c.requires.usable;
      left = c.requires.left;
    }

pub returns-clause-makes : goal.returns-clause-makes
returns-clause-makes c =
    let w = c.args.world.now in
    let w' = c.join.new.world in
    let k = c.args.machine.now in
    let s1 = c.wake.new.machine.stack in
    let s' = c.join.new.machine.stack in
    let to = c.args.to in
    let next = c.args.next in
    let kind = kind.Join to c.args.left.now next in
    let vs = map (meant w.names) c.args.values.now in
    let last = meant w.names c.first-last.result in
    let left = map (meant w.names) c.args.left.now in
    let runs = runs_waiting k.stack kind c.requires.waits in
    if_ok (λ done. (chunk : ChunkOf) → Does chunk (join (last ∷ left) to next) w c.wake.new.machine.code s1 0 done w' s') _ c.join.result
    (λ done does. λ chunk.
    does_taken chunk w w' k.code k.stack s1 s' kind (takes vs) (join (last ∷ left) to next) (Join (last ∷ left) to next) 0 done runs c.wake.ensures.wakes
    (λ replies h. ap (λ p. receive p vs h.frame h.others h.world) (waits_here h kind c.requires.waits)
    ∙ ap (λ v. now (Join (v ∷ left) to next) h.frame h.others h.world) (first_meant w.names c.args.values.now ∙ sym (ap (meant w.names) c.first-last.ensures)))
    (λ replies h. sym (join_waiting (last ∷ left) to next Idle h.frame h.others h.world))
    (subst (λ code. Does chunk (join (last ∷ left) to next) w code s1 0 done w' s') c.wake.ensures.code (does chunk))) c.join.ensures.makes
