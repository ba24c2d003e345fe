use Rattle.std.proofs.Common.{◌-◌, ◌∷◌, [], map, sym, ◌∙◌, ap}
use Rattle.value_model.specs.Parts.{meant}
use Rattle.value_model.specs.Values as m
use Rattle.op_words.specs.Chunks.{ChunkOf}
use Rattle.op_words.specs.declared.insn.Insn.TheVariants.{Concat}
use Rattle.machine_meaning.specs.Effects.{join}
use Rattle.machine_meaning.specs.Instructions.{row}
use Rattle.machine_meaning.specs.Moves.{now, inside}
use Rattle.machine_meaning.specs.States.{Run, Join}
use Rattle.machine_world.specs.Parts.{register_value}
use Rattle.machine_world.proofs.Going.{runs_on}
use Rattle.machine_world.proofs.Here.{read_here}
use Rattle.machine_world.proofs.Results.{if_ok}
use Rattle.machine_rows.specs.Leading.{Does}
use Rattle.machine_rows.specs.Operations.{operands}
use Rattle.machine_rows.proofs.Joined.{begins_to_join, operands_last}
use Rattle.machine_rows.proofs.joining.concat_run.Goals as goal

pub returns-clause-makes : goal.returns-clause-makes
returns-clause-makes c =
    let w = c.args.world.now in
    let w' = c.join.new.world in
    let k = c.args.machine.now in
    let s' = c.join.new.machine.stack in
    let to = c.args.to in
    let from = c.args.from in
    let last = c.args.last in
    let next = c.args.next in
    let end = meant w.names c.read-end.result in
    let left = map (meant w.names) c.as_slice.result.now in
    if_ok (λ done. (chunk : ChunkOf) → Does chunk (join (end ∷ left) to next) w k.code k.stack 0 done w' s') _ c.join.result
    (λ done does. λ chunk words.
    begins_to_join chunk w w' k.code k.stack s' (row chunk words (Concat to from last) next) (end ∷ left) to next 0 done (runs_on k.stack c.requires.goes)
    (λ replies h. ap (λ l. now (Join l to next) h.frame h.others h.world) (operands_last h.frame h.world from last c.requires.run)
    ∙ ap (λ v. now (Join (v ∷ operands from (last - from) (inside h.frame h.world)) to next) h.frame h.others h.world) (sym (read_here h m.Nil (register_value last) Run end (c.read-end.ensures.value Run replies)))
    ∙ ap (λ l. now (Join (end ∷ l) to next) h.frame h.others h.world) (sym (read_here h [] (operands from (last - from)) Run left (ap (map (meant w.names)) c.as_slice.ensures.value ∙ c.in_ok-read_before.ensures.values Run replies))))
    (does chunk)) c.join.ensures.makes
