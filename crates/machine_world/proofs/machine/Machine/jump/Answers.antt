use Rattle.std.proofs.Common.{w32}
use Rattle.std.proofs.lemmas.Int.{to_z-of_z}
use Rattle.std.proofs.Common.{pos, ◌+◌, ◌+ℤ◌, refl, ◌∙◌, ap}
use Rattle.op_words.specs.declared.insn.Insn.TheVariants.{Jump, JumpX}
use Rattle.machine_meaning.specs.Instructions.{row}
use Rattle.machine_world.proofs.Here.{row_jumps}
use Rattle.machine_world.proofs.machine.Machine.jump.Goals as goal

pub returns-clause-makes : goal.returns-clause-makes
returns-clause-makes c = λ chunk words next.
    let w = c.args.world.now in
    let k = c.args.self.now in
    row_jumps w k.code k.stack c.go.new.self.stack (row chunk words (Jump c.args.by) next) c.args.by c.ahead-to.result c.requires.goes c.requires.ahead (c.ahead-to.ensures ∙ ap (λ z. pos (c.place.result + 1) +ℤ z) (to_z-of_z w32 c.args.by c.ranges.by) ∙ ap (λ p. pos (p + 1) +ℤ c.args.by) c.place.ensures) c.go.ensures.placed (λ replies h. refl)

pub returns-clause-further : goal.returns-clause-further
returns-clause-further c = λ chunk words next.
    let w = c.args.world.now in
    let k = c.args.self.now in
    row_jumps w k.code k.stack c.go.new.self.stack (row chunk words (JumpX c.args.by) next) c.args.by c.ahead-to.result c.requires.goes c.requires.ahead (c.ahead-to.ensures ∙ ap (λ z. pos (c.place.result + 1) +ℤ z) (to_z-of_z w32 c.args.by c.ranges.by) ∙ ap (λ p. pos (p + 1) +ℤ c.args.by) c.place.ensures) c.go.ensures.placed (λ replies h. refl)
