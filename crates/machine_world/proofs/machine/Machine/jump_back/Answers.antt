use Rattle.std.proofs.Common.{w16}
use Rattle.std.proofs.lemmas.Int.{to_z-of_z}
use Rattle.std.proofs.Common.{pos, ◌+◌, ◌+ℤ◌, sym, ◌∙◌, ap}
use Rattle.op_words.specs.declared.insn.Insn.TheVariants.{JumpBack}
use Rattle.machine_meaning.specs.Instructions.{row}
use Rattle.machine_world.proofs.Here.{row_passes_charged, jumps_back}
use Rattle.machine_world.proofs.machine.Machine.jump_back.Goals as goal

pub returns-clause-makes : goal.returns-clause-makes
returns-clause-makes c = λ chunk words next.
    let w = c.args.world.now in
    let k = c.args.self.now in
    row_passes_charged w k.code k.stack c.go.new.self.stack (row chunk words (JumpBack c.args.by) next) c.back-to.result c.requires.goes c.go.ensures.placed
    (λ replies h. jumps_back c.back-to.result (pos (h.frame.place + 1) +ℤ c.args.by) (c.back-to.ensures ∙ ap (λ z. pos (c.place.result + 1) +ℤ z) (to_z-of_z w16 c.args.by c.ranges.by) ∙ ap (λ p. pos (p + 1) +ℤ c.args.by) (c.place.ensures ∙ sym h.place)) h.frame h.others h.world)
