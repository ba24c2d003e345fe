use Rattle.std.proofs.Common.{to_z, of_z, w16}
use Rattle.std.proofs.lemmas.Int.{to_z-of_z}
use Rattle.std.proofs.Common.{not, sym, ◌∙◌, ap}
use Rattle.value_model.specs.Parts.{meant}
use Rattle.value_model.specs.Values as m
use Rattle.value_model.specs.Values.{is_true}
use Rattle.op_words.specs.declared.insn.Insn.TheVariants.{JumpIfNot}
use Rattle.machine_meaning.specs.Instructions.{row}
use Rattle.machine_meaning.specs.Moves.{branch}
use Rattle.machine_meaning.specs.States.{Run}
use Rattle.machine_world.specs.Parts.{register_value}
use Rattle.machine_world.proofs.Going.{runs_on}
use Rattle.machine_world.proofs.Here.{row_like, read_here}
use Rattle.machine_world.proofs.machine.Machine.jump_if_not.Goals as goal

pub returns-clause-makes : goal.returns-clause-makes
returns-clause-makes c = λ chunk words.
    let w = c.args.world.now in
    let k = c.args.self.now in
    row_like w w k.code k.stack c.jump_where.new.self.stack (row chunk words (JumpIfNot c.args.from c.args.by) c.args.next) (branch (not c.truthy-holds.result) (to_z w16 (of_z w16 c.args.by)) c.args.next) Run (runs_on k.stack c.requires.goes) c.jump_where.ensures.makes
    (λ replies h. sym (ap (λ b. branch b c.args.by c.args.next h.frame h.others h.world) (ap not (sym (c.truthy-holds.ensures w.names)) ∙ ap (λ v. not (is_true v)) (read_here h m.Nil (register_value c.args.from) Run (meant w.names c.read.result) (c.read.ensures.value Run replies))))
    ∙ ap (λ z. branch (not c.truthy-holds.result) z c.args.next h.frame h.others h.world) (sym (to_z-of_z w16 c.args.by c.ranges.by)))
