use Rattle.std.proofs.Common.{to_z, of_z, w16}
use Rattle.std.proofs.lemmas.Int.{to_z-of_z}
use Rattle.std.proofs.Common.{sym, ◌∙◌, ap, nat_eq, pos, ◌/◌, ◌%◌, ◌^◌}
use Rattle.value_model.specs.Parts.{meant}
use Rattle.value_model.specs.Values as m
use Rattle.op_words.specs.declared.insn.Insn.TheVariants.{JumpXEqKNil, JumpXEqKB, JumpXEqKN, JumpXEqKS}
use Rattle.machine_meaning.specs.Instructions.{row}
use Rattle.machine_meaning.specs.Moves.{branch}
use Rattle.machine_meaning.specs.Effects.{jumps_with, agrees}
use Rattle.machine_meaning.specs.States.{Run, value_in}
use Rattle.machine_world.specs.Parts.{register_value}
use Rattle.machine_world.proofs.Going.{runs_on}
use Rattle.machine_world.proofs.Here.{row_like, read_here, with_known, compares_on}
use Rattle.machine_world.proofs.machine.Machine.jump_if_constant.Goals as goal

pub returns-clause-nil : goal.returns-clause-nil
returns-clause-nil c = λ chunk words is.
    let w = c.args.world.now in
    let k = c.args.self.now in
    row_like w w k.code k.stack c.jump_where.new.self.stack (row chunk words (JumpXEqKNil c.args.from c.args.by c.args.test) c.args.next) (branch c.agrees-holds.result (to_z w16 (of_z w16 c.args.by)) c.args.next) Run (runs_on k.stack c.requires.goes) c.jump_where.ensures.makes
    (λ replies h. ap (λ v. jumps_with (c.args.test / 2 ^ 31) (value_in h.frame h.world c.args.from) v c.args.by c.args.next h.frame h.others h.world) (sym is)
    ∙ compares_on w c.args.test (value_in h.frame h.world c.args.from) c.read-v.result c.args.constant c.agrees-holds.result c.args.by c.args.next h.frame h.others h.world
    (read_here h m.Nil (register_value c.args.from) Run (meant w.names c.read-v.result) (c.read-v.ensures.value Run replies)) c.requires.sound.world c.read-v.ensures.usable c.requires.usable (c.agrees-holds.ensures ∙ ap (λ b. agrees (nat_eq (c.args.test / 2 ^ 31) 0) b) c.is-is_constant.ensures)
    ∙ ap (λ z. branch c.agrees-holds.result z c.args.next h.frame h.others h.world) (sym (to_z-of_z w16 c.args.by c.ranges.by)))

pub returns-clause-boolean : goal.returns-clause-boolean
returns-clause-boolean c = λ chunk words is.
    let w = c.args.world.now in
    let k = c.args.self.now in
    row_like w w k.code k.stack c.jump_where.new.self.stack (row chunk words (JumpXEqKB c.args.from c.args.by c.args.test) c.args.next) (branch c.agrees-holds.result (to_z w16 (of_z w16 c.args.by)) c.args.next) Run (runs_on k.stack c.requires.goes) c.jump_where.ensures.makes
    (λ replies h. ap (λ v. jumps_with (c.args.test / 2 ^ 31) (value_in h.frame h.world c.args.from) v c.args.by c.args.next h.frame h.others h.world) (sym is)
    ∙ compares_on w c.args.test (value_in h.frame h.world c.args.from) c.read-v.result c.args.constant c.agrees-holds.result c.args.by c.args.next h.frame h.others h.world
    (read_here h m.Nil (register_value c.args.from) Run (meant w.names c.read-v.result) (c.read-v.ensures.value Run replies)) c.requires.sound.world c.read-v.ensures.usable c.requires.usable (c.agrees-holds.ensures ∙ ap (λ b. agrees (nat_eq (c.args.test / 2 ^ 31) 0) b) c.is-is_constant.ensures)
    ∙ ap (λ z. branch c.agrees-holds.result z c.args.next h.frame h.others h.world) (sym (to_z-of_z w16 c.args.by c.ranges.by)))

pub returns-clause-number : goal.returns-clause-number
returns-clause-number c = λ chunk words is.
    let w = c.args.world.now in
    let k = c.args.self.now in
    row_like w w k.code k.stack c.jump_where.new.self.stack (row chunk words (JumpXEqKN c.args.from c.args.by c.args.test) c.args.next) (branch c.agrees-holds.result (to_z w16 (of_z w16 c.args.by)) c.args.next) Run (runs_on k.stack c.requires.goes) c.jump_where.ensures.makes
    (λ replies h. with_known chunk h (pos (c.args.test % 2 ^ 24)) (meant w.names c.args.constant) (λ v. jumps_with (c.args.test / 2 ^ 31) (value_in h.frame h.world c.args.from) v c.args.by c.args.next) is
    ∙ compares_on w c.args.test (value_in h.frame h.world c.args.from) c.read-v.result c.args.constant c.agrees-holds.result c.args.by c.args.next h.frame h.others h.world
    (read_here h m.Nil (register_value c.args.from) Run (meant w.names c.read-v.result) (c.read-v.ensures.value Run replies)) c.requires.sound.world c.read-v.ensures.usable c.requires.usable (c.agrees-holds.ensures ∙ ap (λ b. agrees (nat_eq (c.args.test / 2 ^ 31) 0) b) c.is-is_constant.ensures)
    ∙ ap (λ z. branch c.agrees-holds.result z c.args.next h.frame h.others h.world) (sym (to_z-of_z w16 c.args.by c.ranges.by)))

pub returns-clause-text : goal.returns-clause-text
returns-clause-text c = λ chunk words is.
    let w = c.args.world.now in
    let k = c.args.self.now in
    row_like w w k.code k.stack c.jump_where.new.self.stack (row chunk words (JumpXEqKS c.args.from c.args.by c.args.test) c.args.next) (branch c.agrees-holds.result (to_z w16 (of_z w16 c.args.by)) c.args.next) Run (runs_on k.stack c.requires.goes) c.jump_where.ensures.makes
    (λ replies h. with_known chunk h (pos (c.args.test % 2 ^ 24)) (meant w.names c.args.constant) (λ v. jumps_with (c.args.test / 2 ^ 31) (value_in h.frame h.world c.args.from) v c.args.by c.args.next) is
    ∙ compares_on w c.args.test (value_in h.frame h.world c.args.from) c.read-v.result c.args.constant c.agrees-holds.result c.args.by c.args.next h.frame h.others h.world
    (read_here h m.Nil (register_value c.args.from) Run (meant w.names c.read-v.result) (c.read-v.ensures.value Run replies)) c.requires.sound.world c.read-v.ensures.usable c.requires.usable (c.agrees-holds.ensures ∙ ap (λ b. agrees (nat_eq (c.args.test / 2 ^ 31) 0) b) c.is-is_constant.ensures)
    ∙ ap (λ z. branch c.agrees-holds.result z c.args.next h.frame h.others h.world) (sym (to_z-of_z w16 c.args.by c.ranges.by)))
