use Rattle.std.proofs.Common.{to_z, of_z, w16, ◌≡◌, refl, sym, ◌∙◌, ap, arith}
use Rattle.std.proofs.lemmas.Int.{to_z-of_z}
use Rattle.op_words.specs.declared.insn.Insn.TheVariants.{JumpIfEq, JumpIfLe, JumpIfLt, JumpIfNotEq, JumpIfNotLe, JumpIfNotLt}
use Rattle.machine_world.proofs.Going.{runs_on}
use Rattle.machine_steps.proofs.Steps.{executes_done}
use Rattle.machine_steps.proofs.comparisons.comparison.Goals as goal

pub returns-in-JumpIfEq-clause-does : goal.returns-in-JumpIfEq-clause-does
returns-in-JumpIfEq-clause-does c = λ chunk p stands.
    let w = c.args.world.now in
    let k = c.args.machine.now in
    let i = c.in-JumpIfEq in
    let same : to_z w16 (of_z w16 i.by) ≡ i.by = grind (arith, to_z-of_z) in
    let is = i.is ∙ ap (λ z. JumpIfEq i.left z i.right) (sym same) ∙ ap (λ r. JumpIfEq i.left (to_z w16 (of_z w16 i.by)) r) (sym c.register-other.ensures) in
    executes_done chunk p w w k.code k.stack c.jump_on_comparison.new.machine.stack c.args.line.insn (JumpIfEq i.left (to_z w16 (of_z w16 i.by)) c.register-other.result) c.args.line.next 0 c.jump_on_comparison.result is refl (runs_on k.stack c.requires.goes) stands (c.jump_on_comparison.ensures.makes chunk p.code)

pub returns-in-JumpIfLe-clause-does : goal.returns-in-JumpIfLe-clause-does
returns-in-JumpIfLe-clause-does c = λ chunk p stands.
    let w = c.args.world.now in
    let k = c.args.machine.now in
    let i = c.in-JumpIfLe in
    let same : to_z w16 (of_z w16 i.by) ≡ i.by = grind (arith, to_z-of_z) in
    let is = i.is ∙ ap (λ z. JumpIfLe i.left z i.right) (sym same) ∙ ap (λ r. JumpIfLe i.left (to_z w16 (of_z w16 i.by)) r) (sym c.register-other-in-JumpIfLe.ensures) in
    executes_done chunk p w w k.code k.stack c.jump_on_comparison-in-JumpIfLe.new.machine.stack c.args.line.insn (JumpIfLe i.left (to_z w16 (of_z w16 i.by)) c.register-other-in-JumpIfLe.result) c.args.line.next 0 c.jump_on_comparison-in-JumpIfLe.result is refl (runs_on k.stack c.requires.goes) stands (c.jump_on_comparison-in-JumpIfLe.ensures.makes chunk p.code)

pub returns-in-JumpIfLt-clause-does : goal.returns-in-JumpIfLt-clause-does
returns-in-JumpIfLt-clause-does c = λ chunk p stands.
    let w = c.args.world.now in
    let k = c.args.machine.now in
    let i = c.in-JumpIfLt in
    let same : to_z w16 (of_z w16 i.by) ≡ i.by = grind (arith, to_z-of_z) in
    let is = i.is ∙ ap (λ z. JumpIfLt i.left z i.right) (sym same) ∙ ap (λ r. JumpIfLt i.left (to_z w16 (of_z w16 i.by)) r) (sym c.register-other-in-JumpIfLt.ensures) in
    executes_done chunk p w w k.code k.stack c.jump_on_comparison-in-JumpIfLt.new.machine.stack c.args.line.insn (JumpIfLt i.left (to_z w16 (of_z w16 i.by)) c.register-other-in-JumpIfLt.result) c.args.line.next 0 c.jump_on_comparison-in-JumpIfLt.result is refl (runs_on k.stack c.requires.goes) stands (c.jump_on_comparison-in-JumpIfLt.ensures.makes chunk p.code)

pub returns-in-JumpIfNotEq-clause-does : goal.returns-in-JumpIfNotEq-clause-does
returns-in-JumpIfNotEq-clause-does c = λ chunk p stands.
    let w = c.args.world.now in
    let k = c.args.machine.now in
    let i = c.in-JumpIfNotEq in
    let same : to_z w16 (of_z w16 i.by) ≡ i.by = grind (arith, to_z-of_z) in
    let is = i.is ∙ ap (λ z. JumpIfNotEq i.left z i.right) (sym same) ∙ ap (λ r. JumpIfNotEq i.left (to_z w16 (of_z w16 i.by)) r) (sym c.register-other-in-JumpIfNotEq.ensures) in
    executes_done chunk p w w k.code k.stack c.jump_on_comparison-in-JumpIfNotEq.new.machine.stack c.args.line.insn (JumpIfNotEq i.left (to_z w16 (of_z w16 i.by)) c.register-other-in-JumpIfNotEq.result) c.args.line.next 0 c.jump_on_comparison-in-JumpIfNotEq.result is refl (runs_on k.stack c.requires.goes) stands (c.jump_on_comparison-in-JumpIfNotEq.ensures.makes chunk p.code)

pub returns-in-JumpIfNotLe-clause-does : goal.returns-in-JumpIfNotLe-clause-does
returns-in-JumpIfNotLe-clause-does c = λ chunk p stands.
    let w = c.args.world.now in
    let k = c.args.machine.now in
    let i = c.in-JumpIfNotLe in
    let same : to_z w16 (of_z w16 i.by) ≡ i.by = grind (arith, to_z-of_z) in
    let is = i.is ∙ ap (λ z. JumpIfNotLe i.left z i.right) (sym same) ∙ ap (λ r. JumpIfNotLe i.left (to_z w16 (of_z w16 i.by)) r) (sym c.register-other-in-JumpIfNotLe.ensures) in
    executes_done chunk p w w k.code k.stack c.jump_on_comparison-in-JumpIfNotLe.new.machine.stack c.args.line.insn (JumpIfNotLe i.left (to_z w16 (of_z w16 i.by)) c.register-other-in-JumpIfNotLe.result) c.args.line.next 0 c.jump_on_comparison-in-JumpIfNotLe.result is refl (runs_on k.stack c.requires.goes) stands (c.jump_on_comparison-in-JumpIfNotLe.ensures.makes chunk p.code)

pub returns-in-JumpIfNotLt-clause-does : goal.returns-in-JumpIfNotLt-clause-does
returns-in-JumpIfNotLt-clause-does c = λ chunk p stands.
    let w = c.args.world.now in
    let k = c.args.machine.now in
    let i = c.in-JumpIfNotLt in
    let same : to_z w16 (of_z w16 i.by) ≡ i.by = grind (arith, to_z-of_z) in
    let is = i.is ∙ ap (λ z. JumpIfNotLt i.left z i.right) (sym same) ∙ ap (λ r. JumpIfNotLt i.left (to_z w16 (of_z w16 i.by)) r) (sym c.register-other-in-JumpIfNotLt.ensures) in
    executes_done chunk p w w k.code k.stack c.jump_on_comparison-in-JumpIfNotLt.new.machine.stack c.args.line.insn (JumpIfNotLt i.left (to_z w16 (of_z w16 i.by)) c.register-other-in-JumpIfNotLt.result) c.args.line.next 0 c.jump_on_comparison-in-JumpIfNotLt.result is refl (runs_on k.stack c.requires.goes) stands (c.jump_on_comparison-in-JumpIfNotLt.ensures.makes chunk p.code)
