use Rattle.std.proofs.Common.{to_z, of_z, w16, ◌≡◌, refl, sym, ◌∙◌, ap, subst, arith}
use Rattle.std.proofs.lemmas.Int.{to_z-of_z}
use Rattle.op_words.specs.declared.insn.Insn.TheVariants.{ForNPrep, ForNLoop}
use Rattle.machine_world.proofs.Going.{runs_on}
use Rattle.machine_steps.specs.Courses.{Executes, course_next}
use Rattle.machine_steps.proofs.Steps.{executes_begun, executes_counted}
use Rattle.machine_steps.proofs.counts.count.Goals as goal

pub returns-in-ForNPrep-clause-does : goal.returns-in-ForNPrep-clause-does
returns-in-ForNPrep-clause-does c = λ chunk p stands.
    let w = c.args.world.now in
    let k = c.args.machine.now in
    let i = c.in-ForNPrep in
    let q = c.begin_count.result in
    let same : to_z w16 (of_z w16 i.by) ≡ i.by = grind (arith, to_z-of_z) in
    subst (λ x. Executes chunk c.args.line.insn w k.code k.stack 0 (course_next w.names x) w c.begin_count.new.machine.stack) (sym c.following.ensures)
    (executes_begun chunk p w k.code k.stack c.begin_count.new.machine.stack c.args.line.insn (ForNPrep i.base (to_z w16 (of_z w16 i.by))) c.args.line.next q (i.is ∙ ap (λ z. ForNPrep i.base z) (sym same)) refl (runs_on k.stack c.requires.goes) stands (c.begin_count.ensures.makes chunk p.code))

pub returns-in-ForNLoop-clause-does : goal.returns-in-ForNLoop-clause-does
returns-in-ForNLoop-clause-does c = λ chunk p stands.
    let w = c.args.world.now in
    let k = c.args.machine.now in
    let i = c.in-ForNLoop in
    let q = c.next_count.result in
    let same : to_z w16 (of_z w16 i.by) ≡ i.by = grind (arith, to_z-of_z) in
    subst (λ x. Executes chunk c.args.line.insn w k.code k.stack 0 (course_next w.names x) w c.next_count.new.machine.stack) (sym c.following-in-ForNLoop.ensures)
    (executes_counted chunk p w k.code k.stack c.next_count.new.machine.stack c.args.line.insn (ForNLoop i.base (to_z w16 (of_z w16 i.by))) c.args.line.next q (i.is ∙ ap (λ z. ForNLoop i.base z) (sym same)) refl (runs_on k.stack c.requires.goes) stands (c.next_count.ensures.charges chunk p.code) c.next_count.ensures.makes)
