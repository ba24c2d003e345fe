use Rattle.std.proofs.Common.{to_z, of_z, w16, ◌≡◌, refl, sym, ◌∙◌, ap, arith}
use Rattle.std.proofs.lemmas.Int.{to_z-of_z}
use Rattle.op_words.specs.declared.insn.Insn.TheVariants.{ForGPrep}
use Rattle.machine_world.proofs.Going.{runs_on}
use Rattle.machine_steps.proofs.Steps.{executes_done}
use Rattle.machine_steps.proofs.iterations.iterate.Goals as goal

pub returns-clause-does : goal.returns-clause-does
returns-clause-does c = λ chunk p stands.
    let w = c.args.world.now in
    let k = c.args.machine.now in
    let i = c.in-ForGPrep in
    let same : to_z w16 (of_z w16 i.by) ≡ i.by = grind (arith, to_z-of_z) in
    executes_done chunk p w w k.code k.stack c.begin_loop.new.machine.stack c.args.line.insn (ForGPrep i.base (to_z w16 (of_z w16 i.by))) c.args.line.next 0 c.begin_loop.result (i.is ∙ ap (λ z. ForGPrep i.base z) (sym same)) refl (runs_on k.stack c.requires.goes) stands (c.begin_loop.ensures.makes chunk p.code)
