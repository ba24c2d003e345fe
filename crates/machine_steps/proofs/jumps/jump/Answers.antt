use Rattle.std.proofs.Common.{to_z, of_z, w16, w32, ◌≡◌, ◌^◌, ◌%◌, pos, nat_eq, [], refl, sym, ◌∙◌, ap, arith}
use Rattle.std.proofs.lemmas.Int.{to_z-of_z}
use Rattle.op_words.specs.declared.insn.Insn.TheVariants.{PrepVarargs, Jump, JumpX, JumpBack, JumpIf, JumpIfNot, JumpXEqKNil, JumpXEqKB, JumpXEqKN, JumpXEqKS}
use Rattle.machine_meaning.specs.Needs.{ANumber, AName}
use Rattle.machine_meaning.specs.States.{Run}
use Rattle.machine_world.proofs.Going.{runs_on, bool_is}
use Rattle.machine_steps.proofs.Owned.{named_first}
use Rattle.machine_steps.proofs.Steps.{executes_made, executes_charged, executes_nop, nil_is}
use Rattle.machine_steps.proofs.jumps.jump.Goals as goal

pub returns-in-Nop-clause-does : goal.returns-in-Nop-clause-does
returns-in-Nop-clause-does c = λ chunk p stands.
    let w = c.args.world.now in
    let k = c.args.machine.now in
    let i = c.in-Nop in
    executes_nop chunk p w k.code k.stack c.pass.new.self.stack c.args.line.insn c.args.line.next i.turns i.is c.requires.ready.known (runs_on k.stack c.requires.goes) stands (c.pass.ensures.makes chunk p.code) (c.pass.ensures.charges chunk p.code)

pub returns-in-PrepVarargs-clause-does : goal.returns-in-PrepVarargs-clause-does
returns-in-PrepVarargs-clause-does c = λ chunk p stands.
    let w = c.args.world.now in
    let k = c.args.machine.now in
    let i = c.in-PrepVarargs in
    executes_made chunk p w w k.code k.stack c.pass-in-PrepVarargs.new.self.stack c.args.line.insn (PrepVarargs i.parameters) c.args.line.next Run i.is refl (runs_on k.stack c.requires.goes) stands (c.pass-in-PrepVarargs.ensures.prepares chunk p.code i.parameters)

pub returns-in-Jump-clause-does : goal.returns-in-Jump-clause-does
returns-in-Jump-clause-does c = λ chunk p stands.
    let w = c.args.world.now in
    let k = c.args.machine.now in
    let i = c.in-Jump in
    let same : to_z w32 (of_z w32 c.from.result) ≡ i.by = grind (arith, to_z-of_z) in
    executes_made chunk p w w k.code k.stack c.jump.new.self.stack c.args.line.insn (Jump (to_z w32 (of_z w32 c.from.result))) c.args.line.next Run (i.is ∙ ap (λ z. Jump z) (sym same)) refl (runs_on k.stack c.requires.goes) stands (c.jump.ensures.makes chunk p.code c.args.line.next)

pub returns-in-JumpX-clause-does : goal.returns-in-JumpX-clause-does
returns-in-JumpX-clause-does c = λ chunk p stands.
    let w = c.args.world.now in
    let k = c.args.machine.now in
    let i = c.in-JumpX in
    let same : to_z w32 (of_z w32 i.by) ≡ i.by = grind (arith, to_z-of_z) in
    executes_made chunk p w w k.code k.stack c.jump-in-JumpX.new.self.stack c.args.line.insn (JumpX (to_z w32 (of_z w32 i.by))) c.args.line.next Run (i.is ∙ ap (λ z. JumpX z) (sym same)) refl (runs_on k.stack c.requires.goes) stands (c.jump-in-JumpX.ensures.further chunk p.code c.args.line.next)

pub returns-in-JumpBack-clause-does : goal.returns-in-JumpBack-clause-does
returns-in-JumpBack-clause-does c = λ chunk p stands.
    let w = c.args.world.now in
    let k = c.args.machine.now in
    let i = c.in-JumpBack in
    let same : to_z w16 (of_z w16 i.by) ≡ i.by = grind (arith, to_z-of_z) in
    executes_charged chunk p w w k.code k.stack c.jump_back.new.self.stack c.args.line.insn (JumpBack (to_z w16 (of_z w16 i.by))) c.args.line.next Run (i.is ∙ ap (λ z. JumpBack z) (sym same)) refl (runs_on k.stack c.requires.goes) stands (c.jump_back.ensures.makes chunk p.code c.args.line.next)

pub returns-in-JumpIf-clause-does : goal.returns-in-JumpIf-clause-does
returns-in-JumpIf-clause-does c = λ chunk p stands.
    let w = c.args.world.now in
    let k = c.args.machine.now in
    let i = c.in-JumpIf in
    let same : to_z w16 (of_z w16 i.by) ≡ i.by = grind (arith, to_z-of_z) in
    executes_made chunk p w w k.code k.stack c.jump_if.new.self.stack c.args.line.insn (JumpIf i.value (to_z w16 (of_z w16 i.by))) c.args.line.next Run (i.is ∙ ap (λ z. JumpIf i.value z) (sym same)) refl (runs_on k.stack c.requires.goes) stands (c.jump_if.ensures.makes chunk p.code)

pub returns-in-JumpIfNot-clause-does : goal.returns-in-JumpIfNot-clause-does
returns-in-JumpIfNot-clause-does c = λ chunk p stands.
    let w = c.args.world.now in
    let k = c.args.machine.now in
    let i = c.in-JumpIfNot in
    let same : to_z w16 (of_z w16 i.by) ≡ i.by = grind (arith, to_z-of_z) in
    executes_made chunk p w w k.code k.stack c.jump_if_not.new.self.stack c.args.line.insn (JumpIfNot i.value (to_z w16 (of_z w16 i.by))) c.args.line.next Run (i.is ∙ ap (λ z. JumpIfNot i.value z) (sym same)) refl (runs_on k.stack c.requires.goes) stands (c.jump_if_not.ensures.makes chunk p.code)

pub returns-in-JumpXEqKNil-clause-does : goal.returns-in-JumpXEqKNil-clause-does
returns-in-JumpXEqKNil-clause-does c = λ chunk p stands.
    let w = c.args.world.now in
    let k = c.args.machine.now in
    let i = c.in-JumpXEqKNil in
    let same : to_z w16 (of_z w16 i.by) ≡ i.by = grind (arith, to_z-of_z) in
    executes_made chunk p w w k.code k.stack c.jump_if_constant.new.self.stack c.args.line.insn (JumpXEqKNil i.value (to_z w16 (of_z w16 i.by)) i.test) c.args.line.next Run (i.is ∙ ap (λ z. JumpXEqKNil i.value z i.test) (sym same)) refl (runs_on k.stack c.requires.goes) stands (c.jump_if_constant.ensures.nil chunk p.code (nil_is w.names))

pub returns-in-JumpXEqKB-clause-does : goal.returns-in-JumpXEqKB-clause-does
returns-in-JumpXEqKB-clause-does c = λ chunk p stands.
    let w = c.args.world.now in
    let k = c.args.machine.now in
    let i = c.in-JumpXEqKB in
    let same : to_z w16 (of_z w16 i.by) ≡ i.by = grind (arith, to_z-of_z) in
    executes_made chunk p w w k.code k.stack c.jump_if_constant-in-JumpXEqKB.new.self.stack c.args.line.insn (JumpXEqKB i.value (to_z w16 (of_z w16 i.by)) i.test) c.args.line.next Run (i.is ∙ ap (λ z. JumpXEqKB i.value z i.test) (sym same)) refl (runs_on k.stack c.requires.goes) stands (c.jump_if_constant-in-JumpXEqKB.ensures.boolean chunk p.code (bool_is w.names (nat_eq (i.test % 2) 1)))

pub returns-in-JumpXEqKN-clause-does : goal.returns-in-JumpXEqKN-clause-does
returns-in-JumpXEqKN-clause-does c = λ chunk p stands.
    let w = c.args.world.now in
    let k = c.args.machine.now in
    let i = c.in-JumpXEqKN in
    let same : to_z w16 (of_z w16 i.by) ≡ i.by = grind (arith, to_z-of_z) in
    let named = named_first chunk p w k.code k.stack c.args.line.insn (JumpXEqKN i.value i.by i.test) c.args.line.next (pos (i.test % 2 ^ 24)) ANumber [] i.is refl stands in
    executes_made chunk p w w k.code k.stack c.jump_if_constant-in-JumpXEqKN.new.self.stack c.args.line.insn (JumpXEqKN i.value (to_z w16 (of_z w16 i.by)) i.test) c.args.line.next Run (i.is ∙ ap (λ z. JumpXEqKN i.value z i.test) (sym same)) refl (runs_on k.stack c.requires.goes) stands (c.jump_if_constant-in-JumpXEqKN.ensures.number chunk p.code (c.constant-v.ensures.known chunk p ANumber stands.of stands.there named refl))

pub returns-in-JumpXEqKS-clause-does : goal.returns-in-JumpXEqKS-clause-does
returns-in-JumpXEqKS-clause-does c = λ chunk p stands.
    let w = c.args.world.now in
    let k = c.args.machine.now in
    let i = c.in-JumpXEqKS in
    let same : to_z w16 (of_z w16 i.by) ≡ i.by = grind (arith, to_z-of_z) in
    let named = named_first chunk p w k.code k.stack c.args.line.insn (JumpXEqKS i.value i.by i.test) c.args.line.next (pos (i.test % 2 ^ 24)) AName [] i.is refl stands in
    executes_made chunk p w w k.code k.stack c.jump_if_constant-in-JumpXEqKS.new.self.stack c.args.line.insn (JumpXEqKS i.value (to_z w16 (of_z w16 i.by)) i.test) c.args.line.next Run (i.is ∙ ap (λ z. JumpXEqKS i.value z i.test) (sym same)) refl (runs_on k.stack c.requires.goes) stands (c.jump_if_constant-in-JumpXEqKS.ensures.text chunk p.code (c.constant-v-in-JumpXEqKS.ensures.known chunk p AName stands.of stands.there named refl))
