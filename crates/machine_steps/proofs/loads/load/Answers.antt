use Rattle.std.proofs.Common.{to_z, of_z, w16, ◌≡◌, pos, [], Some, refl, sym, ◌∙◌, ap, subst, arith}
use Rattle.std.proofs.lemmas.Int.{to_z-of_z}
use Rattle.value_model.specs.Parts.{meant}
use Rattle.op_words.specs.declared.insn.Insn.TheVariants.{LoadNil, LoadB, LoadN, LoadK, LoadKX, Move, GetUpvalue, Not, And, Or, AndK, OrK}
use Rattle.machine_meaning.specs.Constants.{known}
use Rattle.machine_meaning.specs.Needs.{AValue}
use Rattle.machine_meaning.specs.States.{Run}
use Rattle.checked_runs.specs.Operands.{IsConstant}
use Rattle.machine_world.specs.Rows.{proto_here}
use Rattle.machine_world.proofs.Going.{runs_on}
use Rattle.machine_steps.specs.Ready.{IsIndex}
use Rattle.machine_steps.proofs.Owned.{index_there, named_first}
use Rattle.machine_steps.proofs.Steps.{executes_made}
use Rattle.machine_steps.proofs.loads.load.Goals as goal

pub returns-in-LoadNil-clause-does : goal.returns-in-LoadNil-clause-does
returns-in-LoadNil-clause-does c = λ chunk p stands.
    let w = c.args.world.now in
    let k = c.args.machine.now in
    executes_made chunk p w w k.code k.stack c.load_nil.new.self.stack c.args.line.insn (LoadNil c.in-LoadNil.to) c.args.line.next Run c.in-LoadNil.is refl (runs_on k.stack c.requires.goes) stands (c.load_nil.ensures.makes chunk p.code)

pub returns-in-LoadB-clause-does : goal.returns-in-LoadB-clause-does
returns-in-LoadB-clause-does c = λ chunk p stands.
    let w = c.args.world.now in
    let k = c.args.machine.now in
    executes_made chunk p w w k.code k.stack c.load_bool.new.self.stack c.args.line.insn (LoadB c.in-LoadB.to c.in-LoadB.value c.in-LoadB.skip) c.args.line.next Run c.in-LoadB.is refl (runs_on k.stack c.requires.goes) stands (c.load_bool.ensures.makes chunk p.code c.args.line.next)

pub returns-in-LoadN-clause-does : goal.returns-in-LoadN-clause-does
returns-in-LoadN-clause-does c = λ chunk p stands.
    let w = c.args.world.now in
    let k = c.args.machine.now in
    let i = c.in-LoadN in
    let same : to_z w16 (of_z w16 i.value) ≡ i.value = grind (arith, to_z-of_z) in
    executes_made chunk p w w k.code k.stack c.load_number.new.self.stack c.args.line.insn (LoadN i.to (to_z w16 (of_z w16 i.value))) c.args.line.next Run (i.is ∙ ap (λ z. LoadN i.to z) (sym same)) refl (runs_on k.stack c.requires.goes) stands (c.load_number.ensures.makes chunk p.code)

pub index-requires : goal.index-requires
index-requires c =
    let w = c.args.world.now in
    let k = c.args.machine.now in
    let i = c.in-LoadK in
    let same : to_z w16 (of_z w16 i.place) ≡ i.place = grind (arith, to_z-of_z) in
    subst IsIndex (sym same) (index_there w k.code k.stack c.args.line.insn (LoadK i.to i.place) i.place AValue [] i.is refl c.requires.ready)

pub returns-in-LoadK-clause-does : goal.returns-in-LoadK-clause-does
returns-in-LoadK-clause-does c = λ chunk p stands.
    let w = c.args.world.now in
    let k = c.args.machine.now in
    let i = c.in-LoadK in
    let insn = LoadK i.to i.place in
    let named = named_first chunk p w k.code k.stack c.args.line.insn insn c.args.line.next i.place AValue [] i.is refl stands in
    let n = proto_here w k.code k.stack in
    let same : to_z w16 (of_z w16 i.place) ≡ i.place = grind (arith, to_z-of_z) in
    let at = c.index.ensures ∙ same in
    let known = subst (λ z. known chunk n z ≡ Some (meant w.names c.constant-v.result)) at
    (c.constant-v.ensures.known chunk p AValue stands.of stands.there (subst (λ z. IsConstant chunk n z AValue) (sym at) named) refl) in
    executes_made chunk p w w k.code k.stack c.load_constant.new.self.stack c.args.line.insn insn c.args.line.next Run i.is refl (runs_on k.stack c.requires.goes) stands
    (c.load_constant.ensures.makes chunk p.code i.place known)

pub returns-in-LoadKX-clause-does : goal.returns-in-LoadKX-clause-does
returns-in-LoadKX-clause-does c = λ chunk p stands.
    let w = c.args.world.now in
    let k = c.args.machine.now in
    let named = named_first chunk p w k.code k.stack c.args.line.insn (LoadKX c.in-LoadKX.to c.in-LoadKX.place) c.args.line.next (pos c.in-LoadKX.place) AValue [] c.in-LoadKX.is refl stands in
    executes_made chunk p w w k.code k.stack c.load_constant-in-LoadKX.new.self.stack c.args.line.insn (LoadKX c.in-LoadKX.to c.in-LoadKX.place) c.args.line.next Run c.in-LoadKX.is refl (runs_on k.stack c.requires.goes) stands
    (c.load_constant-in-LoadKX.ensures.further chunk p.code c.in-LoadKX.place (c.constant-v-in-LoadKX.ensures.known chunk p AValue stands.of stands.there named refl))

pub returns-in-Move-clause-does : goal.returns-in-Move-clause-does
returns-in-Move-clause-does c = λ chunk p stands.
    let w = c.args.world.now in
    let k = c.args.machine.now in
    executes_made chunk p w w k.code k.stack c.move_.new.self.stack c.args.line.insn (Move c.in-Move.to c.in-Move.from) c.args.line.next Run c.in-Move.is refl (runs_on k.stack c.requires.goes) stands (c.move_.ensures.makes chunk p.code)

pub returns-in-GetUpvalue-clause-does : goal.returns-in-GetUpvalue-clause-does
returns-in-GetUpvalue-clause-does c = λ chunk p stands.
    let w = c.args.world.now in
    let k = c.args.machine.now in
    executes_made chunk p w w k.code k.stack c.get_upvalue.new.self.stack c.args.line.insn (GetUpvalue c.in-GetUpvalue.to c.in-GetUpvalue.upvalue) c.args.line.next Run c.in-GetUpvalue.is refl (runs_on k.stack c.requires.goes) stands (c.get_upvalue.ensures.makes chunk p.code)

pub returns-in-Not-clause-does : goal.returns-in-Not-clause-does
returns-in-Not-clause-does c = λ chunk p stands.
    let w = c.args.world.now in
    let k = c.args.machine.now in
    executes_made chunk p w w k.code k.stack c.not.new.self.stack c.args.line.insn (Not c.in-Not.to c.in-Not.operand) c.args.line.next Run c.in-Not.is refl (runs_on k.stack c.requires.goes) stands (c.not.ensures.makes chunk p.code)

pub returns-in-And-clause-does : goal.returns-in-And-clause-does
returns-in-And-clause-does c = λ chunk p stands.
    let w = c.args.world.now in
    let k = c.args.machine.now in
    executes_made chunk p w w k.code k.stack c.and.new.self.stack c.args.line.insn (And c.in-And.to c.in-And.left c.in-And.right) c.args.line.next Run c.in-And.is refl (runs_on k.stack c.requires.goes) stands (c.and.ensures.makes chunk p.code)

pub returns-in-Or-clause-does : goal.returns-in-Or-clause-does
returns-in-Or-clause-does c = λ chunk p stands.
    let w = c.args.world.now in
    let k = c.args.machine.now in
    executes_made chunk p w w k.code k.stack c.or.new.self.stack c.args.line.insn (Or c.in-Or.to c.in-Or.left c.in-Or.right) c.args.line.next Run c.in-Or.is refl (runs_on k.stack c.requires.goes) stands (c.or.ensures.makes chunk p.code)

pub returns-in-AndK-clause-does : goal.returns-in-AndK-clause-does
returns-in-AndK-clause-does c = λ chunk p stands.
    let w = c.args.world.now in
    let k = c.args.machine.now in
    let named = named_first chunk p w k.code k.stack c.args.line.insn (AndK c.in-AndK.to c.in-AndK.left c.in-AndK.place) c.args.line.next (pos c.in-AndK.place) AValue [] c.in-AndK.is refl stands in
    executes_made chunk p w w k.code k.stack c.and_constant.new.self.stack c.args.line.insn (AndK c.in-AndK.to c.in-AndK.left c.in-AndK.place) c.args.line.next Run c.in-AndK.is refl (runs_on k.stack c.requires.goes) stands
    (c.and_constant.ensures.makes chunk p.code c.in-AndK.place (c.constant-v-in-AndK.ensures.known chunk p AValue stands.of stands.there named refl))

pub returns-in-OrK-clause-does : goal.returns-in-OrK-clause-does
returns-in-OrK-clause-does c = λ chunk p stands.
    let w = c.args.world.now in
    let k = c.args.machine.now in
    let named = named_first chunk p w k.code k.stack c.args.line.insn (OrK c.in-OrK.to c.in-OrK.left c.in-OrK.place) c.args.line.next (pos c.in-OrK.place) AValue [] c.in-OrK.is refl stands in
    executes_made chunk p w w k.code k.stack c.or_constant.new.self.stack c.args.line.insn (OrK c.in-OrK.to c.in-OrK.left c.in-OrK.place) c.args.line.next Run c.in-OrK.is refl (runs_on k.stack c.requires.goes) stands
    (c.or_constant.ensures.makes chunk p.code c.in-OrK.place (c.constant-v-in-OrK.ensures.known chunk p AValue stands.of stands.there named refl))
