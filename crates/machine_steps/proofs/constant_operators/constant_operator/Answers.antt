use Rattle.std.proofs.Common.{pos, [], refl}
use Rattle.op_words.specs.declared.insn.Insn.TheVariants.{AddK, SubK, MulK, DivK, ModK, PowK, IdivK, SubRK, DivRK}
use Rattle.machine_meaning.specs.Needs.{AValue}
use Rattle.machine_steps.proofs.Owned.{named_first}
use Rattle.machine_world.proofs.Going.{runs_on}
use Rattle.machine_steps.proofs.Steps.{executes_done}
use Rattle.machine_steps.proofs.constant_operators.constant_operator.Goals as goal

pub returns-in-AddK-clause-does : goal.returns-in-AddK-clause-does
returns-in-AddK-clause-does c = λ chunk p stands.
    let w = c.args.world.now in
    let k = c.args.machine.now in
    let named = named_first chunk p w k.code k.stack c.args.line.insn (AddK c.in-AddK.to c.in-AddK.left c.in-AddK.place) c.args.line.next (pos c.in-AddK.place) AValue [] c.in-AddK.is refl stands in
    executes_done chunk p w w k.code k.stack c.operate_with_constant.new.machine.stack c.args.line.insn (AddK c.in-AddK.to c.in-AddK.left c.in-AddK.place) c.args.line.next 0 c.operate_with_constant.result c.in-AddK.is refl (runs_on k.stack c.requires.goes) stands (c.operate_with_constant.ensures.makes chunk p.code c.in-AddK.place (c.constant-v.ensures.known chunk p AValue stands.of stands.there named refl))

pub returns-in-SubK-clause-does : goal.returns-in-SubK-clause-does
returns-in-SubK-clause-does c = λ chunk p stands.
    let w = c.args.world.now in
    let k = c.args.machine.now in
    let named = named_first chunk p w k.code k.stack c.args.line.insn (SubK c.in-SubK.to c.in-SubK.left c.in-SubK.place) c.args.line.next (pos c.in-SubK.place) AValue [] c.in-SubK.is refl stands in
    executes_done chunk p w w k.code k.stack c.operate_with_constant-in-SubK.new.machine.stack c.args.line.insn (SubK c.in-SubK.to c.in-SubK.left c.in-SubK.place) c.args.line.next 0 c.operate_with_constant-in-SubK.result c.in-SubK.is refl (runs_on k.stack c.requires.goes) stands (c.operate_with_constant-in-SubK.ensures.makes chunk p.code c.in-SubK.place (c.constant-v-in-SubK.ensures.known chunk p AValue stands.of stands.there named refl))

pub returns-in-MulK-clause-does : goal.returns-in-MulK-clause-does
returns-in-MulK-clause-does c = λ chunk p stands.
    let w = c.args.world.now in
    let k = c.args.machine.now in
    let named = named_first chunk p w k.code k.stack c.args.line.insn (MulK c.in-MulK.to c.in-MulK.left c.in-MulK.place) c.args.line.next (pos c.in-MulK.place) AValue [] c.in-MulK.is refl stands in
    executes_done chunk p w w k.code k.stack c.operate_with_constant-in-MulK.new.machine.stack c.args.line.insn (MulK c.in-MulK.to c.in-MulK.left c.in-MulK.place) c.args.line.next 0 c.operate_with_constant-in-MulK.result c.in-MulK.is refl (runs_on k.stack c.requires.goes) stands (c.operate_with_constant-in-MulK.ensures.makes chunk p.code c.in-MulK.place (c.constant-v-in-MulK.ensures.known chunk p AValue stands.of stands.there named refl))

pub returns-in-DivK-clause-does : goal.returns-in-DivK-clause-does
returns-in-DivK-clause-does c = λ chunk p stands.
    let w = c.args.world.now in
    let k = c.args.machine.now in
    let named = named_first chunk p w k.code k.stack c.args.line.insn (DivK c.in-DivK.to c.in-DivK.left c.in-DivK.place) c.args.line.next (pos c.in-DivK.place) AValue [] c.in-DivK.is refl stands in
    executes_done chunk p w w k.code k.stack c.operate_with_constant-in-DivK.new.machine.stack c.args.line.insn (DivK c.in-DivK.to c.in-DivK.left c.in-DivK.place) c.args.line.next 0 c.operate_with_constant-in-DivK.result c.in-DivK.is refl (runs_on k.stack c.requires.goes) stands (c.operate_with_constant-in-DivK.ensures.makes chunk p.code c.in-DivK.place (c.constant-v-in-DivK.ensures.known chunk p AValue stands.of stands.there named refl))

pub returns-in-ModK-clause-does : goal.returns-in-ModK-clause-does
returns-in-ModK-clause-does c = λ chunk p stands.
    let w = c.args.world.now in
    let k = c.args.machine.now in
    let named = named_first chunk p w k.code k.stack c.args.line.insn (ModK c.in-ModK.to c.in-ModK.left c.in-ModK.place) c.args.line.next (pos c.in-ModK.place) AValue [] c.in-ModK.is refl stands in
    executes_done chunk p w w k.code k.stack c.operate_with_constant-in-ModK.new.machine.stack c.args.line.insn (ModK c.in-ModK.to c.in-ModK.left c.in-ModK.place) c.args.line.next 0 c.operate_with_constant-in-ModK.result c.in-ModK.is refl (runs_on k.stack c.requires.goes) stands (c.operate_with_constant-in-ModK.ensures.makes chunk p.code c.in-ModK.place (c.constant-v-in-ModK.ensures.known chunk p AValue stands.of stands.there named refl))

pub returns-in-PowK-clause-does : goal.returns-in-PowK-clause-does
returns-in-PowK-clause-does c = λ chunk p stands.
    let w = c.args.world.now in
    let k = c.args.machine.now in
    let named = named_first chunk p w k.code k.stack c.args.line.insn (PowK c.in-PowK.to c.in-PowK.left c.in-PowK.place) c.args.line.next (pos c.in-PowK.place) AValue [] c.in-PowK.is refl stands in
    executes_done chunk p w w k.code k.stack c.operate_with_constant-in-PowK.new.machine.stack c.args.line.insn (PowK c.in-PowK.to c.in-PowK.left c.in-PowK.place) c.args.line.next 0 c.operate_with_constant-in-PowK.result c.in-PowK.is refl (runs_on k.stack c.requires.goes) stands (c.operate_with_constant-in-PowK.ensures.makes chunk p.code c.in-PowK.place (c.constant-v-in-PowK.ensures.known chunk p AValue stands.of stands.there named refl))

pub returns-in-IdivK-clause-does : goal.returns-in-IdivK-clause-does
returns-in-IdivK-clause-does c = λ chunk p stands.
    let w = c.args.world.now in
    let k = c.args.machine.now in
    let named = named_first chunk p w k.code k.stack c.args.line.insn (IdivK c.in-IdivK.to c.in-IdivK.left c.in-IdivK.place) c.args.line.next (pos c.in-IdivK.place) AValue [] c.in-IdivK.is refl stands in
    executes_done chunk p w w k.code k.stack c.operate_with_constant-in-IdivK.new.machine.stack c.args.line.insn (IdivK c.in-IdivK.to c.in-IdivK.left c.in-IdivK.place) c.args.line.next 0 c.operate_with_constant-in-IdivK.result c.in-IdivK.is refl (runs_on k.stack c.requires.goes) stands (c.operate_with_constant-in-IdivK.ensures.makes chunk p.code c.in-IdivK.place (c.constant-v-in-IdivK.ensures.known chunk p AValue stands.of stands.there named refl))

pub returns-in-SubRK-clause-does : goal.returns-in-SubRK-clause-does
returns-in-SubRK-clause-does c = λ chunk p stands.
    let w = c.args.world.now in
    let k = c.args.machine.now in
    let named = named_first chunk p w k.code k.stack c.args.line.insn (SubRK c.in-SubRK.to c.in-SubRK.place c.in-SubRK.right) c.args.line.next (pos c.in-SubRK.place) AValue [] c.in-SubRK.is refl stands in
    executes_done chunk p w w k.code k.stack c.constant_less.new.machine.stack c.args.line.insn (SubRK c.in-SubRK.to c.in-SubRK.place c.in-SubRK.right) c.args.line.next 0 c.constant_less.result c.in-SubRK.is refl (runs_on k.stack c.requires.goes) stands (c.constant_less.ensures.makes chunk p.code c.in-SubRK.place (c.constant-v-in-SubRK.ensures.known chunk p AValue stands.of stands.there named refl))

pub returns-in-DivRK-clause-does : goal.returns-in-DivRK-clause-does
returns-in-DivRK-clause-does c = λ chunk p stands.
    let w = c.args.world.now in
    let k = c.args.machine.now in
    let named = named_first chunk p w k.code k.stack c.args.line.insn (DivRK c.in-DivRK.to c.in-DivRK.place c.in-DivRK.right) c.args.line.next (pos c.in-DivRK.place) AValue [] c.in-DivRK.is refl stands in
    executes_done chunk p w w k.code k.stack c.constant_divided.new.machine.stack c.args.line.insn (DivRK c.in-DivRK.to c.in-DivRK.place c.in-DivRK.right) c.args.line.next 0 c.constant_divided.result c.in-DivRK.is refl (runs_on k.stack c.requires.goes) stands (c.constant_divided.ensures.makes chunk p.code c.in-DivRK.place (c.constant-v-in-DivRK.ensures.known chunk p AValue stands.of stands.there named refl))
