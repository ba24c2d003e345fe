use Rattle.std.proofs.Common.{refl}
use Rattle.op_words.specs.declared.insn.Insn.TheVariants.{Add, Sub, Mul, Div, Mod, Pow, Idiv, Minus, Length}
use Rattle.machine_world.proofs.Going.{runs_on}
use Rattle.machine_steps.proofs.Steps.{executes_done}
use Rattle.machine_steps.proofs.operators.operator.Goals as goal

pub returns-in-Add-clause-does : goal.returns-in-Add-clause-does
returns-in-Add-clause-does c = λ chunk p stands.
    let w = c.args.world.now in
    let k = c.args.machine.now in
    executes_done chunk p w w k.code k.stack c.operate.new.machine.stack c.args.line.insn (Add c.in-Add.to c.in-Add.left c.in-Add.right) c.args.line.next 0 c.operate.result c.in-Add.is refl (runs_on k.stack c.requires.goes) stands (c.operate.ensures.makes chunk p.code)

pub returns-in-Sub-clause-does : goal.returns-in-Sub-clause-does
returns-in-Sub-clause-does c = λ chunk p stands.
    let w = c.args.world.now in
    let k = c.args.machine.now in
    executes_done chunk p w w k.code k.stack c.operate-in-Sub.new.machine.stack c.args.line.insn (Sub c.in-Sub.to c.in-Sub.left c.in-Sub.right) c.args.line.next 0 c.operate-in-Sub.result c.in-Sub.is refl (runs_on k.stack c.requires.goes) stands (c.operate-in-Sub.ensures.makes chunk p.code)

pub returns-in-Mul-clause-does : goal.returns-in-Mul-clause-does
returns-in-Mul-clause-does c = λ chunk p stands.
    let w = c.args.world.now in
    let k = c.args.machine.now in
    executes_done chunk p w w k.code k.stack c.operate-in-Mul.new.machine.stack c.args.line.insn (Mul c.in-Mul.to c.in-Mul.left c.in-Mul.right) c.args.line.next 0 c.operate-in-Mul.result c.in-Mul.is refl (runs_on k.stack c.requires.goes) stands (c.operate-in-Mul.ensures.makes chunk p.code)

pub returns-in-Div-clause-does : goal.returns-in-Div-clause-does
returns-in-Div-clause-does c = λ chunk p stands.
    let w = c.args.world.now in
    let k = c.args.machine.now in
    executes_done chunk p w w k.code k.stack c.operate-in-Div.new.machine.stack c.args.line.insn (Div c.in-Div.to c.in-Div.left c.in-Div.right) c.args.line.next 0 c.operate-in-Div.result c.in-Div.is refl (runs_on k.stack c.requires.goes) stands (c.operate-in-Div.ensures.makes chunk p.code)

pub returns-in-Mod-clause-does : goal.returns-in-Mod-clause-does
returns-in-Mod-clause-does c = λ chunk p stands.
    let w = c.args.world.now in
    let k = c.args.machine.now in
    executes_done chunk p w w k.code k.stack c.operate-in-Mod.new.machine.stack c.args.line.insn (Mod c.in-Mod.to c.in-Mod.left c.in-Mod.right) c.args.line.next 0 c.operate-in-Mod.result c.in-Mod.is refl (runs_on k.stack c.requires.goes) stands (c.operate-in-Mod.ensures.makes chunk p.code)

pub returns-in-Pow-clause-does : goal.returns-in-Pow-clause-does
returns-in-Pow-clause-does c = λ chunk p stands.
    let w = c.args.world.now in
    let k = c.args.machine.now in
    executes_done chunk p w w k.code k.stack c.operate-in-Pow.new.machine.stack c.args.line.insn (Pow c.in-Pow.to c.in-Pow.left c.in-Pow.right) c.args.line.next 0 c.operate-in-Pow.result c.in-Pow.is refl (runs_on k.stack c.requires.goes) stands (c.operate-in-Pow.ensures.makes chunk p.code)

pub returns-in-Idiv-clause-does : goal.returns-in-Idiv-clause-does
returns-in-Idiv-clause-does c = λ chunk p stands.
    let w = c.args.world.now in
    let k = c.args.machine.now in
    executes_done chunk p w w k.code k.stack c.operate-in-Idiv.new.machine.stack c.args.line.insn (Idiv c.in-Idiv.to c.in-Idiv.left c.in-Idiv.right) c.args.line.next 0 c.operate-in-Idiv.result c.in-Idiv.is refl (runs_on k.stack c.requires.goes) stands (c.operate-in-Idiv.ensures.makes chunk p.code)

pub returns-in-Minus-clause-does : goal.returns-in-Minus-clause-does
returns-in-Minus-clause-does c = λ chunk p stands.
    let w = c.args.world.now in
    let k = c.args.machine.now in
    executes_done chunk p w w k.code k.stack c.minus.new.machine.stack c.args.line.insn (Minus c.in-Minus.to c.in-Minus.operand) c.args.line.next 0 c.minus.result c.in-Minus.is refl (runs_on k.stack c.requires.goes) stands (c.minus.ensures.makes chunk p.code)

pub returns-in-Length-clause-does : goal.returns-in-Length-clause-does
returns-in-Length-clause-does c = λ chunk p stands.
    let w = c.args.world.now in
    let k = c.args.machine.now in
    executes_done chunk p w w k.code k.stack c.length.new.machine.stack c.args.line.insn (Length c.in-Length.to c.in-Length.operand) c.args.line.next 0 c.length.result c.in-Length.is refl (runs_on k.stack c.requires.goes) stands (c.length.ensures.makes chunk p.code)
