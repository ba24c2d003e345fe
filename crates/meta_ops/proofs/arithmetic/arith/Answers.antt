use Rattle.std.proofs.Common.{sym, subst}
use Rattle.value_model.specs.Choices as choice
use Rattle.value_model.specs.Parts.{meant}
use Rattle.value_model.specs.declared.operator.ArithOp.{ArithOp}
use Rattle.meta_ops.specs.Outcomes.{IsChosen}
use Rattle.meta_ops.proofs.OperatorsKept.{minus_chosen, of_two_chosen}
use Rattle.meta_ops.proofs.arithmetic.arith.Goals as goal

pub returns-in-Unm : goal.returns-in-Unm
returns-in-Unm c =
    λ w own may.
    let P : ArithOp → Type 0 = λ o. IsChosen c.args.names.now c.args.globals.now c.args.arena.now w (choice.Arith o (meant c.args.names.now c.args.a) (meant c.args.names.now c.args.b)) c.minus.result 0 in
    subst P (sym c.in-Unm.is) (minus_chosen c.args.names.now c.args.globals.now c.args.arena.now w own c.args.a c.args.b may.0 c.minus.result c.minus.ensures)

pub returns-in_default : goal.returns-in_default
returns-in_default c =
    λ w own may.
    of_two_chosen c.args.names.now c.args.globals.now c.args.arena.now w own c.args.op c.args.a c.args.b c.in_default.not-Unm may.0 may.1 c.of_two.result c.of_two.ensures
