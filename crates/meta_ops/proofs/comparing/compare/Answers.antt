use Rattle.std.proofs.Common.{sym, subst}
use Rattle.value_model.specs.Choices as choice
use Rattle.value_model.specs.Parts.{meant}
use Rattle.value_model.specs.declared.operator.CompareOp.{CompareOp}
use Rattle.meta_ops.specs.Outcomes.{IsChosen}
use Rattle.meta_ops.proofs.OperatorsKept.{equal_chosen, less_chosen, less_or_equal_chosen}
use Rattle.meta_ops.proofs.comparing.compare.Goals as goal

pub returns-in-Eq : goal.returns-in-Eq
returns-in-Eq c =
    λ w own may.
    let P : CompareOp → Type 0 = λ o. IsChosen c.args.names.now c.args.globals.now c.args.arena.now w (choice.Compare o (meant c.args.names.now c.args.a) (meant c.args.names.now c.args.b)) c.equal.result 0 in
    subst P (sym c.in-Eq.is) (equal_chosen c.args.names.now c.args.globals.now c.args.arena.now w own c.args.a c.args.b may.0 may.1 c.equal.result c.equal.ensures)

pub returns-in-Lt : goal.returns-in-Lt
returns-in-Lt c =
    λ w own may.
    let P : CompareOp → Type 0 = λ o. IsChosen c.args.names.now c.args.globals.now c.args.arena.now w (choice.Compare o (meant c.args.names.now c.args.a) (meant c.args.names.now c.args.b)) c.less.result 0 in
    subst P (sym c.in-Lt.is) (less_chosen c.args.names.now c.args.globals.now c.args.arena.now w own c.args.a c.args.b may.0 may.1 c.less.result c.less.ensures)

pub returns-in-Le : goal.returns-in-Le
returns-in-Le c =
    λ w own may.
    let P : CompareOp → Type 0 = λ o. IsChosen c.args.names.now c.args.globals.now c.args.arena.now w (choice.Compare o (meant c.args.names.now c.args.a) (meant c.args.names.now c.args.b)) c.less_or_equal.result 0 in
    subst P (sym c.in-Le.is) (less_or_equal_chosen c.args.names.now c.args.globals.now c.args.arena.now w own c.args.a c.args.b may.0 may.1 c.less_or_equal.result c.less_or_equal.ensures)
