use Rattle.std.proofs.Common.{sym, ◌∙◌, ap}
use Rattle.value_model.specs.Errors.{ForBound}
use Rattle.value_model.specs.Loops as loops
use Rattle.value_model.specs.Parts.{meant}
use Rattle.machine_flow.proofs.counts.bound.Goals as goal

pub returns-in-NotNumber : goal.returns-in-NotNumber
returns-in-NotNumber c = λ next.
    let v = meant c.args.names.now c.args.v in
    ap (λ q. loops.bound c.args.which v q next) (sym c.in-NotNumber.ensures) ∙ ap (λ k. loops.Refused (ForBound c.args.which k)) (c.kind.ensures c.args.names.now)
