use Rattle.value_model.specs.Arguments as row
use Rattle.value_model.specs.Parts.{meant}
use Rattle.value_model.specs.declared.error.Wanted.TheVariants.{OfKind}
use Rattle.value_model.specs.declared.kind.Kind.TheVariants as kind
use Rattle.std.proofs.Common.{map, slice_get}
use Rattle.lib_arguments.proofs.Looks.{look_on, look_ends}
use Rattle.lib_arguments.proofs.number.number_at.Goals as goal

pub returns-in-Ok : goal.returns-in-Ok
returns-in-Ok c =
    let texts = c.args.names.now in
    look_on texts texts (λ z. z) (row.number_from c.args.f c.args.i) c.args.f c.args.i (OfKind kind.Number) c.args.args.now c.in-Ok.v c.number_from.result c.in-Ok.ensures.there c.number_from.ensures

pub returns-in-Err : goal.returns-in-Err
returns-in-Err c =
    let texts = c.args.names.now in
    look_ends texts (λ z. z) (row.number_from c.args.f c.args.i) (row.wanted_argument c.args.f c.args.i (OfKind kind.Number) (slice_get (map (meant texts) c.args.args.now) c.args.i)) c.in-Err.e (c.in-Err.ensures.checks texts)
