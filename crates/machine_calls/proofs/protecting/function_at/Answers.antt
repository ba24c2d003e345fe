use Rattle.std.proofs.Common.{map, slice_get}
use Rattle.value_model.specs.Arguments as row
use Rattle.value_model.specs.Parts.{meant}
use Rattle.value_model.specs.declared.error.Wanted.TheVariants.{OfKind}
use Rattle.value_model.specs.declared.kind.Kind.TheVariants as kind
use Rattle.lib_arguments.proofs.Looks.{look_on, look_ends}
use Rattle.machine_calls.proofs.protecting.function_at.Goals as goal

pub returns-in-Ok-clause-checks : goal.returns-in-Ok-clause-checks
returns-in-Ok-clause-checks c =
    λ texts. look_on texts texts (meant texts) (row.function_from c.args.f c.args.i) c.args.f c.args.i (OfKind kind.Function) c.args.args.now c.in-Ok.v c.function_from.result c.in-Ok.ensures.there (c.function_from.ensures.checks texts)

pub returns-in-Err-clause-checks : goal.returns-in-Err-clause-checks
returns-in-Err-clause-checks c =
    λ texts. look_ends texts (meant texts) (row.function_from c.args.f c.args.i) (row.wanted_argument c.args.f c.args.i (OfKind kind.Function) (slice_get (map (meant texts) c.args.args.now) c.args.i)) c.in-Err.e (c.in-Err.ensures.checks texts)
