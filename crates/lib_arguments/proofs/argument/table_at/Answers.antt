use Rattle.value_model.specs.Arguments as row
use Rattle.value_model.specs.Parts.{meant, table_ref}
use Rattle.value_model.specs.declared.error.Wanted.TheVariants.{OfKind}
use Rattle.value_model.specs.declared.kind.Kind.TheVariants as kind
use Rattle.std.proofs.Common.{map, slice_get}
use Rattle.lib_arguments.proofs.Looks.{look_on, look_ends}
use Rattle.lib_arguments.proofs.argument.table_at.Goals as goal

pub returns-in-Ok-clause-checks : goal.returns-in-Ok-clause-checks
returns-in-Ok-clause-checks c =
    λ texts. look_on texts texts table_ref (row.table_from c.args.f c.args.i) c.args.f c.args.i (OfKind kind.Table) c.args.args.now c.in-Ok.v c.table_from.result c.in-Ok.ensures.there (c.table_from.ensures.checks texts)

pub returns-in-Err-clause-checks : goal.returns-in-Err-clause-checks
returns-in-Err-clause-checks c =
    λ texts. look_ends texts table_ref (row.table_from c.args.f c.args.i) (row.wanted_argument c.args.f c.args.i (OfKind kind.Table) (slice_get (map (meant texts) c.args.args.now) c.args.i)) c.in-Err.e (c.in-Err.ensures.checks texts)
