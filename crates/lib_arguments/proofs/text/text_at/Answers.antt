use Rattle.std.proofs.Common.{map, slice_get}
use Rattle.byte_text.specs.declared.fixed.StrId.{StrId}
use Rattle.value_model.specs.Arguments as row
use Rattle.value_model.specs.Parts.{meant, bytes_at}
use Rattle.value_model.specs.declared.error.Wanted.TheVariants.{OfKind}
use Rattle.value_model.specs.declared.kind.Kind.TheVariants as kind
use Rattle.lib_arguments.proofs.Looks.{look_on, look_ends}
use Rattle.lib_arguments.proofs.text.text_at.Goals as goal

pub returns-in-Ok-clause-checks : goal.returns-in-Ok-clause-checks
returns-in-Ok-clause-checks c =
    look_on {A = StrId} c.args.names.now c.text_from.new.names (λ x. bytes_at c.text_from.new.names x.0) (row.text_from c.args.f c.args.i) c.args.f c.args.i (OfKind kind.String) c.args.args.now c.in-Ok.v c.text_from.result c.in-Ok.ensures.there c.text_from.ensures.checks

pub returns-in-Err-clause-checks : goal.returns-in-Err-clause-checks
returns-in-Err-clause-checks c =
    let texts = c.args.names.now in
    look_ends {A = StrId} texts (λ x. bytes_at texts x.0) (row.text_from c.args.f c.args.i) (row.wanted_argument c.args.f c.args.i (OfKind kind.String) (slice_get (map (meant texts) c.args.args.now) c.args.i)) c.in-Err.e (c.in-Err.ensures.checks texts)
