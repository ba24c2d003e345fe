use Rattle.lib_string.specs.Directives.{field_of}
use Rattle.lib_string.proofs.DirectiveRows.{no_byte_text}
use Rattle.lib_string.proofs.argument_text.byte_into.Goals as goal

pub returns-in-None : goal.returns-in-None
returns-in-None c = λ texts go.
    no_byte_text texts (field_of c.args.field) c.args.at c.args.number c.out_of_range.result c.in-None.ensures (c.out_of_range.ensures texts) go
