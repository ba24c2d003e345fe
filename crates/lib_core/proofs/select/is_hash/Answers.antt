use Rattle.std.proofs.Common.{codes, ◌∙◌, ap}
use Rattle.std.specs.Str.{bytes_eq}
use Rattle.lib_core.proofs.SelectRows.{text_same, no_text_same}
use Rattle.lib_core.proofs.select.is_hash.Goals as goal

pub returns-in-Str : goal.returns-in-Str
returns-in-Str c =
    text_same c.args.names.now c.args.v.now c.in-Str.id c.bytes.result.now (codes "#") c.eq.result c.in-Str.is c.bytes.ensures.text
    (c.eq.ensures ∙ ap (bytes_eq c.bytes.result.now) c.as_slice.ensures)

pub returns-in_default : goal.returns-in_default
returns-in_default c = no_text_same c.args.names.now c.args.v.now (codes "#") c.in_default.not-Str
