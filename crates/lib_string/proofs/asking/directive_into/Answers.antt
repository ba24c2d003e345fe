use Rattle.std.proofs.Common.{sym, subst, ap}
use Rattle.value_model.specs.FormatRows as row
use Rattle.lib_string.specs.Directives.{field_of, form_of}
use Rattle.lib_string.specs.Formats.{Fills}
use Rattle.lib_string.proofs.DirectiveRows.{written_fills}
use Rattle.lib_string.proofs.asking.directive_into.Goals as goal

pub returns-in-Hex-clause-fills : goal.returns-in-Hex-clause-fills
returns-in-Hex-clause-fills c =
    let w = c.args.world.now in
    let args = c.args.args.now in
    let out = c.args.out.now.items in
    let out' = c.hex_at.new.out.items in
    let d = field_of c.args.field in
    let form = row.AsHex c.in-Hex.capital in
    subst (λ f. Fills w args c.args.at out out' d f c.written-in-Hex.result) (sym (ap form_of c.in-Hex.is))
    (subst (λ r. Fills w args c.args.at out out' d form r) (sym c.written-in-Hex.ensures) (written_fills w args c.args.at out out' d form c.hex_at.result c.hex_at.ensures.writes))
