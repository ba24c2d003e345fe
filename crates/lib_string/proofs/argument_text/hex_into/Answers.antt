use Rattle.std.proofs.Common.{rules, subst, ◌∙◌, w64, ◌^◌, ◌≤ℤ◌, pos, FitsSigned}
use Rattle.std.proofs.lemmas.Int.{to_z-of_z}
use Rattle.std.specs.Int.{FitsUnsignedBits}
use Rattle.lib_string.specs.Directives.{field_of}
use Rattle.lib_string.proofs.DirectiveRows.{no_hex_text}
use Rattle.lib_string.proofs.argument_text.hex_into.Goals as goal

pub returns-in-Err : goal.returns-in-Err
returns-in-Err c = λ texts go.
    let fits : FitsSigned w64 c.get.result = search rules in
    let same = to_z-of_z w64 c.get.result fits ∙ c.get.ensures.value in
    let out = subst (λ z. FitsUnsignedBits 64 z → ⊥) same c.in-Err.ensures in
    let small = subst (λ z. z ≤ℤ pos (2 ^ 53)) c.get.ensures.value c.get.ensures.range.1 in
    no_hex_text texts (field_of c.args.field) c.args.capital c.args.at c.args.number c.out_of_range.result go out small (c.out_of_range.ensures texts)
