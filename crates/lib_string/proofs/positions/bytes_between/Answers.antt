use Rattle.std.proofs.Common.{length, arith, sym, ◌∙◌, ◌<ℤ◌, ◌<◌, ◌^◌}
use Rattle.std.proofs.lemmas.Int.{ints, clamps}
use Rattle.value_model.specs.StringRows.{first_position, last_position}
use Rattle.lib_string.proofs.Spans.{nothing_between}
use Rattle.lib_string.proofs.positions.bytes_between.Goals as goal

pub returns-then-last-first : goal.returns-then-last-first
returns-then-last-first c =
    let n = length c.args.bytes.now in
    let short : n < 2 ^ 53 = c.requires in
    let after : last_position n c.args.j <ℤ first_position n c.args.i = omega (arith, ints, clamps) in
    c.as_slice.ensures ∙ sym (nothing_between c.args.bytes.now c.args.i c.args.j after)
