use Rattle.std.proofs.Common.{◌<◌, ◌^◌, [], length, ap, sym, ◌∙◌, pos, w64, arith}
use Rattle.std.proofs.lemmas.Int.{to_z_pos}
use Rattle.std.proofs.lemmas.Option.{get_or_from_slice_get}
use Rattle.lib_string.proofs.whole.length_of.Goals as goal

pub returns : goal.returns
returns c =
    let short : length c.bytes.result.now < 2 ^ 53 = c.requires.world.own.interned.short c.args.text.0 c.bytes.result.now c.bytes.ensures.text in
    c.whole.ensures ∙ to_z_pos w64 (length c.bytes.result.now) (omega arith)
    ∙ ap (λ bs. pos (length bs)) (sym (get_or_from_slice_get c.args.world.now.names c.args.text.0 c.bytes.result.now [] c.bytes.ensures.text))
