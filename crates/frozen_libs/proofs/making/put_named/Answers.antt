use Rattle.std.proofs.Common.{length, arith}
use Rattle.std.proofs.lemmas.Option.{slice_get_within}
use Rattle.value_model.specs.Parts.{meant}
use Rattle.frozen_libs.proofs.Holding.{held_more}
use Rattle.frozen_libs.proofs.Filling.{named_put}
use Rattle.frozen_libs.proofs.Shared.{shared_more}
use Rattle.frozen_libs.proofs.making.put_named.Goals as goal

pub returns-clause-made : goal.returns-clause-made
unfolding meant
returns-clause-made c ts h k =
    let texts = c.args.names.now in
    let more = c.text_value.new.names in
    let extends = c.text_value.ensures.extends in
    named_put texts more c.put.new.arena ts c.args.t.place c.in_ok-id.id.0 c.args.name.now c.args.v extends c.in_ok-id.ensures.text k
    (c.in_ok-put.ensures.made more ts (c.text_value.ensures.texts c.requires.texts).distinct (held_more texts more c.args.arena.now ts extends h)
    (slice_get_within more c.in_ok-id.id.0 c.args.name.now c.in_ok-id.ensures.text) (shared_more texts more (length ts) (length ts) extends
    (omega arith) c.args.v k))
