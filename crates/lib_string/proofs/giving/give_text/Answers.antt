use Rattle.lib_string.proofs.AddedTexts.{added}
use Rattle.lib_string.proofs.GivenValues.{text_given}
use Rattle.lib_string.proofs.giving.give_text.Goals as goal

pub returns-in-Ok-clause-runs : goal.returns-in-Ok-clause-runs
returns-in-Ok-clause-runs c =
    let a = c.args.world.now in
    let names = c.text_value.new.names in
    text_given a (record a { names = names }) c.requires (added a names c.requires c.text_value.ensures.extends c.text_value.ensures.texts)
    c.args.results.now.items c.give.new.results.items c.in-Ok.id c.args.bytes.now c.give.result c.in-Ok.ensures.text c.give.ensures
