use Rattle.std.proofs.Common.{map, ◌∙◌}
use Rattle.value_model.specs.Parts.{meant}
use Rattle.lib_core.proofs.TextRows.{prints_plain, prints_handled}
use Rattle.lib_core.proofs.texts.print_one.Goals as goal

pub returns-in_ok-add_plain-in-Nil : goal.returns-in_ok-add_plain-in-Nil
returns-in_ok-add_plain-in-Nil c =
    let w = c.args.world.now in
    prints_plain w (map (meant w.names) c.args.args.now) c.args.at (meant w.names c.args.v.now) c.tostring_of.result c.args.text.now.items c.add_tab.new.text.items c.add_plain.new.text.items
    c.tostring_of.ensures.meant c.in-Nil.is c.in_ok-add_tab.ensures c.in_ok-add_plain-in-Nil.ensures.ok

pub returns-in_ok-call-in_default : goal.returns-in_ok-call-in_default
returns-in_ok-call-in_default c =
    let w = c.args.world.now in
    prints_handled w c.args.args.now c.args.at c.args.v.now c.tostring_of.result c.args.text.now.items c.as_slice.result.now c.in_ok-call-in_default.call
    c.tostring_of.ensures.meant c.in_default.not-Nil (c.as_slice.ensures.value ∙ c.in_ok-add_tab.ensures) c.in_ok-call-in_default.ensures c.tostring_of.ensures.usable c.requires.v c.requires.args c.add_tab.new.text.items
