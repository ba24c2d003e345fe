use Rattle.std.proofs.lemmas.Option.{slice_get_within}
use Rattle.lib_arguments.proofs.RowsRun.{used_at}
use Rattle.lib_string.specs.Directives.{field_of}
use Rattle.lib_string.proofs.DirectiveRows.{handler_fills, plain_fills}
use Rattle.lib_string.proofs.asking.text_into.Goals as goal

pub returns-in-Err-clause-fills : goal.returns-in-Err-clause-fills
returns-in-Err-clause-fills c = λ go. c.in-Err.ensures.checks c.args.world.now.names _

pub tostring_of-requires-clause-v : goal.tostring_of-requires-clause-v
tostring_of-requires-clause-v c = used_at c.args.world.now c.args.args.now c.args.at c.in-Ok.value c.requires.args c.in-Ok.ensures.there

pub returns-in-Ok-plain_text_into-clause-fills : goal.returns-in-Ok-plain_text_into-clause-fills
returns-in-Ok-plain_text_into-clause-fills c =
    let w = c.args.world.now in
    plain_fills w c.args.args.now c.args.at c.in-Ok.value (c.in-Ok.ensures.checks w.names) c.args.out.now.items c.plain_text_into.new.out.items (field_of c.args.field)
    c.tostring_of.result c.tostring_of.ensures.meant c.in-Nil.is c.in-Ok-plain_text_into.ensures

pub returns-in-Ok-plain_text_into-clause-there : goal.returns-in-Ok-plain_text_into-clause-there
returns-in-Ok-plain_text_into-clause-there c = slice_get_within c.args.args.now c.args.at c.in-Ok.value c.in-Ok.ensures.there

pub returns-in_default : goal.returns-in_default
returns-in_default c =
    let w = c.args.world.now in
    record {
      fills = handler_fills w c.args.args.now c.args.at c.in-Ok.value (c.in-Ok.ensures.checks w.names) c.args.out.now.items (field_of c.args.field) c.tostring_of.result
          c.tostring_of.ensures.usable (used_at w c.args.args.now c.args.at c.in-Ok.value c.requires.args c.in-Ok.ensures.there) c.tostring_of.ensures.meant c.in_default.not-Nil;
      there = slice_get_within c.args.args.now c.args.at c.in-Ok.value c.in-Ok.ensures.there;
    }
