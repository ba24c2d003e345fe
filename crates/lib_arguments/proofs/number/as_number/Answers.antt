use Rattle.lib_arguments.proofs.Found.{number_kept, text_read, no_number}
use Rattle.lib_arguments.proofs.number.as_number.Goals as goal

pub returns-in-Num : goal.returns-in-Num
returns-in-Num c = number_kept c.args.names.now c.args.v.now c.in-Num.number c.in-Num.is

pub returns-in-Str : goal.returns-in-Str
returns-in-Str c = text_read c.args.names.now c.args.v.now c.in-Str.id c.bytes.result.now c.read.result c.in-Str.is c.bytes.ensures.text c.read.ensures.value

pub returns-in_default : goal.returns-in_default
returns-in_default c = no_number c.args.names.now c.args.v.now c.in_default.not-Num c.in_default.not-Str
