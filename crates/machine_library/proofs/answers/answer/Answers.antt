use Rattle.std.proofs.Common.{map}
use Rattle.value_model.specs.Parts.{meant}
use Rattle.luau_tables.specs.Answers.{raised_by}
use Rattle.machine_library.proofs.Answering.{core_asks, strings_ask}
use Rattle.machine_library.proofs.answers.answer.Goals as goal

pub returns-in-Core-clause-asks : goal.returns-in-Core-clause-asks
returns-in-Core-clause-asks c =
    let vs = map (meant c.args.world.now.names) c.args.args.now in
    core_asks c.args.world.now c.call.new.world c.args.results.now.items c.call.new.results.items (raised_by c.args.builtin vs) c.args.builtin vs c.call.result c.call.ensures.answered c.call.ensures.at_once

pub returns-in-Strings-clause-asks : goal.returns-in-Strings-clause-asks
returns-in-Strings-clause-asks c =
    let d = c.call-in-Strings in
    let vs = map (meant c.args.world.now.names) c.args.args.now in
    strings_ask c.args.world.now d.new.world c.args.results.now.items d.new.results.items (raised_by c.args.builtin vs) c.args.builtin vs d.result d.ensures.answered d.ensures.at_once
