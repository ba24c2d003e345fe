use Rattle.value_model.specs.Parts.{meant}
use Rattle.value_model.specs.Waits.{Elsewise}
use Rattle.machine_library.proofs.Answering.{goes_asking}
use Rattle.machine_library.proofs.answers.go_on.Goals as goal

pub returns-in-StringFormat-clause-asks : goal.returns-in-StringFormat-clause-asks
returns-in-StringFormat-clause-asks c =
    goes_asking c.args.world.now c.go_on.new.world c.args.results.now.items c.go_on.new.results.items Elsewise c.args.rest (meant c.args.world.now.names c.args.given) c.go_on.result c.requires.builtin c.requires.place c.go_on.ensures.answered

pub returns-in_default : goal.returns-in_default
returns-in_default c =
    let d = c.go_on-in_default in
    record {
      answered = d.ensures.answered;
      asks = goes_asking c.args.world.now d.new.world c.args.results.now.items d.new.results.items Elsewise c.args.rest (meant c.args.world.now.names c.args.given) d.result c.requires.builtin c.requires.place d.ensures.answered;
      err = d.ensures.err;
      keeps = d.ensures.keeps;
    }
