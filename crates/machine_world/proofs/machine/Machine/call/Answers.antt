use Rattle.std.proofs.Common.{◌++◌, List, [], map, ◌∙◌, ap}
use Rattle.value_model.specs.Parts.{meant}
use Rattle.value_model.specs.declared.value.Value.{Value}
use Rattle.machine_world.specs.Parts.{part, read_of, list_of}
use Rattle.machine_world.proofs.Going.{call_makes}
use Rattle.machine_world.proofs.machine.Machine.call.Goals as goal

pub returns-clause-makes : goal.returns-clause-makes
returns-clause-makes c = λ chunk words.
    let w = c.args.world.now in
    let k = c.args.self.now in
    let all = c.in_ok-extend_from_slice.ensures.items ∙ ap (λ (l : List Value). l ++ c.list.result.now) c.requires.empty in
    call_makes w k.code k.stack c.wait.new.self.stack c.args.base c.args.arguments c.args.results c.args.next (meant w.names c.read-callee.result) (map (meant w.names) c.extend_from_slice.new.self.items)
    c.read-callee.ensures.value
    (λ x replies. ap (map (meant w.names)) all ∙ c.list.ensures.values x replies ∙ ap (λ n. read_of [] (list_of c.args.arguments n) (part w k.code k.stack x replies)) c.behind-first.ensures)
    c.wait.ensures.waits c.requires.goes
