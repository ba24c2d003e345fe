use Rattle.std.proofs.Common.{map, sym, ◌∙◌, ap, subst}
use Rattle.std.specs.List.{AllByRecursion}
use Rattle.value_model.specs.Parts.{meant}
use Rattle.luau_tables.specs.Worlds.{MayUseIn}
use Rattle.machine_meaning.specs.Effects as row
use Rattle.machine_meaning.specs.Moves.{inside, on, go}
use Rattle.machine_world.specs.Parts.{delivered}
use Rattle.machine_world.proofs.Delivering.{runs_place}
use Rattle.machine_flow.specs.Flow.{gone}
use Rattle.machine_flow.proofs.Steps.{runs_same, then, row_on}
use Rattle.machine_flow.proofs.Gathered.{results_are, all_as_many}
use Rattle.machine_flow.proofs.lists.give_list.Goals as goal

pub deliver-requires-clause-usable : goal.deliver-requires-clause-usable
deliver-requires-clause-usable c =
    let w = c.args.world.now in
    subst (AllByRecursion (MayUseIn w)) (sym (c.as_slice.ensures.value ∙ c.in_ok-adjust.ensures)) (all_as_many (MayUseIn w) c.args.count c.args.values.now.items (tt, tt) c.requires.usable)

pub go_on-requires-clause-runs : goal.go_on-requires-clause-runs
go_on-requires-clause-runs c =
    runs_same c.args.machine.now.stack c.deliver.new.self.stack c.in_ok-deliver.ensures.frames (runs_place c.args.machine.now.stack c.args.to c.requires.has)

pub returns-clause-makes : goal.returns-clause-makes
returns-clause-makes c =
    let w = c.args.world.now in
    let k = c.args.machine.now in
    let vs = c.args.values.now.items in
    let is = c.as_slice.ensures.value ∙ c.in_ok-adjust.ensures in
    row_on w w k.code k.stack c.go_on.new.machine.stack (row.results c.args.to c.args.count c.args.next (map (meant w.names) vs)) (delivered c.args.to (map (meant w.names) c.as_slice.result.now)) c.args.next (runs_place k.stack c.args.to c.requires.has)
    (then w w w k.code c.deliver.new.self.code k.stack c.deliver.new.self.stack c.go_on.new.machine.stack (delivered c.args.to (map (meant w.names) c.as_slice.result.now)) (gone c.args.next) c.deliver.ensures.code c.in_ok-deliver.ensures.delivered c.go_on.ensures.gone)
    (λ replies h. results_are w.names c.args.to c.args.count c.args.next vs h.frame h.others h.world
    ∙ ap (λ us. on (go c.args.next) (delivered c.args.to (map (meant w.names) us) (inside h.frame h.world)) h.others) (sym is))
