use Rattle.std.proofs.Common.{◌+◌, ◌∙◌, ap, arith}
use Rattle.value_model.specs.Parts.{meant}
use Rattle.value_model.specs.Values as m
use Rattle.machine_world.specs.Parts.{register_value}
use Rattle.machine_world.proofs.Frames.{runs_with}
use Rattle.machine_world.proofs.Here.{here, read_here}
use Rattle.machine_flow.specs.Counts.{bounds_at, meant_bounds, no_bounds}
use Rattle.machine_flow.proofs.Rows.{lower}
use Rattle.machine_flow.proofs.Counting.{read_back, bounds_are, bounds_there}
use Rattle.machine_flow.proofs.counts.read_bounds.Goals as goal

pub behind-step_at-requires : goal.behind-step_at-requires
behind-step_at-requires c = lower c.args.machine.now.stack (c.args.base + 2) c.args.base (omega arith) c.requires.has

pub behind-index_at-requires : goal.behind-index_at-requires
behind-index_at-requires c = lower c.args.machine.now.stack (c.args.base + 2) c.behind-step_at.result (omega (arith, c.behind-step_at.ensures)) c.requires.has

pub read-first-requires-clause-has : goal.read-first-requires-clause-has
read-first-requires-clause-has c =
    lower c.args.machine.now.stack (c.args.base + 2) c.behind-index_at.result (omega (arith, c.behind-step_at.ensures, c.behind-index_at.ensures)) c.requires.has

pub read-last-requires-clause-has : goal.read-last-requires-clause-has
read-last-requires-clause-has c = lower c.args.machine.now.stack (c.args.base + 2) c.args.base (omega arith) c.requires.has

pub read-each-requires-clause-has : goal.read-each-requires-clause-has
read-each-requires-clause-has c = lower c.args.machine.now.stack (c.args.base + 2) c.behind-step_at.result (omega (arith, c.behind-step_at.ensures)) c.requires.has

pub returns : goal.returns
returns c = λ x replies.
    let w = c.args.world.now in
    let k = c.args.machine.now in
    let h = here w k.code k.stack replies (runs_with k.stack (c.args.base + 2) c.requires.has) in
    let first = meant w.names c.read-first.result in
    let last = meant w.names c.read-last.result in
    let each = meant w.names c.read-each.result in
    let is_first = read_here h m.Nil (register_value c.behind-index_at.result) x first (c.read-first.ensures.value x replies) in
    let is_last = read_here h m.Nil (register_value c.args.base) x last (c.read-last.ensures.value x replies) in
    let is_each = read_here h m.Nil (register_value c.behind-step_at.result) x each (c.read-each.ensures.value x replies) in
    read_back h no_bounds (bounds_at c.args.base) x (meant_bounds c.in_order.result)
    (ap meant_bounds c.in_order.ensures
    ∙ bounds_are first last each c.bound-index.result c.bound-limit.result c.bound-step.result c.bound-index.ensures c.bound-limit.ensures c.bound-step.ensures
    ∙ bounds_there c.args.base c.behind-step_at.result c.behind-index_at.result first last each h.frame h.world c.behind-step_at.ensures c.behind-index_at.ensures is_first is_last is_each)
