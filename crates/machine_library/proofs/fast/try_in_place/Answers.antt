use Rattle.std.proofs.Common.{map, sym, ◌∙◌}
use Rattle.value_model.specs.Parts.{meant}
use Rattle.luau_tables.proofs.WorldsKept.{may_use_on}
use Rattle.machine_meaning.specs.Effects.{under, numbered}
use Rattle.machine_meaning.specs.States.{Run}
use Rattle.machine_world.proofs.Going.{runs_on}
use Rattle.machine_world.proofs.Results.{if_ok}
use Rattle.machine_library.specs.Fast.{Led, Tried}
use Rattle.machine_library.proofs.InPlace.{led_past, led_tried}
use Rattle.machine_library.proofs.Kept.{machine_kept, imports_kept}
use Rattle.machine_library.proofs.fast.try_in_place.Goals as goal

pub environment-env-requires-clause-runs : goal.environment-env-requires-clause-runs
environment-env-requires-clause-runs c = runs_on c.args.machine.now.stack c.requires.goes

pub returns-then-not-marked-clause-leads : goal.returns-then-not-marked-clause-leads
returns-then-not-marked-clause-leads c =
    let w = c.args.world.now in
    let k = c.args.machine.now in
    led_past w k.code k.stack c.environment-env.result c.requires.sound c.requires.goes c.args.number (map (meant w.names) c.args.args.now) c.args.values.now.items
    (record { same = λ replies. c.environment-env.ensures.value Run replies; usable = c.environment-env.ensures.usable; mark = sym c.if-not-marked.true ∙ c.marked.ensures })

pub returns-clause-leads : goal.returns-clause-leads
returns-clause-leads c =
    let w = c.args.world.now in
    let w' = c.try_answer.new.world in
    let k = c.args.machine.now in
    let vs = map (meant w.names) c.args.args.now in
    let us = c.try_answer.new.values.items in
    if_ok (Tried w w' (under numbered c.args.number) vs us) (Led w w' k.code k.stack c.args.number vs us) c.try_answer.result
    (λ done tried. led_tried w k.code k.stack c.environment-env.result c.requires.sound c.requires.goes c.args.number vs w' us done
    (record { same = λ replies. c.environment-env.ensures.value Run replies; usable = c.environment-env.ensures.usable; mark = sym c.if-not-marked.false ∙ c.marked.ensures })
    c.try_answer.ensures.keeps c.requires.imports tried) c.try_answer.ensures.tried

pub returns-clause-sound : goal.returns-clause-sound
returns-clause-sound c = machine_kept c.args.world.now c.try_answer.new.world c.args.machine.now.stack c.try_answer.ensures.keeps c.requires.sound

pub returns-clause-imports : goal.returns-clause-imports
returns-clause-imports c = imports_kept c.args.world.now c.try_answer.new.world c.args.machine.now.code c.try_answer.ensures.keeps c.requires.imports

pub returns-clause-uses : goal.returns-clause-uses
returns-clause-uses c = λ v h. may_use_on c.args.world.now c.try_answer.new.world c.try_answer.ensures.keeps v h
