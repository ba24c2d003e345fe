use Rattle.std.proofs.Common.{sym, ◌∙◌, ap, subst}
use Rattle.value_model.specs.Parts.{meant}
use Rattle.value_model.specs.declared.value.Value.TheVariants as value
use Rattle.value_arena.specs.declared.closure.Closure.{Closure}
use Rattle.luau_tables.specs.Worlds.{MayUseIn}
use Rattle.machine_rows.proofs.Environments.{function_here, part_environment, usable_environment}
use Rattle.machine_rows.proofs.indexing.environment.Goals as goal

pub closure-closure-requires : goal.closure-closure-requires
closure-closure-requires c =
    function_here c.args.world.now c.args.machine.now.stack c.in-Some.frame.now c.in-Some-closure.id (sym c.in-Some.ensures) c.in-Some-closure.is c.requires.sound

pub returns-clause-value : goal.returns-clause-value
returns-clause-value c = λ x replies.
    let w = c.args.world.now in
    let k = c.args.machine.now in
    ap (λ (g : Closure). meant w.names (value.Table g.env)) c.closure-closure.ensures
    ∙ part_environment w k.code k.stack c.in-Some.frame.now c.in-Some-closure.id x replies (sym c.in-Some.ensures) c.in-Some-closure.is c.requires.sound

pub returns-clause-usable : goal.returns-clause-usable
returns-clause-usable c =
    let w = c.args.world.now in
    subst (λ (g : Closure). MayUseIn w (value.Table g.env)) (sym c.closure-closure.ensures)
    (usable_environment w c.args.machine.now.stack c.in-Some.frame.now c.in-Some-closure.id (sym c.in-Some.ensures) c.in-Some-closure.is c.requires.sound)
