use Rattle.value_model.specs.Parts.{meant}
use Rattle.luau_tables.specs.Worlds.{store_in}
use Rattle.machine_loops.proofs.Starts.{function_asked, nothing_asked}
use Rattle.machine_loops.proofs.iterating.iteration.Goals as goal

pub returns-in-Closure-clause-meant : goal.returns-in-Closure-clause-meant
returns-in-Closure-clause-meant c =
    let w = c.args.world.now in
    function_asked w.names (store_in w) (meant w.names c.args.state) (meant w.names c.args.control) c.args.generator c.in-Closure.is

pub returns-in_default-clause-meant : goal.returns-in_default-clause-meant
returns-in_default-clause-meant c =
    let w = c.args.world.now in
    let d = c.in_default in
    nothing_asked w.names (store_in w) (meant w.names c.args.state) (meant w.names c.args.control) c.args.generator c.kind.result d.not-Table d.not-Closure
    d.not-Native d.not-Host d.not-Wrap (c.kind.ensures w.names)
