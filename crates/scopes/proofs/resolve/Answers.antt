use Rattle.std.proofs.Common.{◌∙◌, ap}
use Rattle.syntax_tree.specs.Names.{names_func}
use Rattle.scopes.proofs.Resolving.{all_faults, refuses}
use Rattle.scopes.proofs.resolve.Goals as goal

pub returns-in-Some : goal.returns-in-Some
returns-in-Some c =
    let tree = c.args.tree.now in
    let known = c.in_ok-function.ensures ∙ ap (names_func tree.main) c.new-resolver.ensures in
    let found = c.in_ok-bindings.ensures in
    let all = all_faults tree c.function.new.self c.in_ok-bindings.bindings c.in_ok-bindings.faults c.rules_func.new.faults c.size_func.new.faults known found.0 found.1 c.in_ok-rules_func.ensures c.in_ok-size_func.ensures in
    refuses tree c.from_fault.result c.in-Some.fault c.as_slice.result.now c.from_fault.ensures (c.as_slice.ensures ∙ all) c.in-Some.ensures
