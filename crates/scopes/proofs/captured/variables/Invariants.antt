use Rattle.std.proofs.Common.{◌≡◌, ◌++◌, drop}
use Rattle.syntax_tree.specs.Captures.{variables}
use Rattle.scopes.proofs.captured.variables.Given as goal

abbrev pub invariant-loop-name : goal.invariant-loop-name
invariant-loop-name l = l.locals ++ variables (drop l.name-index l.names) ≡ variables l.names
