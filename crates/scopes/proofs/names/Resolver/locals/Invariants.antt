use Rattle.std.proofs.Common.{◌≡◌, drop}
use Rattle.syntax_tree.specs.Names as spec
use Rattle.scopes.proofs.names.Resolver.locals.Given as goal

abbrev pub invariant-loop-name : goal.invariant-loop-name
invariant-loop-name l = spec.locals (drop l.name-index l.names) l.self ≡ spec.locals l.names l.fn.self
