use Rattle.std.proofs.Common.{◌≡◌, drop}
use Rattle.syntax_tree.specs.Names as spec
use Rattle.scopes.proofs.names.Resolver.all_visible.Given as goal

abbrev pub invariant-loop-name : goal.invariant-loop-name
invariant-loop-name l = spec.all_visible l.next (drop l.name-index l.names) l.self ≡ spec.all_visible l.fn.number l.names l.fn.self
