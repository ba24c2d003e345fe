use Rattle.std.proofs.Common.{◌≡◌, ◌++◌, [], drop}
use Rattle.syntax_tree.specs.Bound.{used_from}
use Rattle.scopes.proofs.used.unused.Given as goal

abbrev pub invariant-loop-info : goal.invariant-loop-info
invariant-loop-info l = l.infos ++ used_from [] l.info-index (drop l.info-index l.locals) ≡ used_from [] 0 l.locals
