use Rattle.std.proofs.Common.{drop, nat_eq}
use Rattle.std.specs.HashMap as hash
use Rattle.code_link.proofs.Placing.{Places}
use Rattle.code_link.proofs.linking.places_of.Given as goal

abbrev pub invariant-loop-item : goal.invariant-loop-item
invariant-loop-item l = Places l.items (drop l.item-index l.items) l.here (hash.get nat_eq l.places)
