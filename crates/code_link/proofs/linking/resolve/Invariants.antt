use Rattle.std.proofs.Common.{drop, nat_eq}
use Rattle.std.specs.HashMap as hash
use Rattle.code_link.proofs.Placing.{Makes}
use Rattle.code_link.proofs.linking.resolve.Given as goal

abbrev pub invariant-loop-item : goal.invariant-loop-item
invariant-loop-item l = Makes (hash.get nat_eq l.places) l.items (drop l.item-index l.items) l.code.items
