use Rattle.std.proofs.Common.{◌≡◌, drop, nat_lt}
use Rattle.std.specs.List.{list_all}
use Rattle.chunk_check.proofs.rules.has_smaller_children.Given as goal

abbrev pub invariant-loop-child : goal.invariant-loop-child
invariant-loop-child l = list_all (λ c. nat_lt c l.number) (drop l.child-index l.children) ≡ list_all (λ c. nat_lt c l.number) l.children
