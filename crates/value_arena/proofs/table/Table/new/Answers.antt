use Rattle.std.proofs.Common.{◌≡◌, [], length, ◌≤◌, refl, sym, subst, rules, arith}
use Rattle.value_arena.specs.Tables as spec
use Rattle.value_arena.proofs.table.Table.new.Goals as goal

pub invariant_of-result : goal.invariant_of-result
unfolding spec.border_of
invariant_of-result c =
    let none : c.new.result.entries ≡ [] = search rules in
    subst (λ es. (0 ≡ spec.border_of es) × (length es ≤ spec.most_entries) × spec.HasKeys es) (sym none) (refl, omega arith, tt)
