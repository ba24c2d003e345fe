use Rattle.std.proofs.Common.{◌≡◌, ◌≤◌, ◌*◌, ◌^◌, take}
use Rattle.std.specs.List.{sum_by}
use Rattle.value_arena.specs.Objects.{object_count}
use Rattle.value_arena.proofs.objects.count_all.Given as goal

abbrev pub invariant-loop-objects : goal.invariant-loop-objects
invariant-loop-objects l =
    (l.count ≡ sum_by object_count (take l.objects-index l.fn.owners))
    × (l.count ≤ l.objects-index * 2 ^ 34)
