use Rattle.std.proofs.Common.{ap, sym, ◌∙◌}
use Rattle.std.specs.List.{sum_by}
use Rattle.value_arena.specs.Arenas as spec
use Rattle.value_arena.specs.Objects.{object_count}
use Rattle.value_arena.proofs.Padding.{count_padded}
use Rattle.value_arena.proofs.arena.Arena.objects.Goals as goal

pub returns : goal.returns
returns c =
    c.count_all.ensures ∙ ap (sum_by object_count) c.as_slice.ensures.value ∙ sym (count_padded c.self.inside.owners.items)
    ∙ ap (λ (a : spec.ArenaView). spec.objects_in a) c.self.view_is
