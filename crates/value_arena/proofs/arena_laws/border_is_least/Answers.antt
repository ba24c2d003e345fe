use Rattle.value_arena.proofs.Borders.{border_found, is_border}
use Rattle.value_arena.proofs.arena_laws.border_is_least.Goals as goal

pub returns : goal.returns
returns c = record { filled = λ es. (border_found es).0; nil = λ es. (border_found es).1; only = is_border }
