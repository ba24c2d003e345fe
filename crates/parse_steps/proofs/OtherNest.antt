-- How deep an `else` nests that may lack.
use Rattle.std.specs.Prelude.{ℕ, List, map, Option, Some, None}
use Rattle.syntax_tree.specs.declared.tree.Stat.{Stat}
use Rattle.syntax_tree.specs.Lists.{greatest}
use Rattle.syntax_tree.specs.Nest.{nest_stat}

abbrev pub nest_other : Option (List Stat) → ℕ
nest_other None = 0
nest_other (Some block) = greatest (map nest_stat block)
