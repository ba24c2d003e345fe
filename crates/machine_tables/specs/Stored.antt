-- Lists that are stored in tables.
use Rattle.std.specs.Prelude.{ℕ}
use Rattle.value_model.specs.Values.{Value}
use Rattle.machine_meaning.specs.Effects.{list_from, store_list}
use Rattle.machine_meaning.specs.Moves.{Row}

-- the values of registers into a value that is known
abbrev pub list_stored : (base : Value) → (count from key next : ℕ) → Row
list_stored base count from key next f fs w = store_list base key (list_from count from f w) next f fs w
