-- Tables that are filled one entry after another.
use Rattle.std.specs.Prelude.{List, [], ◌∷◌}
use Rattle.value_model.specs.Values.{Bytes, Text, Native}
use Rattle.value_model.specs.Store.{TableOf}
use Rattle.value_model.specs.Tables.{put}
use Rattle.value_model.specs.declared.builtin.Builtin.{Builtin}

-- functions, each with the name under which it is written
abbrev pub Named : Type 0
Named = List (Bytes × Builtin)

abbrev pub with_functions : TableOf → Named → TableOf
with_functions t [] = t
with_functions t (f ∷ fs) = with_functions (put t (Text f.0) (Native f.1)) fs
