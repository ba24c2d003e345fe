-- Names of a host that are standard, or that stood before.
use Rattle.std.specs.Prelude.{ℕ, List, [], ◌∷◌, ◌++◌, map, codes, Option, Some, None, if◌then◌else◌}
use Rattle.std.specs.List.{list_any}
use Rattle.std.specs.Str.{bytes_eq}
use Rattle.value_model.specs.Fresh.{core_functions}
use Rattle.value_model.specs.Paths.{name_in_errors}
use Rattle.value_model.specs.Values.{Bytes}
use Rattle.frozen_libs.specs.HostForm.{TopName}

-- the names of the library in the global table
abbrev pub standard_names : List Bytes
standard_names = map name_in_errors core_functions ++ codes "math" ∷ codes "string" ∷ codes "table" ∷ codes "coroutine" ∷ []

-- the place of the first name that stood before, where these names stand before all
abbrev pub first_clash : List Bytes → List TopName → Option ℕ
first_clash before [] = None
first_clash before (f ∷ fs) = if list_any (bytes_eq f.1) before then Some f.0 else first_clash (before ++ f.1 ∷ []) fs
