-- Why a host file is refused.
use Rattle.std.specs.Prelude.{◌≡◌, List, Some, Ok, Err}
use Rattle.syntax_tree.specs.declared.tree.Tree.{Tree}
use Rattle.value_model.specs.Fresh.{HostFields}
use Rattle.value_model.specs.Values.{Bytes}
use Rattle.frozen_libs.specs.HostForm.{host_form}
use Rattle.frozen_libs.specs.Clashes.{standard_names, first_clash}
use Rattle.frozen_libs.specs.declared.error.HostErr.{HostErr}
use Rattle.frozen_libs.specs.declared.error.HostErr.TheVariants.{NotConstant, ClashName, OutOfMemory}

-- The form of the whole text goes before its names.
abbrev pub IsRefusal : (texts : List Bytes) → Tree → HostErr → Type 0
IsRefusal texts host (NotConstant at) = (host_form texts host).top ≡ Err at
IsRefusal texts host (ClashName at) = (fields : HostFields) × ((host_form texts host).top ≡ Ok fields) × (first_clash standard_names (host_form texts host).names ≡ Some at)
IsRefusal texts host OutOfMemory = Unit {0}
