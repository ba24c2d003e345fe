-- The global names.
use Rattle.std.specs.Prelude.{nat_eq, if◌then◌else◌}
use Rattle.byte_text.specs.declared.fixed.StrId.{StrId}
use Rattle.byte_text.specs.declared.fixed.TheConstants.StrId as fixed
use Rattle.built_values.specs.declared.value.Value.{Value}
use Rattle.built_values.specs.declared.value.Value.TheVariants.{Nil, Print}

-- the number of the text `print` in every interner
abbrev pub print_name : StrId
print_name = fixed.PRINT

-- the value of a global name: there is only `print`
abbrev pub global : StrId → Value
global x = if nat_eq x.0 print_name.0 then Print else Nil
