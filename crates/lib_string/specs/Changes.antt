-- What is made of a whole text.
use Rattle.std.specs.Prelude.{map, reverse}
use Rattle.std.specs.Char.{to_ascii_lowercase, to_ascii_uppercase}
use Rattle.value_model.specs.Values.{Bytes}
use Rattle.value_model.specs.declared.builtin.Builtin.{Builtin}
use Rattle.value_model.specs.declared.builtin.Builtin.TheVariants.{StringLower, StringUpper}

-- by the functions that make one text of another
abbrev pub changed : Builtin → Bytes → Bytes
changed StringLower bs = map to_ascii_lowercase bs
changed StringUpper bs = map to_ascii_uppercase bs
changed f bs = reverse bs
