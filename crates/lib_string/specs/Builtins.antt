-- The functions of `string`.
use Rattle.value_model.specs.declared.builtin.Builtin.{Builtin}
use Rattle.value_model.specs.declared.builtin.Builtin.TheVariants.{StringByte, StringChar, StringLen, StringSub, StringLower, StringUpper, StringRep, StringReverse, StringSplit, StringFormat}

abbrev pub IsOfString : Builtin → Type 0
IsOfString StringByte = Unit {0}
IsOfString StringChar = Unit {0}
IsOfString StringLen = Unit {0}
IsOfString StringSub = Unit {0}
IsOfString StringLower = Unit {0}
IsOfString StringUpper = Unit {0}
IsOfString StringRep = Unit {0}
IsOfString StringReverse = Unit {0}
IsOfString StringSplit = Unit {0}
IsOfString StringFormat = Unit {0}
IsOfString _ = ⊥
