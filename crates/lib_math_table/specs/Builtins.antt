-- The functions of `math` and `table`.
use Rattle.value_model.specs.declared.builtin.Builtin.{Builtin}
use Rattle.value_model.specs.declared.builtin.Builtin.TheVariants as builtin

-- the functions of `math`
abbrev pub IsMath : Builtin → Type 0
IsMath builtin.MathAbs = Unit {0}
IsMath builtin.MathCeil = Unit {0}
IsMath builtin.MathFloor = Unit {0}
IsMath builtin.MathRound = Unit {0}
IsMath builtin.MathSign = Unit {0}
IsMath builtin.MathMax = Unit {0}
IsMath builtin.MathMin = Unit {0}
IsMath builtin.MathClamp = Unit {0}
IsMath f = ⊥

-- the functions of `table`
abbrev pub IsTable : Builtin → Type 0
IsTable builtin.TableInsert = Unit {0}
IsTable builtin.TableRemove = Unit {0}
IsTable builtin.TableConcat = Unit {0}
IsTable builtin.TableUnpack = Unit {0}
IsTable builtin.TablePack = Unit {0}
IsTable builtin.TableCreate = Unit {0}
IsTable builtin.TableFind = Unit {0}
IsTable builtin.TableClear = Unit {0}
IsTable builtin.TableClone = Unit {0}
IsTable builtin.TableFreeze = Unit {0}
IsTable builtin.TableIsfrozen = Unit {0}
IsTable builtin.TableMove = Unit {0}
IsTable builtin.TableSort = Unit {0}
IsTable f = ⊥
