-- Which functions of the library there are, and where.
use Rattle.std.specs.Prelude.{Bool, true, false}
use Rattle.value_model.specs.declared.builtin.Builtin.{Builtin}
use Rattle.value_model.specs.declared.builtin.Builtin.TheVariants as builtin
use Rattle.machine_library.specs.declared.homes.Home.{Home}
use Rattle.machine_library.specs.declared.homes.Home.TheVariants.{Core, Strings, Tables, Machine}

-- The functions of the global table, of `string`, and of `math` and `table`. The machine itself runs protected calls, those that move
-- between coroutines or look at them, and those of environments
abbrev pub home_of : Builtin → Home
home_of builtin.Print = Core
home_of builtin.Type = Core
home_of builtin.Typeof = Core
home_of builtin.Tostring = Core
home_of builtin.Tonumber = Core
home_of builtin.Assert = Core
home_of builtin.Error = Core
home_of builtin.Select = Core
home_of builtin.Next = Core
home_of builtin.Pairs = Core
home_of builtin.Ipairs = Core
home_of builtin.IpairsIterator = Core
home_of builtin.Rawget = Core
home_of builtin.Rawset = Core
home_of builtin.Rawequal = Core
home_of builtin.Rawlen = Core
home_of builtin.Getmetatable = Core
home_of builtin.Setmetatable = Core
home_of builtin.StringByte = Strings
home_of builtin.StringChar = Strings
home_of builtin.StringLen = Strings
home_of builtin.StringSub = Strings
home_of builtin.StringLower = Strings
home_of builtin.StringUpper = Strings
home_of builtin.StringRep = Strings
home_of builtin.StringReverse = Strings
home_of builtin.StringSplit = Strings
home_of builtin.StringFormat = Strings
home_of builtin.MathAbs = Tables
home_of builtin.MathCeil = Tables
home_of builtin.MathFloor = Tables
home_of builtin.MathRound = Tables
home_of builtin.MathSign = Tables
home_of builtin.MathMax = Tables
home_of builtin.MathMin = Tables
home_of builtin.MathClamp = Tables
home_of builtin.TableInsert = Tables
home_of builtin.TableRemove = Tables
home_of builtin.TableConcat = Tables
home_of builtin.TableUnpack = Tables
home_of builtin.TablePack = Tables
home_of builtin.TableCreate = Tables
home_of builtin.TableFind = Tables
home_of builtin.TableClear = Tables
home_of builtin.TableClone = Tables
home_of builtin.TableFreeze = Tables
home_of builtin.TableIsfrozen = Tables
home_of builtin.TableMove = Tables
home_of builtin.TableSort = Tables
home_of _ = Machine

-- the library answers calls of what does not stand with the machine
abbrev pub answers_in : Home → Bool
answers_in Machine = false
answers_in _ = true

abbrev pub is_library : Builtin → Bool
is_library f = answers_in (home_of f)
