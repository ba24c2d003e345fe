-- The paths by which library functions are called.
use Rattle.std.specs.Prelude.{[], ◌∷◌, codes, nat_eq, if◌then◌else◌}
use Rattle.std.specs.List.{list_any}
use Rattle.value_model.specs.declared.builtin.Builtin.{Builtin}
use Rattle.value_model.specs.declared.builtin.Builtin.TheVariants as builtin
use Rattle.value_model.specs.Values.{Bytes}

-- the keys from the global table on, with points between them. The iterator of `ipairs` stands in no table
abbrev pub path_of : Builtin → Bytes
path_of builtin.Print = codes "print"
path_of builtin.Type = codes "type"
path_of builtin.Typeof = codes "typeof"
path_of builtin.Tostring = codes "tostring"
path_of builtin.Tonumber = codes "tonumber"
path_of builtin.Assert = codes "assert"
path_of builtin.Error = codes "error"
path_of builtin.Pcall = codes "pcall"
path_of builtin.Xpcall = codes "xpcall"
path_of builtin.Select = codes "select"
path_of builtin.Next = codes "next"
path_of builtin.Pairs = codes "pairs"
path_of builtin.Ipairs = codes "ipairs"
path_of builtin.IpairsIterator = codes "ipairs iterator"
path_of builtin.Rawget = codes "rawget"
path_of builtin.Rawset = codes "rawset"
path_of builtin.Rawequal = codes "rawequal"
path_of builtin.Rawlen = codes "rawlen"
path_of builtin.Getmetatable = codes "getmetatable"
path_of builtin.Setmetatable = codes "setmetatable"
path_of builtin.Getfenv = codes "getfenv"
path_of builtin.Setfenv = codes "setfenv"
path_of builtin.MathAbs = codes "math.abs"
path_of builtin.MathCeil = codes "math.ceil"
path_of builtin.MathFloor = codes "math.floor"
path_of builtin.MathRound = codes "math.round"
path_of builtin.MathSign = codes "math.sign"
path_of builtin.MathMax = codes "math.max"
path_of builtin.MathMin = codes "math.min"
path_of builtin.MathClamp = codes "math.clamp"
path_of builtin.StringByte = codes "string.byte"
path_of builtin.StringChar = codes "string.char"
path_of builtin.StringLen = codes "string.len"
path_of builtin.StringSub = codes "string.sub"
path_of builtin.StringLower = codes "string.lower"
path_of builtin.StringUpper = codes "string.upper"
path_of builtin.StringRep = codes "string.rep"
path_of builtin.StringReverse = codes "string.reverse"
path_of builtin.StringSplit = codes "string.split"
path_of builtin.StringFormat = codes "string.format"
path_of builtin.TableInsert = codes "table.insert"
path_of builtin.TableRemove = codes "table.remove"
path_of builtin.TableConcat = codes "table.concat"
path_of builtin.TableUnpack = codes "table.unpack"
path_of builtin.TablePack = codes "table.pack"
path_of builtin.TableCreate = codes "table.create"
path_of builtin.TableFind = codes "table.find"
path_of builtin.TableClear = codes "table.clear"
path_of builtin.TableClone = codes "table.clone"
path_of builtin.TableFreeze = codes "table.freeze"
path_of builtin.TableIsfrozen = codes "table.isfrozen"
path_of builtin.TableMove = codes "table.move"
path_of builtin.TableSort = codes "table.sort"
path_of builtin.CoroutineCreate = codes "coroutine.create"
path_of builtin.CoroutineResume = codes "coroutine.resume"
path_of builtin.CoroutineYield = codes "coroutine.yield"
path_of builtin.CoroutineStatus = codes "coroutine.status"
path_of builtin.CoroutineWrap = codes "coroutine.wrap"
path_of builtin.CoroutineIsyieldable = codes "coroutine.isyieldable"
path_of builtin.CoroutineRunning = codes "coroutine.running"
path_of builtin.CoroutineClose = codes "coroutine.close"

-- the last name of a path: what stands behind its last point
abbrev pub last_name : Bytes → Bytes
last_name [] = []
last_name (b ∷ bs) = if list_any (nat_eq 46) (b ∷ bs) then last_name bs else b ∷ bs

abbrev pub name_in_errors : Builtin → Bytes
name_in_errors b = last_name (path_of b)
