-- The functions of the global table that are called here.
use Rattle.value_model.specs.declared.builtin.Builtin.{Builtin}
use Rattle.value_model.specs.declared.builtin.Builtin.TheVariants as builtin

-- those that change nothing, and answer values or an error that is no raised value
abbrev pub IsReader : Builtin → Type 0
IsReader builtin.Tonumber = Unit {0}
IsReader builtin.Select = Unit {0}
IsReader builtin.Next = Unit {0}
IsReader builtin.Pairs = Unit {0}
IsReader builtin.Ipairs = Unit {0}
IsReader builtin.IpairsIterator = Unit {0}
IsReader builtin.Rawget = Unit {0}
IsReader builtin.Rawequal = Unit {0}
IsReader builtin.Rawlen = Unit {0}
IsReader builtin.Getmetatable = Unit {0}
IsReader _ = ⊥

abbrev pub IsCore : Builtin → Type 0
IsCore builtin.Print = Unit {0}
IsCore builtin.Tostring = Unit {0}
IsCore builtin.Assert = Unit {0}
IsCore builtin.Error = Unit {0}
IsCore builtin.Rawset = Unit {0}
IsCore builtin.Setmetatable = Unit {0}
IsCore builtin.Type = Unit {0}
IsCore builtin.Typeof = Unit {0}
IsCore f = IsReader f

-- those that ask for the texts of their arguments
abbrev pub IsAsker : Builtin → Type 0
IsAsker builtin.Print = Unit {0}
IsAsker builtin.Tostring = Unit {0}
IsAsker _ = ⊥
