-- What a value is called: its name, which says as much of it as a text may tell, and its plain text.
use Rattle.std.specs.Prelude.{ℕ, zero, suc, Bool, true, false, List, [], ◌∷◌, ◌++◌, Option, Some, None, codes, decimal, slice_index_or, if◌then◌else◌}
use Rattle.std.specs.Fmt.{signed_decimal}
use Rattle.value_model.specs.declared.builtin.Builtin.{Builtin}
use Rattle.value_model.specs.declared.builtin.Builtin.TheVariants as builtin
use Rattle.value_model.specs.declared.kind.Kind.{Kind}
use Rattle.value_model.specs.declared.kind.Kind.TheVariants as kind
use Rattle.value_model.specs.declared.plain.Plain.{Plain}
use Rattle.value_model.specs.declared.plain.Plain.TheVariants as plain
use Rattle.value_model.specs.Values.{Bytes, TableRef, Shared, Own, Value, Nil, Boolean, Number, Text, Table, Closure, Native, Host, Wrap, Thread, kind_name}
use Rattle.value_model.specs.Store.{Store, Globals, same_table}
use Rattle.value_model.specs.Paths.{path_of}

pub data Name : Type 0 where
  Content : (v : Plain) → Name
  -- a library or host object
  Path : (k : Kind) → (path : Bytes) → Name
  Environment : Name
  EnvironmentMetatable : Name
  GlobalTable : Name
  StringMetatable : Name
  MainFunction : Name
  IpairsIterator : Name
  -- a function of `coroutine.wrap`, by its coroutine's ordinal
  WrapOf : (ordinal : ℕ) → Name
  -- an object that the script made, by its ordinal among those of its kind, from 1
  Made : (k : Kind) → (ordinal : ℕ) → Name

abbrev pub path_among : List (TableRef × Bytes) → TableRef → Bytes
path_among [] t = []
path_among (p ∷ ps) t = if same_table p.0 t then p.1 else path_among ps t

abbrev pub shared_name : Globals → TableRef → Name
shared_name g t =
    if same_table t g.table then GlobalTable
    else if same_table t g.string_meta then StringMetatable
    else Path kind.Table (path_among g.paths t)

-- the script's own tables count from the third on
abbrev pub own_name : ℕ → Name
own_name zero = Environment
own_name (suc zero) = EnvironmentMetatable
own_name (suc (suc n)) = Made kind.Table (suc n)

abbrev pub table_name : Globals → TableRef → Name
table_name g (Shared i) = shared_name g (Shared i)
table_name g (Own i) = own_name i

abbrev pub closure_name : ℕ → Name
closure_name zero = MainFunction
closure_name (suc n) = Made kind.Function (suc n)

abbrev pub library_name : Builtin → Name
library_name builtin.IpairsIterator = IpairsIterator
library_name b = Path kind.Function (path_of b)

unfoldable pub name_of : Globals → Value → Name
name_of g Nil = Content plain.Nil
name_of g (Boolean b) = Content (plain.Bool b)
name_of g (Number z) = Content (plain.Num z)
name_of g (Text bs) = Content (plain.Text bs)
name_of g (Table t) = table_name g t
name_of g (Closure i) = closure_name i
name_of g (Native b) = library_name b
name_of g (Host i) = Path kind.Function (slice_index_or g.hosts i [])
name_of g (Wrap i) = WrapOf i
name_of g (Thread i) = Made kind.Thread i

abbrev pub boolean_text : Bool → Bytes
boolean_text true = codes "true"
boolean_text false = codes "false"

abbrev pub content_text : Plain → Bytes
content_text plain.Nil = codes "nil"
content_text (plain.Bool b) = boolean_text b
content_text (plain.Num z) = signed_decimal z
content_text (plain.Text bs) = bs

-- the text of a value that is called so
unfoldable pub text_of : Name → Bytes
text_of (Content v) = content_text v
text_of (Path k p) = kind_name k ++ codes ": " ++ p
text_of Environment = codes "table: environment"
text_of EnvironmentMetatable = codes "table: environment metatable"
text_of GlobalTable = codes "table: global"
text_of StringMetatable = codes "table: string metatable"
text_of MainFunction = codes "function: 0"
text_of IpairsIterator = codes "function: ipairs iterator"
text_of (WrapOf n) = codes "function: wrap " ++ decimal n
text_of (Made k n) = kind_name k ++ codes ": " ++ decimal n

-- the text of a value where no `__tostring` is asked
abbrev pub plain_text : Store → Value → Bytes
plain_text s v = text_of (name_of s.globals v)

-- ---- values that are no objects

abbrev pub value_of : Plain → Value
value_of plain.Nil = Nil
value_of (plain.Bool b) = Boolean b
value_of (plain.Num z) = Number z
value_of (plain.Text bs) = Text bs

unfoldable pub as_plain : Value → Option Plain
as_plain Nil = Some plain.Nil
as_plain (Boolean b) = Some (plain.Bool b)
as_plain (Number z) = Some (plain.Num z)
as_plain (Text bs) = Some (plain.Text bs)
as_plain _ = None
