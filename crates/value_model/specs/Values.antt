-- Values as the meanings know them: a string is its bytes, and an object is known by who owns it and by its place there.
use Rattle.std.specs.Prelude.{ℕ, ℤ, Bool, true, false, List, codes}
use Rattle.value_model.specs.declared.builtin.Builtin.{Builtin}
use Rattle.value_model.specs.declared.kind.Kind.{Kind}
use Rattle.value_model.specs.declared.kind.Kind.TheVariants as kind

abbrev pub Bytes : Type 0
Bytes = List ℕ

-- a table: one that no script owns, as those of the library, or one of the script's own, by its place among these
pub data TableRef : Type 0 where
  Shared : (place : ℕ) → TableRef
  Own : (place : ℕ) → TableRef

pub data Value : Type 0 where
  Nil : Value
  Boolean : (b : Bool) → Value
  Number : (z : ℤ) → Value
  Text : (bytes : Bytes) → Value
  Table : (t : TableRef) → Value
  -- a Luau function, by its place among the script's
  Closure : (place : ℕ) → Value
  Native : (b : Builtin) → Value
  -- a host function, by its place among their names
  Host : (place : ℕ) → Value
  -- a function of `coroutine.wrap`, by the place of its coroutine
  Wrap : (place : ℕ) → Value
  Thread : (place : ℕ) → Value

unfoldable pub kind_of : Value → Kind
kind_of Nil = kind.Nil
kind_of (Boolean b) = kind.Boolean
kind_of (Number z) = kind.Number
kind_of (Text bs) = kind.String
kind_of (Table t) = kind.Table
kind_of (Thread i) = kind.Thread
kind_of _ = kind.Function

abbrev pub kind_name : Kind → Bytes
kind_name kind.Nil = codes "nil"
kind_name kind.Boolean = codes "boolean"
kind_name kind.Number = codes "number"
kind_name kind.String = codes "string"
kind_name kind.Table = codes "table"
kind_name kind.Function = codes "function"
kind_name kind.Thread = codes "thread"

-- nil and false are false, and all else is true
unfoldable pub is_true : Value → Bool
is_true Nil = false
is_true (Boolean b) = b
is_true _ = true
