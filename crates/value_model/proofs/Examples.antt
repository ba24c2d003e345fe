-- What examples of calls are made of.
use Rattle.std.proofs.Common.{ℕ, pos, suc, true, false, List, [], ◌++◌}
use Rattle.value_model.specs.declared.builtin.Builtin.{Builtin}
use Rattle.whole_num.specs.declared.arithmetic.Stop.{Stop}
use Rattle.value_model.specs.Values.{Bytes, Value, Boolean, Number, Text, Table, Own}
use Rattle.value_model.specs.Store.{Store, TableOf, empty_table, table_at}
use Rattle.value_model.specs.Tables.{put_all}
use Rattle.value_model.specs.Errors.{error_text}
use Rattle.value_model.specs.Waits.{Origin}
use Rattle.value_model.specs.Answers.{LibAnswer, Answers, PrintsLine, ErrsWith, RaisesValue, HaltsWith, CallsBack, Moves, OnEnvironment, CoMove, EnvironmentUse}
use Rattle.value_model.specs.Library.{lib}
use Rattle.value_model.specs.Fresh.{fresh, NoField}

abbrev pub n : ℕ → Value
n k = Number (pos k)

abbrev pub t : Bytes → Value
t bytes = Text bytes

abbrev pub yes : Value
yes = Boolean true

abbrev pub no : Value
no = Boolean false

abbrev pub nothing : List Value
nothing = []

abbrev pub start : Store
start = fresh NoField

-- the start of a script with these tables besides, and the value of one of them, from 0
abbrev pub tables : List TableOf → Store
tables ts = record start { tables = start.tables ++ ts }

abbrev pub own : ℕ → Value
own k = Table (Own (suc (suc k)))

abbrev pub list_of : List Value → TableOf
list_of vs = put_all empty_table (pos 1) vs

-- what a call came to, the store aside
pub data Came : Type 0 where
  Gave : (vs : List Value) → Came
  Printed : (line : Bytes) → Came
  Failed : (text : Bytes) → Came
  Raised : (v : Value) → (origin : Origin) → Came
  Halted : (s : Stop) → Came
  Asked : (callee : Value) → (arguments : List Value) → Came
  Moved : (move : CoMove) → Came
  Looks : (wanted : EnvironmentUse) → Came

abbrev pub given : LibAnswer → Came
given (Answers vs s) = Gave vs
given (PrintsLine line) = Printed line
given (ErrsWith e) = Failed (error_text e)
given (RaisesValue v origin) = Raised v origin
given (HaltsWith s) = Halted s
given (CallsBack callee args w) = Asked callee args
given (Moves m) = Moved m
given (OnEnvironment u) = Looks u

-- a call at the start of a script with these tables besides
abbrev pub call : List TableOf → Builtin → List Value → Came
call ts f args = given (lib f args (tables ts))

-- the entries of one of the tables after a call
abbrev pub entries_of : LibAnswer → ℕ → List (Value × Value)
entries_of (Answers vs s) k = (table_at s (Own (suc (suc k)))).entries
entries_of a k = []

abbrev pub entries_after : List TableOf → Builtin → List Value → ℕ → List (Value × Value)
entries_after ts f args k = entries_of (lib f args (tables ts)) k
