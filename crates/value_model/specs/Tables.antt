-- Tables.
use Rattle.std.specs.Prelude.{ℕ, ℤ, Bool, true, false, not, nat_eq, List, Option, Result, Ok, Err, if◌then◌else◌}
use Rattle.std.specs.Ordering.{int_eq}
use Rattle.std.specs.Str.{bytes_eq}
use Rattle.value_model.specs.Pairs as pairs
use Rattle.value_model.specs.Values.{Value, Nil, Boolean, Number, Text, Table, Closure, Native, Host, Wrap, Thread}
use Rattle.value_model.specs.Errors.{RunError, ReadonlyTable, NilKey}
use Rattle.value_model.specs.Store.{TableOf, same_table}
use Rattle.value_model.specs.contracts.builtin.BuiltinPartialEq.TheImpl.{ghosts}

abbrev pub same_boolean : Bool → Bool → Bool
same_boolean true b = b
same_boolean false b = not b

-- Whether two values are one: of one kind, and of one content or one object. Nothing is converted: a number is no text.
unfoldable pub same : Value → Value → Bool
same Nil Nil = true
same (Boolean a) (Boolean b) = same_boolean a b
same (Number a) (Number b) = int_eq a b
same (Text a) (Text b) = bytes_eq a b
same (Table a) (Table b) = same_table a b
same (Closure a) (Closure b) = nat_eq a b
same (Native a) (Native b) = ghosts.eq a b
same (Host a) (Host b) = nat_eq a b
same (Wrap a) (Wrap b) = nat_eq a b
same (Thread a) (Thread b) = nat_eq a b
same _ _ = false

abbrev pub is_nil : Value → Bool
is_nil Nil = true
is_nil _ = false

-- the value of the pair with that key, else nil
unfoldable pub get : TableOf → Value → Value
get t key = pairs.value_under same is_nil Nil t.entries key

-- the value under a whole number
abbrev pub item : TableOf → ℤ → Value
item t k = get t (Number k)

-- a value is written, whatever the frozen bit says; the key is not nil
unfoldable pub put : TableOf → Value → Value → TableOf
put t key v = record t { entries = pairs.written same is_nil Nil t.entries key v }

-- A value is written in its place, or under a new key at the end. A frozen table is refused before a nil key.
unfoldable pub set : TableOf → Value → Value → Result TableOf RunError
set t key v = if t.frozen then Err ReadonlyTable else if is_nil key then Err NilKey else Ok (put t key v)

-- values under the numbers from one on
abbrev pub put_all : TableOf → (from : ℤ) → List Value → TableOf
put_all t k vs = record t { entries = pairs.all_written same is_nil Nil (λ z. Number z) t.entries k vs }

-- The first pair behind the key whose value is not nil, where there is one; from the front for nil. A key that was never inserted
-- has no answer.
unfoldable pub next_entry : TableOf → Value → Option (Option (Value × Value))
next_entry t key = pairs.next_entry same is_nil Nil t.entries key

-- The least number from 0 on behind which there is nil. It is at most the number of entries.
unfoldable pub border : TableOf → ℕ
border t = pairs.border same is_nil Nil (λ z. Number z) t.entries
