-- The rules of tables, on values as a program keeps them.
use Rattle.std.specs.Prelude.{ℕ, Option}
use Rattle.value_model.specs.Pairs as pairs
use Rattle.value_model.specs.declared.value.Value.{Value}
use Rattle.value_model.specs.declared.value.Value.TheVariants.{Nil}
use Rattle.value_arena.specs.Tables.{TableView, Entries, same, is_nil, value_in, border_of}

-- the value under a key, else nil
abbrev pub get : TableView → Value → Value
get t key = value_in t.entries key

-- the table with the value written: in the key's place, or under a new key at the end
unfoldable pub put : TableView → Value → Value → TableView
put t key v = record t { entries = pairs.written same is_nil Nil t.entries key v }

-- the first pair behind the key whose value is not nil; a key that is not nil and was never inserted has no answer
unfoldable pub next : TableView → Value → Option (Option (Value × Value))
next t key = pairs.next_entry same is_nil Nil t.entries key

abbrev pub first : Entries → Option (Value × Value)
first es = pairs.first_entry same is_nil Nil es

-- the least number from 0 on behind which there is nil
abbrev pub border : TableView → ℕ
border t = border_of t.entries
