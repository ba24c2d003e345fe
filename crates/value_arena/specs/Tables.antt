-- What a table is: its entries in the order in which their keys came, its metatable, and two marks.
use Rattle.std.specs.Prelude.{ℕ, ℤ, Bool, true, false, List, [], Option, None, ◌^◌, position}
use Rattle.std.specs.List.{AllByRecursion}
use Rattle.std.specs.Map.{keys_of}
use Rattle.whole_num.specs.Whole.{IsWhole}
use Rattle.indexmap.specs.IndexMap.{set_value_at}
use Rattle.value_model.specs.Pairs as pairs
use Rattle.value_model.specs.declared.ids.TableId.{TableId}
use Rattle.value_model.specs.declared.value.Value.{Value}
use Rattle.value_model.specs.declared.value.Value.TheVariants.{Nil, Num}
use Rattle.value_model.specs.contracts.value.ValuePartialEq.TheImpl.{ghosts}

-- whether two values are one
abbrev pub same : Value → Value → Bool
same = ghosts.eq

abbrev pub is_nil : Value → Bool
is_nil Nil = true
is_nil _ = false

abbrev pub number : ℤ → Value
number z = Num z

abbrev pub Entries : Type 0
Entries = List (Value × Value)

pub record TableView : Type 0 where
  pub entries : Entries
  pub meta : Option TableId
  pub is_frozen : Bool
  -- the safe mark of an environment
  pub is_marked : Bool

abbrev pub no_table : TableView
no_table = record { entries = []; meta = None; is_frozen = false; is_marked = false }

-- a table has so many entries at most
abbrev pub most_entries : ℕ
most_entries = 2 ^ 53

-- a key is never nil, and one that is a number is a whole number of the language
abbrev pub IsKey : Value → Type 0
IsKey Nil = ⊥
IsKey (Num z) = IsWhole z
IsKey key = Unit {0}

abbrev pub HasKeys : Entries → Type 0
HasKeys es = AllByRecursion (λ e. IsKey e.0) es

-- the place of a key
abbrev pub place_of : Value → Entries → Option ℕ
place_of key es = position (same key) (keys_of es)

-- the entries with another value at a place
abbrev pub with_value : Entries → ℕ → Value → Entries
with_value es place v = set_value_at es place v

-- the value under a key, else nil
unfoldable pub value_in : Entries → Value → Value
value_in es key = pairs.value_under same is_nil Nil es key

-- the least number from 0 on behind which there is nil
unfoldable pub border_of : Entries → ℕ
border_of es = pairs.border same is_nil Nil number es
