-- The functions of `table`. All access is raw.
use Rattle.std.specs.Prelude.{ℕ, zero, suc, ℤ, pos, ◌+ℤ◌, int_lt, int_le, Bool, true, false, not, ◌&&◌, nat_le, List, [], ◌∷◌, ◌++◌, length, map, filter, replicate, Option, Some, None, codes, slice_get, if◌then◌else◌}
use Rattle.value_model.specs.declared.builtin.Builtin.TheVariants as builtin
use Rattle.whole_num.specs.declared.arithmetic.Stop.TheVariants.{OutOfRange}
use Rattle.value_model.specs.Values.{Bytes, TableRef, Value, Nil, Boolean, Number, Text, Table, kind_of}
use Rattle.value_model.specs.Errors.{ReadonlyTable, ProtectedMetatable, TooManyValues, StringTooLarge, InvalidElement, CompareLess}
use Rattle.value_model.specs.Store.{Store, TableOf, empty_table, table_at, with_table}
use Rattle.value_model.specs.Tables.{same, is_nil, item, put, put_all, border}
use Rattle.whole_num.specs.Whole.{is_whole}
use Rattle.value_model.specs.Metamethods.{as_text, longest_string, bytes_less}
use Rattle.value_model.specs.Answers.{LibAnswer, Answers, ErrsWith, HaltsWith}
use Rattle.value_model.specs.Arguments.{any_at, argument_or_nil, number_at, number_or, text_or, table_argument, table_from, out_of_range}
use Rattle.value_model.specs.CoreRows.{gives, is_protected}
use Rattle.value_model.specs.StringRows.{natural, count_between, most_values, new_table}

-- ---- refusals and effects

-- a frozen table is refused before any effect
abbrev pub unless_frozen : Store → TableRef → LibAnswer → LibAnswer
unless_frozen s t go = if (table_at s t).frozen then ErrsWith ReadonlyTable else go

-- a write under a whole number out of range stops the script, after all refusals
abbrev pub if_in_range : ℤ → LibAnswer → LibAnswer
if_in_range z go = if is_whole z then go else HaltsWith OutOfRange

-- a table is changed
abbrev pub changed : Store → TableRef → List Value → TableOf → LibAnswer
changed s t vs table = Answers vs (with_table s t table)

-- the values under so many numbers from one on
abbrev pub items : TableOf → ℤ → (count : ℕ) → List Value
items t k zero = []
items t k (suc n) = item t k ∷ items t (k +ℤ pos 1) n

-- the border, as a number
abbrev pub end_of : TableOf → ℤ
end_of t = pos (border t)

abbrev pub is_between : ℤ → ℤ → ℤ → Bool
is_between low z high = int_le low z && int_le z high

-- ---- `insert` and `remove`

-- a value is put in its place, and those from there on move up
abbrev pub with_inserted : TableOf → ℤ → Value → TableOf
with_inserted t k v = put (put_all t (k +ℤ pos 1) (items t k (count_between k (end_of t)))) (Number k) v

abbrev pub insert_at : Store → TableRef → Value → ℤ → LibAnswer
insert_at s t v k =
    if is_between (pos 1) k (end_of (table_at s t) +ℤ pos 1) then unless_frozen s t (if_in_range (end_of (table_at s t) +ℤ pos 1) (changed s t [] (with_inserted (table_at s t) k v)))
    else out_of_range builtin.TableInsert 1

abbrev pub append : Store → TableRef → Value → LibAnswer
append s t v =
    unless_frozen s t (if_in_range (end_of (table_at s t) +ℤ pos 1) (changed s t [] (put (table_at s t) (Number (end_of (table_at s t) +ℤ pos 1)) v)))

-- three arguments and more have a place
abbrev pub inserts : Store → TableRef → List Value → (third : Option Value) → LibAnswer
inserts s t args None = any_at builtin.TableInsert 1 args (append s t)
inserts s t args (Some v) = number_at builtin.TableInsert 1 args (insert_at s t v)

abbrev pub insert_row : List Value → Store → LibAnswer
insert_row args s = table_argument builtin.TableInsert 0 args (λ t. inserts s t args (slice_get args 2))

-- the values behind a place move down, and the last place has nil
abbrev pub without_item : TableOf → ℤ → TableOf
without_item t k = put (put_all t k (items t (k +ℤ pos 1) (count_between (k +ℤ pos 1) (end_of t)))) (Number (end_of t)) Nil

abbrev pub remove_at : Store → TableRef → ℤ → LibAnswer
remove_at s t k =
    unless_frozen s t (if is_between (pos 1) k (end_of (table_at s t)) then changed s t (item (table_at s t) k ∷ []) (without_item (table_at s t) k) else gives s Nil)

abbrev pub remove_row : List Value → Store → LibAnswer
remove_row args s =
    table_argument builtin.TableRemove 0 args (λ t. number_or builtin.TableRemove 1 args (end_of (table_at s t)) (remove_at s t))

-- ---- `concat`

abbrev pub joined : Store → Bytes → LibAnswer
joined s bs = if nat_le (length bs) longest_string then gives s (Text bs) else ErrsWith StringTooLarge

-- no separator stands before the first
abbrev pub joined_with : (separator : Bytes) → Option Bytes → Bytes → Bytes
joined_with sep None bs = bs
joined_with sep (Some front) bs = front ++ sep ++ bs

abbrev pub whole_text : Option Bytes → Bytes
whole_text None = []
whole_text (Some bs) = bs

-- the elements from one on, so many, behind what is joined so far
abbrev pub joins : Store → TableOf → (separator : Bytes) → ℤ → (count : ℕ) → Option Bytes → LibAnswer
joins s t sep k zero front = joined s (whole_text front)
joins s t sep k (suc n) front =
    elim (as_text (item t k)) [ None ↦ ErrsWith (InvalidElement (kind_of (item t k)) k) | Some bs ↦ joins s t sep (k +ℤ pos 1) n (Some (joined_with sep front bs)) ]

abbrev pub concat_row : List Value → Store → LibAnswer
concat_row args s =
    table_argument builtin.TableConcat 0 args (λ t. text_or builtin.TableConcat 1 args [] (λ sep. number_or builtin.TableConcat 2 args (pos 1) (λ i. number_or builtin.TableConcat 3 args (end_of (table_at s t)) (λ j. joins s (table_at s t) sep i (count_between i j) None))))

-- ---- lists of values

abbrev pub unpacks : Store → TableOf → ℤ → (count : ℕ) → (fits : Bool) → LibAnswer
unpacks s t i n true = Answers (items t i n) s
unpacks s t i n false = ErrsWith TooManyValues

abbrev pub unpack_row : List Value → Store → LibAnswer
unpack_row args s =
    table_argument builtin.TableUnpack 0 args (λ t. number_or builtin.TableUnpack 1 args (pos 1) (λ i. number_or builtin.TableUnpack 2 args (end_of (table_at s t)) (λ j. unpacks s (table_at s t) i (count_between i j) (nat_le (count_between i j) most_values))))

-- the values, and then their number under `n`
abbrev pub pack_row : List Value → Store → LibAnswer
pack_row args s = new_table s (put (put_all empty_table (pos 1) args) (Text (codes "n")) (Number (pos (length args))))

-- a table is made with at most so many elements, and as many are moved
abbrev pub most_elements : ℕ
most_elements = 16777216

-- nil fills nothing
abbrev pub filled_table : ℕ → Value → TableOf
filled_table n Nil = empty_table
filled_table n v = put_all empty_table (pos 1) (replicate n v)

abbrev pub creates : Store → ℕ → Value → (fits : Bool) → LibAnswer
creates s n v true = new_table s (filled_table n v)
creates s n v false = ErrsWith TooManyValues

abbrev pub create_row : List Value → Store → LibAnswer
create_row args s =
    number_at builtin.TableCreate 0 args (λ n. creates s (natural n) (argument_or_nil args 1) (nat_le (natural n) most_elements))

-- ---- `find`

-- up to the first nil, among at most so many
abbrev pub finds : (most : ℕ) → Store → TableOf → Value → ℤ → LibAnswer
finds zero s t v k = gives s Nil
finds (suc most) s t v k =
    elim (is_nil (item t k)) [ true ↦ gives s Nil | false ↦ elim (same (item t k) v) [ true ↦ gives s (Number k) | false ↦ finds most s t v (k +ℤ pos 1) ] ]

abbrev pub find_row : List Value → Store → LibAnswer
find_row args s =
    table_argument builtin.TableFind 0 args (λ t. any_at builtin.TableFind 1 args (λ v. number_or builtin.TableFind 2 args (pos 1) (finds (length (table_at s t).entries) s (table_at s t) v)))

-- ---- whole tables

abbrev pub cleared : TableOf → TableOf
cleared t = record t { entries = map (λ e. (e.0, Nil)) t.entries }

abbrev pub clear_row : List Value → Store → LibAnswer
clear_row args s = table_argument builtin.TableClear 0 args (λ t. unless_frozen s t (changed s t [] (cleared (table_at s t))))

abbrev pub copy_of : TableOf → TableOf
copy_of t = record { entries = filter (λ e. not (is_nil e.1)) t.entries; meta = t.meta; frozen = false }

abbrev pub clones : Store → TableRef → LibAnswer
clones s t = if is_protected s t then ErrsWith ProtectedMetatable else new_table s (copy_of (table_at s t))

abbrev pub clone_row : List Value → Store → LibAnswer
clone_row args s = table_argument builtin.TableClone 0 args (clones s)

abbrev pub freeze_row : List Value → Store → LibAnswer
freeze_row args s =
    table_argument builtin.TableFreeze 0 args (λ t. changed s t (Table t ∷ []) (record (table_at s t) { frozen = true }))

abbrev pub isfrozen_row : List Value → Store → LibAnswer
isfrozen_row args s = table_argument builtin.TableIsfrozen 0 args (λ t. gives s (Boolean (table_at s t).frozen))

-- ---- `move`

-- the values are read before any is written
abbrev pub moved : Store → (from to : TableRef) → (first at : ℤ) → (count : ℕ) → LibAnswer
moved s t u first at zero = gives s (Table u)
moved s t u first at (suc n) =
    if_in_range at (if_in_range (at +ℤ pos n) (changed s u (Table u ∷ []) (put_all (table_at s u) at (items (table_at s t) first (suc n)))))

abbrev pub moves : Store → (from to : TableRef) → (first at : ℤ) → (count : ℕ) → (fits : Bool) → LibAnswer
moves s t u first at n true = unless_frozen s u (moved s t u first at n)
moves s t u first at n false = ErrsWith TooManyValues

-- into the table itself, or another one
abbrev pub move_into : Store → TableRef → (first last at : ℤ) → Value → LibAnswer
move_into s t first last at Nil = moves s t t first at (count_between first last) (nat_le (count_between first last) most_elements)
move_into s t first last at v =
    table_from builtin.TableMove 4 v (λ u. moves s t u first at (count_between first last) (nat_le (count_between first last) most_elements))

abbrev pub move_row : List Value → Store → LibAnswer
move_row args s =
    table_argument builtin.TableMove 0 args (λ t. number_at builtin.TableMove 1 args (λ first. number_at builtin.TableMove 2 args (λ last. number_at builtin.TableMove 3 args (λ at. move_into s t first last at (argument_or_nil args 4)))))

-- ---- `sort`

-- a comes before b, where both are numbers or both are strings
abbrev pub goes_before : Value → Value → Bool
goes_before (Number a) (Number b) = int_lt a b
goes_before (Text a) (Text b) = bytes_less a b
goes_before _ _ = false

-- a value among sorted ones, before the first that it comes before
abbrev pub sorted_into : Value → List Value → List Value
sorted_into v [] = v ∷ []
sorted_into v (w ∷ ws) = if goes_before v w then v ∷ w ∷ ws else w ∷ sorted_into v ws

abbrev pub sorted : List Value → List Value
sorted [] = []
sorted (v ∷ vs) = sorted_into v (sorted vs)

abbrev pub is_ordered : Value → Value → Bool
is_ordered (Number a) (Number b) = true
is_ordered (Text a) (Text b) = true
is_ordered _ _ = false

-- the first element that cannot be compared with element 1, which may be itself
abbrev pub unordered : Value → List Value → Option Value
unordered v [] = None
unordered v (w ∷ ws) = if is_ordered v w then unordered v ws else Some w

abbrev pub sorts : Store → TableRef → Value → List Value → Option Value → LibAnswer
sorts s t v vs None = changed s t [] (put_all (table_at s t) (pos 1) (sorted vs))
sorts s t v vs (Some w) = ErrsWith (CompareLess (kind_of v) (kind_of w))

abbrev pub sort_items : Store → TableRef → List Value → LibAnswer
sort_items s t [] = Answers [] s
sort_items s t (v ∷ vs) = sorts s t v (v ∷ vs) (unordered v (v ∷ vs))

abbrev pub sort_row : List Value → Store → LibAnswer
sort_row args s =
    table_argument builtin.TableSort 0 args (λ t. unless_frozen s t (sort_items s t (items (table_at s t) (pos 1) (border (table_at s t)))))
