-- What comes of an operation on values, where a metamethod may answer.
use Rattle.std.specs.Prelude.{ℕ, zero, suc, ℤ, pos, Bool, true, false, not, ◌&&◌, nat_eq, nat_lt, nat_le, int_lt, int_le, List, [], ◌∷◌, ◌++◌, length, Option, Some, None, Result, Ok, Err, codes, if◌then◌else◌}
use Rattle.std.specs.Fmt.{signed_decimal}
use Rattle.value_model.specs.declared.operator.ArithOp.{ArithOp}
use Rattle.value_model.specs.declared.operator.ArithOp.TheVariants as op
use Rattle.value_model.specs.declared.operator.CompareOp.{CompareOp}
use Rattle.value_model.specs.declared.operator.CompareOp.TheVariants as order
use Rattle.whole_num.specs.declared.arithmetic.Stop.{Stop}
use Rattle.value_model.specs.Values.{Bytes, TableRef, Value, Nil, Boolean, Number, Text, Table, Closure, Native, Host, Wrap, kind_of}
use Rattle.value_model.specs.Errors.{RunError, IndexWithName, IndexWith, CallOf, Arithmetic, Concatenate, CompareLess, CompareLessOrEqual, LengthOf, IndexChain, NewindexChain, StringTooLarge}
use Rattle.value_model.specs.Store.{Store, TableOf, table_at, with_table, same_table}
use Rattle.value_model.specs.Tables.{same, get, set, border}
use Rattle.value_model.specs.Operators.{calculated}
use Rattle.whole_num.specs.NumberTexts.{ReadNumber, read_number}
use Rattle.value_model.specs.Choices.{Operation, Index, Newindex, Arith, Compare, Concat, Length, Callee, Outcome, Done, CallThis, Errs, Halts, Choice}

unfoldable pub is_function : Value → Bool
is_function (Closure i) = true
is_function (Native b) = true
is_function (Host i) = true
is_function (Wrap i) = true
is_function _ = false

-- a string has at most so many bytes
abbrev pub longest_string : ℕ
longest_string = 16777216

-- ---- metamethods

-- what a metatable says under a name
abbrev pub said_by : Store → Option TableRef → Bytes → Value
said_by s None name = Nil
said_by s (Some m) name = get (table_at s m) (Text name)

-- what the metatable of a value says under a name; nil where it has none
unfoldable pub metamethod : Store → Value → Bytes → Value
metamethod s (Table t) name = said_by s (table_at s t).meta name
metamethod s (Text bs) name = said_by s (Some s.globals.string_meta) name
metamethod s v name = Nil

-- the first of two that is not nil
abbrev pub either : Value → Value → Value
either Nil w = w
either v w = v

-- of two operands the first one's metamethod is taken, else the second's
abbrev pub metamethod_of_two : Store → Value → Value → Bytes → Value
metamethod_of_two s a b name = either (metamethod s a name) (metamethod s b name)

-- a metamethod is called, where there is one, and else a rule of its own holds
abbrev pub call_or_else : Value → List Value → Outcome → Outcome
call_or_else Nil args otherwise = otherwise
call_or_else h args otherwise = CallThis h args

-- ---- index

abbrev pub index_error : Value → Value → RunError
index_error v (Text name) = IndexWithName (kind_of v) name
index_error v key = IndexWith (kind_of v) (kind_of key)

abbrev pub as_table : Value → Option TableRef
as_table (Table t) = Some t
as_table _ = None

-- the table that is asked where a value is indexed: for a string that of the metatable of strings
abbrev pub indexed_table : Store → Value → Option TableRef
indexed_table s (Table t) = Some t
indexed_table s (Text bs) = as_table (metamethod s (Text bs) (codes "__index"))
indexed_table s v = None

-- What follows a link: the tables asked so far, and the value that the link leads to
abbrev pub Link : Type 0
Link = ℕ → Value → Choice

-- no value is written
abbrev pub chosen : Store → ℕ → Outcome → Choice
chosen s asked o = record { outcome = o; asked = asked; store = s }

-- where the table has no value under the key: nil, a call of `__index` with the table and the key, or a link
abbrev pub by_index : Store → Link → (asked : ℕ) → TableRef → (key handler : Value) → Choice
by_index s link asked t key Nil = chosen s asked (Done Nil)
by_index s link asked t key h = elim (is_function h) [ true ↦ chosen s asked (CallThis h (Table t ∷ key ∷ [])) | false ↦ link asked h ]

abbrev pub index_found : Store → Link → (asked : ℕ) → TableRef → (key found : Value) → Choice
index_found s link asked t key Nil = by_index s link asked t key (metamethod s (Table t) (codes "__index"))
index_found s link asked t key v = chosen s asked (Done v)

-- one table is asked for the key
abbrev pub index_asked : Store → Link → (asked : ℕ) → (base key : Value) → Option TableRef → Choice
index_asked s link asked base key None = chosen s asked (Errs (index_error base key))
index_asked s link asked base key (Some t) = index_found s link (suc asked) t key (get (table_at s t) key)

-- along at most so many links
abbrev pub index_along : (links : ℕ) → Store → (key : Value) → Link
index_along zero s key asked base =
    index_asked s (λ n v. chosen s n (Errs IndexChain)) asked base key (indexed_table s base)
index_along (suc links) s key asked base =
    index_asked s (index_along links s key) asked base key (indexed_table s base)

unfoldable pub index : Store → (base key : Value) → Choice
index s base key = index_along 100 s key 0 base

-- ---- newindex

-- a value is written raw
abbrev pub write_raw : Store → (asked : ℕ) → TableRef → Result TableOf RunError → Choice
write_raw s asked t (Ok table) = record { outcome = Done Nil; asked = asked; store = with_table s t table }
write_raw s asked t (Err e) = chosen s asked (Errs e)

abbrev pub by_newindex : Store → Link → (asked : ℕ) → TableRef → (key v handler : Value) → Choice
by_newindex s link asked t key v Nil = write_raw s asked t (set (table_at s t) key v)
by_newindex s link asked t key v h =
    elim (is_function h) [ true ↦ chosen s asked (CallThis h (Table t ∷ key ∷ v ∷ [])) | false ↦ link asked h ]

-- a value that is there is replaced, whatever the metatable says
abbrev pub newindex_found : Store → Link → (asked : ℕ) → TableRef → (key v found : Value) → Choice
newindex_found s link asked t key v Nil = by_newindex s link asked t key v (metamethod s (Table t) (codes "__newindex"))
newindex_found s link asked t key v w = write_raw s asked t (set (table_at s t) key v)

abbrev pub newindex_asked : Store → Link → (asked : ℕ) → (base key v : Value) → Option TableRef → Choice
newindex_asked s link asked base key v None = chosen s asked (Errs (index_error base key))
newindex_asked s link asked base key v (Some t) = newindex_found s link (suc asked) t key v (get (table_at s t) key)

abbrev pub newindex_along : (links : ℕ) → Store → (key v : Value) → Link
newindex_along zero s key v asked base =
    newindex_asked s (λ n w. chosen s n (Errs NewindexChain)) asked base key v (as_table base)
newindex_along (suc links) s key v asked base =
    newindex_asked s (newindex_along links s key v) asked base key v (as_table base)

unfoldable pub newindex : Store → (base key v : Value) → Choice
newindex s base key v = newindex_along 100 s key v 0 base

-- ---- arithmetic

-- a number, or a string that is one
unfoldable pub as_number : Value → ReadNumber
as_number (Number z) = Some (Ok z)
as_number (Text bs) = read_number bs
as_number _ = None

abbrev pub arith_name : ArithOp → Bytes
arith_name op.Add = codes "__add"
arith_name op.Sub = codes "__sub"
arith_name op.Mul = codes "__mul"
arith_name op.Div = codes "__div"
arith_name op.Idiv = codes "__idiv"
arith_name op.Mod = codes "__mod"
arith_name op.Pow = codes "__pow"
arith_name op.Unm = codes "__unm"

abbrev pub numbered : Result ℤ Stop → Outcome
numbered (Ok z) = Done (Number z)
numbered (Err s) = Halts s

-- the first operand's stop comes first, then the second's
abbrev pub calculate : ArithOp → Result ℤ Stop → Result ℤ Stop → Outcome
calculate o (Err s) b = Halts s
calculate o (Ok a) (Err s) = Halts s
calculate o (Ok a) (Ok b) = numbered (calculated o a b)

-- a metamethod is asked where an operand is neither a number nor a string that is one
abbrev pub arith_numbers : Store → ArithOp → Value → Value → ReadNumber → ReadNumber → Outcome
arith_numbers s o a b (Some x) (Some y) = calculate o x y
arith_numbers s o a b _ _ =
    call_or_else (metamethod_of_two s a b (arith_name o)) (a ∷ b ∷ []) (Errs (Arithmetic o (kind_of a) (kind_of b)))

abbrev pub minus_number : Store → Value → ReadNumber → Outcome
minus_number s a (Some x) = calculate op.Unm x x
minus_number s a None = call_or_else (metamethod s a (arith_name op.Unm)) (a ∷ []) (Errs (Arithmetic op.Unm (kind_of a) (kind_of a)))

unfoldable pub arith : Store → ArithOp → Value → Value → Outcome
arith s op.Unm a b = minus_number s a (as_number a)
arith s o a b = arith_numbers s o a b (as_number a) (as_number b)

-- ---- concatenation

-- a string, or a number as its text
abbrev pub as_text : Value → Option Bytes
as_text (Text bs) = Some bs
as_text (Number z) = Some (signed_decimal z)
as_text _ = None

abbrev pub bounded_text : Bytes → Outcome
bounded_text bs = if nat_le (length bs) longest_string then Done (Text bs) else Errs StringTooLarge

abbrev pub concat_texts : Store → Value → Value → Option Bytes → Option Bytes → Outcome
concat_texts s a b (Some x) (Some y) = bounded_text (x ++ y)
concat_texts s a b _ _ =
    call_or_else (metamethod_of_two s a b (codes "__concat")) (a ∷ b ∷ []) (Errs (Concatenate (kind_of a) (kind_of b)))

unfoldable pub concat_two : Store → Value → Value → Outcome
concat_two s a b = concat_texts s a b (as_text a) (as_text b)

-- ---- comparison

-- bytewise order; a text comes before each that it begins
abbrev pub bytes_less : Bytes → Bytes → Bool
bytes_less [] [] = false
bytes_less [] (b ∷ bs) = true
bytes_less (a ∷ as') [] = false
bytes_less (a ∷ as') (b ∷ bs) = if nat_lt a b then true else nat_eq a b && bytes_less as' bs

abbrev pub is_different_table : Value → Value → Bool
is_different_table (Table t) (Table u) = not (same_table t u)
is_different_table _ _ = false

-- `__eq` is asked only for two different tables
abbrev pub equal : Store → Value → Value → Outcome
equal s a b =
    if is_different_table a b then call_or_else (metamethod_of_two s a b (codes "__eq")) (a ∷ b ∷ []) (Done (Boolean false))
    else Done (Boolean (same a b))

-- the order of two numbers or of two strings
abbrev pub ordered : (ℤ → ℤ → Bool) → (Bytes → Bytes → Bool) → Value → Value → Option Bool
ordered numbers texts (Number a) (Number b) = Some (numbers a b)
ordered numbers texts (Text a) (Text b) = Some (texts a b)
ordered numbers texts _ _ = None

abbrev pub or_metamethod : Store → Value → Value → Bytes → RunError → Option Bool → Outcome
or_metamethod s a b name e (Some answer) = Done (Boolean answer)
or_metamethod s a b name e None = call_or_else (metamethod_of_two s a b name) (a ∷ b ∷ []) (Errs e)

unfoldable pub compare : Store → CompareOp → Value → Value → Outcome
compare s order.Eq a b = equal s a b
compare s order.Lt a b = or_metamethod s a b (codes "__lt") (CompareLess (kind_of a) (kind_of b)) (ordered int_lt bytes_less a b)
compare s order.Le a b =
    or_metamethod s a b (codes "__le") (CompareLessOrEqual (kind_of a) (kind_of b)) (ordered int_le (λ x y. not (bytes_less y x)) a b)

-- ---- length

unfoldable pub length_of : Store → Value → Outcome
length_of s (Text bs) = Done (Number (pos (length bs)))
length_of s (Table t) = call_or_else (metamethod s (Table t) (codes "__len")) (Table t ∷ []) (Done (Number (pos (border (table_at s t)))))
length_of s a = Errs (LengthOf (kind_of a))

-- ---- calls

abbrev pub callable : Value → (handler : Value) → Outcome
callable f h = if is_function h then CallThis h (f ∷ []) else Errs (CallOf (kind_of f))

-- a function; or a table whose `__call` is one, which gets the table before the arguments
unfoldable pub callee_of : Store → Value → Outcome
callee_of s f = if is_function f then Done f else callable f (metamethod s f (codes "__call"))

-- ---- all operations

unfoldable pub choose : Operation → Store → Choice
choose (Index base key) s = index s base key
choose (Newindex base key v) s = newindex s base key v
choose (Arith o a b) s = chosen s 0 (arith s o a b)
choose (Compare o a b) s = chosen s 0 (compare s o a b)
choose (Concat a b) s = chosen s 0 (concat_two s a b)
choose (Length a) s = chosen s 0 (length_of s a)
choose (Callee f) s = chosen s 0 (callee_of s f)
