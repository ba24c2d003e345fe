-- What comes of an operation, on values as a program keeps them.
use Rattle.std.specs.Prelude.{ℕ, zero, suc, ℤ, pos, Bool, true, false, ◌&&◌, cond, List, [], ◌∷◌, length, Option, Some, None, Result, Ok, Err}
use Rattle.std.specs.Fmt.{signed_decimal}
use Rattle.byte_text.specs.declared.fixed.StrId.{StrId}
use Rattle.value_model.specs.declared.error.RunErr.{RunErr}
use Rattle.value_model.specs.declared.error.RunErr.TheVariants as err
use Rattle.value_model.specs.declared.ids.TableId.{TableId}
use Rattle.value_model.specs.declared.kind.Kind.{Kind}
use Rattle.value_model.specs.declared.kind.Kind.TheVariants as kind
use Rattle.value_model.specs.declared.operator.ArithOp.{ArithOp}
use Rattle.value_model.specs.declared.operator.ArithOp.TheVariants as op
use Rattle.value_model.specs.declared.value.Value.{Value}
use Rattle.value_model.specs.declared.value.Value.TheVariants.{Nil, Bool as Boolean, Num, Str, Table, Closure, Native, Host, Wrap, Thread}
use Rattle.value_model.specs.Operators.{calculated}
use Rattle.value_model.specs.Parts.{bytes_at}
use Rattle.value_model.specs.Values.{Bytes}
use Rattle.whole_num.specs.NumberTexts.{ReadNumber}
use Rattle.whole_num.specs.declared.arithmetic.Stop.{Stop as StopCause}
use Rattle.value_arena.specs.Arenas.{ArenaView, table_at, with_table}
use Rattle.value_arena.specs.Tables as tables
use Rattle.luau_tables.specs.Rules.{get, put, border}
use Rattle.luau_tables.specs.declared.globals.Globals.{Globals}
use Rattle.luau_tables.specs.declared.globals.MetaNames.{MetaNames}
use Rattle.meta_ops.specs.declared.outcome.Outcome.{Outcome}
use Rattle.meta_ops.specs.declared.outcome.Outcome.TheVariants.{Done, CallThis, RunError, Stop}
use Rattle.meta_ops.specs.declared.outcome.Link.{Link}
use Rattle.meta_ops.specs.declared.outcome.Link.TheVariants.{Ends, To}
use Rattle.meta_ops.specs.declared.storing.StoreLink.{StoreLink}
use Rattle.meta_ops.specs.declared.storing.StoreLink.TheVariants.{Here, Calls, Onward}
use Rattle.meta_ops.specs.declared.storing.Target.{Target}
use Rattle.meta_ops.specs.declared.storing.Target.TheVariants.{Into, NoTable}

abbrev pub is_nil : Value → Bool
is_nil = tables.is_nil

abbrev pub is_function : Value → Bool
is_function (Closure f) = true
is_function (Native f) = true
is_function (Host f) = true
is_function (Wrap f) = true
is_function v = false

abbrev pub kind_of : Value → Kind
kind_of Nil = kind.Nil
kind_of (Boolean b) = kind.Boolean
kind_of (Num z) = kind.Number
kind_of (Str x) = kind.String
kind_of (Table t) = kind.Table
kind_of (Thread t) = kind.Thread
kind_of v = kind.Function

abbrev pub call_one : Value → Value → Outcome
call_one f a = CallThis f (a ∷ Nil ∷ Nil ∷ []) 1

abbrev pub call_two : Value → Value → Value → Outcome
call_two f a b = CallThis f (a ∷ b ∷ Nil ∷ []) 2

abbrev pub call_three : Value → Value → Value → Value → Outcome
call_three f a b c = CallThis f (a ∷ b ∷ c ∷ []) 3

-- ---- metamethods

abbrev pub said_by_table : ArenaView → TableId → StrId → Value
said_by_table a m name = get (table_at a m) (Str name)

abbrev pub said_by : ArenaView → Option TableId → StrId → Value
said_by a None name = Nil
said_by a (Some m) name = said_by_table a m name

unfoldable pub metamethod : ArenaView → Globals → Value → StrId → Value
metamethod a g (Table t) name = said_by a (table_at a t).meta name
metamethod a g (Str x) name = said_by_table a g.string_meta name
metamethod a g v name = Nil

abbrev pub metamethod_of_two : ArenaView → Globals → Value → Value → StrId → Value
metamethod_of_two a g v w name = cond (is_nil (metamethod a g v name)) (metamethod a g w name) (metamethod a g v name)

-- a metamethod is called, where there is one
abbrev pub call_or_else : (handler : Value) → (call otherwise : Outcome) → Outcome
call_or_else h call otherwise = cond (is_nil h) otherwise call

-- ---- reading under a key

abbrev pub index_error : Value → Value → RunErr
index_error base (Str name) = err.IndexWithName (kind_of base) name
index_error base key = err.IndexWith (kind_of base) (kind_of key)

abbrev pub as_table : Value → Option TableId
as_table (Table t) = Some t
as_table v = None

abbrev pub indexed_table : ArenaView → Globals → Value → Option TableId
indexed_table a g (Table t) = Some t
indexed_table a g (Str x) = as_table (said_by_table a g.string_meta g.meta.index)
indexed_table a g v = None

abbrev pub by_index : TableId → Value → (handler : Value) → Link
by_index t key h = cond (is_nil h) (Ends (Done Nil)) (cond (is_function h) (Ends (call_two h (Table t) key)) (To h))

abbrev pub index_found : ArenaView → Globals → TableId → Value → (found : Value) → Link
index_found a g t key v = cond (is_nil v) (by_index t key (said_by a (table_at a t).meta g.meta.index)) (Ends (Done v))

abbrev pub index_asked : ArenaView → Globals → TableId → Value → Link
index_asked a g t key = index_found a g t key (get (table_at a t) key)

abbrev pub Found : Type 0
Found = Outcome × ℕ

abbrev pub after_link : (ℕ → Value → Found) → ℕ → Link → Found
after_link along asked (Ends o) = (o, asked)
after_link along asked (To v) = along asked v

abbrev pub index_of : (ℕ → Value → Found) → ArenaView → Globals → Value → ℕ → Value → Option TableId → Found
index_of along a g key asked base None = (RunError (index_error base key), asked)
index_of along a g key asked base (Some t) = after_link along (suc asked) (index_asked a g t key)

-- at most so many tables are asked, after so many
unfoldable pub index_along : (tables : ℕ) → ArenaView → Globals → Value → ℕ → Value → Found
index_along zero a g key asked base = (RunError err.IndexChain, asked)
index_along (suc n) a g key asked base = index_of (index_along n a g key) a g key asked base (indexed_table a g base)

-- ---- writing under a key

abbrev pub by_newindex : TableId → Value → Value → (handler : Value) → StoreLink
by_newindex t key v h = cond (is_nil h) Here (cond (is_function h) (Calls (call_three h (Table t) key v)) (Onward h))

abbrev pub newindex_found : ArenaView → Globals → TableId → Value → Value → (found : Value) → StoreLink
newindex_found a g t key v found = cond (is_nil found) (by_newindex t key v (said_by a (table_at a t).meta g.meta.newindex)) Here

abbrev pub newindex_asked : ArenaView → Globals → TableId → Value → Value → StoreLink
newindex_asked a g t key v = newindex_found a g t key v (get (table_at a t) key)

abbrev pub Sought : Type 0
Sought = Target × ℕ

abbrev pub after_store : (ℕ → Value → Sought) → TableId → ℕ → StoreLink → Sought
after_store along t asked Here = (Into t, asked)
after_store along t asked (Calls o) = (NoTable o, asked)
after_store along t asked (Onward v) = along asked v

abbrev pub newindex_of : (ℕ → Value → Sought) → ArenaView → Globals → Value → Value → ℕ → Value → Option TableId → Sought
newindex_of along a g key v asked base None = (NoTable (RunError (index_error base key)), asked)
newindex_of along a g key v asked base (Some t) = after_store along t (suc asked) (newindex_asked a g t key v)

unfoldable pub newindex_along : (tables : ℕ) → ArenaView → Globals → Value → Value → ℕ → Value → Sought
newindex_along zero a g key v asked base = (NoTable (RunError err.NewindexChain), asked)
newindex_along (suc n) a g key v asked base = newindex_of (newindex_along n a g key v) a g key v asked base (as_table base)

-- the table that is written counts its own step
abbrev pub unpaid : Target → ℕ
unpaid (Into t) = 1
unpaid (NoTable o) = 0

-- the table that is written
abbrev pub OfTarget : (TableId → Type 0) → Target → Type 0
OfTarget P (Into t) = P t
OfTarget P (NoTable o) = Unit {0}

-- what comes of the write itself; a frozen table is refused before a nil key
abbrev pub write_outcome : (is_frozen is_nil_key : Bool) → Outcome
write_outcome true is_nil_key = RunError err.ReadonlyTable
write_outcome false true = RunError err.NilKey
write_outcome false false = Done Nil

abbrev pub write_arena : ArenaView → TableId → Value → Value → Outcome → ArenaView
write_arena a t key v (Done done) = with_table a t (put (table_at a t) key v)
write_arena a t key v o = a

-- ---- arithmetic

abbrev pub arith_name : ArithOp → MetaNames → StrId
arith_name op.Add m = m.add
arith_name op.Sub m = m.sub
arith_name op.Mul m = m.mul
arith_name op.Div m = m.div
arith_name op.Idiv m = m.idiv
arith_name op.Mod m = m.mod_
arith_name op.Pow m = m.pow
arith_name op.Unm m = m.unm

abbrev pub numbered : Result ℤ StopCause → Outcome
numbered (Ok z) = Done (Num z)
numbered (Err s) = Stop s

-- the first operand's stop comes first, then the second's
abbrev pub calculate : ArithOp → Result ℤ StopCause → Result ℤ StopCause → Outcome
calculate o (Err s) y = Stop s
calculate o (Ok x) (Err s) = Stop s
calculate o (Ok x) (Ok y) = numbered (calculated o x y)

abbrev pub negative : Result ℤ StopCause → Outcome
negative x = calculate op.Unm x x

abbrev pub arithmetic_error : ArithOp → Value → Value → Outcome
arithmetic_error o v w = RunError (err.Arithmetic o (kind_of v) (kind_of w))

-- minus, with the number that the operand is
abbrev pub minus : ArenaView → Globals → Value → ReadNumber → Outcome
minus a g v (Some x) = negative x
minus a g v None =
    let h = metamethod a g v g.meta.unm in
    call_or_else h (call_one h v) (arithmetic_error op.Unm v v)

-- an operator, with the numbers that the operands are
abbrev pub of_two : ArenaView → Globals → ArithOp → Value → Value → ReadNumber → ReadNumber → Outcome
of_two a g o v w (Some x) (Some y) = calculate o x y
of_two a g o v w _ _ =
    let h = metamethod_of_two a g v w (arith_name o g.meta) in
    call_or_else h (call_two h v w) (arithmetic_error o v w)

-- ---- comparison

abbrev pub both_tables : Value → Value → Bool
both_tables (Table t) (Table u) = true
both_tables v w = false

abbrev pub answer : Bool → Outcome
answer b = Done (Boolean b)

-- two tables that are not one
abbrev pub different : ArenaView → Globals → Value → Value → Outcome
different a g v w =
    let h = metamethod_of_two a g v w g.meta.eq in
    call_or_else h (call_two h v w) (answer false)

abbrev pub equal : ArenaView → Globals → Value → Value → Outcome
equal a g v w = cond (tables.same v w) (answer true) (cond (both_tables v w) (different a g v w) (answer false))

-- the order of two numbers or of two strings
abbrev pub ordered : (numbers : ℤ → ℤ → Bool) → (strings : Bytes → Bytes → Bool) → (texts : List Bytes) → Value → Value → Option Bool
ordered numbers strings texts (Num x) (Num y) = Some (numbers x y)
ordered numbers strings texts (Str x) (Str y) = Some (strings (bytes_at texts x.0) (bytes_at texts y.0))
ordered numbers strings texts v w = None

-- with that order
abbrev pub less : ArenaView → Globals → Value → Value → Option Bool → Outcome
less a g v w (Some b) = answer b
less a g v w None =
    let h = metamethod_of_two a g v w g.meta.lt in
    call_or_else h (call_two h v w) (RunError (err.CompareLess (kind_of v) (kind_of w)))

abbrev pub less_or_equal : ArenaView → Globals → Value → Value → Option Bool → Outcome
less_or_equal a g v w (Some b) = answer b
less_or_equal a g v w None =
    let h = metamethod_of_two a g v w g.meta.le in
    call_or_else h (call_two h v w) (RunError (err.CompareLessOrEqual (kind_of v) (kind_of w)))

-- ---- length

abbrev pub count : ℕ → Value
count n = Num (pos n)

abbrev pub border_of : ArenaView → TableId → Outcome
border_of a t = Done (count (border (table_at a t)))

abbrev pub table_length : ArenaView → Globals → TableId → Outcome
table_length a g t =
    let h = said_by a (table_at a t).meta g.meta.len in
    call_or_else h (call_one h (Table t)) (border_of a t)

abbrev pub length_of : (texts : List Bytes) → ArenaView → Globals → Value → Outcome
length_of texts a g (Str x) = Done (count (length (bytes_at texts x.0)))
length_of texts a g (Table t) = table_length a g t
length_of texts a g v = RunError (err.LengthOf (kind_of v))

-- ---- concatenation

abbrev pub is_text : Value → Bool
is_text (Str x) = true
is_text (Num z) = true
is_text v = false

abbrev pub are_texts : Value → Value → Bool
are_texts v w = is_text v && is_text w

-- the text of a string or of a number
abbrev pub text_of : (texts : List Bytes) → Value → Bytes
text_of texts (Str x) = bytes_at texts x.0
text_of texts (Num z) = signed_decimal z
text_of texts v = []

abbrev pub not_joined : ArenaView → Globals → Value → Value → Outcome
not_joined a g v w =
    let h = metamethod_of_two a g v w g.meta.concat in
    call_or_else h (call_two h v w) (RunError (err.Concatenate (kind_of v) (kind_of w)))

-- ---- calls

abbrev pub callable : Value → (handler : Value) → Outcome
callable f h = cond (is_function h) (call_one h f) (RunError (err.CallOf (kind_of f)))

abbrev pub callee_of : ArenaView → Globals → Value → Outcome
callee_of a g f = cond (is_function f) (Done f) (callable f (metamethod a g f g.meta.call))
