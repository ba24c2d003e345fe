-- The functions of the global table.
use Rattle.std.specs.Prelude.{ℕ, zero, suc, ℤ, pos, negsuc, ◌+ℤ◌, int_le, Bool, true, false, not, ◌&&◌, List, [], ◌∷◌, ◌++◌, length, drop, Option, Some, None, Result, Ok, Err, slice_get, codes, unsigned_abs, if◌then◌else◌}
use Rattle.std.specs.Fmt.{signed_decimal}
use Rattle.value_model.specs.declared.builtin.Builtin.{Builtin}
use Rattle.value_model.specs.declared.builtin.Builtin.TheVariants as builtin
use Rattle.value_model.specs.declared.kind.Kind.TheVariants as kind
use Rattle.value_model.specs.declared.error.Wanted.TheVariants.{OfKind}
use Rattle.value_model.specs.Values.{Bytes, TableRef, Value, Nil, Boolean, Number, Text, Table, Closure, Native, kind_of, kind_name, is_true}
use Rattle.value_model.specs.Errors.{RunError, UnknownKey, ProtectedMetatable, ReadonlyTable, FixedEnvironment, AssertionFailed, NotStringByTostring}
use Rattle.value_model.specs.Store.{Store, TableOf, table_at, with_table}
use Rattle.value_model.specs.Names.{plain_text}
use Rattle.value_model.specs.Waits.{Continue, Protects, Guards, Asks, ByError, Elsewise}
use Rattle.whole_num.specs.NumberTexts.{ReadNumber, read_number, read_with_base}
use Rattle.value_model.specs.Tables.{same, is_nil, get, item, set, border, next_entry}
use Rattle.value_model.specs.Metamethods.{metamethod, said_by, is_function}
use Rattle.value_model.specs.Answers.{LibAnswer, Answers, PrintsLine, ErrsWith, RaisesValue, HaltsWith, CallsBack, OnEnvironment, Innermost, OfFunction, OfScript, Reads, Replaces}
use Rattle.value_model.specs.Arguments.{invalid, out_of_range, any_at, argument_or_nil, number_at, table_from, table_argument, function_at, wanted_argument, number_unless_nil}

-- one value and no change
abbrev pub gives : Store → Value → LibAnswer
gives s v = Answers (v ∷ []) s

-- a table was changed, or refused that
abbrev pub changes : Store → TableRef → List Value → Result TableOf RunError → LibAnswer
changes s t vs (Ok table) = Answers vs (with_table s t table)
changes s t vs (Err e) = ErrsWith e

-- ---- texts of values

-- the text by `__tostring`, which is asked for it, or else the plain text
abbrev pub text_of_value : Store → Value → (asking : Continue) → (Bytes → LibAnswer) → (handler : Value) → LibAnswer
text_of_value s v asking go Nil = go (plain_text s v)
text_of_value s v asking go h = CallsBack h (v ∷ []) (Asks asking)

abbrev pub asks_text : Store → Value → (asking : Continue) → (Bytes → LibAnswer) → LibAnswer
asks_text s v asking go = text_of_value s v asking go (metamethod s v (codes "__tostring"))

-- what `__tostring` gave has to be a string
abbrev pub text_given : Value → (Bytes → LibAnswer) → LibAnswer
text_given (Text bs) go = go bs
text_given v go = ErrsWith NotStringByTostring

-- `print`: the texts of its arguments from a place on, with a tab before each but the first
abbrev pub with_tab : ℕ → Bytes → Bytes
with_tab zero text = text
with_tab (suc i) text = text ++ 9 ∷ []

abbrev pub prints : Store → (args : List Value) → (i : ℕ) → (text : Bytes) → List Value → LibAnswer
prints s args i text [] = PrintsLine text
prints s args i text (v ∷ vs) =
    asks_text s v (record { builtin = builtin.Print; arguments = args; at = i; text = with_tab i text }) (λ bs. prints s args (suc i) (with_tab i text ++ bs) vs)

abbrev pub print_row : List Value → Store → LibAnswer
print_row args s = prints s args 0 [] args

abbrev pub tostring_row : List Value → Store → LibAnswer
tostring_row args s =
    any_at builtin.Tostring 0 args (λ v. asks_text s v (record { builtin = builtin.Tostring; arguments = args; at = 0; text = [] }) (λ bs. gives s (Text bs)))

-- ---- kinds and numbers

abbrev pub type_row : Builtin → List Value → Store → LibAnswer
type_row f args s = any_at f 0 args (λ v. gives s (Text (kind_name (kind_of v))))

-- a number that was read, or nil
abbrev pub number_or_nil : Store → ReadNumber → LibAnswer
number_or_nil s None = gives s Nil
number_or_nil s (Some (Ok z)) = gives s (Number z)
number_or_nil s (Some (Err stop)) = HaltsWith stop

abbrev pub to_number : Store → Value → LibAnswer
to_number s (Number z) = gives s (Number z)
to_number s (Text bs) = number_or_nil s (read_number bs)
to_number s v = gives s Nil

-- a number counts as its text
abbrev pub to_number_in : Store → (radix : ℕ) → Value → LibAnswer
to_number_in s radix (Number z) = number_or_nil s (read_with_base radix (signed_decimal z))
to_number_in s radix (Text bs) = number_or_nil s (read_with_base radix bs)
to_number_in s radix v = gives s Nil

abbrev pub to_number_based : Store → Value → ℤ → LibAnswer
to_number_based s v radix =
    if int_le (pos 2) radix && int_le radix (pos 36) then to_number_in s (unsigned_abs radix) v else out_of_range builtin.Tonumber 1

abbrev pub to_number_by : Store → Value → (base : Value) → LibAnswer
to_number_by s v Nil = to_number s v
to_number_by s v base = number_unless_nil builtin.Tonumber 1 base (pos 10) (to_number_based s v)

abbrev pub tonumber_row : List Value → Store → LibAnswer
tonumber_row args s = any_at builtin.Tonumber 0 args (λ v. to_number_by s v (argument_or_nil args 1))

-- ---- errors and protected calls

abbrev pub failed_assertion : Option Value → LibAnswer
failed_assertion None = ErrsWith AssertionFailed
failed_assertion (Some v) = RaisesValue v Elsewise

abbrev pub assert_row : List Value → Store → LibAnswer
assert_row args s = any_at builtin.Assert 0 args (λ v. elim (is_true v) [ true ↦ Answers args s | false ↦ failed_assertion (slice_get args 1) ])

-- the second argument says no more than whether it is 0
abbrev pub error_row : List Value → Store → LibAnswer
error_row args s = RaisesValue (argument_or_nil args 0) (ByError (same (argument_or_nil args 1) (Number (pos 0))))

abbrev pub pcall_row : List Value → Store → LibAnswer
pcall_row args s = any_at builtin.Pcall 0 args (λ f. CallsBack f (drop 1 args) Protects)

abbrev pub xpcall_row : List Value → Store → LibAnswer
xpcall_row args s =
    any_at builtin.Xpcall 0 args (λ f. function_at builtin.Xpcall 1 args (λ h. CallsBack f (drop 2 args) (Guards h)))

-- ---- `select`

-- from a place, from 1 on
abbrev pub select_from : Store → List Value → ℤ → LibAnswer
select_from s vs (pos (suc n)) = Answers (drop n vs) s
select_from s vs z = out_of_range builtin.Select 0

-- below 0 the place counts from the end
abbrev pub select_at : Store → List Value → ℤ → LibAnswer
select_at s vs (pos n) = select_from s vs (pos n)
select_at s vs (negsuc n) = select_from s vs (negsuc n +ℤ pos (suc (length vs)))

abbrev pub selects : Store → List Value → (counts : Bool) → LibAnswer
selects s args true = gives s (Number (pos (length (drop 1 args))))
selects s args false = number_at builtin.Select 0 args (select_at s (drop 1 args))

abbrev pub select_row : List Value → Store → LibAnswer
select_row args s = selects s args (same (argument_or_nil args 0) (Text (codes "#")))

-- ---- walks

abbrev pub next_answer : Store → Option (Option (Value × Value)) → LibAnswer
next_answer s None = ErrsWith UnknownKey
next_answer s (Some None) = gives s Nil
next_answer s (Some (Some e)) = Answers (e.0 ∷ e.1 ∷ []) s

abbrev pub next_row : List Value → Store → LibAnswer
next_row args s = table_argument builtin.Next 0 args (λ t. next_answer s (next_entry (table_at s t) (argument_or_nil args 1)))

abbrev pub pairs_row : List Value → Store → LibAnswer
pairs_row args s = table_argument builtin.Pairs 0 args (λ t. Answers (Native builtin.Next ∷ Table t ∷ Nil ∷ []) s)

abbrev pub ipairs_row : List Value → Store → LibAnswer
ipairs_row args s =
    table_argument builtin.Ipairs 0 args (λ t. Answers (Native builtin.IpairsIterator ∷ Table t ∷ Number (pos 0) ∷ []) s)

-- the iterator ends at the first nil
abbrev pub item_answer : Store → ℤ → Value → LibAnswer
item_answer s k Nil = gives s Nil
item_answer s k v = Answers (Number k ∷ v ∷ []) s

abbrev pub ipairs_iterator_row : List Value → Store → LibAnswer
ipairs_iterator_row args s =
    table_argument builtin.IpairsIterator 0 args (λ t. number_at builtin.IpairsIterator 1 args (λ k. item_answer s (k +ℤ pos 1) (item (table_at s t) (k +ℤ pos 1))))

-- ---- raw access

abbrev pub rawget_row : List Value → Store → LibAnswer
rawget_row args s = table_argument builtin.Rawget 0 args (λ t. any_at builtin.Rawget 1 args (λ k. gives s (get (table_at s t) k)))

abbrev pub rawset_row : List Value → Store → LibAnswer
rawset_row args s =
    table_argument builtin.Rawset 0 args (λ t. any_at builtin.Rawset 1 args (λ k. any_at builtin.Rawset 2 args (λ v. changes s t (Table t ∷ []) (set (table_at s t) k v))))

abbrev pub rawequal_row : List Value → Store → LibAnswer
rawequal_row args s = any_at builtin.Rawequal 0 args (λ a. any_at builtin.Rawequal 1 args (λ b. gives s (Boolean (same a b))))

-- a string is wanted by its kind: a number is none
abbrev pub raw_length : Store → Value → LibAnswer
raw_length s (Table t) = gives s (Number (pos (border (table_at s t))))
raw_length s (Text bs) = gives s (Number (pos (length bs)))
raw_length s v = invalid builtin.Rawlen 0 (OfKind kind.Table) v

abbrev pub rawlen_row : List Value → Store → LibAnswer
rawlen_row args s = wanted_argument builtin.Rawlen 0 (OfKind kind.Table) (slice_get args 0) (raw_length s)

-- ---- metatables

abbrev pub metatable_of : Store → Value → Option TableRef
metatable_of s (Table t) = (table_at s t).meta
metatable_of s (Text bs) = Some s.globals.string_meta
metatable_of s v = None

-- the metatable, or what it says under `__metatable`
abbrev pub shown_metatable : TableRef → (hidden : Value) → Value
shown_metatable m Nil = Table m
shown_metatable m v = v

abbrev pub metatable_value : Store → Option TableRef → Value
metatable_value s None = Nil
metatable_value s (Some m) = shown_metatable m (said_by s (Some m) (codes "__metatable"))

abbrev pub getmetatable_row : List Value → Store → LibAnswer
getmetatable_row args s = any_at builtin.Getmetatable 0 args (λ v. gives s (metatable_value s (metatable_of s v)))

-- a table whose metatable has `__metatable`
abbrev pub is_protected : Store → TableRef → Bool
is_protected s t = not (is_nil (said_by s (table_at s t).meta (codes "__metatable")))

abbrev pub with_meta : Store → TableRef → Option TableRef → LibAnswer
with_meta s t m =
    if is_protected s t then ErrsWith ProtectedMetatable
    else if (table_at s t).frozen then ErrsWith ReadonlyTable
    else Answers (Table t ∷ []) (with_table s t (record (table_at s t) { meta = m }))

-- nil has to be written
abbrev pub set_meta_to : Store → TableRef → Value → LibAnswer
set_meta_to s t Nil = with_meta s t None
set_meta_to s t v = table_from builtin.Setmetatable 1 v (λ m. with_meta s t (Some m))

abbrev pub setmetatable_row : List Value → Store → LibAnswer
setmetatable_row args s =
    table_argument builtin.Setmetatable 0 args (λ t. wanted_argument builtin.Setmetatable 1 (OfKind kind.Table) (slice_get args 1) (set_meta_to s t))

-- ---- environments

abbrev pub of_level : ℤ → LibAnswer
of_level (pos zero) = OnEnvironment (Reads OfScript)
of_level (pos (suc zero)) = OnEnvironment (Reads Innermost)
of_level z = out_of_range builtin.Getfenv 0

-- a text is no level
abbrev pub reads_environment : Value → LibAnswer
reads_environment Nil = OnEnvironment (Reads Innermost)
reads_environment (Number z) = of_level z
reads_environment (Closure f) = OnEnvironment (Reads (OfFunction f))
reads_environment v = elim (is_function v) [ true ↦ OnEnvironment (Reads OfScript) | false ↦ invalid builtin.Getfenv 0 (OfKind kind.Function) v ]

abbrev pub getfenv_row : List Value → Store → LibAnswer
getfenv_row args s = reads_environment (argument_or_nil args 0)

abbrev pub replaces_environment : Value → TableRef → LibAnswer
replaces_environment (Number (pos (suc zero))) t = OnEnvironment (Replaces Innermost t)
replaces_environment (Closure f) t = OnEnvironment (Replaces (OfFunction f) t)
replaces_environment v t = ErrsWith FixedEnvironment

abbrev pub function_or_level : Value → LibAnswer → LibAnswer
function_or_level (Number z) go = go
function_or_level v go = elim (is_function v) [ true ↦ go | false ↦ invalid builtin.Setfenv 0 (OfKind kind.Function) v ]

abbrev pub setfenv_row : List Value → Store → LibAnswer
setfenv_row args s =
    wanted_argument builtin.Setfenv 0 (OfKind kind.Function) (slice_get args 0) (λ f. function_or_level f (table_argument builtin.Setfenv 1 args (replaces_environment f)))
