-- The library keeps the coroutines: it runs in the one that called it, and makes at most new ones behind those that there are. What waits
-- for a call of its own is no function of the script.
use Rattle.std.proofs.Common.{◌≡◌, refl, sym, subst, ◌∙◌, ℕ, zero, suc, ℤ, pos, negsuc, ◌+ℤ◌, Bool, true, false, ◌&&◌, List, [], ◌∷◌, ◌++◌, length, map, reverse, drop, Option, Some, None, Ok, Err, Result, codes}
use Rattle.std.specs.Prelude.{slice_get, if◌then◌else◌, unsigned_abs, int_le, int_lt, nat_le}
use Rattle.std.specs.Int.{int_min, int_max, int_signum}
use Rattle.std.specs.Char.{to_ascii_lowercase, to_ascii_uppercase}
use Rattle.whole_num.specs.NumberTexts.{ReadNumber}
use Rattle.whole_num.specs.Whole.{is_whole}
use Rattle.whole_num.specs.declared.arithmetic.Stop.TheVariants.{OutOfRange}
use Rattle.value_model.specs.declared.builtin.Builtin.{Builtin}
use Rattle.value_model.specs.declared.builtin.Builtin.TheVariants as builtin
use Rattle.value_model.specs.declared.error.Wanted.{Wanted}
use Rattle.value_model.specs.Values.{Bytes, TableRef, Value, Nil, Number, Text, Table, Closure, Thread, kind_of, is_true}
use Rattle.value_model.specs.Errors.{RunError, ReadonlyTable, ProtectedMetatable, InvalidElement, TooManyValues, StringTooLarge}
use Rattle.value_model.specs.Store.{Store, TableOf, CoroutineOf, table_at, with_table}
use Rattle.value_model.specs.Waits.{Continue}
use Rattle.value_model.specs.Tables as tables
use Rattle.value_model.specs.Metamethods.{metamethod, as_number, as_text, is_function, longest_string}
use Rattle.value_model.specs.Answers.{Close, LibAnswer, Answers, ErrsWith, HaltsWith, CallsBack, Moves, OnEnvironment, Reads, OfScript}
use Rattle.value_model.specs.Arguments as arguments
use Rattle.value_model.specs.CoreRows as core
use Rattle.value_model.specs.CoroutineRows as co
use Rattle.value_model.specs.FormatRows as format
use Rattle.value_model.specs.MathRows as math
use Rattle.value_model.specs.StringRows as string
use Rattle.value_model.specs.TableRows as table
use Rattle.value_model.specs.Library.{lib, go_on, goes_on}
use Rattle.source_meaning.specs.Calls as source_calls
use Rattle.code_simulation.proofs.Stores.{table_keeps}
use Rattle.code_simulation.proofs.Changes.{append_nil}

-- the same coroutine runs, and more may be there
pub record Kept (s t : Store) : Type 0 where
  pub running : t.running ≡ s.running
  pub more : List CoroutineOf
  pub coroutines : t.coroutines ≡ s.coroutines ++ more

-- a coroutine is closed by this call alone
abbrev pub IsClose : Builtin → List Value → Type 0
IsClose builtin.CoroutineClose (Thread i ∷ vs) = Unit {0}
IsClose _ _ = ⊥

-- what is known of an answer
abbrev pub AnswerKeeps : Store → LibAnswer → Type 0
AnswerKeeps s (Answers vs t) = Kept s t
AnswerKeeps s (CallsBack f vs w) = source_calls.is_function (Some w) ≡ false
AnswerKeeps s (Moves (Close i)) = ⊥
AnswerKeeps s _ = Unit {0}

pub record Holds (s : Store) (a : LibAnswer) : Type 0 where
  pub holds : AnswerKeeps s a

no_more : {A : Type 0} (xs : List A) → xs ≡ xs ++ []
no_more xs = sym (append_nil xs)

module _ (s : Store) where
  -- ---- arguments

  wanted : (f : Builtin) (i : ℕ) (w : Wanted) (o : Option Value) (go : Value → LibAnswer) → ((v : Value) → Holds s (go v))
      → Holds s (arguments.wanted_argument f i w o go)
  wanted f i w None go is = record { holds = tt }
  wanted f i w (Some v) go is = is v

  any : (f : Builtin) (i : ℕ) (args : List Value) (go : Value → LibAnswer) → ((v : Value) → Holds s (go v)) → Holds s (arguments.any_at f i args go)
  any f i args go is = wanted f i _ (slice_get args i) go is

  number_read : (f : Builtin) (i : ℕ) (v : Value) (r : ReadNumber) (go : ℤ → LibAnswer) → ((z : ℤ) → Holds s (go z))
      → Holds s (arguments.number_read f i v r go)
  number_read f i v None go is = record { holds = tt }
  number_read f i v (Some (Err stop)) go is = record { holds = tt }
  number_read f i v (Some (Ok z)) go is = is z

  number_from : (f : Builtin) (i : ℕ) (v : Value) (go : ℤ → LibAnswer) → ((z : ℤ) → Holds s (go z)) → Holds s (arguments.number_from f i v go)
  number_from f i v go is = number_read f i v (as_number v) go is

  number : (f : Builtin) (i : ℕ) (args : List Value) (go : ℤ → LibAnswer) → ((z : ℤ) → Holds s (go z)) → Holds s (arguments.number_at f i args go)
  number f i args go is = wanted f i _ (slice_get args i) _ (λ v. number_from f i v go is)

  number_unless_nil : (f : Builtin) (i : ℕ) (v : Value) (z : ℤ) (go : ℤ → LibAnswer) → ((z : ℤ) → Holds s (go z))
      → Holds s (arguments.number_unless_nil f i v z go)
  number_unless_nil f i Nil z go is = is z
  number_unless_nil f i v z go is = number_from f i v go is

  number_or : (f : Builtin) (i : ℕ) (args : List Value) (z : ℤ) (go : ℤ → LibAnswer) → ((z : ℤ) → Holds s (go z))
      → Holds s (arguments.number_or f i args z go)
  number_or f i args z go is = number_unless_nil f i (arguments.argument_or_nil args i) z go is

  text_read : (f : Builtin) (i : ℕ) (v : Value) (o : Option Bytes) (go : Bytes → LibAnswer) → ((bs : Bytes) → Holds s (go bs))
      → Holds s (arguments.text_read f i v o go)
  text_read f i v None go is = record { holds = tt }
  text_read f i v (Some bs) go is = is bs

  text_from : (f : Builtin) (i : ℕ) (v : Value) (go : Bytes → LibAnswer) → ((bs : Bytes) → Holds s (go bs)) → Holds s (arguments.text_from f i v go)
  text_from f i v go is = text_read f i v (as_text v) go is

  text : (f : Builtin) (i : ℕ) (args : List Value) (go : Bytes → LibAnswer) → ((bs : Bytes) → Holds s (go bs)) → Holds s (arguments.text_at f i args go)
  text f i args go is = wanted f i _ (slice_get args i) _ (λ v. text_from f i v go is)

  text_unless_nil : (f : Builtin) (i : ℕ) (v : Value) (bs : Bytes) (go : Bytes → LibAnswer) → ((bs : Bytes) → Holds s (go bs))
      → Holds s (arguments.text_unless_nil f i v bs go)
  text_unless_nil f i Nil bs go is = is bs
  text_unless_nil f i v bs go is = text_from f i v go is

  text_or : (f : Builtin) (i : ℕ) (args : List Value) (bs : Bytes) (go : Bytes → LibAnswer) → ((bs : Bytes) → Holds s (go bs))
      → Holds s (arguments.text_or f i args bs go)
  text_or f i args bs go is = text_unless_nil f i (arguments.argument_or_nil args i) bs go is

  table_from : (f : Builtin) (i : ℕ) (v : Value) (go : TableRef → LibAnswer) → ((t : TableRef) → Holds s (go t)) → Holds s (arguments.table_from f i v go)
  table_from f i (Table t) go is = is t
  table_from f i v go is = record { holds = tt }

  tables_at : (f : Builtin) (i : ℕ) (args : List Value) (go : TableRef → LibAnswer) → ((t : TableRef) → Holds s (go t))
      → Holds s (arguments.table_argument f i args go)
  tables_at f i args go is = wanted f i _ (slice_get args i) _ (λ v. table_from f i v go is)

  function_by : (f : Builtin) (i : ℕ) (v : Value) (b : Bool) (go : Value → LibAnswer) (w : Wanted) → ((v : Value) → Holds s (go v))
      → Holds s (elim b [ true ↦ go v | false ↦ arguments.invalid f i w v ])
  function_by f i v true go w is = is v
  function_by f i v false go w is = record { holds = tt }

  function : (f : Builtin) (i : ℕ) (args : List Value) (go : Value → LibAnswer) → ((v : Value) → Holds s (go v))
      → Holds s (arguments.function_at f i args go)
  function f i args go is = wanted f i _ (slice_get args i) _ (λ v. function_by f i v (is_function v) go _ is)

  coroutine_from : (f : Builtin) (i : ℕ) (v : Value) (go : ℕ → LibAnswer) → ((k : ℕ) → Holds s (go k)) → Holds s (arguments.coroutine_from f i v go)
  coroutine_from f i (Thread k) go is = is k
  coroutine_from f i v go is = record { holds = tt }

  coroutine : (f : Builtin) (i : ℕ) (args : List Value) (go : ℕ → LibAnswer) → ((k : ℕ) → Holds s (go k)) → Holds s (arguments.coroutine_at f i args go)
  coroutine f i args go is = wanted f i _ (slice_get args i) _ (λ v. coroutine_from f i v go is)

  -- ---- answers

  one_of : (b : Bool) (a c : LibAnswer) → Holds s a → Holds s c → Holds s (if b then a else c)
  one_of true a c i j = i
  one_of false a c i j = j

  gives_all : (vs : List Value) → Holds s (Answers vs s)
  gives_all vs = record { holds = record { running = refl; more = []; coroutines = no_more s.coroutines } }

  gives : (v : Value) → Holds s (core.gives s v)
  gives v = gives_all (v ∷ [])

  changed : (t : TableRef) (vs : List Value) (u : TableOf) → Holds s (table.changed s t vs u)
  changed t vs u =
      let k = table_keeps s t u in
      record { holds = record { running = k.running; more = []; coroutines = k.coroutines ∙ no_more s.coroutines } }

  changes : (t : TableRef) (vs : List Value) (r : Result TableOf RunError) → Holds s (core.changes s t vs r)
  changes t vs (Ok u) = changed t vs u
  changes t vs (Err e) = record { holds = tt }

  new_table : (t : TableOf) → Holds s (string.new_table s t)
  new_table t = record { holds = record { running = refl; more = []; coroutines = no_more s.coroutines } }

  bounded : (bs : Bytes) → Holds s (if nat_le (length bs) longest_string then core.gives s (Text bs) else ErrsWith StringTooLarge)
  bounded bs = one_of (nat_le (length bs) longest_string) (core.gives s (Text bs)) (ErrsWith StringTooLarge) (gives (Text bs)) (record { holds = tt })

  -- ---- texts of values

  asks_by : (v : Value) (asking : Continue) (go : Bytes → LibAnswer) (h : Value) → ((bs : Bytes) → Holds s (go bs))
      → Holds s (core.text_of_value s v asking go h)
  asks_by v asking go Nil k = k _
  asks_by v asking go h k = record { holds = refl }

  asks_text : (v : Value) (asking : Continue) (go : Bytes → LibAnswer) → ((bs : Bytes) → Holds s (go bs)) → Holds s (core.asks_text s v asking go)
  asks_text v asking go k = asks_by v asking go (metamethod s v (codes "__tostring")) k

  prints : (args : List Value) (i : ℕ) (bs : Bytes) (vs : List Value) → Holds s (core.prints s args i bs vs)
  prints args i bs [] = record { holds = tt }
  prints args i bs (v ∷ vs) = asks_text v _ _ (λ cs. prints args (suc i) (core.with_tab i bs ++ cs) vs)

  text_given : (v : Value) (go : Bytes → LibAnswer) → ((bs : Bytes) → Holds s (go bs)) → Holds s (core.text_given v go)
  text_given (Text bs) go k = k bs
  text_given v go k = record { holds = tt }

  -- ---- the global functions

  number_or_nil : (r : ReadNumber) → Holds s (core.number_or_nil s r)
  number_or_nil None = gives Nil
  number_or_nil (Some (Ok z)) = gives (Number z)
  number_or_nil (Some (Err stop)) = record { holds = tt }

  to_number : (v : Value) → Holds s (core.to_number s v)
  to_number (Text bs) = number_or_nil _
  to_number (Number z) = gives (Number z)
  to_number v = gives Nil

  to_number_in : (radix : ℕ) (v : Value) → Holds s (core.to_number_in s radix v)
  to_number_in radix (Text bs) = number_or_nil _
  to_number_in radix (Number z) = number_or_nil _
  to_number_in radix v = gives Nil

  based : (v : Value) (radix : ℤ) → Holds s (core.to_number_based s v radix)
  based v radix =
      one_of (int_le (pos 2) radix && int_le radix (pos 36)) (core.to_number_in s (unsigned_abs radix) v) (arguments.out_of_range builtin.Tonumber 1)
      (to_number_in (unsigned_abs radix) v) (record { holds = tt })

  to_number_by : (v base : Value) → Holds s (core.to_number_by s v base)
  to_number_by v Nil = to_number v
  to_number_by v base = number_unless_nil builtin.Tonumber 1 base (pos 10) (core.to_number_based s v) (based v)

  failed : (o : Option Value) → Holds s (core.failed_assertion o)
  failed None = record { holds = tt }
  failed (Some v) = record { holds = tt }

  asserts : (b : Bool) (args : List Value) → Holds s (elim b [ true ↦ Answers args s | false ↦ core.failed_assertion (slice_get args 1) ])
  asserts true args = gives_all args
  asserts false args = failed (slice_get args 1)

  selects_from : (vs : List Value) (z : ℤ) → Holds s (core.select_from s vs z)
  selects_from vs (pos zero) = record { holds = tt }
  selects_from vs (pos (suc k)) = gives_all (drop k vs)
  selects_from vs (negsuc k) = record { holds = tt }

  selects_at : (vs : List Value) (z : ℤ) → Holds s (core.select_at s vs z)
  selects_at vs (pos k) = selects_from vs (pos k)
  selects_at vs (negsuc k) = selects_from vs _

  selects : (args : List Value) (b : Bool) → Holds s (core.selects s args b)
  selects args true = gives _
  selects args false = number builtin.Select 0 args _ (selects_at (drop 1 args))

  next_answer : (o : Option (Option (Value × Value))) → Holds s (core.next_answer s o)
  next_answer None = record { holds = tt }
  next_answer (Some None) = gives Nil
  next_answer (Some (Some e)) = gives_all (e.0 ∷ e.1 ∷ [])

  item_answer : (k : ℤ) (v : Value) → Holds s (core.item_answer s k v)
  item_answer k Nil = gives Nil
  item_answer k v = gives_all _

  raw_length : (v : Value) → Holds s (core.raw_length s v)
  raw_length (Table t) = gives _
  raw_length (Text bs) = gives _
  raw_length v = record { holds = tt }

  with_meta : (t : TableRef) (m : Option TableRef) → Holds s (core.with_meta s t m)
  with_meta t m =
      let u = record (table_at s t) { meta = m } in
      let a = Answers (Table t ∷ []) (with_table s t u) in
      one_of (core.is_protected s t) (ErrsWith ProtectedMetatable) (if (table_at s t).frozen then ErrsWith ReadonlyTable else a)
      (record { holds = tt })
      (one_of (table_at s t).frozen (ErrsWith ReadonlyTable) a (record { holds = tt }) (changed t (Table t ∷ []) u))

  set_meta_to : (t : TableRef) (v : Value) → Holds s (core.set_meta_to s t v)
  set_meta_to t Nil = with_meta t None
  set_meta_to t v = table_from builtin.Setmetatable 1 v _ (λ m. with_meta t (Some m))

  of_level : (z : ℤ) → Holds s (core.of_level z)
  of_level (pos zero) = record { holds = tt }
  of_level (pos (suc zero)) = record { holds = tt }
  of_level (pos (suc (suc k))) = record { holds = tt }
  of_level (negsuc k) = record { holds = tt }

  reads_by : (b : Bool) (v : Value) (w : Wanted)
      → Holds s (elim b [ true ↦ OnEnvironment (Reads OfScript) | false ↦ arguments.invalid builtin.Getfenv 0 w v ])
  reads_by true v w = record { holds = tt }
  reads_by false v w = record { holds = tt }

  reads : (v : Value) → Holds s (core.reads_environment v)
  reads Nil = record { holds = tt }
  reads (Number z) = of_level z
  reads (Closure f) = record { holds = tt }
  reads v = reads_by (is_function v) v _

  replaces : (f : Value) (t : TableRef) → Holds s (core.replaces_environment f t)
  replaces (Number (pos zero)) t = record { holds = tt }
  replaces (Number (pos (suc zero))) t = record { holds = tt }
  replaces (Number (pos (suc (suc k)))) t = record { holds = tt }
  replaces (Number (negsuc k)) t = record { holds = tt }
  replaces (Closure f) t = record { holds = tt }
  replaces v t = record { holds = tt }

  levels_by : (b : Bool) (v : Value) (a : LibAnswer) (w : Wanted) → Holds s a
      → Holds s (elim b [ true ↦ a | false ↦ arguments.invalid builtin.Setfenv 0 w v ])
  levels_by true v a w i = i
  levels_by false v a w i = record { holds = tt }

  levels : (v : Value) (a : LibAnswer) → Holds s a → Holds s (core.function_or_level v a)
  levels (Number z) a i = i
  levels v a i = levels_by (is_function v) v a _ i

  -- ---- `math` and `string`

  best_from : (f : Builtin) (best : ℤ → ℤ → ℤ) (i : ℕ) (vs : List Value) (z : ℤ) → Holds s (math.best_from f best s i vs z)
  best_from f best i [] z = gives _
  best_from f best i (v ∷ vs) z = number_from f i v _ (λ w. best_from f best (suc i) vs (best z w))

  clamped : (k low high : ℤ) → Holds s (math.clamped s k low high)
  clamped k low high =
      let z = int_min (int_max k low) high in
      one_of (int_lt high low) (arguments.out_of_range builtin.MathClamp 2) (core.gives s (Number z)) (record { holds = tt }) (gives (Number z))

  of_number : (f : Builtin) (g : ℤ → ℤ) (args : List Value) → Holds s (math.of_number f g args s)
  of_number f g args = number f 0 args _ (λ z. gives _)

  of_text : (f : Builtin) (g : Bytes → Bytes) (args : List Value) → Holds s (string.of_text f g args s)
  of_text f g args = text f 0 args _ (λ bs. gives _)

  byte_values : (bs : Bytes) → Holds s (string.byte_values s bs)
  byte_values bs =
      let vs = map (λ b. Number (pos b)) bs in
      one_of (nat_le (length bs) string.most_values) (Answers vs s) (ErrsWith TooManyValues) (gives_all vs) (record { holds = tt })

  char_texts : (i : ℕ) (bs : Bytes) (zs : List ℤ) → Holds s (string.char_texts s i bs zs)
  char_texts i bs [] = gives _
  char_texts i bs (z ∷ zs) =
      one_of (string.is_byte z) (string.char_texts s (suc i) (bs ++ string.natural z ∷ []) zs) (arguments.out_of_range builtin.StringChar i)
      (char_texts (suc i) (bs ++ string.natural z ∷ []) zs) (record { holds = tt })

  char_numbers : (i : ℕ) (zs : List ℤ) (vs : List Value) → Holds s (string.char_numbers s i zs vs)
  char_numbers i zs [] = char_texts 0 [] zs
  char_numbers i zs (v ∷ vs) = number_from builtin.StringChar i v _ (λ z. char_numbers (suc i) (zs ++ z ∷ []) vs)

  repeated : (bs : Bytes) (k : ℕ) (b : Bool) → Holds s (string.repeated s bs k b)
  repeated bs k true = gives _
  repeated bs k false = record { holds = tt }

  rep_text : (bs : Bytes) (k : ℕ) → Holds s (string.rep_text s bs k)
  rep_text [] k = gives _
  rep_text (b ∷ bs) k = repeated (b ∷ bs) k _

  -- ---- `string.format`

  hex_text : (d : format.Field) (capital : Bool) (i : ℕ) (go : format.Onward) (z : ℤ) → ((bs : Bytes) → Holds s (go bs))
      → Holds s (format.hex_text d capital i go z)
  hex_text d capital i go (pos k) h = h _
  hex_text d capital i go (negsuc k) h = record { holds = tt }

  byte_text : (d : format.Field) (i : ℕ) (go : format.Onward) (z : ℤ) → ((bs : Bytes) → Holds s (go bs)) → Holds s (format.byte_text d i go z)
  byte_text d i go z h =
      let bs = format.fitted d false (string.natural z ∷ []) in
      one_of (string.is_byte z) (go bs) (arguments.out_of_range builtin.StringFormat i) (h bs) (record { holds = tt })

  directive_text : (args : List Value) (i : ℕ) (bs : Bytes) (d : format.Field) (form : format.Form) (go : format.Onward)
      → ((bs : Bytes) → Holds s (go bs)) → Holds s (format.directive_text s args i bs d form go)
  directive_text args i bs d format.AsText go h =
      any builtin.StringFormat i args _
      (λ v. asks_text v (record { builtin = builtin.StringFormat; arguments = args; at = i; text = bs }) (λ cs. go (format.fitted d false cs))
      (λ cs. h (format.fitted d false cs)))
  directive_text args i bs d format.AsDecimal go h = number builtin.StringFormat i args _ (λ z. h _)
  directive_text args i bs d (format.AsHex capital) go h = number builtin.StringFormat i args _ (λ z. hex_text d capital i go z h)
  directive_text args i bs d format.AsByte go h = number builtin.StringFormat i args _ (λ z. byte_text d i go z h)

  formats : (args : List Value) (ps : List format.Piece) (i : ℕ) (bs : Bytes) → Holds s (format.formats s args ps i bs)
  formats args [] i bs = bounded bs
  formats args (format.Plainly b ∷ ps) i bs = formats args ps i (bs ++ b ∷ [])
  formats args (format.Malformed ∷ ps) i bs = record { holds = tt }
  formats args (format.Directive d ∷ ps) i bs = directive_text args i bs d d.form _ (λ cs. formats args ps (suc i) (bs ++ cs))

  formats_on : (c : Continue) (bs : Bytes) (d : Option (format.Field × List format.Piece)) → Holds s (format.formats_on s c bs d)
  formats_on c bs None = record { holds = tt }
  formats_on c bs (Some d) = formats c.arguments d.1 (suc c.at) _

  format_goes_on : (c : Continue) (bs : Bytes) → Holds s (format.format_goes_on c s bs)
  format_goes_on c bs = text builtin.StringFormat 0 c.arguments _ (λ f. formats_on c bs (format.directive_for c.at (format.pieces_of f)))

  -- ---- `table`

  joins : (t : TableOf) (sep : Bytes) (k : ℤ) (count : ℕ) (front : Option Bytes) → Holds s (table.joins s t sep k count front)
  joins t sep k zero front = bounded (table.whole_text front)
  joins t sep k (suc count) front = by (as_text (tables.item t k)) (λ bs. joins t sep (k +ℤ pos 1) count (Some (table.joined_with sep front bs)))
    where
      by : (o : Option Bytes) → ((bs : Bytes) → Holds s (table.joins s t sep (k +ℤ pos 1) count (Some (table.joined_with sep front bs))))
          → Holds s (elim o [
            | None ↦ ErrsWith (InvalidElement (kind_of (tables.item t k)) k)
            | Some bs ↦ table.joins s t sep (k +ℤ pos 1) count (Some (table.joined_with sep front bs))
          ])
      by None h = record { holds = tt }
      by (Some bs) h = h bs

  unpacks : (t : TableOf) (i : ℤ) (count : ℕ) (b : Bool) → Holds s (table.unpacks s t i count b)
  unpacks t i count true = gives_all _
  unpacks t i count false = record { holds = tt }

  finds_by : (b c : Bool) (k : ℤ) (a : LibAnswer) → Holds s a
      → Holds s (elim b [ true ↦ core.gives s Nil | false ↦ elim c [ true ↦ core.gives s (Number k) | false ↦ a ] ])
  finds_by true c k a h = gives Nil
  finds_by false true k a h = gives (Number k)
  finds_by false false k a h = h

  finds : (most : ℕ) (t : TableOf) (v : Value) (k : ℤ) → Holds s (table.finds most s t v k)
  finds zero t v k = gives Nil
  finds (suc most) t v k = finds_by (tables.is_nil (tables.item t k)) (tables.same (tables.item t k) v) k _ (finds most t v (k +ℤ pos 1))

  unless_frozen : (t : TableRef) (a : LibAnswer) → Holds s a → Holds s (table.unless_frozen s t a)
  unless_frozen t a i = one_of (table_at s t).frozen (ErrsWith ReadonlyTable) a (record { holds = tt }) i

  in_range : (z : ℤ) (a : LibAnswer) → Holds s a → Holds s (table.if_in_range z a)
  in_range z a i = one_of (is_whole z) a (HaltsWith OutOfRange) i (record { holds = tt })

  inserts_at : (t : TableRef) (v : Value) (k : ℤ) → Holds s (table.insert_at s t v k)
  inserts_at t v k =
      let last = table.end_of (table_at s t) +ℤ pos 1 in
      let a = table.changed s t [] (table.with_inserted (table_at s t) k v) in
      one_of (table.is_between (pos 1) k last) (table.unless_frozen s t (table.if_in_range last a)) (arguments.out_of_range builtin.TableInsert 1)
      (unless_frozen t (table.if_in_range last a) (in_range last a (changed t [] _))) (record { holds = tt })

  appends : (t : TableRef) (v : Value) → Holds s (table.append s t v)
  appends t v =
      let last = table.end_of (table_at s t) +ℤ pos 1 in
      let a = table.changed s t [] (tables.put (table_at s t) (Number last) v) in
      unless_frozen t (table.if_in_range last a) (in_range last a (changed t [] _))

  inserts : (t : TableRef) (args : List Value) (o : Option Value) → Holds s (table.inserts s t args o)
  inserts t args None = any builtin.TableInsert 1 args _ (λ v. appends t v)
  inserts t args (Some v) = number builtin.TableInsert 1 args _ (λ k. inserts_at t v k)

  removes_at : (t : TableRef) (k : ℤ) → Holds s (table.remove_at s t k)
  removes_at t k =
      let a = table.changed s t (tables.item (table_at s t) k ∷ []) (table.without_item (table_at s t) k) in
      let b = table.is_between (pos 1) k (table.end_of (table_at s t)) in
      unless_frozen t (if b then a else core.gives s Nil) (one_of b a (core.gives s Nil) (changed t _ _) (gives Nil))

  creates : (k : ℕ) (v : Value) (b : Bool) → Holds s (table.creates s k v b)
  creates k v true = new_table _
  creates k v false = record { holds = tt }

  clones : (t : TableRef) → Holds s (table.clones s t)
  clones t =
      one_of (core.is_protected s t) (ErrsWith ProtectedMetatable) (string.new_table s (table.copy_of (table_at s t))) (record { holds = tt })
      (new_table (table.copy_of (table_at s t)))

  moved : (t u : TableRef) (first k : ℤ) (count : ℕ) → Holds s (table.moved s t u first k count)
  moved t u first k zero = gives (Table u)
  moved t u first k (suc count) =
      let a = table.changed s u (Table u ∷ []) (tables.put_all (table_at s u) k (table.items (table_at s t) first (suc count))) in
      in_range k (table.if_in_range (k +ℤ pos count) a) (in_range (k +ℤ pos count) a (changed u (Table u ∷ []) _))

  moves : (t u : TableRef) (first k : ℤ) (count : ℕ) (b : Bool) → Holds s (table.moves s t u first k count b)
  moves t u first k count true = unless_frozen u _ (moved t u first k count)
  moves t u first k count false = record { holds = tt }

  moves_into : (t : TableRef) (first last k : ℤ) (v : Value) → Holds s (table.move_into s t first last k v)
  moves_into t first last k Nil = moves t t first k (string.count_between first last) (nat_le (string.count_between first last) table.most_elements)
  moves_into t first last k v =
      table_from builtin.TableMove 4 v _
      (λ u. moves t u first k (string.count_between first last) (nat_le (string.count_between first last) table.most_elements))

  sorts : (t : TableRef) (v : Value) (vs : List Value) (o : Option Value) → Holds s (table.sorts s t v vs o)
  sorts t v vs None = changed t [] _
  sorts t v vs (Some w) = record { holds = tt }

  sort_items : (t : TableRef) (vs : List Value) → Holds s (table.sort_items s t vs)
  sort_items t [] = gives_all []
  sort_items t (v ∷ vs) = sorts t v (v ∷ vs) (table.unordered v (v ∷ vs))

  -- ---- `coroutine`

  close_row : (args : List Value) → (IsClose builtin.CoroutineClose args → ⊥) → Holds s (co.close_row args s)
  close_row [] n = record { holds = tt }
  close_row (Thread i ∷ vs) n = absurd (n tt)
  close_row (v ∷ vs) n = record { holds = tt }

  -- ---- each function

  type_row : (f : Builtin) (args : List Value) → Holds s (core.type_row f args s)
  type_row f args = any f 0 args _ (λ v. gives _)

  lib_holds : (b : Builtin) (args : List Value) → (IsClose b args → ⊥) → Holds s (lib b args s)
  unfolding lib
  lib_holds builtin.Print args n = prints args 0 [] args
  lib_holds builtin.Type args n = type_row builtin.Type args
  lib_holds builtin.Typeof args n = type_row builtin.Typeof args
  lib_holds builtin.Tostring args n = any builtin.Tostring 0 args _ (λ v. asks_text v _ _ (λ bs. gives (Text bs)))
  lib_holds builtin.Tonumber args n = any builtin.Tonumber 0 args _ (λ v. to_number_by v (arguments.argument_or_nil args 1))
  lib_holds builtin.Assert args n = any builtin.Assert 0 args _ (λ v. asserts (is_true v) args)
  lib_holds builtin.Error args n = record { holds = tt }
  lib_holds builtin.Pcall args n = any builtin.Pcall 0 args _ (λ f. record { holds = refl })
  lib_holds builtin.Xpcall args n = any builtin.Xpcall 0 args _ (λ f. function builtin.Xpcall 1 args _ (λ h. record { holds = refl }))
  lib_holds builtin.Select args n = selects args _
  lib_holds builtin.Next args n = tables_at builtin.Next 0 args _ (λ t. next_answer _)
  lib_holds builtin.Pairs args n = tables_at builtin.Pairs 0 args _ (λ t. gives_all _)
  lib_holds builtin.Ipairs args n = tables_at builtin.Ipairs 0 args _ (λ t. gives_all _)
  lib_holds builtin.IpairsIterator args n =
      tables_at builtin.IpairsIterator 0 args _ (λ t. number builtin.IpairsIterator 1 args _ (λ k. item_answer _ _))
  lib_holds builtin.Rawget args n = tables_at builtin.Rawget 0 args _ (λ t. any builtin.Rawget 1 args _ (λ k. gives _))
  lib_holds builtin.Rawset args n =
      tables_at builtin.Rawset 0 args _ (λ t. any builtin.Rawset 1 args _ (λ k. any builtin.Rawset 2 args _ (λ v. changes t _ _)))
  lib_holds builtin.Rawequal args n = any builtin.Rawequal 0 args _ (λ a. any builtin.Rawequal 1 args _ (λ b. gives _))
  lib_holds builtin.Rawlen args n = wanted builtin.Rawlen 0 _ (slice_get args 0) _ raw_length
  lib_holds builtin.Getmetatable args n = any builtin.Getmetatable 0 args _ (λ v. gives _)
  lib_holds builtin.Setmetatable args n =
      tables_at builtin.Setmetatable 0 args _ (λ t. wanted builtin.Setmetatable 1 _ (slice_get args 1) _ (set_meta_to t))
  lib_holds builtin.Getfenv args n = reads _
  lib_holds builtin.Setfenv args n =
      wanted builtin.Setfenv 0 _ (slice_get args 0) _ (λ f. levels f _ (tables_at builtin.Setfenv 1 args _ (λ t. replaces f t)))
  lib_holds builtin.MathAbs args n = of_number builtin.MathAbs math.absolute args
  lib_holds builtin.MathCeil args n = of_number builtin.MathCeil (λ z. z) args
  lib_holds builtin.MathFloor args n = of_number builtin.MathFloor (λ z. z) args
  lib_holds builtin.MathRound args n = of_number builtin.MathRound (λ z. z) args
  lib_holds builtin.MathSign args n = of_number builtin.MathSign int_signum args
  lib_holds builtin.MathMax args n = number builtin.MathMax 0 args _ (best_from builtin.MathMax int_max 1 (drop 1 args))
  lib_holds builtin.MathMin args n = number builtin.MathMin 0 args _ (best_from builtin.MathMin int_min 1 (drop 1 args))
  lib_holds builtin.MathClamp args n =
      number builtin.MathClamp 0 args _ (λ k. number builtin.MathClamp 1 args _ (λ low. number builtin.MathClamp 2 args _ (clamped k low)))
  lib_holds builtin.StringByte args n =
      text builtin.StringByte 0 args _
      (λ bs. number_or builtin.StringByte 1 args (pos 1) _ (λ i. number_or builtin.StringByte 2 args i _ (λ j. byte_values _)))
  lib_holds builtin.StringChar args n = number builtin.StringChar 0 args _ (λ z. char_numbers 1 (z ∷ []) (drop 1 args))
  lib_holds builtin.StringLen args n = text builtin.StringLen 0 args _ (λ bs. gives _)
  lib_holds builtin.StringSub args n =
      text builtin.StringSub 0 args _
      (λ bs. number builtin.StringSub 1 args _ (λ i. number_or builtin.StringSub 2 args (negsuc 0) _ (λ j. gives _)))
  lib_holds builtin.StringLower args n = of_text builtin.StringLower (map to_ascii_lowercase) args
  lib_holds builtin.StringUpper args n = of_text builtin.StringUpper (map to_ascii_uppercase) args
  lib_holds builtin.StringRep args n = text builtin.StringRep 0 args _ (λ bs. number builtin.StringRep 1 args _ (λ k. rep_text bs _))
  lib_holds builtin.StringReverse args n = of_text builtin.StringReverse reverse args
  lib_holds builtin.StringSplit args n =
      text builtin.StringSplit 0 args _ (λ bs. text_or builtin.StringSplit 1 args (44 ∷ []) _ (λ sep. new_table _))
  lib_holds builtin.StringFormat args n = text builtin.StringFormat 0 args _ (λ bs. formats args (format.pieces_of bs) 1 [])
  lib_holds builtin.TableInsert args n = tables_at builtin.TableInsert 0 args _ (λ t. inserts t args (slice_get args 2))
  lib_holds builtin.TableRemove args n = tables_at builtin.TableRemove 0 args _ (λ t. number_or builtin.TableRemove 1 args _ _ (removes_at t))
  lib_holds builtin.TableConcat args n =
      tables_at builtin.TableConcat 0 args _
      (λ t. text_or builtin.TableConcat 1 args [] _
      (λ sep. number_or builtin.TableConcat 2 args (pos 1) _ (λ i. number_or builtin.TableConcat 3 args _ _ (λ j. joins _ sep i _ None))))
  lib_holds builtin.TableUnpack args n =
      tables_at builtin.TableUnpack 0 args _
      (λ t. number_or builtin.TableUnpack 1 args (pos 1) _ (λ i. number_or builtin.TableUnpack 2 args _ _ (λ j. unpacks _ i _ _)))
  lib_holds builtin.TablePack args n = new_table _
  lib_holds builtin.TableCreate args n =
      number builtin.TableCreate 0 args _
      (λ k. creates (string.natural k) (arguments.argument_or_nil args 1) (nat_le (string.natural k) table.most_elements))
  lib_holds builtin.TableFind args n =
      tables_at builtin.TableFind 0 args _
      (λ t. any builtin.TableFind 1 args _ (λ v. number_or builtin.TableFind 2 args (pos 1) _ (finds _ _ v)))
  lib_holds builtin.TableClear args n =
      tables_at builtin.TableClear 0 args _ (λ t. unless_frozen t _ (changed t [] (table.cleared (table_at s t))))
  lib_holds builtin.TableClone args n = tables_at builtin.TableClone 0 args _ clones
  lib_holds builtin.TableFreeze args n = tables_at builtin.TableFreeze 0 args _ (λ t. changed t (Table t ∷ []) _)
  lib_holds builtin.TableIsfrozen args n = tables_at builtin.TableIsfrozen 0 args _ (λ t. gives _)
  lib_holds builtin.TableMove args n =
      tables_at builtin.TableMove 0 args _
      (λ t. number builtin.TableMove 1 args _ (λ first. number builtin.TableMove 2 args _
      (λ last. number builtin.TableMove 3 args _ (λ k. moves_into t first last k _))))
  lib_holds builtin.TableSort args n =
      tables_at builtin.TableSort 0 args _
      (λ t. unless_frozen t _ (sort_items t (table.items (table_at s t) (pos 1) (tables.border (table_at s t)))))
  lib_holds builtin.CoroutineCreate args n =
      function builtin.CoroutineCreate 0 args _ (λ f. record { holds = record { running = refl; more = _; coroutines = refl } })
  lib_holds builtin.CoroutineResume args n = coroutine builtin.CoroutineResume 0 args _ (λ k. record { holds = tt })
  lib_holds builtin.CoroutineYield args n = record { holds = tt }
  lib_holds builtin.CoroutineStatus args n = coroutine builtin.CoroutineStatus 0 args _ (λ k. gives _)
  lib_holds builtin.CoroutineWrap args n =
      function builtin.CoroutineWrap 0 args _ (λ f. record { holds = record { running = refl; more = _; coroutines = refl } })
  lib_holds builtin.CoroutineIsyieldable args n = gives _
  lib_holds builtin.CoroutineRunning args n = gives _
  lib_holds builtin.CoroutineClose args n = close_row args n

  goes_on_holds : (b : Builtin) (c : Continue) (bs : Bytes) → Holds s (goes_on b c s bs)
  goes_on_holds builtin.Print c bs = prints c.arguments (suc c.at) _ _
  goes_on_holds builtin.StringFormat c bs = format_goes_on c bs
  goes_on_holds b c bs = gives (Text bs)

  go_on_holds : (c : Continue) (v : Value) → Holds s (go_on c v s)
  unfolding go_on
  go_on_holds c v = text_given v (goes_on c.builtin c s) (λ bs. goes_on_holds c.builtin c bs)

  -- so it is for each function of the library, and where one goes on with a text that it asked for
  pub library_keeps : (b : Builtin) (args : List Value) → (IsClose b args → ⊥) → AnswerKeeps s (lib b args s)
  library_keeps b args n = (lib_holds b args n).holds

  pub continue_keeps : (c : Continue) (v : Value) → AnswerKeeps s (go_on c v s)
  continue_keeps c v = (go_on_holds c v).holds

  -- values come from no call that closes a coroutine
  closes_none : (b : Builtin) (args vs : List Value) (t : Store) → lib b args s ≡ Answers vs t → IsClose b args → ⊥
  unfolding lib
  closes_none builtin.CoroutineClose (Thread i ∷ us) vs t e c = cc
  closes_none b args vs t e c = c

  pub answers_keep : (b : Builtin) (args vs : List Value) (t : Store) → lib b args s ≡ Answers vs t → Kept s t
  answers_keep b args vs t e = subst (AnswerKeeps s) e (library_keeps b args (closes_none b args vs t e))
