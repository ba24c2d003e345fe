-- Library functions that leave the store as it is.
use Rattle.std.proofs.Common.{ℕ, zero, suc, ℤ, pos, negsuc, ◌+ℤ◌, Bool, true, false, ◌&&◌, cond, List, [], ◌∷◌, ◌++◌, drop, Option, Some, None, Ok, Err, codes}
use Rattle.std.specs.Prelude.{MatchOption, slice_get, if◌then◌else◌, unsigned_abs, int_le}
use Rattle.value_model.specs.declared.builtin.Builtin.{Builtin}
use Rattle.value_model.specs.declared.builtin.Builtin.TheVariants as builtin
use Rattle.whole_num.specs.NumberTexts.{ReadNumber}
use Rattle.value_model.specs.Values.{Bytes, TableRef, Value, Nil, Number, Text, Table, Closure, is_true}
use Rattle.value_model.specs.Store.{Store, TableOf, table_at}
use Rattle.value_model.specs.Waits.{Continue}
use Rattle.value_model.specs.Pairs as pairs
use Rattle.value_model.specs.Tables as tables
use Rattle.value_model.specs.Metamethods.{metamethod, is_function}
use Rattle.value_model.specs.Answers.{LibAnswer, Answers, OnEnvironment, Reads, OfScript}
use Rattle.value_model.specs.Arguments as arguments
use Rattle.value_model.specs.CoreRows as core
use Rattle.value_model.specs.TableRows as table
use Rattle.checked_runs.specs.Safe.{Each, IsMade, AreMade, IsEntry, IsTable, IsStore}
use Rattle.checked_runs.proofs.Elements.{each_drop}
use Rattle.checked_runs.proofs.Operations.{get_made, table_made, metamethod_made, said_made}
use Rattle.checked_runs.proofs.Arguments as given
use Rattle.checked_runs.proofs.Arguments.{Holds}

-- ---- walks of a table

module _ (n : ℕ) where
  found_one : (b : Bool) (o q : Option (Value × Value)) → MatchOption o (Unit {0}) (IsEntry n) → MatchOption q (Unit {0}) (IsEntry n)
      → MatchOption (cond b o q) (Unit {0}) (IsEntry n)
  found_one true o q i j = i
  found_one false o q i j = j

  first_found : (is_nil : Value → Bool) (same : Value → Value → Bool) (es : List (Value × Value)) → Each (IsEntry n) es
      → MatchOption (pairs.first_entry same is_nil Nil es) (Unit {0}) (IsEntry n)
  first_found is_nil same [] i = tt
  first_found is_nil same (e ∷ es) i = found_one (is_nil e.1) _ (Some e) (first_found is_nil same es i.1) i.0

  next_one : (b : Bool) (o q : Option (Option (Value × Value))) → MatchOption o (Unit {0}) (λ e. MatchOption e (Unit {0}) (IsEntry n))
      → MatchOption q (Unit {0}) (λ e. MatchOption e (Unit {0}) (IsEntry n))
      → MatchOption (cond b o q) (Unit {0}) (λ e. MatchOption e (Unit {0}) (IsEntry n))
  next_one true o q i j = i
  next_one false o q i j = j

  after_found : (is_nil : Value → Bool) (same : Value → Value → Bool) (es : List (Value × Value)) (key : Value) → Each (IsEntry n) es
      → MatchOption (pairs.entry_after same is_nil Nil es key) (Unit {0}) (λ e. MatchOption e (Unit {0}) (IsEntry n))
  after_found is_nil same [] key i = tt
  after_found is_nil same (e ∷ es) key i = next_one (same key e.0) (Some _) _ (first_found is_nil same es i.1) (after_found is_nil same es key i.1)

  next_found : (t : TableOf) (key : Value) → IsTable n t
      → MatchOption (tables.next_entry t key) (Unit {0}) (λ e. MatchOption e (Unit {0}) (IsEntry n))
  unfolding tables.next_entry
  next_found t key i =
      next_one (tables.is_nil key) (Some _) _ (first_found tables.is_nil tables.same t.entries i)
      (after_found tables.is_nil tables.same t.entries key i)

  pub items_made : (t : TableOf) (k : ℤ) (count : ℕ) → IsTable n t → AreMade n (table.items t k count)
  items_made t k zero i = tt
  items_made t k (suc count) i = (get_made n t (Number k) i, items_made t (k +ℤ pos 1) count i)

module _ (n : ℕ) (s : Store) (is : IsStore n s) (P : List Value → Store → Type 0) (stays : (vs : List Value) → AreMade n vs → P vs s) where
  pub gives : (v : Value) → IsMade n v → Holds P n (core.gives s v)
  gives v m = record { holds = stays (v ∷ []) (m, tt) }

  pub gives_all : (vs : List Value) → AreMade n vs → Holds P n (Answers vs s)
  gives_all vs m = record { holds = stays vs m }

  pub one_of : (b : Bool) (a c : LibAnswer) → Holds P n a → Holds P n c → Holds P n (if b then a else c)
  one_of true a c i j = i
  one_of false a c i j = j

  -- ---- texts

  asks_by : (v : Value) (asking : Continue) (go : Bytes → LibAnswer) (h : Value) → IsMade n v → IsMade n h → AreMade n asking.arguments
      → ((bs : Bytes) → Holds P n (go bs))
      → Holds P n (core.text_of_value s v asking go h)
  asks_by v asking go Nil i j m k = k _
  asks_by v asking go h i j m k = record { holds = (j, (i, tt), m) }

  pub asks_text : (v : Value) (asking : Continue) (go : Bytes → LibAnswer) → IsMade n v → AreMade n asking.arguments
      → ((bs : Bytes) → Holds P n (go bs))
      → Holds P n (core.asks_text s v asking go)
  asks_text v asking go i m k = asks_by v asking go (metamethod s v (codes "__tostring")) i (metamethod_made n s v (codes "__tostring") is) m k

  pub prints : (args : List Value) (i : ℕ) (text : Bytes) (vs : List Value) → AreMade n args → AreMade n vs → Holds P n (core.prints s args i text vs)
  prints args i text [] m k = record { holds = tt }
  prints args i text (v ∷ vs) m k = asks_text v _ _ k.0 m (λ bs. prints args (suc i) (core.with_tab i text ++ bs) vs m k.1)

  pub text_given : (v : Value) (go : Bytes → LibAnswer) → ((bs : Bytes) → Holds P n (go bs)) → Holds P n (core.text_given v go)
  text_given (Text bs) go k = k bs
  text_given v go k = record { holds = tt }

  pub tostring_row : (args : List Value) → AreMade n args → Holds P n (core.tostring_row args s)
  tostring_row args m = given.any n P builtin.Tostring 0 args _ m (λ v i. asks_text v _ _ i m (λ bs. gives (Text bs) tt))

  pub type_row : (f : Builtin) (args : List Value) → AreMade n args → Holds P n (core.type_row f args s)
  type_row f args m = given.any n P f 0 args _ m (λ v i. gives _ tt)

  -- ---- numbers

  number_or_nil : (r : ReadNumber) → Holds P n (core.number_or_nil s r)
  number_or_nil None = gives Nil tt
  number_or_nil (Some (Ok z)) = gives (Number z) tt
  number_or_nil (Some (Err stop)) = record { holds = tt }

  to_number : (v : Value) → Holds P n (core.to_number s v)
  to_number (Text bs) = number_or_nil _
  to_number (Number z) = gives (Number z) tt
  to_number v = gives Nil tt

  to_number_in : (radix : ℕ) (v : Value) → Holds P n (core.to_number_in s radix v)
  to_number_in radix (Text bs) = number_or_nil _
  to_number_in radix (Number z) = number_or_nil _
  to_number_in radix v = gives Nil tt

  based : (v : Value) (radix : ℤ) → Holds P n (core.to_number_based s v radix)
  based v radix =
      one_of (int_le (pos 2) radix && int_le radix (pos 36)) (core.to_number_in s (unsigned_abs radix) v) (arguments.out_of_range builtin.Tonumber 1)
      (to_number_in (unsigned_abs radix) v) (record { holds = tt })

  to_number_by : (v base : Value) → Holds P n (core.to_number_by s v base)
  to_number_by v Nil = to_number v
  to_number_by v base = given.number_unless_nil n P builtin.Tonumber 1 base (pos 10) (core.to_number_based s v) (based v)

  pub tonumber_row : (args : List Value) → AreMade n args → Holds P n (core.tonumber_row args s)
  tonumber_row args m = given.any n P builtin.Tonumber 0 args _ m (λ v i. to_number_by v (arguments.argument_or_nil args 1))

  -- ---- errors and protected calls

  failed : (o : Option Value) → MatchOption o (Unit {0}) (IsMade n) → Holds P n (core.failed_assertion o)
  failed None m = record { holds = tt }
  failed (Some v) m = record { holds = m }

  asserts : (b : Bool) (args : List Value) → AreMade n args
      → Holds P n (elim b [ true ↦ Answers args s | false ↦ core.failed_assertion (slice_get args 1) ])
  asserts true args m = gives_all args m
  asserts false args m = failed (slice_get args 1) (given.argument_made n args 1 m)

  pub assert_row : (args : List Value) → AreMade n args → Holds P n (core.assert_row args s)
  assert_row args m = given.any n P builtin.Assert 0 args _ m (λ v i. asserts (is_true v) args m)

  pub error_row : (args : List Value) → AreMade n args → Holds P n (core.error_row args s)
  error_row args m = record { holds = given.nil_made n args 0 m }

  pub pcall_row : (args : List Value) → AreMade n args → Holds P n (core.pcall_row args s)
  pcall_row args m = given.any n P builtin.Pcall 0 args _ m (λ f i. record { holds = (i, each_drop (IsMade n) 1 args m, tt) })

  pub xpcall_row : (args : List Value) → AreMade n args → Holds P n (core.xpcall_row args s)
  xpcall_row args m =
      given.any n P builtin.Xpcall 0 args _ m
      (λ f i. given.function n P builtin.Xpcall 1 args _ m (λ h j. record { holds = (i, each_drop (IsMade n) 2 args m, j) }))

  -- ---- `select`, walks and raw access

  selects_from : (vs : List Value) (z : ℤ) → AreMade n vs → Holds P n (core.select_from s vs z)
  selects_from vs (pos zero) m = record { holds = tt }
  selects_from vs (pos (suc k)) m = gives_all (drop k vs) (each_drop (IsMade n) k vs m)
  selects_from vs (negsuc k) m = record { holds = tt }

  selects_at : (vs : List Value) (z : ℤ) → AreMade n vs → Holds P n (core.select_at s vs z)
  selects_at vs (pos k) m = selects_from vs (pos k) m
  selects_at vs (negsuc k) m = selects_from vs _ m

  selects : (args : List Value) (b : Bool) → AreMade n args → Holds P n (core.selects s args b)
  selects args true m = gives _ tt
  selects args false m = given.number n P builtin.Select 0 args _ m (λ z. selects_at (drop 1 args) z (each_drop (IsMade n) 1 args m))

  pub select_row : (args : List Value) → AreMade n args → Holds P n (core.select_row args s)
  select_row args m = selects args _ m

  next_answer : (o : Option (Option (Value × Value))) → MatchOption o (Unit {0}) (λ e. MatchOption e (Unit {0}) (IsEntry n))
      → Holds P n (core.next_answer s o)
  next_answer None m = record { holds = tt }
  next_answer (Some None) m = gives Nil tt
  next_answer (Some (Some e)) m = gives_all (e.0 ∷ e.1 ∷ []) (m.0, (m.1, tt))

  pub next_row : (args : List Value) → AreMade n args → Holds P n (core.next_row args s)
  next_row args m = given.table n P builtin.Next 0 args _ m (λ t. next_answer _ (next_found n (table_at s t) _ (table_made n s t is)))

  pub pairs_row : (args : List Value) → AreMade n args → Holds P n (core.pairs_row args s)
  pairs_row args m = given.table n P builtin.Pairs 0 args _ m (λ t. gives_all _ (tt, (tt, (tt, tt))))

  pub ipairs_row : (args : List Value) → AreMade n args → Holds P n (core.ipairs_row args s)
  ipairs_row args m = given.table n P builtin.Ipairs 0 args _ m (λ t. gives_all _ (tt, (tt, (tt, tt))))

  item_answer : (k : ℤ) (v : Value) → IsMade n v → Holds P n (core.item_answer s k v)
  item_answer k Nil m = gives Nil tt
  item_answer k v m = gives_all _ (tt, (m, tt))

  pub ipairs_iterator_row : (args : List Value) → AreMade n args → Holds P n (core.ipairs_iterator_row args s)
  ipairs_iterator_row args m =
      given.table n P builtin.IpairsIterator 0 args _ m
      (λ t. given.number n P builtin.IpairsIterator 1 args _ m (λ k. item_answer _ _ (get_made n (table_at s t) _ (table_made n s t is))))

  pub rawget_row : (args : List Value) → AreMade n args → Holds P n (core.rawget_row args s)
  rawget_row args m =
      given.table n P builtin.Rawget 0 args _ m
      (λ t. given.any n P builtin.Rawget 1 args _ m (λ k i. gives _ (get_made n (table_at s t) k (table_made n s t is))))

  pub rawequal_row : (args : List Value) → AreMade n args → Holds P n (core.rawequal_row args s)
  rawequal_row args m = given.any n P builtin.Rawequal 0 args _ m (λ a i. given.any n P builtin.Rawequal 1 args _ m (λ b j. gives _ tt))

  raw_length : (v : Value) → Holds P n (core.raw_length s v)
  raw_length (Table t) = gives _ tt
  raw_length (Text bs) = gives _ tt
  raw_length v = record { holds = tt }

  pub rawlen_row : (args : List Value) → AreMade n args → Holds P n (core.rawlen_row args s)
  rawlen_row args m = given.wanted n P builtin.Rawlen 0 _ (slice_get args 0) _ (given.argument_made n args 0 m) (λ v i. raw_length v)

  -- ---- metatables and environments

  shown_made : (t : TableRef) (v : Value) → IsMade n v → IsMade n (core.shown_metatable t v)
  shown_made t Nil m = tt
  shown_made t v m = m

  metatable_made : (o : Option TableRef) → IsMade n (core.metatable_value s o)
  metatable_made None = tt
  metatable_made (Some t) = shown_made t _ (said_made n s (Some t) (codes "__metatable") is)

  pub getmetatable_row : (args : List Value) → AreMade n args → Holds P n (core.getmetatable_row args s)
  getmetatable_row args m = given.any n P builtin.Getmetatable 0 args _ m (λ v i. gives _ (metatable_made (core.metatable_of s v)))

  of_level : (z : ℤ) → Holds P n (core.of_level z)
  of_level (pos zero) = record { holds = tt }
  of_level (pos (suc zero)) = record { holds = tt }
  of_level (pos (suc (suc k))) = record { holds = tt }
  of_level (negsuc k) = record { holds = tt }

  reads_by : (b : Bool) (v : Value) (w : _)
      → Holds P n (elim b [ true ↦ OnEnvironment (Reads OfScript) | false ↦ arguments.invalid builtin.Getfenv 0 w v ])
  reads_by true v w = record { holds = tt }
  reads_by false v w = record { holds = tt }

  reads : (v : Value) → IsMade n v → Holds P n (core.reads_environment v)
  reads Nil m = record { holds = tt }
  reads (Number z) m = of_level z
  reads (Closure f) m = record { holds = m }
  reads v m = reads_by (is_function v) v _

  pub getfenv_row : (args : List Value) → AreMade n args → Holds P n (core.getfenv_row args s)
  getfenv_row args m = reads _ (given.nil_made n args 0 m)

  replaces : (f : Value) (t : TableRef) → IsMade n f → Holds P n (core.replaces_environment f t)
  replaces (Number (pos zero)) t m = record { holds = tt }
  replaces (Number (pos (suc zero))) t m = record { holds = tt }
  replaces (Number (pos (suc (suc k)))) t m = record { holds = tt }
  replaces (Number (negsuc k)) t m = record { holds = tt }
  replaces (Closure f) t m = record { holds = m }
  replaces v t m = record { holds = tt }

  levels_by : (b : Bool) (v : Value) (a : LibAnswer) (w : _) → Holds P n a
      → Holds P n (elim b [ true ↦ a | false ↦ arguments.invalid builtin.Setfenv 0 w v ])
  levels_by true v a w i = i
  levels_by false v a w i = record { holds = tt }

  levels : (v : Value) (a : LibAnswer) → Holds P n a → Holds P n (core.function_or_level v a)
  levels (Number z) a i = i
  levels v a i = levels_by (is_function v) v a _ i

  pub setfenv_row : (args : List Value) → AreMade n args → Holds P n (core.setfenv_row args s)
  setfenv_row args m =
      given.wanted n P builtin.Setfenv 0 _ (slice_get args 0) _ (given.argument_made n args 0 m)
      (λ f i. levels f _ (given.table n P builtin.Setfenv 1 args _ m (λ t. replaces f t i)))
