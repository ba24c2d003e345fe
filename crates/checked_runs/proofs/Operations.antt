-- Operations on values make no function, and leave functions and coroutines as they were.
use Rattle.std.proofs.Common.{refl, sym, ℕ, zero, suc, ℤ, Bool, true, false, cond, List, [], ◌∷◌, ◌++◌, length, Option, Some, None, Ok, Err, Result, append-nil, codes}
use Rattle.std.specs.Prelude.{if◌then◌else◌, int_lt, int_le, nat_le, IfOk}
use Rattle.value_model.specs.declared.operator.ArithOp.{ArithOp}
use Rattle.value_model.specs.declared.operator.ArithOp.TheVariants as op
use Rattle.value_model.specs.declared.operator.CompareOp.{CompareOp}
use Rattle.value_model.specs.declared.operator.CompareOp.TheVariants as order
use Rattle.whole_num.specs.declared.arithmetic.Stop.{Stop}
use Rattle.whole_num.specs.NumberTexts.{ReadNumber}
use Rattle.value_model.specs.Values.{Bytes, TableRef, Shared, Own, Value, Nil, Boolean, Text, Table}
use Rattle.value_model.specs.Errors.{RunError, IndexChain, NewindexChain, ReadonlyTable, NilKey, StringTooLarge}
use Rattle.value_model.specs.Store.{Store, TableOf, empty_table, table_at, with_table}
use Rattle.value_model.specs.Pairs as pairs
use Rattle.value_model.specs.Operators.{calculated}
use Rattle.value_model.specs.Tables as tables
use Rattle.value_model.specs.CoroutineRows.{coroutine_of}
use Rattle.value_model.specs.Choices.{Operation, Index, Newindex, Arith, Compare, Concat, Length, Callee, Outcome, Done, CallThis, Errs}
use Rattle.value_model.specs.Metamethods as meta
use Rattle.value_model.specs.Metamethods.{choose}
use Rattle.checked_runs.specs.Safe.{Each, IsMade, AreMade, IsEntry, IsTable, IsStore}
use Rattle.checked_runs.specs.Keeps.{Keeps, OperandsAreMade, OutcomeIsMade, ChoiceIsMade, OperationsKeep}
use Rattle.checked_runs.proofs.Elements.{each_or, each_set}

-- ---- tables

module _ (n : ℕ) where
  pub made_one : (b : Bool) (v u : Value) → IsMade n v → IsMade n u → IsMade n (cond b v u)
  made_one true v u i j = i
  made_one false v u i j = j

  each_one : (b : Bool) (es fs : List (Value × Value)) → Each (IsEntry n) es → Each (IsEntry n) fs → Each (IsEntry n) (cond b es fs)
  each_one true es fs i j = i
  each_one false es fs i j = j

  under_made : (same : Value → Value → Bool) (is_nil : Value → Bool) (es : List (Value × Value)) (key : Value) → Each (IsEntry n) es
      → IsMade n (pairs.value_under same is_nil Nil es key)
  under_made same is_nil [] key i = tt
  under_made same is_nil (e ∷ es) key i = made_one (same key e.0) e.1 _ i.0.1 (under_made same is_nil es key i.1)

  pub written_made : (same : Value → Value → Bool) (is_nil : Value → Bool) (es : List (Value × Value)) (key v : Value) → Each (IsEntry n) es
      → IsMade n key → IsMade n v → Each (IsEntry n) (pairs.written same is_nil Nil es key v)
  written_made same is_nil [] key v i k m = each_one (is_nil v) [] ((key, v) ∷ []) tt ((k, m), tt)
  written_made same is_nil (e ∷ es) key v i k m =
      each_one (same key e.0) ((e.0, v) ∷ es) _ ((i.0.0, m), i.1) (i.0, written_made same is_nil es key v i.1 k m)

  pub get_made : (t : TableOf) (key : Value) → IsTable n t → IsMade n (tables.get t key)
  unfolding tables.get
  get_made t key i = under_made tables.same tables.is_nil t.entries key i

  pub put_made : (t : TableOf) (key v : Value) → IsTable n t → IsMade n key → IsMade n v → IsTable n (tables.put t key v)
  unfolding tables.put
  put_made t key v i k m = written_made tables.same tables.is_nil t.entries key v i k m

  pub set_made : (t : TableOf) (key v : Value) → IsTable n t → IsMade n key → IsMade n v → IfOk (tables.set t key v) (IsTable n)
  unfolding tables.set
  set_made t key v i k m = by t.frozen (tables.is_nil key)
    where
      by : (b c : Bool) → IfOk (if b then Err ReadonlyTable else if c then Err NilKey else Ok (tables.put t key v)) (IsTable n)
      by true c = tt
      by false true = tt
      by false false = put_made t key v i k m

  pub table_made : (s : Store) (r : TableRef) → IsStore n s → IsTable n (table_at s r)
  unfolding table_at
  table_made s (Shared i) is = each_or (IsTable n) s.shared i empty_table is.shared tt
  table_made s (Own i) is = each_or (IsTable n) s.tables i empty_table is.tables tt

  pub with_table_keeps : (s : Store) (r : TableRef) (t : TableOf) → IsStore n s → IsTable n t → Keeps n s (with_table s r t) []
  unfolding with_table coroutine_of
  with_table_keeps s (Shared i) t is m = record {
    store =
        record { shared = each_set (IsTable n) s.shared i t is.shared m; tables = is.tables; coroutines = is.coroutines; some = is.some; running = is.running; main = is.main };
    environments = refl;
    running = refl;
    coroutines = sym (append-nil s.coroutines);
  }
  with_table_keeps s (Own i) t is m = record {
    store =
        record { shared = is.shared; tables = each_set (IsTable n) s.tables i t is.tables m; coroutines = is.coroutines; some = is.some; running = is.running; main = is.main };
    environments = refl;
    running = refl;
    coroutines = sym (append-nil s.coroutines);
  }

  pub keeps_itself : (s : Store) → IsStore n s → Keeps n s s []
  keeps_itself s is = record { store = is; environments = refl; running = refl; coroutines = sym (append-nil s.coroutines) }

  -- ---- metamethods

  pub said_made : (s : Store) (m : Option TableRef) (name : Bytes) → IsStore n s → IsMade n (meta.said_by s m name)
  said_made s None name is = tt
  said_made s (Some m) name is = get_made (table_at s m) (Text name) (table_made s m is)

  pub metamethod_made : (s : Store) (v : Value) (name : Bytes) → IsStore n s → IsMade n (meta.metamethod s v name)
  unfolding meta.metamethod
  metamethod_made s (Table t) name is = said_made s (table_at s t).meta name is
  metamethod_made s (Text bs) name is = said_made s (Some s.globals.string_meta) name is
  metamethod_made s v name is = tt

  either_made : (v u : Value) → IsMade n v → IsMade n u → IsMade n (meta.either v u)
  either_made Nil u i j = j
  either_made v u i j = i

  of_two_made : (s : Store) (a b : Value) (name : Bytes) → IsStore n s → IsMade n (meta.metamethod_of_two s a b name)
  of_two_made s a b name is = either_made (meta.metamethod s a name) _ (metamethod_made s a name is) (metamethod_made s b name is)

  calls_or : (h : Value) (args : List Value) (o : Outcome) → IsMade n h → AreMade n args → OutcomeIsMade n o
      → OutcomeIsMade n (meta.call_or_else h args o)
  calls_or Nil args o i j k = k
  calls_or h args o i j k = (i, j)

  choice_made : (s : Store) (asked : ℕ) (o : Outcome) → IsStore n s → OutcomeIsMade n o → ChoiceIsMade n s (meta.chosen s asked o)
  choice_made s asked o is m = record { outcome = m; kept = keeps_itself s is }

  -- ---- index

  IsGoodLink : Store → meta.Link → Type 0
  IsGoodLink s link = (asked : ℕ) (v : Value) → IsMade n v → ChoiceIsMade n s (link asked v)

  by_function : (s : Store) (link : meta.Link) (asked : ℕ) (h : Value) (args : List Value) (b : Bool) → IsStore n s → IsGoodLink s link → IsMade n h
      → AreMade n args
      → ChoiceIsMade n s (elim b [ true ↦ meta.chosen s asked (CallThis h args) | false ↦ link asked h ])
  unfolding IsGoodLink
  by_function s link asked h args true is good m a = choice_made s asked (CallThis h args) is (m, a)
  by_function s link asked h args false is good m a = good asked h m

  by_index_made : (s : Store) (link : meta.Link) (asked : ℕ) (t : TableRef) (key h : Value) → IsStore n s → IsGoodLink s link → IsMade n key
      → IsMade n h → ChoiceIsMade n s (meta.by_index s link asked t key h)
  by_index_made s link asked t key Nil is good k m = choice_made s asked (Done Nil) is tt
  by_index_made s link asked t key h is good k m = by_function s link asked h (Table t ∷ key ∷ []) _ is good m (tt, (k, tt))

  index_found_made : (s : Store) (link : meta.Link) (asked : ℕ) (t : TableRef) (key v : Value) → IsStore n s → IsGoodLink s link → IsMade n key
      → IsMade n v → ChoiceIsMade n s (meta.index_found s link asked t key v)
  index_found_made s link asked t key Nil is good k m =
      by_index_made s link asked t key _ is good k (metamethod_made s (Table t) (codes "__index") is)
  index_found_made s link asked t key v is good k m = choice_made s asked (Done v) is m

  index_asked_made : (s : Store) (link : meta.Link) (asked : ℕ) (base key : Value) (t : Option TableRef) → IsStore n s → IsGoodLink s link
      → IsMade n key → ChoiceIsMade n s (meta.index_asked s link asked base key t)
  index_asked_made s link asked base key None is good k = choice_made s asked _ is tt
  index_asked_made s link asked base key (Some t) is good k =
      index_found_made s link (suc asked) t key _ is good k (get_made (table_at s t) key (table_made s t is))

  index_along_made : (links : ℕ) (s : Store) (key : Value) → IsStore n s → IsMade n key → IsGoodLink s (meta.index_along links s key)
  unfolding IsGoodLink
  index_along_made zero s key is k asked base m =
      index_asked_made s (λ more v. meta.chosen s more (Errs IndexChain)) asked base key (meta.indexed_table s base) is
      (λ more v m. choice_made s more (Errs IndexChain) is tt) k
  index_along_made (suc links) s key is k asked base m =
      index_asked_made s _ asked base key (meta.indexed_table s base) is (index_along_made links s key is k) k

  -- ---- newindex

  write_made : (s : Store) (asked : ℕ) (t : TableRef) (r : Result TableOf RunError) → IsStore n s → IfOk r (IsTable n)
      → ChoiceIsMade n s (meta.write_raw s asked t r)
  write_made s asked t (Ok table) is m = record { outcome = tt; kept = with_table_keeps s t table is m }
  write_made s asked t (Err e) is m = choice_made s asked (Errs e) is tt

  by_newindex_made : (s : Store) (link : meta.Link) (asked : ℕ) (t : TableRef) (key v h : Value) → IsStore n s → IsGoodLink s link → IsMade n key
      → IsMade n v → IsMade n h → ChoiceIsMade n s (meta.by_newindex s link asked t key v h)
  by_newindex_made s link asked t key v Nil is good k u m =
      write_made s asked t _ is (set_made (table_at s t) key v (table_made s t is) k u)
  by_newindex_made s link asked t key v h is good k u m = by_function s link asked h (Table t ∷ key ∷ v ∷ []) _ is good m (tt, (k, (u, tt)))

  newindex_found_made : (s : Store) (link : meta.Link) (asked : ℕ) (t : TableRef) (key v found : Value) → IsStore n s → IsGoodLink s link
      → IsMade n key → IsMade n v → ChoiceIsMade n s (meta.newindex_found s link asked t key v found)
  newindex_found_made s link asked t key v Nil is good k u =
      by_newindex_made s link asked t key v _ is good k u (metamethod_made s (Table t) (codes "__newindex") is)
  newindex_found_made s link asked t key v found is good k u = write_made s asked t _ is (set_made (table_at s t) key v (table_made s t is) k u)

  newindex_asked_made : (s : Store) (link : meta.Link) (asked : ℕ) (base key v : Value) (t : Option TableRef) → IsStore n s → IsGoodLink s link
      → IsMade n key → IsMade n v → ChoiceIsMade n s (meta.newindex_asked s link asked base key v t)
  newindex_asked_made s link asked base key v None is good k u = choice_made s asked _ is tt
  newindex_asked_made s link asked base key v (Some t) is good k u = newindex_found_made s link (suc asked) t key v _ is good k u

  newindex_along_made : (links : ℕ) (s : Store) (key v : Value) → IsStore n s → IsMade n key → IsMade n v
      → IsGoodLink s (meta.newindex_along links s key v)
  unfolding IsGoodLink
  newindex_along_made zero s key v is k u asked base m =
      newindex_asked_made s (λ more w. meta.chosen s more (Errs NewindexChain)) asked base key v (meta.as_table base) is
      (λ more w m. choice_made s more (Errs NewindexChain) is tt) k u
  newindex_along_made (suc links) s key v is k u asked base m =
      newindex_asked_made s _ asked base key v (meta.as_table base) is (newindex_along_made links s key v is k u) k u

  -- ---- arithmetic, texts, comparisons and lengths

  numbered_made : (r : Result ℤ Stop) → OutcomeIsMade n (meta.numbered r)
  numbered_made (Ok z) = tt
  numbered_made (Err stop) = tt

  calculate_made : (o : ArithOp) (x y : Result ℤ Stop) → OutcomeIsMade n (meta.calculate o x y)
  calculate_made o (Err stop) y = tt
  calculate_made o (Ok x) (Err stop) = tt
  calculate_made o (Ok x) (Ok y) = numbered_made (calculated o x y)

  arith_numbers_made : (s : Store) (o : ArithOp) (a b : Value) (x y : ReadNumber) → IsStore n s → IsMade n a → IsMade n b
      → OutcomeIsMade n (meta.arith_numbers s o a b x y)
  arith_numbers_made s o a b (Some x) (Some y) is i j = calculate_made o x y
  arith_numbers_made s o a b (Some x) None is i j = calls_or _ (a ∷ b ∷ []) _ (of_two_made s a b (meta.arith_name o) is) (i, (j, tt)) tt
  arith_numbers_made s o a b None y is i j = calls_or _ (a ∷ b ∷ []) _ (of_two_made s a b (meta.arith_name o) is) (i, (j, tt)) tt

  minus_made : (s : Store) (a : Value) (x : ReadNumber) → IsStore n s → IsMade n a → OutcomeIsMade n (meta.minus_number s a x)
  minus_made s a (Some x) is i = calculate_made op.Unm x x
  minus_made s a None is i = calls_or _ (a ∷ []) _ (metamethod_made s a (meta.arith_name op.Unm) is) (i, tt) tt

  arith_made : (s : Store) (o : ArithOp) (a b : Value) → IsStore n s → IsMade n a → IsMade n b → OutcomeIsMade n (meta.arith s o a b)
  unfolding meta.arith
  arith_made s op.Unm a b is i j = minus_made s a (meta.as_number a) is i
  arith_made s o a b is i j = arith_numbers_made s o a b (meta.as_number a) (meta.as_number b) is i j

  outcome_one : (b : Bool) (o q : Outcome) → OutcomeIsMade n o → OutcomeIsMade n q → OutcomeIsMade n (if b then o else q)
  outcome_one true o q i j = i
  outcome_one false o q i j = j

  bounded_made : (bs : Bytes) (b : Bool) → OutcomeIsMade n (if b then Done (Text bs) else Errs StringTooLarge)
  bounded_made bs true = tt
  bounded_made bs false = tt

  concat_made : (s : Store) (a b : Value) (x y : Option Bytes) → IsStore n s → IsMade n a → IsMade n b → OutcomeIsMade n (meta.concat_texts s a b x y)
  concat_made s a b (Some x) (Some y) is i j = bounded_made (x ++ y) (nat_le (length (x ++ y)) meta.longest_string)
  concat_made s a b (Some x) None is i j = calls_or _ (a ∷ b ∷ []) _ (of_two_made s a b (codes "__concat") is) (i, (j, tt)) tt
  concat_made s a b None y is i j = calls_or _ (a ∷ b ∷ []) _ (of_two_made s a b (codes "__concat") is) (i, (j, tt)) tt

  or_metamethod_made : (s : Store) (a b : Value) (name : Bytes) (e : RunError) (o : Option Bool) → IsStore n s → IsMade n a → IsMade n b
      → OutcomeIsMade n (meta.or_metamethod s a b name e o)
  or_metamethod_made s a b name e (Some answer) is i j = tt
  or_metamethod_made s a b name e None is i j = calls_or _ (a ∷ b ∷ []) (Errs e) (of_two_made s a b name is) (i, (j, tt)) tt

  compare_made : (s : Store) (o : CompareOp) (a b : Value) → IsStore n s → IsMade n a → IsMade n b → OutcomeIsMade n (meta.compare s o a b)
  unfolding meta.compare
  compare_made s order.Eq a b is i j =
      outcome_one (meta.is_different_table a b) _ _
      (calls_or _ (a ∷ b ∷ []) (Done (Boolean false)) (of_two_made s a b (codes "__eq") is) (i, (j, tt)) tt) tt
  compare_made s order.Lt a b is i j = or_metamethod_made s a b (codes "__lt") _ (meta.ordered int_lt meta.bytes_less a b) is i j
  compare_made s order.Le a b is i j = or_metamethod_made s a b (codes "__le") _ (meta.ordered int_le _ a b) is i j

  length_made : (s : Store) (a : Value) → IsStore n s → IsMade n a → OutcomeIsMade n (meta.length_of s a)
  unfolding meta.length_of
  length_made s (Table t) is i = calls_or _ (Table t ∷ []) _ (metamethod_made s (Table t) (codes "__len") is) (tt, tt) tt
  length_made s (Text bs) is i = tt
  length_made s a is i = tt

  pub callee_made : (s : Store) (f : Value) → IsStore n s → IsMade n f → OutcomeIsMade n (meta.callee_of s f)
  unfolding meta.callee_of
  callee_made s f is m =
      let h = meta.metamethod s f (codes "__call") in
      outcome_one (meta.is_function f) (Done f) _ m
      (outcome_one (meta.is_function h) (CallThis h (f ∷ [])) _ (metamethod_made s f (codes "__call") is, (m, tt)) tt)

  pub choose_made : (s : Store) (o : Operation) → IsStore n s → OperandsAreMade n o → ChoiceIsMade n s (choose o s)
  unfolding choose meta.index meta.newindex meta.concat_two IsGoodLink
  choose_made s (Index base key) is m = index_along_made 100 s key is m.1 0 base m.0
  choose_made s (Newindex base key v) is m = newindex_along_made 100 s key v is m.1 m.2 0 base m.0
  choose_made s (Arith o a b) is m = choice_made s 0 _ is (arith_made s o a b is m.0 m.1)
  choose_made s (Compare o a b) is m = choice_made s 0 _ is (compare_made s o a b is m.0 m.1)
  choose_made s (Concat a b) is m = choice_made s 0 _ is (concat_made s a b (meta.as_text a) (meta.as_text b) is m.0 m.1)
  choose_made s (Length a) is m = choice_made s 0 _ is (length_made s a is m)
  choose_made s (Callee f) is m = choice_made s 0 _ is (callee_made s f is m)

pub operations_keep : OperationsKeep
operations_keep n s o is m = choose_made n s o is m
