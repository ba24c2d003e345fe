-- Library functions that change tables, or make tables and coroutines.
use Rattle.std.proofs.Common.{◌≡◌, refl, sym, ℕ, zero, suc, ◌+◌, ◌<◌, ℤ, pos, ◌+ℤ◌, Bool, true, false, cond, List, [], ◌∷◌, ◌++◌, length, map, filter, replicate, Option, Some, None, Ok, Err, Result, arith, subst, codes, length-append}
use Rattle.std.specs.Prelude.{MatchOption, IfOk, slice_get, slice_index_or, if◌then◌else◌, nat_le}
use Rattle.value_model.specs.declared.builtin.Builtin.TheVariants as builtin
use Rattle.value_model.specs.declared.kind.CoStatus.TheVariants.{Suspended}
use Rattle.whole_num.specs.Whole.{is_whole}
use Rattle.whole_num.specs.declared.arithmetic.Stop.TheVariants.{OutOfRange}
use Rattle.value_model.specs.Values.{Bytes, TableRef, Value, Nil, Number, Text, Table}
use Rattle.value_model.specs.Errors.{RunError, ReadonlyTable, ProtectedMetatable}
use Rattle.value_model.specs.Store.{Store, TableOf, CoroutineOf, empty_table, table_at, with_table}
use Rattle.value_model.specs.Pairs as pairs
use Rattle.value_model.specs.Tables as tables
use Rattle.value_model.specs.Answers.{LibAnswer, Answers, ErrsWith, HaltsWith}
use Rattle.value_model.specs.Arguments as arguments
use Rattle.value_model.specs.CoreRows as core
use Rattle.value_model.specs.StringRows as string
use Rattle.value_model.specs.TableRows as table
use Rattle.value_model.specs.CoroutineRows as co
use Rattle.value_model.specs.CoroutineRows.{coroutine_of, dead}
use Rattle.machine_meaning.specs.Calls.{is_dead}
use Rattle.checked_runs.specs.Safe.{Each, IsMade, AreMade, IsEntry, IsTable, IsResumer, IsCoroutine, IsStore}
use Rattle.checked_runs.specs.Keeps.{Keeps, AnswersAreMade}
use Rattle.checked_runs.proofs.Elements.{each_map, each_append, option_more}
use Rattle.checked_runs.proofs.Operations.{get_made, put_made, set_made, written_made, table_made, with_table_keeps, keeps_itself}
use Rattle.checked_runs.proofs.Tables.{new_table_keeps}
use Rattle.checked_runs.proofs.Arguments as given
use Rattle.checked_runs.proofs.Arguments.{Holds}
use Rattle.checked_runs.proofs.Reading as reading
use Rattle.checked_runs.proofs.Reading.{items_made}

module _ (n : ℕ) where
  all_written : (es : List (Value × Value)) (k : ℤ) (vs : List Value) → Each (IsEntry n) es → AreMade n vs
      → Each (IsEntry n) (pairs.all_written tables.same tables.is_nil Nil (λ z. Number z) es k vs)
  all_written es k [] i m = i
  all_written es k (v ∷ vs) i m =
      all_written (pairs.written tables.same tables.is_nil Nil es (Number k) v) (k +ℤ pos 1) vs
      (written_made n tables.same tables.is_nil es (Number k) v i tt m.0) m.1

  pub put_all_made : (t : TableOf) (k : ℤ) (vs : List Value) → IsTable n t → AreMade n vs → IsTable n (tables.put_all t k vs)
  put_all_made t k vs i m = all_written t.entries k vs i m

  inserted_made : (t : TableOf) (k : ℤ) (v : Value) → IsTable n t → IsMade n v → IsTable n (table.with_inserted t k v)
  inserted_made t k v i m =
      let count = string.count_between k (table.end_of t) in
      put_made n _ (Number k) v (put_all_made t (k +ℤ pos 1) (table.items t k count) i (items_made n t k count i)) tt m

  removed_made : (t : TableOf) (k : ℤ) → IsTable n t → IsTable n (table.without_item t k)
  removed_made t k i =
      let count = string.count_between (k +ℤ pos 1) (table.end_of t) in
      put_made n _ (Number (table.end_of t)) Nil (put_all_made t k (table.items t (k +ℤ pos 1) count) i (items_made n t (k +ℤ pos 1) count i)) tt tt

  replicated : (count : ℕ) (v : Value) → IsMade n v → AreMade n (replicate count v)
  replicated zero v m = tt
  replicated (suc count) v m = (m, replicated count v m)

  filled_made : (count : ℕ) (v : Value) → IsMade n v → IsTable n (table.filled_table count v)
  filled_made count Nil m = tt
  filled_made count v m = put_all_made empty_table (pos 1) (replicate count v) tt (replicated count v m)

  cleared_made : (es : List (Value × Value)) → Each (IsEntry n) es → Each (IsEntry n) (map (λ e. (e.0, Nil)) es)
  cleared_made [] i = tt
  cleared_made (e ∷ es) i = ((i.0.0, tt), cleared_made es i.1)

  filtered_one : (b : Bool) (es fs : List (Value × Value)) → Each (IsEntry n) es → Each (IsEntry n) fs → Each (IsEntry n) (cond b es fs)
  filtered_one true es fs i j = i
  filtered_one false es fs i j = j

  filtered : (f : Value × Value → Bool) (es : List (Value × Value)) → Each (IsEntry n) es → Each (IsEntry n) (filter f es)
  filtered f [] i = tt
  filtered f (e ∷ es) i = filtered_one (f e) (e ∷ filter f es) (filter f es) (i.0, filtered f es i.1) (filtered f es i.1)

  sorted_one : (b : Bool) (vs us : List Value) → AreMade n vs → AreMade n us → AreMade n (if b then vs else us)
  sorted_one true vs us i j = i
  sorted_one false vs us i j = j

  sorted_into_made : (v : Value) (ws : List Value) → IsMade n v → AreMade n ws → AreMade n (table.sorted_into v ws)
  sorted_into_made v [] m i = (m, tt)
  sorted_into_made v (w ∷ ws) m i = sorted_one (table.goes_before v w) (v ∷ w ∷ ws) _ (m, i) (i.0, sorted_into_made v ws m i.1)

  sorted_made : (vs : List Value) → AreMade n vs → AreMade n (table.sorted vs)
  sorted_made [] i = tt
  sorted_made (v ∷ vs) i = sorted_into_made v (table.sorted vs) i.0 (sorted_made vs i.1)

  texts_made : (ts : List Bytes) → AreMade n (map (λ t. Text t) ts)
  texts_made [] = tt
  texts_made (t ∷ ts) = (tt, texts_made ts)

-- ---- coroutines

coroutine_more : (n count : ℕ) (c : CoroutineOf) → IsCoroutine n count c → IsCoroutine n (count + 1) c
coroutine_more n count c i = record {
  body = i.body;
  resumer = option_more (λ j. (0 < j) × (j < count)) (λ j. (0 < j) × (j < count + 1)) (λ j l. (l.0, let b = l.1 in omega arith)) c.resumer i.resumer;
  failure = i.failure;
}

main_alive : (s : Store) (c : CoroutineOf) → 0 < length s.coroutines → is_dead (coroutine_of s 0).status ≡ false
    → is_dead (coroutine_of (record s { coroutines = s.coroutines ++ c ∷ [] }) 0).status ≡ false
unfolding coroutine_of
main_alive s c l e = by s.coroutines l e
  where
    by : (cs : List CoroutineOf) → 0 < length cs → is_dead (slice_index_or cs 0 dead).status ≡ false
        → is_dead (slice_index_or (cs ++ c ∷ []) 0 dead).status ≡ false
    by [] l e = absurd (omega arith)
    by (d ∷ cs) l e = e

coroutine_keeps : (n : ℕ) (s : Store) (f : Value) → IsStore n s → IsMade n f
    → Keeps n s (co.with_new_coroutine s f) (record { body = f; status = Suspended; resumer = None; failure = None } ∷ [])
coroutine_keeps n s f is m =
    let c : CoroutineOf = record { body = f; status = Suspended; resumer = None; failure = None } in
    let count : length (s.coroutines ++ c ∷ []) ≡ length s.coroutines + 1 = omega (arith, length-append s.coroutines (c ∷ [])) in
    record {
      store = record {
        shared = is.shared;
        tables = is.tables;
        coroutines =
            subst (λ k. Each (IsCoroutine n k) (s.coroutines ++ c ∷ [])) (sym count) (each_append (IsCoroutine n (length s.coroutines + 1))
            s.coroutines (c ∷ [])
            (each_map (IsCoroutine n (length s.coroutines)) (IsCoroutine n (length s.coroutines + 1)) (coroutine_more n (length s.coroutines)) s.coroutines is.coroutines)
            (record { body = m; resumer = tt; failure = tt }, tt));
        some = omega (arith, count);
        running =
            subst (λ k. IsResumer k s.running) (sym count) (option_more (λ j. (0 < j) × (j < length s.coroutines))
            (λ j. (0 < j) × (j < length s.coroutines + 1)) (λ j l. (l.0, let b = l.1 in omega arith)) s.running is.running);
        main = main_alive s c is.some is.main;
      };
      environments = refl;
      running = refl;
      coroutines = refl;
    }

-- ---- the rows

module _ (n : ℕ) (s : Store) (is : IsStore n s) where
  pub stays : (vs : List Value) → AreMade n vs → AnswersAreMade n s vs s
  stays vs m = record { values = m; more = []; kept = keeps_itself n s is }

  pub changed : (t : TableRef) (vs : List Value) (u : TableOf) → AreMade n vs → IsTable n u → Holds (AnswersAreMade n s) n (table.changed s t vs u)
  changed t vs u m i = record { holds = record { values = m; more = []; kept = with_table_keeps n s t u is i } }

  changes : (t : TableRef) (vs : List Value) (r : Result TableOf RunError) → AreMade n vs → IfOk r (IsTable n)
      → Holds (AnswersAreMade n s) n (core.changes s t vs r)
  changes t vs (Ok u) m i = changed t vs u m i
  changes t vs (Err e) m i = record { holds = tt }

  new_table : (t : TableOf) → IsTable n t → Holds (AnswersAreMade n s) n (string.new_table s t)
  new_table t i = record { holds = record { values = (tt, tt); more = []; kept = new_table_keeps n s t is i } }

  gives : (v : Value) → IsMade n v → Holds (AnswersAreMade n s) n (core.gives s v)
  gives v m = reading.gives n s is (AnswersAreMade n s) stays v m

  one_of : (b : Bool) (a c : LibAnswer) → Holds (AnswersAreMade n s) n a → Holds (AnswersAreMade n s) n c
      → Holds (AnswersAreMade n s) n (if b then a else c)
  one_of b a c i j = reading.one_of n s is (AnswersAreMade n s) stays b a c i j

  at : (t : TableRef) → IsTable n (table_at s t)
  at t = table_made n s t is

  pub rawset_row : (args : List Value) → AreMade n args → Holds (AnswersAreMade n s) n (core.rawset_row args s)
  rawset_row args m =
      given.table n (AnswersAreMade n s) builtin.Rawset 0 args _ m
      (λ t. given.any n (AnswersAreMade n s) builtin.Rawset 1 args _ m (λ k i. given.any n (AnswersAreMade n s) builtin.Rawset 2 args _ m (λ v j. changes t _ _ (tt, tt) (set_made n (table_at s t) k v (at t) i j))))

  with_meta : (t : TableRef) (m : Option TableRef) → Holds (AnswersAreMade n s) n (core.with_meta s t m)
  with_meta t m =
      let u = record (table_at s t) { meta = m } in
      let a = Answers (Table t ∷ []) (with_table s t u) in
      one_of (core.is_protected s t) (ErrsWith ProtectedMetatable) (if (table_at s t).frozen then ErrsWith ReadonlyTable else a)
      (record { holds = tt })
      (one_of (table_at s t).frozen (ErrsWith ReadonlyTable) a (record { holds = tt }) (changed t (Table t ∷ []) u (tt, tt) (at t)))

  set_meta_to : (t : TableRef) (v : Value) → Holds (AnswersAreMade n s) n (core.set_meta_to s t v)
  set_meta_to t Nil = with_meta t None
  set_meta_to t v = given.table_from n (AnswersAreMade n s) builtin.Setmetatable 1 v _ (λ m. with_meta t (Some m))

  pub setmetatable_row : (args : List Value) → AreMade n args → Holds (AnswersAreMade n s) n (core.setmetatable_row args s)
  setmetatable_row args m =
      given.table n (AnswersAreMade n s) builtin.Setmetatable 0 args _ m
      (λ t. given.wanted n (AnswersAreMade n s) builtin.Setmetatable 1 _ (slice_get args 1) _ (given.argument_made n args 1 m) (λ v i. set_meta_to t v))

  pub split_row : (args : List Value) → AreMade n args → Holds (AnswersAreMade n s) n (string.split_row args s)
  split_row args m =
      given.text n (AnswersAreMade n s) builtin.StringSplit 0 args _ m
      (λ bs. given.text_or n (AnswersAreMade n s) builtin.StringSplit 1 args (44 ∷ []) _ (λ sep. new_table _ (put_all_made n empty_table (pos 1) _ tt (texts_made n (string.split_at sep bs)))))

  -- ---- `table`

  unless_frozen : (t : TableRef) (a : LibAnswer) → Holds (AnswersAreMade n s) n a → Holds (AnswersAreMade n s) n (table.unless_frozen s t a)
  unless_frozen t a i = one_of (table_at s t).frozen (ErrsWith ReadonlyTable) a (record { holds = tt }) i

  in_range : (z : ℤ) (a : LibAnswer) → Holds (AnswersAreMade n s) n a → Holds (AnswersAreMade n s) n (table.if_in_range z a)
  in_range z a i = one_of (is_whole z) a (HaltsWith OutOfRange) i (record { holds = tt })

  inserts_at : (t : TableRef) (v : Value) (k : ℤ) → IsMade n v → Holds (AnswersAreMade n s) n (table.insert_at s t v k)
  inserts_at t v k m =
      let last = table.end_of (table_at s t) +ℤ pos 1 in
      let a = table.changed s t [] (table.with_inserted (table_at s t) k v) in
      one_of (table.is_between (pos 1) k last) (table.unless_frozen s t (table.if_in_range last a)) (arguments.out_of_range builtin.TableInsert 1)
      (unless_frozen t (table.if_in_range last a) (in_range last a (changed t [] _ tt (inserted_made n (table_at s t) k v (at t) m))))
      (record { holds = tt })

  appends : (t : TableRef) (v : Value) → IsMade n v → Holds (AnswersAreMade n s) n (table.append s t v)
  appends t v m =
      let last = table.end_of (table_at s t) +ℤ pos 1 in
      let a = table.changed s t [] (tables.put (table_at s t) (Number last) v) in
      unless_frozen t (table.if_in_range last a) (in_range last a (changed t [] _ tt (put_made n (table_at s t) (Number last) v (at t) tt m)))

  inserts : (t : TableRef) (args : List Value) (o : Option Value) → AreMade n args → MatchOption o (Unit {0}) (IsMade n)
      → Holds (AnswersAreMade n s) n (table.inserts s t args o)
  inserts t args None m i = given.any n (AnswersAreMade n s) builtin.TableInsert 1 args _ m (λ v j. appends t v j)
  inserts t args (Some v) m i = given.number n (AnswersAreMade n s) builtin.TableInsert 1 args _ m (λ k. inserts_at t v k i)

  pub insert_row : (args : List Value) → AreMade n args → Holds (AnswersAreMade n s) n (table.insert_row args s)
  insert_row args m =
      given.table n (AnswersAreMade n s) builtin.TableInsert 0 args _ m (λ t. inserts t args (slice_get args 2) m (given.argument_made n args 2 m))

  removes_at : (t : TableRef) (k : ℤ) → Holds (AnswersAreMade n s) n (table.remove_at s t k)
  removes_at t k =
      let a = table.changed s t (tables.item (table_at s t) k ∷ []) (table.without_item (table_at s t) k) in
      let b = table.is_between (pos 1) k (table.end_of (table_at s t)) in
      unless_frozen t (if b then a else core.gives s Nil)
      (one_of b a (core.gives s Nil) (changed t _ _ (get_made n (table_at s t) (Number k) (at t), tt) (removed_made n (table_at s t) k (at t))) (gives Nil tt))

  pub remove_row : (args : List Value) → AreMade n args → Holds (AnswersAreMade n s) n (table.remove_row args s)
  remove_row args m =
      given.table n (AnswersAreMade n s) builtin.TableRemove 0 args _ m
      (λ t. given.number_or n (AnswersAreMade n s) builtin.TableRemove 1 args _ _ (removes_at t))

  pub pack_row : (args : List Value) → AreMade n args → Holds (AnswersAreMade n s) n (table.pack_row args s)
  pack_row args m = new_table _ (put_made n _ (Text (codes "n")) _ (put_all_made n empty_table (pos 1) args tt m) tt tt)

  creates : (k : ℕ) (v : Value) (b : Bool) → IsMade n v → Holds (AnswersAreMade n s) n (table.creates s k v b)
  creates k v true m = new_table _ (filled_made n k v m)
  creates k v false m = record { holds = tt }

  pub create_row : (args : List Value) → AreMade n args → Holds (AnswersAreMade n s) n (table.create_row args s)
  create_row args m =
      given.number n (AnswersAreMade n s) builtin.TableCreate 0 args _ m
      (λ k. creates (string.natural k) (arguments.argument_or_nil args 1) (nat_le (string.natural k) table.most_elements) (given.nil_made n args 1 m))

  pub clear_row : (args : List Value) → AreMade n args → Holds (AnswersAreMade n s) n (table.clear_row args s)
  clear_row args m =
      given.table n (AnswersAreMade n s) builtin.TableClear 0 args _ m
      (λ t. unless_frozen t _ (changed t [] (table.cleared (table_at s t)) tt (cleared_made n (table_at s t).entries (at t))))

  clones : (t : TableRef) → Holds (AnswersAreMade n s) n (table.clones s t)
  clones t =
      one_of (core.is_protected s t) (ErrsWith ProtectedMetatable) (string.new_table s (table.copy_of (table_at s t))) (record { holds = tt })
      (new_table (table.copy_of (table_at s t)) (filtered n _ (table_at s t).entries (at t)))

  pub clone_row : (args : List Value) → AreMade n args → Holds (AnswersAreMade n s) n (table.clone_row args s)
  clone_row args m = given.table n (AnswersAreMade n s) builtin.TableClone 0 args _ m clones

  pub freeze_row : (args : List Value) → AreMade n args → Holds (AnswersAreMade n s) n (table.freeze_row args s)
  freeze_row args m = given.table n (AnswersAreMade n s) builtin.TableFreeze 0 args _ m (λ t. changed t (Table t ∷ []) _ (tt, tt) (at t))

  moved : (t u : TableRef) (first k : ℤ) (count : ℕ) → Holds (AnswersAreMade n s) n (table.moved s t u first k count)
  moved t u first k zero = gives (Table u) tt
  moved t u first k (suc count) =
      let a = table.changed s u (Table u ∷ []) (tables.put_all (table_at s u) k (table.items (table_at s t) first (suc count))) in
      in_range k (table.if_in_range (k +ℤ pos count) a)
      (in_range (k +ℤ pos count) a (changed u (Table u ∷ []) _ (tt, tt) (put_all_made n (table_at s u) k (table.items (table_at s t) first (suc count)) (at u) (items_made n (table_at s t) first (suc count) (at t)))))

  moves : (t u : TableRef) (first k : ℤ) (count : ℕ) (b : Bool) → Holds (AnswersAreMade n s) n (table.moves s t u first k count b)
  moves t u first k count true = unless_frozen u _ (moved t u first k count)
  moves t u first k count false = record { holds = tt }

  moves_into : (t : TableRef) (first last k : ℤ) (v : Value) → Holds (AnswersAreMade n s) n (table.move_into s t first last k v)
  moves_into t first last k Nil = moves t t first k (string.count_between first last) (nat_le (string.count_between first last) table.most_elements)
  moves_into t first last k v =
      given.table_from n (AnswersAreMade n s) builtin.TableMove 4 v _
      (λ u. moves t u first k (string.count_between first last) (nat_le (string.count_between first last) table.most_elements))

  pub move_row : (args : List Value) → AreMade n args → Holds (AnswersAreMade n s) n (table.move_row args s)
  move_row args m =
      given.table n (AnswersAreMade n s) builtin.TableMove 0 args _ m
      (λ t. given.number n (AnswersAreMade n s) builtin.TableMove 1 args _ m (λ first. given.number n (AnswersAreMade n s) builtin.TableMove 2 args _ m (λ last. given.number n (AnswersAreMade n s) builtin.TableMove 3 args _ m (λ k. moves_into t first last k _))))

  sorts : (t : TableRef) (v : Value) (vs : List Value) (o : Option Value) → AreMade n vs → Holds (AnswersAreMade n s) n (table.sorts s t v vs o)
  sorts t v vs None m = changed t [] _ tt (put_all_made n (table_at s t) (pos 1) (table.sorted vs) (at t) (sorted_made n vs m))
  sorts t v vs (Some w) m = record { holds = tt }

  sort_items : (t : TableRef) (vs : List Value) → AreMade n vs → Holds (AnswersAreMade n s) n (table.sort_items s t vs)
  sort_items t [] m = record { holds = stays [] tt }
  sort_items t (v ∷ vs) m = sorts t v (v ∷ vs) (table.unordered v (v ∷ vs)) m

  pub sort_row : (args : List Value) → AreMade n args → Holds (AnswersAreMade n s) n (table.sort_row args s)
  sort_row args m =
      given.table n (AnswersAreMade n s) builtin.TableSort 0 args _ m
      (λ t. unless_frozen t _ (sort_items t (table.items (table_at s t) (pos 1) (tables.border (table_at s t))) (items_made n (table_at s t) (pos 1) (tables.border (table_at s t)) (at t))))

  -- ---- `coroutine`

  pub co_create_row : (args : List Value) → AreMade n args → Holds (AnswersAreMade n s) n (co.create_row args s)
  co_create_row args m =
      given.function n (AnswersAreMade n s) builtin.CoroutineCreate 0 args _ m
      (λ f i. record { holds = record { values = (is.some, tt); more = _; kept = coroutine_keeps n s f is i } })

  pub co_wrap_row : (args : List Value) → AreMade n args → Holds (AnswersAreMade n s) n (co.wrap_row args s)
  co_wrap_row args m =
      given.function n (AnswersAreMade n s) builtin.CoroutineWrap 0 args _ m
      (λ f i. record { holds = record { values = (is.some, tt); more = _; kept = coroutine_keeps n s f is i } })
