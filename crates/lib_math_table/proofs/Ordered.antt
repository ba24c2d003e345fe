-- Elements that are put in order.
use Rattle.std.proofs.Common.{◌≡◌, ℕ, zero, suc, ◌+◌, ◌<◌, ℤ, pos, ◌+ℤ◌, ◌-ℤ◌, Bool, true, false, List, [], ◌∷◌, ◌++◌, map, take, length, get_or, slice_get, Some, None, Ok, refl, sym, ◌∙◌, ap, subst, arith}
use Rattle.std.proofs.lemmas.Bool.Decides.{nat_tests}
use Rattle.std.proofs.lemmas.Cmp.{int_cmp_total, nat_list_cmp_total, same_from_slice_cmp}
use Rattle.std.proofs.lemmas.Int.{ints}
use Rattle.std.proofs.lemmas.List.{map-append, set-get_or, take_more}
use Rattle.std.proofs.lemmas.List.Elements.{All-from_recursion, recursion_from_All}
use Rattle.std.proofs.lemmas.List.Sorted.{All-permutation, IsPermutation-map}
use Rattle.std.proofs.lemmas.Map.Lookups.{exact_signed, exact_bytes}
use Rattle.std.proofs.lemmas.Option.{get_or_from_slice_get}
use Rattle.std.specs.declared.cmp.Ordering.{Ordering}
use Rattle.std.specs.declared.cmp.Ordering.TheVariants.{Less, Equal, Greater}
use Rattle.std.specs.Cmp.Lexicographic.{slice_cmp}
use Rattle.std.specs.List.{AllByRecursion}
use Rattle.std.specs.List.Sorted.{IsPermutation, IsSortedBy}
use Rattle.std.specs.Ordering.{int_cmp, nat_cmp, is_lt, ordering_then}
use Rattle.std.specs.Prelude.{int_lt, if◌then◌else◌}
use Rattle.byte_text.specs.declared.fixed.StrId.{StrId}
use Rattle.value_model.specs.Answers as model
use Rattle.value_model.specs.Errors as error
use Rattle.value_model.specs.Metamethods.{bytes_less}
use Rattle.value_model.specs.Parts.{meant, meant_error, table_ref}
use Rattle.value_model.specs.Store as store
use Rattle.value_model.specs.StringRows.{count_between, natural}
use Rattle.value_model.specs.TableRows as rows
use Rattle.value_model.specs.Tables as tables
use Rattle.value_model.specs.Values as m
use Rattle.value_model.specs.Values.{Bytes, TableRef, kind_of}
use Rattle.value_model.specs.declared.error.RunErr.TheVariants as err
use Rattle.value_model.specs.declared.ids.TableId.{TableId}
use Rattle.value_model.specs.declared.kind.Kind.{Kind}
use Rattle.value_model.specs.declared.value.Value.{Value}
use Rattle.value_model.specs.declared.value.Value.TheVariants as value
use Rattle.value_arena.specs.Arenas.{table_at}
use Rattle.value_arena.specs.Tables.{TableView}
use Rattle.luau_tables.specs.Rules as rule
use Rattle.luau_tables.specs.Worlds.{IsWorld, MayUseIn, store_in}
use Rattle.luau_tables.specs.declared.globals.LibWorld.{LibWorld}
use Rattle.luau_tables.proofs.WorldsKept.{border_store}
use Rattle.lib_arguments.specs.Checks.{Fails}
use Rattle.lib_arguments.specs.Rows.{Runs}
use Rattle.lib_arguments.specs.declared.ending.Ending.{Ending}
use Rattle.lib_arguments.specs.declared.ending.Ending.TheVariants.{RunError}
use Rattle.lib_arguments.proofs.RowsRun.{none_given}
use Rattle.table_lists.specs.Lists.{items, put_all}
use Rattle.table_lists.proofs.Kept as kept
use Rattle.lib_math_table.specs.Sorted.{AreOrdered, AreSorted, BeginsWithNumber, BeginsWithText}
use Rattle.lib_math_table.proofs.Changes.{with_changed, scripts, table_is, thawed_is}
use Rattle.lib_math_table.proofs.Inserting.{changed_is, items_used}
use Rattle.lib_math_table.proofs.Moved.{values_put}
use Rattle.lib_math_table.proofs.Sorting.{Rises, into, rises, sort, sorted_is}

-- ---- values that cannot be compared

pub unlike_fails : (texts : List Bytes) (a b c d : Kind) → a ≡ c → b ≡ d → Fails texts (model.ErrsWith (error.CompareLess a b))
    (RunError (err.CompareLess c d))
unfolding meant_error
unlike_fails texts a b c d e f = (ap (λ k. model.ErrsWith (error.CompareLess k b)) e ∙ ap (λ k. model.ErrsWith (error.CompareLess c k)) f, tt)

-- ---- elements of one kind

-- where the first one cannot be compared, nor can the row go on
fails_at : (texts : List Bytes) (s : store.Store) (t : TableRef) (v : m.Value) (vs : List m.Value) (w : m.Value) (e : Ending) →
    rows.unordered v (v ∷ vs) ≡ Some w → Fails texts (model.ErrsWith (error.CompareLess (kind_of v) (kind_of w))) e →
    Fails texts (rows.sort_items s t (v ∷ vs)) e
fails_at texts s t v vs w e h f = subst (λ row. Fails texts row e) (sym (ap (rows.sorts s t v (v ∷ vs)) h)) f

ordered_next : (v w : m.Value) (ws : List m.Value) → rows.is_ordered v w ≡ true → rows.unordered v (w ∷ ws) ≡ rows.unordered v ws
ordered_next v w ws h = ap (λ b. if b then rows.unordered v ws else Some w) h

unordered_next : (v w : m.Value) (ws : List m.Value) → rows.is_ordered v w ≡ false → rows.unordered v (w ∷ ws) ≡ Some w
unordered_next v w ws h = ap (λ b. if b then rows.unordered v ws else Some w) h

module _ {A : Type 0} (texts : List Bytes) (first : m.Value) (of : A → Value) (yes : (a : A) → rows.is_ordered first (meant texts (of a)) ≡ true) where
  all_ordered : (us : List A) → rows.unordered first (map (meant texts) (map of us)) ≡ None
  all_ordered [] = refl
  all_ordered (a ∷ us) = ordered_next first (meant texts (of a)) (map (meant texts) (map of us)) (yes a) ∙ all_ordered us

  unordered_at : (vs : List Value) (xs : List A) (i : ℕ) (v : Value) → map of xs ≡ take i vs → i < length vs → v ≡ get_or vs i v →
      rows.is_ordered first (meant texts v) ≡ false → rows.unordered first (map (meant texts) vs) ≡ Some (meant texts v)
  unordered_at [] xs i v h l at apart = absurd (omega (arith, l))
  unordered_at (u ∷ us) xs zero v h l at apart =
      ap (λ u. rows.unordered first (meant texts u ∷ map (meant texts) us)) (sym at)
      ∙ unordered_next first (meant texts v) (map (meant texts) us) apart
  unordered_at (u ∷ us) [] (suc i) v h l at apart = absurd (cc)
  unordered_at (u ∷ us) (x ∷ xs) (suc i) v h l at apart =
      let here : of x ≡ u = cc in
      let rest : map of xs ≡ take i us = cc in
      ordered_next first (meant texts u) (map (meant texts) us) (subst (λ u. rows.is_ordered first (meant texts u) ≡ true) here (yes x))
      ∙ unordered_at us xs i v rest (omega (arith, l)) at apart

number_yes : (texts : List Bytes) (z a : ℤ) → rows.is_ordered (meant texts (value.Num z)) (meant texts (value.Num a)) ≡ true
unfolding meant
number_yes texts z a = refl

number_no : (texts : List Bytes) (z : ℤ) (v : Value) → ((a : ℤ) → v ≡ value.Num a → ⊥) → rows.is_ordered (meant texts (value.Num z)) (meant texts v) ≡ false
unfolding meant
number_no texts z (value.Num a) n = absurd (n a refl)
number_no texts z _ n = refl

text_yes : (texts : List Bytes) (x a : StrId) → rows.is_ordered (meant texts (value.Str x)) (meant texts (value.Str a)) ≡ true
unfolding meant
text_yes texts x a = refl

text_no : (texts : List Bytes) (x : StrId) (v : Value) → ((a : StrId) → v ≡ value.Str a → ⊥) →
    rows.is_ordered (meant texts (value.Str x)) (meant texts v) ≡ false
unfolding meant
text_no texts x (value.Str a) n = absurd (n a refl)
text_no texts x _ n = refl

-- an element that is no number, where the first is one
pub number_fails : (texts : List Bytes) (vs : List Value) (zs : List ℤ) (i : ℕ) (first v : Value) (e : Ending) → BeginsWithNumber vs →
    map (λ z. value.Num z) zs ≡ take i vs → i < length vs → first ≡ get_or vs 0 first → v ≡ get_or vs i v → ((a : ℤ) → v ≡ value.Num a → ⊥) →
    Fails texts (model.ErrsWith (error.CompareLess (kind_of (meant texts first)) (kind_of (meant texts v)))) e → (s : store.Store) (t : TableRef) →
    Fails texts (rows.sort_items s t (map (meant texts) vs)) e
number_fails texts [] zs i first v e h is l one at apart f s t = absurd h
number_fails texts (value.Num z ∷ vs) zs i first v e h is l one at apart f s t =
    fails_at texts s t (meant texts (value.Num z)) (map (meant texts) vs) (meant texts v) e
    (unordered_at texts (meant texts (value.Num z)) (λ z. value.Num z) (number_yes texts z) (value.Num z ∷ vs) zs i v is l at (number_no texts z v apart))
    (subst (λ u. Fails texts (model.ErrsWith (error.CompareLess (kind_of (meant texts u)) (kind_of (meant texts v)))) e) one f)
number_fails texts (_ ∷ vs) zs i first v e h is l one at apart f s t = absurd h

pub text_fails : (texts : List Bytes) {A : Type 0} (id : A → StrId) (vs : List Value) (us : List A) (i : ℕ) (first v : Value) (e : Ending) →
    BeginsWithText vs → map (λ a. value.Str (id a)) us ≡ take i vs → i < length vs → first ≡ get_or vs 0 first → v ≡ get_or vs i v →
    ((x : StrId) → v ≡ value.Str x → ⊥) → Fails texts (model.ErrsWith (error.CompareLess (kind_of (meant texts first)) (kind_of (meant texts v)))) e →
    (s : store.Store) (t : TableRef) → Fails texts (rows.sort_items s t (map (meant texts) vs)) e
text_fails texts id [] us i first v e h is l one at apart f s t = absurd h
text_fails texts id (value.Str x ∷ vs) us i first v e h is l one at apart f s t =
    fails_at texts s t (meant texts (value.Str x)) (map (meant texts) vs) (meant texts v) e
    (unordered_at texts (meant texts (value.Str x)) (λ a. value.Str (id a)) (λ a. text_yes texts x (id a)) (value.Str x ∷ vs) us i v is l at
    (text_no texts x v apart))
    (subst (λ u. Fails texts (model.ErrsWith (error.CompareLess (kind_of (meant texts u)) (kind_of (meant texts v)))) e) one f)
text_fails texts id (_ ∷ vs) us i first v e h is l one at apart f s t = absurd h

-- the first element is neither
neither : (texts : List Bytes) (v : Value) → ((z : ℤ) → v ≡ value.Num z → ⊥) → ((x : StrId) → v ≡ value.Str x → ⊥) →
    rows.is_ordered (meant texts v) (meant texts v) ≡ false
unfolding meant
neither texts (value.Num z) n x = absurd (n z refl)
neither texts (value.Str z) n x = absurd (x z refl)
neither texts _ n x = refl

pub first_fails : (texts : List Bytes) (vs : List Value) (v : Value) (e : Ending) → slice_get vs 0 ≡ Some v → ((z : ℤ) → v ≡ value.Num z → ⊥) →
    ((x : StrId) → v ≡ value.Str x → ⊥) → Fails texts (model.ErrsWith (error.CompareLess (kind_of (meant texts v)) (kind_of (meant texts v)))) e →
    (s : store.Store) (t : TableRef) → Fails texts (rows.sort_items s t (map (meant texts) vs)) e
first_fails texts [] v e at n x f s t = absurd (cc)
first_fails texts (u ∷ us) v e at n x f s t =
    let is : u ≡ v = cc in
    subst (λ u. Fails texts (rows.sort_items s t (meant texts u ∷ map (meant texts) us)) e) (sym is)
    (fails_at texts s t (meant texts v) (map (meant texts) us) (meant texts v) e
    (unordered_next (meant texts v) (meant texts v) (map (meant texts) us) (neither texts v n x)) f)

-- ---- what is in order

into_map : {K : Type 0} (lt : K → K → Bool) (f : K → m.Value) → ((a b : K) → rows.goes_before (f a) (f b) ≡ lt a b) → (v : K) (ws : List K) →
    rows.sorted_into (f v) (map f ws) ≡ map f (into lt v ws)
unfolding into
into_map lt f same v [] = refl
into_map lt f same v (w ∷ ws) =
    ap (λ b. if b then f v ∷ f w ∷ map f ws else f w ∷ rows.sorted_into (f v) (map f ws)) (same v w)
    ∙ ap (λ l. if lt v w then f v ∷ f w ∷ map f ws else f w ∷ l) (into_map lt f same v ws)
    ∙ by (lt v w)
  where
    by : (b : Bool) → (if b then f v ∷ f w ∷ map f ws else f w ∷ map f (into lt v ws)) ≡ map f (if b then v ∷ w ∷ ws else w ∷ into lt v ws)
    by true = refl
    by false = refl

sorted_map : {K : Type 0} (lt : K → K → Bool) (f : K → m.Value) → ((a b : K) → rows.goes_before (f a) (f b) ≡ lt a b) → (vs : List K) →
    rows.sorted (map f vs) ≡ map f (sort lt vs)
unfolding sort
sorted_map lt f same [] = refl
sorted_map lt f same (v ∷ vs) = ap (rows.sorted_into (f v)) (sorted_map lt f same vs) ∙ into_map lt f same v (sort lt vs)

-- numbers

less_number : (a b : ℤ) → int_lt a b ≡ is_lt (int_cmp a b)
less_number a b = by (int_lt a b) (int_lt b a)
  where
    by : (c d : Bool) → c ≡ is_lt (if c then Less else (if d then Greater else Equal))
    by true d = refl
    by false true = refl
    by false false = refl

meant_numbers : (texts : List Bytes) (zs : List ℤ) → map (meant texts) (map (λ z. value.Num z) zs) ≡ map (λ z. m.Number z) zs
unfolding meant
meant_numbers texts [] = refl
meant_numbers texts (z ∷ zs) = ap (λ l. m.Number z ∷ l) (meant_numbers texts zs)

numbers_in_order : (texts : List Bytes) (zs : List ℤ) → AreOrdered (map (meant texts) (map (λ z. value.Num z) zs))
numbers_in_order texts [] = tt
numbers_in_order texts (z ∷ zs) = all_ordered texts (meant texts (value.Num z)) (λ z. value.Num z) (number_yes texts z) (z ∷ zs)

pub numbers_sorted : (texts : List Bytes) (vs ws : List Value) (xs ys : List ℤ) → vs ≡ map (λ z. value.Num z) xs → IsPermutation xs ys →
    IsSortedBy (λ a b. is_lt (int_cmp a b)) ys → ws ≡ map (λ z. value.Num z) ys → AreSorted texts vs ws
numbers_sorted texts vs ws xs ys is moved up are =
    record {
      ordered = subst (λ vs. AreOrdered (map (meant texts) vs)) (sym is) (numbers_in_order texts xs);
      sorted =
          ap (map (meant texts)) are ∙ meant_numbers texts ys
          ∙ ap (map (λ z. m.Number z)) (sym (sorted_is int_cmp int_cmp_total exact_signed xs ys moved (rises (λ a b. is_lt (int_cmp a b)) ys up)))
          ∙ sym (ap (λ vs. rows.sorted (map (meant texts) vs)) is ∙ ap rows.sorted (meant_numbers texts xs)
          ∙ sorted_map (λ a b. is_lt (int_cmp a b)) (λ z. m.Number z) less_number xs);
    }

-- texts

pub front_less : (a b : Ordering) → is_lt (ordering_then a b) ≡ false → is_lt a ≡ false
front_less Less b h = absurd (cc)
front_less Equal b h = refl
front_less Greater b h = refl

less_text : (a b : Bytes) → bytes_less a b ≡ is_lt (slice_cmp nat_cmp a b)
less_text a b =
    sym (same_from_slice_cmp nat_cmp is_lt bytes_less refl (λ _ _. refl) (λ _ _. refl) (λ x y xs ys o h. grind (arith, nat_tests)) a b
    (slice_cmp nat_cmp a b) refl)

module _ {A : Type 0} (texts : List Bytes) (bytes : A → Bytes) (id : A → StrId) where
  meant_texts : (us : List A) → AllByRecursion (λ a. slice_get texts (id a).0 ≡ Some (bytes a)) us →
      map (meant texts) (map (λ a. value.Str (id a)) us) ≡ map (λ bs. m.Text bs) (map bytes us)
  unfolding meant
  meant_texts [] h = refl
  meant_texts (a ∷ us) h =
      ap (λ bs. m.Text bs ∷ map (meant texts) (map (λ a. value.Str (id a)) us)) (get_or_from_slice_get texts (id a).0 (bytes a) [] h.0)
      ∙ ap (λ l. m.Text (bytes a) ∷ l) (meant_texts us h.1)

  texts_in_order : (us : List A) → AreOrdered (map (meant texts) (map (λ a. value.Str (id a)) us))
  texts_in_order [] = tt
  texts_in_order (a ∷ us) = all_ordered texts (meant texts (value.Str (id a))) (λ a. value.Str (id a)) (λ b. text_yes texts (id a) (id b)) (a ∷ us)

  pub texts_sorted : (vs ws : List Value) (xs ys : List A) → vs ≡ map (λ a. value.Str (id a)) xs →
      AllByRecursion (λ a. slice_get texts (id a).0 ≡ Some (bytes a)) xs → IsPermutation xs ys →
      Rises (λ a b. is_lt (slice_cmp nat_cmp a b)) (map bytes ys) → ws ≡ map (λ a. value.Str (id a)) ys → AreSorted texts vs ws
  texts_sorted vs ws xs ys is named moved up are =
      let still = recursion_from_All (λ a. slice_get texts (id a).0 ≡ Some (bytes a)) ys
      (All-permutation (λ a. slice_get texts (id a).0 ≡ Some (bytes a)) xs ys moved
      (All-from_recursion (λ a. slice_get texts (id a).0 ≡ Some (bytes a)) xs named)) in
      record {
        ordered = subst (λ vs. AreOrdered (map (meant texts) vs)) (sym is) (texts_in_order xs);
        sorted =
            ap (map (meant texts)) are ∙ meant_texts ys still
            ∙ ap (map (λ bs. m.Text bs)) (sym (sorted_is (slice_cmp nat_cmp) nat_list_cmp_total exact_bytes (map bytes xs) (map bytes ys)
            (IsPermutation-map bytes xs ys moved) up))
            ∙ sym (ap (λ vs. rows.sorted (map (meant texts) vs)) is ∙ ap rows.sorted (meant_texts xs named)
            ∙ sorted_map (λ a b. is_lt (slice_cmp nat_cmp a b)) (λ bs. m.Text bs) less_text (map bytes xs));
      }

-- the values are those that were there
pub moved_values : {A : Type 0} (of : A → Value) (vs ws : List Value) (xs ys : List A) → vs ≡ map of xs → IsPermutation xs ys → ws ≡ map of ys →
    IsPermutation vs ws
moved_values of vs ws xs ys is moved are =
    subst (λ vs. IsPermutation vs ws) (sym is) (subst (IsPermutation (map of xs)) (sym are) (IsPermutation-map of xs ys moved))

pub none_sorted : (texts : List Bytes) (vs ws : List Value) → vs ≡ [] → ws ≡ [] → AreSorted texts vs ws
none_sorted texts vs ws e f =
    subst (λ vs. AreSorted texts vs ws) (sym e) (subst (AreSorted texts []) (sym f) (record { ordered = tt; sorted = refl }))

-- ---- the row

same_store : (s : store.Store) (t : TableRef) → store.with_table s t (store.table_at s t) ≡ s
unfolding store.with_table store.table_at
same_store s (m.Shared i) = ap (λ l. record s { shared = l }) (set-get_or s.shared i store.empty_table)
same_store s (m.Own i) = ap (λ l. record s { tables = l }) (set-get_or s.tables i store.empty_table)

sorts_is : (s : store.Store) (t : TableRef) (vs : List m.Value) → AreOrdered vs →
    rows.sort_items s t vs ≡ rows.changed s t [] (tables.put_all (store.table_at s t) (pos 1) (rows.sorted vs))
sorts_is s t [] h = ap (λ s. model.Answers [] s) (sym (same_store s t))
sorts_is s t (v ∷ vs) h = ap (rows.sorts s t v (v ∷ vs)) h

module _ (w : LibWorld) (world : IsWorld w) (t : TableId) (may : MayUseIn w (value.Table t)) where
  -- the elements
  elements : List m.Value
  elements = rows.items (store.table_at (store_in w) (table_ref t)) (pos 1) (tables.border (store.table_at (store_in w) (table_ref t)))

  elements_are : (vs : List Value) → vs ≡ items (table_at w.arena t) (pos 1) (rule.border (table_at w.arena t)) → elements ≡ map (meant w.names) vs
  unfolding elements
  elements_are vs is =
      ap (λ n. rows.items (store.table_at (store_in w) (table_ref t)) (pos 1) n) (border_store w world t may)
      ∙ ap (λ y. rows.items y (pos 1) (rule.border (table_at w.arena t))) (table_is w world t may)
      ∙ kept.items_kept w.names w.owner world.own.interned.distinct (table_at w.arena t) (pos 1) (rule.border (table_at w.arena t)) (scripts w world t may)
      ∙ ap (map (meant w.names)) (sym is)

  -- a table that is not frozen is sorted, or its elements are refused
  pub sort_fails : (vs : List Value) (e : Ending) → (table_at w.arena t).is_frozen ≡ false →
      vs ≡ items (table_at w.arena t) (pos 1) (rule.border (table_at w.arena t)) →
      Fails w.names (rows.sort_items (store_in w) (table_ref t) (map (meant w.names) vs)) e →
      Fails w.names (rows.unless_frozen (store_in w) (table_ref t) (rows.sort_items (store_in w) (table_ref t)
      (rows.items (store.table_at (store_in w) (table_ref t)) (pos 1) (tables.border (store.table_at (store_in w) (table_ref t)))))) e
  unfolding elements
  sort_fails vs e thawed is h =
      subst (λ row. Fails w.names row e)
      (sym (thawed_is w world t may (rows.sort_items (store_in w) (table_ref t) elements) thawed
      ∙ ap (rows.sort_items (store_in w) (table_ref t)) (elements_are vs is))) h

  pub sort_runs : (x : TableView) (vs ws : List Value) (rs : List Value) (done : Unit {0}) → (table_at w.arena t).is_frozen ≡ false →
      vs ≡ items (table_at w.arena t) (pos 1) (rule.border (table_at w.arena t)) → AreSorted w.names vs ws → AllByRecursion (MayUseIn w) ws →
      x ≡ put_all (table_at w.arena t) (pos 1) ws → Runs w (with_changed w t x) rs rs (Ok done)
      (rows.unless_frozen (store_in w) (table_ref t) (rows.sort_items (store_in w) (table_ref t)
      (rows.items (store.table_at (store_in w) (table_ref t)) (pos 1) (tables.border (store.table_at (store_in w) (table_ref t))))))
  unfolding elements
  sort_runs x vs ws rs done thawed is sorted used now =
      none_given w (with_changed w t x) rs done _
      (thawed_is w world t may (rows.sort_items (store_in w) (table_ref t) elements) thawed
      ∙ ap (rows.sort_items (store_in w) (table_ref t)) (elements_are vs is)
      ∙ sorts_is (store_in w) (table_ref t) (map (meant w.names) vs) sorted.ordered
      ∙ ap (λ ws. rows.changed (store_in w) (table_ref t) [] (tables.put_all (store.table_at (store_in w) (table_ref t)) (pos 1) ws)) (sym sorted.sorted)
      ∙ changed_is w world t may x (tables.put_all (store.table_at (store_in w) (table_ref t)) (pos 1) (map (meant w.names) ws)) []
      (values_put w world t may (pos 1) ws x used now))

pub sorted_used : (w : LibWorld) (vs ws : List Value) → IsPermutation vs ws → AllByRecursion (MayUseIn w) vs → AllByRecursion (MayUseIn w) ws
sorted_used w vs ws moved h = recursion_from_All (MayUseIn w) ws (All-permutation (MayUseIn w) vs ws moved (All-from_recursion (MayUseIn w) vs h))

-- ---- steps of loops

-- one more is read
pub read_more : {A : Type 0} (of : A → Value) (xs : List A) (x : A) (vs : List Value) (i : ℕ) (v : Value) → map of xs ≡ take i vs → i < length vs →
    v ≡ get_or vs i v → v ≡ of x → map of (xs ++ x ∷ []) ≡ take (i + 1) vs
read_more of xs x vs i v h l at is =
    map-append of xs (x ∷ [])
    ∙ ap (λ us. us ++ of x ∷ []) h
    ∙ ap (λ u. take i vs ++ u ∷ []) (sym is ∙ at)
    ∙ sym (take_more vs i v l)

-- one more is made
pub made_more : {A : Type 0} (of : A → Value) (xs : List A) (i : ℕ) (x : A) (vs : List Value) → i < length xs → x ≡ get_or xs i x → vs ≡ map of (take i xs) →
    vs ++ of x ∷ [] ≡ map of (take (i + 1) xs)
made_more of xs i x vs l at h =
    ap (λ us. us ++ of x ∷ []) h
    ∙ ap (λ y. map of (take i xs) ++ of y ∷ []) at
    ∙ sym (ap (map of) (take_more xs i x l) ∙ map-append of (take i xs) (get_or xs i x ∷ []))

-- and has what the others have
pub all_and : {A : Type 0} (P : A → Type 0) (xs : List A) (x : A) → AllByRecursion P xs → P x → AllByRecursion P (xs ++ x ∷ [])
all_and P [] x h p = (p, tt)
all_and P (y ∷ ys) x h p = (h.0, all_and P ys x h.1 p)

-- ---- all elements of a table

pub elements_at : (vs : List Value) (u x : TableView) (one end : ℤ) (n : ℕ) → vs ≡ items u one n → u ≡ x → one ≡ pos 1 → end ≡ pos (rule.border u) →
    n ≡ count_between one end → vs ≡ items x (pos 1) (rule.border x)
elements_at vs u x one end n is same first last count =
    is
    ∙ ap (λ k. items u k n) first
    ∙ ap (λ n. items u (pos 1) n) (count ∙ ap (λ k. count_between k end) first ∙ ap (count_between (pos 1)) last ∙ up_to (rule.border u))
    ∙ ap (λ u. items u (pos 1) (rule.border u)) same
  where
    up_to : (n : ℕ) → count_between (pos 1) (pos n) ≡ n
    up_to n = let is : (pos n -ℤ pos 1) +ℤ pos 1 ≡ pos n = omega (arith, ints) in ap natural is

pub elements_used : (w : LibWorld) (world : IsWorld w) (t : TableId) (may : MayUseIn w (value.Table t)) (vs : List Value) →
    vs ≡ items (table_at w.arena t) (pos 1) (rule.border (table_at w.arena t)) → AllByRecursion (MayUseIn w) vs
elements_used w world t may vs is = subst (AllByRecursion (MayUseIn w)) (sym is) (items_used w world t may (pos 1) (rule.border (table_at w.arena t)))
