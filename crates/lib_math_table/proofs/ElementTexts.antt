-- Elements whose texts are joined.
use Rattle.std.proofs.Common.{◌≡◌, inl, inr, ℕ, zero, suc, ◌+◌, ◌-◌, ◌<◌, ◌≤◌, ℤ, pos, ◌+ℤ◌, Bool, true, false, List, [], ◌∷◌, ◌++◌, map, length, length-append, slice_get, Option, Some, None, Result, refl, sym, ◌∙◌, ap, subst, arith, add-one}
use Rattle.std.proofs.lemmas.Bool.Decides.{nat_tests}
use Rattle.std.proofs.lemmas.Int.{ints}
use Rattle.std.proofs.lemmas.Option.{get_or_from_slice_get}
use Rattle.std.specs.Fmt.{signed_decimal}
use Rattle.std.specs.Prelude.{nat_eq, nat_le, if◌then◌else◌}
use Rattle.byte_text.specs.declared.fixed.StrId.{StrId}
use Rattle.value_model.specs.Answers as model
use Rattle.value_model.specs.Arguments.{number_or}
use Rattle.value_model.specs.CoreRows as core
use Rattle.value_model.specs.Errors as error
use Rattle.value_model.specs.Metamethods.{as_text, longest_string}
use Rattle.value_model.specs.Parts.{meant, meant_error, bytes_at, table_ref}
use Rattle.value_model.specs.Store as store
use Rattle.value_model.specs.StringRows.{count_between}
use Rattle.value_model.specs.TableRows as rows
use Rattle.value_model.specs.Tables as tables
use Rattle.value_model.specs.Values as m
use Rattle.value_model.specs.Values.{Bytes, kind_of}
use Rattle.value_model.specs.declared.builtin.Builtin.TheVariants as builtin
use Rattle.value_model.specs.declared.error.RunErr.TheVariants as err
use Rattle.value_model.specs.declared.ids.TableId.{TableId}
use Rattle.value_model.specs.declared.kind.Kind.{Kind}
use Rattle.value_model.specs.declared.value.Value.{Value}
use Rattle.value_model.specs.declared.value.Value.TheVariants as value
use Rattle.value_arena.specs.Arenas.{table_at}
use Rattle.value_arena.specs.Tables.{TableView}
use Rattle.luau_tables.specs.Own.{HasText}
use Rattle.luau_tables.specs.Part.{table_of, OfTable}
use Rattle.luau_tables.specs.Rules as rule
use Rattle.luau_tables.specs.Worlds.{IsWorld, MayUseIn, store_in}
use Rattle.luau_tables.specs.declared.globals.LibWorld.{LibWorld}
use Rattle.lib_arguments.specs.Checks.{Fails}
use Rattle.lib_arguments.specs.Rows.{Runs}
use Rattle.lib_arguments.specs.declared.ending.Ending.{Ending}
use Rattle.lib_arguments.specs.declared.ending.Ending.TheVariants.{RunError}
use Rattle.table_lists.specs.Lists.{item, items}
use Rattle.table_lists.proofs.Kept as kept
use Rattle.lib_math_table.specs.Joined.{joined_from, joins_all, Holds, appended, parted, AddsText, Joins}
use Rattle.lib_math_table.proofs.Changes.{scripts, table_is, usable}
use Rattle.lib_math_table.proofs.Copied.{pairs_on, some_on}
use Rattle.lib_math_table.proofs.Inserting.{end_is}
use Rattle.lib_math_table.proofs.Lists.{few, many}
use Rattle.lib_math_table.proofs.Made.{runs_since}

pub element_fails : (texts : List Bytes) (kind got : Kind) (k place : ℤ) → kind ≡ got → k ≡ place →
    Fails texts (model.ErrsWith (error.InvalidElement kind k)) (RunError (err.InvalidElement got place))
unfolding meant_error
element_fails texts kind got k place e f = (
  ap (λ g. model.ErrsWith (error.InvalidElement g k)) e
      ∙ ap (λ k. model.ErrsWith (error.InvalidElement got k)) f,
  tt,
)

-- ---- texts of values

pub adds_text : (texts : List Bytes) (v : Value) (x : StrId) (bs text text' : Bytes) → v ≡ value.Str x → slice_get texts x.0 ≡ Some bs →
    text' ≡ appended text bs → AddsText (as_text (meant texts v)) text text' true
unfolding meant
adds_text texts v x bs text text' h at is =
    subst (λ v. AddsText (as_text (meant texts v)) text text' true) (sym h)
    (refl, is ∙ ap (appended text) (sym (get_or_from_slice_get texts x.0 bs [] at)))

pub adds_digits : (texts : List Bytes) (v : Value) (z : ℤ) (text text' : Bytes) → v ≡ value.Num z → text' ≡ appended text (signed_decimal z) →
    AddsText (as_text (meant texts v)) text text' true
unfolding meant
adds_digits texts v z text text' h is = subst (λ v. AddsText (as_text (meant texts v)) text text' true) (sym h) (refl, is)

pub adds_none : (texts : List Bytes) (v : Value) (text text' : Bytes) → ((x : StrId) → v ≡ value.Str x → ⊥) → ((z : ℤ) → v ≡ value.Num z → ⊥) →
    AddsText (as_text (meant texts v)) text text' false
unfolding meant
adds_none texts (value.Str x) text text' s n = absurd (s x refl)
adds_none texts (value.Num z) text text' s n = absurd (n z refl)
adds_none texts _ text text' s n = refl

-- ---- what is kept of a text

clash : true ≡ false → ⊥
clash e = absurd (cc)

pub holds_more : (kept full bs : Bytes) → Holds kept full → Holds (appended kept bs) (full ++ bs)
holds_more kept full bs h = by (nat_le (length kept) longest_string) refl h
  where
    longer : length full ≤ length (full ++ bs)
    longer = omega (arith, length-append full bs)

    past : nat_le (length kept) longest_string ≡ false → longest_string < length kept
    past e = grind (arith, nat_tests, e)

    by : (b : Bool) → nat_le (length kept) longest_string ≡ b → Holds kept full → Holds (if b then kept ++ bs else kept) (full ++ bs)
    by true e (inl is) = inl (ap (λ text. text ++ bs) is)
    by true e (inr p) = absurd (clash (sym e ∙ many (length kept) longest_string p.0))
    by false e (inl is) = inr (past e, omega (arith, longer, past e, ap length is))
    by false e (inr p) = inr (p.0, omega (arith, longer, p.1))

-- a text that fits is all there
pub holds_all : (kept full : Bytes) → Holds kept full → length kept ≤ longest_string → kept ≡ full
holds_all kept full (inl is) l = is
holds_all kept full (inr p) l = absurd (omega (arith, l, p.0))

pub holds_long : (kept full : Bytes) → Holds kept full → longest_string < length kept → longest_string < length full
holds_long kept full (inl is) l = omega (arith, l, ap length is)
holds_long kept full (inr p) l = p.1

-- ---- elements in a list

element_row : model.LibAnswer → (Bytes → model.LibAnswer) → Option Bytes → model.LibAnswer
element_row e go o = elim o [ None ↦ e | Some bs ↦ go bs ]

joins_listed : (s : store.Store) (t : store.TableOf) (sep : Bytes) (k : ℤ) (n : ℕ) (front : Option Bytes) →
    rows.joins s t sep k n front ≡ joins_all s sep k (rows.items t k n) front
unfolding element_row
joins_listed s t sep k zero front = refl
joins_listed s t sep k (suc n) front = by (as_text (tables.item t k)) (λ bs. joins_listed s t sep (k +ℤ pos 1) n (Some (rows.joined_with sep front bs)))
  where
    by : (o : Option Bytes) → ((bs : Bytes) → rows.joins s t sep (k +ℤ pos 1) n (Some (rows.joined_with sep front bs))
        ≡ joins_all s sep (k +ℤ pos 1) (rows.items t (k +ℤ pos 1) n) (Some (rows.joined_with sep front bs))) →
        element_row (model.ErrsWith (error.InvalidElement (kind_of (tables.item t k)) k))
        (λ bs. rows.joins s t sep (k +ℤ pos 1) n (Some (rows.joined_with sep front bs))) o
        ≡ element_row (model.ErrsWith (error.InvalidElement (kind_of (tables.item t k)) k))
        (λ bs. joins_all s sep (k +ℤ pos 1) (rows.items t (k +ℤ pos 1) n) (Some (rows.joined_with sep front bs))) o
    by None rest = refl
    by (Some bs) rest = rest bs

pub joins_is : (w : LibWorld) (world : IsWorld w) (t : TableId) (may : MayUseIn w (value.Table t)) (sep : Bytes) (k : ℤ) (n : ℕ) →
    rows.joins (store_in w) (store.table_at (store_in w) (table_ref t)) sep k n None
    ≡ joins_all (store_in w) sep k (map (meant w.names) (items (table_at w.arena t) k n)) None
joins_is w world t may sep k n =
    ap (λ (u : store.TableOf). rows.joins (store_in w) u sep k n None) (table_is w world t may)
    ∙ joins_listed (store_in w) (table_of w.names (table_at w.arena t)) sep k n None
    ∙ ap (λ vs. joins_all (store_in w) sep k vs None) (kept.items_kept w.names w.owner world.own.interned.distinct (table_at w.arena t) k n
    (scripts w world t may))

-- an element with a text, and one without
text_next : (s : store.Store) (sep : Bytes) (k : ℤ) (v : m.Value) (vs : List m.Value) (front : Option Bytes) (bs : Bytes) → as_text v ≡ Some bs →
    joins_all s sep k (v ∷ vs) front ≡ joins_all s sep (k +ℤ pos 1) vs (Some (rows.joined_with sep front bs))
unfolding element_row
text_next s sep k v vs front bs e =
    ap (element_row (model.ErrsWith (error.InvalidElement (kind_of v) k)) (λ bs. joins_all s sep (k +ℤ pos 1) vs (Some (rows.joined_with sep front bs)))) e

none_next : (s : store.Store) (sep : Bytes) (k : ℤ) (v : m.Value) (vs : List m.Value) (front : Option Bytes) → as_text v ≡ None →
    joins_all s sep k (v ∷ vs) front ≡ model.ErrsWith (error.InvalidElement (kind_of v) k)
unfolding element_row
none_next s sep k v vs front e =
    ap (element_row (model.ErrsWith (error.InvalidElement (kind_of v) k)) (λ bs. joins_all s sep (k +ℤ pos 1) vs (Some (rows.joined_with sep front bs)))) e

-- ---- the loop

-- what stands before an element
abbrev pub front_of : ℕ → Bytes → Option Bytes
front_of zero full = None
front_of (suc i) full = Some full

-- the first i of n elements are joined
pub record Joining (texts : List Bytes) (sep : Bytes) (t : TableView) (k : ℤ) (n i : ℕ) (kept : Bytes) : Type 0 where
  pub full : Bytes
  pub row : (s : store.Store) → joins_all s sep k (map (meant texts) (items t k n)) None
      ≡ joins_all s sep (k +ℤ pos i) (map (meant texts) (items t (k +ℤ pos i) (n - i))) (front_of i full)
  pub holds : Holds kept (rows.whole_text (front_of i full))

module _ (texts : List Bytes) (sep : Bytes) (t : TableView) (k : ℤ) (n : ℕ) where
  pub joining_none : (kept : Bytes) → kept ≡ [] → Joining texts sep t k n 0 kept
  joining_none kept e =
      record {
        full = [];
        row = λ s.
            ap (λ z. joins_all s sep z (map (meant texts) (items t z n)) None) (plus_none k)
            ∙ ap (λ m. joins_all s sep (k +ℤ pos 0) (map (meant texts) (items t (k +ℤ pos 0) m)) None) all_left;
        holds = inl e;
      }
    where
      all_left : n ≡ n - 0
      all_left = omega arith

      plus_none : (k : ℤ) → k ≡ k +ℤ pos 0
      plus_none k = omega (arith, ints)

  pub joining_all : (i : ℕ) (kept : Bytes) → i ≡ n → Joining texts sep t k n i kept → Joins sep k (map (meant texts) (items t k n)) kept
  joining_all i kept e j =
      record {
        full = rows.whole_text (front_of i j.full);
        row = λ s. j.row s ∙ ap (λ m. joins_all s sep (k +ℤ pos i) (map (meant texts) (items t (k +ℤ pos i) m)) (front_of i j.full)) (none_left i e);
        holds = j.holds;
      }
    where
      none_left : (i : ℕ) → i ≡ n → n - i ≡ 0
      none_left i e = omega (arith, e)

  module _ (i : ℕ) (kept kept' kept'' : Bytes) (first : Bool) (v : Value) (z : ℤ) (l : i < n) (at : z ≡ k +ℤ pos i) (is : v ≡ item t z)
      (j : Joining texts sep t k n i kept) where
    left : n - i ≡ suc (n - (i + 1))
    left = omega (arith, l)

    -- the row at this element
    here : (s : store.Store) → joins_all s sep k (map (meant texts) (items t k n)) None
        ≡ joins_all s sep (k +ℤ pos i) (meant texts v ∷ map (meant texts) (items t ((k +ℤ pos i) +ℤ pos 1) (n - (i + 1)))) (front_of i j.full)
    here s =
        j.row s
        ∙ ap (λ m. joins_all s sep (k +ℤ pos i) (map (meant texts) (items t (k +ℤ pos i) m)) (front_of i j.full)) left
        ∙ ap (λ u. joins_all s sep (k +ℤ pos i) (meant texts u ∷ map (meant texts) (items t ((k +ℤ pos i) +ℤ pos 1) (n - (i + 1)))) (front_of i j.full))
        (sym (is ∙ ap (item t) at))

    pub joining_fails : (e : Ending) → AddsText (as_text (meant texts v)) kept' kept'' false →
        Fails texts (model.ErrsWith (error.InvalidElement (kind_of (meant texts v)) z)) e → (s : store.Store) →
        Fails texts (joins_all s sep k (map (meant texts) (items t k n)) None) e
    joining_fails e adds h s = by (as_text (meant texts v)) refl adds
      where
        by : (o : Option Bytes) → as_text (meant texts v) ≡ o → AddsText o kept' kept'' false →
            Fails texts (joins_all s sep k (map (meant texts) (items t k n)) None) e
        by None is_none adds =
            subst (λ row. Fails texts row e)
            (ap (λ z. model.ErrsWith (error.InvalidElement (kind_of (meant texts v)) z)) at
            ∙ sym (here s ∙ none_next s sep (k +ℤ pos i) (meant texts v) (map (meant texts) (items t ((k +ℤ pos i) +ℤ pos 1) (n - (i + 1))))
            (front_of i j.full) is_none)) h
        by (Some bs) is_some adds = absurd (clash (sym adds.0))

    not_first : (i : ℕ) → nat_eq (suc i) 0 ≡ false
    not_first i = grind (arith, nat_tests)

    -- what is kept with it
    holds_next : (bs : Bytes) → first ≡ nat_eq i 0 → kept' ≡ parted first sep kept → kept'' ≡ appended kept' bs →
        Holds kept'' (rows.joined_with sep (front_of i j.full) bs)
    holds_next bs is_first part adds =
        subst (λ text. Holds text (rows.joined_with sep (front_of i j.full) bs))
        (sym (adds ∙ ap (λ text. appended text bs) (part ∙ ap (λ b. parted b sep kept) is_first)))
        (by i j.full j.holds)
      where
        by : (i : ℕ) (full : Bytes) → Holds kept (rows.whole_text (front_of i full)) →
            Holds (appended (parted (nat_eq i 0) sep kept) bs) (rows.joined_with sep (front_of i full) bs)
        by zero full h = holds_more kept [] bs h
        by (suc i) full h =
            subst (λ b. Holds (appended (parted b sep kept) bs) ((full ++ sep) ++ bs)) (sym (not_first i))
            (holds_more (appended kept sep) (full ++ sep) bs (holds_more kept full sep h))

    pub joining_more : first ≡ nat_eq i 0 → kept' ≡ parted first sep kept → AddsText (as_text (meant texts v)) kept' kept'' true →
        Joining texts sep t k n (i + 1) kept''
    joining_more is_first part adds = by (as_text (meant texts v)) refl adds
      where
        next : (k +ℤ pos i) +ℤ pos 1 ≡ k +ℤ pos (i + 1)
        next = omega (arith, ints)

        one_more : (full : Bytes) → front_of (i + 1) full ≡ Some full
        one_more full = ap (λ n. front_of n full) (add-one i)

        by : (o : Option Bytes) → as_text (meant texts v) ≡ o → AddsText o kept' kept'' true → Joining texts sep t k n (i + 1) kept''
        by None is_none adds = absurd (clash adds)
        by (Some bs) is_some adds =
            let full = rows.joined_with sep (front_of i j.full) bs in
            record {
              full = full;
              row = λ s.
                  here s
                  ∙ text_next s sep (k +ℤ pos i) (meant texts v) (map (meant texts) (items t ((k +ℤ pos i) +ℤ pos 1) (n - (i + 1))))
                  (front_of i j.full) bs is_some
                  ∙ ap (λ z. joins_all s sep z (map (meant texts) (items t z (n - (i + 1)))) (Some full)) next
                  ∙ ap (joins_all s sep (k +ℤ pos (i + 1)) (map (meant texts) (items t (k +ℤ pos (i + 1)) (n - (i + 1))))) (sym (one_more full));
              holds = subst (λ o. Holds kept'' (rows.whole_text o)) (sym (one_more full)) (holds_next bs is_first part adds.1);
            }

-- ---- the text of all

pub gives_joined : (s : store.Store) (sep : Bytes) (k : ℤ) (vs : List m.Value) (kept : Bytes) → Joins sep k vs kept → length kept ≤ longest_string →
    joins_all s sep k vs None ≡ core.gives s (m.Text kept)
gives_joined s sep k vs kept j l =
    let all = holds_all kept j.full j.holds l in
    j.row s
    ∙ ap (λ bs. if nat_le (length bs) longest_string then core.gives s (m.Text bs) else model.ErrsWith error.StringTooLarge) (sym all)
    ∙ ap (λ b. if b then core.gives s (m.Text kept) else model.ErrsWith error.StringTooLarge) (few (length kept) longest_string l)

pub joined_fails : (texts : List Bytes) (s : store.Store) (sep : Bytes) (k : ℤ) (vs : List m.Value) (kept : Bytes) → Joins sep k vs kept →
    longest_string < length kept → Fails texts (joins_all s sep k vs None) (RunError err.StringTooLarge)
unfolding meant_error
joined_fails texts s sep k vs kept j l = (
  j.row s ∙ ap (λ b. if b then core.gives s (m.Text j.full) else model.ErrsWith error.StringTooLarge)
      (many (length j.full) longest_string (holds_long kept j.full j.holds l)),
  tt,
)

-- the texts of elements have numbers
pub table_texts : (w : LibWorld) (world : IsWorld w) (t : TableId) (may : MayUseIn w (value.Table t)) → OfTable (HasText w.names) (table_at w.arena t)
table_texts w world t may =
    let u = usable w world t may in
    record {
      entries = pairs_on (MayUseIn w) (HasText w.names) (λ v h. h.1) (table_at w.arena t).entries u.entries;
      meta = some_on (MayUseIn w) (HasText w.names) (λ v h. h.1) (table_at w.arena t).meta u.meta;
    }

-- ---- the row

pub joined_from_is : (w : LibWorld) (world : IsWorld w) (t : TableId) (may : MayUseIn w (value.Table t)) (sep : Bytes) (args : List m.Value)
    (first end : ℤ) → first ≡ pos 1 → end ≡ pos (rule.border (table_at w.arena t)) →
    joined_from (store_in w) (table_ref t) sep args ≡ number_or builtin.TableConcat 2 args first
    (λ i. number_or builtin.TableConcat 3 args end (λ j. rows.joins (store_in w) (store.table_at (store_in w) (table_ref t)) sep i (count_between i j) None))
joined_from_is w world t may sep args first end one is_end =
    let rest = λ (a b : ℤ). number_or builtin.TableConcat 2 args a (λ i. number_or builtin.TableConcat 3 args b
    (λ j. rows.joins (store_in w) (store.table_at (store_in w) (table_ref t)) sep i (count_between i j) None)) in
    ap (λ b. rest (pos 1) b) (end_is w world t may ∙ sym is_end) ∙ ap (λ a. rest a end) (sym one)

-- from a world with more texts
pub concat_since : (v w u : LibWorld) (t : TableId) (sep : Bytes) (args : List Value) (rs rs' : List Value) (result : Result (Unit {0}) Ending) →
    store_in v ≡ store_in w → map (meant v.names) args ≡ map (meant w.names) args →
    Runs v u rs rs' result (joined_from (store_in v) (table_ref t) sep (map (meant v.names) args)) →
    Runs w u rs rs' result (joined_from (store_in w) (table_ref t) sep (map (meant w.names) args))
concat_since v w u t sep args rs rs' result e f h =
    subst (λ row. Runs w u rs rs' result row)
    (ap (λ s. joined_from s (table_ref t) sep (map (meant v.names) args)) e ∙ ap (joined_from (store_in w) (table_ref t) sep) f)
    (runs_since v w u rs rs' result (joined_from (store_in v) (table_ref t) sep (map (meant v.names) args)) e h)

-- where the table, the separator and the count are known by equations
pub joins_there : (w : LibWorld) (world : IsWorld w) (t : TableId) (may : MayUseIn w (value.Table t)) (u : TableView) (x : ℕ) (sep : Bytes) (k : ℤ)
    (n count : ℕ) → u ≡ table_at w.arena t → slice_get w.names x ≡ Some sep → n ≡ count →
    rows.joins (store_in w) (store.table_at (store_in w) (table_ref t)) (bytes_at w.names x) k count None
    ≡ joins_all (store_in w) sep k (map (meant w.names) (items u k n)) None
joins_there w world t may u x sep k n count is at e =
    ap (λ sep. rows.joins (store_in w) (store.table_at (store_in w) (table_ref t)) sep k count None) (get_or_from_slice_get w.names x sep [] at)
    ∙ ap (λ n. rows.joins (store_in w) (store.table_at (store_in w) (table_ref t)) sep k n None) (sym e)
    ∙ joins_is w world t may sep k n
    ∙ ap (λ (u : TableView). joins_all (store_in w) sep k (map (meant w.names) (items u k n)) None) (sym is)
