-- Values that tables of nobody may hold.
use Rattle.std.proofs.Common.{◌≡◌, ℕ, zero, suc, ◌<◌, ◌≤◌, List, [], ◌∷◌, ◌++◌, map, get_or, set, Option, Some, None, refl, sym, ◌∙◌, ap, subst, arith}
use Rattle.std.specs.List.{AllByRecursion}
use Rattle.value_model.specs.Values.{Bytes}
use Rattle.value_model.specs.declared.ids.Owner.{Owner}
use Rattle.value_model.specs.declared.ids.TableId.{TableId}
use Rattle.value_model.specs.declared.value.Value.{Value}
use Rattle.value_model.specs.declared.value.Value.TheVariants as value
use Rattle.value_arena.specs.Tables.{Entries, TableView, no_table}
use Rattle.luau_tables.specs.Own.{HasText, HasTextsInTable}
use Rattle.luau_tables.specs.Part.{table_of, IsOfScript, IsSeen, OfPairs, OfSome, OfTable}
use Rattle.luau_tables.specs.Worlds.{Extends}
use Rattle.luau_tables.proofs.MoreTexts.{number_on, table_more}
use Rattle.frozen_libs.specs.Made.{shared_id, IsShared}

-- ---- values

pub shared_more : (texts more : List Bytes) (n m : ℕ) → Extends texts more → n ≤ m → (v : Value) → IsShared texts n v → IsShared more m v
shared_more texts more n m e l (value.Str x) h = number_on texts more e x.0 h
shared_more texts more n m e l (value.Table t) h = (h.0, omega (arith, h.1))
shared_more texts more n m e l (value.Closure x) h = elim h [ ]
shared_more texts more n m e l (value.Wrap x) h = elim h [ ]
shared_more texts more n m e l (value.Thread x) h = elim h [ ]
shared_more texts more n m e l value.Nil h = tt
shared_more texts more n m e l (value.Bool x) h = tt
shared_more texts more n m e l (value.Num x) h = tt
shared_more texts more n m e l (value.Native x) h = tt
shared_more texts more n m e l (value.Host x) h = tt

-- each script sees them
pub shared_seen : (texts : List Bytes) (n : ℕ) (w : Owner) (v : Value) → IsShared texts n v → IsOfScript texts w v
shared_seen texts n w (value.Str x) h = h
shared_seen texts n w (value.Table t) h = subst (λ s. IsSeen w s) (sym h.0) tt
shared_seen texts n w (value.Closure x) h = elim h [ ]
shared_seen texts n w (value.Wrap x) h = elim h [ ]
shared_seen texts n w (value.Thread x) h = elim h [ ]
shared_seen texts n w value.Nil h = tt
shared_seen texts n w (value.Bool x) h = tt
shared_seen texts n w (value.Num x) h = tt
shared_seen texts n w (value.Native x) h = tt
shared_seen texts n w (value.Host x) h = tt

pub shared_text : (texts : List Bytes) (n : ℕ) (v : Value) → IsShared texts n v → HasText texts v
shared_text texts n (value.Str x) h = h
shared_text texts n (value.Closure x) h = elim h [ ]
shared_text texts n (value.Wrap x) h = elim h [ ]
shared_text texts n (value.Thread x) h = elim h [ ]
shared_text texts n (value.Table x) h = tt
shared_text texts n value.Nil h = tt
shared_text texts n (value.Bool x) h = tt
shared_text texts n (value.Num x) h = tt
shared_text texts n (value.Native x) h = tt
shared_text texts n (value.Host x) h = tt

-- ---- tables

pairs_on : (P Q : Value → Type 0) → ((v : Value) → P v → Q v) → (es : Entries) → OfPairs P es → OfPairs Q es
pairs_on P Q f [] h = tt
pairs_on P Q f (e ∷ es) h = (f e.0 h.0, f e.1 h.1, pairs_on P Q f es h.2)

some_on : (P Q : Value → Type 0) → ((v : Value) → P v → Q v) → (m : Option TableId) → OfSome (λ t. P (value.Table t)) m →
    OfSome (λ t. Q (value.Table t)) m
some_on P Q f None h = tt
some_on P Q f (Some t) h = f (value.Table t) h

pub table_on : (P Q : Value → Type 0) → ((v : Value) → P v → Q v) → (t : TableView) → OfTable P t → OfTable Q t
table_on P Q f t h = record { entries = pairs_on P Q f t.entries h.entries; meta = some_on P Q f t.meta h.meta }

pub pairs_all : (P : Value → Type 0) (es : Entries) → OfPairs P es → AllByRecursion (λ e. P e.0 × P e.1) es
pairs_all P [] h = tt
pairs_all P (e ∷ es) h = ((h.0, h.1), pairs_all P es h.2)

pub table_texts : (texts : List Bytes) (n : ℕ) (t : TableView) → OfTable (IsShared texts n) t → HasTextsInTable texts t
table_texts texts n t h =
    pairs_all (HasText texts) t.entries (pairs_on (IsShared texts n) (HasText texts) (shared_text texts n) t.entries h.entries)

-- ---- lists of tables

pub each_set : (P : TableView → Type 0) (ts : List TableView) (p : ℕ) (v : TableView) → P v → ((i : ℕ) → P (get_or ts i no_table)) → (i : ℕ) →
    P (get_or (set ts p v) i no_table)
each_set P [] p v new old i = old i
each_set P (t ∷ ts) zero v new old zero = new
each_set P (t ∷ ts) zero v new old (suc i) = old (suc i)
each_set P (t ∷ ts) (suc p) v new old zero = old zero
each_set P (t ∷ ts) (suc p) v new old (suc i) = each_set P ts p v new (λ j. old (suc j)) i

pub each_pushed : (P : TableView → Type 0) (ts : List TableView) → P no_table → ((i : ℕ) → P (get_or ts i no_table)) → (i : ℕ) →
    P (get_or (ts ++ no_table ∷ []) i no_table)
each_pushed P [] new old zero = new
each_pushed P [] new old (suc i) = new
each_pushed P (t ∷ ts) new old zero = old zero
each_pushed P (t ∷ ts) new old (suc i) = each_pushed P ts new (λ j. old (suc j)) i

-- as texts come, tables mean what they meant
pub tables_more : (texts more : List Bytes) (n : ℕ) → Extends texts more → (ts : List TableView) →
    ((i : ℕ) → OfTable (IsShared texts n) (get_or ts i no_table)) → map (table_of more) ts ≡ map (table_of texts) ts
tables_more texts more n e [] h = refl
tables_more texts more n e (t ∷ ts) h =
    ap (λ x. x ∷ map (table_of more) ts) (table_more texts more e t (table_texts texts n t (h 0)))
    ∙ ap (λ xs. table_of texts t ∷ xs) (tables_more texts more n e ts (λ i. h (suc i)))

-- a table at a place among them
pub table_is_shared : (texts : List Bytes) (n : ℕ) (t : TableId) (i : ℕ) → t ≡ shared_id i → i < n → IsShared texts n (value.Table t)
table_is_shared texts n t i e l = (ap (λ (t : TableId). t.owner) e, omega (arith, l, ap (λ (t : TableId). t.place) e))
