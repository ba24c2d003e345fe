-- The tables of the library, filled step by step, are those of a script's start.
use Rattle.std.proofs.Common.{◌≡◌, ℕ, true, List, [], ◌∷◌, map, length, get_or, set, refl, ◌∙◌, ap, codes}
use Rattle.std.proofs.lemmas.List.{length-set}
use Rattle.std.specs.List.{AllByRecursion}
use Rattle.value_model.specs.Fresh.{built, standard, fixed, library_table, string_metatable, core_functions, math_functions, string_functions, table_functions, coroutine_functions, NoField}
use Rattle.value_model.specs.Paths.{path_of, last_name}
use Rattle.value_model.specs.Store.{TableOf, empty_table}
use Rattle.value_model.specs.Tables.{put, same}
use Rattle.value_model.specs.Values.{Bytes, TableRef, Shared, Text, Table}
use Rattle.value_model.specs.declared.builtin.Builtin.{Builtin}
use Rattle.frozen_libs.specs.Functions.{Named, with_functions}
use Rattle.frozen_libs.specs.Standard.{with_libraries, core_table}

abbrev pub named : List Builtin → Named
named fs = map (λ f. (last_name (path_of f), f)) fs

pub math_filled : fixed (with_functions empty_table (named math_functions)) ≡ library_table math_functions
unfolding put same
math_filled = refl

pub string_filled : fixed (with_functions empty_table (named string_functions)) ≡ library_table string_functions
unfolding put same
string_filled = refl

pub table_filled : fixed (with_functions empty_table (named table_functions)) ≡ library_table table_functions
unfolding put same
table_filled = refl

pub coroutine_filled : fixed (with_functions empty_table (named coroutine_functions)) ≡ library_table coroutine_functions
unfolding put same
coroutine_filled = refl

core_is : with_functions empty_table (named core_functions) ≡ core_table
unfolding put same
core_is = refl

-- the functions of the global table
pub core_filled : (p : ℕ) → p ≡ 0 →
    set (with_libraries empty_table string_metatable) p (with_functions (get_or (with_libraries empty_table string_metatable) p empty_table)
    (named core_functions))
    ≡ with_libraries core_table string_metatable
core_filled p e =
    ap (λ p. set (with_libraries empty_table string_metatable) p (with_functions (get_or
    (with_libraries empty_table string_metatable) p empty_table) (named core_functions))) e
    ∙ ap (λ t. with_libraries t string_metatable) core_is

-- the metatable of strings
abbrev pub indexed : ℕ → TableRef → List TableOf
indexed p s = set (with_libraries empty_table empty_table) p (put (get_or (with_libraries empty_table empty_table) p empty_table) (Text
    (codes "__index")) (Table s))

index_is : fixed (put empty_table (Text (codes "__index")) (Table (Shared 3))) ≡ string_metatable
unfolding put same
index_is = refl

pub index_filled : (p : ℕ) (s : TableRef) → p ≡ 1 → s ≡ Shared 3 →
    set (indexed p s) p (fixed (get_or (indexed p s) p empty_table)) ≡ with_libraries empty_table string_metatable
index_filled p s e f =
    ap (λ p. set (indexed p s) p (fixed (get_or (indexed p s) p empty_table))) e
    ∙ ap (λ s. set (indexed 1 s) 1 (fixed (get_or (indexed 1 s) 1 empty_table))) f
    ∙ ap (λ t. with_libraries empty_table t) index_is

-- the tables of the library in the global table
abbrev pub entered : List TableOf → ℕ → Bytes → TableRef → List TableOf
entered ts p name t = set ts p (put (get_or ts p empty_table) (Text name) (Table t))

pub entered_length : (ts : List TableOf) (p : ℕ) (name : Bytes) (t : TableRef) → length (entered ts p name t) ≡ length ts
entered_length ts p name t = length-set ts p (put (get_or ts p empty_table) (Text name) (Table t))

abbrev pub all_entered : ℕ → (math string table coroutine : TableRef) → List TableOf
all_entered p m s t c =
    entered (entered (entered (entered (with_libraries core_table string_metatable) p (codes "math") m) p (codes "string") s) p (codes "table") t) p
    (codes "coroutine") c

entered_is : all_entered 0 (Shared 2) (Shared 3) (Shared 4) (Shared 5) ≡ standard.tables
unfolding put same
entered_is = refl

pub libraries_entered : (p : ℕ) (m s t c : TableRef) → p ≡ 0 → m ≡ Shared 2 → s ≡ Shared 3 → t ≡ Shared 4 → c ≡ Shared 5 →
    all_entered p m s t c ≡ standard.tables
libraries_entered p m s t c ep em es et ec =
    ap (λ p. all_entered p m s t c) ep ∙ ap (λ m. all_entered 0 m s t c) em ∙ ap (λ s. all_entered 0 (Shared 2) s t c) es
    ∙ ap (λ t. all_entered 0 (Shared 2) (Shared 3) t c) et ∙ ap (λ c. all_entered 0 (Shared 2) (Shared 3) (Shared 4) c) ec ∙ entered_is

abbrev paths_with : (math string table coroutine : TableRef) → List (TableRef × Bytes)
paths_with m s t c = (m, codes "math") ∷ (s, codes "string") ∷ (t, codes "table") ∷ (c, codes "coroutine") ∷ []

pub paths_of_libraries : (m s t c : TableRef) → m ≡ Shared 2 → s ≡ Shared 3 → t ≡ Shared 4 → c ≡ Shared 5 → paths_with m s t c ≡ standard.paths
paths_of_libraries m s t c em es et ec =
    ap (λ m. paths_with m s t c) em ∙ ap (λ s. paths_with (Shared 2) s t c) es ∙ ap (λ t. paths_with (Shared 2) (Shared 3) t c) et
    ∙ ap (λ c. paths_with (Shared 2) (Shared 3) (Shared 4) c) ec

-- ---- where nothing is from a host

pub frozen_is : (p : ℕ) → p ≡ 0 → set standard.tables p (fixed (get_or standard.tables p empty_table)) ≡ (built NoField).tables
frozen_is p e = ap (λ p. set standard.tables p (fixed (get_or standard.tables p empty_table))) e

pub all_frozen : AllByRecursion (λ t. t.frozen ≡ true) (built NoField).tables
all_frozen = (refl, (refl, (refl, (refl, (refl, (refl, tt))))))
