-- Well-formed code is loaded into a safe state.
use Rattle.std.proofs.Common.{◌≡◌, refl, sym, ap, ℕ, zero, suc, pos, Bool, true, false, List, [], ◌∷◌, length, map, Option, Some, None, arith, subst, nat_eq, codes}
use Rattle.std.specs.Prelude.{MatchOption}
use Rattle.std.specs.Option.{option_and_then}
use Rattle.std.proofs.lemmas.Bool.Decides.{nat_tests}
use Rattle.value_model.specs.declared.builtin.Builtin.{Builtin}
use Rattle.value_model.specs.Values.{Bytes, TableRef, Shared, Value, Nil, Text, Table}
use Rattle.value_model.specs.Names.{value_of}
use Rattle.value_model.specs.Store.{Store, TableOf, empty_table, table_at, script_environment}
use Rattle.value_model.specs.CoroutineRows.{coroutine_of}
use Rattle.value_model.specs.Waits.{waiting}
use Rattle.value_model.specs.Fresh.{HostValue, HostPlain, HostFunction, HostTable, HostFields, NoField, Field, Built, with_built, path_under, place_value, place_fields, library_entry, core_functions, math_functions, string_functions, table_functions, coroutine_functions, standard, standard_table, built, fresh, first_waits}
use Rattle.op_words.specs.Chunks.{ChunkOf, ProtoOf}
use Rattle.machine_meaning.specs.Chunks.{proto_at, size_of}
use Rattle.machine_meaning.specs.Constants.{constant_at}
use Rattle.machine_meaning.specs.WellFormed.{is_main}
use Rattle.machine_meaning.specs.States.{Idle, filled}
use Rattle.machine_meaning.specs.Runs.{raw, global_value, led, resolved, path_in, imports_of}
use Rattle.checked_runs.specs.Safe.{Each, Sizes, IsMade, IsEntry, IsTable, IsStore, AreStacked}
use Rattle.checked_runs.specs.Laws.{LoadedIsSafe}
use Rattle.checked_runs.proofs.Elements.{each_append, each_set}
use Rattle.checked_runs.proofs.Rules.{main_kept, proto_sound}
use Rattle.checked_runs.proofs.Places.{three, start_place}
use Rattle.checked_runs.proofs.Operations.{get_made, put_made, table_made}
use Rattle.checked_runs.proofs.Deciding.{plain_made}

-- ---- the tables that no script owns

module _ (n : ℕ) where
  mutual
    value_placed : (v : HostValue) (path : Bytes) (b : Built) → Each (IsTable n) b.tables
        → IsMade n (place_value v path b).0 × Each (IsTable n) (place_value v path b).1.tables
    value_placed (HostPlain v) path b i = (plain_made n v, i)
    value_placed HostFunction path b i = (tt, i)
    value_placed (HostTable fs) path b i =
        let r =
        fields_placed fs path empty_table (with_built b path empty_table) tt (each_append (IsTable n) b.tables (empty_table ∷ []) i (tt, tt)) in
        (tt, each_set (IsTable n) _ (length b.tables) _ r.1 r.0)

    fields_placed : (fs : HostFields) (path : Bytes) (t : TableOf) (b : Built) → IsTable n t → Each (IsTable n) b.tables
        → IsTable n (place_fields fs path t b).0 × Each (IsTable n) (place_fields fs path t b).1.tables
    fields_placed NoField path t b m i = (m, i)
    fields_placed (Field key v rest) path t b m i =
        let r = value_placed v (path_under path key) b i in
        fields_placed rest path _ _ (put_made n t (value_of key) _ m (plain_made n key) r.0) r.1

  entries_made : (fs : List Builtin) → Each (IsEntry n) (map library_entry fs)
  entries_made [] = tt
  entries_made (f ∷ fs) = ((tt, tt), entries_made fs)

  library_tables : List (Value × Value)
  library_tables =
      (Text (codes "math"), Table (Shared 2)) ∷ (Text (codes "string"), Table (Shared 3)) ∷ (Text (codes "table"), Table (Shared 4)) ∷
      (Text (codes "coroutine"), Table (Shared 5)) ∷ []

  library_tables_made : Each (IsEntry n) library_tables
  unfolding library_tables
  library_tables_made = ((tt, tt), ((tt, tt), ((tt, tt), ((tt, tt), tt))))

  standard_table_made : IsTable n standard_table
  unfolding library_tables
  standard_table_made = each_append (IsEntry n) (map library_entry core_functions) library_tables (entries_made core_functions) library_tables_made

  standard_made : Each (IsTable n) standard.tables
  standard_made =
      (standard_table_made, (((tt, tt), tt), (entries_made math_functions, (entries_made string_functions, (entries_made table_functions, (entries_made coroutine_functions, tt))))))

  built_made : (host : HostFields) → Each (IsTable n) (built host).tables
  built_made host =
      let r = fields_placed host [] standard_table standard standard_made.0 standard_made in
      each_set (IsTable n) _ 0 _ r.1 r.0

fresh_made : (host : HostFields) → IsStore 1 (fresh host)
unfolding fresh coroutine_of
fresh_made host = record {
  shared = built_made 1 host;
  tables = (tt, (((tt, tt), tt), tt));
  coroutines = (record { body = omega arith; resumer = tt; failure = tt }, tt);
  some = omega arith;
  running = tt;
  main = refl;
}

-- ---- import constants

module _ (n : ℕ) (s : Store) (is : IsStore n s) where
  raw_made : (t : TableRef) (x : Bytes) → IsMade n (raw s t x)
  raw_made t x = get_made n (table_at s t) (Text x) (table_made n s t is)

  global_made : (v : Value) (x : Bytes) → IsMade n v → IsMade n (global_value s v x)
  global_made Nil x m = raw_made s.globals.table x
  global_made v x m = m

  frozen_made : (b : Bool) (o : Option Value) → MatchOption o (Unit {0}) (IsMade n)
      → MatchOption (elim b as (λ b. Option Value) [ true ↦ o | false ↦ None ]) (Unit {0}) (IsMade n)
  frozen_made true o m = m
  frozen_made false o m = tt

  led_made : (xs : List Bytes) (v : Value) → IsMade n v → MatchOption (led s v xs) (Unit {0}) (IsMade n)
  led_made [] Nil m = tt
  led_made [] v m = m
  led_made (x ∷ xs) (Table t) m = frozen_made (table_at s t).frozen (led s (raw s t x) xs) (led_made xs (raw s t x) (raw_made t x))
  led_made (x ∷ xs) v m = tt

  resolved_made : (xs : List Bytes) → MatchOption (resolved s xs) (Unit {0}) (IsMade n)
  resolved_made [] = tt
  resolved_made (x ∷ xs) = led_made xs _ (global_made _ x (raw_made script_environment x))

  path_made : (o : Option (List Bytes)) → MatchOption (option_and_then (resolved s) o) (Unit {0}) (IsMade n)
  path_made None = tt
  path_made (Some xs) = resolved_made xs

-- ---- loading

none_waits : (i : ℕ) → nat_eq i 0 ≡ false → waiting first_waits i ≡ []
none_waits zero e = absurd (grind (arith, nat_tests))
none_waits (suc i) e = refl

main_is : (chunk : ChunkOf) (o : Option ProtoOf) → is_main o ≡ true → (p : ProtoOf) × (o ≡ Some p) × (p.upvalues ≡ 0)
main_is chunk None e = absurd cc
main_is chunk (Some p) e = let parts = three p.vararg (nat_eq p.params 0) (nat_eq p.upvalues 0) e in (p, refl, grind (arith, nat_tests))

pub loaded_is_safe : LoadedIsSafe
unfolding imports_of fresh coroutine_of
loaded_is_safe chunk well host replies =
    let main = main_is chunk (proto_at chunk chunk.main) (main_kept chunk well) in
    let p = main.0 in
    let z : Sizes = record { functions = 1; cells = 0 } in
    let store = fresh_made host in
    let start = start_place chunk chunk.main p (proto_sound chunk chunk.main p well main.1) in
    record {
      sizes = z;
      world = record {
        functions = refl;
        environments = refl;
        cells = refl;
        bodies = (record { code = p; is = main.1; upvalues = sym main.2; cells = tt }, tt);
        values = tt;
        store = store;
        waits = record {
          enough = omega arith;
          each = ((omega arith, tt), tt);
          stacked = λ i e. subst (λ l. AreStacked chunk z l []) (sym (none_waits i e)) tt;
          dead = λ i e d. subst (λ l. AreStacked chunk z l []) (sym (none_waits i e)) tt;
        };
        imports = λ n k. path_made 1 (fresh host) store (path_in chunk n (constant_at chunk n (pos k)));
      };
      doing = record {
        code = p;
        frame =
            record { closure = 0; proto = chunk.main; size = size_of (proto_at chunk chunk.main); upvalues = []; varargs = []; place = 0; registers = filled 0 []; top = 0; purpose = Idle };
        below = [];
        functions = refl;
        rest = [];
        waits = refl;
        is =
            record { code = main.1; size = ap size_of main.1; upvalues = sym main.2; cells = tt; closure = omega arith; varargs = tt; registers = λ r. tt; stands = start };
        stacked = tt;
        holds = start;
      };
    }
