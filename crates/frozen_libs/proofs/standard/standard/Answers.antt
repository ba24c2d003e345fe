use Rattle.std.proofs.Common.{ap, subst, refl, arith, [], ◌∷◌}
use Rattle.value_model.specs.Fresh.{standard, string_metatable}
use Rattle.value_model.specs.Store.{empty_table}
use Rattle.value_model.specs.declared.ids.TableId.{TableId}
use Rattle.frozen_libs.specs.Made.{Holds}
use Rattle.frozen_libs.specs.Standard.{with_libraries}
use Rattle.frozen_libs.proofs.Holding.{nothing_held, held_more, held_open}
use Rattle.frozen_libs.proofs.Paths.{paths_more, no_hosts}
use Rattle.frozen_libs.proofs.StandardTables.{core_filled}
use Rattle.frozen_libs.proofs.standard.standard.Goals as goal

pub index_strings-requires-clause-writable : goal.index_strings-requires-clause-writable
index_strings-requires-clause-writable c =
    let h1 = c.in_ok-table.ensures.made c.args.names.now [] (nothing_held c.args.names.now c.args.arena.now c.requires.arena) in
    let h2 = c.in_ok-string_meta.ensures.made c.args.names.now (empty_table ∷ []) h1.1 in
    let h3 = c.in_ok-libraries.ensures.made h2.1 in
    held_open _ _ (with_libraries empty_table empty_table) c.in_ok-string_meta.string_meta 1 h3.1 h2.0 (omega arith) refl

pub put_functions-requires-clause-writable : goal.put_functions-requires-clause-writable
put_functions-requires-clause-writable c =
    let h1 = c.in_ok-table.ensures.made c.args.names.now [] (nothing_held c.args.names.now c.args.arena.now c.requires.arena) in
    let h2 = c.in_ok-string_meta.ensures.made c.args.names.now (empty_table ∷ []) h1.1 in
    let h3 = c.in_ok-libraries.ensures.made h2.1 in
    let h4 = c.in_ok-index_strings.ensures.made h3.1 h2.0 h3.0.string in
    held_open _ _ (with_libraries empty_table string_metatable) c.in_ok-table.table 0 h4 h1.0 (omega arith) refl

pub returns-clause-built : goal.returns-clause-built
returns-clause-built c =
    let h1 = c.in_ok-table.ensures.made c.args.names.now [] (nothing_held c.args.names.now c.args.arena.now c.requires.arena) in
    let h2 = c.in_ok-string_meta.ensures.made c.args.names.now (empty_table ∷ []) h1.1 in
    let h3 = c.in_ok-libraries.ensures.made h2.1 in
    let h4 = c.in_ok-index_strings.ensures.made h3.1 h2.0 h3.0.string in
    let h5 = c.in_ok-put_functions.ensures.made (with_libraries empty_table string_metatable) h4 in
    let h6 = c.in_ok-paths.ensures.made
    (subst (Holds c.put_functions.new.names c.put_functions.new.arena) (core_filled c.in_ok-table.table.place (ap (λ
    (t : TableId). t.place) h1.0)) h5) h3.0 h1.0 in
    let extends = c.meta_names.ensures.extends in
    record {
      holds = held_more c.put_libraries.new.names c.meta_names.new.names c.put_libraries.new.arena standard.tables extends h6;
      table = h1.0;
      string_meta = h2.0;
      names = c.in_ok-meta.ensures.names;
      paths = paths_more c.put_libraries.new.names c.meta_names.new.names _ standard.paths extends (c.in_ok-paths.ensures.paths h3.0);
      hosts = no_hosts c.meta_names.new.names _ c.new.ensures.items;
    }
