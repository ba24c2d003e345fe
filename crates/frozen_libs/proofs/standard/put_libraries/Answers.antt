use Rattle.std.proofs.Common.{ap, subst, arith, codes, length, [], ◌∷◌}
use Rattle.value_model.specs.Fresh.{string_metatable}
use Rattle.value_model.specs.Parts.{table_ref}
use Rattle.value_model.specs.declared.ids.TableId.{TableId}
use Rattle.frozen_libs.specs.Made.{Holds, ArePaths}
use Rattle.frozen_libs.specs.Standard.{with_libraries, core_table}
use Rattle.frozen_libs.proofs.Shared.{table_is_shared}
use Rattle.frozen_libs.proofs.StandardTables.{entered, entered_length, libraries_entered, paths_of_libraries}
use Rattle.frozen_libs.proofs.Paths.{no_paths}
use Rattle.frozen_libs.proofs.standard.put_libraries.Goals as goal

pub returns-clause-made : goal.returns-clause-made
returns-clause-made c h l e =
    let libs = c.args.libraries.now in
    let n0 = c.args.names.now in
    let n1 = c.put_table.new.names in
    let n2 = c.put_table-2.new.names in
    let n3 = c.put_table-3.new.names in
    let p = c.args.t.place in
    let ts = with_libraries core_table string_metatable in
    let us = entered ts p (codes "math") (table_ref libs.math) in
    let vs = entered us p (codes "string") (table_ref libs.string) in
    let ws = entered vs p (codes "table") (table_ref libs.table) in
    let first = c.in_ok-put_table.ensures.made ts h (table_is_shared n0 6 libs.math 2 l.math (omega arith)) in
    let second = c.in_ok-put_table-2.ensures.made us first (table_is_shared n1 (length us) libs.string 3 l.string (omega (
      arith,
      entered_length ts p
          (codes "math") (table_ref libs.math),
    ))) in
    let third = c.in_ok-put_table-3.ensures.made vs second (table_is_shared n2 (length vs) libs.table 4 l.table
    (omega (arith, entered_length ts p (codes "math") (table_ref libs.math), entered_length us p (codes "string") (table_ref libs.string)))) in
    let fourth = c.in_ok-put_table-4.ensures.made ws third (table_is_shared n3 (length ws) libs.coroutine 5 l.coroutine
    (omega (
      arith,
      entered_length ts p (codes "math") (table_ref libs.math),
      entered_length us p (codes "string") (table_ref libs.string),
      entered_length vs p (codes "table") (table_ref libs.table),
    ))) in
    subst (Holds c.put_table-4.new.names c.put_table-4.new.arena)
    (libraries_entered p (table_ref libs.math) (table_ref libs.string) (table_ref libs.table) (table_ref libs.coroutine) (ap (λ (t : TableId). t.place) e)
    (ap table_ref l.math) (ap table_ref l.string) (ap table_ref l.table) (ap table_ref l.coroutine)) fourth

pub returns-clause-paths : goal.returns-clause-paths
returns-clause-paths c l =
    let libs = c.args.libraries.now in
    let none = no_paths c.args.names.now c.new-paths.result.items c.new-paths.ensures.items in
    let first = c.in_ok-put_table.ensures.paths [] none in
    let one = (table_ref libs.math, codes "math") ∷ [] in
    let two = (table_ref libs.math, codes "math") ∷ (table_ref libs.string, codes "string") ∷ [] in
    let three = (table_ref libs.math, codes "math") ∷ (table_ref libs.string, codes "string") ∷ (table_ref libs.table, codes "table") ∷ [] in
    let second = c.in_ok-put_table-2.ensures.paths one first in
    let third = c.in_ok-put_table-3.ensures.paths two second in
    let fourth = c.in_ok-put_table-4.ensures.paths three third in
    subst (ArePaths c.put_table-4.new.names c.put_table-4.new.paths.items)
    (paths_of_libraries (table_ref libs.math) (table_ref libs.string) (table_ref libs.table) (table_ref libs.coroutine) (ap table_ref l.math)
    (ap table_ref l.string) (ap table_ref l.table) (ap table_ref l.coroutine)) fourth
