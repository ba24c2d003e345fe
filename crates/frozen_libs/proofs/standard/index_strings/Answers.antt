use Rattle.std.proofs.Common.{ap, subst, arith}
use Rattle.value_model.specs.Parts.{table_ref, meant}
use Rattle.value_model.specs.declared.ids.TableId.{TableId}
use Rattle.frozen_libs.specs.Made.{Holds}
use Rattle.frozen_libs.specs.Standard.{with_libraries}
use Rattle.value_model.specs.Store.{empty_table}
use Rattle.frozen_libs.proofs.Shared.{table_is_shared}
use Rattle.frozen_libs.proofs.StandardTables.{indexed, index_filled}
use Rattle.frozen_libs.proofs.standard.index_strings.Goals as goal

pub returns-clause-made : goal.returns-clause-made
unfolding meant
returns-clause-made c h e f =
    let first = c.in_ok-put_named.ensures.made (with_libraries empty_table empty_table) h (table_is_shared c.args.names.now 6 c.args.string 3 f
    (omega arith)) in
    subst (λ us. Holds c.put_named.new.names c.freeze.new.arena us)
    (index_filled c.args.string_meta.place (table_ref c.args.string) (ap (λ (t : TableId). t.place) e) (ap table_ref f))
    (c.freeze.ensures c.put_named.new.names (indexed c.args.string_meta.place (table_ref c.args.string)) first)
