use Rattle.std.proofs.Common.{ap, subst, map, ◌++◌, ◌∷◌, [], set, get_or}
use Rattle.value_model.specs.Store.{empty_table}
use Rattle.frozen_libs.specs.Functions.{with_functions}
use Rattle.frozen_libs.specs.Made.{Holds}
use Rattle.frozen_libs.proofs.Filling.{filled}
use Rattle.frozen_libs.proofs.making.library.Goals as goal

pub returns-clause-made : goal.returns-clause-made
returns-clause-made c ts h =
    let texts = c.args.names.now in
    let first = c.in_ok-table.ensures.made texts ts h in
    let second = c.in_ok-put_functions.ensures.made (ts ++ empty_table ∷ []) first.1 in (
      first.0,
      subst (λ us. Holds c.put_functions.new.names c.freeze.new.arena us)
          (filled ts c.in_ok-table.table.place (λ t. with_functions t (map (λ f. (f.0.now, f.1)) c.args.functions.now)) (ap (λ t. t.place) first.0))
          (c.freeze.ensures c.put_functions.new.names (set (ts ++ empty_table ∷ []) c.in_ok-table.table.place (with_functions (get_or
          (ts ++ empty_table ∷ []) c.in_ok-table.table.place empty_table) (map (λ f. (f.0.now, f.1)) c.args.functions.now))) second),
    )
