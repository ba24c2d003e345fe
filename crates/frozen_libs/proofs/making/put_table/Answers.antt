use Rattle.std.proofs.Common.{sym, subst, ◌++◌, ◌∷◌, []}
use Rattle.value_model.specs.Parts.{meant, table_ref}
use Rattle.frozen_libs.specs.Made.{ArePaths}
use Rattle.frozen_libs.proofs.Paths.{paths_more, path_behind}
use Rattle.frozen_libs.proofs.making.put_table.Goals as goal

pub returns-clause-made : goal.returns-clause-made
unfolding meant
returns-clause-made c ts h k = c.in_ok-path.ensures.made ts h k

pub returns-clause-paths : goal.returns-clause-paths
returns-clause-paths c qs h =
    subst (λ ps. ArePaths c.put_named.new.names ps (qs ++ (table_ref c.args.table, c.args.name.now) ∷ [])) (sym c.in_ok-push.ensures.items)
    (path_behind c.put_named.new.names c.args.paths.now.items qs c.args.table c.in_ok-path.path c.args.name.now
    (paths_more c.args.names.now c.put_named.new.names c.args.paths.now.items qs c.put_named.ensures.extends h) c.in_ok-path.ensures.number)
