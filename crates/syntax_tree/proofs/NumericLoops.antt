-- What the measures are at a numeric loop.
use Rattle.std.proofs.Common.{◌≡◌, ◌+◌, max, map, List, Option, rules}
use Rattle.byte_text.specs.declared.StrId.{StrId}
use Rattle.syntax_tree.specs.declared.bindings.Bindings.{Bindings}
use Rattle.syntax_tree.specs.declared.tree.Expr.{Expr}
use Rattle.syntax_tree.specs.declared.tree.Stat.{Stat}
use Rattle.syntax_tree.specs.declared.tree.StatKind.{NumFor}
use Rattle.syntax_tree.specs.declared.tree.ExprKind.TheFolds as folds
use Rattle.syntax_tree.specs.declared.tree.ExprKind.TheViews as views
use Rattle.syntax_tree.specs.Lists.{greatest, total}
use Rattle.syntax_tree.specs.Nest as nest
use Rattle.syntax_tree.specs.Need as need
use Rattle.syntax_tree.specs.Bulk as bulk

pub nest_num_for : (s : Stat) (name : StrId) (a b : Expr) (c : Option Expr) (body : List Stat) → s.kind ≡ NumFor name a b c body → nest.nest_stat s ≡ max (max (nest.nest_expr a) (nest.nest_expr b)) (max (nest.nest_step c) (greatest (map nest.nest_stat body))) + 1
nest_num_for s name a b c body h = search (rules, folds.the_lemmas, views.the_lemmas)

pub need_num_for : (s : Stat) (name : StrId) (a b : Expr) (c : Option Expr) (body : List Stat) → s.kind ≡ NumFor name a b c body → (need.need_stat s).need ≡ max (max (3 + (need.need_expr a).need) (3 + (need.need_expr b).need)) (max (need.need_step c) (4 + need.block_need (map need.need_stat body)))
need_num_for s name a b c body h = search (rules, folds.the_lemmas, views.the_lemmas)

pub bulk_num_for : (k : Bindings) (s : Stat) (name : StrId) (a b : Expr) (c : Option Expr) (body : List Stat) → s.kind ≡ NumFor name a b c body → bulk.bulk_stat k s ≡ 8 + (2 + (bulk.bulk_expr k a + bulk.bulk_expr k b) + bulk.bulk_step k c + total (map (bulk.bulk_stat k) body))
bulk_num_for k s name a b c body h = search (rules, folds.the_lemmas, views.the_lemmas)
