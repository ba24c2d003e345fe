-- Levels of operators, as the grammar names them.
use Rattle.syntax_tree.specs.Operators as op
use Rattle.syntax_tree.specs.Operators.{OperatorLevel}
use Rattle.parse_steps.specs.declared.levels.Rank.{Rank}
use Rattle.parse_steps.specs.declared.levels.Rank.TheVariants as rank
use Rattle.parse_steps.specs.declared.levels.Level.{Level}
use Rattle.parse_steps.specs.declared.levels.Level.TheVariants as level

abbrev pub rank_of : Rank → OperatorLevel
rank_of rank.Ors = op.ors
rank_of rank.Ands = op.ands
rank_of rank.Comparisons = op.comparisons
rank_of rank.Sums = op.sums
rank_of rank.Products = op.products

-- what stands behind an operator
abbrev pub next : Rank → Level
next rank.Ors = level.Of rank.Ands
next rank.Ands = level.Of rank.Comparisons
next rank.Comparisons = level.Runs
next rank.Sums = level.Of rank.Products
next rank.Products = level.Unaries
