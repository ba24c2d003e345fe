use Rattle.std.proofs.Common.{◌∙◌, sym, ap}
use Rattle.value_model.specs.Parts.{meant}
use Rattle.lib_math_table.proofs.Moved.{target_none, target_given, there_on}
use Rattle.lib_math_table.proofs.moving.target.Goals as goal

pub returns-in-Nil-clause-checks : goal.returns-in-Nil-clause-checks
returns-in-Nil-clause-checks c = λ texts. target_none texts _ c.args.t (ap (meant texts) (sym c.in-Nil.is) ∙ c.argument_or_nil.ensures.value texts)

pub returns-in_default : goal.returns-in_default
returns-in_default c = record {
  checks = λ texts. target_given texts c.argument_or_nil.result _ c.args.t c.table_from.result (c.argument_or_nil.ensures.value texts) c.in_default.not-Nil (c.table_from.ensures.checks texts);
  there = there_on c.args.t c.argument_or_nil.result _ c.table_from.result c.table_from.ensures.there c.argument_or_nil.ensures.there;
}
