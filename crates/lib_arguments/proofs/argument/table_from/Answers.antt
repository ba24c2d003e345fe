use Rattle.lib_arguments.proofs.Found.{table_found, no_table}
use Rattle.lib_arguments.proofs.argument.table_from.Goals as goal

pub returns-in-Table-clause-checks : goal.returns-in-Table-clause-checks
returns-in-Table-clause-checks c = λ texts. table_found texts c.args.f c.args.i c.args.v c.in-Table.t c.in-Table.is

pub returns-in_default-clause-checks : goal.returns-in_default-clause-checks
returns-in_default-clause-checks c =
    λ texts. no_table texts c.args.f c.args.i c.args.v c.invalid.result c.in_default.not-Table (c.invalid.ensures texts)
