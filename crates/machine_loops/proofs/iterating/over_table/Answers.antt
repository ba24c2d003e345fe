use Rattle.value_model.specs.Parts.{meant}
use Rattle.machine_loops.proofs.Starts.{next_asked, table_asked}
use Rattle.machine_loops.proofs.iterating.over_table.Goals as goal

pub returns-in-Nil-clause-meant : goal.returns-in-Nil-clause-meant
returns-in-Nil-clause-meant c = λ texts. next_asked texts c.args.table c.args.call (meant texts c.args.state) (meant texts c.args.control) c.in-Nil.is

pub returns-in_default : goal.returns-in_default
returns-in_default c = record {
  meant = λ texts. table_asked texts c.args.table c.args.call (meant texts c.args.state) (meant texts c.args.control) c.in_default.not-Nil;
  usable = λ w t s v. (t, s, v);
}
