use Rattle.std.proofs.Common.{◌∙◌}
use Rattle.value_model.specs.Parts.{meant, table_ref}
use Rattle.machine_loops.proofs.Starts.{over_nil, over_iter}
use Rattle.machine_loops.proofs.iterating.over.Goals as goal

pub returns-in-Nil-clause-meant : goal.returns-in-Nil-clause-meant
returns-in-Nil-clause-meant c = λ texts.
    c.over_table.ensures.meant texts
    ∙ over_nil texts c.args.iter (meant texts c.args.call) (table_ref c.args.table) (meant texts c.args.state) (meant texts c.args.control) c.in-Nil.is

pub returns-in_default : goal.returns-in_default
returns-in_default c = record {
  meant = λ texts. over_iter texts c.args.iter (meant texts c.args.call) c.args.table (meant texts c.args.state) (meant texts c.args.control) c.in_default.not-Nil;
  usable = λ w i t s v. i;
}
