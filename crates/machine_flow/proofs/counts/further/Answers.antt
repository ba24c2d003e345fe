use Rattle.std.proofs.Common.{sym, ◌∙◌, subst}
use Rattle.whole_num.specs.Whole.{IsWhole}
use Rattle.machine_flow.proofs.Counting.{further_in, further_out}
use Rattle.machine_flow.proofs.counts.further.Goals as goal

pub returns-in-Ok : goal.returns-in-Ok
returns-in-Ok c = c.found.ensures ∙ further_in c.args.index c.args.limit c.args.step c.in-Ok.turn c.goes_on.result (sym c.add.ensures ∙ c.in-Ok.is) c.goes_on.ensures

pub returns-in-Err : goal.returns-in-Err
returns-in-Err c =
    further_out c.args.index c.args.limit c.args.step c.in-Err.field-0 (subst IsWhole c.get-from.ensures.value c.get-from.ensures.range) (subst IsWhole c.get-last.ensures.value c.get-last.ensures.range) (sym c.add.ensures ∙ c.in-Err.is)
