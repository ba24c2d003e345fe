use Rattle.std.proofs.Common.{sym, ◌∙◌}
use Rattle.machine_world.proofs.Going.{runs_on}
use Rattle.machine_steps.proofs.Staying.{stays_kept}
use Rattle.machine_steps.proofs.Steps.{executes_untold}
use Rattle.machine_steps.proofs.executing.execute.Goals as goal

pub returns-then-is_write-clause-stays : goal.returns-then-is_write-clause-stays
returns-then-is_write-clause-stays g c = stays_kept c.args.world.now c.write.new.world c.in_ok-next.ensures.keeps

pub returns-clause-does : goal.returns-clause-does
returns-clause-does g c = λ chunk p stands.
    let w = c.args.world.now in
    let k = c.args.machine.now in
    executes_untold chunk p w k.code k.stack c.args.line.insn c.args.line.next (sym c.is_still.ensures ∙ c.if-is_still.false) (sym c.is_call.ensures ∙ c.if-is_call.false) (runs_on k.stack c.requires.goes) stands

pub returns-then-is_table-clause-stays : goal.returns-then-is_table-clause-stays
returns-then-is_table-clause-stays g c = stays_kept c.args.world.now c.table.new.world c.in_ok-next-2.ensures.keeps

pub returns-then-is_join-clause-stays : goal.returns-then-is_join-clause-stays
returns-then-is_join-clause-stays g c = stays_kept c.args.world.now c.join.new.world c.in_ok-next-3.ensures.keeps
