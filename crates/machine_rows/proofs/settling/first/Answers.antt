use Rattle.machine_rows.proofs.Waking.{first_some, first_none}
use Rattle.machine_rows.proofs.settling.first.Goals as goal

pub returns-in-Some : goal.returns-in-Some
returns-in-Some c = first_some c.args.values.now c.in-Some.v.now c.in-Some.ensures.value

pub returns-in-None : goal.returns-in-None
returns-in-None c = first_none c.args.values.now c.in-None.ensures.value
