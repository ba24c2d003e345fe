use Rattle.parse_steps.proofs.Forward.{chunk_asks}
use Rattle.parse_steps.proofs.laws.calls_are_asked.Goals as goal

pub returns : goal.returns
returns c = λ ts n b p body chunk le called.
    let o = chunk_asks chunk le called in
    record { nest = o.0; item = o.1; todo = o.2; run = o.3; opens = o.4 }
