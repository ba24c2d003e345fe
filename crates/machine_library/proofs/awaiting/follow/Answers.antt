use Rattle.std.proofs.Common.{map, [], sym, ◌∙◌, ap, subst}
use Rattle.value_model.specs.Parts.{meant}
use Rattle.value_model.specs.Waits.{ByLibrary}
use Rattle.luau_tables.specs.Answers.{meant_continue}
use Rattle.bounded_runs.specs.Runs.{Goes}
use Rattle.machine_meaning.specs.States.{Invoke, State}
use Rattle.machine_library.specs.Leads.{Leads}
use Rattle.machine_library.proofs.awaiting.follow.Goals as goal

pub returns-in_ok-await_library-in-CallBack-clause-leads : goal.returns-in_ok-await_library-in-CallBack-clause-leads
unfolding meant_continue
returns-in_ok-await_library-in-CallBack-clause-leads c = λ m given replies h.
    let w = c.args.world.now in
    let k = c.args.machine.now in
    let asks = subst (λ a. Leads m a given w k.code k.stack replies) c.in-CallBack.is h in (
      asks.0,
      asks.1 ∙ sym (ap (λ (t : State). Goes [] t) (c.in_ok-await_library-in-CallBack.ensures.awaited (Invoke ByLibrary (meant w.names c.in-CallBack.callee) (map (meant w.names) c.in-CallBack.args.items)) replies)),
    )
