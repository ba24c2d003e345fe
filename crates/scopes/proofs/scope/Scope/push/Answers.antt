use Rattle.std.proofs.Common.{ap, ◌∙◌}
use Rattle.std.specs.Prelude.{slice_index}
use Rattle.scopes.proofs.Heads.{pushed}
use Rattle.scopes.proofs.scope.Scope.push.Goals as goal

pub invariant_of-self-2 : goal.invariant_of-self-2
invariant_of-self-2 c =
    pushed c.self.inside.entries c.push.new.self (record { visible = c.args.visible; before = c.head-before.result }) c.self.inside.heads c.reach.new.heads c.set.new.self c.len.result
    c.reach.ensures.same c.in_ok-reach.ensures.within (c.head-before.ensures ∙ ap (λ l. slice_index l c.args.visible.name.0) c.as_slice.ensures) c.in_ok-push.ensures.ok c.len.ensures c.set.ensures c.self.invariant
