use Rattle.std.proofs.Common.{sym, ap, ◌∙◌}
use Rattle.std.specs.Prelude.{slice_index}
use Rattle.syntax_tree.specs.Scope.{look}
use Rattle.scopes.proofs.Heads.{look_none, look_some}
use Rattle.scopes.proofs.scope.Scope.look.Goals as goal

pub returns-then-place-eq0 : goal.returns-then-place-eq0
returns-then-place-eq0 c =
    sym (ap (look c.args.name) (sym c.self.view_is) ∙ look_none c.args.name c.self.inside.entries c.self.inside.heads c.head-place.result c.self.invariant (c.head-place.ensures ∙ ap (λ l. slice_index l c.args.name.0) c.as_slice.ensures) c.if-place-eq0.true)

pub returns : goal.returns
returns c =
    c.local_at.ensures ∙ sym (ap (look c.args.name) (sym c.self.view_is) ∙ look_some c.args.name c.self.inside.entries c.self.inside.heads c.head-place.result c.self.invariant (c.head-place.ensures ∙ ap (λ l. slice_index l c.args.name.0) c.as_slice.ensures) c.if-place-eq0.false)
