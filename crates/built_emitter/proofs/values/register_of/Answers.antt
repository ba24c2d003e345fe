use Rattle.std.proofs.Common.{◌∙◌, ap, sym, subst}
use Rattle.std.specs.Prelude.{IsSome}
use Rattle.built_emitter.specs.Standing.{register_bound}
use Rattle.built_emitter.proofs.BuiltNames.{local_name, name_kind, registered}
use Rattle.built_emitter.proofs.StandingNames.{name_register}
use Rattle.built_emitter.proofs.values.register_of.Goals as goal

pub returns-clause-register : goal.returns-clause-register
returns-clause-register c =
    λ x kind. c.register_bound.ensures.register ∙ ap (register_bound c.args.scope.now) c.bound_at.ensures
    ∙ name_register c.args.bindings.now c.args.scope.now c.args.e.now x c.requires kind

pub returns-clause-declared : goal.returns-clause-declared
returns-clause-declared c = λ local.
    let b = c.args.bindings.now in
    let vs = c.args.scope.now in
    let e = c.args.e.now in
    let named = local_name b e local in
    let kind = name_kind e named.0 named.1 in
    let same = c.register_bound.ensures.register ∙ ap (register_bound vs) c.bound_at.ensures ∙ name_register b vs e named.0 c.requires kind in
    subst (λ o. IsSome o) (sym same) (registered b vs e c.requires.0 named.0 c.requires.1 named.1 named.2)
