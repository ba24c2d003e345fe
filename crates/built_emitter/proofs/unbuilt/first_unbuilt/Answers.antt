use Rattle.std.proofs.Common.{◌∙◌, sym, ap}
use Rattle.built_emitter.specs.Unbuilt.{first_unbuilt}
use Rattle.built_emitter.proofs.BuiltBlocks.{script_fits, script_small}
use Rattle.built_emitter.proofs.unbuilt.first_unbuilt.Goals as goal

pub returns-clause-form : goal.returns-clause-form
returns-clause-form c = λ none fine. record {
  built = ap (first_unbuilt c.args.bindings.now) (sym c.as_slice.ensures) ∙ sym c.in_block.ensures ∙ none;
  fits = script_fits c.args.tree.now fine;
}

pub returns-clause-small : goal.returns-clause-small
returns-clause-small c = λ none fine.
    script_small c.args.tree.now c.args.bindings.now c.requires fine
    (ap (first_unbuilt c.args.bindings.now) (sym c.as_slice.ensures) ∙ sym c.in_block.ensures ∙ none)
