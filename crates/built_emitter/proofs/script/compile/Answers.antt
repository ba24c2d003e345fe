use Rattle.built_emitter.proofs.Behaving.{behaves}
use Rattle.built_emitter.proofs.script.compile.Goals as goal

pub returns : goal.returns
returns c =
    let code = c.in_ok-items.field-0 in
    behaves c.args.tree.now c.args.bindings.now code.constants.items code.items.items c.in_ok-words.field-0.code.items c.requires.bound
    c.requires.form.built c.in_ok-items.ensures.script c.in_ok-items.ensures.fit c.in_ok-words.ensures
