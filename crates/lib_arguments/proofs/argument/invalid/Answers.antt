use Rattle.lib_arguments.proofs.Looks.{invalid_fails}
use Rattle.value_model.specs.Parts.{meant}
use Rattle.lib_arguments.proofs.argument.invalid.Goals as goal

pub returns : goal.returns
returns c = λ texts. invalid_fails texts c.args.f c.args.i c.args.w (meant texts c.args.v.now) c.kind.result (c.kind.ensures texts)
