use Rattle.std.proofs.Common.{[], ◌∷◌, map, drop}
use Rattle.value_model.specs.Parts.{meant}
use Rattle.lib_string.specs.Codes.{numbers_then}
use Rattle.lib_string.proofs.characters.numbers.Goals as goal

pub returns-in-Err : goal.returns-in-Err
returns-in-Err c = λ go. c.in-Err.ensures.checks (λ z. numbers_then 1 (z ∷ []) (drop 1 (map (meant c.args.world.now.names) c.args.args.now)) go)
