use Rattle.std.proofs.Common.{◌≡◌, List, drop, map, ℤ}
use Rattle.value_model.specs.Answers.{LibAnswer}
use Rattle.value_model.specs.Parts.{meant}
use Rattle.lib_string.specs.Codes.{numbers_then}
use Rattle.lib_string.proofs.characters.more_numbers.Given as goal

abbrev pub invariant-loop-i : goal.invariant-loop-i
invariant-loop-i l =
    (go : List ℤ → LibAnswer) →
    numbers_then 1 l.initial.numbers.items (drop 1 (map (meant l.world.names) l.args)) go
    ≡ numbers_then l.i l.numbers.items (drop l.i (map (meant l.world.names) l.args)) go
