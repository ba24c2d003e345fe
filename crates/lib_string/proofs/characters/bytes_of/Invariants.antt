use Rattle.std.proofs.Common.{◌≡◌, [], drop}
use Rattle.value_model.specs.Answers.{LibAnswer}
use Rattle.value_model.specs.Values.{Bytes}
use Rattle.lib_string.specs.Codes.{bytes_then}
use Rattle.lib_string.proofs.characters.bytes_of.Given as goal

abbrev pub invariant-loop-i : goal.invariant-loop-i
invariant-loop-i l = (go : Bytes → LibAnswer) → bytes_then 0 [] l.numbers go ≡ bytes_then l.i l.bytes.items (drop l.i l.numbers) go
