use Rattle.std.proofs.Common.{◌≡◌, ◌++◌, map, pos, take}
use Rattle.value_model.specs.declared.value.Value.TheVariants.{Num}
use Rattle.lib_string.proofs.characters.append_numbers.Given as goal

abbrev pub invariant-loop-byte : goal.invariant-loop-byte
invariant-loop-byte l = l.results.items ≡ l.initial.results.items ++ map (λ b. Num (pos b)) (take l.byte-index l.bytes)
