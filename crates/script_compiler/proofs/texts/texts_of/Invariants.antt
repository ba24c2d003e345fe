use Rattle.std.proofs.Common.{◌≡◌, ◌++◌, map, drop}
use Rattle.script_compiler.specs.Compiled.{text_of}
use Rattle.script_compiler.proofs.texts.texts_of.Given as goal

abbrev pub invariant-loop-id : goal.invariant-loop-id
invariant-loop-id l = l.texts.items ++ map (text_of l.names) (drop l.id-index l.ids) ≡ map (text_of l.names) l.ids
