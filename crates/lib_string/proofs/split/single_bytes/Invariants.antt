use Rattle.std.proofs.Common.{[], ◌∷◌, map, take}
use Rattle.luau_tables.specs.Own.{AreTexts}
use Rattle.luau_tables.specs.Worlds.{Extends}
use Rattle.lib_string.specs.Pieces.{AreTextsOf}
use Rattle.lib_string.proofs.split.single_bytes.Given as goal

abbrev pub invariant-loop-byte : goal.invariant-loop-byte
invariant-loop-byte l = record {
  pieces : AreTextsOf l.names l.pieces.items (map (λ b. b ∷ []) (take l.byte-index l.bytes));
  extends : Extends l.initial.names l.names;
  texts : AreTexts l.initial.names → AreTexts l.names;
}
