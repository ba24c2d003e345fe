use Rattle.std.proofs.Common.{◌≡◌, List, ◌++◌, length}
use Rattle.bstr.specs.Text.{split_at}
use Rattle.bstr.specs.Find.{matches}
use Rattle.luau_tables.specs.Own.{AreTexts}
use Rattle.luau_tables.specs.Worlds.{Extends}
use Rattle.value_model.specs.Values.{Bytes}
use Rattle.lib_string.specs.Pieces.{AreTextsOf}
use Rattle.lib_string.proofs.split.between.Given as goal

abbrev pub invariant-loop-piece : goal.invariant-loop-piece
invariant-loop-piece l = record {
  done : List Bytes;
  pieces : AreTextsOf l.names l.pieces.items done;
  all : done ++ l.piece-iterator ≡ split_at l.fn.bytes (length l.separator) 0 (matches l.fn.bytes l.separator 0);
  extends : Extends l.initial.names l.names;
  texts : AreTexts l.initial.names → AreTexts l.names;
}
