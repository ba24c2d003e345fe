use Rattle.std.proofs.Common.{length, map}
use Rattle.std.proofs.lemmas.Option.{slice_get-get_or}
use Rattle.syntax_tree.specs.Plain.{symbols}
use Rattle.luau_lexer.proofs.Tables.{Entry}
use Rattle.luau_lexer.proofs.plain.symbol_len.Goals as goal

pub returns : goal.returns
returns c = slice_get-get_or (map (λ (e : Entry). length e.0) symbols) c.args.place 0 c.requires
