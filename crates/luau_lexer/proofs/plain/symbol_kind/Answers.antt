use Rattle.std.proofs.Common.{map}
use Rattle.std.proofs.lemmas.Option.{slice_get-get_or}
use Rattle.syntax_tree.specs.Plain.{symbols}
use Rattle.luau_lexer.proofs.Tables.{Entry}
use Rattle.luau_lexer.proofs.plain.symbol_kind.Goals as goal

pub returns : goal.returns
returns c = slice_get-get_or (map (λ (e : Entry). e.1) symbols) c.args.place _ c.requires
