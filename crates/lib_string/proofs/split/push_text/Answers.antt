use Rattle.std.proofs.Common.{◌++◌, ◌∷◌, [], subst, sym}
use Rattle.lib_string.specs.Pieces.{AreTextsOf}
use Rattle.lib_string.proofs.PieceTexts.{text_pushed}
use Rattle.lib_string.proofs.split.push_text.Goals as goal

pub returns-clause-pieces : goal.returns-clause-pieces
returns-clause-pieces c = λ before h.
    subst (λ ids. AreTextsOf c.text_value.new.names ids (before ++ c.args.bytes.now ∷ [])) (sym c.in_ok-push.ensures.items)
    (text_pushed c.args.names.now c.text_value.new.names c.text_value.ensures.extends c.args.pieces.now.items before c.in_ok-id.id c.args.bytes.now h c.in_ok-id.ensures.text)
