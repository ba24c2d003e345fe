use Rattle.std.proofs.Common.{◌++◌, append-nil, sym, subst, ap, ◌∙◌}
use Rattle.lib_string.specs.Pieces.{AreTextsOf}
use Rattle.lib_string.proofs.SplitPieces.{all_pieces}
use Rattle.lib_string.proofs.split.between.Goals as goal

pub returns-clause-pieces : goal.returns-clause-pieces
returns-clause-pieces c =
    let done = c.loop-piece.invariant.done in
    let left = c.in-None.ensures.steps in
    subst (λ ps. AreTextsOf c.loop-piece.names c.loop-piece.pieces.items ps)
    (sym (append-nil done) ∙ ap (λ l. done ++ l) (sym left.0) ∙ c.loop-piece.invariant.all ∙ all_pieces c.args.bytes.now c.args.separator.now c.requires)
    c.loop-piece.invariant.pieces
