use Rattle.std.proofs.Common.{◌≡◌, ◌+◌, ◌∙◌, suc, ap, [], arith}
use Rattle.std.proofs.lemmas.List.{take_all}
use Rattle.value_model.specs.Pieces.{followed_by}
use Rattle.value_model.proofs.Pieces.{one_more}
use Rattle.value_model.proofs.text.joined.Goals as goal

pub loop-piece-init : goal.loop-piece-init
loop-piece-init c = c.new-text.ensures.items

pub loop-piece-preserved : goal.loop-piece-preserved
loop-piece-preserved c =
    let next : c.loop-piece.piece-index + 1 ≡ suc c.loop-piece.piece-index = omega arith in
    rw (next, c.in_ok-extend_from_slice.ensures.items, c.loop-piece.invariant) (one_more (λ p. p.now) [] c.args.pieces.now c.loop-piece.piece-index _ c.loop-piece-test.true)

pub returns : goal.returns
returns c = c.loop-piece.invariant ∙ ap (followed_by (λ p. p.now) []) (take_all c.loop-piece.piece-index c.args.pieces.now c.loop-piece-test.false)
