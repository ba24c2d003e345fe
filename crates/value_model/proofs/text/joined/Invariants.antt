use Rattle.std.proofs.Common.{◌≡◌, [], take}
use Rattle.value_model.specs.Pieces.{followed_by}
use Rattle.value_model.proofs.text.joined.Given as goal

abbrev pub invariant-loop-piece : goal.invariant-loop-piece
invariant-loop-piece l = l.text.items ≡ followed_by (λ p. p.now) [] (take l.piece-index l.pieces)
