use Rattle.std.proofs.Common.{◌≡◌, refl, sym, ap, ◌∙◌, false, arith}
use Rattle.std.proofs.lemmas.Bool.Decides.{nat_tests}
use Rattle.std.specs.Prelude.{nat_eq}
use Rattle.value_model.specs.FormatRows as row
use Rattle.lib_string.specs.Directives.{field_of, piece_of}
use Rattle.lib_string.specs.declared.directive.Piece.{Piece}
use Rattle.lib_string.specs.declared.directive.Piece.TheVariants as piece
use Rattle.lib_string.proofs.PiecesRead.{directive_here, directive_later, no_directive}
use Rattle.lib_string.proofs.format.directive_for.Goals as goal

pub returns-then-at-eq1 : goal.returns-then-at-eq1
returns-then-at-eq1 c =
    sym (c.loop-byte.invariant ∙ directive_here c.loop-byte.at c.loop-byte.left.now c.in-Some.byte.now c.in-Some.rest.now c.read_piece-piece.result.1.now (piece_of c.read_piece-piece.result.0) c.in-Some.ensures.cases.0 c.read_piece-piece.ensures.piece
    (field_of c.in-Directive.field) (ap piece_of c.in-Directive.is) c.if-at-eq1.true)

pub loop-byte-preserved-in-Directive : goal.loop-byte-preserved-in-Directive
loop-byte-preserved-in-Directive c =
    let other : nat_eq c.loop-byte.at 1 ≡ false = grind (arith, nat_tests) in
    c.loop-byte.invariant
    ∙ directive_later c.loop-byte.at c.loop-byte.left.now c.in-Some.byte.now c.in-Some.rest.now c.read_piece-piece.result.1.now (piece_of c.read_piece-piece.result.0) c.in-Some.ensures.cases.0 c.read_piece-piece.ensures.piece
    (field_of c.in-Directive.field) (ap piece_of c.in-Directive.is) other
    ∙ ap (λ i. row.directive_for i (row.pieces_of c.read_piece-piece.result.1.now)) (sym c.saturating_sub-at.ensures)

pub loop-byte-preserved : goal.loop-byte-preserved
loop-byte-preserved c =
    c.loop-byte.invariant
    ∙ no_directive c.loop-byte.at c.loop-byte.left.now c.in-Some.byte.now c.in-Some.rest.now c.read_piece-piece.result.1.now (piece_of c.read_piece-piece.result.0) c.in-Some.ensures.cases.0 c.read_piece-piece.ensures.piece
    (by c.read_piece-piece.result.0 c.in_default-piece.not-Directive)
  where
    by : (p : Piece) → ((d : _) → p ≡ piece.Directive d → ⊥) → (d : row.Field) → piece_of p ≡ row.Directive d → ⊥
    by (piece.Plain b) other d e = absurd (cc)
    by (piece.Directive f) other d e = other f refl
    by piece.Malformed other d e = absurd (cc)
