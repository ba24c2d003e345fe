use Rattle.std.proofs.Common.{◌≡◌, ◌++◌, ◌∷◌, [], Ok, ap, subst, arith}
use Rattle.std.proofs.lemmas.Grind.{common_steps}
use Rattle.lib_string.specs.Directives.{field_of, form_of, piece_of}
use Rattle.lib_string.specs.Formats.{Fills}
use Rattle.lib_string.proofs.FormatSteps.{left_row, plain_step, directive_step, directive_fails, malformed}
use Rattle.lib_string.proofs.format.fill_pieces.Goals as goal

pub loop-byte-preserved-else-is_err : goal.loop-byte-preserved-else-is_err
loop-byte-preserved-else-is_err c =
    let w = c.args.world.now in
    let args = c.args.args.now in
    let l = c.loop-byte in
    let whole = left_row w args c.args.format.now c.args.at c.args.out.now.items in
    let appended : c.append.new.out.items ≡ l.out.items ++ c.in-Plain.byte ∷ [] = grind (arith, common_steps) in
    record {
      row = plain_step w args whole l.left.now l.at l.out.items l.invariant.row c.in-Some.byte.now c.in-Some.rest.now c.read_piece-piece.result.1.now (piece_of c.read_piece-piece.result.0)
          c.in-Some.ensures.cases.0 c.read_piece-piece.ensures.piece c.in-Plain.byte c.append.new.out.items (ap piece_of c.in-Plain.is) appended;
      small = l.invariant.small;
    }

pub loop-byte-preserved : goal.loop-byte-preserved
loop-byte-preserved c =
    let w = c.args.world.now in
    let args = c.args.args.now in
    let l = c.loop-byte in
    let d = c.in-Directive.field in
    let whole = left_row w args c.args.format.now c.args.at c.args.out.now.items in
    let fills = subst (λ o. Fills w args l.at l.out.items c.directive_into.new.out.items (field_of d) (form_of d.form) (Ok o)) c.in-Ok-None.field-0-is c.in-Ok-None.ensures.fills in
    record {
      row = directive_step w args whole l.left.now l.at l.out.items l.invariant.row c.in-Some.byte.now c.in-Some.rest.now c.read_piece-piece.result.1.now (piece_of c.read_piece-piece.result.0)
          c.in-Some.ensures.cases.0 c.read_piece-piece.ensures.piece d c.directive_into.new.out.items (ap piece_of c.in-Directive.is) fills;
      small = omega (arith, c.in-Ok-None.ensures.there);
    }

pub returns-in-Err : goal.returns-in-Err
returns-in-Err c =
    let w = c.args.world.now in
    let args = c.args.args.now in
    let l = c.loop-byte in
    let whole = left_row w args c.args.format.now c.args.at c.args.out.now.items in
    directive_fails w args whole l.left.now l.at l.out.items l.invariant.row c.in-Some.byte.now c.in-Some.rest.now c.read_piece-piece.result.1.now (piece_of c.read_piece-piece.result.0)
    c.in-Some.ensures.cases.0 c.read_piece-piece.ensures.piece c.in-Directive.field c.directive_into.new.out.items (ap piece_of c.in-Directive.is) c.in-Err.ending c.in-Err.ensures.fills

pub returns-in-Malformed : goal.returns-in-Malformed
returns-in-Malformed c =
    let w = c.args.world.now in
    let args = c.args.args.now in
    let l = c.loop-byte in
    let whole = left_row w args c.args.format.now c.args.at c.args.out.now.items in
    malformed w args whole l.left.now l.at l.out.items l.invariant.row c.in-Some.byte.now c.in-Some.rest.now c.read_piece-piece.result.1.now (piece_of c.read_piece-piece.result.0)
    c.in-Some.ensures.cases.0 c.read_piece-piece.ensures.piece (ap piece_of c.in-Malformed.is)
