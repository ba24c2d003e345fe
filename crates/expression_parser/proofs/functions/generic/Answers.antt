use Rattle.std.proofs.Common.{arith, ℕ, sym, subst}
use Rattle.std.proofs.lemmas.Result.{err_from_is_err_and}
use Rattle.syntax_tree.specs.declared.token.TokenKind.TheVariants.{Name}
use Rattle.expression_parser.proofs.SameTurns.{has_within}
use Rattle.expression_parser.proofs.GenericTurns.{IsHead, head_with_dots, head_without_dots, generic_without_name, generic_with_default, generic_alone}
use Rattle.expression_parser.proofs.functions.generic.Goals as goal
use Rattle.expression_parser.proofs.functions.generic.Goals.{then-stands, else-stands}

pub returns-in_err-expect_name : goal.returns-in_err-expect_name
returns-in_err-expect_name c =
    let p = err_from_is_err_and c.from_residual.result c.from_residual.ensures.1 in
    rw (p.1, p.2) (generic_without_name c.args.tokens.now c.args.at c.in_err-expect_name.field-0.0 c.in_err-expect_name.ensures)

pub overflow_add-at : goal.overflow_add-at
overflow_add-at c = omega (
  arith,
  c.well_formed,
  has_within c.args.tokens.now c.args.at (Name c.in_ok-expect_name.field-0)
      c.in_ok-expect_name.ensures.0,
)

pub overflow_add-end-else-stands : goal.overflow_add-end-else-stands
overflow_add-end-else-stands c = omega (
  arith,
  c.well_formed,
  has_within c.args.tokens.now c.args.at (Name c.in_ok-expect_name.field-0)
      c.in_ok-expect_name.ensures.0,
)

pub returns-then-stands-2 : goal.returns-then-stands-2
returns-then-stands-2 c =
    let ts = c.args.tokens.now in
    let x = c.in_ok-expect_name.field-0 in
    let name = c.in_ok-expect_name.ensures.0 in
    let head : IsHead ts c.args.at c.if-stands.end = elim c.if-stands.branch [
      | then-stands w ↦ subst (λ (j : ℕ). IsHead ts c.args.at j) (sym w.end-is)
          (head_with_dots ts c.args.at x name (sym w.if-stands.ensures.value))
      | else-stands w ↦ subst (λ (j : ℕ). IsHead ts c.args.at j)
          (sym w.end-is) (head_without_dots ts c.args.at x name (sym w.if-stands.ensures.value))
    ] in
    generic_with_default ts c.args.at c.if-stands.end c.type_at.result head (sym c.if-stands-2.ensures.value) c.type_at.ensures

pub returns-else-stands-2 : goal.returns-else-stands-2
returns-else-stands-2 c =
    let ts = c.args.tokens.now in
    let x = c.in_ok-expect_name.field-0 in
    let name = c.in_ok-expect_name.ensures.0 in
    let head : IsHead ts c.args.at c.if-stands.end = elim c.if-stands.branch [
      | then-stands w ↦ subst (λ (j : ℕ). IsHead ts c.args.at j) (sym w.end-is)
          (head_with_dots ts c.args.at x name (sym w.if-stands.ensures.value))
      | else-stands w ↦ subst (λ (j : ℕ). IsHead ts c.args.at j)
          (sym w.end-is) (head_without_dots ts c.args.at x name (sym w.if-stands.ensures.value))
    ] in
    generic_alone ts c.args.at c.if-stands.end head (sym c.if-stands-2.ensures.value)
