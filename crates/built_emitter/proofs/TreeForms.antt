-- What a node that is built and fits says of its parts, and how many words its code takes at most.
use Rattle.std.proofs.Common.{◌≡◌, ℤ, List, sym, ap, ◌∙◌, ℕ, ◌<◌, ◌≤◌, ◌∷◌, length, None, refl, arith, ◌+◌, ◌-◌, max, ◌++◌, IsSome}
use Rattle.byte_text.specs.declared.fixed.StrId.{StrId}
use Rattle.syntax_tree.specs.declared.tree.ExprKind as expr
use Rattle.syntax_tree.specs.declared.tree.ExprKind.TheOpen as level
use Rattle.syntax_tree.specs.Need as need
use Rattle.syntax_tree.specs.declared.tree.BinOp.{BinOp}
use Rattle.syntax_tree.specs.declared.tree.Expr.{Expr}
use Rattle.syntax_tree.specs.declared.tree.ExprKind.{out-ExprKind}
use Rattle.syntax_tree.specs.declared.tree.Stat.{Stat}
use Rattle.syntax_tree.specs.declared.bindings.Bindings.{Bindings}
use Rattle.syntax_tree.specs.Limits.{most_variables}
use Rattle.syntax_tree.specs.Need.{ExprNeed, need_expr}
use Rattle.built_emitter.specs.Size as size
use Rattle.built_emitter.specs.Unbuilt.{steps, uses_of, unbuilt_in_stat, first_unbuilt, ExprUses, kind_uses}
use Rattle.built_emitter.specs.Names.{names_after}
use Rattle.built_emitter.specs.Operations.{operation, unless}
use Rattle.built_emitter.specs.Form.{room, IsValue, IsCondition, IsStatement, IsBlock}
use Rattle.built_emitter.specs.Size.{expr_words}
use Rattle.built_emitter.proofs.NodeLevels.{ExprKindNode, kind_level, of_kind, of_number, of_name, of_binary}
use Rattle.built_emitter.proofs.Built.{or_else_none, provided_none}
use Rattle.built_emitter.proofs.BuiltNeeds.{first_fits, others_fit}

-- ---- words
pub words_of_number : (e : Expr) (v : ℤ) → e.kind ≡ expr.Num v → expr_words e ≡ 1
words_of_number e v k = of_number size.steps e v k

pub words_of_name : (e : Expr) (x : StrId) → e.kind ≡ expr.Name x → expr_words e ≡ 1
words_of_name e x k = of_name size.steps e x k

pub words_of_result : (e a b : Expr) (op : BinOp) → e.kind ≡ expr.Binary op a b → expr_words e ≡ expr_words a + expr_words b + 1
words_of_result e a b op k = of_binary size.steps e a b op k

need_of_binary : (e a b : Expr) (op : BinOp) → e.kind ≡ expr.Binary op a b → (need_expr e).need ≡ max (need_expr a).need (1 + (need_expr b).need)
need_of_binary e a b op k = ap (λ (u : ExprNeed). u.need) (of_binary need.steps e a b op k)

module _ (b : Bindings) where
  -- ---- values
  pub more_registers : (n m : ℕ) (e : Expr) → n ≤ m → IsValue b n e → IsValue b m e
  more_registers n m e le f = record { built = f.built; few = omega (arith, f.few) }

  value_needs : (e : Expr) → (uses_of b e).value ≡ None → 0 < (need_expr e).need
  value_needs e built =
      by (out-ExprKind e.kind) (sym (ap (λ (u : ExprUses). u.value) (of_kind (steps b) e (out-ExprKind e.kind) refl)) ∙ built)
      (ap (λ (u : ExprNeed). u.need) (of_kind need.steps e (out-ExprKind e.kind) refl))
    where
      by : (l : ExprKindNode) → (kind_uses b (kind_level (steps b) l) e.id e.at).value ≡ None →
          (need_expr e).need ≡ (need.kind_need (kind_level need.steps l)).need → 0 < (need_expr e).need
      by (level.Num v) u n = omega (arith, n)
      by (level.Name x) u n = omega (arith, n)
      by (level.Binary op l r) u n = omega (arith, n)
      by _ u n = cc

  pub needs_register : (n : ℕ) (e : Expr) → IsValue b n e → 0 < n
  needs_register n e f = omega (arith, f.few, value_needs e f.built)

  -- an operation
  pub record HasOperands (n : ℕ) (op : BinOp) (l r : Expr) : Type 0 where
    pub operation : IsSome (operation op 0 0 0)
    pub left : IsValue b n l
    pub right : IsValue b (n - 1) r
    pub room : 1 < n

  pub operands : (n : ℕ) (e l r : Expr) (op : BinOp) → IsValue b n e → e.kind ≡ expr.Binary op l r → HasOperands n op l r
  operands n e l r op f k =
      let built = provided_none _ e.at _ (sym (ap (λ (u : ExprUses). u.value) (of_binary (steps b) e l r op k)) ∙ f.built) in
      let both = or_else_none (uses_of b l).value (uses_of b r).value built.1 in
      let needs = need_of_binary e l r op k in
      record {
        operation = built.0;
        left = record { built = both.0; few = omega (arith, needs, f.few) };
        right = record { built = both.1; few = omega (arith, needs, f.few) };
        room = omega (arith, needs, f.few, value_needs r both.1);
      }

  -- a comparison
  pub record HasComparison (names : List StrId) (op : BinOp) (l r : Expr) : Type 0 where
    pub compares : IsSome (unless op 0 0)
    pub left : IsValue b (room names 0) l
    pub right : IsValue b (room names 1) r

  pub comparison : (names : List StrId) (cond l r : Expr) (op : BinOp) → IsCondition b names cond → cond.kind ≡ expr.Binary op l r →
      HasComparison names op l r
  comparison names cond l r op f k =
      let built = provided_none _ cond.at _ (sym (ap (λ (u : ExprUses). u.condition) (of_binary (steps b) cond l r op k)) ∙ f.built) in
      let both = or_else_none (uses_of b l).value (uses_of b r).value built.1 in
      let needs = need_of_binary cond l r op k in
      record {
        compares = built.0;
        left = record { built = both.0; few = omega (arith, needs, f.fits) };
        right = record { built = both.1; few = omega (arith, needs, f.fits) };
      }

  -- ---- blocks
  pub first_statement : (names : List StrId) (s : Stat) (ss : List Stat) → IsBlock b names (s ∷ ss) → IsStatement b names s
  first_statement names s ss f = record {
    built = (or_else_none (unbuilt_in_stat b s) (first_unbuilt b ss) f.built).0;
    fits = first_fits names s ss f.fits;
  }

  pub other_statements : (names : List StrId) (s : Stat) (ss : List Stat) → IsBlock b names (s ∷ ss) → IsBlock b (names_after names s) ss
  other_statements names s ss f = record {
    built = (or_else_none (unbuilt_in_stat b s) (first_unbuilt b ss) f.built).1;
    fits = others_fit names s ss f.fits;
  }

  pub few_names : (names : List StrId) (ss : List Stat) → IsBlock b names ss → length names ≤ most_variables
  few_names names ss f = omega (arith, f.fits.locals.live, f.fits.locals.few)

-- a statement makes some names visible
pub names_grow : (names : List StrId) (s : Stat) → (more : List StrId) × (names_after names s ≡ more ++ names)
names_grow names s = (_, refl)
