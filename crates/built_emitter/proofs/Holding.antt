-- What is shown of each node that is built: its code has no more words than its bulk, and its run is not stuck. And that this holds of
-- values and conditions.
use Rattle.std.proofs.Common.{◌≡◌, ℤ, List, map, sym, ap, ◌∙◌, ℕ, ◌<◌, ◌≤◌, [], ◌∷◌, true, None, refl, arith, ◌+◌, IsSome, zero, suc}
use Rattle.byte_text.specs.declared.fixed.StrId.{StrId}
use Rattle.syntax_tree.specs.declared.tree.ExprKind.TheOpen as level
use Rattle.syntax_tree.specs.Bulk as bulk
use Rattle.syntax_tree.specs.declared.tree.BinOp.{BinOp}
use Rattle.syntax_tree.specs.declared.tree.Expr.{Expr}
use Rattle.syntax_tree.specs.declared.tree.ExprKind.{out-ExprKind}
use Rattle.syntax_tree.specs.declared.tree.Stat.{Stat}
use Rattle.syntax_tree.specs.declared.tree.StatKind.{out-StatKind}
use Rattle.syntax_tree.specs.declared.bindings.Bindings.{Bindings}
use Rattle.syntax_tree.specs.declared.notes.Visible.{Visible}
use Rattle.syntax_tree.specs.Bulk.{bulk_expr, bulk_stat}
use Rattle.syntax_tree.specs.Lists.{total}
use Rattle.scope_laws.specs.Sight.{Part, expr, stat}
use Rattle.built_emitter.specs.Size as size
use Rattle.built_emitter.specs.Unbuilt.{steps, uses_of, first_unbuilt, ExprUses, kind_uses, is_local}
use Rattle.built_emitter.specs.Operations.{operation, unless}
use Rattle.built_emitter.specs.Size.{expr_words, stat_words, block_words}
use Rattle.built_emitter.specs.Standing.{names_of, Stand, bound_at}
use Rattle.built_emitter.proofs.NodeLevels.{ExprKindNode, kind_level, of_kind}
use Rattle.built_emitter.proofs.Built.{or_else_none, provided_none}
use Rattle.built_emitter.proofs.NeverStuck.{ValueFine, ConditionFine, number_fine, name_fine, result_fine, comparison_fine, StatementFine, StatementsFine}
use Rattle.built_emitter.proofs.StandingParts.{in_expr, behind_quiet}
use Rattle.built_emitter.proofs.BuiltNames.{registered}

module _ (b : Bindings) where
  abbrev pub block_bulk : List Stat → ℕ
  block_bulk ss = total (map (bulk_stat b) ss)

  -- ---- what is shown

  pub record ValueHolds (e : Expr) : Type 0 where
    pub within : expr_words e ≤ bulk_expr b e
    pub fine : (vs : List Visible) (after : List Part) → Stand b vs (expr e ∷ after) → ValueFine (names_of vs) e

  pub record ConditionHolds (e : Expr) : Type 0 where
    pub within : expr_words e ≤ bulk_expr b e
    pub fine : (vs : List Visible) (after : List Part) → Stand b vs (expr e ∷ after) → ConditionFine (names_of vs) e

  -- of a call, as the statement that it is
  pub record CallHolds (e : Expr) : Type 0 where
    pub within : expr_words e ≤ bulk_expr b e
    pub fine : (vs : List Visible) (after : List Part) (s : Stat) → out-StatKind s.kind ≡ level.StatKind::Call e → Stand b vs (expr e ∷ after) →
        StatementFine (names_of vs) s

  pub record StatementHolds (s : Stat) : Type 0 where
    pub within : stat_words s ≤ bulk_stat b s
    pub fine : (vs : List Visible) (after : List Part) → Stand b vs (stat s ∷ after) → StatementFine (names_of vs) s

  pub record BlockHolds (ss : List Stat) : Type 0 where
    pub within : block_words ss ≤ total (map (bulk_stat b) ss)
    pub fine : (vs : List Visible) → Stand b vs (map stat ss) → StatementsFine (names_of vs) ss

  -- ---- values

  pub second : (l r : Expr) (vs : List Visible) → Stand b vs (expr l ∷ expr r ∷ []) → Stand b vs (expr r ∷ [])
  second l r vs s = behind_quiet b vs (expr l) (expr r ∷ []) (λ n. refl) s

  number_holds : (e : Expr) (v : ℤ) → out-ExprKind e.kind ≡ level.Num v → ValueHolds e
  number_holds e v k = record {
    within = omega (arith, of_kind size.steps e (level.Num v) k, of_kind (bulk.steps b) e (level.Num v) k);
    fine = λ vs after s. number_fine (names_of vs) e v k;
  }

  name_holds : (e : Expr) (x : StrId) → out-ExprKind e.kind ≡ level.Name x → is_local (bound_at b e.id) ≡ true → ValueHolds e
  name_holds e x k local = record {
    within = omega (arith, of_kind size.steps e (level.Name x) k, of_kind (bulk.steps b) e (level.Name x) k);
    fine = λ vs after s. name_fine (names_of vs) e x k (registered b vs e after x s k local);
  }

  result_holds : (e l r : Expr) (op : BinOp) → out-ExprKind e.kind ≡ level.Binary op l r → IsSome (operation op 0 0 0) → ValueHolds l →
      ValueHolds r → ValueHolds e
  result_holds e l r op k known first other =
      let words : expr_words e ≡ expr_words l + expr_words r + 1 = of_kind size.steps e (level.Binary op l r) k in
      let counted : bulk_expr b e ≡ 6 + (bulk_expr b l + bulk_expr b r) = of_kind (bulk.steps b) e (level.Binary op l r) k in
      record {
        within = omega (arith, words, counted, first.within, other.within);
        fine = λ vs after s.
            let both = in_expr b vs e after (level.Binary op l r) s k in
            result_fine (names_of vs) e l r op k known (first.fine vs (expr r ∷ []) both) (other.fine vs [] (second l r vs both));
      }

  value_by : (n : ℕ) → ((x : Expr) → bulk_expr b x < n → (uses_of b x).value ≡ None → ValueHolds x) → (e : Expr) → bulk_expr b e < suc n →
      (l : ExprKindNode) → out-ExprKind e.kind ≡ l → (kind_uses b (kind_level (steps b) l) e.id e.at).value ≡ None → ValueHolds e
  value_by n inner e lt (level.Num v) k u = number_holds e v k
  value_by n inner e lt (level.Name x) k u = name_holds e x k (provided_none (is_local (bound_at b e.id)) e.at None u).0
  value_by n inner e lt (level.Binary op l r) k u =
      let counted : bulk_expr b e ≡ 6 + (bulk_expr b l + bulk_expr b r) = of_kind (bulk.steps b) e (level.Binary op l r) k in
      let built = provided_none _ e.at _ u in
      let both = or_else_none (uses_of b l).value (uses_of b r).value built.1 in
      result_holds e l r op k built.0 (inner l (omega (arith, counted, lt)) both.0) (inner r (omega (arith, counted, lt)) both.1)
  value_by n inner e lt _ k u = cc

  value_below : (n : ℕ) (e : Expr) → bulk_expr b e < n → (uses_of b e).value ≡ None → ValueHolds e
  value_below zero e lt u = absurd (omega (arith, lt))
  value_below (suc n) e lt u =
      value_by n (value_below n) e lt (out-ExprKind e.kind) refl (sym (ap (λ (u : ExprUses). u.value) (of_kind (steps b) e (out-ExprKind e.kind)
      refl)) ∙ u)

  pub value_holds : (e : Expr) → (uses_of b e).value ≡ None → ValueHolds e
  value_holds e u = value_below (suc (bulk_expr b e)) e (omega arith) u

  -- ---- conditions and calls

  comparison_holds : (e l r : Expr) (op : BinOp) → out-ExprKind e.kind ≡ level.Binary op l r → IsSome (unless op 0 0) → ValueHolds l →
      ValueHolds r → ConditionHolds e
  comparison_holds e l r op k known first other =
      let words : expr_words e ≡ expr_words l + expr_words r + 1 = of_kind size.steps e (level.Binary op l r) k in
      let counted : bulk_expr b e ≡ 6 + (bulk_expr b l + bulk_expr b r) = of_kind (bulk.steps b) e (level.Binary op l r) k in
      record {
        within = omega (arith, words, counted, first.within, other.within);
        fine = λ vs after s.
            let both = in_expr b vs e after (level.Binary op l r) s k in
            comparison_fine (names_of vs) e l r op k known (first.fine vs (expr r ∷ []) both) (other.fine vs [] (second l r vs both));
      }

  condition_by : (e : Expr) (l : ExprKindNode) → out-ExprKind e.kind ≡ l → (kind_uses b (kind_level (steps b) l) e.id e.at).condition ≡ None →
      ConditionHolds e
  condition_by e (level.Binary op l r) k u =
      let built = provided_none _ e.at _ u in
      let both = or_else_none (uses_of b l).value (uses_of b r).value built.1 in
      comparison_holds e l r op k built.0 (value_holds l both.0) (value_holds r both.1)
  condition_by e _ k u = cc

  pub condition_holds : (e : Expr) → (uses_of b e).condition ≡ None → ConditionHolds e
  condition_holds e u =
      condition_by e (out-ExprKind e.kind) refl (sym (ap (λ (u : ExprUses). u.condition) (of_kind (steps b) e (out-ExprKind e.kind) refl)) ∙ u)

  -- ---- statements

  -- ---- all of them

  -- ---- each kind of statement that is built

  -- ---- all of them

  abbrev pub BlocksBelow : ℕ → Type 0
  BlocksBelow n = (ss : List Stat) → block_bulk ss < n → first_unbuilt b ss ≡ None → BlockHolds ss
