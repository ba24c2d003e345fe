-- Where arguments open in each node that the grammar builds, by its parts.
use Rattle.std.proofs.Common.{◌≡◌, ℕ, Bool, List, [], ◌∷◌, ◌++◌, Option, Some, None, refl, rules, subst}
use Rattle.byte_text.specs.declared.StrId.{StrId}
use Rattle.syntax_tree.specs.declared.token.Token.{Token}
use Rattle.syntax_tree.specs.declared.token.TokenKind.{TokenKind}
use Rattle.syntax_tree.specs.declared.token.TokenKind.TheVariants as token
use Rattle.syntax_tree.specs.declared.tree.Arm.{Arm}
use Rattle.syntax_tree.specs.declared.tree.BinOp.{BinOp}
use Rattle.syntax_tree.specs.declared.tree.Expr.{Expr}
use Rattle.syntax_tree.specs.declared.tree.ExprArm.{ExprArm}
use Rattle.syntax_tree.specs.declared.tree.ExprKind.{ExprKind}
use Rattle.syntax_tree.specs.declared.tree.ExprKind as expr
use Rattle.syntax_tree.specs.declared.tree.ExprKind.TheFolds as folds
use Rattle.syntax_tree.specs.declared.tree.ExprKind.TheViews as views
use Rattle.syntax_tree.specs.declared.tree.Field.{Field}
use Rattle.syntax_tree.specs.declared.tree.FieldKind as field
use Rattle.syntax_tree.specs.declared.tree.FuncBody.{FuncBody}
use Rattle.syntax_tree.specs.declared.tree.Stat.{Stat}
use Rattle.syntax_tree.specs.declared.tree.StatKind as stat
use Rattle.syntax_tree.specs.declared.tree.UnOp.{UnOp}
use Rattle.syntax_tree.specs.Derivations.{main_function}
use Rattle.syntax_tree.specs.Nodes.{expr_at, call_at, field_at, stat_at, function_at, arm, expr_arm}
use Rattle.syntax_tree.specs.Words.{literal_of}
use Rattle.syntax_tree.specs.Calls.{Places, call_places}
use Rattle.parse_steps.proofs.CallPlaces.{calls_expr, calls_stat, calls_func, calls_arm, calls_expr_arm, calls_field, calls_exprs, calls_stats, calls_arms, calls_expr_arms, calls_fields, calls_step, calls_other}

pub calls_name : (ts : List Token) (i : ℕ) (x : StrId) → calls_expr (expr_at ts i (expr.Name x)) ≡ []
calls_name ts i x = search (rules, folds.the_lemmas, views.the_lemmas)

pub calls_text : (ts : List Token) (i : ℕ) (x : StrId) → calls_expr (expr_at ts i (expr.Str x)) ≡ []
calls_text ts i x = search (rules, folds.the_lemmas, views.the_lemmas)

pub calls_paren : (ts : List Token) (i : ℕ) (e : Expr) → calls_expr (expr_at ts i (expr.Paren e)) ≡ calls_expr e
calls_paren ts i e = search (rules, folds.the_lemmas, views.the_lemmas)

pub calls_unary : (ts : List Token) (i : ℕ) (op : UnOp) (e : Expr) → calls_expr (expr_at ts i (expr.Unary op e)) ≡ calls_expr e
calls_unary ts i op e = search (rules, folds.the_lemmas, views.the_lemmas)

pub calls_binary : (ts : List Token) (i : ℕ) (op : BinOp) (a c : Expr) →
    calls_expr (expr_at ts i (expr.Binary op a c)) ≡ calls_expr a ++ calls_expr c
calls_binary ts i op a c = search (rules, folds.the_lemmas, views.the_lemmas)

pub calls_concat : (ts : List Token) (i : ℕ) (es : List Expr) → calls_expr (expr_at ts i (expr.Concat es)) ≡ calls_exprs es
calls_concat ts i es = search (rules, folds.the_lemmas, views.the_lemmas)

pub calls_index : (ts : List Token) (i : ℕ) (a key : Expr) → calls_expr (expr_at ts i (expr.Index a key)) ≡ calls_expr a ++ calls_expr key
calls_index ts i a key = search (rules, folds.the_lemmas, views.the_lemmas)

pub calls_member : (ts : List Token) (i : ℕ) (a : Expr) (x : StrId) → calls_expr (expr_at ts i (expr.Member a x)) ≡ calls_expr a
calls_member ts i a x = search (rules, folds.the_lemmas, views.the_lemmas)

pub calls_call : (ts : List Token) (b i : ℕ) (a : Expr) (args : List Expr) →
    calls_expr (call_at ts b i (expr.Call a args)) ≡ i ∷ calls_expr a ++ calls_exprs args
calls_call ts b i a args = search (rules, folds.the_lemmas, views.the_lemmas)

pub calls_method : (ts : List Token) (b i : ℕ) (a : Expr) (x : StrId) (args : List Expr) →
    calls_expr (call_at ts b i (expr.Method a x args)) ≡ i ∷ calls_expr a ++ calls_exprs args
calls_method ts b i a x args = search (rules, folds.the_lemmas, views.the_lemmas)

pub calls_table : (ts : List Token) (i : ℕ) (fs : List Field) → calls_expr (expr_at ts i (expr.Table fs)) ≡ calls_fields fs
calls_table ts i fs = search (rules, folds.the_lemmas, views.the_lemmas)

pub calls_function : (ts : List Token) (i : ℕ) (f : FuncBody) → calls_expr (expr_at ts i (expr.Function f)) ≡ calls_func f
calls_function ts i f = search (rules, folds.the_lemmas, views.the_lemmas)

pub calls_choice : (ts : List Token) (i : ℕ) (arms : List ExprArm) (other : Expr) →
    calls_expr (expr_at ts i (expr.If arms other)) ≡ calls_expr_arms arms ++ calls_expr other
calls_choice ts i arms other = search (rules, folds.the_lemmas, views.the_lemmas)

pub calls_interp : (ts : List Token) (i : ℕ) (xs : List StrId) (es : List Expr) →
    calls_expr (expr_at ts i (expr.Interp xs es)) ≡ calls_exprs es
calls_interp ts i xs es = search (rules, folds.the_lemmas, views.the_lemmas)

pub calls_item : (ts : List Token) (i : ℕ) (e : Expr) → calls_field (field_at ts i (field.Item e)) ≡ calls_expr e
calls_item ts i e = search (rules, folds.the_lemmas, views.the_lemmas)

pub calls_named : (ts : List Token) (i : ℕ) (x : StrId) (e : Expr) → calls_field (field_at ts i (field.Named x e)) ≡ calls_expr e
calls_named ts i x e = search (rules, folds.the_lemmas, views.the_lemmas)

pub calls_keyed : (ts : List Token) (i : ℕ) (a c : Expr) → calls_field (field_at ts i (field.Keyed a c)) ≡ calls_expr a ++ calls_expr c
calls_keyed ts i a c = search (rules, folds.the_lemmas, views.the_lemmas)

pub calls_of_arm : (c : Expr) (block : List Stat) → calls_arm (arm c block) ≡ calls_expr c ++ calls_stats block
calls_of_arm c block = search (rules, folds.the_lemmas, views.the_lemmas)

pub calls_of_expr_arm : (c v : Expr) → calls_expr_arm (expr_arm c v) ≡ calls_expr c ++ calls_expr v
calls_of_expr_arm c v = search (rules, folds.the_lemmas, views.the_lemmas)

pub calls_local : (ts : List Token) (i : ℕ) (xs : List StrId) (es : List Expr) →
    calls_stat (stat_at ts i (stat.Local xs es)) ≡ calls_exprs es
calls_local ts i xs es = search (rules, folds.the_lemmas, views.the_lemmas)

pub calls_assign : (ts : List Token) (i : ℕ) (es vs : List Expr) →
    calls_stat (stat_at ts i (stat.Assign es vs)) ≡ calls_exprs es ++ calls_exprs vs
calls_assign ts i es vs = search (rules, folds.the_lemmas, views.the_lemmas)

pub calls_compound : (ts : List Token) (i : ℕ) (op : BinOp) (e v : Expr) →
    calls_stat (stat_at ts i (stat.Compound op e v)) ≡ calls_expr e ++ calls_expr v
calls_compound ts i op e v = search (rules, folds.the_lemmas, views.the_lemmas)

pub calls_call_stat : (ts : List Token) (i : ℕ) (e : Expr) → calls_stat (stat_at ts i (stat.Call e)) ≡ calls_expr e
calls_call_stat ts i e = search (rules, folds.the_lemmas, views.the_lemmas)

pub calls_do : (ts : List Token) (i : ℕ) (block : List Stat) → calls_stat (stat_at ts i (stat.Do block)) ≡ calls_stats block
calls_do ts i block = search (rules, folds.the_lemmas, views.the_lemmas)

pub calls_while : (ts : List Token) (i : ℕ) (c : Expr) (block : List Stat) →
    calls_stat (stat_at ts i (stat.While c block)) ≡ calls_expr c ++ calls_stats block
calls_while ts i c block = search (rules, folds.the_lemmas, views.the_lemmas)

pub calls_repeat : (ts : List Token) (i : ℕ) (block : List Stat) (c : Expr) →
    calls_stat (stat_at ts i (stat.Repeat block c)) ≡ calls_stats block ++ calls_expr c
calls_repeat ts i block c = search (rules, folds.the_lemmas, views.the_lemmas)

pub calls_if : (ts : List Token) (i : ℕ) (arms : List Arm) (other : Option (List Stat)) →
    calls_stat (stat_at ts i (stat.If arms other)) ≡ calls_arms arms ++ calls_other other
calls_if ts i arms None = search (rules, folds.the_lemmas, views.the_lemmas)
calls_if ts i arms (Some block) = search (rules, folds.the_lemmas, views.the_lemmas)

pub calls_num_for : (ts : List Token) (i : ℕ) (x : StrId) (start limit : Expr) (step : Option Expr) (block : List Stat) →
    calls_stat (stat_at ts i (stat.NumFor x start limit step block)) ≡ calls_expr start ++ calls_expr limit ++ calls_step step ++
    calls_stats block
calls_num_for ts i x start limit None block = search (rules, folds.the_lemmas, views.the_lemmas)
calls_num_for ts i x start limit (Some step) block = search (rules, folds.the_lemmas, views.the_lemmas)

pub calls_gen_for : (ts : List Token) (i : ℕ) (xs : List StrId) (es : List Expr) (block : List Stat) →
    calls_stat (stat_at ts i (stat.GenFor xs es block)) ≡ calls_exprs es ++ calls_stats block
calls_gen_for ts i xs es block = search (rules, folds.the_lemmas, views.the_lemmas)

pub calls_local_function : (ts : List Token) (i : ℕ) (x : StrId) (f : FuncBody) →
    calls_stat (stat_at ts i (stat.LocalFunction x f)) ≡ calls_func f
calls_local_function ts i x f = search (rules, folds.the_lemmas, views.the_lemmas)

pub calls_return : (ts : List Token) (i : ℕ) (es : List Expr) → calls_stat (stat_at ts i (stat.Return es)) ≡ calls_exprs es
calls_return ts i es = search (rules, folds.the_lemmas, views.the_lemmas)

pub calls_break : (ts : List Token) (i : ℕ) → calls_stat (stat_at ts i stat.Break) ≡ []
calls_break ts i = search (rules, folds.the_lemmas, views.the_lemmas)

pub calls_continue : (ts : List Token) (i : ℕ) → calls_stat (stat_at ts i stat.Continue) ≡ []
calls_continue ts i = search (rules, folds.the_lemmas, views.the_lemmas)

pub calls_function_at : (ts : List Token) (i : ℕ) (xs : List StrId) (v : Bool) (block : List Stat) →
    calls_func (function_at ts i xs v block) ≡ calls_stats block
calls_function_at ts i xs v block = search (rules, folds.the_lemmas, views.the_lemmas)

pub calls_main : (block : List Stat) → calls_func (main_function block) ≡ calls_stats block
calls_main block = search (rules, folds.the_lemmas, views.the_lemmas)

abbrev calls_at : List Token → ℕ → Option ExprKind → Places
calls_at ts i None = []
calls_at ts i (Some k) = calls_expr (expr_at ts i k)

pub calls_literal : (t : Option TokenKind) (ts : List Token) (i : ℕ) (k : ExprKind) → literal_of t ≡ Some k →
    calls_expr (expr_at ts i k) ≡ []
calls_literal (Some token.Nil) ts i k h = subst (λ o. calls_at ts i o ≡ []) h (search (rules, folds.the_lemmas, views.the_lemmas))
calls_literal (Some token.True) ts i k h = subst (λ o. calls_at ts i o ≡ []) h (search (rules, folds.the_lemmas, views.the_lemmas))
calls_literal (Some token.False) ts i k h = subst (λ o. calls_at ts i o ≡ []) h (search (rules, folds.the_lemmas, views.the_lemmas))
calls_literal (Some (token.Number n)) ts i k h = subst (λ o. calls_at ts i o ≡ []) h (search (rules, folds.the_lemmas, views.the_lemmas))
calls_literal (Some (token.Str x)) ts i k h = subst (λ o. calls_at ts i o ≡ []) h (search (rules, folds.the_lemmas, views.the_lemmas))
calls_literal (Some token.TripleDot) ts i k h = subst (λ o. calls_at ts i o ≡ []) h (search (rules, folds.the_lemmas, views.the_lemmas))
calls_literal (Some (token.InterpWhole x)) ts i k h =
    subst (λ o. calls_at ts i o ≡ []) h (search (rules, folds.the_lemmas, views.the_lemmas))
calls_literal _ ts i k h = search rules

pub calls_are_places : (f : FuncBody) → calls_func f ≡ call_places f
calls_are_places f = refl
