-- How deep each node nests that the grammar builds, by its parts.
use Rattle.std.proofs.Common.{◌≡◌, ℕ, ◌+◌, suc, max, Bool, List, [], ◌∷◌, map, Option, Some, None, sym, ap, ◌∙◌, rules, arith, subst}
use Rattle.byte_text.specs.declared.StrId.{StrId}
use Rattle.syntax_tree.specs.declared.token.Token.{Token}
use Rattle.syntax_tree.specs.declared.token.TokenKind.{TokenKind}
use Rattle.syntax_tree.specs.declared.token.TokenKind.TheVariants as token
use Rattle.syntax_tree.specs.declared.tree.Arm.{Arm}
use Rattle.syntax_tree.specs.declared.tree.BinOp.{BinOp}
use Rattle.syntax_tree.specs.declared.tree.Expr.{Expr}
use Rattle.syntax_tree.specs.declared.tree.ExprArm.{ExprArm}
use Rattle.syntax_tree.specs.declared.tree.ExprKind.{ExprKind}
use Rattle.syntax_tree.specs.declared.tree.ExprKind as expr
use Rattle.syntax_tree.specs.declared.tree.ExprKind.TheFolds as folds
use Rattle.syntax_tree.specs.declared.tree.ExprKind.TheViews as views
use Rattle.syntax_tree.specs.declared.tree.Field.{Field}
use Rattle.syntax_tree.specs.declared.tree.FieldKind as field
use Rattle.syntax_tree.specs.declared.tree.FuncBody.{FuncBody}
use Rattle.syntax_tree.specs.declared.tree.Stat.{Stat}
use Rattle.syntax_tree.specs.declared.tree.StatKind as stat
use Rattle.syntax_tree.specs.declared.tree.UnOp.{UnOp}
use Rattle.syntax_tree.specs.Derivations.{main_function}
use Rattle.syntax_tree.specs.Nodes.{expr_at, call_at, field_at, stat_at, function_at, arm, expr_arm}
use Rattle.syntax_tree.specs.Words.{literal_of}
use Rattle.syntax_tree.specs.Lists.{greatest}
use Rattle.syntax_tree.specs.declared.tree.ExprKind.TheOpen as level
use Rattle.syntax_tree.specs.declared.tree.ExprKind.TheOpen.{StatKind-F}
use Rattle.syntax_tree.specs.declared.tree.FieldKind.{FieldKind}
use Rattle.syntax_tree.specs.declared.tree.StatKind.{StatKind, roll-StatKind}
use Rattle.syntax_tree.specs.Nest.{steps, stat_kind_nest, nest_expr, nest_stat, nest_func, nest_arm, nest_expr_arm, nest_field, nest_step}
use Rattle.parse_steps.specs.declared.classes.Beginning.TheVariants as begins
use Rattle.parse_steps.specs.Classes.{beginning}
use Rattle.parse_steps.proofs.OtherNest.{nest_other}

plus_one : (n : ℕ) → n + 1 ≡ suc n
plus_one n = search (rules, arith)

abbrev nest_expr_kind : ExprKind → ℕ
nest_expr_kind =
    folds.fold-ExprKind ℕ ℕ ℕ ℕ ℕ ℕ ℕ ℕ ℕ steps.kind steps.field_kind steps.stat_kind steps.arm steps.expr steps.expr_arm steps.field
    steps.func steps.stat

abbrev nest_field_kind : FieldKind → ℕ
nest_field_kind =
    folds.fold-FieldKind ℕ ℕ ℕ ℕ ℕ ℕ ℕ ℕ ℕ steps.kind steps.field_kind steps.stat_kind steps.arm steps.expr steps.expr_arm steps.field
    steps.func steps.stat

abbrev nest_kind : StatKind → ℕ
nest_kind =
    folds.fold-StatKind ℕ ℕ ℕ ℕ ℕ ℕ ℕ ℕ ℕ steps.kind steps.field_kind steps.stat_kind steps.arm steps.expr steps.expr_arm steps.field
    steps.func steps.stat

-- of a statement whose kind is given by its level
nest_level : (ts : List Token) (i : ℕ) (l : StatKind-F ExprKind FieldKind StatKind Arm Expr ExprArm Field FuncBody Stat) (k : StatKind) →
    roll-StatKind l ≡ k → nest_stat (stat_at ts i k) ≡ stat_kind_nest
    (folds.map-StatKind ExprKind FieldKind StatKind Arm Expr ExprArm Field FuncBody Stat ℕ ℕ ℕ ℕ ℕ ℕ ℕ ℕ ℕ nest_expr_kind nest_field_kind
    nest_kind nest_arm nest_expr nest_expr_arm nest_field nest_func nest_stat l)
nest_level ts i l k h =
    let inner : nest_stat (stat_at ts i k) ≡ nest_kind k = search (rules, folds.the_lemmas, views.the_lemmas) in
    inner ∙ ap nest_kind (sym h) ∙ folds.fold-roll-StatKind ℕ ℕ ℕ ℕ ℕ ℕ ℕ ℕ ℕ steps.kind steps.field_kind steps.stat_kind steps.arm
    steps.expr steps.expr_arm steps.field steps.func steps.stat l

pub nest_name : (ts : List Token) (i : ℕ) (x : StrId) → nest_expr (expr_at ts i (expr.Name x)) ≡ 0
nest_name ts i x = search (rules, folds.the_lemmas, views.the_lemmas)

pub nest_text : (ts : List Token) (i : ℕ) (x : StrId) → nest_expr (expr_at ts i (expr.Str x)) ≡ 0
nest_text ts i x = search (rules, folds.the_lemmas, views.the_lemmas)

pub nest_paren : (ts : List Token) (i : ℕ) (e : Expr) → nest_expr (expr_at ts i (expr.Paren e)) ≡ suc (nest_expr e)
nest_paren ts i e = search (rules, folds.the_lemmas, views.the_lemmas)

pub nest_unary : (ts : List Token) (i : ℕ) (op : UnOp) (e : Expr) → nest_expr (expr_at ts i (expr.Unary op e)) ≡ suc (nest_expr e)
nest_unary ts i op e = search (rules, folds.the_lemmas, views.the_lemmas)

pub nest_binary : (ts : List Token) (i : ℕ) (op : BinOp) (a c : Expr) →
    nest_expr (expr_at ts i (expr.Binary op a c)) ≡ suc (max (nest_expr a) (nest_expr c))
nest_binary ts i op a c = search (rules, folds.the_lemmas, views.the_lemmas)

pub nest_concat : (ts : List Token) (i : ℕ) (es : List Expr) → nest_expr (expr_at ts i (expr.Concat es)) ≡ suc (greatest (map nest_expr es))
nest_concat ts i es = search (rules, folds.the_lemmas, views.the_lemmas)

pub nest_index : (ts : List Token) (i : ℕ) (a key : Expr) →
    nest_expr (expr_at ts i (expr.Index a key)) ≡ suc (max (nest_expr a) (nest_expr key))
nest_index ts i a key = search (rules, folds.the_lemmas, views.the_lemmas)

pub nest_member : (ts : List Token) (i : ℕ) (a : Expr) (x : StrId) → nest_expr (expr_at ts i (expr.Member a x)) ≡ suc (nest_expr a)
nest_member ts i a x = search (rules, folds.the_lemmas, views.the_lemmas)

pub nest_call : (ts : List Token) (b i : ℕ) (a : Expr) (args : List Expr) →
    nest_expr (call_at ts b i (expr.Call a args)) ≡ suc (max (nest_expr a) (greatest (map nest_expr args)))
nest_call ts b i a args = search (rules, folds.the_lemmas, views.the_lemmas)

pub nest_method : (ts : List Token) (b i : ℕ) (a : Expr) (x : StrId) (args : List Expr) →
    nest_expr (call_at ts b i (expr.Method a x args)) ≡ suc (max (nest_expr a) (greatest (map nest_expr args)))
nest_method ts b i a x args = search (rules, folds.the_lemmas, views.the_lemmas)

pub nest_table : (ts : List Token) (i : ℕ) (fs : List Field) → nest_expr (expr_at ts i (expr.Table fs)) ≡ suc (greatest (map nest_field fs))
nest_table ts i fs = search (rules, folds.the_lemmas, views.the_lemmas)

pub nest_function : (ts : List Token) (i : ℕ) (f : FuncBody) → nest_expr (expr_at ts i (expr.Function f)) ≡ suc (nest_func f)
nest_function ts i f = search (rules, folds.the_lemmas, views.the_lemmas)

pub nest_choice : (ts : List Token) (i : ℕ) (arms : List ExprArm) (other : Expr) →
    nest_expr (expr_at ts i (expr.If arms other)) ≡ suc (max (greatest (map nest_expr_arm arms)) (nest_expr other))
nest_choice ts i arms other = search (rules, folds.the_lemmas, views.the_lemmas)

pub nest_interp : (ts : List Token) (i : ℕ) (xs : List StrId) (es : List Expr) →
    nest_expr (expr_at ts i (expr.Interp xs es)) ≡ suc (greatest (map nest_expr es))
nest_interp ts i xs es = search (rules, folds.the_lemmas, views.the_lemmas)

pub nest_item : (ts : List Token) (i : ℕ) (e : Expr) → nest_field (field_at ts i (field.Item e)) ≡ nest_expr e
nest_item ts i e = search (rules, folds.the_lemmas, views.the_lemmas)

pub nest_named : (ts : List Token) (i : ℕ) (x : StrId) (e : Expr) → nest_field (field_at ts i (field.Named x e)) ≡ nest_expr e
nest_named ts i x e = search (rules, folds.the_lemmas, views.the_lemmas)

pub nest_keyed : (ts : List Token) (i : ℕ) (a c : Expr) → nest_field (field_at ts i (field.Keyed a c)) ≡ max (nest_expr a) (nest_expr c)
nest_keyed ts i a c = search (rules, folds.the_lemmas, views.the_lemmas)

pub nest_of_arm : (c : Expr) (block : List Stat) → nest_arm (arm c block) ≡ max (nest_expr c) (greatest (map nest_stat block))
nest_of_arm c block = search (rules, folds.the_lemmas, views.the_lemmas)

pub nest_of_expr_arm : (c v : Expr) → nest_expr_arm (expr_arm c v) ≡ max (nest_expr c) (nest_expr v)
nest_of_expr_arm c v = search (rules, folds.the_lemmas, views.the_lemmas)

pub nest_local : (ts : List Token) (i : ℕ) (xs : List StrId) (es : List Expr) →
    nest_stat (stat_at ts i (stat.Local xs es)) ≡ greatest (map nest_expr es)
nest_local ts i xs es = search (rules, folds.the_lemmas, views.the_lemmas)

pub nest_assign : (ts : List Token) (i : ℕ) (es vs : List Expr) →
    nest_stat (stat_at ts i (stat.Assign es vs)) ≡ max (greatest (map nest_expr es)) (greatest (map nest_expr vs))
nest_assign ts i es vs = search (rules, folds.the_lemmas, views.the_lemmas)

pub nest_compound : (ts : List Token) (i : ℕ) (op : BinOp) (e v : Expr) →
    nest_stat (stat_at ts i (stat.Compound op e v)) ≡ max (nest_expr e) (nest_expr v)
nest_compound ts i op e v = search (rules, folds.the_lemmas, views.the_lemmas)

pub nest_call_stat : (ts : List Token) (i : ℕ) (e : Expr) → nest_stat (stat_at ts i (stat.Call e)) ≡ nest_expr e
nest_call_stat ts i e = search (rules, folds.the_lemmas, views.the_lemmas)

pub nest_do : (ts : List Token) (i : ℕ) (block : List Stat) →
    nest_stat (stat_at ts i (stat.Do block)) ≡ suc (greatest (map nest_stat block))
nest_do ts i block = search (rules, folds.the_lemmas, views.the_lemmas)

pub nest_while : (ts : List Token) (i : ℕ) (c : Expr) (block : List Stat) →
    nest_stat (stat_at ts i (stat.While c block)) ≡ suc (max (nest_expr c) (greatest (map nest_stat block)))
nest_while ts i c block = search (rules, folds.the_lemmas, views.the_lemmas)

pub nest_repeat : (ts : List Token) (i : ℕ) (block : List Stat) (c : Expr) →
    nest_stat (stat_at ts i (stat.Repeat block c)) ≡ suc (max (greatest (map nest_stat block)) (nest_expr c))
nest_repeat ts i block c = search (rules, folds.the_lemmas, views.the_lemmas)

pub nest_if : (ts : List Token) (i : ℕ) (arms : List Arm) (other : Option (List Stat)) →
    nest_stat (stat_at ts i (stat.If arms other)) ≡ suc (max (greatest (map nest_arm arms)) (nest_other other))
nest_if ts i arms None = search (rules, folds.the_lemmas, views.the_lemmas)
nest_if ts i arms (Some block) =
    nest_level ts i (level.StatKind::If arms (Some block)) (stat.If arms (Some block)) (views.rolls-StatKind::If arms (Some block)) ∙
    plus_one _

pub nest_num_for : (ts : List Token) (i : ℕ) (x : StrId) (start limit : Expr) (step : Option Expr) (block : List Stat) →
    nest_stat (stat_at ts i (stat.NumFor x start limit step block)) ≡ suc
    (max (max (nest_expr start) (nest_expr limit)) (max (nest_step step) (greatest (map nest_stat block))))
nest_num_for ts i x start limit None block = search (rules, folds.the_lemmas, views.the_lemmas)
nest_num_for ts i x start limit (Some step) block =
    nest_level ts i (level.NumFor x start limit (Some step) block) (stat.NumFor x start limit (Some step) block)
    (views.rolls-NumFor x start limit (Some step) block) ∙ plus_one _

pub nest_gen_for : (ts : List Token) (i : ℕ) (xs : List StrId) (es : List Expr) (block : List Stat) →
    nest_stat (stat_at ts i (stat.GenFor xs es block)) ≡ suc (max (greatest (map nest_expr es)) (greatest (map nest_stat block)))
nest_gen_for ts i xs es block = search (rules, folds.the_lemmas, views.the_lemmas)

pub nest_local_function : (ts : List Token) (i : ℕ) (x : StrId) (f : FuncBody) →
    nest_stat (stat_at ts i (stat.LocalFunction x f)) ≡ suc (nest_func f)
nest_local_function ts i x f = search (rules, folds.the_lemmas, views.the_lemmas)

pub nest_return : (ts : List Token) (i : ℕ) (es : List Expr) → nest_stat (stat_at ts i (stat.Return es)) ≡ greatest (map nest_expr es)
nest_return ts i es = search (rules, folds.the_lemmas, views.the_lemmas)

pub nest_break : (ts : List Token) (i : ℕ) → nest_stat (stat_at ts i stat.Break) ≡ 0
nest_break ts i = search (rules, folds.the_lemmas, views.the_lemmas)

pub nest_continue : (ts : List Token) (i : ℕ) → nest_stat (stat_at ts i stat.Continue) ≡ 0
nest_continue ts i = search (rules, folds.the_lemmas, views.the_lemmas)

pub nest_function_at : (ts : List Token) (i : ℕ) (xs : List StrId) (v : Bool) (block : List Stat) →
    nest_func (function_at ts i xs v block) ≡ greatest (map nest_stat block)
nest_function_at ts i xs v block = search (rules, folds.the_lemmas, views.the_lemmas)

pub nest_main : (block : List Stat) → nest_func (main_function block) ≡ greatest (map nest_stat block)
nest_main block = search (rules, folds.the_lemmas, views.the_lemmas)

abbrev nest_at : List Token → ℕ → Option ExprKind → ℕ
nest_at ts i None = 0
nest_at ts i (Some k) = nest_expr (expr_at ts i k)

-- of a literal that is one token, and no interpolated string
pub nest_literal : (t : Option TokenKind) (ts : List Token) (i : ℕ) (k : ExprKind) → literal_of t ≡ Some k → beginning t ≡ begins.Leaf →
    nest_expr (expr_at ts i k) ≡ 0
nest_literal (Some token.Nil) ts i k h leaf = subst (λ o. nest_at ts i o ≡ 0) h (search (rules, folds.the_lemmas, views.the_lemmas))
nest_literal (Some token.True) ts i k h leaf = subst (λ o. nest_at ts i o ≡ 0) h (search (rules, folds.the_lemmas, views.the_lemmas))
nest_literal (Some token.False) ts i k h leaf = subst (λ o. nest_at ts i o ≡ 0) h (search (rules, folds.the_lemmas, views.the_lemmas))
nest_literal (Some (token.Number n)) ts i k h leaf = subst (λ o. nest_at ts i o ≡ 0) h (search (rules, folds.the_lemmas, views.the_lemmas))
nest_literal (Some (token.Str x)) ts i k h leaf = subst (λ o. nest_at ts i o ≡ 0) h (search (rules, folds.the_lemmas, views.the_lemmas))
nest_literal (Some token.TripleDot) ts i k h leaf = subst (λ o. nest_at ts i o ≡ 0) h (search (rules, folds.the_lemmas, views.the_lemmas))
nest_literal _ ts i k h leaf = search rules

-- of an interpolated string that is one token
pub nest_whole : (t : Option TokenKind) (ts : List Token) (i : ℕ) (k : ExprKind) → literal_of t ≡ Some k → beginning t ≡ begins.Whole →
    nest_expr (expr_at ts i k) ≡ 1
nest_whole (Some (token.InterpWhole x)) ts i k h whole = subst (λ o. nest_at ts i o ≡ 1) h (nest_interp ts i (x ∷ []) [])
nest_whole _ ts i k h whole = search rules
