-- How deep each part of a tree nests, and where arguments open in it, as words that do not unfold.
use Rattle.std.proofs.Common.{◌≡◌, ℕ, suc, max, Bool, List, [], ◌∷◌, ◌++◌, map, Option, Some, None, refl, sym, ap, ◌∙◌}
use Rattle.byte_text.specs.declared.StrId.{StrId}
use Rattle.syntax_tree.specs.declared.token.Token.{Token}
use Rattle.syntax_tree.specs.declared.token.TokenKind.{TokenKind}
use Rattle.syntax_tree.specs.declared.tree.Arm.{Arm}
use Rattle.syntax_tree.specs.declared.tree.BinOp.{BinOp}
use Rattle.syntax_tree.specs.declared.tree.Expr.{Expr}
use Rattle.syntax_tree.specs.declared.tree.ExprArm.{ExprArm}
use Rattle.syntax_tree.specs.declared.tree.ExprKind.{ExprKind}
use Rattle.syntax_tree.specs.declared.tree.ExprKind as expr
use Rattle.syntax_tree.specs.declared.tree.Field.{Field}
use Rattle.syntax_tree.specs.declared.tree.FieldKind as field
use Rattle.syntax_tree.specs.declared.tree.Stat.{Stat}
use Rattle.syntax_tree.specs.declared.tree.StatKind as stat
use Rattle.syntax_tree.specs.declared.tree.UnOp.{UnOp}
use Rattle.syntax_tree.specs.Calls.{call_places}
use Rattle.syntax_tree.specs.Derivations.{main_function}
use Rattle.syntax_tree.specs.Lists.{greatest}
use Rattle.syntax_tree.specs.Nest.{nest_expr, nest_stat, nest_func, nest_arm, nest_expr_arm, nest_field, nest_step}
use Rattle.syntax_tree.specs.Nodes.{expr_at, call_at, field_at, stat_at, function_at, arm, expr_arm}
use Rattle.syntax_tree.specs.Words.{literal_of}
use Rattle.parse_steps.specs.declared.classes.Beginning.TheVariants as begins
use Rattle.parse_steps.proofs.CallPlaces.{calls_expr, calls_stat, calls_field, calls_exprs, calls_stats, calls_arms, calls_expr_arms, calls_fields, calls_step, calls_other}
use Rattle.parse_steps.specs.Classes.{beginning}
use Rattle.parse_steps.proofs.OtherNest.{nest_other}
use Rattle.parse_steps.proofs.NodeCalls as calls
use Rattle.parse_steps.proofs.NodeNests as nests

pub deep : Expr → ℕ
deep = nest_expr

pub asked : Expr → List ℕ
asked = calls_expr

pub deep_list : List Expr → ℕ
deep_list = λ es. greatest (map nest_expr es)

pub asked_list : List Expr → List ℕ
asked_list = calls_exprs

pub deep_field : Field → ℕ
deep_field = nest_field

pub asked_field : Field → List ℕ
asked_field = calls_field

pub deep_fields : List Field → ℕ
deep_fields = λ fs. greatest (map nest_field fs)

pub asked_fields : List Field → List ℕ
asked_fields = calls_fields

pub deep_choices : List ExprArm → ℕ
deep_choices = λ arms. greatest (map nest_expr_arm arms)

pub asked_choices : List ExprArm → List ℕ
asked_choices = calls_expr_arms

pub deep_stat : Stat → ℕ
deep_stat = nest_stat

pub asked_stat : Stat → List ℕ
asked_stat = calls_stat

pub deep_block : List Stat → ℕ
deep_block = λ block. greatest (map nest_stat block)

pub asked_block : List Stat → List ℕ
asked_block = calls_stats

pub deep_arms : List Arm → ℕ
deep_arms = λ arms. greatest (map nest_arm arms)

pub asked_arms : List Arm → List ℕ
asked_arms = calls_arms

pub deep_step : Option Expr → ℕ
deep_step = nest_step

pub asked_step : Option Expr → List ℕ
asked_step = calls_step

pub deep_other : Option (List Stat) → ℕ
deep_other = nest_other

pub asked_other : Option (List Stat) → List ℕ
asked_other = calls_other

pub deep_of_name : (ts : List Token) (i : ℕ) (x : StrId) → deep (expr_at ts i (expr.Name x)) ≡ 0
unfolding deep deep_list deep_field deep_fields deep_choices deep_stat deep_block deep_arms deep_step deep_other
deep_of_name ts i x = nests.nest_name ts i x

pub asked_of_name : (ts : List Token) (i : ℕ) (x : StrId) → asked (expr_at ts i (expr.Name x)) ≡ []
unfolding asked asked_list asked_field asked_fields asked_choices asked_stat asked_block asked_arms asked_step asked_other
asked_of_name ts i x = calls.calls_name ts i x

pub deep_of_text : (ts : List Token) (i : ℕ) (x : StrId) → deep (expr_at ts i (expr.Str x)) ≡ 0
unfolding deep deep_list deep_field deep_fields deep_choices deep_stat deep_block deep_arms deep_step deep_other
deep_of_text ts i x = nests.nest_text ts i x

pub asked_of_text : (ts : List Token) (i : ℕ) (x : StrId) → asked (expr_at ts i (expr.Str x)) ≡ []
unfolding asked asked_list asked_field asked_fields asked_choices asked_stat asked_block asked_arms asked_step asked_other
asked_of_text ts i x = calls.calls_text ts i x

pub deep_of_paren : (ts : List Token) (i : ℕ) (e : Expr) → deep (expr_at ts i (expr.Paren e)) ≡ suc (deep e)
unfolding deep deep_list deep_field deep_fields deep_choices deep_stat deep_block deep_arms deep_step deep_other
deep_of_paren ts i e = nests.nest_paren ts i e

pub asked_of_paren : (ts : List Token) (i : ℕ) (e : Expr) → asked (expr_at ts i (expr.Paren e)) ≡ asked e
unfolding asked asked_list asked_field asked_fields asked_choices asked_stat asked_block asked_arms asked_step asked_other
asked_of_paren ts i e = calls.calls_paren ts i e

pub deep_of_unary : (ts : List Token) (i : ℕ) (op : UnOp) (e : Expr) → deep (expr_at ts i (expr.Unary op e)) ≡ suc (deep e)
unfolding deep deep_list deep_field deep_fields deep_choices deep_stat deep_block deep_arms deep_step deep_other
deep_of_unary ts i op e = nests.nest_unary ts i op e

pub asked_of_unary : (ts : List Token) (i : ℕ) (op : UnOp) (e : Expr) → asked (expr_at ts i (expr.Unary op e)) ≡ asked e
unfolding asked asked_list asked_field asked_fields asked_choices asked_stat asked_block asked_arms asked_step asked_other
asked_of_unary ts i op e = calls.calls_unary ts i op e

pub deep_of_binary : (ts : List Token) (i : ℕ) (op : BinOp) (a c : Expr)
    → deep (expr_at ts i (expr.Binary op a c)) ≡ suc (max (deep a) (deep c))
unfolding deep deep_list deep_field deep_fields deep_choices deep_stat deep_block deep_arms deep_step deep_other
deep_of_binary ts i op a c = nests.nest_binary ts i op a c

pub asked_of_binary : (ts : List Token) (i : ℕ) (op : BinOp) (a c : Expr) → asked (expr_at ts i (expr.Binary op a c)) ≡ asked a ++ asked c
unfolding asked asked_list asked_field asked_fields asked_choices asked_stat asked_block asked_arms asked_step asked_other
asked_of_binary ts i op a c = calls.calls_binary ts i op a c

pub deep_of_concat : (ts : List Token) (i : ℕ) (es : List Expr) → deep (expr_at ts i (expr.Concat es)) ≡ suc (deep_list es)
unfolding deep deep_list deep_field deep_fields deep_choices deep_stat deep_block deep_arms deep_step deep_other
deep_of_concat ts i es = nests.nest_concat ts i es

pub asked_of_concat : (ts : List Token) (i : ℕ) (es : List Expr) → asked (expr_at ts i (expr.Concat es)) ≡ asked_list es
unfolding asked asked_list asked_field asked_fields asked_choices asked_stat asked_block asked_arms asked_step asked_other
asked_of_concat ts i es = calls.calls_concat ts i es

pub deep_of_index : (ts : List Token) (i : ℕ) (a key : Expr) → deep (expr_at ts i (expr.Index a key)) ≡ suc (max (deep a) (deep key))
unfolding deep deep_list deep_field deep_fields deep_choices deep_stat deep_block deep_arms deep_step deep_other
deep_of_index ts i a key = nests.nest_index ts i a key

pub asked_of_index : (ts : List Token) (i : ℕ) (a key : Expr) → asked (expr_at ts i (expr.Index a key)) ≡ asked a ++ asked key
unfolding asked asked_list asked_field asked_fields asked_choices asked_stat asked_block asked_arms asked_step asked_other
asked_of_index ts i a key = calls.calls_index ts i a key

pub deep_of_member : (ts : List Token) (i : ℕ) (a : Expr) (x : StrId) → deep (expr_at ts i (expr.Member a x)) ≡ suc (deep a)
unfolding deep deep_list deep_field deep_fields deep_choices deep_stat deep_block deep_arms deep_step deep_other
deep_of_member ts i a x = nests.nest_member ts i a x

pub asked_of_member : (ts : List Token) (i : ℕ) (a : Expr) (x : StrId) → asked (expr_at ts i (expr.Member a x)) ≡ asked a
unfolding asked asked_list asked_field asked_fields asked_choices asked_stat asked_block asked_arms asked_step asked_other
asked_of_member ts i a x = calls.calls_member ts i a x

pub deep_of_call : (ts : List Token) (b i : ℕ) (a : Expr) (args : List Expr)
    → deep (call_at ts b i (expr.Call a args)) ≡ suc (max (deep a) (deep_list args))
unfolding deep deep_list deep_field deep_fields deep_choices deep_stat deep_block deep_arms deep_step deep_other
deep_of_call ts b i a args = nests.nest_call ts b i a args

pub asked_of_call : (ts : List Token) (b i : ℕ) (a : Expr) (args : List Expr)
    → asked (call_at ts b i (expr.Call a args)) ≡ i ∷ asked a ++ asked_list args
unfolding asked asked_list asked_field asked_fields asked_choices asked_stat asked_block asked_arms asked_step asked_other
asked_of_call ts b i a args = calls.calls_call ts b i a args

pub deep_of_method : (ts : List Token) (b i : ℕ) (a : Expr) (x : StrId) (args : List Expr)
    → deep (call_at ts b i (expr.Method a x args)) ≡ suc (max (deep a) (deep_list args))
unfolding deep deep_list deep_field deep_fields deep_choices deep_stat deep_block deep_arms deep_step deep_other
deep_of_method ts b i a x args = nests.nest_method ts b i a x args

pub asked_of_method : (ts : List Token) (b i : ℕ) (a : Expr) (x : StrId) (args : List Expr)
    → asked (call_at ts b i (expr.Method a x args)) ≡ i ∷ asked a ++ asked_list args
unfolding asked asked_list asked_field asked_fields asked_choices asked_stat asked_block asked_arms asked_step asked_other
asked_of_method ts b i a x args = calls.calls_method ts b i a x args

pub deep_of_table : (ts : List Token) (i : ℕ) (fs : List Field) → deep (expr_at ts i (expr.Table fs)) ≡ suc (deep_fields fs)
unfolding deep deep_list deep_field deep_fields deep_choices deep_stat deep_block deep_arms deep_step deep_other
deep_of_table ts i fs = nests.nest_table ts i fs

pub asked_of_table : (ts : List Token) (i : ℕ) (fs : List Field) → asked (expr_at ts i (expr.Table fs)) ≡ asked_fields fs
unfolding asked asked_list asked_field asked_fields asked_choices asked_stat asked_block asked_arms asked_step asked_other
asked_of_table ts i fs = calls.calls_table ts i fs

pub deep_of_function : (ts : List Token) (i : ℕ) (xs : List StrId) (v : Bool) (block : List Stat)
    → deep (expr_at ts i (expr.Function (function_at ts i xs v block))) ≡ suc (deep_block block)
unfolding deep deep_list deep_field deep_fields deep_choices deep_stat deep_block deep_arms deep_step deep_other
deep_of_function ts i xs v block = nests.nest_function ts i (function_at ts i xs v block) ∙ ap suc
    (nests.nest_function_at ts i xs v block)

pub asked_of_function : (ts : List Token) (i : ℕ) (xs : List StrId) (v : Bool) (block : List Stat)
    → asked (expr_at ts i (expr.Function (function_at ts i xs v block))) ≡ asked_block block
unfolding asked asked_list asked_field asked_fields asked_choices asked_stat asked_block asked_arms asked_step asked_other
asked_of_function ts i xs v block = calls.calls_function ts i (function_at ts i xs v block) ∙ calls.calls_function_at ts i xs v block

pub deep_of_choice : (ts : List Token) (i : ℕ) (arms : List ExprArm) (other : Expr)
    → deep (expr_at ts i (expr.If arms other)) ≡ suc (max (deep_choices arms) (deep other))
unfolding deep deep_list deep_field deep_fields deep_choices deep_stat deep_block deep_arms deep_step deep_other
deep_of_choice ts i arms other = nests.nest_choice ts i arms other

pub asked_of_choice : (ts : List Token) (i : ℕ) (arms : List ExprArm) (other : Expr)
    → asked (expr_at ts i (expr.If arms other)) ≡ asked_choices arms ++ asked other
unfolding asked asked_list asked_field asked_fields asked_choices asked_stat asked_block asked_arms asked_step asked_other
asked_of_choice ts i arms other = calls.calls_choice ts i arms other

pub deep_of_interp : (ts : List Token) (i : ℕ) (xs : List StrId) (es : List Expr)
    → deep (expr_at ts i (expr.Interp xs es)) ≡ suc (deep_list es)
unfolding deep deep_list deep_field deep_fields deep_choices deep_stat deep_block deep_arms deep_step deep_other
deep_of_interp ts i xs es = nests.nest_interp ts i xs es

pub asked_of_interp : (ts : List Token) (i : ℕ) (xs : List StrId) (es : List Expr)
    → asked (expr_at ts i (expr.Interp xs es)) ≡ asked_list es
unfolding asked asked_list asked_field asked_fields asked_choices asked_stat asked_block asked_arms asked_step asked_other
asked_of_interp ts i xs es = calls.calls_interp ts i xs es

pub deep_of_item : (ts : List Token) (i : ℕ) (e : Expr) → deep_field (field_at ts i (field.Item e)) ≡ deep e
unfolding deep deep_list deep_field deep_fields deep_choices deep_stat deep_block deep_arms deep_step deep_other
deep_of_item ts i e = nests.nest_item ts i e

pub asked_of_item : (ts : List Token) (i : ℕ) (e : Expr) → asked_field (field_at ts i (field.Item e)) ≡ asked e
unfolding asked asked_list asked_field asked_fields asked_choices asked_stat asked_block asked_arms asked_step asked_other
asked_of_item ts i e = calls.calls_item ts i e

pub deep_of_named : (ts : List Token) (i : ℕ) (x : StrId) (e : Expr) → deep_field (field_at ts i (field.Named x e)) ≡ deep e
unfolding deep deep_list deep_field deep_fields deep_choices deep_stat deep_block deep_arms deep_step deep_other
deep_of_named ts i x e = nests.nest_named ts i x e

pub asked_of_named : (ts : List Token) (i : ℕ) (x : StrId) (e : Expr) → asked_field (field_at ts i (field.Named x e)) ≡ asked e
unfolding asked asked_list asked_field asked_fields asked_choices asked_stat asked_block asked_arms asked_step asked_other
asked_of_named ts i x e = calls.calls_named ts i x e

pub deep_of_keyed : (ts : List Token) (i : ℕ) (a c : Expr) → deep_field (field_at ts i (field.Keyed a c)) ≡ max (deep a) (deep c)
unfolding deep deep_list deep_field deep_fields deep_choices deep_stat deep_block deep_arms deep_step deep_other
deep_of_keyed ts i a c = nests.nest_keyed ts i a c

pub asked_of_keyed : (ts : List Token) (i : ℕ) (a c : Expr) → asked_field (field_at ts i (field.Keyed a c)) ≡ asked a ++ asked c
unfolding asked asked_list asked_field asked_fields asked_choices asked_stat asked_block asked_arms asked_step asked_other
asked_of_keyed ts i a c = calls.calls_keyed ts i a c

pub deep_of_local : (ts : List Token) (i : ℕ) (xs : List StrId) (es : List Expr)
    → deep_stat (stat_at ts i (stat.Local xs es)) ≡ deep_list es
unfolding deep deep_list deep_field deep_fields deep_choices deep_stat deep_block deep_arms deep_step deep_other
deep_of_local ts i xs es = nests.nest_local ts i xs es

pub asked_of_local : (ts : List Token) (i : ℕ) (xs : List StrId) (es : List Expr)
    → asked_stat (stat_at ts i (stat.Local xs es)) ≡ asked_list es
unfolding asked asked_list asked_field asked_fields asked_choices asked_stat asked_block asked_arms asked_step asked_other
asked_of_local ts i xs es = calls.calls_local ts i xs es

pub deep_of_assign : (ts : List Token) (i : ℕ) (es vs : List Expr)
    → deep_stat (stat_at ts i (stat.Assign es vs)) ≡ max (deep_list es) (deep_list vs)
unfolding deep deep_list deep_field deep_fields deep_choices deep_stat deep_block deep_arms deep_step deep_other
deep_of_assign ts i es vs = nests.nest_assign ts i es vs

pub asked_of_assign : (ts : List Token) (i : ℕ) (es vs : List Expr)
    → asked_stat (stat_at ts i (stat.Assign es vs)) ≡ asked_list es ++ asked_list vs
unfolding asked asked_list asked_field asked_fields asked_choices asked_stat asked_block asked_arms asked_step asked_other
asked_of_assign ts i es vs = calls.calls_assign ts i es vs

pub deep_of_compound : (ts : List Token) (i : ℕ) (op : BinOp) (e v : Expr)
    → deep_stat (stat_at ts i (stat.Compound op e v)) ≡ max (deep e) (deep v)
unfolding deep deep_list deep_field deep_fields deep_choices deep_stat deep_block deep_arms deep_step deep_other
deep_of_compound ts i op e v = nests.nest_compound ts i op e v

pub asked_of_compound : (ts : List Token) (i : ℕ) (op : BinOp) (e v : Expr)
    → asked_stat (stat_at ts i (stat.Compound op e v)) ≡ asked e ++ asked v
unfolding asked asked_list asked_field asked_fields asked_choices asked_stat asked_block asked_arms asked_step asked_other
asked_of_compound ts i op e v = calls.calls_compound ts i op e v

pub deep_of_call_stat : (ts : List Token) (i : ℕ) (e : Expr) → deep_stat (stat_at ts i (stat.Call e)) ≡ deep e
unfolding deep deep_list deep_field deep_fields deep_choices deep_stat deep_block deep_arms deep_step deep_other
deep_of_call_stat ts i e = nests.nest_call_stat ts i e

pub asked_of_call_stat : (ts : List Token) (i : ℕ) (e : Expr) → asked_stat (stat_at ts i (stat.Call e)) ≡ asked e
unfolding asked asked_list asked_field asked_fields asked_choices asked_stat asked_block asked_arms asked_step asked_other
asked_of_call_stat ts i e = calls.calls_call_stat ts i e

pub deep_of_do : (ts : List Token) (i : ℕ) (block : List Stat) → deep_stat (stat_at ts i (stat.Do block)) ≡ suc (deep_block block)
unfolding deep deep_list deep_field deep_fields deep_choices deep_stat deep_block deep_arms deep_step deep_other
deep_of_do ts i block = nests.nest_do ts i block

pub asked_of_do : (ts : List Token) (i : ℕ) (block : List Stat) → asked_stat (stat_at ts i (stat.Do block)) ≡ asked_block block
unfolding asked asked_list asked_field asked_fields asked_choices asked_stat asked_block asked_arms asked_step asked_other
asked_of_do ts i block = calls.calls_do ts i block

pub deep_of_while : (ts : List Token) (i : ℕ) (c : Expr) (block : List Stat)
    → deep_stat (stat_at ts i (stat.While c block)) ≡ suc (max (deep c) (deep_block block))
unfolding deep deep_list deep_field deep_fields deep_choices deep_stat deep_block deep_arms deep_step deep_other
deep_of_while ts i c block = nests.nest_while ts i c block

pub asked_of_while : (ts : List Token) (i : ℕ) (c : Expr) (block : List Stat)
    → asked_stat (stat_at ts i (stat.While c block)) ≡ asked c ++ asked_block block
unfolding asked asked_list asked_field asked_fields asked_choices asked_stat asked_block asked_arms asked_step asked_other
asked_of_while ts i c block = calls.calls_while ts i c block

pub deep_of_repeat : (ts : List Token) (i : ℕ) (block : List Stat) (c : Expr)
    → deep_stat (stat_at ts i (stat.Repeat block c)) ≡ suc (max (deep_block block) (deep c))
unfolding deep deep_list deep_field deep_fields deep_choices deep_stat deep_block deep_arms deep_step deep_other
deep_of_repeat ts i block c = nests.nest_repeat ts i block c

pub asked_of_repeat : (ts : List Token) (i : ℕ) (block : List Stat) (c : Expr)
    → asked_stat (stat_at ts i (stat.Repeat block c)) ≡ asked_block block ++ asked c
unfolding asked asked_list asked_field asked_fields asked_choices asked_stat asked_block asked_arms asked_step asked_other
asked_of_repeat ts i block c = calls.calls_repeat ts i block c

pub deep_of_if : (ts : List Token) (i : ℕ) (arms : List Arm) (other : Option (List Stat))
    → deep_stat (stat_at ts i (stat.If arms other)) ≡ suc (max (deep_arms arms) (deep_other other))
unfolding deep deep_list deep_field deep_fields deep_choices deep_stat deep_block deep_arms deep_step deep_other
deep_of_if ts i arms other = nests.nest_if ts i arms other

pub asked_of_if : (ts : List Token) (i : ℕ) (arms : List Arm) (other : Option (List Stat))
    → asked_stat (stat_at ts i (stat.If arms other)) ≡ asked_arms arms ++ asked_other other
unfolding asked asked_list asked_field asked_fields asked_choices asked_stat asked_block asked_arms asked_step asked_other
asked_of_if ts i arms other = calls.calls_if ts i arms other

pub deep_of_num_for : (ts : List Token) (i : ℕ) (x : StrId) (start limit : Expr) (step : Option Expr) (block : List Stat)
    → deep_stat (stat_at ts i (stat.NumFor x start limit step block)) ≡ suc
    (max (max (deep start) (deep limit)) (max (deep_step step) (deep_block block)))
unfolding deep deep_list deep_field deep_fields deep_choices deep_stat deep_block deep_arms deep_step deep_other
deep_of_num_for ts i x start limit step block = nests.nest_num_for ts i x start limit step block

pub asked_of_num_for : (ts : List Token) (i : ℕ) (x : StrId) (start limit : Expr) (step : Option Expr) (block : List Stat)
    → asked_stat (stat_at ts i (stat.NumFor x start limit step block)) ≡ asked start ++ asked limit ++ asked_step step ++ asked_block
    block
unfolding asked asked_list asked_field asked_fields asked_choices asked_stat asked_block asked_arms asked_step asked_other
asked_of_num_for ts i x start limit step block = calls.calls_num_for ts i x start limit step block

pub deep_of_gen_for : (ts : List Token) (i : ℕ) (xs : List StrId) (es : List Expr) (block : List Stat)
    → deep_stat (stat_at ts i (stat.GenFor xs es block)) ≡ suc (max (deep_list es) (deep_block block))
unfolding deep deep_list deep_field deep_fields deep_choices deep_stat deep_block deep_arms deep_step deep_other
deep_of_gen_for ts i xs es block = nests.nest_gen_for ts i xs es block

pub asked_of_gen_for : (ts : List Token) (i : ℕ) (xs : List StrId) (es : List Expr) (block : List Stat)
    → asked_stat (stat_at ts i (stat.GenFor xs es block)) ≡ asked_list es ++ asked_block block
unfolding asked asked_list asked_field asked_fields asked_choices asked_stat asked_block asked_arms asked_step asked_other
asked_of_gen_for ts i xs es block = calls.calls_gen_for ts i xs es block

pub deep_of_local_function : (ts : List Token) (i : ℕ) (j : ℕ) (x : StrId) (xs : List StrId) (v : Bool) (block : List Stat)
    → deep_stat (stat_at ts i (stat.LocalFunction x (function_at ts j xs v block))) ≡ suc (deep_block block)
unfolding deep deep_list deep_field deep_fields deep_choices deep_stat deep_block deep_arms deep_step deep_other
deep_of_local_function ts i j x xs v block = nests.nest_local_function ts i x (function_at ts j xs v block) ∙ ap suc
    (nests.nest_function_at ts j xs v block)

pub asked_of_local_function : (ts : List Token) (i : ℕ) (j : ℕ) (x : StrId) (xs : List StrId) (v : Bool) (block : List Stat)
    → asked_stat (stat_at ts i (stat.LocalFunction x (function_at ts j xs v block))) ≡ asked_block block
unfolding asked asked_list asked_field asked_fields asked_choices asked_stat asked_block asked_arms asked_step asked_other
asked_of_local_function ts i j x xs v block = calls.calls_local_function ts i x (function_at ts j xs v block) ∙ calls.calls_function_at
    ts j xs v block

pub deep_of_return : (ts : List Token) (i : ℕ) (es : List Expr) → deep_stat (stat_at ts i (stat.Return es)) ≡ deep_list es
unfolding deep deep_list deep_field deep_fields deep_choices deep_stat deep_block deep_arms deep_step deep_other
deep_of_return ts i es = nests.nest_return ts i es

pub asked_of_return : (ts : List Token) (i : ℕ) (es : List Expr) → asked_stat (stat_at ts i (stat.Return es)) ≡ asked_list es
unfolding asked asked_list asked_field asked_fields asked_choices asked_stat asked_block asked_arms asked_step asked_other
asked_of_return ts i es = calls.calls_return ts i es

pub deep_of_break : (ts : List Token) (i : ℕ) → deep_stat (stat_at ts i stat.Break) ≡ 0
unfolding deep deep_list deep_field deep_fields deep_choices deep_stat deep_block deep_arms deep_step deep_other
deep_of_break ts i = nests.nest_break ts i

pub asked_of_break : (ts : List Token) (i : ℕ) → asked_stat (stat_at ts i stat.Break) ≡ []
unfolding asked asked_list asked_field asked_fields asked_choices asked_stat asked_block asked_arms asked_step asked_other
asked_of_break ts i = calls.calls_break ts i

pub deep_of_continue : (ts : List Token) (i : ℕ) → deep_stat (stat_at ts i stat.Continue) ≡ 0
unfolding deep deep_list deep_field deep_fields deep_choices deep_stat deep_block deep_arms deep_step deep_other
deep_of_continue ts i = nests.nest_continue ts i

pub asked_of_continue : (ts : List Token) (i : ℕ) → asked_stat (stat_at ts i stat.Continue) ≡ []
unfolding asked asked_list asked_field asked_fields asked_choices asked_stat asked_block asked_arms asked_step asked_other
asked_of_continue ts i = calls.calls_continue ts i

pub asked_of_literal : (t : Option TokenKind) (ts : List Token) (i : ℕ) (k : ExprKind) → literal_of t ≡ Some k
    → asked (expr_at ts i k) ≡ []
unfolding asked asked_list asked_field asked_fields asked_choices asked_stat asked_block asked_arms asked_step asked_other
asked_of_literal t ts i k h = calls.calls_literal t ts i k h

pub deep_of_literal : (t : Option TokenKind) (ts : List Token) (i : ℕ) (k : ExprKind) → literal_of t ≡ Some k → beginning t ≡ begins.Leaf
    → deep (expr_at ts i k) ≡ 0
unfolding deep deep_list deep_field deep_fields deep_choices deep_stat deep_block deep_arms deep_step deep_other
deep_of_literal = nests.nest_literal

pub deep_of_whole : (t : Option TokenKind) (ts : List Token) (i : ℕ) (k : ExprKind) → literal_of t ≡ Some k → beginning t ≡ begins.Whole
    → deep (expr_at ts i k) ≡ 1
unfolding deep deep_list deep_field deep_fields deep_choices deep_stat deep_block deep_arms deep_step deep_other
deep_of_whole = nests.nest_whole

-- ---- lists of parts

pub deep_of_no_list : deep_list [] ≡ 0
unfolding deep deep_list deep_field deep_fields deep_choices deep_stat deep_block deep_arms deep_step deep_other
deep_of_no_list = refl

pub asked_of_no_list : asked_list [] ≡ []
unfolding asked asked_list asked_field asked_fields asked_choices asked_stat asked_block asked_arms asked_step asked_other
asked_of_no_list = refl

pub deep_of_more_list : (x : Expr) (xs : List Expr) → deep_list (x ∷ xs) ≡ max (deep x) (deep_list xs)
unfolding deep deep_list deep_field deep_fields deep_choices deep_stat deep_block deep_arms deep_step deep_other
deep_of_more_list x xs = refl

pub asked_of_more_list : (x : Expr) (xs : List Expr) → asked_list (x ∷ xs) ≡ asked x ++ asked_list xs
unfolding asked asked_list asked_field asked_fields asked_choices asked_stat asked_block asked_arms asked_step asked_other
asked_of_more_list x xs = refl

pub deep_of_no_fields : deep_fields [] ≡ 0
unfolding deep deep_list deep_field deep_fields deep_choices deep_stat deep_block deep_arms deep_step deep_other
deep_of_no_fields = refl

pub asked_of_no_fields : asked_fields [] ≡ []
unfolding asked asked_list asked_field asked_fields asked_choices asked_stat asked_block asked_arms asked_step asked_other
asked_of_no_fields = refl

pub deep_of_more_fields : (x : Field) (xs : List Field) → deep_fields (x ∷ xs) ≡ max (deep_field x) (deep_fields xs)
unfolding deep deep_list deep_field deep_fields deep_choices deep_stat deep_block deep_arms deep_step deep_other
deep_of_more_fields x xs = refl

pub asked_of_more_fields : (x : Field) (xs : List Field) → asked_fields (x ∷ xs) ≡ asked_field x ++ asked_fields xs
unfolding asked asked_list asked_field asked_fields asked_choices asked_stat asked_block asked_arms asked_step asked_other
asked_of_more_fields x xs = refl

pub deep_of_no_block : deep_block [] ≡ 0
unfolding deep deep_list deep_field deep_fields deep_choices deep_stat deep_block deep_arms deep_step deep_other
deep_of_no_block = refl

pub asked_of_no_block : asked_block [] ≡ []
unfolding asked asked_list asked_field asked_fields asked_choices asked_stat asked_block asked_arms asked_step asked_other
asked_of_no_block = refl

pub deep_of_more_block : (x : Stat) (xs : List Stat) → deep_block (x ∷ xs) ≡ max (deep_stat x) (deep_block xs)
unfolding deep deep_list deep_field deep_fields deep_choices deep_stat deep_block deep_arms deep_step deep_other
deep_of_more_block x xs = refl

pub asked_of_more_block : (x : Stat) (xs : List Stat) → asked_block (x ∷ xs) ≡ asked_stat x ++ asked_block xs
unfolding asked asked_list asked_field asked_fields asked_choices asked_stat asked_block asked_arms asked_step asked_other
asked_of_more_block x xs = refl

pub deep_of_no_choices : deep_choices [] ≡ 0
unfolding deep deep_list deep_field deep_fields deep_choices deep_stat deep_block deep_arms deep_step deep_other
deep_of_no_choices = refl

pub asked_of_no_choices : asked_choices [] ≡ []
unfolding asked asked_list asked_field asked_fields asked_choices asked_stat asked_block asked_arms asked_step asked_other
asked_of_no_choices = refl

pub deep_of_more_choices : (c v : Expr) (arms : List ExprArm)
    → deep_choices (expr_arm c v ∷ arms) ≡ max (max (deep c) (deep v)) (deep_choices arms)
unfolding deep deep_list deep_field deep_fields deep_choices deep_stat deep_block deep_arms deep_step deep_other
deep_of_more_choices c v arms = ap (λ m. max m (greatest (map nest_expr_arm arms))) (nests.nest_of_expr_arm c v)

pub asked_of_more_choices : (c v : Expr) (arms : List ExprArm)
    → asked_choices (expr_arm c v ∷ arms) ≡ (asked c ++ asked v) ++ asked_choices arms
unfolding asked asked_list asked_field asked_fields asked_choices asked_stat asked_block asked_arms asked_step asked_other
asked_of_more_choices c v arms = ap (λ xs. xs ++ calls_expr_arms arms) (calls.calls_of_expr_arm c v)

pub deep_of_no_arms : deep_arms [] ≡ 0
unfolding deep deep_list deep_field deep_fields deep_choices deep_stat deep_block deep_arms deep_step deep_other
deep_of_no_arms = refl

pub asked_of_no_arms : asked_arms [] ≡ []
unfolding asked asked_list asked_field asked_fields asked_choices asked_stat asked_block asked_arms asked_step asked_other
asked_of_no_arms = refl

pub deep_of_more_arms : (c : Expr) (block : List Stat) (arms : List Arm)
    → deep_arms (arm c block ∷ arms) ≡ max (max (deep c) (deep_block block)) (deep_arms arms)
unfolding deep deep_list deep_field deep_fields deep_choices deep_stat deep_block deep_arms deep_step deep_other
deep_of_more_arms c block arms = ap (λ m. max m (greatest (map nest_arm arms))) (nests.nest_of_arm c block)

pub asked_of_more_arms : (c : Expr) (block : List Stat) (arms : List Arm)
    → asked_arms (arm c block ∷ arms) ≡ (asked c ++ asked_block block) ++ asked_arms arms
unfolding asked asked_list asked_field asked_fields asked_choices asked_stat asked_block asked_arms asked_step asked_other
asked_of_more_arms c block arms = ap (λ xs. xs ++ calls_arms arms) (calls.calls_of_arm c block)

pub deep_of_no_step : deep_step None ≡ 0
unfolding deep deep_list deep_field deep_fields deep_choices deep_stat deep_block deep_arms deep_step deep_other
deep_of_no_step = refl

pub asked_of_no_step : asked_step None ≡ []
unfolding asked asked_list asked_field asked_fields asked_choices asked_stat asked_block asked_arms asked_step asked_other
asked_of_no_step = refl

pub deep_of_a_step : (e : Expr) → deep_step (Some e) ≡ deep e
unfolding deep deep_list deep_field deep_fields deep_choices deep_stat deep_block deep_arms deep_step deep_other
deep_of_a_step e = refl

pub asked_of_a_step : (e : Expr) → asked_step (Some e) ≡ asked e
unfolding asked asked_list asked_field asked_fields asked_choices asked_stat asked_block asked_arms asked_step asked_other
asked_of_a_step e = refl

pub deep_of_no_other : deep_other None ≡ 0
unfolding deep deep_list deep_field deep_fields deep_choices deep_stat deep_block deep_arms deep_step deep_other
deep_of_no_other = refl

pub asked_of_no_other : asked_other None ≡ []
unfolding asked asked_list asked_field asked_fields asked_choices asked_stat asked_block asked_arms asked_step asked_other
asked_of_no_other = refl

pub deep_of_an_other : (block : List Stat) → deep_other (Some block) ≡ deep_block block
unfolding deep deep_list deep_field deep_fields deep_choices deep_stat deep_block deep_arms deep_step deep_other
deep_of_an_other block = refl

pub asked_of_an_other : (block : List Stat) → asked_other (Some block) ≡ asked_block block
unfolding asked asked_list asked_field asked_fields asked_choices asked_stat asked_block asked_arms asked_step asked_other
asked_of_an_other block = refl

-- ---- the whole

pub deep_main : (block : List Stat) → deep_block block ≡ nest_func (main_function block)
unfolding deep deep_list deep_field deep_fields deep_choices deep_stat deep_block deep_arms deep_step deep_other
deep_main block = sym (nests.nest_main block)

pub asked_main : (block : List Stat) → asked_block block ≡ call_places (main_function block)
unfolding asked asked_list asked_field asked_fields asked_choices asked_stat asked_block asked_arms asked_step asked_other
asked_main block = sym (calls.calls_main block) ∙ calls.calls_are_places (main_function block)
