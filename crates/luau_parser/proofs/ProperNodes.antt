-- Which nodes that the grammar makes are proper, by their parts.
use Rattle.std.proofs.Common.{◌≡◌, ℕ, suc, ◌+◌, nat_eq, Bool, true, ◌&&◌, IsTrue, List, [], ◌∷◌, map, Option, Some, None, refl, sym, ap, subst, ◌∙◌, arith}
use Rattle.std.proofs.lemmas.Bool.{eq-eqb}
use Rattle.byte_text.specs.declared.StrId.{StrId}
use Rattle.syntax_tree.specs.declared.token.Token.{Token}
use Rattle.syntax_tree.specs.declared.token.TokenKind.{TokenKind}
use Rattle.syntax_tree.specs.declared.token.TokenKind.TheVariants as token
use Rattle.syntax_tree.specs.declared.tree.BinOp.{BinOp}
use Rattle.syntax_tree.specs.declared.tree.Expr.{Expr}
use Rattle.syntax_tree.specs.declared.tree.ExprKind.{ExprKind, roll-ExprKind}
use Rattle.syntax_tree.specs.declared.tree.ExprKind as expr
use Rattle.syntax_tree.specs.declared.tree.ExprKind.TheOpen as level
use Rattle.syntax_tree.specs.declared.tree.ExprKind.TheViews as views
use Rattle.syntax_tree.specs.declared.tree.Field.{Field}
use Rattle.syntax_tree.specs.declared.tree.FieldKind.{roll-FieldKind}
use Rattle.syntax_tree.specs.declared.tree.Stat.{Stat}
use Rattle.syntax_tree.specs.declared.tree.StatKind.{roll-StatKind}
use Rattle.syntax_tree.specs.Derivations.{main_function}
use Rattle.syntax_tree.specs.Nodes.{expr_at, function_at, arm, expr_arm}
use Rattle.syntax_tree.specs.Operators.{OperatorLevel, ors, ands, comparisons, sums, products, operator, compound_operator}
use Rattle.syntax_tree.specs.Proper.{Form, all, all_proper, has_one, stands_between, computes, kind_form, field_kind_proper, stat_kind_proper, steps, form_expr, proper_stat, proper_func, proper_arm, proper_expr_arm, proper_field}
use Rattle.syntax_tree.specs.Words.{literal_of}
use Rattle.syntax_tree.specs.Grammar.{last_bind, more_binds, PrefixEnd, in_target, in_call, in_paren, IsBinds, IsMembers, IsFunctionName, no_member, more_members, function_name, method_name, expression, level, call, body}
use Rattle.luau_parser.proofs.TreeLevels as levels
use Rattle.luau_parser.proofs.TreeLevels.{ExprKindNode, FieldKindNode, StatKindNode}

-- ---- nodes by their parts

form_is : (e : Expr) (x : ExprKindNode) → roll-ExprKind x ≡ e.kind → form_expr e ≡ kind_form (levels.kind_level steps x)
form_is e x h =
    levels.expr_is steps (record { id = e.id; at = e.at; line = e.line; kind = e.kind }) ∙ ap (levels.at_kind steps) (sym h) ∙ levels.kind_is steps x

-- what holds of an expression's form, by its kind
pub form_has : (P : Form → Type 0) (e : Expr) (x : ExprKindNode) → roll-ExprKind x ≡ e.kind → P (kind_form (levels.kind_level steps x)) →
    P (form_expr e)
form_has P e x h p = subst P (sym (form_is e x h)) p

pub field_is : (f : Field) (x : FieldKindNode) → roll-FieldKind x ≡ f.kind → IsTrue (field_kind_proper (levels.field_kind_level steps x)) →
    IsTrue (proper_field f)
field_is f x h p =
    levels.field_is steps (record { at = f.at; kind = f.kind }) ∙ ap (levels.at_field_kind steps) (sym h) ∙ levels.field_kind_is steps x ∙ p

pub stat_is : (t : Stat) (x : StatKindNode) → roll-StatKind x ≡ t.kind → IsTrue (stat_kind_proper (levels.stat_kind_level steps x)) →
    IsTrue (proper_stat t)
stat_is t x h p =
    levels.stat_is steps (record { id = t.id; at = t.at; line = t.line; kind = t.kind }) ∙ ap (levels.at_stat_kind steps) (sym h)
    ∙ levels.stat_kind_is steps x ∙ p

pub arm_is : (c : Expr) (block : List Stat) → proper_arm (arm c block) ≡ (form_expr c).proper && all (map proper_stat block)
arm_is c block = levels.arm_is steps (record { cond = c; body = block })

pub expr_arm_is : (c v : Expr) → proper_expr_arm (expr_arm c v) ≡ (form_expr c).proper && (form_expr v).proper
expr_arm_is c v = levels.expr_arm_is steps (record { cond = c; value = v })

pub function_is : (ts : List Token) (i : ℕ) (xs : List StrId) (v : Bool) (block : List Stat) →
    proper_func (function_at ts i xs v block) ≡ all (map proper_stat block)
function_is ts i xs v block = levels.func_is steps _

pub main_is : (block : List Stat) → proper_func (main_function block) ≡ all (map proper_stat block)
main_is block = levels.func_is steps _

-- ---- what is to be proved of each part

abbrev pub proper : Form → Type 0
proper f = IsTrue f.proper

abbrev pub Proper : Expr → Type 0
Proper e = proper (form_expr e)

abbrev pub AllProper : List Expr → Type 0
AllProper es = IsTrue (all_proper (map form_expr es))

abbrev pub ProperBlock : List Stat → Type 0
ProperBlock block = IsTrue (all (map proper_stat block))

abbrev pub ProperStep : Option Expr → Type 0
ProperStep None = IsTrue true
ProperStep (Some e) = Proper e

abbrev pub ProperOther : Option (List Stat) → Type 0
ProperOther None = IsTrue true
ProperOther (Some block) = ProperBlock block

-- an expression that can be assigned to, a call, or any
abbrev pub ends_as : PrefixEnd → Form → Bool
ends_as in_target f = f.target
ends_as in_call f = f.calls
ends_as in_paren f = true

abbrev pub EndsAs : PrefixEnd → Form → Type 0
EndsAs d f = IsTrue f.proper × IsTrue (ends_as d f)

pub both : {a b : Bool} → IsTrue a → IsTrue b → IsTrue (a && b)
both g h = λ d. g d && h d

-- ---- operators and literals

abbrev pub between : Option BinOp → Bool
between None = true
between (Some op) = stands_between op

pub level_between : (l : OperatorLevel) (t : Option TokenKind) → IsTrue (between (operator l t))
level_between ors (Some token.Or) = refl
level_between ands (Some token.And) = refl
level_between comparisons (Some token.Less) = refl
level_between comparisons (Some token.Greater) = refl
level_between comparisons (Some token.LessEqual) = refl
level_between comparisons (Some token.GreaterEqual) = refl
level_between comparisons (Some token.NotEqual) = refl
level_between comparisons (Some token.EqualEqual) = refl
level_between sums (Some token.Plus) = refl
level_between sums (Some token.Minus) = refl
level_between products (Some token.Star) = refl
level_between products (Some token.Slash) = refl
level_between products (Some token.DoubleSlash) = refl
level_between products (Some token.Percent) = refl
level_between _ _ = refl

abbrev pub computing : Option BinOp → Bool
computing None = true
computing (Some op) = computes op

pub compound_computes : (t : Option TokenKind) → IsTrue (computing (compound_operator t))
compound_computes (Some token.PlusEqual) = refl
compound_computes (Some token.MinusEqual) = refl
compound_computes (Some token.StarEqual) = refl
compound_computes (Some token.SlashEqual) = refl
compound_computes (Some token.DoubleSlashEqual) = refl
compound_computes (Some token.PercentEqual) = refl
compound_computes (Some token.CaretEqual) = refl
compound_computes (Some token.DoubleDotEqual) = refl
compound_computes _ = refl

abbrev pub ProperKind : List Token → ℕ → Option ExprKind → Type 0
ProperKind ts i None = Unit {0}
ProperKind ts i (Some k) = Proper (expr_at ts i k)

pub proper_literal : (ts : List Token) (i : ℕ) (t : Option TokenKind) → ProperKind ts i (literal_of t)
proper_literal ts i (Some token.Nil) = form_has proper (expr_at ts i expr.Nil) level.Nil views.rolls-Nil refl
proper_literal ts i (Some token.True) = form_has proper (expr_at ts i expr.True) level.True views.rolls-True refl
proper_literal ts i (Some token.False) = form_has proper (expr_at ts i expr.False) level.False views.rolls-False refl
proper_literal ts i (Some (token.Number n)) = form_has proper (expr_at ts i (expr.Num n)) (level.Num n) (views.rolls-Num n) refl
proper_literal ts i (Some (token.Str x)) = form_has proper (expr_at ts i (expr.Str x)) (level.Str x) (views.rolls-Str x) refl
proper_literal ts i (Some token.TripleDot) = form_has proper (expr_at ts i expr.Vararg) level.Vararg views.rolls-Vararg refl
proper_literal ts i (Some (token.InterpWhole x)) =
    form_has proper (expr_at ts i (expr.Interp (x ∷ []) [])) (level.Interp (x ∷ []) []) (views.rolls-Interp (x ∷ []) []) refl
proper_literal ts i _ = tt

-- ---- names

pub name_has : (ts : List Token) (i : ℕ) (x : StrId) → EndsAs in_target (form_expr (expr_at ts i (expr.Name x)))
name_has ts i x = form_has (EndsAs in_target) (expr_at ts i (expr.Name x)) (level.Name x) (views.rolls-Name x) (refl, refl)

pub member_has : (ts : List Token) (i : ℕ) (a : Expr) (x : StrId) → Proper a → EndsAs in_target (form_expr (expr_at ts i (expr.Member a x)))
member_has ts i a x p = form_has (EndsAs in_target) (expr_at ts i (expr.Member a x)) (level.Member a x) (views.rolls-Member a x) (p, refl)

pub binds_one : {ts : List Token} {n i j : ℕ} {xs : List StrId} → IsBinds ts n i xs j → IsTrue (has_one xs)
binds_one (last_bind i j x b h) = refl
binds_one (more_binds i j k x xs b h r) = refl

pub members_end : {ts : List Token} {b i j : ℕ} {a e : Expr} → IsMembers ts b i a e j → EndsAs in_target (form_expr a) →
    EndsAs in_target (form_expr e)
members_end (no_member i a h) p = p
members_end {ts = ts} {b = b} (more_members i j x a e h g r) p = members_end r (member_has ts b a x p.0)

pub function_name_ends : {ts : List Token} {i j : ℕ} {e : Expr} {added : List StrId} → IsFunctionName ts i e added j → EndsAs in_target (form_expr e)
function_name_ends {ts = ts} (function_name i j x e h m g) = members_end m (name_has ts i x)
function_name_ends {ts = ts} (method_name i j x y e h m g k) = member_has ts i e y (members_end m (name_has ts i x)).0

-- ---- nodes that more than one part makes

pub binary_proper : (ts : List Token) (i : ℕ) (op : BinOp) (a c : Expr) → IsTrue (stands_between op) → Proper a → Proper c →
    Proper (expr_at ts i (expr.Binary op a c))
binary_proper ts i op a c so p q =
    form_has proper (expr_at ts i (expr.Binary op a c)) (level.Binary op a c) (views.rolls-Binary op a c) (both (both so p) q)

pub one_more : (m n : ℕ) → m ≡ n → IsTrue (nat_eq (suc m) (n + 1))
one_more m n e = eq-eqb (suc m) (n + 1) (omega (arith, e))

pub function_proper : (ts : List Token) (i j : ℕ) (xs : List StrId) (v : Bool) (block : List Stat) → ProperBlock block →
    Proper (expr_at ts i (expr.Function (function_at ts j xs v block)))
function_proper ts i j xs v block p =
    form_has proper (expr_at ts i (expr.Function (function_at ts j xs v block))) (level.Function (function_at ts j xs v block))
    (views.rolls-Function (function_at ts j xs v block)) (function_is ts j xs v block ∙ p)

pub table_proper : (ts : List Token) (i : ℕ) (fs : List Field) → IsTrue (all (map proper_field fs)) → Proper (expr_at ts i (expr.Table fs))
table_proper ts i fs p = form_has proper (expr_at ts i (expr.Table fs)) (level.Table fs) (views.rolls-Table fs) p
