-- Trees of the short token lists.
use Rattle.std.proofs.Common.{◌≡◌, ◌≢◌, ◌+◌, ℕ, pos, Bool, true, false, List, [], ◌∷◌, Option, Some, None, IsTrue, IsFalse, refl, sym, ap, subst, ◌∙◌, arith, true≢false}
use Rattle.byte_text.specs.declared.StrId.{StrId}
use Rattle.syntax_tree.specs.declared.token.Token.{Token}
use Rattle.syntax_tree.specs.declared.token.TokenKind.{TokenKind}
use Rattle.syntax_tree.specs.declared.token.TokenKind.TheVariants as token
use Rattle.syntax_tree.specs.declared.tree.BinOp.TheVariants as binary
use Rattle.syntax_tree.specs.declared.tree.UnOp.TheVariants as unop
use Rattle.syntax_tree.specs.declared.tree.Expr.{Expr}
use Rattle.syntax_tree.specs.declared.tree.ExprKind as expr
use Rattle.syntax_tree.specs.declared.tree.FieldKind as node
use Rattle.syntax_tree.specs.declared.tree.Stat.{Stat}
use Rattle.syntax_tree.specs.declared.tree.StatKind as stat
use Rattle.syntax_tree.specs.Places.{kind_at, is_name, Has, Lacks, taken, absent}
use Rattle.syntax_tree.specs.Types.{IsType, plain_type, last_part, part, IsAtom, literal, named, no_mark, no_member, no_arguments, no_generics, IsMarks}
use Rattle.syntax_tree.specs.Types as types
use Rattle.syntax_tree.specs.Nodes.{expr_at, call_at, stat_at, arm}
use Rattle.syntax_tree.specs.Operators.{ors, ands, comparisons, sums, products, operator, unary_operator}
use Rattle.syntax_tree.specs.Words.{literal_of, ends_last, is_continue, opens_type, self_name, continue_name, type_name, ends_block, opens_suffix}
use Rattle.syntax_tree.specs.Derivations.{IsChunk}
use Rattle.syntax_tree.specs.Grammar as grammar
use Rattle.syntax_tree.specs.Grammar.{PrefixEnd, in_target, in_call, in_paren, IsExpr, IsLevel, IsConcat, IsUnary, IsPow, IsCast, IsSimple, IsPrefix, IsStat, IsBlock, IsLast, IsArgs}
use Rattle.luau_parser.specs.Examples.{tokens, HasNone, Trees, Refusals, one, a, b, c}
use Rattle.luau_parser.specs.Examples as example

-- ---- an expression of one part, and what goes on with none

pub cast_power : {ts : List Token} {n i j : ℕ} {e : Expr} → IsCast ts n i e j → Lacks ts j token.Caret → unary_operator (kind_at ts i) ≡ None → IsUnary ts n i e j
cast_power {ts = ts} {n = n} {i = i} {j = j} {e = e} x caret first = grammar.no_unary i j e first (grammar.no_pow i j e x caret)

simple_unary : {ts : List Token} {n i j : ℕ} {e : Expr} → IsSimple ts n i e j → Lacks ts j token.DoubleColon → Lacks ts j token.Caret → unary_operator (kind_at ts i) ≡ None → IsUnary ts n i e j
simple_unary {i = i} {j = j} {e = e} x colon caret first = cast_power (grammar.no_cast i j e x colon) caret first

pub unary_products : {ts : List Token} {n i j : ℕ} {e : Expr} → IsUnary ts n i e j → operator products (kind_at ts j) ≡ None → IsLevel ts n products i e j
unary_products {i = i} {j = j} {e = e} x h = grammar.level products i j j e e (grammar.product_operand i j e x) (grammar.no_operation products i j e h)

pub products_sums : {ts : List Token} {n i j : ℕ} {e : Expr} → IsLevel ts n products i e j → operator sums (kind_at ts j) ≡ None → IsLevel ts n sums i e j
products_sums {i = i} {j = j} {e = e} x h = grammar.level sums i j j e e (grammar.sum_operand i j e x) (grammar.no_operation sums i j e h)

concat_expr : {ts : List Token} {n i j : ℕ} {e : Expr} → IsConcat ts n i e j → operator comparisons (kind_at ts j) ≡ None → operator ands (kind_at ts j) ≡ None → operator ors (kind_at ts j) ≡ None → IsExpr ts n i e j
concat_expr {i = i} {j = j} {e = e} x h g f =
    grammar.expression i j e (grammar.level ors i j j e e (grammar.or_operand i j e
    (grammar.level ands i j j e e (grammar.and_operand i j e
    (grammar.level comparisons i j j e e (grammar.comparison_operand i j e x) (grammar.no_operation comparisons i j e h))) (grammar.no_operation ands i j e g))) (grammar.no_operation ors i j e f))

pub sums_expr : {ts : List Token} {n i j : ℕ} {e : Expr} → IsLevel ts n sums i e j → Lacks ts j token.DoubleDot → operator comparisons (kind_at ts j) ≡ None → operator ands (kind_at ts j) ≡ None → operator ors (kind_at ts j) ≡ None → IsExpr ts n i e j
sums_expr {i = i} {j = j} {e = e} x dots h g f = concat_expr (grammar.no_concat i j e x dots) h g f

abbrev ends : Option TokenKind → Bool
ends None = true
ends (Some token.End) = true
ends (Some token.Then) = true
ends (Some token.CloseParen) = true
ends (Some token.CloseBrace) = true
ends (Some token.Equal) = true
ends (Some _) = false

ending : (o : Option TokenKind) → IsTrue (ends o) → (operator products o ≡ None) × (operator sums o ≡ None) × (operator comparisons o ≡ None) × (operator ands o ≡ None) × (operator ors o ≡ None) × (o ≢ Some token.DoubleDot) × (o ≢ Some token.Caret) × (o ≢ Some token.DoubleColon) × (o ≢ Some token.Comma)
ending None h = (refl, refl, refl, refl, refl, λ e. cc, λ e. cc, λ e. cc, λ e. cc)
ending (Some token.End) h = (refl, refl, refl, refl, refl, λ e. cc, λ e. cc, λ e. cc, λ e. cc)
ending (Some token.Then) h = (refl, refl, refl, refl, refl, λ e. cc, λ e. cc, λ e. cc, λ e. cc)
ending (Some token.CloseParen) h = (refl, refl, refl, refl, refl, λ e. cc, λ e. cc, λ e. cc, λ e. cc)
ending (Some token.CloseBrace) h = (refl, refl, refl, refl, refl, λ e. cc, λ e. cc, λ e. cc, λ e. cc)
ending (Some token.Equal) h = (refl, refl, refl, refl, refl, λ e. cc, λ e. cc, λ e. cc, λ e. cc)
ending (Some _) h = absurd (true≢false (sym h))

-- from a unary to the whole, where nothing goes on
whole : {ts : List Token} {n i j : ℕ} {e : Expr} → IsUnary ts n i e j → IsTrue (ends (kind_at ts j)) → IsExpr ts n i e j
whole {ts = ts} {j = j} x h =
    let s = ending (kind_at ts j) h in
    sums_expr (products_sums (unary_products x s.0) s.1) s.5 s.2 s.3 s.4

simple : {ts : List Token} {n i j : ℕ} {e : Expr} → IsSimple ts n i e j → unary_operator (kind_at ts i) ≡ None → IsTrue (ends (kind_at ts j)) → IsExpr ts n i e j
simple {ts = ts} {j = j} x first h =
    let s = ending (kind_at ts j) h in
    whole (simple_unary x s.7 s.6 first) h

-- a name alone
pub a_name : (ts : List Token) (n i : ℕ) (x : StrId) → Has ts i (token.Name x) → IsFalse (opens_suffix (kind_at ts (i + 1))) → IsPrefix ts n i (expr_at ts i (expr.Name x)) in_target (i + 1)
a_name ts n i x h g = grammar.name i (i + 1) x (expr_at ts i (expr.Name x)) in_target h (grammar.no_suffix i (i + 1) (expr_at ts i (expr.Name x)) in_target g)

pub name_simple : (ts : List Token) (n i : ℕ) (x : StrId) → Has ts i (token.Name x) → IsFalse (opens_suffix (kind_at ts (i + 1))) → IsSimple ts n i (expr_at ts i (expr.Name x)) (i + 1)
name_simple ts n i x h g = grammar.prefix i (i + 1) (expr_at ts i (expr.Name x)) in_target (a_name ts n i x h g)

name_unary : (ts : List Token) (n i : ℕ) (x : StrId) → Has ts i (token.Name x) → IsFalse (opens_suffix (kind_at ts (i + 1))) → Lacks ts (i + 1) token.DoubleColon → Lacks ts (i + 1) token.Caret → IsUnary ts n i (expr_at ts i (expr.Name x)) (i + 1)
name_unary ts n i x h g colon caret = simple_unary (name_simple ts n i x h g) colon caret (ap unary_operator h)

pub name_expr : (ts : List Token) (n i : ℕ) (x : StrId) → Has ts i (token.Name x) → IsFalse (opens_suffix (kind_at ts (i + 1))) → IsTrue (ends (kind_at ts (i + 1))) → IsExpr ts n i (expr_at ts i (expr.Name x)) (i + 1)
name_expr ts n i x h g e = simple (name_simple ts n i x h g) (ap unary_operator h) e

one_expr : (ts : List Token) (n i : ℕ) → Has ts i one → IsTrue (ends (kind_at ts (i + 1))) → IsExpr ts n i (expr_at ts i (expr.Num (pos 1))) (i + 1)
one_expr ts n i h e = simple (grammar.literal i (expr.Num (pos 1)) (ap literal_of h)) (ap unary_operator h) e

list_of_one : (ts : List Token) (n i j : ℕ) (e : Expr) → IsExpr ts n i e j → Lacks ts j token.Comma → grammar.IsList ts n i (e ∷ []) j
list_of_one ts n i j e x h = grammar.last_expr i j e x h

-- a call without arguments
pub a_call : (ts : List Token) (n i : ℕ) (x : StrId) → Has ts i (token.Name x) → Has ts (i + 1) token.OpenParen → Has ts (i + 2) token.CloseParen → (k : ℕ) → k ≡ i + 3 → IsFalse (opens_suffix (kind_at ts k)) → i + 1 + 2 ≡ k → IsPrefix ts n i (call_at ts i (i + 1) (expr.Call (expr_at ts i (expr.Name x)) [])) in_call k
a_call ts n i x h g f k e s d =
    grammar.name i k x (call_at ts i (i + 1) (expr.Call (expr_at ts i (expr.Name x)) [])) in_call h
    (grammar.call i (i + 1) k k [] (expr_at ts i (expr.Name x)) (call_at ts i (i + 1) (expr.Call (expr_at ts i (expr.Name x)) [])) in_target in_call
    (subst (λ (x : ℕ). IsArgs ts n (i + 1) [] x) d (grammar.no_args (i + 1) g (subst (λ (x : ℕ). Has ts x token.CloseParen) (omega arith) f)))
    (grammar.no_suffix i k (call_at ts i (i + 1) (expr.Call (expr_at ts i (expr.Name x)) [])) in_call s))

-- a statement that is the whole list
script : (ts : List Token) (j : ℕ) (s : Stat) → IsFalse (opens_type ts 0) → IsFalse (is_continue ts 0) → IsStat ts 0 0 s j → kind_at ts j ≡ None → IsChunk ts 0 (s ∷ [])
script ts j s h g x e = record {
  stop = j;
  derived = grammar.more_stats 0 j j j s [] h g x (absent j (λ there. (let both : None ≡ Some token.Semicolon = sym e ∙ there in absurd cc))) (grammar.no_stat j (ap ends_block e));
  whole = e;
}

returned : (ts : List Token) (j : ℕ) (e : Expr) → Has ts 0 token.Return → IsFalse (ends_last ts 1) → IsExpr ts 0 1 e j → kind_at ts j ≡ None → IsChunk ts 0 (stat_at ts 0 (stat.Return (e ∷ [])) ∷ [])
returned ts j e h g x w = record {
  stop = j;
  derived = grammar.last_stat 0 j j (stat_at ts 0 (stat.Return (e ∷ []))) (grammar.return 0 j (e ∷ []) h g (grammar.last_expr 1 j e x (λ there. (let both : None ≡ Some token.Comma = sym w ∙ there in absurd cc)))) (absent j (λ there. (let both : None ≡ Some token.Semicolon = sym w ∙ there in absurd cc))) (ap ends_block w);
  whole = w;
}

-- ---- the examples

nothing : example.Has [] []
nothing = record { stop = 0; derived = grammar.no_stat 0 refl; whole = refl }

abbrev do_tokens : List Token
do_tokens = tokens (token.Do ∷ token.End ∷ [])

do_end : example.Has (token.Do ∷ token.End ∷ []) (example.stat_node 0 (stat.Do []) ∷ [])
do_end = script do_tokens 2 (stat_at do_tokens 0 (stat.Do [])) refl refl (grammar.do_stat 0 1 [] refl (grammar.no_stat 1 refl) refl) refl

abbrev assign_tokens : List Token
assign_tokens = tokens (token.Name a ∷ token.Equal ∷ one ∷ [])

assign : example.Has (token.Name a ∷ token.Equal ∷ one ∷ []) (example.stat_node 0 (stat.Assign (example.name 0 a ∷ []) (example.number 2 ∷ [])) ∷ [])
assign =
    let ts = assign_tokens in
    script ts 3 (stat_at ts 0 (stat.Assign (example.name 0 a ∷ []) (example.number 2 ∷ []))) refl refl
    (grammar.assign 0 1 3 (example.name 0 a ∷ []) (example.number 2 ∷ []) (grammar.last_target 0 1 (example.name 0 a) (a_name ts 0 0 a refl refl) (λ e. cc)) refl
    (grammar.last_expr 2 3 (example.number 2) (one_expr ts 0 2 refl refl) (λ e. cc))) refl

abbrev compound_tokens : List Token
compound_tokens = tokens (token.Name a ∷ token.PlusEqual ∷ one ∷ [])

compound : example.Has (token.Name a ∷ token.PlusEqual ∷ one ∷ []) (example.stat_node 0 (stat.Compound binary.Add (example.name 0 a) (example.number 2)) ∷ [])
compound =
    let ts = compound_tokens in
    script ts 3 (stat_at ts 0 (stat.Compound binary.Add (example.name 0 a) (example.number 2))) refl refl
    (grammar.compound 0 1 3 binary.Add (example.name 0 a) (example.number 2) (a_name ts 0 0 a refl refl) refl (one_expr ts 0 2 refl refl)) refl

abbrev call_tokens : List Token
call_tokens = tokens (token.Name a ∷ token.OpenParen ∷ token.CloseParen ∷ [])

called : example.Has (token.Name a ∷ token.OpenParen ∷ token.CloseParen ∷ []) (example.stat_node 0 (stat.Call (example.call 0 1 (expr.Call (example.name 0 a) []))) ∷ [])
called =
    let ts = call_tokens in
    script ts 3 (stat_at ts 0 (stat.Call (example.call 0 1 (expr.Call (example.name 0 a) [])))) refl refl
    (grammar.call_stat 0 3 (example.call 0 1 (expr.Call (example.name 0 a) [])) (a_call ts 0 0 a refl refl refl 3 refl refl refl)) refl

abbrev local_tokens : List Token
local_tokens = tokens (token.Local ∷ token.Name a ∷ [])

local : example.Has (token.Local ∷ token.Name a ∷ []) (example.stat_node 0 (stat.Local (a ∷ []) []) ∷ [])
local =
    let ts = local_tokens in
    script ts 2 (stat_at ts 0 (stat.Local (a ∷ []) [])) refl refl
    (grammar.bare_local 0 2 (a ∷ []) refl (grammar.last_bind 1 2 a (grammar.bind 1 2 a refl (grammar.untyped 2 (λ e. cc))) (λ e. cc)) (λ e. cc)) refl

abbrev break_tokens : List Token
break_tokens = tokens (token.Break ∷ token.Semicolon ∷ [])

break : example.Has (token.Break ∷ token.Semicolon ∷ []) (example.stat_node 0 stat.Break ∷ [])
break = record { stop = 2; derived = grammar.last_stat 0 1 2 (stat_at break_tokens 0 stat.Break) (grammar.break 0 refl) (taken 1 refl) refl; whole = refl }

abbrev continue_tokens : List Token
continue_tokens = tokens (token.Name continue_name ∷ [])

continue : example.Has (token.Name continue_name ∷ []) (example.stat_node 0 stat.Continue ∷ [])
continue = record { stop = 1; derived = grammar.last_stat 0 1 1 (stat_at continue_tokens 0 stat.Continue) (grammar.continue 0 refl) (absent 1 (λ e. cc)) refl; whole = refl }

abbrev continue_call : List Token
continue_call = tokens (token.Name continue_name ∷ token.OpenParen ∷ token.CloseParen ∷ [])

continue_called : example.Has (token.Name continue_name ∷ token.OpenParen ∷ token.CloseParen ∷ []) (example.stat_node 0 (stat.Call (example.call 0 1 (expr.Call (example.name 0 continue_name) []))) ∷ [])
continue_called =
    let ts = continue_call in
    script ts 3 (stat_at ts 0 (stat.Call (example.call 0 1 (expr.Call (example.name 0 continue_name) [])))) refl refl
    (grammar.call_stat 0 3 (example.call 0 1 (expr.Call (example.name 0 continue_name) [])) (a_call ts 0 0 continue_name refl refl refl 3 refl refl refl)) refl

abbrev type_tokens : List Token
type_tokens = tokens (token.Name type_name ∷ token.Name a ∷ token.Equal ∷ token.Nil ∷ [])

type_stat : example.Has (token.Name type_name ∷ token.Name a ∷ token.Equal ∷ token.Nil ∷ []) []
type_stat = record {
  stop = 4;
  derived = grammar.typing_stat 0 4 4 4 [] refl
      (grammar.private_type 0 4 refl (grammar.type_definition 1 2 4 a refl (types.no_generics 0 2 (λ e. cc)) refl
      (types.plain_type 0 3 4 refl (types.last_part 0 3 4 (types.part 0 3 4 4 (types.literal 0 3 refl) (types.no_mark 4 (λ e. cc))) refl))))
      (absent 4 (λ e. cc)) (grammar.no_stat 4 refl);
  whole = refl;
}

abbrev levels_tokens : List Token
levels_tokens = tokens (token.Return ∷ token.Name a ∷ token.Plus ∷ token.Name b ∷ token.Star ∷ token.Name c ∷ [])

levels : example.Has (token.Return ∷ token.Name a ∷ token.Plus ∷ token.Name b ∷ token.Star ∷ token.Name c ∷ []) (example.returns (example.binary_node 1 binary.Add (example.name 1 a) (example.binary_node 3 binary.Mul (example.name 3 b) (example.name 5 c))))
levels =
    let ts = levels_tokens in
    let product = example.binary_node 3 binary.Mul (example.name 3 b) (example.name 5 c) in
    let all = example.binary_node 1 binary.Add (example.name 1 a) product in
    let factors : IsLevel ts 0 products 3 product 6 =
    grammar.level products 3 4 6 (example.name 3 b) product (grammar.product_operand 3 4 (example.name 3 b) (name_unary ts 0 3 b refl refl (λ e. cc) (λ e. cc)))
    (grammar.operation products 3 4 6 6 binary.Mul (example.name 3 b) (example.name 5 c) product refl (grammar.product_operand 5 6 (example.name 5 c) (name_unary ts 0 5 c refl refl (λ e. cc) (λ e. cc))) (grammar.no_operation products 3 6 product refl)) in
    let terms : IsLevel ts 0 sums 1 all 6 =
    grammar.level sums 1 2 6 (example.name 1 a) all (grammar.sum_operand 1 2 (example.name 1 a) (unary_products (name_unary ts 0 1 a refl refl (λ e. cc) (λ e. cc)) refl))
    (grammar.operation sums 1 2 6 6 binary.Add (example.name 1 a) product all refl (grammar.sum_operand 3 6 product factors) (grammar.no_operation sums 1 6 all refl)) in
    returned ts 6 all refl refl (sums_expr terms (λ e. cc) refl refl refl) refl

abbrev left_tokens : List Token
left_tokens = tokens (token.Return ∷ token.Name a ∷ token.Plus ∷ token.Name b ∷ token.Plus ∷ token.Name c ∷ [])

from_the_left : example.Has (token.Return ∷ token.Name a ∷ token.Plus ∷ token.Name b ∷ token.Plus ∷ token.Name c ∷ []) (example.returns (example.binary_node 1 binary.Add (example.binary_node 1 binary.Add (example.name 1 a) (example.name 3 b)) (example.name 5 c)))
from_the_left =
    let ts = left_tokens in
    let first = example.binary_node 1 binary.Add (example.name 1 a) (example.name 3 b) in
    let all = example.binary_node 1 binary.Add first (example.name 5 c) in
    let terms : IsLevel ts 0 sums 1 all 6 =
    grammar.level sums 1 2 6 (example.name 1 a) all (grammar.sum_operand 1 2 (example.name 1 a) (unary_products (name_unary ts 0 1 a refl refl (λ e. cc) (λ e. cc)) refl))
    (grammar.operation sums 1 2 4 6 binary.Add (example.name 1 a) (example.name 3 b) all refl (grammar.sum_operand 3 4 (example.name 3 b) (unary_products (name_unary ts 0 3 b refl refl (λ e. cc) (λ e. cc)) refl))
    (grammar.operation sums 1 4 6 6 binary.Add first (example.name 5 c) all refl (grammar.sum_operand 5 6 (example.name 5 c) (unary_products (name_unary ts 0 5 c refl refl (λ e. cc) (λ e. cc)) refl)) (grammar.no_operation sums 1 6 all refl))) in
    returned ts 6 all refl refl (sums_expr terms (λ e. cc) refl refl refl) refl

abbrev run_tokens : List Token
run_tokens = tokens (token.Return ∷ token.Name a ∷ token.DoubleDot ∷ token.Name b ∷ token.DoubleDot ∷ token.Name c ∷ [])

run : example.Has (token.Return ∷ token.Name a ∷ token.DoubleDot ∷ token.Name b ∷ token.DoubleDot ∷ token.Name c ∷ []) (example.returns (example.node 1 (expr.Concat (example.name 1 a ∷ example.name 3 b ∷ example.name 5 c ∷ []))))
run =
    let ts = run_tokens in
    let all = example.node 1 (expr.Concat (example.name 1 a ∷ example.name 3 b ∷ example.name 5 c ∷ [])) in
    let operand : (i : ℕ) (x : StrId) → IsUnary ts 0 i (expr_at ts i (expr.Name x)) (i + 1) → operator products (kind_at ts (i + 1)) ≡ None → operator sums (kind_at ts (i + 1)) ≡ None → IsLevel ts 0 sums i (expr_at ts i (expr.Name x)) (i + 1) = λ i x u h g. products_sums (unary_products u h) g in
    let joined : IsConcat ts 0 1 all 6 =
    grammar.concat 1 2 6 (example.name 1 a) (example.name 3 b ∷ example.name 5 c ∷ []) (operand 1 a (name_unary ts 0 1 a refl refl (λ e. cc) (λ e. cc)) refl refl) refl
    (grammar.more_of_run 3 4 6 (example.name 3 b) (example.name 5 c ∷ []) (operand 3 b (name_unary ts 0 3 b refl refl (λ e. cc) (λ e. cc)) refl refl) refl
    (grammar.last_of_run 5 6 (example.name 5 c) (operand 5 c (name_unary ts 0 5 c refl refl (λ e. cc) (λ e. cc)) refl refl) (λ e. cc))) in
    returned ts 6 all refl refl (concat_expr joined refl refl refl) refl

abbrev power_tokens : List Token
power_tokens = tokens (token.Return ∷ token.Minus ∷ token.Name a ∷ token.Caret ∷ token.Name b ∷ [])

minus_power : example.Has (token.Return ∷ token.Minus ∷ token.Name a ∷ token.Caret ∷ token.Name b ∷ []) (example.returns (example.node 1 (expr.Unary unop.Minus (example.binary_node 2 binary.Pow (example.name 2 a) (example.name 4 b)))))
minus_power =
    let ts = power_tokens in
    let power = example.binary_node 2 binary.Pow (example.name 2 a) (example.name 4 b) in
    let all = example.node 1 (expr.Unary unop.Minus power) in
    let raised : IsPow ts 0 2 power 5 =
    grammar.pow 2 3 5 (example.name 2 a) (example.name 4 b) (grammar.no_cast 2 3 (example.name 2 a) (name_simple ts 0 2 a refl refl) (λ e. cc)) refl (name_unary ts 0 4 b refl refl (λ e. cc) (λ e. cc)) in
    returned ts 5 all refl refl (whole (grammar.unary 1 5 unop.Minus power refl (grammar.no_unary 2 5 power refl raised)) refl) refl

abbrev cast_tokens : List Token
cast_tokens = tokens (token.Return ∷ token.Name a ∷ token.DoubleColon ∷ token.Name b ∷ [])

pub name_type : (ts : List Token) (i : ℕ) (x : StrId) → Has ts i (token.Name x) → kind_at ts (i + 1) ≡ None → IsFalse (types.opens_typeof ts i) → IsType ts 0 i (i + 1)
name_type ts i x h e f =
    types.plain_type 0 i (i + 1) (ap types.is_bar h)
    (types.last_part 0 i (i + 1) (types.part 0 i (i + 1) (i + 1) (types.named 0 i (i + 1) (i + 1) (i + 1) (ap is_name h) f (types.no_member (i + 1) (gone token.Dot)) (types.no_arguments 0 (i + 1) (gone token.Less)) (absent (i + 1) (gone token.TripleDot)))
    (types.no_mark (i + 1) (gone token.Question))) (ap types.is_bar e))
  where
    gone : (kind : TokenKind) → Lacks ts (i + 1) kind
    gone kind = λ there. let both : None ≡ Some kind = sym e ∙ there in absurd cc

cast : example.Has (token.Return ∷ token.Name a ∷ token.DoubleColon ∷ token.Name b ∷ []) (example.returns (example.node 1 (expr.Paren (example.name 1 a))))
cast =
    let ts = cast_tokens in
    let all = example.node 1 (expr.Paren (example.name 1 a)) in
    let casted : IsCast ts 0 1 all 4 = grammar.cast 1 2 4 (example.name 1 a) (name_simple ts 0 1 a refl refl) refl (name_type ts 3 b refl refl refl) in
    returned ts 4 all refl refl (whole (cast_power casted (λ e. cc) refl) refl) refl

abbrev field_tokens : List Token
field_tokens = tokens (token.Return ∷ token.OpenBrace ∷ token.Name a ∷ token.Equal ∷ one ∷ token.CloseBrace ∷ [])

named_field : example.Has (token.Return ∷ token.OpenBrace ∷ token.Name a ∷ token.Equal ∷ one ∷ token.CloseBrace ∷ []) (example.returns (example.node 1 (expr.Table (example.field_node 2 (node.Named a (example.number 4)) ∷ []))))
named_field =
    let ts = field_tokens in
    let field = example.field_node 2 (node.Named a (example.number 4)) in
    let all = example.node 1 (expr.Table (field ∷ [])) in
    let table : IsSimple ts 0 1 all 6 =
    grammar.constructor 1 6 (field ∷ []) (grammar.table 1 5 (field ∷ []) refl (grammar.last_field 2 5 field (λ e. cc) (grammar.named 2 5 a (example.number 4) refl refl (one_expr ts 0 4 refl refl)) refl) refl) in
    returned ts 6 all refl refl (simple table refl refl) refl

abbrev method_tokens : List Token
method_tokens = tokens (token.Function ∷ token.Name a ∷ token.Colon ∷ token.Name b ∷ token.OpenParen ∷ token.CloseParen ∷ token.End ∷ [])

method : example.Has (token.Function ∷ token.Name a ∷ token.Colon ∷ token.Name b ∷ token.OpenParen ∷ token.CloseParen ∷ token.End ∷ []) (example.stat_node 0 (stat.Assign (example.node 1 (expr.Member (example.name 1 a) b) ∷ []) (example.node 0 (expr.Function (example.function 0 (self_name ∷ []) false [])) ∷ [])) ∷ [])
method =
    let ts = method_tokens in
    script ts 7 (example.stat_node 0 (stat.Assign (example.node 1 (expr.Member (example.name 1 a) b) ∷ []) (example.node 0 (expr.Function (example.function 0 (self_name ∷ []) false [])) ∷ []))) refl refl
    (grammar.function_stat 0 4 7 (example.node 1 (expr.Member (example.name 1 a) b)) (self_name ∷ []) [] false [] refl
    (grammar.method_name 1 2 a b (example.name 1 a) refl (grammar.no_member 2 (example.name 1 a) (λ e. cc)) refl refl)
    (grammar.body 4 4 5 6 6 [] false [] (types.no_generics 0 4 (λ e. cc)) refl (grammar.no_params 5 refl) refl (grammar.untyped 6 (λ e. cc)) (grammar.no_stat 6 refl) refl)) refl

abbrev choice_tokens : List Token
choice_tokens = tokens (token.If ∷ token.Name a ∷ token.Then ∷ token.Else ∷ token.End ∷ [])

choice : example.Has (token.If ∷ token.Name a ∷ token.Then ∷ token.Else ∷ token.End ∷ []) (example.stat_node 0 (stat.If (arm (example.name 1 a) [] ∷ []) (Some [])) ∷ [])
choice =
    let ts = choice_tokens in
    script ts 5 (example.stat_node 0 (stat.If (arm (example.name 1 a) [] ∷ []) (Some []))) refl refl
    (grammar.if_stat 0 5 (arm (example.name 1 a) [] ∷ []) (Some []) refl
    (grammar.else_arm 1 2 3 4 (example.name 1 a) [] [] (name_expr ts 0 1 a refl refl refl) refl (grammar.no_stat 3 refl) refl (grammar.no_stat 4 refl) refl)) refl

pub trees : Trees
trees = record {
  nothing = nothing;
  do_end = do_end;
  assign = assign;
  compound = compound;
  called = called;
  local = local;
  break = break;
  continue = continue;
  continue_called = continue_called;
  type_stat = type_stat;
  levels = levels;
  from_the_left = from_the_left;
  run = run;
  minus_power = minus_power;
  cast = cast;
  named_field = named_field;
  method = method;
  choice = choice;
}
