-- What stands at the edges of expressions and prefixes, and how deep the left parts of their chains nest.
use Rattle.std.proofs.Common.{◌≡◌, ◌≢◌, ◌≤◌, ◌+◌, ℕ, true, false, List, Option, Some, None, refl, sym, ap, ◌∙◌, arith, true≢false, ◌⊎◌, inl, inr}
use Rattle.byte_text.specs.declared.StrId.{StrId}
use Rattle.syntax_tree.specs.declared.token.Token.{Token}
use Rattle.syntax_tree.specs.declared.token.TokenKind.{TokenKind}
use Rattle.syntax_tree.specs.declared.token.TokenKind.TheVariants as token
use Rattle.syntax_tree.specs.declared.tree.BinOp.{BinOp}
use Rattle.syntax_tree.specs.declared.tree.Expr.{Expr}
use Rattle.syntax_tree.specs.declared.tree.ExprKind.{ExprKind}
use Rattle.syntax_tree.specs.declared.tree.UnOp.{UnOp}
use Rattle.syntax_tree.specs.Grammar.{PrefixEnd, in_target, in_call, IsTargets, last_target, more_targets, IsExpr, expression, IsList, last_expr, more_exprs, IsLevel, level, IsOperations, no_operation, operation, IsOperand, or_operand, and_operand, comparison_operand, sum_operand, product_operand, IsConcat, no_concat, concat, IsUnary, no_unary, unary, IsPow, no_pow, pow, IsCast, no_cast, cast, IsSimple, literal, interp, function, constructor, prefix, choice, IsPrefix, name, paren, IsSuffixes, no_suffix, member, index, call, method}
use Rattle.syntax_tree.specs.Operators.{OperatorLevel, unary_operator, compound_operator}
use Rattle.syntax_tree.specs.Places.{kind_at, Has, Lacks}
use Rattle.syntax_tree.specs.Words.{is_semicolon, opens_suffix, literal_of}
use Rattle.parse_steps.specs.declared.classes.Arguments.TheVariants as argument
use Rattle.parse_steps.specs.Classes as classes
use Rattle.parse_steps.proofs.ForwardNodes.{deep, deep_of_binary, deep_of_member, deep_of_index, deep_of_call, deep_of_method}
use Rattle.parse_steps.proofs.ForwardPrefixes.{args_open, table_opens}

-- ---- no expression begins with a `;`

other_kind : (t : Option TokenKind) (k : TokenKind) → t ≡ Some k → is_semicolon (Some k) ≡ false → t ≢ Some token.Semicolon
other_kind t k h f e = true≢false (sym (ap is_semicolon (sym h ∙ e)) ∙ f)

literal_kind : (t : Option TokenKind) (k : ExprKind) → literal_of t ≡ Some k → t ≢ Some token.Semicolon
literal_kind t k h e = absurd cc
  where
    nothing : None ≡ Some k
    nothing = sym (ap literal_of e) ∙ h

unary_kind : (t : Option TokenKind) (op : UnOp) → unary_operator t ≡ Some op → t ≢ Some token.Semicolon
unary_kind t op h e = absurd cc
  where
    nothing : None ≡ Some op
    nothing = sym (ap unary_operator e) ∙ h

prefix_start : {ts : List Token} {n i j : ℕ} {e : Expr} {d : PrefixEnd} → IsPrefix ts n i e d j → Lacks ts i token.Semicolon
prefix_start {ts = ts} (name i j x e d h s) = other_kind (kind_at ts i) (token.Name x) h refl
prefix_start {ts = ts} (paren i j k a e d h x f s) = other_kind (kind_at ts i) token.OpenParen h refl

simple_start : {ts : List Token} {n i j : ℕ} {e : Expr} → IsSimple ts n i e j → Lacks ts i token.Semicolon
simple_start {ts = ts} (literal i k h) = literal_kind (kind_at ts i) k h
simple_start {ts = ts} (interp i j x xs es h p) = other_kind (kind_at ts i) (token.InterpBegin x) h refl
simple_start {ts = ts} (function i j xs v b h f) = other_kind (kind_at ts i) token.Function h refl
simple_start {ts = ts} (constructor i j fs t) = other_kind (kind_at ts i) token.OpenBrace (table_opens t) refl
simple_start (prefix i j e d p) = prefix_start p
simple_start {ts = ts} (choice i j arms other h c) = other_kind (kind_at ts i) token.If h refl

cast_start : {ts : List Token} {n i j : ℕ} {e : Expr} → IsCast ts n i e j → Lacks ts i token.Semicolon
cast_start (no_cast i j e s h) = simple_start s
cast_start (cast i j k e s h t) = simple_start s

pow_start : {ts : List Token} {n i j : ℕ} {e : Expr} → IsPow ts n i e j → Lacks ts i token.Semicolon
pow_start (no_pow i j e c h) = cast_start c
pow_start (pow i j k a c x h u) = cast_start x

unary_start : {ts : List Token} {n i j : ℕ} {e : Expr} → IsUnary ts n i e j → Lacks ts i token.Semicolon
unary_start (no_unary i j e h p) = pow_start p
unary_start {ts = ts} (unary i j op e h u) = unary_kind (kind_at ts i) op h

mutual
  level_start : {ts : List Token} {n i j : ℕ} {l : OperatorLevel} {e : Expr} → IsLevel ts n l i e j → Lacks ts i token.Semicolon
  level_start (level l i j k a e o s) = operand_start o

  operand_start : {ts : List Token} {n i j : ℕ} {l : OperatorLevel} {e : Expr} → IsOperand ts n l i e j → Lacks ts i token.Semicolon
  operand_start (or_operand i j e a) = level_start a
  operand_start (and_operand i j e a) = level_start a
  operand_start (comparison_operand i j e a) = concat_start a
  operand_start (sum_operand i j e a) = level_start a
  operand_start (product_operand i j e a) = unary_start a

  concat_start : {ts : List Token} {n i j : ℕ} {e : Expr} → IsConcat ts n i e j → Lacks ts i token.Semicolon
  concat_start (no_concat i j e a h) = level_start a
  concat_start (concat i j k e es a h r) = level_start a

expr_start : {ts : List Token} {n i j : ℕ} {e : Expr} → IsExpr ts n i e j → Lacks ts i token.Semicolon
expr_start (expression i j e a) = level_start a

pub list_start : {ts : List Token} {n i j : ℕ} {es : List Expr} → IsList ts n i es j → Lacks ts i token.Semicolon
list_start (last_expr i j e a h) = expr_start a
list_start (more_exprs i j k e es a h l) = expr_start a

-- ---- what stands behind a prefix, and behind the name that begins it

pub suffixes_stop : {ts : List Token} {n q i j : ℕ} {a e : Expr} {c d : PrefixEnd} → IsSuffixes ts n q i a c e d j
    → opens_suffix (kind_at ts j) ≡ false
suffixes_stop (no_suffix q i a c h) = h
suffixes_stop (member q i j x a e c d h f s) = suffixes_stop s
suffixes_stop (index q i j k a key e c d h x f s) = suffixes_stop s
suffixes_stop (call q i j k es a e c d x s) = suffixes_stop s
suffixes_stop (method q i j k x es a e c d h f y s) = suffixes_stop s

pub prefix_stops : {ts : List Token} {n i j : ℕ} {e : Expr} {d : PrefixEnd} → IsPrefix ts n i e d j → opens_suffix (kind_at ts j) ≡ false
prefix_stops (name i j x e d h s) = suffixes_stop s
prefix_stops (paren i j k a e d h x f s) = suffixes_stop s

-- no `;` stands where a suffix does
no_semicolon : (t : Option TokenKind) → opens_suffix t ≡ true → t ≢ Some token.Semicolon
no_semicolon t h e = true≢false (sym h ∙ ap opens_suffix e)

open_arguments : (t : Option TokenKind) → classes.arguments t ≢ argument.Nothing → opens_suffix t ≡ true
open_arguments (Some token.OpenParen) h = refl
open_arguments (Some token.OpenBrace) h = refl
open_arguments (Some (token.Str x)) h = refl
open_arguments _ h = absurd (h refl)

suffixes_begin : {ts : List Token} {n q i j : ℕ} {a e : Expr} {c d : PrefixEnd} → IsSuffixes ts n q i a c e d j
    → (opens_suffix (kind_at ts i) ≡ true) ⊎ ((i ≡ j) × (c ≡ d))
suffixes_begin (no_suffix q i a c h) = inr (refl, refl)
suffixes_begin (member q i j x a e c d h f s) = inl (ap opens_suffix h)
suffixes_begin (index q i j k a key e c d h x f s) = inl (ap opens_suffix h)
suffixes_begin {ts = ts} (call q i j k es a e c d x s) = inl (open_arguments (kind_at ts i) (args_open x))
suffixes_begin (method q i j k x es a e c d h f y s) = inl (ap opens_suffix h)

-- behind a name that begins a statement no `;` stands
abbrev pub NoneBehind : List Token → ℕ → Type 0
NoneBehind ts i = (x : StrId) → Has ts i (token.Name x) → Lacks ts (i + 1) token.Semicolon

target_behind : {ts : List Token} {n i j : ℕ} {e : Expr} {d : PrefixEnd} → IsPrefix ts n i e d j → Lacks ts j token.Semicolon
    → NoneBehind ts i
target_behind {ts = ts} (name i j x e d h s) f y g = side (suffixes_begin s)
  where
    side : {c : PrefixEnd} → (opens_suffix (kind_at ts (i + 1)) ≡ true) ⊎ ((i + 1 ≡ j) × (c ≡ d)) → Lacks ts (i + 1) token.Semicolon
    side (inl there) = no_semicolon (kind_at ts (i + 1)) there
    side (inr there) = λ semicolon. f (ap (kind_at ts) (sym there.0) ∙ semicolon)
target_behind (paren i j k a e d h x f s) g y there = absurd (paren_name (sym h ∙ there))
  where
    paren_name : Some token.OpenParen ≡ Some (token.Name y) → ⊥
    paren_name clash = absurd cc

pub call_behind : {ts : List Token} {n i j : ℕ} {e : Expr} → IsPrefix ts n i e in_call j → NoneBehind ts i
call_behind x = of_call x refl
  where
    of_call : {ts : List Token} {n i j : ℕ} {e : Expr} {d : PrefixEnd} → IsPrefix ts n i e d j → d ≡ in_call → NoneBehind ts i
    of_call {ts = ts} (name i j x e d h s) f y g = side (suffixes_begin s)
      where
        side : (opens_suffix (kind_at ts (i + 1)) ≡ true) ⊎ ((i + 1 ≡ j) × (in_target ≡ d)) → Lacks ts (i + 1) token.Semicolon
        side (inl there) = no_semicolon (kind_at ts (i + 1)) there
        side (inr there) = absurd cc
    of_call (paren i j k a e d h x f s) g y there = absurd cc

compound_other : (t : Option TokenKind) (op : BinOp) → compound_operator t ≡ Some op → t ≢ Some token.Semicolon
compound_other t op h e = absurd cc
  where
    nothing : None ≡ Some op
    nothing = sym (ap compound_operator e) ∙ h

pub compound_behind : {ts : List Token} {n i j : ℕ} {e : Expr} {d : PrefixEnd} (op : BinOp) → IsPrefix ts n i e d j
    → compound_operator (kind_at ts j) ≡ Some op → NoneBehind ts i
compound_behind {ts = ts} {j = j} op x h = target_behind x (compound_other (kind_at ts j) op h)

pub targets_behind : {ts : List Token} {n i j : ℕ} {es : List Expr} → IsTargets ts n i es j → Has ts j token.Equal → NoneBehind ts i
targets_behind {ts = ts} (last_target i j e x h) f = target_behind x (other_kind (kind_at ts j) token.Equal f refl)
targets_behind {ts = ts} (more_targets i j k e es x h t) f = target_behind x (other_kind (kind_at ts j) token.Comma h refl)

-- ---- the left part of a chain nests no deeper than the whole

pub operations_nest : {ts : List Token} {n q i j : ℕ} {l : OperatorLevel} {a e : Expr} → IsOperations ts n l q i a e j → deep a ≤ deep e
operations_nest (no_operation l q i a h) = omega arith
operations_nest {ts = ts} (operation l q i j k op a c e h o s) = omega (arith, operations_nest s, deep_of_binary ts q op a c)

pub suffixes_nest : {ts : List Token} {n q i j : ℕ} {a e : Expr} {c d : PrefixEnd} → IsSuffixes ts n q i a c e d j → deep a ≤ deep e
suffixes_nest (no_suffix q i a c h) = omega arith
suffixes_nest {ts = ts} (member q i j x a e c d h f s) = omega (arith, suffixes_nest s, deep_of_member ts q a x)
suffixes_nest {ts = ts} (index q i j k a key e c d h x f s) = omega (arith, suffixes_nest s, deep_of_index ts q a key)
suffixes_nest {ts = ts} (call q i j k es a e c d x s) = omega (arith, suffixes_nest s, deep_of_call ts q i a es)
suffixes_nest {ts = ts} (method q i j k x es a e c d h f y s) = omega (arith, suffixes_nest s, deep_of_method ts q (i + 2) a x es)
