-- A block is read in one way.
use Rattle.std.proofs.Common.{◌≡◌, ◌+◌, ◌<◌, ℕ, Bool, true, false, ◌&&◌, ◌||◌, cond, List, [], ◌∷◌, ◌++◌, Option, Some, None, IsTrue, IsFalse, nat_eq, refl, sym, ap, subst, ◌∙◌, arith, true≢false, ◌⊎◌, inl, inr}
use Rattle.std.proofs.lemmas.Bool.{eqb-true}
use Rattle.byte_text.specs.declared.StrId.{StrId}
use Rattle.syntax_tree.specs.declared.token.Token.{Token}
use Rattle.syntax_tree.specs.declared.token.TokenKind.{TokenKind}
use Rattle.syntax_tree.specs.declared.token.TokenKind.TheVariants as token
use Rattle.syntax_tree.specs.declared.tree.Arm.{Arm}
use Rattle.syntax_tree.specs.declared.tree.BinOp.{BinOp}
use Rattle.syntax_tree.specs.declared.tree.BinOp.TheVariants as binary
use Rattle.syntax_tree.specs.declared.tree.Expr.{Expr}
use Rattle.syntax_tree.specs.declared.tree.ExprArm.{ExprArm}
use Rattle.syntax_tree.specs.declared.tree.ExprKind.{ExprKind}
use Rattle.syntax_tree.specs.declared.tree.ExprKind as expr
use Rattle.syntax_tree.specs.declared.tree.Field.{Field}
use Rattle.syntax_tree.specs.declared.tree.FieldKind as field
use Rattle.syntax_tree.specs.declared.tree.Stat.{Stat}
use Rattle.syntax_tree.specs.declared.tree.StatKind as stat
use Rattle.syntax_tree.specs.Places.{kind_at, Has, is_name, is_named}
use Rattle.syntax_tree.specs.Types.{is_separator}
use Rattle.syntax_tree.specs.Nodes.{expr_at, call_at, field_at, stat_at, function_at, arm, expr_arm}
use Rattle.syntax_tree.specs.Operators.{OperatorLevel, ors, ands, comparisons, sums, products, operator, unary_operator, compound_operator}
use Rattle.syntax_tree.specs.Words.{continue_name, type_name, export_name, ends_block, ends_last, is_continue, opens_type, opens_suffix, opens_named, literal_of}
use Rattle.syntax_tree.specs.Grammar.{last_bind, more_binds, in_paren, PrefixEnd, IsBind, IsBinds, IsExpr, IsList, IsLevel, IsOperations, IsOperand, IsConcat, IsRun, IsUnary, IsPow, IsCast, IsSimple, IsPieces, IsChoices, IsPrefix, IsSuffixes, IsArgs, IsTable, IsFields, IsField, IsBody, IsBlock, IsLast, IsStat, IsTargets, IsStep, IsArms, in_target, in_call, expression, last_expr, more_exprs, level, no_operation, operation, or_operand, and_operand, comparison_operand, sum_operand, product_operand, no_concat, concat, last_of_run, more_of_run, no_unary, unary, no_pow, pow, no_cast, cast, literal, interp, function, constructor, prefix, choice, last_piece, more_pieces, last_choice, more_choices, name, paren, no_suffix, member, index, call, method, no_args, args, table_arg, text_arg, table, no_field, last_field, more_fields, keyed, named, item, body, no_stat, typing_stat, more_stats, last_stat, bare_return, return, break, continue, assign, compound, call_stat, do_stat, while_stat, repeat_stat, if_stat, num_for, gen_for, function_stat, local_function, bare_local, local, last_target, more_targets, no_step, step, last_arm, else_arm, more_arms}
use Rattle.type_skip.proofs.OneType.{clash, clash_back, misses, misses_back, next, after_next, one_type, one_generics, one_optional}
use Rattle.expression_parser.proofs.Determined.{bind_starts, tags, texts, names, one_typing, one_bind, one_binds, one_param_list, one_type_stat, one_function_name}

-- ---- what cannot be

pub none_some : {A B : Type 0} {x : A} → None ≡ Some x → B
none_some e = absurd cc

abbrev or_else : {A : Type 0} → A → Option A → A
or_else d None = d
or_else d (Some x) = x

same_some : {A : Type 0} {x y : A} → Some x ≡ Some y → x ≡ y
same_some {x = x} e = ap (or_else x) e

-- a function of what stands there, in two places that are one
same_there : {A : Type 0} (ts : List Token) (f : Option TokenKind → Option A) {i k : ℕ} {x y : A} → i ≡ k → f (kind_at ts i) ≡ Some x → f (kind_at ts k) ≡ Some y → x ≡ y
same_there ts f e h g = same_some (sym h ∙ ap (λ p. f (kind_at ts p)) e ∙ g)

not_there : {A B : Type 0} (ts : List Token) (f : Option TokenKind → Option A) {i k : ℕ} {y : A} → i ≡ k → f (kind_at ts i) ≡ None → f (kind_at ts k) ≡ Some y → B
not_there ts f e h g = none_some (sym h ∙ ap (λ p. f (kind_at ts p)) e ∙ g)

not_back : {A B : Type 0} (ts : List Token) (f : Option TokenKind → Option A) {i k : ℕ} {y : A} → i ≡ k → f (kind_at ts i) ≡ Some y → f (kind_at ts k) ≡ None → B
not_back ts f e h g = not_there ts f (sym e) g h

same_operator : (ts : List Token) {l m : OperatorLevel} {i k : ℕ} {x y : BinOp} → l ≡ m → i ≡ k → operator l (kind_at ts i) ≡ Some x → operator m (kind_at ts k) ≡ Some y → x ≡ y
same_operator ts f e h g = same_some (sym h ∙ (λ d. operator (f d) (kind_at ts (e d))) ∙ g)

no_operator : {B : Type 0} (ts : List Token) {l m : OperatorLevel} {i k : ℕ} {y : BinOp} → l ≡ m → i ≡ k → operator l (kind_at ts i) ≡ None → operator m (kind_at ts k) ≡ Some y → B
no_operator ts f e h g = none_some (sym h ∙ (λ d. operator (f d) (kind_at ts (e d))) ∙ g)

-- ---- what a part begins with

abbrev begins_prefix : Option TokenKind → Bool
begins_prefix (Some (token.Name x)) = true
begins_prefix (Some token.OpenParen) = true
begins_prefix _ = false

prefix_begins : {ts : List Token} {n i j : ℕ} {e : Expr} {d : PrefixEnd} → IsPrefix ts n i e d j → IsTrue (begins_prefix (kind_at ts i))
prefix_begins (name i j x e d h s) = rw h refl
prefix_begins (paren i j k a e d h p c s) = rw h refl

table_begins : {ts : List Token} {n i j : ℕ} {fs : List Field} → IsTable ts n i fs j → Has ts i token.OpenBrace
table_begins (table i j fs h f c) = h

-- ---- the forms of simple expressions

abbrev pub simple_form : Option TokenKind → ℕ
simple_form (Some (token.InterpBegin x)) = 1
simple_form (Some token.Function) = 2
simple_form (Some token.OpenBrace) = 3
simple_form (Some (token.Name x)) = 4
simple_form (Some token.OpenParen) = 4
simple_form (Some token.If) = 5
simple_form _ = 0

literal_simple : (o : Option TokenKind) (k : ExprKind) → literal_of o ≡ Some k → simple_form o ≡ 0
literal_simple (Some token.Nil) k h = refl
literal_simple (Some token.True) k h = refl
literal_simple (Some token.False) k h = refl
literal_simple (Some (token.Number n)) k h = refl
literal_simple (Some (token.Str x)) k h = refl
literal_simple (Some token.TripleDot) k h = refl
literal_simple (Some (token.InterpWhole x)) k h = refl
literal_simple _ k h = none_some h

prefix_simple : (o : Option TokenKind) → IsTrue (begins_prefix o) → simple_form o ≡ 4
prefix_simple (Some (token.Name x)) h = refl
prefix_simple (Some token.OpenParen) h = refl
prefix_simple _ h = absurd (true≢false (sym h))

abbrev form_s : {ts : List Token} {n i j : ℕ} {e : Expr} → IsSimple ts n i e j → ℕ
form_s (literal i k h) = 0
form_s (interp i j x xs es h p) = 1
form_s (function i j xs v b h f) = 2
form_s (constructor i j fs t) = 3
form_s (prefix i j e d p) = 4
form_s (choice i j arms other h c) = 5

form_s_is : {ts : List Token} {n i j : ℕ} {e : Expr} (s : IsSimple ts n i e j) → simple_form (kind_at ts i) ≡ form_s s
form_s_is {ts = ts} (literal i k h) = literal_simple (kind_at ts i) k h
form_s_is (interp i j x xs es h p) = rw h refl
form_s_is (function i j xs v b h f) = rw h refl
form_s_is (constructor i j fs t) = let h = table_begins t in rw h refl
form_s_is {ts = ts} (prefix i j e d p) = prefix_simple (kind_at ts i) (prefix_begins p)
form_s_is (choice i j arms other h c) = rw h refl

same_form_s : {ts : List Token} {n m i j k l : ℕ} {e f : Expr} (s : IsSimple ts n i e j) (t : IsSimple ts m k f l) → i ≡ k → form_s s ≡ form_s t
same_form_s {ts = ts} s t p = sym (form_s_is s) ∙ ap (λ x. simple_form (kind_at ts x)) p ∙ form_s_is t

-- ---- the forms of suffixes and arguments

abbrev suffix_form : Option TokenKind → ℕ
suffix_form (Some token.Dot) = 1
suffix_form (Some token.OpenBracket) = 2
suffix_form (Some token.OpenParen) = 3
suffix_form (Some token.OpenBrace) = 3
suffix_form (Some (token.Str x)) = 3
suffix_form (Some token.Colon) = 4
suffix_form _ = 0

abbrev args_form : Option TokenKind → ℕ
args_form (Some token.OpenBrace) = 1
args_form (Some (token.Str x)) = 2
args_form _ = 0

no_suffix_form : (o : Option TokenKind) → IsFalse (opens_suffix o) → suffix_form o ≡ 0
no_suffix_form (Some token.Dot) h = absurd (true≢false h)
no_suffix_form (Some token.OpenBracket) h = absurd (true≢false h)
no_suffix_form (Some token.OpenParen) h = absurd (true≢false h)
no_suffix_form (Some token.OpenBrace) h = absurd (true≢false h)
no_suffix_form (Some (token.Str x)) h = absurd (true≢false h)
no_suffix_form (Some token.Colon) h = absurd (true≢false h)
no_suffix_form _ h = refl

abbrev form_a : {ts : List Token} {n i j : ℕ} {es : List Expr} → IsArgs ts n i es j → ℕ
form_a (no_args i h c) = 0
form_a (args i j es h c l d) = 0
form_a (table_arg i j fs t) = 1
form_a (text_arg i x h) = 2

form_a_is : {ts : List Token} {n i j : ℕ} {es : List Expr} (a : IsArgs ts n i es j) → args_form (kind_at ts i) ≡ form_a a
form_a_is (no_args i h c) = rw h refl
form_a_is (args i j es h c l d) = rw h refl
form_a_is (table_arg i j fs t) = let h = table_begins t in rw h refl
form_a_is (text_arg i x h) = rw h refl

same_form_a : {ts : List Token} {n m i j k l : ℕ} {es fs : List Expr} (a : IsArgs ts n i es j) (b : IsArgs ts m k fs l) → i ≡ k → form_a a ≡ form_a b
same_form_a {ts = ts} a b p = sym (form_a_is a) ∙ ap (λ x. args_form (kind_at ts x)) p ∙ form_a_is b

args_suffix : {ts : List Token} {n i j : ℕ} {es : List Expr} → IsArgs ts n i es j → suffix_form (kind_at ts i) ≡ 3
args_suffix (no_args i h c) = rw h refl
args_suffix (args i j es h c l d) = rw h refl
args_suffix (table_arg i j fs t) = let h = table_begins t in rw h refl
args_suffix (text_arg i x h) = rw h refl

abbrev form_x : {ts : List Token} {n b i j : ℕ} {a e : Expr} {c d : PrefixEnd} → IsSuffixes ts n b i a c e d j → ℕ
form_x (no_suffix b i a c h) = 0
form_x (member b i j x a e c d h g s) = 1
form_x (index b i j k a key e c d h p g s) = 2
form_x (call b i j k as_ a e c d p s) = 3
form_x (method b i j k x as_ a e c d h g p s) = 4

form_x_is : {ts : List Token} {n b i j : ℕ} {a e : Expr} {c d : PrefixEnd} (s : IsSuffixes ts n b i a c e d j) → suffix_form (kind_at ts i) ≡ form_x s
form_x_is {ts = ts} (no_suffix b i a c h) = no_suffix_form (kind_at ts i) h
form_x_is (member b i j x a e c d h g s) = rw h refl
form_x_is (index b i j k a key e c d h p g s) = rw h refl
form_x_is (call b i j k as_ a e c d p s) = args_suffix p
form_x_is (method b i j k x as_ a e c d h g p s) = rw h refl

same_form_x : {ts : List Token} {n m b b2 i j k l : ℕ} {a e a2 e2 : Expr} {c d c2 d2 : PrefixEnd} (s : IsSuffixes ts n b i a c e d j) (t : IsSuffixes ts m b2 k a2 c2 e2 d2 l) → i ≡ k → form_x s ≡ form_x t
same_form_x {ts = ts} s t p = sym (form_x_is s) ∙ ap (λ x. suffix_form (kind_at ts x)) p ∙ form_x_is t

-- ---- the forms of statements

abbrev pub stat_form : Option TokenKind → ℕ
stat_form (Some (token.Name x)) = 1
stat_form (Some token.OpenParen) = 1
stat_form (Some token.Do) = 2
stat_form (Some token.While) = 3
stat_form (Some token.Repeat) = 4
stat_form (Some token.If) = 5
stat_form (Some token.For) = 6
stat_form (Some token.Function) = 7
stat_form (Some token.Local) = 8
stat_form _ = 0

prefix_stat : (o : Option TokenKind) → IsTrue (begins_prefix o) → stat_form o ≡ 1
prefix_stat (Some (token.Name x)) h = refl
prefix_stat (Some token.OpenParen) h = refl
prefix_stat _ h = absurd (true≢false (sym h))

targets_begin : {ts : List Token} {n i j : ℕ} {es : List Expr} → IsTargets ts n i es j → IsTrue (begins_prefix (kind_at ts i))
targets_begin (last_target i j e p h) = prefix_begins p
targets_begin (more_targets i j k e es p h t) = prefix_begins p

abbrev pub form_t : {ts : List Token} {n i j : ℕ} {s : Stat} → IsStat ts n i s j → ℕ
form_t (assign i j k es vs t h l) = 1
form_t (compound i j k op e v p h x) = 1
form_t (call_stat i j e p) = 1
form_t (do_stat i j b h p c) = 2
form_t (while_stat i j k c b h p g q f) = 3
form_t (repeat_stat i j k b c h p g q) = 4
form_t (if_stat i j arms other h p) = 5
form_t (num_for i j k l m p x s t u b h1 h2 h3 h4 h5 h6 h7 h8 h9 h10) = 6
form_t (gen_for i j k l xs es b h1 h2 h3 h4 h5 h6 h7) = 6
form_t (function_stat i j k e added xs v b h p q) = 7
form_t (local_function i j x xs v b h g f p) = 8
form_t (bare_local i j xs h p g) = 8
form_t (local i j k xs es h p g l) = 8

pub form_t_is : {ts : List Token} {n i j : ℕ} {s : Stat} (t : IsStat ts n i s j) → stat_form (kind_at ts i) ≡ form_t t
form_t_is {ts = ts} (assign i j k es vs t h l) = prefix_stat (kind_at ts i) (targets_begin t)
form_t_is {ts = ts} (compound i j k op e v p h x) = prefix_stat (kind_at ts i) (prefix_begins p)
form_t_is {ts = ts} (call_stat i j e p) = prefix_stat (kind_at ts i) (prefix_begins p)
form_t_is (do_stat i j b h p c) = rw h refl
form_t_is (while_stat i j k c b h p g q f) = rw h refl
form_t_is (repeat_stat i j k b c h p g q) = rw h refl
form_t_is (if_stat i j arms other h p) = rw h refl
form_t_is (num_for i j k l m p x s t u b h1 h2 h3 h4 h5 h6 h7 h8 h9 h10) = rw h1 refl
form_t_is (gen_for i j k l xs es b h1 h2 h3 h4 h5 h6 h7) = rw h1 refl
form_t_is (function_stat i j k e added xs v b h p q) = rw h refl
form_t_is (local_function i j x xs v b h g f p) = rw h refl
form_t_is (bare_local i j xs h p g) = rw h refl
form_t_is (local i j k xs es h p g l) = rw h refl

pub same_form_t : {ts : List Token} {n m i j k l : ℕ} {s t : Stat} (x : IsStat ts n i s j) (y : IsStat ts m k t l) → i ≡ k → form_t x ≡ form_t y
same_form_t {ts = ts} x y p = sym (form_t_is x) ∙ ap (λ q. stat_form (kind_at ts q)) p ∙ form_t_is y

pub form_t_some : {ts : List Token} {n i j : ℕ} {s : Stat} (t : IsStat ts n i s j) → 0 < form_t t
form_t_some (assign i j k es vs t h l) = omega arith
form_t_some (compound i j k op e v p h x) = omega arith
form_t_some (call_stat i j e p) = omega arith
form_t_some (do_stat i j b h p c) = omega arith
form_t_some (while_stat i j k c b h p g q f) = omega arith
form_t_some (repeat_stat i j k b c h p g q) = omega arith
form_t_some (if_stat i j arms other h p) = omega arith
form_t_some (num_for i j k l m p x s t u b h1 h2 h3 h4 h5 h6 h7 h8 h9 h10) = omega arith
form_t_some (gen_for i j k l xs es b h1 h2 h3 h4 h5 h6 h7) = omega arith
form_t_some (function_stat i j k e added xs v b h p q) = omega arith
form_t_some (local_function i j x xs v b h g f p) = omega arith
form_t_some (bare_local i j xs h p g) = omega arith
form_t_some (local i j k xs es h p g l) = omega arith

-- ---- what a block goes on with

-- what begins a block's next part: its end, a last statement by its word, or another statement
abbrev pub word_form : Option TokenKind → ℕ
word_form None = 0
word_form (Some token.End) = 0
word_form (Some token.Else) = 0
word_form (Some token.ElseIf) = 0
word_form (Some token.Until) = 0
word_form (Some token.Return) = 3
word_form (Some token.Break) = 3
word_form (Some _) = 2

abbrev pub part_form : List Token → ℕ → ℕ
part_form ts i = cond (opens_type ts i) 1 (cond (is_continue ts i) 3 (word_form (kind_at ts i)))

name_word : (o : Option TokenKind) → IsTrue (is_name o) → word_form o ≡ 2
name_word (Some (token.Name x)) h = refl
name_word _ h = absurd (true≢false (sym h))

stat_word : (o : Option TokenKind) → 0 < stat_form o → word_form o ≡ 2
stat_word (Some (token.Name x)) h = refl
stat_word (Some token.OpenParen) h = refl
stat_word (Some token.Do) h = refl
stat_word (Some token.While) h = refl
stat_word (Some token.Repeat) h = refl
stat_word (Some token.If) h = refl
stat_word (Some token.For) h = refl
stat_word (Some token.Function) h = refl
stat_word (Some token.Local) h = refl
stat_word _ h = absurd (omega (arith, h))

-- where no name stands, a type and `continue` do not begin
nameless : (ts : List Token) (i : ℕ) → IsFalse (is_name (kind_at ts i)) → part_form ts i ≡ word_form (kind_at ts i)
nameless ts i h =
    ap (λ b. cond b 1 (cond (is_continue ts i) 3 (word_form (kind_at ts i)))) (no_type (kind_at ts i) h)
    ∙ ap (λ b. cond b 3 (word_form (kind_at ts i))) (no_continue (kind_at ts i) h)
  where
    no_type : (o : Option TokenKind) → IsFalse (is_name o) → (is_named type_name o && is_name (kind_at ts (i + 1))) || (is_named export_name o && is_named type_name (kind_at ts (i + 1))) ≡ false
    no_type (Some (token.Name x)) h = absurd (true≢false h)
    no_type None h = refl
    no_type _ h = refl

    no_continue : (o : Option TokenKind) → IsFalse (is_name o) → is_named continue_name o && ends_last ts (i + 1) ≡ false
    no_continue (Some (token.Name x)) h = absurd (true≢false h)
    no_continue None h = refl
    no_continue _ h = refl

ending : (o : Option TokenKind) → IsTrue (ends_block o) → IsFalse (is_name o) × (word_form o ≡ 0)
ending None h = (refl, refl)
ending (Some token.End) h = (refl, refl)
ending (Some token.Else) h = (refl, refl)
ending (Some token.ElseIf) h = (refl, refl)
ending (Some token.Until) h = (refl, refl)
ending _ h = absurd (true≢false (sym h))

-- the name `continue` begins no type
continue_no_type : (ts : List Token) (i : ℕ) → IsTrue (is_continue ts i) → opens_type ts i ≡ false
continue_no_type ts i h = at_kind (kind_at ts i) h
  where
    left : (a b : Bool) → IsTrue (a && b) → IsTrue a
    left true b h = refl
    left false b h = h

    by_number : (n : ℕ) (a b c : Bool) → IsTrue (nat_eq n 2 && c) → (nat_eq n 3 && a) || (nat_eq n 4 && b) ≡ false
    by_number n a b c h = let e : n ≡ 2 = eqb-true n 2 (left (nat_eq n 2) c h) in rw e refl

    at_kind : (o : Option TokenKind) → IsTrue (is_named continue_name o && ends_last ts (i + 1)) → (is_named type_name o && is_name (kind_at ts (i + 1))) || (is_named export_name o && is_named type_name (kind_at ts (i + 1))) ≡ false
    at_kind (Some (token.Name x)) h = by_number x.0 (is_name (kind_at ts (i + 1))) (is_named type_name (kind_at ts (i + 1))) (ends_last ts (i + 1)) h
    at_kind None h = refl
    at_kind _ h = refl

pub last_part_form : {ts : List Token} {n i j : ℕ} {s : Stat} → IsLast ts n i s j → part_form ts i ≡ 3
last_part_form {ts = ts} (bare_return i h e) = nameless ts i (ap is_name h) ∙ ap word_form h
last_part_form {ts = ts} (return i j es h e l) = nameless ts i (ap is_name h) ∙ ap word_form h
last_part_form {ts = ts} (break i h) = nameless ts i (ap is_name h) ∙ ap word_form h
last_part_form {ts = ts} (continue i h) =
    ap (λ b. cond b 1 (cond (is_continue ts i) 3 (word_form (kind_at ts i)))) (continue_no_type ts i h)
    ∙ ap (λ b. cond b 3 (word_form (kind_at ts i))) h

abbrev pub form_b : {ts : List Token} {n i j : ℕ} {ss : List Stat} → IsBlock ts n i ss j → ℕ
form_b (no_stat i h) = 0
form_b (typing_stat i j k l b h t o p) = 1
form_b (more_stats i j k l s b h g t o p) = 2
form_b (last_stat i j k s t o h) = 3

pub form_b_is : {ts : List Token} {n i j : ℕ} {ss : List Stat} (b : IsBlock ts n i ss j) → part_form ts i ≡ form_b b
form_b_is {ts = ts} (no_stat i h) = let e = ending (kind_at ts i) h in nameless ts i e.0 ∙ e.1
form_b_is {ts = ts} (typing_stat i j k l b h t o p) = ap (λ x. cond x 1 (cond (is_continue ts i) 3 (word_form (kind_at ts i)))) h
form_b_is {ts = ts} (more_stats i j k l s b h g t o p) =
    ap (λ x. cond x 1 (cond (is_continue ts i) 3 (word_form (kind_at ts i)))) h
    ∙ ap (λ x. cond x 3 (word_form (kind_at ts i))) g
    ∙ stat_word (kind_at ts i) (subst (λ (x : ℕ). 0 < x) (sym (form_t_is t)) (form_t_some t))
form_b_is (last_stat i j k s t o h) = last_part_form t

same_form_b : {ts : List Token} {n m i j k l : ℕ} {ss rs : List Stat} (x : IsBlock ts n i ss j) (y : IsBlock ts m k rs l) → i ≡ k → form_b x ≡ form_b y
same_form_b {ts = ts} x y p = sym (form_b_is x) ∙ ap (part_form ts) p ∙ form_b_is y

-- ---- the forms of last statements

abbrev end_form : Option TokenKind → ℕ
end_form (Some token.Return) = 1
end_form (Some token.Break) = 2
end_form _ = 3

abbrev pub form_l : {ts : List Token} {n i j : ℕ} {s : Stat} → IsLast ts n i s j → ℕ
form_l (bare_return i h e) = 1
form_l (return i j es h e l) = 1
form_l (break i h) = 2
form_l (continue i h) = 3

continue_name_there : (o : Option TokenKind) (b : Bool) → IsTrue (is_named continue_name o && b) → end_form o ≡ 3
continue_name_there (Some (token.Name x)) b h = refl
continue_name_there None b h = refl
continue_name_there _ b h = absurd (true≢false (sym h))

pub form_l_is : {ts : List Token} {n i j : ℕ} {s : Stat} (x : IsLast ts n i s j) → end_form (kind_at ts i) ≡ form_l x
form_l_is (bare_return i h e) = rw h refl
form_l_is (return i j es h e l) = rw h refl
form_l_is (break i h) = rw h refl
form_l_is {ts = ts} (continue i h) = continue_name_there (kind_at ts i) (ends_last ts (i + 1)) h

pub same_form_l : {ts : List Token} {n m i j k l : ℕ} {s t : Stat} (x : IsLast ts n i s j) (y : IsLast ts m k t l) → i ≡ k → form_l x ≡ form_l y
same_form_l {ts = ts} x y p = sym (form_l_is x) ∙ ap (λ q. end_form (kind_at ts q)) p ∙ form_l_is y

-- ---- the levels

abbrev level_form : OperatorLevel → ℕ
level_form ors = 0
level_form ands = 1
level_form comparisons = 2
level_form sums = 3
level_form products = 4

-- where a name with a `=` stands, a field is a named one
named_there : (ts : List Token) (i : ℕ) (x : StrId) → Has ts i (token.Name x) → Has ts (i + 1) token.Equal → opens_named ts i ≡ true
named_there ts i x h g = rw (h, g) refl

abbrev pub end_number : PrefixEnd → ℕ
end_number in_target = 0
end_number in_call = 1
end_number in_paren = 2

-- the first of several targets
pub record First (ts : List Token) (n i l : ℕ) : Type 0 where
  pub e : Expr
  pub j : ℕ
  pub prefix : IsPrefix ts n i e in_target j
  pub behind : (j ≡ l) ⊎ Has ts j token.Comma

pub first_target : {ts : List Token} {n i l : ℕ} {es : List Expr} → IsTargets ts n i es l → First ts n i l
first_target (last_target i j e p h) = record { e = e; j = j; prefix = p; behind = inl refl }
first_target (more_targets i j k e es p h t) = record { e = e; j = j; prefix = p; behind = inr h }

pub first_no_compound : (ts : List Token) {n i l : ℕ} (f : First ts n i l) → Has ts l token.Equal → compound_operator (kind_at ts f.j) ≡ None
first_no_compound ts {l = l} f g = at_end f.behind
  where
    at_end : (f.j ≡ l) ⊎ Has ts f.j token.Comma → compound_operator (kind_at ts f.j) ≡ None
    at_end (inl e) = ap (λ x. compound_operator (kind_at ts x)) e ∙ ap compound_operator g
    at_end (inr h) = ap compound_operator h

-- a name is no `function`, and what follows the first name of a `for` is `=` or not
function_binds : (ts : List Token) {n i j k : ℕ} {xs : List StrId} → Has ts i token.Function → IsBinds ts n k xs j → i ≡ k → ⊥
function_binds ts h (last_bind k l x b g) p = omega (arith, tags ts token.Function (token.Name x) p h (bind_starts b))
function_binds ts h (more_binds k l l2 x xs b g bs) p = omega (arith, tags ts token.Function (token.Name x) p h (bind_starts b))

num_gen : (ts : List Token) {n m i j k l : ℕ} {x : StrId} {xs : List StrId} → IsBind ts n i x j → Has ts j token.Equal → IsBinds ts m k xs l → Has ts l token.In → i ≡ k → ⊥
num_gen ts a h (last_bind k l y b f) g p = let r = one_bind a b p in omega (arith, tags ts token.Equal token.In r.0 h g)
num_gen ts a h (more_binds k l l2 y ys b f bs) g p = let r = one_bind a b p in omega (arith, tags ts token.Equal token.Comma r.0 h f)

-- ---- one reading

mutual
  pub one_expr : {ts : List Token} {n m i j k l : ℕ} {e f : Expr} → IsExpr ts n i e j → IsExpr ts m k f l → i ≡ k → (j ≡ l) × (e ≡ f)
  one_expr (expression i j e a) (expression k l f b) p = one_level a b refl p

  pub one_list : {ts : List Token} {n m i j k l : ℕ} {es fs : List Expr} → IsList ts n i es j → IsList ts m k fs l → i ≡ k → (j ≡ l) × (es ≡ fs)
  one_list (last_expr i j e a h) (last_expr k l f b g) p = let r = one_expr a b p in (r.0, λ d. r.1 d ∷ [])
  one_list {ts = ts} (last_expr i j e a h) (more_exprs k l l2 f fs b g bs) p = let r = one_expr a b p in misses_back ts r.0 h g
  one_list {ts = ts} (more_exprs i j j2 e es a h as_) (last_expr k l f b g) p = let r = one_expr a b p in misses ts r.0 h g
  one_list (more_exprs i j j2 e es a h as_) (more_exprs k l l2 f fs b g bs) p =
      let r = one_expr a b p in
      let rs = one_list as_ bs (next r.0) in
      (rs.0, λ d. r.1 d ∷ rs.1 d)

  pub one_level : {ts : List Token} {n m i j k l : ℕ} {u v : OperatorLevel} {e f : Expr} → IsLevel ts n u i e j → IsLevel ts m v k f l → u ≡ v → i ≡ k → (j ≡ l) × (e ≡ f)
  one_level (level u i j j2 a e x o) (level v k l l2 b f y q) q2 p =
      let r = one_operand x y q2 p in
      one_operations o q q2 p r.0 r.1

  pub one_operations : {ts : List Token} {n m b c i j k l : ℕ} {u v : OperatorLevel} {a a2 e f : Expr} → IsOperations ts n u b i a e j → IsOperations ts m v c k a2 f l → u ≡ v → b ≡ c → i ≡ k → a ≡ a2 → (j ≡ l) × (e ≡ f)
  one_operations (no_operation u b i a h) (no_operation v c k a2 g) q s p t = (p, t)
  one_operations {ts = ts} (no_operation u b i a h) (operation v c k l l2 op a2 x f g y z) q s p t = no_operator ts q p h g
  one_operations {ts = ts} (operation u b i j j2 op a x e h y z) (no_operation v c k a2 g) q s p t = no_operator ts (sym q) (sym p) g h
  one_operations {ts = ts} (operation u b i j j2 op a x e h y z) (operation v c k l l2 op2 a2 x2 f g y2 z2) q s p t =
      let r = one_operand y y2 q (next p) in
      let o = same_operator ts q p h g in
      one_operations z z2 q s r.0 (λ d. expr_at ts (s d) (expr.Binary (o d) (t d) (r.1 d)))

  pub one_operand : {ts : List Token} {n m i j k l : ℕ} {u v : OperatorLevel} {e f : Expr} → IsOperand ts n u i e j → IsOperand ts m v k f l → u ≡ v → i ≡ k → (j ≡ l) × (e ≡ f)
  one_operand (or_operand i j e a) (or_operand k l f b) q p = one_level a b refl p
  one_operand (and_operand i j e a) (and_operand k l f b) q p = one_level a b refl p
  one_operand (comparison_operand i j e a) (comparison_operand k l f b) q p = one_concat a b p
  one_operand (sum_operand i j e a) (sum_operand k l f b) q p = one_level a b refl p
  one_operand (product_operand i j e a) (product_operand k l f b) q p = one_unary a b p
  one_operand _ _ q p = absurd (omega (arith, ap level_form q))

  pub one_concat : {ts : List Token} {n m i j k l : ℕ} {e f : Expr} → IsConcat ts n i e j → IsConcat ts m k f l → i ≡ k → (j ≡ l) × (e ≡ f)
  one_concat (no_concat i j e a h) (no_concat k l f b g) p = one_level a b refl p
  one_concat {ts = ts} (no_concat i j e a h) (concat k l l2 f fs b g bs) p = let r = one_level a b refl p in misses_back ts r.0 h g
  one_concat {ts = ts} (concat i j j2 e es a h as_) (no_concat k l f b g) p = let r = one_level a b refl p in misses ts r.0 h g
  one_concat {ts = ts} (concat i j j2 e es a h as_) (concat k l l2 f fs b g bs) p =
      let r = one_level a b refl p in
      let rs = one_run as_ bs (next r.0) in
      (rs.0, λ d. expr_at ts (p d) (expr.Concat (r.1 d ∷ rs.1 d)))

  pub one_run : {ts : List Token} {n m i j k l : ℕ} {es fs : List Expr} → IsRun ts n i es j → IsRun ts m k fs l → i ≡ k → (j ≡ l) × (es ≡ fs)
  one_run (last_of_run i j e a h) (last_of_run k l f b g) p = let r = one_level a b refl p in (r.0, λ d. r.1 d ∷ [])
  one_run {ts = ts} (last_of_run i j e a h) (more_of_run k l l2 f fs b g bs) p = let r = one_level a b refl p in misses_back ts r.0 h g
  one_run {ts = ts} (more_of_run i j j2 e es a h as_) (last_of_run k l f b g) p = let r = one_level a b refl p in misses ts r.0 h g
  one_run (more_of_run i j j2 e es a h as_) (more_of_run k l l2 f fs b g bs) p =
      let r = one_level a b refl p in
      let rs = one_run as_ bs (next r.0) in
      (rs.0, λ d. r.1 d ∷ rs.1 d)

  pub one_unary : {ts : List Token} {n m i j k l : ℕ} {e f : Expr} → IsUnary ts n i e j → IsUnary ts m k f l → i ≡ k → (j ≡ l) × (e ≡ f)
  one_unary (no_unary i j e h a) (no_unary k l f g b) p = one_pow a b p
  one_unary {ts = ts} (no_unary i j e h a) (unary k l op f g b) p = not_there ts unary_operator p h g
  one_unary {ts = ts} (unary i j op e h a) (no_unary k l f g b) p = not_back ts unary_operator p h g
  one_unary {ts = ts} (unary i j op e h a) (unary k l op2 f g b) p =
      let r = one_unary a b (next p) in
      let o = same_there ts unary_operator p h g in
      (r.0, λ d. expr_at ts (p d) (expr.Unary (o d) (r.1 d)))

  pub one_pow : {ts : List Token} {n m i j k l : ℕ} {e f : Expr} → IsPow ts n i e j → IsPow ts m k f l → i ≡ k → (j ≡ l) × (e ≡ f)
  one_pow (no_pow i j e a h) (no_pow k l f b g) p = one_cast a b p
  one_pow {ts = ts} (no_pow i j e a h) (pow k l l2 f f2 b g b2) p = let r = one_cast a b p in misses_back ts r.0 h g
  one_pow {ts = ts} (pow i j j2 e e2 a h a2) (no_pow k l f b g) p = let r = one_cast a b p in misses ts r.0 h g
  one_pow {ts = ts} (pow i j j2 e e2 a h a2) (pow k l l2 f f2 b g b2) p =
      let r = one_cast a b p in
      let s = one_unary a2 b2 (next r.0) in
      (s.0, λ d. expr_at ts (p d) (expr.Binary binary.Pow (r.1 d) (s.1 d)))

  pub one_cast : {ts : List Token} {n m i j k l : ℕ} {e f : Expr} → IsCast ts n i e j → IsCast ts m k f l → i ≡ k → (j ≡ l) × (e ≡ f)
  one_cast (no_cast i j e a h) (no_cast k l f b g) p = one_simple a b p (same_form_s a b p)
  one_cast {ts = ts} (no_cast i j e a h) (cast k l l2 f b g u) p = let r = one_simple a b p (same_form_s a b p) in misses_back ts r.0 h g
  one_cast {ts = ts} (cast i j j2 e a h t) (no_cast k l f b g) p = let r = one_simple a b p (same_form_s a b p) in misses ts r.0 h g
  one_cast {ts = ts} (cast i j j2 e a h t) (cast k l l2 f b g u) p =
      let r = one_simple a b p (same_form_s a b p) in
      (one_type t u (next r.0), λ d. expr_at ts (p d) (expr.Paren (r.1 d)))

  pub one_simple : {ts : List Token} {n m i j k l : ℕ} {e f : Expr} (s : IsSimple ts n i e j) (t : IsSimple ts m k f l) → i ≡ k → form_s s ≡ form_s t → (j ≡ l) × (e ≡ f)
  one_simple {ts = ts} (literal i a h) (literal k b g) p w = let o = same_there ts literal_of p h g in (next p, λ d. expr_at ts (p d) (o d))
  one_simple {ts = ts} (interp i j x xs es h a) (interp k l y ys fs g b) p w =
      let r = one_pieces a b (next p) in
      let o = texts ts (token.InterpBegin x) (token.InterpBegin y) p h g in
      (r.0, λ d. expr_at ts (p d) (expr.Interp (o d ∷ r.1 d) (r.2 d)))
  one_simple {ts = ts} (function i j xs v b h a) (function k l ys z c g f) p w =
      let r = one_body a f (next p) in
      (r.0, λ d. expr_at ts (p d) (expr.Function (function_at ts (p d) (r.1 d) (r.2 d) (r.3 d))))
  one_simple {ts = ts} (constructor i j fs a) (constructor k l gs b) p w = let r = one_table a b p in (r.0, λ d. expr_at ts (p d) (expr.Table (r.1 d)))
  one_simple (prefix i j e c a) (prefix k l f d b) p w = let r = one_prefix a b p in (r.0, r.1)
  one_simple {ts = ts} (choice i j as_ o h a) (choice k l bs q g b) p w = let r = one_choices a b (next p) in (r.0, λ d. expr_at ts (p d) (expr.If (r.1 d) (r.2 d)))
  one_simple _ _ p w = absurd (omega (arith, w))

  pub one_pieces : {ts : List Token} {n m i j k l : ℕ} {xs ys : List StrId} {es fs : List Expr} → IsPieces ts n i xs es j → IsPieces ts m k ys fs l → i ≡ k → (j ≡ l) × (xs ≡ ys) × (es ≡ fs)
  one_pieces {ts = ts} (last_piece i j x e a h) (last_piece k l y f b g) p =
      let r = one_expr a b p in
      let o = texts ts (token.InterpEnd x) (token.InterpEnd y) r.0 h g in
      (next r.0, λ d. o d ∷ [], λ d. r.1 d ∷ [])
  one_pieces {ts = ts} (last_piece i j x e a h) (more_pieces k l l2 y ys f fs b g bs) p = let r = one_expr a b p in absurd (omega (arith, tags ts (token.InterpEnd x) (token.InterpMid y) r.0 h g))
  one_pieces {ts = ts} (more_pieces i j j2 x xs e es a h as_) (last_piece k l y f b g) p = let r = one_expr a b p in absurd (omega (arith, tags ts (token.InterpMid x) (token.InterpEnd y) r.0 h g))
  one_pieces {ts = ts} (more_pieces i j j2 x xs e es a h as_) (more_pieces k l l2 y ys f fs b g bs) p =
      let r = one_expr a b p in
      let o = texts ts (token.InterpMid x) (token.InterpMid y) r.0 h g in
      let rs = one_pieces as_ bs (next r.0) in
      (rs.0, λ d. o d ∷ rs.1 d, λ d. r.1 d ∷ rs.2 d)

  pub one_choices : {ts : List Token} {n m i j k l : ℕ} {as_ bs : List ExprArm} {o q : Expr} → IsChoices ts n i as_ o j → IsChoices ts m k bs q l → i ≡ k → (j ≡ l) × (as_ ≡ bs) × (o ≡ q)
  one_choices (last_choice i j j2 j3 c v o a h a2 h2 a3) (last_choice k l l2 l3 c2 v2 q b g b2 g2 b3) p =
      let r = one_expr a b p in
      let s = one_expr a2 b2 (next r.0) in
      let t = one_expr a3 b3 (next s.0) in
      (t.0, λ d. expr_arm (r.1 d) (s.1 d) ∷ [], t.1)
  one_choices {ts = ts} (last_choice i j j2 j3 c v o a h a2 h2 a3) (more_choices k l l2 l3 c2 v2 q ys b g b2 g2 b3) p =
      let r = one_expr a b p in
      let s = one_expr a2 b2 (next r.0) in
      absurd (omega (arith, tags ts token.Else token.ElseIf s.0 h2 g2))
  one_choices {ts = ts} (more_choices i j j2 j3 c v o xs a h a2 h2 a3) (last_choice k l l2 l3 c2 v2 q b g b2 g2 b3) p =
      let r = one_expr a b p in
      let s = one_expr a2 b2 (next r.0) in
      absurd (omega (arith, tags ts token.ElseIf token.Else s.0 h2 g2))
  one_choices (more_choices i j j2 j3 c v o xs a h a2 h2 a3) (more_choices k l l2 l3 c2 v2 q ys b g b2 g2 b3) p =
      let r = one_expr a b p in
      let s = one_expr a2 b2 (next r.0) in
      let t = one_choices a3 b3 (next s.0) in
      (t.0, λ d. expr_arm (r.1 d) (s.1 d) ∷ t.1 d, t.2)

  pub one_prefix : {ts : List Token} {n m i j k l : ℕ} {e f : Expr} {c d : PrefixEnd} → IsPrefix ts n i e c j → IsPrefix ts m k f d l → i ≡ k → (j ≡ l) × (e ≡ f) × (c ≡ d)
  one_prefix {ts = ts} (name i j x e c h a) (name k l y f d g b) p = one_suffixes a b p (next p) (λ z. expr_at ts (p z) (expr.Name (names ts p h g z))) refl (same_form_x a b (next p))
  one_prefix {ts = ts} (name i j x e c h a) (paren k l l2 y f d g b g2 b2) p = absurd (omega (arith, tags ts (token.Name x) token.OpenParen p h g))
  one_prefix {ts = ts} (paren i j j2 x e c h a h2 a2) (name k l y f d g b) p = absurd (omega (arith, tags ts token.OpenParen (token.Name y) p h g))
  one_prefix {ts = ts} (paren i j j2 x e c h a h2 a2) (paren k l l2 y f d g b g2 b2) p =
      let r = one_expr a b (next p) in
      one_suffixes a2 b2 p (next r.0) (λ z. expr_at ts (p z) (expr.Paren (r.1 z))) refl (same_form_x a2 b2 (next r.0))

  pub one_suffixes : {ts : List Token} {n m b b2 i j k l : ℕ} {a a2 e f : Expr} {c c2 d d2 : PrefixEnd} (s : IsSuffixes ts n b i a c e d j) (t : IsSuffixes ts m b2 k a2 c2 f d2 l) → b ≡ b2 → i ≡ k → a ≡ a2 → c ≡ c2 → form_x s ≡ form_x t → (j ≡ l) × (e ≡ f) × (d ≡ d2)
  one_suffixes (no_suffix b i a c h) (no_suffix b2 k a2 c2 g) q p s t w = (p, s, t)
  one_suffixes {ts = ts} (member b i j x a e c d h h2 y) (member b2 k l x2 a2 f c2 d2 g g2 z) q p s t w =
      one_suffixes y z q (after_next p) (λ m. expr_at ts (q m) (expr.Member (s m) (names ts (next p) h2 g2 m))) refl (same_form_x y z (after_next p))
  one_suffixes {ts = ts} (index b i j j2 a key e c d h u h2 y) (index b2 k l l2 a2 key2 f c2 d2 g v g2 z) q p s t w =
      let r = one_expr u v (next p) in
      one_suffixes y z q (next r.0) (λ m. expr_at ts (q m) (expr.Index (s m) (r.1 m))) refl (same_form_x y z (next r.0))
  one_suffixes {ts = ts} (call b i j j2 as_ a e c d u y) (call b2 k l l2 bs a2 f c2 d2 v z) q p s t w =
      let r = one_args u v p (same_form_a u v p) in
      one_suffixes y z q r.0 (λ m. call_at ts (q m) (p m) (expr.Call (s m) (r.1 m))) refl (same_form_x y z r.0)
  one_suffixes {ts = ts} (method b i j j2 x as_ a e c d h h2 u y) (method b2 k l l2 x2 bs a2 f c2 d2 g g2 v z) q p s t w =
      let r = one_args u v (after_next p) (same_form_a u v (after_next p)) in
      one_suffixes y z q r.0 (λ m. call_at ts (q m) (after_next p m) (expr.Method (s m) (names ts (next p) h2 g2 m) (r.1 m))) refl (same_form_x y z r.0)
  one_suffixes _ _ q p s t w = absurd (omega (arith, w))

  pub one_args : {ts : List Token} {n m i j k l : ℕ} {es fs : List Expr} (a : IsArgs ts n i es j) (b : IsArgs ts m k fs l) → i ≡ k → form_a a ≡ form_a b → (j ≡ l) × (es ≡ fs)
  one_args (no_args i h c) (no_args k g d) p w = (after_next p, refl)
  one_args {ts = ts} (no_args i h c) (args k l fs g d b f) p w = misses ts (next p) c d
  one_args {ts = ts} (args i j es h c a f) (no_args k g d) p w = misses_back ts (next p) c d
  one_args (args i j es h c a f) (args k l fs g d b f2) p w = let r = one_list a b (next p) in (next r.0, r.1)
  one_args {ts = ts} (table_arg i j fs a) (table_arg k l gs b) p w = let r = one_table a b p in (r.0, λ d. expr_at ts (p d) (expr.Table (r.1 d)) ∷ [])
  one_args {ts = ts} (text_arg i x h) (text_arg k y g) p w = let o = texts ts (token.Str x) (token.Str y) p h g in (next p, λ d. expr_at ts (p d) (expr.Str (o d)) ∷ [])
  one_args _ _ p w = absurd (omega (arith, w))

  pub one_table : {ts : List Token} {n m i j k l : ℕ} {fs gs : List Field} → IsTable ts n i fs j → IsTable ts m k gs l → i ≡ k → (j ≡ l) × (fs ≡ gs)
  one_table (table i j fs h a c) (table k l gs g b d) p = let r = one_fields a b (next p) in (next r.0, r.1)

  pub one_fields : {ts : List Token} {n m i j k l : ℕ} {fs gs : List Field} → IsFields ts n i fs j → IsFields ts m k gs l → i ≡ k → (j ≡ l) × (fs ≡ gs)
  one_fields (no_field i h) (no_field k g) p = (p, refl)
  one_fields {ts = ts} (no_field i h) (last_field k l f g b v) p = misses ts p h g
  one_fields {ts = ts} (no_field i h) (more_fields k l l2 f fs g b v bs) p = misses ts p h g
  one_fields {ts = ts} (last_field i j e h a u) (no_field k g) p = misses_back ts p h g
  one_fields (last_field i j e h a u) (last_field k l f g b v) p = let r = one_field a b p in (r.0, λ d. r.1 d ∷ [])
  one_fields {ts = ts} (last_field i j e h a u) (more_fields k l l2 f fs g b v bs) p = let r = one_field a b p in clash_back (λ x. is_separator (kind_at ts x)) r.0 u v
  one_fields {ts = ts} (more_fields i j j2 e es h a u as_) (no_field k g) p = misses_back ts p h g
  one_fields {ts = ts} (more_fields i j j2 e es h a u as_) (last_field k l f g b v) p = let r = one_field a b p in clash (λ x. is_separator (kind_at ts x)) r.0 u v
  one_fields (more_fields i j j2 e es h a u as_) (more_fields k l l2 f fs g b v bs) p =
      let r = one_field a b p in
      let rs = one_fields as_ bs (next r.0) in
      (rs.0, λ d. r.1 d ∷ rs.1 d)

  pub one_field : {ts : List Token} {n m i j k l : ℕ} {e f : Field} → IsField ts n i e j → IsField ts m k f l → i ≡ k → (j ≡ l) × (e ≡ f)
  one_field {ts = ts} (keyed i j j2 x y h a h2 h3 a2) (keyed k l l2 z w g b g2 g3 b2) p =
      let r = one_expr a b (next p) in
      let s = one_expr a2 b2 (after_next r.0) in
      (s.0, λ d. field_at ts (p d) (field.Keyed (r.1 d) (s.1 d)))
  one_field {ts = ts} (keyed i j j2 x y h a h2 h3 a2) (named k l z f g g2 b) p = absurd (omega (arith, tags ts token.OpenBracket (token.Name z) p h g))
  one_field {ts = ts} (keyed i j j2 x y h a h2 h3 a2) (item k l f g g2 b) p = misses ts p h g
  one_field {ts = ts} (named i j x e h h2 a) (keyed k l l2 z w g b g2 g3 b2) p = absurd (omega (arith, tags ts (token.Name x) token.OpenBracket p h g))
  one_field {ts = ts} (named i j x e h h2 a) (named k l y f g g2 b) p =
      let r = one_expr a b (after_next p) in
      (r.0, λ d. field_at ts (p d) (field.Named (names ts p h g d) (r.1 d)))
  one_field {ts = ts} (named i j x e h h2 a) (item k l f g g2 b) p = clash (opens_named ts) p (named_there ts i x h h2) g2
  one_field {ts = ts} (item i j e h h2 a) (keyed k l l2 z w g b g2 g3 b2) p = misses_back ts p h g
  one_field {ts = ts} (item i j e h h2 a) (named k l y f g g2 b) p = clash_back (opens_named ts) p h2 (named_there ts k y g g2)
  one_field {ts = ts} (item i j e h h2 a) (item k l f g g2 b) p = let r = one_expr a b p in (r.0, λ d. field_at ts (p d) (field.Item (r.1 d)))

  pub one_body : {ts : List Token} {n m i j k l : ℕ} {xs ys : List StrId} {v w : Bool} {b c : List Stat} → IsBody ts n i xs v b j → IsBody ts m k ys w c l → i ≡ k → (j ≡ l) × (xs ≡ ys) × (v ≡ w) × (b ≡ c)
  one_body (body i j j2 j3 j4 xs v b a h a2 h2 a3 a4 h3) (body k l l2 l3 l4 ys w c b1 g b2 g2 b3 b4 g3) p =
      let r = one_param_list a2 b2 (next (one_generics a b1 p)) in
      let t = one_block a4 b4 (one_typing a3 b3 (next r.0)) (same_form_b a4 b4 (one_typing a3 b3 (next r.0))) in
      (next t.0, r.1, r.2, t.1)

  pub one_block : {ts : List Token} {n m i j k l : ℕ} {b c : List Stat} (x : IsBlock ts n i b j) (y : IsBlock ts m k c l) → i ≡ k → form_b x ≡ form_b y → (j ≡ l) × (b ≡ c)
  one_block (no_stat i h) (no_stat k g) p w = (p, refl)
  one_block (typing_stat i j j2 j3 b h a o x) (typing_stat k l l2 l3 c g a2 o2 y) p w =
      let e = one_optional o o2 (one_type_stat a a2 p) in
      one_block x y e (same_form_b x y e)
  one_block (more_stats i j j2 j3 s b h h2 a o x) (more_stats k l l2 l3 t c g g2 a2 o2 y) p w =
      let r = one_stat a a2 p (same_form_t a a2 p) in
      let e = one_optional o o2 r.0 in
      let rs = one_block x y e (same_form_b x y e) in
      (rs.0, λ d. r.1 d ∷ rs.1 d)
  one_block (last_stat i j j2 s a o h) (last_stat k l l2 t a2 o2 g) p w =
      let r = one_last a a2 p (same_form_l a a2 p) in
      (one_optional o o2 r.0, λ d. r.1 d ∷ [])
  one_block _ _ p w = absurd (omega (arith, w))

  pub one_last : {ts : List Token} {n m i j k l : ℕ} {s t : Stat} (x : IsLast ts n i s j) (y : IsLast ts m k t l) → i ≡ k → form_l x ≡ form_l y → (j ≡ l) × (s ≡ t)
  one_last {ts = ts} (bare_return i h u) (bare_return k g v) p w = (next p, λ d. stat_at ts (p d) (stat.Return []))
  one_last {ts = ts} (bare_return i h u) (return k l fs g v b) p w = clash (ends_last ts) (next p) u v
  one_last {ts = ts} (return i j es h u a) (bare_return k g v) p w = clash_back (ends_last ts) (next p) u v
  one_last {ts = ts} (return i j es h u a) (return k l fs g v b) p w = let r = one_list a b (next p) in (r.0, λ d. stat_at ts (p d) (stat.Return (r.1 d)))
  one_last {ts = ts} (break i h) (break k g) p w = (next p, λ d. stat_at ts (p d) stat.Break)
  one_last {ts = ts} (continue i h) (continue k g) p w = (next p, λ d. stat_at ts (p d) stat.Continue)
  one_last _ _ p w = absurd (omega (arith, w))

  pub one_targets : {ts : List Token} {n m i j k l : ℕ} {es fs : List Expr} → IsTargets ts n i es j → IsTargets ts m k fs l → i ≡ k → (j ≡ l) × (es ≡ fs)
  one_targets (last_target i j e a h) (last_target k l f b g) p = let r = one_prefix a b p in (r.0, λ d. r.1 d ∷ [])
  one_targets {ts = ts} (last_target i j e a h) (more_targets k l l2 f fs b g bs) p = let r = one_prefix a b p in misses_back ts r.0 h g
  one_targets {ts = ts} (more_targets i j j2 e es a h as_) (last_target k l f b g) p = let r = one_prefix a b p in misses ts r.0 h g
  one_targets (more_targets i j j2 e es a h as_) (more_targets k l l2 f fs b g bs) p =
      let r = one_prefix a b p in
      let rs = one_targets as_ bs (next r.0) in
      (rs.0, λ d. r.1 d ∷ rs.1 d)

  pub one_step : {ts : List Token} {n m i j k l : ℕ} {s t : Option Expr} → IsStep ts n i s j → IsStep ts m k t l → i ≡ k → (j ≡ l) × (s ≡ t)
  one_step (no_step i h) (no_step k g) p = (p, refl)
  one_step {ts = ts} (no_step i h) (step k l f g b) p = misses_back ts p h g
  one_step {ts = ts} (step i j e h a) (no_step k g) p = misses ts p h g
  one_step (step i j e h a) (step k l f g b) p = let r = one_expr a b (next p) in (r.0, λ d. Some (r.1 d))

  pub one_arms : {ts : List Token} {n m i j k l : ℕ} {as_ bs : List Arm} {o q : Option (List Stat)} → IsArms ts n i as_ o j → IsArms ts m k bs q l → i ≡ k → (j ≡ l) × (as_ ≡ bs) × (o ≡ q)
  one_arms (last_arm i j j2 c b a h a2 h2) (last_arm k l l2 c2 b2 x g x2 g2) p =
      let r = one_expr a x p in
      let t = one_block a2 x2 (next r.0) (same_form_b a2 x2 (next r.0)) in
      (next t.0, λ d. arm (r.1 d) (t.1 d) ∷ [], refl)
  one_arms {ts = ts} (last_arm i j j2 c b a h a2 h2) (else_arm k l l2 l3 c2 b2 o2 x g x2 g2 x3 g3) p =
      let r = one_expr a x p in
      let t = one_block a2 x2 (next r.0) (same_form_b a2 x2 (next r.0)) in
      absurd (omega (arith, tags ts token.End token.Else t.0 h2 g2))
  one_arms {ts = ts} (last_arm i j j2 c b a h a2 h2) (more_arms k l l2 l3 c2 b2 bs o2 x g x2 g2 x3) p =
      let r = one_expr a x p in
      let t = one_block a2 x2 (next r.0) (same_form_b a2 x2 (next r.0)) in
      absurd (omega (arith, tags ts token.End token.ElseIf t.0 h2 g2))
  one_arms {ts = ts} (else_arm i j j2 j3 c b o a h a2 h2 a3 h3) (last_arm k l l2 c2 b2 x g x2 g2) p =
      let r = one_expr a x p in
      let t = one_block a2 x2 (next r.0) (same_form_b a2 x2 (next r.0)) in
      absurd (omega (arith, tags ts token.Else token.End t.0 h2 g2))
  one_arms (else_arm i j j2 j3 c b o a h a2 h2 a3 h3) (else_arm k l l2 l3 c2 b2 o2 x g x2 g2 x3 g3) p =
      let r = one_expr a x p in
      let t = one_block a2 x2 (next r.0) (same_form_b a2 x2 (next r.0)) in
      let u = one_block a3 x3 (next t.0) (same_form_b a3 x3 (next t.0)) in
      (next u.0, λ d. arm (r.1 d) (t.1 d) ∷ [], λ d. Some (u.1 d))
  one_arms {ts = ts} (else_arm i j j2 j3 c b o a h a2 h2 a3 h3) (more_arms k l l2 l3 c2 b2 bs o2 x g x2 g2 x3) p =
      let r = one_expr a x p in
      let t = one_block a2 x2 (next r.0) (same_form_b a2 x2 (next r.0)) in
      absurd (omega (arith, tags ts token.Else token.ElseIf t.0 h2 g2))
  one_arms {ts = ts} (more_arms i j j2 j3 c b as_ o a h a2 h2 a3) (last_arm k l l2 c2 b2 x g x2 g2) p =
      let r = one_expr a x p in
      let t = one_block a2 x2 (next r.0) (same_form_b a2 x2 (next r.0)) in
      absurd (omega (arith, tags ts token.ElseIf token.End t.0 h2 g2))
  one_arms {ts = ts} (more_arms i j j2 j3 c b as_ o a h a2 h2 a3) (else_arm k l l2 l3 c2 b2 o2 x g x2 g2 x3 g3) p =
      let r = one_expr a x p in
      let t = one_block a2 x2 (next r.0) (same_form_b a2 x2 (next r.0)) in
      absurd (omega (arith, tags ts token.ElseIf token.Else t.0 h2 g2))
  one_arms (more_arms i j j2 j3 c b as_ o a h a2 h2 a3) (more_arms k l l2 l3 c2 b2 bs o2 x g x2 g2 x3) p =
      let r = one_expr a x p in
      let t = one_block a2 x2 (next r.0) (same_form_b a2 x2 (next r.0)) in
      let u = one_arms a3 x3 (next t.0) in
      (u.0, λ d. arm (r.1 d) (t.1 d) ∷ u.1 d, u.2)

  pub one_stat : {ts : List Token} {n m i j k l : ℕ} {s t : Stat} (x : IsStat ts n i s j) (y : IsStat ts m k t l) → i ≡ k → form_t x ≡ form_t y → (j ≡ l) × (s ≡ t)
  one_stat {ts = ts} (assign i j j2 es vs a h a2) (assign k l l2 fs us b g b2) p w =
      let r = one_targets a b p in
      let s = one_list a2 b2 (next r.0) in
      (s.0, λ d. stat_at ts (p d) (stat.Assign (r.1 d) (s.1 d)))
  one_stat {ts = ts} (assign i j j2 es vs a h a2) (compound k l l2 op f u b g b2) p w = absurd (assign_compound ts a h b g p)
  one_stat {ts = ts} (assign i j j2 es vs a h a2) (call_stat k l f b) p w = absurd (assign_call a b p)
  one_stat {ts = ts} (compound i j j2 op e v a h a2) (assign k l l2 fs us b g b2) p w =
      let q = first_target b in
      let r = one_prefix a q.prefix p in
      not_back ts compound_operator r.0 h (first_no_compound ts q g)
  one_stat {ts = ts} (compound i j j2 op e v a h a2) (compound k l l2 op2 f u b g b2) p w =
      let r = one_prefix a b p in
      let o = same_there ts compound_operator r.0 h g in
      let s = one_expr a2 b2 (next r.0) in
      (s.0, λ d. stat_at ts (p d) (stat.Compound (o d) (r.1 d) (s.1 d)))
  one_stat (compound i j j2 op e v a h a2) (call_stat k l f b) p w = let r = one_prefix a b p in absurd (omega (arith, ap end_number r.2))
  one_stat (call_stat i j e a) (assign k l l2 fs us b g b2) p w =
      let q = first_target b in
      let r = one_prefix a q.prefix p in
      absurd (omega (arith, ap end_number r.2))
  one_stat (call_stat i j e a) (compound k l l2 op f u b g b2) p w = let r = one_prefix a b p in absurd (omega (arith, ap end_number r.2))
  one_stat {ts = ts} (call_stat i j e a) (call_stat k l f b) p w = let r = one_prefix a b p in (r.0, λ d. stat_at ts (p d) (stat.Call (r.1 d)))
  one_stat {ts = ts} (do_stat i j b h a c) (do_stat k l b2 g a2 c2) p w =
      let t = one_block a a2 (next p) (same_form_b a a2 (next p)) in
      (next t.0, λ d. stat_at ts (p d) (stat.Do (t.1 d)))
  one_stat {ts = ts} (while_stat i j j2 c b h a h2 a2 h3) (while_stat k l l2 c2 b2 g x g2 x2 g3) p w =
      let r = one_expr a x (next p) in
      let t = one_block a2 x2 (next r.0) (same_form_b a2 x2 (next r.0)) in
      (next t.0, λ d. stat_at ts (p d) (stat.While (r.1 d) (t.1 d)))
  one_stat {ts = ts} (repeat_stat i j j2 b c h a h2 a2) (repeat_stat k l l2 b2 c2 g x g2 x2) p w =
      let t = one_block a x (next p) (same_form_b a x (next p)) in
      let r = one_expr a2 x2 (next t.0) in
      (r.0, λ d. stat_at ts (p d) (stat.Repeat (t.1 d) (r.1 d)))
  one_stat {ts = ts} (if_stat i j as_ o h a) (if_stat k l bs q g b) p w = let r = one_arms a b (next p) in (r.0, λ d. stat_at ts (p d) (stat.If (r.1 d) (r.2 d)))
  one_stat {ts = ts} (num_for i j j2 j3 j4 j5 x s t u b h1 h2 h3 h4 h5 h6 h7 h8 h9 h10) (num_for k l l2 l3 l4 l5 x2 s2 t2 u2 c g1 g2 g3 g4 g5 g6 g7 g8 g9 g10) p w =
      let r1 = one_bind h2 g2 (next p) in
      let r2 = one_expr h4 g4 (next r1.0) in
      let r3 = one_expr h6 g6 (next r2.0) in
      let r4 = one_step h7 g7 r3.0 in
      let r5 = one_block h9 g9 (next r4.0) (same_form_b h9 g9 (next r4.0)) in
      (next r5.0, λ d. stat_at ts (p d) (stat.NumFor (r1.1 d) (r2.1 d) (r3.1 d) (r4.1 d) (r5.1 d)))
  one_stat {ts = ts} (num_for i j j2 j3 j4 j5 x s t u b h1 h2 h3 h4 h5 h6 h7 h8 h9 h10) (gen_for k l l2 l3 ys fs c g1 g2 g3 g4 g5 g6 g7) p w = absurd (num_gen ts h2 h3 g2 g3 (next p))
  one_stat {ts = ts} (gen_for i j j2 j3 xs es b h1 h2 h3 h4 h5 h6 h7) (num_for k l l2 l3 l4 l5 x2 s2 t2 u2 c g1 g2 g3 g4 g5 g6 g7 g8 g9 g10) p w = absurd (num_gen ts g2 g3 h2 h3 (sym (next p)))
  one_stat {ts = ts} (gen_for i j j2 j3 xs es b h1 h2 h3 h4 h5 h6 h7) (gen_for k l l2 l3 ys fs c g1 g2 g3 g4 g5 g6 g7) p w =
      let r1 = one_binds h2 g2 (next p) in
      let r2 = one_list h4 g4 (next r1.0) in
      let r3 = one_block h6 g6 (next r2.0) (same_form_b h6 g6 (next r2.0)) in
      (next r3.0, λ d. stat_at ts (p d) (stat.GenFor (r1.1 d) (r2.1 d) (r3.1 d)))
  one_stat {ts = ts} (function_stat i j j2 e added xs v b h a a2) (function_stat k l l2 f added2 ys u c g x x2) p w =
      let r = one_function_name a x (next p) in
      let t = one_body a2 x2 r.0 in
      (t.0, λ d. stat_at ts (p d) (stat.Assign (r.1 d ∷ []) (expr_at ts (p d) (expr.Function (function_at ts (p d) (r.2 d ++ t.1 d) (t.2 d) (t.3 d))) ∷ [])))
  one_stat {ts = ts} (local_function i j x xs v b h h2 h3 a) (local_function k l y ys u c g g2 g3 a2) p w =
      let t = one_body a a2 (ap (λ q. q + 3) p) in
      (t.0, λ d. stat_at ts (p d) (stat.LocalFunction (names ts (after_next p) h3 g3 d) (function_at ts (next p d) (t.1 d) (t.2 d) (t.3 d))))
  one_stat {ts = ts} (local_function i j x xs v b h h2 h3 a) (bare_local k l ys g c g2) p w = absurd (function_binds ts h2 c (next p))
  one_stat {ts = ts} (local_function i j x xs v b h h2 h3 a) (local k l l2 ys fs g c g2 c2) p w = absurd (function_binds ts h2 c (next p))
  one_stat {ts = ts} (bare_local i j xs h a h2) (local_function k l y ys u c g g2 g3 a2) p w = absurd (function_binds ts g2 a (sym (next p)))
  one_stat {ts = ts} (bare_local i j xs h a h2) (bare_local k l ys g c g2) p w = let r = one_binds a c (next p) in (r.0, λ d. stat_at ts (p d) (stat.Local (r.1 d) []))
  one_stat {ts = ts} (bare_local i j xs h a h2) (local k l l2 ys fs g c g2 c2) p w = let r = one_binds a c (next p) in misses_back ts r.0 h2 g2
  one_stat {ts = ts} (local i j j2 xs es h a h2 a2) (local_function k l y ys u c g g2 g3 b2) p w = absurd (function_binds ts g2 a (sym (next p)))
  one_stat {ts = ts} (local i j j2 xs es h a h2 a2) (bare_local k l ys g c g2) p w = let r = one_binds a c (next p) in misses ts r.0 h2 g2
  one_stat {ts = ts} (local i j j2 xs es h a h2 a2) (local k l l2 ys fs g c g2 c2) p w =
      let r = one_binds a c (next p) in
      let s = one_list a2 c2 (next r.0) in
      (s.0, λ d. stat_at ts (p d) (stat.Local (r.1 d) (s.1 d)))
  one_stat _ _ p w = absurd (omega (arith, w))

  -- an assignment is no compound one, and no call
  assign_compound : (ts : List Token) {n m i j k l : ℕ} {es : List Expr} {f : Expr} {op : BinOp} → IsTargets ts n i es j → Has ts j token.Equal → IsPrefix ts m k f in_target l → compound_operator (kind_at ts l) ≡ Some op → i ≡ k → ⊥
  assign_compound ts (last_target i j e a h) g b u p =
      let r = one_prefix a b p in
      none_some (sym (ap compound_operator g) ∙ ap (λ x. compound_operator (kind_at ts x)) r.0 ∙ u)
  assign_compound ts (more_targets i j j2 e es a h as_) g b u p =
      let r = one_prefix a b p in
      none_some (sym (ap compound_operator h) ∙ ap (λ x. compound_operator (kind_at ts x)) r.0 ∙ u)

  assign_call : {ts : List Token} {n m i j k l : ℕ} {es : List Expr} {f : Expr} → IsTargets ts n i es j → IsPrefix ts m k f in_call l → i ≡ k → ⊥
  assign_call (last_target i j e a h) b p = let r = one_prefix a b p in absurd (omega (arith, ap end_number r.2))
  assign_call (more_targets i j j2 e es a h as_) b p = let r = one_prefix a b p in absurd (omega (arith, ap end_number r.2))

-- a block that begins at a place goes on to one place, and is one
pub same_block : {ts : List Token} {n m i j k l : ℕ} {b c : List Stat} → IsBlock ts n i b j → IsBlock ts m k c l → i ≡ k → (j ≡ l) × (b ≡ c)
same_block x y p = one_block x y p (same_form_b x y p)
