-- The token lists without a tree.
use Rattle.std.proofs.Common.{◌≡◌, ◌+◌, ℕ, List, [], ◌∷◌, Some, None, IsTrue, IsFalse, ◌⊎◌, inl, inr, refl, sym, ap, ◌∙◌, arith, true≢false}
use Rattle.byte_text.specs.declared.StrId.{StrId}
use Rattle.syntax_tree.specs.declared.token.Token.{Token}
use Rattle.syntax_tree.specs.declared.token.TokenKind.TheVariants as token
use Rattle.syntax_tree.specs.declared.tree.Expr.{Expr}
use Rattle.syntax_tree.specs.declared.tree.ExprKind as expr
use Rattle.syntax_tree.specs.declared.tree.Stat.{Stat}
use Rattle.syntax_tree.specs.declared.tree.StatKind as stat
use Rattle.syntax_tree.specs.Places.{kind_at, is_name, Has, Lacks, Optional, taken, absent}
use Rattle.syntax_tree.specs.Types.{IsType, plain_type, last_part, part, IsAtom, literal, named, no_mark, no_member, no_arguments, no_generics, IsMarks}
use Rattle.syntax_tree.specs.Types as types
use Rattle.syntax_tree.specs.Operators.{compound_operator}
use Rattle.syntax_tree.specs.Words.{ends_block}
use Rattle.syntax_tree.specs.Grammar as grammar
use Rattle.syntax_tree.specs.Grammar.{PrefixEnd, in_target, in_call, in_paren, IsExpr, IsLevel, IsConcat, IsUnary, IsPow, IsCast, IsSimple, IsPrefix, IsStat, IsBlock, IsLast, IsArgs}
use Rattle.type_skip.proofs.OneType.{one_optional}
use Rattle.expression_parser.proofs.Determined.{bind_starts}
use Rattle.luau_parser.proofs.OneTree.{none_some, form_t, form_t_is, form_t_some, form_b, form_b_is, same_form_l, part_form, stat_form, end_number, first_target, one_prefix, one_last}
use Rattle.luau_parser.proofs.ExampleTrees.{a_name, a_call, name_simple, name_expr, cast_power, unary_products, products_sums, sums_expr}
use Rattle.luau_parser.specs.Examples.{tokens, HasNone, Trees, Refusals, one, a, b, c}
use Rattle.luau_parser.specs.Examples as example

-- ---- what a block begins with

block_over : {ts : List Token} {n i j : ℕ} {b : List Stat} (x : IsBlock ts n i b j) → form_b x ≡ 0 → i ≡ j
block_over (grammar.no_stat i h) e = refl
block_over _ e = absurd (omega (arith, e))

record Begins (ts : List Token) (n i j : ℕ) : Type 0 where
  pub s : Stat
  pub stop : ℕ
  pub behind : ℕ
  pub block : List Stat
  pub stat : IsStat ts n i s stop
  pub semicolon : Optional ts token.Semicolon stop behind
  pub rest : IsBlock ts n behind block j

block_stat : {ts : List Token} {n i j : ℕ} {b : List Stat} (x : IsBlock ts n i b j) → form_b x ≡ 2 → Begins ts n i j
block_stat (grammar.more_stats i j k l s b h g t o p) e = record { s = s; stop = j; behind = k; block = b; stat = t; semicolon = o; rest = p }
block_stat _ e = absurd (omega (arith, e))

record Lasts (ts : List Token) (n i j : ℕ) : Type 0 where
  pub s : Stat
  pub stop : ℕ
  pub last : IsLast ts n i s stop
  pub semicolon : Optional ts token.Semicolon stop j
  pub ended : IsTrue (ends_block (kind_at ts j))

block_last : {ts : List Token} {n i j : ℕ} {b : List Stat} (x : IsBlock ts n i b j) → form_b x ≡ 3 → Lasts ts n i j
block_last (grammar.last_stat i j k s t o h) e = record { s = s; stop = j; last = t; semicolon = o; ended = h }
block_last _ e = absurd (omega (arith, e))

form_here : {ts : List Token} {n i j : ℕ} {b : List Stat} (k : ℕ) (x : IsBlock ts n i b j) → part_form ts i ≡ k → form_b x ≡ k
form_here k x e = sym (form_b_is x) ∙ e

stat_here : {ts : List Token} {n i j : ℕ} {s : Stat} (k : ℕ) (x : IsStat ts n i s j) → stat_form (kind_at ts i) ≡ k → form_t x ≡ k
stat_here k x e = sym (form_t_is x) ∙ e

-- no block goes on where no statement begins
no_block : {ts : List Token} {n i j : ℕ} {b : List Stat} → part_form ts i ≡ 2 → stat_form (kind_at ts i) ≡ 0 → IsBlock ts n i b j → ⊥
no_block e f x =
    let s = block_stat x (form_here 2 x e) in
    omega (arith, form_t_some s.stat, stat_here 0 s.stat f)

-- ---- statements that begin as a prefix

call_stops : {ts : List Token} {n m i j l : ℕ} {s : Stat} {f : Expr} (x : IsStat ts n i s j) → form_t x ≡ 1 → IsPrefix ts m i f in_call l → j ≡ l
call_stops (grammar.assign i j k es vs t h v) e p = let q = first_target t in let r = one_prefix q.prefix p refl in absurd (omega (arith, ap end_number r.2))
call_stops (grammar.compound i j k op g v q h x) e p = let r = one_prefix q p refl in absurd (omega (arith, ap end_number r.2))
call_stops (grammar.call_stat i j g q) e p = let r = one_prefix q p refl in r.0
call_stops _ e p = absurd (omega (arith, e))

-- a prefix that is no call, and behind which nothing assigns
no_stat_of : {ts : List Token} {n m i j l : ℕ} {s : Stat} {f : Expr} {d : PrefixEnd} (x : IsStat ts n i s j) → form_t x ≡ 1 → IsPrefix ts m i f d l → (d ≡ in_call → ⊥) → kind_at ts l ≡ None → ⊥
no_stat_of {ts = ts} {l = l} (grammar.assign i j k es vs t h v) e p no_call over =
    let q = first_target t in
    let r = one_prefix q.prefix p refl in
    by_cases q.j r.0 q.behind
  where
    by_cases : (w : ℕ) → w ≡ l → (w ≡ j) ⊎ Has ts w token.Comma → ⊥
    by_cases w e (inl g) = none_some (sym over ∙ ap (kind_at ts) (sym e ∙ g) ∙ h)
    by_cases w e (inr g) = none_some (sym over ∙ ap (kind_at ts) (sym e) ∙ g)
no_stat_of {ts = ts} (grammar.compound i j k op g v q h x) e p no_call over =
    let r = one_prefix q p refl in
    none_some (sym (ap compound_operator over) ∙ ap (λ w. compound_operator (kind_at ts w)) (sym r.0) ∙ h)
no_stat_of (grammar.call_stat i j g q) e p no_call over = let r = one_prefix q p refl in no_call (sym r.2)
no_stat_of _ e p no_call over = omega (arith, e)

-- ---- the examples

end_alone : HasNone (token.End ∷ [])
end_alone n block x =
    let e = block_over x.derived (form_here 0 x.derived refl) in
    none_some (sym x.whole ∙ ap (kind_at (tokens (token.End ∷ []))) (sym e))

equal_first : HasNone (token.Equal ∷ one ∷ [])
equal_first n block x = no_block refl refl x.derived

number_alone : HasNone (one ∷ [])
number_alone n block x = no_block refl refl x.derived

name_alone : HasNone (token.Name a ∷ [])
name_alone n block x =
    let ts = tokens (token.Name a ∷ []) in
    let s = block_stat x.derived (form_here 2 x.derived refl) in
    no_stat_of s.stat (stat_here 1 s.stat refl) (a_name ts 0 0 a refl refl) (λ e. omega (arith, ap end_number e)) refl

paren_alone : HasNone (token.OpenParen ∷ token.Name a ∷ token.CloseParen ∷ [])
paren_alone n block x =
    let ts = tokens (token.OpenParen ∷ token.Name a ∷ token.CloseParen ∷ []) in
    let s = block_stat x.derived (form_here 2 x.derived refl) in
    let e = example.node 0 (expr.Paren (example.name 1 a)) in
    let whole : IsPrefix ts 0 0 e in_paren 3 = grammar.paren 0 2 3 (example.name 1 a) e in_paren refl (name_expr ts 0 1 a refl refl refl) refl (grammar.no_suffix 0 3 e in_paren refl) in
    no_stat_of s.stat (stat_here 1 s.stat refl) whole (λ e. omega (arith, ap end_number e)) refl

call_assigned : HasNone (token.Name a ∷ token.OpenParen ∷ token.CloseParen ∷ token.Equal ∷ one ∷ [])
call_assigned n block x =
    let ts = tokens (token.Name a ∷ token.OpenParen ∷ token.CloseParen ∷ token.Equal ∷ one ∷ []) in
    let s = block_stat x.derived (form_here 2 x.derived refl) in
    let stops = call_stops s.stat (stat_here 1 s.stat refl) (a_call ts 0 0 a refl refl refl 3 refl refl refl) in
    let behind = one_optional s.semicolon (absent 3 (λ (e : kind_at ts 3 ≡ Some token.Semicolon). cc)) stops in
    no_block (ap (part_form ts) behind) (ap (λ w. stat_form (kind_at ts w)) behind) s.rest

no_binds : {ts : List Token} {n i j : ℕ} {xs : List StrId} → grammar.IsBinds ts n i xs j → IsTrue (is_name (kind_at ts i))
no_binds (grammar.last_bind i j x p h) = ap is_name (bind_starts p)
no_binds (grammar.more_binds i j k x xs p h ps) = ap is_name (bind_starts p)

no_local : {ts : List Token} {n i j : ℕ} {s : Stat} (x : IsStat ts n i s j) → form_t x ≡ 8 → IsFalse (is_name (kind_at ts (i + 1))) → Lacks ts (i + 1) token.Function → ⊥
no_local (grammar.local_function i j x xs v b h g f p) e name function = function g
no_local (grammar.bare_local i j xs h p g) e name function = true≢false (sym (no_binds p) ∙ name)
no_local (grammar.local i j k xs es h p g v) e name function = true≢false (sym (no_binds p) ∙ name)
no_local _ e name function = omega (arith, e)

local_number : HasNone (token.Local ∷ one ∷ [])
local_number n block x =
    let s = block_stat x.derived (form_here 2 x.derived refl) in
    no_local s.stat (stat_here 8 s.stat refl) refl (λ e. cc)

local_alone : HasNone (token.Local ∷ [])
local_alone n block x =
    let s = block_stat x.derived (form_here 2 x.derived refl) in
    no_local s.stat (stat_here 8 s.stat refl) refl (λ e. cc)

-- behind a last statement the block does not end
no_last : (ts : List Token) {n m i j k l : ℕ} {s : Stat} → Lasts ts n i j → IsLast ts m i s k → Optional ts token.Semicolon k l → IsFalse (ends_block (kind_at ts l)) → ⊥
no_last ts x y o h =
    let r = one_last x.last y refl (same_form_l x.last y refl) in
    let e = one_optional x.semicolon o r.0 in
    true≢false (sym x.ended ∙ ap (λ w. ends_block (kind_at ts w)) e ∙ h)

behind_break : HasNone (token.Break ∷ token.Name a ∷ [])
behind_break n block x =
    let ts = tokens (token.Break ∷ token.Name a ∷ []) in
    let y : IsLast ts 0 0 (example.stat_node 0 stat.Break) 1 = grammar.break 0 refl in
    no_last ts (block_last x.derived (form_here 3 x.derived refl)) y (absent 1 (λ (e : kind_at ts 1 ≡ Some token.Semicolon). cc)) refl

two_semicolons : HasNone (token.Break ∷ token.Semicolon ∷ token.Semicolon ∷ [])
two_semicolons n block x =
    let ts = tokens (token.Break ∷ token.Semicolon ∷ token.Semicolon ∷ []) in
    let y : IsLast ts 0 0 (example.stat_node 0 stat.Break) 1 = grammar.break 0 refl in
    let o : Optional ts token.Semicolon 1 2 = taken 1 refl in
    no_last ts (block_last x.derived (form_here 3 x.derived refl)) y o refl

no_do : {ts : List Token} {n i j : ℕ} {s : Stat} (x : IsStat ts n i s j) → form_t x ≡ 2 → part_form ts (i + 1) ≡ 0 → Lacks ts (i + 1) token.End → ⊥
no_do {ts = ts} (grammar.do_stat i j b h p c) e f lacks =
    let over = block_over p (form_here 0 p f) in
    lacks (ap (kind_at ts) over ∙ c)
no_do _ e f lacks = omega (arith, e)

do_alone : HasNone (token.Do ∷ [])
do_alone n block x =
    let s = block_stat x.derived (form_here 2 x.derived refl) in
    no_do s.stat (stat_here 2 s.stat refl) refl (λ e. cc)

two_casts : HasNone (token.Return ∷ token.Name a ∷ token.DoubleColon ∷ token.Name b ∷ token.DoubleColon ∷ token.Name c ∷ [])
two_casts n block x =
    let ts = tokens (token.Return ∷ token.Name a ∷ token.DoubleColon ∷ token.Name b ∷ token.DoubleColon ∷ token.Name c ∷ []) in
    let all = example.node 1 (expr.Paren (example.name 1 a)) in
    let type : IsType ts 0 3 4 =
    types.plain_type 0 3 4 refl (types.last_part 0 3 4 (types.part 0 3 4 4 (types.named 0 3 4 4 4 refl refl (types.no_member 4 (λ e. cc)) (types.no_arguments 0 4 (λ e. cc)) (absent 4 (λ e. cc))) (types.no_mark 4 (λ e. cc))) refl) in
    let casted : IsCast ts 0 1 all 4 = grammar.cast 1 2 4 (example.name 1 a) (name_simple ts 0 1 a refl refl) refl type in
    let e : IsExpr ts 0 1 all 4 = sums_expr (products_sums (unary_products (cast_power casted (λ e. cc) refl) refl) refl) (λ e. cc) refl refl refl in
    let y : IsLast ts 0 0 (example.stat_node 0 (stat.Return (all ∷ []))) 4 = grammar.return 0 4 (all ∷ []) refl refl (grammar.last_expr 1 4 all e (λ e. cc)) in
    no_last ts (block_last x.derived (form_here 3 x.derived refl)) y (absent 4 (λ (e : kind_at ts 4 ≡ Some token.Semicolon). cc)) refl

pub refusals : Refusals
refusals = record {
  end_alone = end_alone;
  equal_first = equal_first;
  number_alone = number_alone;
  name_alone = name_alone;
  paren_alone = paren_alone;
  call_assigned = call_assigned;
  local_number = local_number;
  local_alone = local_alone;
  behind_break = behind_break;
  two_semicolons = two_semicolons;
  do_alone = do_alone;
  two_casts = two_casts;
}
