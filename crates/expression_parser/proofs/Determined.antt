-- Names with their types are read in one way.
use Rattle.std.proofs.Common.{◌≡◌, ℕ, Bool, List, [], ◌∷◌, Option, Some, None, refl, sym, ap, ◌∙◌, arith}
use Rattle.byte_text.specs.declared.StrId.{StrId}
use Rattle.syntax_tree.specs.declared.token.Token.{Token}
use Rattle.syntax_tree.specs.declared.token.TokenKind.{TokenKind}
use Rattle.syntax_tree.specs.declared.token.TokenKind.TheVariants as token
use Rattle.syntax_tree.specs.declared.tree.Expr.{Expr}
use Rattle.syntax_tree.specs.declared.tree.ExprKind as expr
use Rattle.syntax_tree.specs.Places.{kind_at, Has}
use Rattle.syntax_tree.specs.Nodes.{expr_at}
use Rattle.syntax_tree.specs.Words.{self_name}
use Rattle.syntax_tree.specs.Grammar.{IsTyping, untyped, typed, IsBind, bind, IsBinds, last_bind, more_binds, IsParams, last_param, more_params, dots, IsParamList, no_params, params, IsTypeDefinition, type_definition, IsTypeStat, private_type, exported_type, IsMembers, no_member, more_members, IsFunctionName, function_name, method_name}
use Rattle.type_skip.proofs.OneType.{misses, misses_back, next, after_next, one_type, one_generics}

-- ---- tokens at one place

-- a number of each token kind
abbrev pub tag : Option TokenKind → ℕ
tag None = 0
tag (Some (token.Name x)) = 1
tag (Some (token.Number n)) = 2
tag (Some (token.Str x)) = 3
tag (Some (token.InterpBegin x)) = 4
tag (Some (token.InterpMid x)) = 5
tag (Some (token.InterpEnd x)) = 6
tag (Some (token.InterpWhole x)) = 7
tag (Some token.Break) = 8
tag (Some token.Do) = 9
tag (Some token.Else) = 10
tag (Some token.ElseIf) = 11
tag (Some token.End) = 12
tag (Some token.For) = 13
tag (Some token.Function) = 14
tag (Some token.If) = 15
tag (Some token.In) = 16
tag (Some token.Local) = 17
tag (Some token.Repeat) = 18
tag (Some token.Return) = 19
tag (Some token.While) = 20
tag (Some token.Equal) = 21
tag (Some token.OpenParen) = 22
tag (Some token.CloseParen) = 23
tag (Some token.OpenBrace) = 24
tag (Some token.OpenBracket) = 25
tag (Some token.Colon) = 26
tag (Some token.Comma) = 27
tag (Some token.Dot) = 28
tag (Some token.TripleDot) = 29
tag (Some _) = 30

pub tags : (ts : List Token) {i k : ℕ} (a b : TokenKind) → i ≡ k → Has ts i a → Has ts k b → tag (Some a) ≡ tag (Some b)
tags ts a b e h g = ap tag (sym h ∙ ap (kind_at ts) e ∙ g)

-- the text of a token
abbrev pub text_of : Option TokenKind → StrId
text_of (Some (token.Name x)) = x
text_of (Some (token.Str x)) = x
text_of (Some (token.InterpBegin x)) = x
text_of (Some (token.InterpMid x)) = x
text_of (Some (token.InterpEnd x)) = x
text_of (Some (token.InterpWhole x)) = x
text_of _ = self_name

pub texts : (ts : List Token) {i k : ℕ} (a b : TokenKind) → i ≡ k → Has ts i a → Has ts k b → text_of (Some a) ≡ text_of (Some b)
texts ts a b e h g = ap text_of (sym h ∙ ap (kind_at ts) e ∙ g)

pub names : (ts : List Token) {i k : ℕ} {x y : StrId} → i ≡ k → Has ts i (token.Name x) → Has ts k (token.Name y) → x ≡ y
names ts {x = x} {y = y} e h g = texts ts (token.Name x) (token.Name y) e h g

-- ---- binds

pub one_typing : {ts : List Token} {n m i j k l : ℕ} → IsTyping ts n i j → IsTyping ts m k l → i ≡ k → j ≡ l
one_typing (untyped i h) (untyped k g) e = e
one_typing {ts = ts} (untyped i h) (typed k l g t) e = misses_back ts e h g
one_typing {ts = ts} (typed i j h t) (untyped k g) e = misses ts e h g
one_typing (typed i j h t) (typed k l g u) e = one_type t u (next e)

pub one_bind : {ts : List Token} {n m i j k l : ℕ} {x y : StrId} → IsBind ts n i x j → IsBind ts m k y l → i ≡ k → (j ≡ l) × (x ≡ y)
one_bind {ts = ts} (bind i j x h t) (bind k l y g u) e = (one_typing t u (next e), names ts e h g)

pub one_binds : {ts : List Token} {n m i j k l : ℕ} {xs ys : List StrId} → IsBinds ts n i xs j → IsBinds ts m k ys l → i ≡ k → (j ≡ l) × (xs ≡ ys)
one_binds (last_bind i j x b h) (last_bind k l y c g) e = let r = one_bind b c e in (r.0, λ d. r.1 d ∷ [])
one_binds {ts = ts} (last_bind i j x b h) (more_binds k l l2 y ys c g cs) e = let r = one_bind b c e in misses_back ts r.0 h g
one_binds {ts = ts} (more_binds i j j2 x xs b h bs) (last_bind k l y c g) e = let r = one_bind b c e in misses ts r.0 h g
one_binds (more_binds i j j2 x xs b h bs) (more_binds k l l2 y ys c g cs) e =
    let r = one_bind b c e in
    let rs = one_binds bs cs (next r.0) in
    (rs.0, λ d. r.1 d ∷ rs.1 d)

pub bind_starts : {ts : List Token} {n i j : ℕ} {x : StrId} → IsBind ts n i x j → Has ts i (token.Name x)
bind_starts (bind i j x h t) = h

pub one_params : {ts : List Token} {n m i j k l : ℕ} {xs ys : List StrId} {v w : Bool} → IsParams ts n i xs v j → IsParams ts m k ys w l → i ≡ k → (j ≡ l) × (xs ≡ ys) × (v ≡ w)
one_params (last_param i j x b h) (last_param k l y c g) e = let r = one_bind b c e in (r.0, λ d. r.1 d ∷ [], refl)
one_params {ts = ts} (last_param i j x b h) (more_params k l l2 y ys w c g cs) e = let r = one_bind b c e in misses_back ts r.0 h g
one_params {ts = ts} (last_param i j x b h) (dots k l g t) e = absurd (omega (arith, tags ts (token.Name x) token.TripleDot e (bind_starts b) g))
one_params {ts = ts} (more_params i j j2 x xs v b h bs) (last_param k l y c g) e = let r = one_bind b c e in misses ts r.0 h g
one_params (more_params i j j2 x xs v b h bs) (more_params k l l2 y ys w c g cs) e =
    let r = one_bind b c e in
    let rs = one_params bs cs (next r.0) in
    (rs.0, λ d. r.1 d ∷ rs.1 d, rs.2)
one_params {ts = ts} (more_params i j j2 x xs v b h bs) (dots k l g t) e = absurd (omega (arith, tags ts (token.Name x) token.TripleDot e (bind_starts b) g))
one_params {ts = ts} (dots i j h t) (last_param k l y c g) e = absurd (omega (arith, tags ts token.TripleDot (token.Name y) e h (bind_starts c)))
one_params {ts = ts} (dots i j h t) (more_params k l l2 y ys w c g cs) e = absurd (omega (arith, tags ts token.TripleDot (token.Name y) e h (bind_starts c)))
one_params (dots i j h t) (dots k l g u) e = (one_typing t u (next e), refl, refl)

pub one_param_list : {ts : List Token} {n m i j k l : ℕ} {xs ys : List StrId} {v w : Bool} → IsParamList ts n i xs v j → IsParamList ts m k ys w l → i ≡ k → (j ≡ l) × (xs ≡ ys) × (v ≡ w)
one_param_list (no_params i h) (no_params k g) e = (e, refl, refl)
one_param_list {ts = ts} (no_params i h) (params k l ys w g q) e = misses ts e h g
one_param_list {ts = ts} (params i j xs v h p) (no_params k g) e = misses_back ts e h g
one_param_list (params i j xs v h p) (params k l ys w g q) e = one_params p q e

one_definition : {ts : List Token} {n m i j k l : ℕ} → IsTypeDefinition ts n i j → IsTypeDefinition ts m k l → i ≡ k → j ≡ l
one_definition (type_definition i j j2 x h g f t) (type_definition k l l2 y h2 g2 f2 u) e = one_type t u (next (one_generics g g2 (next e)))

pub one_type_stat : {ts : List Token} {n m i j k l : ℕ} → IsTypeStat ts n i j → IsTypeStat ts m k l → i ≡ k → j ≡ l
one_type_stat (private_type i j h t) (private_type k l g u) e = one_definition t u (next e)
one_type_stat {ts = ts} (private_type i j h t) (exported_type k l g f u) e = absurd (omega (arith, ap (λ (x : StrId). x.0) (names ts e h g)))
one_type_stat {ts = ts} (exported_type i j h f t) (private_type k l g u) e = absurd (omega (arith, ap (λ (x : StrId). x.0) (names ts e h g)))
one_type_stat (exported_type i j h f t) (exported_type k l g f2 u) e = one_definition t u (after_next e)

-- ---- the names of functions

one_members : {ts : List Token} {b c i j k l : ℕ} {a a2 x y : Expr} → IsMembers ts b i a x j → IsMembers ts c k a2 y l → b ≡ c → i ≡ k → a ≡ a2 → (j ≡ l) × (x ≡ y)
one_members (no_member i a h) (no_member k a2 g) f e s = (e, s)
one_members {ts = ts} (no_member i a h) (more_members k l y a2 z g g2 m) f e s = misses_back ts e h g
one_members {ts = ts} (more_members i j x a z h h2 m) (no_member k a2 g) f e s = misses ts e h g
one_members {ts = ts} (more_members i j x a z h h2 m) (more_members k l y a2 z2 g g2 m2) f e s =
    one_members m m2 f (after_next e) (λ d. expr_at ts (f d) (expr.Member (s d) (names ts (next e) h2 g2 d)))

pub one_function_name : {ts : List Token} {i j k l : ℕ} {x y : Expr} {xs ys : List StrId} → IsFunctionName ts i x xs j → IsFunctionName ts k y ys l → i ≡ k → (j ≡ l) × (x ≡ y) × (xs ≡ ys)
one_function_name {ts = ts} (function_name i j x e h m c) (function_name k l y e2 g m2 c2) p =
    let r = one_members m m2 p (next p) (λ d. expr_at ts (p d) (expr.Name (names ts p h g d))) in
    (r.0, r.1, refl)
one_function_name {ts = ts} (function_name i j x e h m c) (method_name k l y z e2 g m2 c2 g2) p =
    let r = one_members m m2 p (next p) (λ d. expr_at ts (p d) (expr.Name (names ts p h g d))) in
    misses_back ts r.0 c c2
one_function_name {ts = ts} (method_name i j x w e h m c h2) (function_name k l y e2 g m2 c2) p =
    let r = one_members m m2 p (next p) (λ d. expr_at ts (p d) (expr.Name (names ts p h g d))) in
    misses ts r.0 c c2
one_function_name {ts = ts} (method_name i j x w e h m c h2) (method_name k l y z e2 g m2 c2 g2) p =
    let r = one_members m m2 p (next p) (λ d. expr_at ts (p d) (expr.Name (names ts p h g d))) in
    (after_next r.0, λ d. expr_at ts (p d) (expr.Member (r.1 d) (names ts (next r.0) h2 g2 d)), refl)
