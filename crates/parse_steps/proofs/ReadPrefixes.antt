-- What a run reads for prefixes and arguments, and for the beginning of an expression.
use Rattle.std.proofs.Common.{◌≡◌, ℕ, suc, ◌+◌, Bool, true, false, IsTrue, IsFalse, List, [], ◌∷◌, ◌++◌, Option, Some, None, ◌⊎◌, inl, inr, refl, ap, ◌∙◌, rules, arith, Contains}
use Rattle.std.proofs.lemmas.List.Elements.{Contains-append_left, Contains-append_right, Contains-append_cases}
use Rattle.syntax_tree.specs.declared.token.TokenKind.{TokenKind}
use Rattle.syntax_tree.specs.declared.token.TokenKind.TheVariants as token
use Rattle.syntax_tree.specs.declared.tree.Expr.{Expr}
use Rattle.syntax_tree.specs.declared.tree.ExprKind.{ExprKind}
use Rattle.syntax_tree.specs.declared.tree.ExprKind as expr
use Rattle.syntax_tree.specs.declared.tree.UnOp.{UnOp}
use Rattle.syntax_tree.specs.Calls.{Places}
use Rattle.syntax_tree.specs.Grammar as grammar
use Rattle.syntax_tree.specs.Grammar.{PrefixEnd, in_target, in_call, in_paren, IsArgs, IsSimple, IsUnary}
use Rattle.syntax_tree.specs.Nodes.{expr_at, call_at, function_at}
use Rattle.syntax_tree.specs.Operators.{unary_operator}
use Rattle.syntax_tree.specs.Places.{kind_at, Has}
use Rattle.syntax_tree.specs.Words.{opens_suffix, literal_of}
use Rattle.parse_steps.specs.declared.classes.Suffix.{Suffix}
use Rattle.parse_steps.specs.declared.classes.Suffix.TheVariants as suffix
use Rattle.type_skip.specs.declared.words.Word.TheVariants as word
use Rattle.parse_steps.proofs.CallPlaces.{calls_expr, calls_exprs, calls_fields}
use Rattle.parse_steps.specs.Classes as classes
use Rattle.parse_steps.specs.Items.{Item, PrefixUse, in_expression}
use Rattle.parse_steps.specs.Items as item
use Rattle.parse_steps.specs.Turns.{Turn, stops, stays, takes, unary_turn, simple_turn, arguments_turn, suffix_turn}
use Rattle.parse_steps.proofs.Accepting.{Text, Rest, After, Owes, in_part, further, Reads, turned, turned_once, by_word, read_word, read_name, sooner, raised, wrapped, greater, nowhere, anything, behind, same, unopened}
use Rattle.parse_steps.proofs.NodeCalls.{calls_name, calls_paren, calls_unary, calls_index, calls_member, calls_call, calls_method, calls_table, calls_function, calls_choice, calls_interp, calls_function_at}
use Rattle.parse_steps.proofs.Readings.{All, ReadsSuffixes}
use Rattle.parse_steps.proofs.ReadBodies.{read_body}
use Rattle.parse_steps.proofs.ReadLevels.{from, read_expr, read_unary}
use Rattle.parse_steps.proofs.ReadParts.{two_places, read_list, read_pieces, read_choices, read_table}

-- ---- where arguments open

later_place : {s : Text} {f : Bool} (i : ℕ) (cs : Places) → Owes s cs f → Owes s (i ∷ cs) f
later_place {s = s} i cs (in_part c) = in_part (Contains-append_right (i ∷ []) cs s.place c)
later_place i cs (further t) = further t

-- the place of arguments, and those in them
opened_owes : {s : Text} {i : ℕ} {f q g : Bool} (cs : Places) → (IsTrue f → (i ≡ s.place) ⊎ IsTrue q) → (Owes s [] q → Owes s cs g) → Owes s [] f → Owes s (i ∷ cs) g
opened_owes cs o rest (in_part c) = nowhere c
opened_owes {s = s} {i = i} {q = q} {g = g} cs o rest (further t) = decide (o t)
  where
    decide : (i ≡ s.place) ⊎ IsTrue q → Owes s (i ∷ cs) g
    decide (inl here) = in_part (0, omega arith, here)
    decide (inr later) = later_place i cs (rest (further later))

-- arguments behind the part that is called
call_owes : {s : Text} {f g : Bool} (i : ℕ) (ds cs : Places) → (Owes s [] f → Owes s (i ∷ cs) g) → Owes s ds f → Owes s ((i ∷ ds) ++ cs) g
call_owes {s = s} i ds cs rest (in_part c) = in_part (Contains-append_left (i ∷ ds) cs s.place (Contains-append_right (i ∷ []) ds s.place c))
call_owes {s = s} {g = g} i ds cs rest (further t) = sorted (rest (further t))
  where
    parted : Contains (i ∷ []) s.place ⊎ Contains cs s.place → Owes s ((i ∷ ds) ++ cs) g
    parted (inl c) = in_part (Contains-append_left (i ∷ ds) cs s.place (Contains-append_left (i ∷ []) ds s.place c))
    parted (inr c) = in_part (Contains-append_right (i ∷ ds) cs s.place c)

    sorted : Owes s (i ∷ cs) g → Owes s ((i ∷ ds) ++ cs) g
    sorted (in_part c) = parted (Contains-append_cases (i ∷ []) cs s.place c)
    sorted (further u) = further u

-- ---- arguments

read_argument_list : {s : Text} {g : ℕ} {k : List Item} {f : Bool} → All s g → (i : ℕ) → Has s.tokens i token.OpenParen → Rest s g (i + 1) (item.argument_list ∷ k) f → Reads s (List Expr) (λ es j. IsArgs s.tokens s.brackets i es j) calls_exprs [] g k f
read_argument_list {f = f} h i opens r =
    by_word word.CloseParen _ _ (turned_once r)
    (λ stands rest. record { tree = []; stop = i + 2; is = grammar.no_args i opens stands; owed = f; owes = λ o. o; rest = two_places i rest })
    (λ lacks rest.
    let l = read_list h rest.rest in
    let c = read_word word.CloseParen l.rest in
    record { tree = l.tree; stop = l.stop + 1; is = grammar.args i l.stop l.tree opens lacks l.is c.0; owed = l.owed; owes = l.owes; rest = c.1 })

read_arguments : {s : Text} {g i : ℕ} {k : List Item} {f : Bool} → All s g → (v : ℕ) (t : Option TokenKind) → kind_at s.tokens i ≡ t → After s g i ⊥ true f (arguments_turn (classes.arguments t) v k) → Reads s (List Expr) (λ es j. IsArgs s.tokens s.brackets i es j) (λ es. i ∷ calls_exprs es) [] g k f
read_arguments {i = i} h v (Some token.OpenParen) e a =
    let l = read_argument_list h i e a.rest.rest in
    record { tree = l.tree; stop = l.stop; is = l.is; owed = l.owed; owes = opened_owes (calls_exprs l.tree) a.rest.opens l.owes; rest = l.rest }
read_arguments {s = s} {i = i} h v (Some token.OpenBrace) e a =
    let m = read_table h i e (unopened token.OpenBrace refl e a.rest) in
    record { tree = expr_at s.tokens i (expr.Table m.tree) ∷ []; stop = m.stop; is = grammar.table_arg i m.stop m.tree m.is; owed = m.owed; owes = λ o. later_place i _ (same (alone s i (calls_fields m.tree) (expr_at s.tokens i (expr.Table m.tree)) (calls_table s.tokens i m.tree)) (m.owes o)); rest = greater (wrapped m.rest) }
  where
    alone : (s : Text) (i : ℕ) (cs : Places) (e : Expr) → calls_expr e ≡ cs → calls_exprs (e ∷ []) ≡ cs
    alone s i cs e h = search (rules, h)
read_arguments {s = s} {i = i} {f = f} h v (Some (token.Str x)) e a =
    record { tree = expr_at s.tokens i (expr.Str x) ∷ []; stop = i + 1; is = grammar.text_arg i x e; owed = f; owes = anything (i ∷ calls_exprs (expr_at s.tokens i (expr.Str x) ∷ [])); rest = unopened (token.Str x) refl e a.rest }
read_arguments h v _ e a = absurd a.rest

-- ---- suffixes

sooner_after : {s : Text} {g i : ℕ} {f : Bool} (t : Turn) → After s g i ⊥ true f t → After s (suc g) i ⊥ true f t
sooner_after stops a = absurd a.rest
sooner_after (stays u more) a = record { rest = sooner a.rest }
sooner_after (takes reach u more) a = record { rest = record { owed = a.rest.owed; opens = a.rest.opens; rest = sooner a.rest.rest } }

dot_there : (t : Option TokenKind) → classes.suffix t ≡ suffix.Member → t ≡ Some token.Dot
dot_there (Some token.Dot) h = refl
dot_there (Some (token.Str x)) h = search (rules, h)
dot_there _ h = search (rules, h)

bracket_there : (t : Option TokenKind) → classes.suffix t ≡ suffix.Index → t ≡ Some token.OpenBracket
bracket_there (Some token.OpenBracket) h = refl
bracket_there _ h = search (rules, h)

colon_there : (t : Option TokenKind) → classes.suffix t ≡ suffix.Method → t ≡ Some token.Colon
colon_there (Some token.Colon) h = refl
colon_there _ h = search (rules, h)

no_suffix_there : (t : Option TokenKind) → classes.suffix t ≡ suffix.Nothing → IsFalse (opens_suffix t)
no_suffix_there (Some token.Dot) h = search (rules, h)
no_suffix_there (Some token.OpenBracket) h = search (rules, h)
no_suffix_there (Some token.Colon) h = search (rules, h)
no_suffix_there (Some token.OpenParen) h = search (rules, h)
no_suffix_there (Some token.OpenBrace) h = search (rules, h)
no_suffix_there (Some (token.Str x)) h = search (rules, h)
no_suffix_there _ h = refl

suffixes_by : {s : Text} {g i : ℕ} {k : List Item} {f : Bool} → All s g → (c : PrefixEnd) (u : PrefixUse) (b : ℕ) (a : Expr) (v : ℕ) (q : Suffix) → classes.suffix (kind_at s.tokens i) ≡ q → After s g i ⊥ true f (suffix_turn q c u (kind_at s.tokens i) v k) → ReadsSuffixes s b i a c u g k f
suffixes_by {s = s} {i = i} h c u b a v suffix.Member e t =
    let dot = dot_there (kind_at s.tokens i) e in
    let x = read_name (unopened token.Dot refl dot t.rest) in
    let m = h.suffixes in_target u b (expr_at s.tokens b (expr.Member a x.0)) (two_places i (wrapped x.2)) in
    record { tree = m.tree; end = m.end; stop = m.stop; is = grammar.member b i m.stop x.0 a m.tree c m.end dot x.1 m.is; owed = m.owed; owes = λ o. m.owes (same (calls_member s.tokens b a x.0) o); nest = m.nest; rest = m.rest }
suffixes_by {s = s} {i = i} h c u b a v suffix.Index e t =
    let bracket = bracket_there (kind_at s.tokens i) e in
    let key = read_expr h (unopened token.OpenBracket refl bracket t.rest) in
    let close = read_word word.CloseBracket key.rest in
    let m = h.suffixes in_target u b (expr_at s.tokens b (expr.Index a key.tree)) (wrapped close.1) in
    record { tree = m.tree; end = m.end; stop = m.stop; is = grammar.index b i key.stop m.stop a key.tree m.tree c m.end bracket key.is close.0 m.is; owed = m.owed; owes = λ o. m.owes (same (calls_index s.tokens b a key.tree) (behind (calls_expr a) (calls_expr key.tree) key.owes o)); nest = m.nest; rest = m.rest }
suffixes_by {s = s} {i = i} h c u b a v suffix.Method e t =
    let colon = colon_there (kind_at s.tokens i) e in
    let x = read_name (unopened token.Colon refl colon t.rest) in
    let n = two_places i x.2 in
    let l = read_arguments h n.nest (kind_at s.tokens (i + 2)) refl (turned_once n) in
    let m = h.suffixes in_call u b (call_at s.tokens b (i + 2) (expr.Method a x.0 l.tree)) (wrapped l.rest) in
    record { tree = m.tree; end = m.end; stop = m.stop; is = grammar.method b i l.stop m.stop x.0 l.tree a m.tree c m.end colon x.1 l.is m.is; owed = m.owed; owes = λ o. m.owes (same (calls_method s.tokens b (i + 2) a x.0 l.tree) (call_owes (i + 2) (calls_expr a) (calls_exprs l.tree) l.owes o)); nest = m.nest; rest = m.rest }
suffixes_by {s = s} {i = i} h c u b a v suffix.Call e t =
    let l = read_arguments h v (kind_at s.tokens i) refl t in
    let m = h.suffixes in_call u b (call_at s.tokens b i (expr.Call a l.tree)) (wrapped l.rest) in
    record { tree = m.tree; end = m.end; stop = m.stop; is = grammar.call b i l.stop m.stop l.tree a m.tree c m.end l.is m.is; owed = m.owed; owes = λ o. m.owes (same (calls_call s.tokens b i a l.tree) (call_owes i (calls_expr a) (calls_exprs l.tree) l.owes o)); nest = m.nest; rest = m.rest }
suffixes_by {s = s} {i = i} {f = f} h c u b a v suffix.Nothing e t =
    record { tree = a; end = c; stop = i; is = grammar.no_suffix b i a c (no_suffix_there (kind_at s.tokens i) e); owed = f; owes = λ o. o; nest = v; rest = t }

pub suffixes_step : {s : Text} {g i : ℕ} {k : List Item} {f : Bool} → All s g → (c : PrefixEnd) (u : PrefixUse) (b : ℕ) (a : Expr) → Rest s (suc g) i (item.suffixes c u ∷ k) f → ReadsSuffixes s b i a c u (suc g) k f
suffixes_step {s = s} {i = i} h c u b a r =
    let m = suffixes_by h c u b a r.nest (classes.suffix (kind_at s.tokens i)) refl (turned r) in
    record { tree = m.tree; end = m.end; stop = m.stop; is = m.is; owed = m.owed; owes = m.owes; nest = m.nest; rest = sooner_after _ m.rest }

-- ---- the beginning of an expression

read_literal : {s : Text} {g i : ℕ} {k : List Item} {f : Bool} (x : ExprKind) → literal_of (kind_at s.tokens i) ≡ Some x → Rest s g (i + 1) k f → Reads s Expr (λ e j. IsSimple s.tokens s.brackets i e j) calls_expr [] g k f
read_literal {s = s} {i = i} {f = f} x h r = record { tree = expr_at s.tokens i x; stop = i + 1; is = grammar.literal i x h; owed = f; owes = anything (calls_expr (expr_at s.tokens i x)); rest = r }

read_simple_by : {s : Text} {g i : ℕ} {k : List Item} {f : Bool} → All s g → (v : ℕ) (t : Option TokenKind) → kind_at s.tokens i ≡ t → After s g i ⊥ false f (simple_turn (classes.beginning t) v k) → Reads s Expr (λ e j. IsSimple s.tokens s.brackets i e j) calls_expr [] g k f
read_simple_by h v (Some token.Nil) e a = read_literal expr.Nil (ap literal_of e) a.rest
read_simple_by h v (Some token.True) e a = read_literal expr.True (ap literal_of e) a.rest
read_simple_by h v (Some token.False) e a = read_literal expr.False (ap literal_of e) a.rest
read_simple_by h v (Some (token.Number n)) e a = read_literal (expr.Num n) (ap literal_of e) a.rest
read_simple_by h v (Some (token.Str x)) e a = read_literal (expr.Str x) (ap literal_of e) a.rest
read_simple_by h v (Some token.TripleDot) e a = read_literal expr.Vararg (ap literal_of e) a.rest
read_simple_by h v (Some (token.InterpWhole x)) e a = read_literal (expr.Interp (x ∷ []) []) (ap literal_of e) a.rest
read_simple_by {s = s} {i = i} h v (Some (token.InterpBegin x)) e a =
    let m = read_pieces h a.rest in
    record { tree = expr_at s.tokens i (expr.Interp (x ∷ m.tree.0) m.tree.1); stop = m.stop; is = grammar.interp i m.stop x m.tree.0 m.tree.1 e m.is; owed = m.owed; owes = λ o. same (calls_interp s.tokens i (x ∷ m.tree.0) m.tree.1) (m.owes o); rest = wrapped m.rest }
read_simple_by {s = s} {i = i} h v (Some token.Function) e a =
    let b = read_body h a.rest in
    record { tree = expr_at s.tokens i (expr.Function (function_at s.tokens i b.tree.0 b.tree.1 b.tree.2)); stop = b.stop; is = grammar.function i b.stop b.tree.0 b.tree.1 b.tree.2 e b.is; owed = b.owed; owes = λ o. same (calls_function s.tokens i (function_at s.tokens i b.tree.0 b.tree.1 b.tree.2) ∙ calls_function_at s.tokens i b.tree.0 b.tree.1 b.tree.2) (b.owes o); rest = wrapped b.rest }
read_simple_by {s = s} {i = i} h v (Some token.OpenBrace) e a =
    let m = read_table h i e a.rest in
    record { tree = expr_at s.tokens i (expr.Table m.tree); stop = m.stop; is = grammar.constructor i m.stop m.tree m.is; owed = m.owed; owes = λ o. same (calls_table s.tokens i m.tree) (m.owes o); rest = wrapped m.rest }
read_simple_by {s = s} {i = i} h v (Some (token.Name x)) e a =
    let p = h.suffixes in_target in_expression i (expr_at s.tokens i (expr.Name x)) a.rest in
    record { tree = p.tree; stop = p.stop; is = grammar.prefix i p.stop p.tree p.end (grammar.name i p.stop x p.tree p.end e p.is); owed = p.owed; owes = λ o. p.owes (same (calls_name s.tokens i x) o); rest = p.rest.rest }
read_simple_by {s = s} {i = i} h v (Some token.OpenParen) e a =
    let m = read_expr h a.rest in
    let c = read_word word.CloseParen m.rest in
    let p = h.suffixes in_paren in_expression i (expr_at s.tokens i (expr.Paren m.tree)) (wrapped c.1) in
    record { tree = p.tree; stop = p.stop; is = grammar.prefix i p.stop p.tree p.end (grammar.paren i m.stop p.stop m.tree p.tree p.end e m.is c.0 p.is); owed = p.owed; owes = λ o. p.owes (same (calls_paren s.tokens i m.tree) (m.owes o)); rest = p.rest.rest }
read_simple_by {s = s} {i = i} h v (Some token.If) e a =
    let m = read_choices h a.rest in
    record { tree = expr_at s.tokens i (expr.If m.tree.0 m.tree.1); stop = m.stop; is = grammar.choice i m.stop m.tree.0 m.tree.1 e m.is; owed = m.owed; owes = λ o. same (calls_choice s.tokens i m.tree.0 m.tree.1) (m.owes o); rest = wrapped m.rest }
read_simple_by h v _ e a = absurd a.rest

read_unary_by : {s : Text} {g i : ℕ} {k : List Item} {f : Bool} → All s g → (v : ℕ) (o : Option UnOp) → unary_operator (kind_at s.tokens i) ≡ o → After s g i ⊥ false f (unary_turn o v k) → Reads s Expr (λ e j. IsUnary s.tokens s.brackets i e j) calls_expr [] g k f
read_unary_by {s = s} {i = i} h v (Some op) e a =
    let m = h.unary a.rest in
    record { tree = expr_at s.tokens i (expr.Unary op m.tree); stop = m.stop; is = grammar.unary i m.stop op m.tree e m.is; owed = m.owed; owes = λ o. same (calls_unary s.tokens i op m.tree) (m.owes o); rest = wrapped m.rest }
read_unary_by {s = s} {i = i} h v None e a =
    let x = read_simple_by h a.rest.nest (kind_at s.tokens i) refl (turned_once a.rest) in
    from x.owes (read_unary h i x.tree e x.is x.rest)

pub unary_step : {s : Text} {g i : ℕ} {k : List Item} {f : Bool} → All s g → Rest s (suc g) i (item.unary ∷ k) f → Reads s Expr (λ e j. IsUnary s.tokens s.brackets i e j) calls_expr [] (suc g) k f
unary_step {s = s} {i = i} h r = raised (read_unary_by h r.nest (unary_operator (kind_at s.tokens i)) refl (turned r))
