-- What a run reads for lists, pieces of a text, choices and fields.
use Rattle.std.proofs.Common.{◌≡◌, ℕ, suc, ◌+◌, ◌&&◌, Bool, true, false, if◌then◌else◌, IsTrue, IsFalse, List, [], ◌∷◌, ◌++◌, Option, Some, None, refl, sym, ap, ◌∙◌, subst, rules, arith}
use Rattle.std.proofs.lemmas.List.{append_assoc}
use Rattle.byte_text.specs.declared.StrId.{StrId}
use Rattle.syntax_tree.specs.declared.token.TokenKind.{TokenKind}
use Rattle.syntax_tree.specs.declared.token.TokenKind.TheVariants as token
use Rattle.syntax_tree.specs.declared.tree.Expr.{Expr}
use Rattle.syntax_tree.specs.declared.tree.ExprArm.{ExprArm}
use Rattle.syntax_tree.specs.declared.tree.ExprKind as expr
use Rattle.syntax_tree.specs.declared.tree.Field.{Field}
use Rattle.syntax_tree.specs.declared.tree.FieldKind as field
use Rattle.syntax_tree.specs.Calls.{Places}
use Rattle.syntax_tree.specs.Grammar as grammar
use Rattle.syntax_tree.specs.Grammar.{in_target, IsExpr, IsList, IsPieces, IsChoices, IsTable, IsFields, IsField}
use Rattle.syntax_tree.specs.Nodes.{expr_at, field_at, expr_arm}
use Rattle.syntax_tree.specs.Operators.{unary_operator}
use Rattle.syntax_tree.specs.Places.{kind_at, Has, Lacks, is_name}
use Rattle.syntax_tree.specs.Types.{is_separator}
use Rattle.syntax_tree.specs.Words.{is_equal, opens_named}
use Rattle.parse_steps.specs.declared.levels.Level.TheVariants as levels
use Rattle.parse_steps.specs.declared.levels.Rank.TheVariants as rank
use Rattle.type_skip.specs.declared.words.Word.TheVariants as word
use Rattle.parse_steps.proofs.CallPlaces.{calls_expr, calls_exprs, calls_expr_arms, calls_expr_arm, calls_field, calls_fields}
use Rattle.parse_steps.specs.Classes as classes
use Rattle.parse_steps.specs.Items.{Item, in_expression, climb}
use Rattle.parse_steps.specs.Items as item
use Rattle.parse_steps.specs.Turns.{Turn}
use Rattle.parse_steps.proofs.Accepting.{Text, Rest, After, Behind, Owes, Reads, turned, turned_once, by_word, by_name, by_option, read_word, sooner, raised, in_order, same}
use Rattle.parse_steps.proofs.NodeCalls.{calls_name, calls_item, calls_named, calls_keyed, calls_of_expr_arm}
use Rattle.parse_steps.proofs.Readings.{All, Closed}
use Rattle.parse_steps.proofs.ReadLevels.{below_greater, read_expr, read_unary, climb_ors}

-- ---- lists

pub read_list : {s : Text} {g i : ℕ} {k : List Item} {f : Bool} → All s g → Rest s g i (item.expression ∷ item.list_more ∷ k) f → Reads s (List Expr) (λ es j. IsList s.tokens s.brackets i es j) calls_exprs [] g k f
read_list {i = i} h r =
    let e = read_expr h r in
    let m = h.list_more i e.tree e.is e.rest in
    record { tree = e.tree ∷ m.tree; stop = m.stop; is = m.is; owed = m.owed; owes = in_order (calls_expr e.tree) (calls_exprs m.tree) e.owes m.owes; rest = m.rest }

pub list_more_step : {s : Text} {g i : ℕ} {k : List Item} {f : Bool} → All s g → (b : ℕ) (e : Expr) → IsExpr s.tokens s.brackets b e i → Rest s (suc g) i (item.list_more ∷ k) f → Reads s (List Expr) (λ es j. IsList s.tokens s.brackets b (e ∷ es) j) calls_exprs [] (suc g) k f
list_more_step {s = s} {i = i} {f = f} h b e d r =
    by_word word.Comma _ _ (turned r)
    (λ stands rest.
    let m = read_list h rest in
    record { tree = m.tree; stop = m.stop; is = grammar.more_exprs b i m.stop e m.tree d stands m.is; owed = m.owed; owes = m.owes; rest = sooner m.rest })
    (λ lacks rest. record { tree = []; stop = i; is = grammar.last_expr b i e d lacks; owed = f; owes = λ o. o; rest = sooner rest.rest })

-- ---- pieces of an interpolated string

middle_there : (t : Option TokenKind) (x : StrId) → classes.middle_of t ≡ Some x → t ≡ Some (token.InterpMid x)
middle_there (Some (token.InterpMid y)) x h = search (rules, h)
middle_there _ x h = search (rules, h)

end_there : (t : Option TokenKind) (x : StrId) → classes.end_of t ≡ Some x → t ≡ Some (token.InterpEnd x)
end_there (Some (token.InterpEnd y)) x h = search (rules, h)
end_there _ x h = search (rules, h)

pub read_pieces : {s : Text} {g i : ℕ} {k : List Item} {f : Bool} → All s g → Rest s g i (item.expression ∷ item.pieces ∷ k) f → Reads s (List StrId × List Expr) (λ p j. IsPieces s.tokens s.brackets i p.0 p.1 j) (λ p. calls_exprs p.1) [] g k f
read_pieces {i = i} h r =
    let e = read_expr h r in
    let m = h.pieces i e.tree e.is e.rest in
    record { tree = (m.tree.0, e.tree ∷ m.tree.1); stop = m.stop; is = m.is; owed = m.owed; owes = in_order (calls_expr e.tree) (calls_exprs m.tree.1) e.owes m.owes; rest = m.rest }

pub pieces_step : {s : Text} {g i : ℕ} {k : List Item} {f : Bool} → All s g → (b : ℕ) (e : Expr) → IsExpr s.tokens s.brackets b e i → Rest s (suc g) i (item.pieces ∷ k) f → Reads s (List StrId × List Expr) (λ p j. IsPieces s.tokens s.brackets b p.0 (e ∷ p.1) j) (λ p. calls_exprs p.1) [] (suc g) k f
pieces_step {s = s} {i = i} {f = f} h b e d r =
    by_option (classes.middle_of (kind_at s.tokens i)) _ _ (turned r)
    (λ x eq rest.
    let m = read_pieces h rest in
    record { tree = (x ∷ m.tree.0, m.tree.1); stop = m.stop; is = grammar.more_pieces b i m.stop x m.tree.0 e m.tree.1 d (middle_there (kind_at s.tokens i) x eq) m.is; owed = m.owed; owes = m.owes; rest = sooner m.rest })
    (λ none other.
    by_option (classes.end_of (kind_at s.tokens i)) _ _ other
    (λ x eq rest. record { tree = (x ∷ [], []); stop = i + 1; is = grammar.last_piece b i x e d (end_there (kind_at s.tokens i) x eq); owed = f; owes = λ o. o; rest = sooner rest })
    (λ nothing rest. absurd rest.rest))

-- ---- choices

choices_owe : {s : Text} {f g h q : Bool} (c e : Expr) (arms : List ExprArm) (other : Expr) → (Owes s [] f → Owes s (calls_expr c) g) → (Owes s [] g → Owes s (calls_expr e) h) → (Owes s [] h → Owes s (calls_expr_arms arms ++ calls_expr other) q) → Owes s [] f → Owes s (calls_expr_arms (expr_arm c e ∷ arms) ++ calls_expr other) q
choices_owe c e arms other one two three o = same regroup (in_order (calls_expr c ++ calls_expr e) (calls_expr_arms arms ++ calls_expr other) (in_order (calls_expr c) (calls_expr e) one two) three o)
  where
    regroup : (calls_expr_arm (expr_arm c e) ++ calls_expr_arms arms) ++ calls_expr other ≡ (calls_expr c ++ calls_expr e) ++ (calls_expr_arms arms ++ calls_expr other)
    regroup = ap (λ (x : Places). (x ++ calls_expr_arms arms) ++ calls_expr other) (calls_of_expr_arm c e) ∙ append_assoc (calls_expr c ++ calls_expr e) (calls_expr_arms arms) (calls_expr other)

pub read_choices : {s : Text} {g i : ℕ} {k : List Item} {f : Bool} → All s g → Rest s g i (item.expression ∷ item.expects word.Then ∷ item.expression ∷ item.choice_more ∷ k) f → Reads s (List ExprArm × Expr) (λ p j. IsChoices s.tokens s.brackets i p.0 p.1 j) (λ p. calls_expr_arms p.0 ++ calls_expr p.1) [] g k f
read_choices {s = s} {i = i} h r =
    let c = read_expr h r in
    let t = read_word word.Then c.rest in
    let e = read_expr h t.1 in
    let m = h.choices i c.stop c.tree e.tree c.is t.0 e.is e.rest in
    record {
      tree = (expr_arm c.tree e.tree ∷ m.tree.0, m.tree.1);
      stop = m.stop;
      is = m.is;
      owed = m.owed;
      owes = choices_owe c.tree e.tree m.tree.0 m.tree.1 c.owes e.owes m.owes;
      rest = m.rest;
    }

pub choices_step : {s : Text} {g i : ℕ} {k : List Item} {f : Bool} → All s g → (b l : ℕ) (c e : Expr) → IsExpr s.tokens s.brackets b c l → Has s.tokens l token.Then → IsExpr s.tokens s.brackets (l + 1) e i → Rest s (suc g) i (item.choice_more ∷ k) f → Reads s (List ExprArm × Expr) (λ p j. IsChoices s.tokens s.brackets b (expr_arm c e ∷ p.0) p.1 j) (λ p. calls_expr_arms p.0 ++ calls_expr p.1) [] (suc g) k f
choices_step {s = s} {i = i} {f = f} h b l c e d t q r =
    by_word word.ElseIf _ _ (turned r)
    (λ stands rest.
    let m = read_choices h rest in
    record { tree = m.tree; stop = m.stop; is = grammar.more_choices b l i m.stop c e m.tree.1 m.tree.0 d t q stands m.is; owed = m.owed; owes = m.owes; rest = sooner m.rest })
    (λ lacks other.
    by_word word.Else _ _ other
    (λ stands rest.
    let o = read_expr h rest in
    record { tree = ([], o.tree); stop = o.stop; is = grammar.last_choice b l i o.stop c e o.tree d t q stands o.is; owed = o.owed; owes = o.owes; rest = sooner o.rest })
    (λ nothing rest. absurd rest.rest))

-- ---- fields

pub by_test : {C : Type 0} {s : Text} {g i : ℕ} {S : Type 0} {asking f : Bool} (b : Bool) (here other : Turn) → After s g i S asking f (if b then here else other) → (IsTrue b → Behind s g i S asking f here → C) → (IsFalse b → After s g i S asking f other → C) → C
by_test true here other a yes_case no_case = yes_case refl a.rest
by_test false here other a yes_case no_case = no_case refl a

no_unary : (t : Option TokenKind) (x : StrId) → t ≡ Some (token.Name x) → unary_operator t ≡ None
no_unary t x h = ap unary_operator h

pub two_places : {s : Text} {g : ℕ} {k : List Item} {f : Bool} (i : ℕ) → Rest s g (i + 1 + 1) k f → Rest s g (i + 2) k f
two_places {s = s} {g = g} {k = k} {f = f} i r = let e : i + 1 + 1 ≡ i + 2 = omega arith in subst (λ (j : ℕ). Rest s g j k f) e r

no_equal : (u : Option TokenKind) → (u ≡ Some token.Equal → ⊥) → IsFalse (is_equal u)
no_equal (Some token.Equal) h = absurd (h refl)
no_equal _ h = refl

pub and_false : (a b : Bool) → IsFalse b → IsFalse (a && b)
and_false true b h = h
and_false false b h = refl

-- an expression that begins with a name, behind it
read_begun : {s : Text} {g v : ℕ} {k : List Item} {f : Bool} → All s g → (i : ℕ) (x : StrId) → Has s.tokens i (token.Name x) → Rest s g (i + 1) (item.suffixes in_target in_expression ∷ item.cast ∷ item.power ∷ climb (levels.Of rank.Ors) (item.greater v ∷ k)) f → Reads s Expr (λ e j. IsExpr s.tokens s.brackets i e j) calls_expr [] g k f
read_begun {s = s} h i x name r =
    let p = h.suffixes in_target in_expression i (expr_at s.tokens i (expr.Name x)) r in
    let u = read_unary h i p.tree (no_unary (kind_at s.tokens i) x name) (grammar.prefix i p.stop p.tree p.end (grammar.name i p.stop x p.tree p.end name p.is)) p.rest.rest in
    let l = below_greater (climb_ors h i u.tree u.is u.rest) in
    record { tree = l.tree; stop = l.stop; is = grammar.expression i l.stop l.tree l.is; owed = l.owed; owes = λ o. l.owes (u.owes (p.owes (same (calls_name s.tokens i x) o))); rest = l.rest }

-- an expression as a field
as_item : {s : Text} {g i : ℕ} {k : List Item} {f : Bool} → Lacks s.tokens i token.OpenBracket → IsFalse (opens_named s.tokens i) → Reads s Expr (λ e j. IsExpr s.tokens s.brackets i e j) calls_expr [] g k f → Reads s Field (λ e j. IsField s.tokens s.brackets i e j) calls_field [] g k f
as_item {s = s} {i = i} no_bracket no_name e = record { tree = field_at s.tokens i (field.Item e.tree); stop = e.stop; is = grammar.item i e.stop e.tree no_bracket no_name e.is; owed = e.owed; owes = λ o. same (calls_item s.tokens i e.tree) (e.owes o); rest = e.rest }

-- a name with its value
as_named : {s : Text} {g : ℕ} {k : List Item} {f : Bool} (i : ℕ) (x : StrId) → Has s.tokens i (token.Name x) → Has s.tokens (i + 1) token.Equal → Reads s Expr (λ e j. IsExpr s.tokens s.brackets (i + 2) e j) calls_expr [] g k f → Reads s Field (λ e j. IsField s.tokens s.brackets i e j) calls_field [] g k f
as_named {s = s} i x name equal e = record { tree = field_at s.tokens i (field.Named x e.tree); stop = e.stop; is = grammar.named i e.stop x e.tree name equal e.is; owed = e.owed; owes = λ o. same (calls_named s.tokens i x e.tree) (e.owes o); rest = e.rest }

-- a name, a `=` and an expression; or an expression that begins with a name
read_field_name : {s : Text} {g : ℕ} {k : List Item} {f : Bool} → All s g → (i : ℕ) (x : StrId) → Has s.tokens i (token.Name x) → Rest s g (i + 1) (item.field_name ∷ k) f → Reads s Field (λ e j. IsField s.tokens s.brackets i e j) calls_field [] g k f
read_field_name {s = s} h i x name r =
    by_word word.Equal _ _ (turned_once r)
    (λ stands rest. as_named i x name stands (read_expr h (two_places i rest)))
    (λ lacks rest. as_item (λ there. no_bracket x (sym name ∙ there)) (and_false (is_name (kind_at s.tokens i)) (is_equal (kind_at s.tokens (i + 1))) (no_equal (kind_at s.tokens (i + 1)) lacks)) (read_begun h i x name rest.rest))
  where
    no_bracket : (x : StrId) → Some (token.Name x) ≡ Some token.OpenBracket → ⊥
    no_bracket x e = search (rules, e)

-- "[" expr "]" "=" expr, behind the bracket
read_keyed : {s : Text} {g : ℕ} {k : List Item} {f : Bool} → All s g → (i : ℕ) → Has s.tokens i token.OpenBracket → Rest s g (i + 1) (item.expression ∷ item.expects word.CloseBracket ∷ item.expects word.Equal ∷ item.expression ∷ k) f → Reads s Field (λ e j. IsField s.tokens s.brackets i e j) calls_field [] g k f
read_keyed {s = s} h i opens r =
    let a = read_expr h r in
    let t = read_word word.CloseBracket a.rest in
    let q = read_word word.Equal t.1 in
    let c = read_expr h (two_places a.stop q.1) in
    record {
      tree = field_at s.tokens i (field.Keyed a.tree c.tree);
      stop = c.stop;
      is = grammar.keyed i a.stop c.stop a.tree c.tree opens a.is t.0 q.0 c.is;
      owed = c.owed;
      owes = λ o. same (calls_keyed s.tokens i a.tree c.tree) (in_order (calls_expr a.tree) (calls_expr c.tree) a.owes c.owes o);
      rest = c.rest;
    }

read_field_end : {s : Text} {g i : ℕ} {k : List Item} {f : Bool} → All s g → (b : ℕ) (e : Field) → Lacks s.tokens b token.CloseBrace → IsField s.tokens s.brackets b e i → Rest s g i (item.field_end ∷ k) f → Reads s (List Field) (λ es j. Closed s token.CloseBrace (λ m. IsFields s.tokens s.brackets b (e ∷ es) m) j) calls_fields [] g k f
read_field_end {s = s} {i = i} {f = f} h b e no_brace d r =
    by_test (is_separator (kind_at s.tokens i)) _ _ (turned_once r)
    (λ stands rest.
    let m = h.fields rest in
    record { tree = m.tree; stop = m.stop; is = record { close = m.is.close; is = grammar.more_fields b i m.is.close e m.tree no_brace d stands m.is.is; stands = m.is.stands; there = m.is.there }; owed = m.owed; owes = m.owes; rest = m.rest })
    (λ lacks other.
    by_word word.CloseBrace _ _ other
    (λ stands rest. record { tree = []; stop = i + 1; is = record { close = i; is = grammar.last_field b i e no_brace d lacks; stands = stands; there = refl }; owed = f; owes = λ o. o; rest = rest })
    (λ nothing rest. absurd rest.rest))

read_fields : {s : Text} {g i : ℕ} {k : List Item} {f : Bool} → All s g → Lacks s.tokens i token.CloseBrace → Reads s Field (λ e j. IsField s.tokens s.brackets i e j) calls_field [] g (item.field_end ∷ k) f → Reads s (List Field) (λ es j. Closed s token.CloseBrace (λ m. IsFields s.tokens s.brackets i es m) j) calls_fields [] g k f
read_fields {i = i} h no_brace e =
    let m = read_field_end h i e.tree no_brace e.is e.rest in
    record { tree = e.tree ∷ m.tree; stop = m.stop; is = m.is; owed = m.owed; owes = in_order (calls_field e.tree) (calls_fields m.tree) e.owes m.owes; rest = m.rest }

-- one without is none
pub nameless : (t : Option TokenKind) → classes.name_of t ≡ None → IsFalse (is_name t)
nameless (Some (token.Name x)) h = search (rules, h)
nameless _ h = refl

false_and : (a b : Bool) → IsFalse a → IsFalse (a && b)
false_and true b h = search (rules, h)
false_and false b h = refl

-- an expression that begins with no name
read_item : {s : Text} {g i : ℕ} {k : List Item} {f : Bool} → All s g → Lacks s.tokens i token.OpenBracket → classes.name_of (kind_at s.tokens i) ≡ None → Rest s g i (item.expression ∷ k) f → Reads s Field (λ e j. IsField s.tokens s.brackets i e j) calls_field [] g k f
read_item {s = s} {i = i} h no_bracket no_name r = as_item no_bracket (false_and (is_name (kind_at s.tokens i)) (is_equal (kind_at s.tokens (i + 1))) (nameless (kind_at s.tokens i) no_name)) (read_expr h r)

pub fields_step : {s : Text} {g i : ℕ} {k : List Item} {f : Bool} → All s g → Rest s (suc g) i (item.fields ∷ k) f → Reads s (List Field) (λ es j. Closed s token.CloseBrace (λ m. IsFields s.tokens s.brackets i es m) j) calls_fields [] (suc g) k f
fields_step {i = i} {f = f} h r =
    by_word word.CloseBrace _ _ (turned r)
    (λ stands rest. record { tree = []; stop = i + 1; is = record { close = i; is = grammar.no_field i stands; stands = stands; there = refl }; owed = f; owes = λ o. o; rest = sooner rest })
    (λ no_brace other.
    by_word word.OpenBracket _ _ other
    (λ opens rest. raised (read_fields h no_brace (read_keyed h i opens rest)))
    (λ no_bracket others.
    by_name _ _ others
    (λ x name rest. raised (read_fields h no_brace (read_field_name h i x name rest)))
    (λ no_name rest. raised (read_fields h no_brace (read_item h no_bracket no_name rest.rest)))))

-- table = "{" fields "}"
pub read_table : {s : Text} {g : ℕ} {k : List Item} {f : Bool} → All s g → (i : ℕ) → Has s.tokens i token.OpenBrace → Rest s g (i + 1) (item.fields ∷ k) f → Reads s (List Field) (λ es j. IsTable s.tokens s.brackets i es j) calls_fields [] g k f
read_table {s = s} h i opens r =
    let m = h.fields r in
    record { tree = m.tree; stop = m.stop; is = subst (λ (j : ℕ). IsTable s.tokens s.brackets i m.tree j) (sym m.is.there) (grammar.table i m.is.close m.tree opens m.is.is m.is.stands); owed = m.owed; owes = m.owes; rest = m.rest }
