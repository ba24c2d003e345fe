-- How turns read a prefix, its suffixes and arguments, and what may stand without an operator, where they read the parts.
use Rattle.std.proofs.Common.{◌≡◌, ◌≢◌, ◌≤◌, ◌+◌, ℕ, suc, max, Bool, false, List, [], ◌∷◌, ◌++◌, Option, Some, Contains, refl, sym, ap, subst, ◌∙◌, arith, true≢false, ◌⊎◌, inl, inr}
use Rattle.std.proofs.lemmas.List.Elements.{Contains-append_cases, Contains-push_cases}
use Rattle.byte_text.specs.declared.StrId.{StrId}
use Rattle.syntax_tree.specs.declared.token.Token.{Token}
use Rattle.syntax_tree.specs.declared.token.TokenKind.{TokenKind}
use Rattle.syntax_tree.specs.declared.token.TokenKind.TheVariants as token
use Rattle.syntax_tree.specs.declared.tree.Expr.{Expr}
use Rattle.syntax_tree.specs.declared.tree.ExprKind.{ExprKind}
use Rattle.syntax_tree.specs.declared.tree.ExprKind as expr
use Rattle.syntax_tree.specs.declared.tree.ExprArm.{ExprArm}
use Rattle.syntax_tree.specs.declared.tree.Field.{Field}
use Rattle.syntax_tree.specs.declared.tree.Stat.{Stat}
use Rattle.syntax_tree.specs.Grammar.{PrefixEnd, in_target, in_call, in_paren, IsArgs, no_args, args, table_arg, text_arg, IsTable, table}
use Rattle.syntax_tree.specs.Nodes.{expr_at, call_at, function_at}
use Rattle.syntax_tree.specs.Places.{kind_at, Has, Lacks}
use Rattle.syntax_tree.specs.Words.{opens_suffix, literal_of}
use Rattle.parse_steps.specs.declared.classes.Arguments.TheVariants as argument
use Rattle.parse_steps.specs.declared.classes.Beginning.TheVariants as begins
use Rattle.type_skip.specs.declared.words.Word.TheVariants as word
use Rattle.parse_steps.specs.Classes as classes
use Rattle.parse_steps.specs.Items.{Item, PrefixUse, in_expression, later_target, depth, expression}
use Rattle.parse_steps.specs.Items as item
use Rattle.parse_steps.specs.Turns.{stays, takes, arguments_turn, suffix_turn, simple_turn, prefix_turn, next_reach}
use Rattle.parse_steps.proofs.ForwardCourse.{Course, Way, among, past, after, fork, same, empty, word_past, takes_at, steps_at, expects_goes, name_goes, wrap_goes, greater_goes, at_nest, at_place}
use Rattle.parse_steps.proofs.ForwardNodes.{deep, deep_list, deep_fields, deep_block, asked, asked_list, asked_fields, asked_block, deep_of_no_list, asked_of_no_list, deep_of_more_list, asked_of_more_list, deep_of_member, asked_of_member, deep_of_index, asked_of_index, deep_of_call, asked_of_call, deep_of_method, asked_of_method, deep_of_table, asked_of_table, deep_of_text, asked_of_text, deep_of_name, asked_of_name, deep_of_paren, asked_of_paren, deep_of_literal, deep_of_whole, asked_of_literal, deep_of_interp, asked_of_interp, deep_of_function, asked_of_function, deep_of_choice, asked_of_choice}
use Rattle.parse_steps.proofs.ForwardOperators.{Begins, Adds}
use Rattle.parse_steps.proofs.ForwardTables.{ExprAdds, ListAdds, PiecesAdd, ChoicesAdd}

-- ---- what the token at arguments or a suffix says

-- where arguments open, a suffix is a call
call_turn : (t : Option TokenKind) (c : PrefixEnd) (u : PrefixUse) (v : ℕ) (k : List Item) → classes.arguments t ≢ argument.Nothing
    → suffix_turn (classes.suffix t) c u t v k ≡ arguments_turn (classes.arguments t) v (item.wrap ∷ item.suffixes in_call u ∷ k)
call_turn (Some token.OpenParen) c u v k h = refl
call_turn (Some token.OpenBrace) c u v k h = refl
call_turn (Some (token.Str x)) c u v k h = refl
call_turn _ c u v k h = absurd (h refl)

-- where no suffix opens, what is behind the prefix goes on
pub plain_turn : (t : Option TokenKind) (c : PrefixEnd) (u : PrefixUse) (v : ℕ) (k : List Item) → opens_suffix t ≡ false
    → suffix_turn (classes.suffix t) c u t v k ≡ prefix_turn u c t v k
plain_turn (Some token.Dot) c u v k h = absurd (true≢false h)
plain_turn (Some token.OpenBracket) c u v k h = absurd (true≢false h)
plain_turn (Some token.Colon) c u v k h = absurd (true≢false h)
plain_turn (Some token.OpenParen) c u v k h = absurd (true≢false h)
plain_turn (Some token.OpenBrace) c u v k h = absurd (true≢false h)
plain_turn (Some (token.Str x)) c u v k h = absurd (true≢false h)
plain_turn _ c u v k h = refl

literal_begins : (t : Option TokenKind) (k : ExprKind) → literal_of t ≡ Some k
    → (classes.beginning t ≡ begins.Leaf) ⊎ (classes.beginning t ≡ begins.Whole)
literal_begins (Some token.Nil) k h = inl refl
literal_begins (Some token.True) k h = inl refl
literal_begins (Some token.False) k h = inl refl
literal_begins (Some (token.Number n)) k h = inl refl
literal_begins (Some (token.Str x)) k h = inl refl
literal_begins (Some token.TripleDot) k h = inl refl
literal_begins (Some (token.InterpWhole x)) k h = inr refl
literal_begins _ k h = absurd cc

opens_table : (t : Option TokenKind) → t ≡ Some token.OpenBrace → classes.arguments t ≢ argument.Nothing
opens_table t h e = absurd cc
  where
    there : argument.Table ≡ argument.Nothing
    there = sym (ap classes.arguments h) ∙ e

opens_paren : (t : Option TokenKind) → t ≡ Some token.OpenParen → classes.arguments t ≢ argument.Nothing
opens_paren t h e = absurd cc
  where
    there : argument.Paren ≡ argument.Nothing
    there = sym (ap classes.arguments h) ∙ e

opens_text : (t : Option TokenKind) (x : StrId) → t ≡ Some (token.Str x) → classes.arguments t ≢ argument.Nothing
opens_text t x h e = absurd cc
  where
    there : argument.Text x ≡ argument.Nothing
    there = sym (ap classes.arguments h) ∙ e

pub table_opens : {ts : List Token} {n i j : ℕ} {fs : List Field} → IsTable ts n i fs j → Has ts i token.OpenBrace
table_opens (table i j fs h f c) = h

pub args_open : {ts : List Token} {n i j : ℕ} {es : List Expr} → IsArgs ts n i es j → classes.arguments (kind_at ts i) ≢ argument.Nothing
args_open {ts = ts} (no_args i h c) = opens_paren (kind_at ts i) h
args_open {ts = ts} (args i j es h c l d) = opens_paren (kind_at ts i) h
args_open {ts = ts} (table_arg i j fs t) = opens_table (kind_at ts i) (table_opens t)
args_open {ts = ts} (text_arg i x h) = opens_text (kind_at ts i) x h

module _ {ts : List Token} {n b p : ℕ} (C : Course ts n b p) where
  -- ---- arguments

  -- the turn by which arguments open
  pub data ArgumentsTurn (i v : ℕ) (k : List Item) : Type 0 where
    opens : (reach u : ℕ) (more : List Item) → arguments_turn (classes.arguments (kind_at ts i)) v k ≡ takes reach u more → reach ≤ b
        → C.Goal (i + 1) u more → ArgumentsTurn i v k

  abbrev pub ArgsAdd : (i : ℕ) (es : List Expr) (j : ℕ) → Type 0
  ArgsAdd i es j = (v : ℕ) (k : List Item) → depth k + v ≤ b → depth k + deep_list es ≤ b
      → Way C (asked_list es) (C.Goal j (max v (deep_list es)) k) → ArgumentsTurn i v k

  -- what stands between the braces of a table
  abbrev pub TableAdds : (i : ℕ) (fs : List Field) (j : ℕ) → Type 0
  TableAdds i fs j = Adds C (λ k. item.fields ∷ k) (i + 1) (deep_fields fs) (asked_fields fs) j

  pub no_args_step : (i : ℕ) → Has ts i token.OpenParen → Has ts (i + 1) token.CloseParen → ArgsAdd i [] (i + 2)
  no_args_step i h c v k deeper fits w =
      opens (depth k + v) v (item.argument_list ∷ k) (ap (λ o. arguments_turn (classes.arguments o) v k) h) deeper
      (steps_at C token.CloseParen c refl (at_place C (omega arith)
      (at_nest C (omega (arith, deep_of_no_list)) (empty C asked_of_no_list w))))

  pub args_step : (i j : ℕ) (es : List Expr) → Has ts i token.OpenParen → Lacks ts (i + 1) token.CloseParen → Has ts j token.CloseParen
      → ListAdds C (i + 1) es j → ArgsAdd i es (j + 1)
  args_step i j es h c d list v k deeper fits w =
      opens (depth k + v) v (item.argument_list ∷ k) (ap (λ o. arguments_turn (classes.arguments o) v k) h) deeper
      (C.stay (word_past word.CloseParen (takes 0 v k) (stays v (expression ∷ item.list_more ∷ item.expects word.CloseParen ∷ k)) c)
      (list v (item.expects word.CloseParen ∷ k) fits (after C (λ g. expects_goes C word.CloseParen d g) w)))

  pub table_arg_step : (i j : ℕ) (fs : List Field) → Has ts i token.OpenBrace → TableAdds i fs j
      → ArgsAdd i (expr_at ts i (expr.Table fs) ∷ []) j
  table_arg_step i j fs h inner v k deeper fits w =
      opens (max (depth k + v) (next_reach 0 k)) 0 (item.fields ∷ item.wrap ∷ item.greater v ∷ k)
      (ap (λ o. arguments_turn (classes.arguments o) v k) h)
      (omega (arith, deeper, fits, nests, alone, deep_of_no_list))
      (inner 0 (item.wrap ∷ item.greater v ∷ k) (omega (arith, fits, nests, alone, deep_of_no_list))
      (after C (λ g. wrap_goes C (greater_goes C v (at_nest C (omega (arith, nests, alone, deep_of_no_list)) g)))
      (same C (asked_of_table ts i fs) (after C (empty C asked_of_no_list)
      (fork C (asked_of_more_list (expr_at ts i (expr.Table fs)) []) w)))))
    where
      nests : deep (expr_at ts i (expr.Table fs)) ≡ suc (deep_fields fs)
      nests = deep_of_table ts i fs

      alone : deep_list (expr_at ts i (expr.Table fs) ∷ []) ≡ max (deep (expr_at ts i (expr.Table fs))) (deep_list [])
      alone = deep_of_more_list (expr_at ts i (expr.Table fs)) []

  pub text_arg_step : (i : ℕ) (x : StrId) → Has ts i (token.Str x) → ArgsAdd i (expr_at ts i (expr.Str x) ∷ []) (i + 1)
  text_arg_step i x h v k deeper fits w =
      opens (depth k + v) v k (ap (λ o. arguments_turn (classes.arguments o) v k) h) deeper
      (at_nest C (omega (arith, deep_of_text ts i x, deep_of_more_list (expr_at ts i (expr.Str x)) [], deep_of_no_list))
      (empty C asked_of_no_list (empty C (asked_of_text ts i x) (fork C (asked_of_more_list (expr_at ts i (expr.Str x)) []) w))))

  -- ---- suffixes

  -- arguments that open at this place, or in the parts
  own_place : {places : List ℕ} {G : Type 0} (i : ℕ) → Way C (i ∷ places) G → (C.Asked × (i ≡ p)) ⊎ Way C places G
  own_place i (past g) = inr (past g)
  own_place {places = places} {G = G} i (among a c) = side (Contains-append_cases (i ∷ []) places p c)
    where
      alone : Contains [] p ⊎ (i ≡ p) → (C.Asked × (i ≡ p)) ⊎ Way C places G
      alone (inl e) = absurd (omega (arith, e.1))
      alone (inr e) = inl (a, e)

      side : Contains (i ∷ []) p ⊎ Contains places p → (C.Asked × (i ≡ p)) ⊎ Way C places G
      side (inl e) = alone (Contains-push_cases [] i p e)
      side (inr e) = inr (among a e)

  -- a suffix, from the part a in front of it
  abbrev pub Follows : (i : ℕ) (a : Expr) (c : PrefixEnd) (u : PrefixUse) (k : List Item) → Type 0
  Follows i a c u k = Way C (asked a) (C.Goal i (deep a) (item.suffixes c u ∷ k))

  abbrev pub SuffixesGo : (i : ℕ) (a : Expr) (c : PrefixEnd) (e : Expr) (d : PrefixEnd) (j : ℕ) → Type 0
  SuffixesGo i a c e d j = (u : PrefixUse) (k : List Item) → depth k + deep e ≤ b
      → Way C (asked e) (C.Goal j (deep e) (item.suffixes d u ∷ k)) → Follows i a c u k

  -- a part that nests no deeper fits too
  pub part_fits : (k : List Item) {x y : ℕ} → x ≤ y → depth k + y ≤ b → depth k + x ≤ b
  part_fits k grows fits = omega (arith, grows, fits)

  pub member_step : (q i : ℕ) (x : StrId) (a : Expr) (c : PrefixEnd) (u : PrefixUse) (k : List Item) → Has ts i token.Dot
      → Has ts (i + 1) (token.Name x) → depth k + deep (expr_at ts q (expr.Member a x)) ≤ b
      → Follows (i + 2) (expr_at ts q (expr.Member a x)) in_target u k → Follows i a c u k
  member_step q i x a c u k h f fits w =
      after C (λ g. takes_at C token.Dot h refl (omega (arith, fits, deep_of_member ts q a x))
      (name_goes C x f (wrap_goes C (at_nest C (deep_of_member ts q a x) (at_place C (omega arith) g)))))
      (same C (asked_of_member ts q a x) w)

  pub index_step : (q i j : ℕ) (a key : Expr) (c : PrefixEnd) (u : PrefixUse) (k : List Item) → Has ts i token.OpenBracket
      → Has ts j token.CloseBracket → depth k + deep (expr_at ts q (expr.Index a key)) ≤ b
      → ExprAdds C (i + 1) key j → Follows (j + 1) (expr_at ts q (expr.Index a key)) in_target u k → Follows i a c u k
  index_step q i j a key c u k h f fits inner w =
      after C (λ rest. takes_at C token.OpenBracket h refl (omega (arith, fits, nests))
      (inner (deep a) (item.expects word.CloseBracket ∷ item.wrap ∷ item.suffixes in_target u ∷ k) (omega (arith, fits, nests))
      (after C (λ g. expects_goes C word.CloseBracket f (wrap_goes C (at_nest C nests g))) rest)))
      (fork C (asked_of_index ts q a key) w)
    where
      nests : deep (expr_at ts q (expr.Index a key)) ≡ suc (max (deep a) (deep key))
      nests = deep_of_index ts q a key

  pub call_step : (q i j : ℕ) (es : List Expr) (a : Expr) (c : PrefixEnd) (u : PrefixUse) (k : List Item)
      → classes.arguments (kind_at ts i) ≢ argument.Nothing → depth k + deep (call_at ts q i (expr.Call a es)) ≤ b
      → ArgsAdd i es j → Follows j (call_at ts q i (expr.Call a es)) in_call u k → Follows i a c u k
  call_step q i j es a c u k shown fits inner w = choose (own_place i (same C (asked_of_call ts q i a es) w))
    where
      nests : deep (call_at ts q i (expr.Call a es)) ≡ suc (max (deep a) (deep_list es))
      nests = deep_of_call ts q i a es

      turned : ArgumentsTurn i (deep a) (item.wrap ∷ item.suffixes in_call u ∷ k) → C.Goal i (deep a) (item.suffixes c u ∷ k)
      turned (opens reach w more e enough g) = C.take (call_turn (kind_at ts i) c u (deep a) k shown ∙ e) enough g

      choose : (C.Asked × (i ≡ p)) ⊎ Way C (asked a ++ asked_list es)
          (C.Goal j (deep (call_at ts q i (expr.Call a es))) (item.suffixes in_call u ∷ k)) → Follows i a c u k
      choose (inl here) = past (at_place C (sym here.1)
          (C.hit here.0 refl (subst (λ z. classes.arguments (kind_at ts z) ≢ argument.Nothing) here.1 shown)))
      choose (inr rest) =
          after C (λ w2. turned (inner (deep a) (item.wrap ∷ item.suffixes in_call u ∷ k) (omega (arith, fits, nests))
          (omega (arith, fits, nests)) (after C (λ g. wrap_goes C (at_nest C nests g)) w2)))
          (fork C refl rest)

  pub method_step : (q i j : ℕ) (x : StrId) (es : List Expr) (a : Expr) (c : PrefixEnd) (u : PrefixUse) (k : List Item)
      → Has ts i token.Colon → Has ts (i + 1) (token.Name x) → classes.arguments (kind_at ts (i + 2)) ≢ argument.Nothing
      → depth k + deep (call_at ts q (i + 2) (expr.Method a x es)) ≤ b
      → ArgsAdd (i + 2) es j → Follows j (call_at ts q (i + 2) (expr.Method a x es)) in_call u k → Follows i a c u k
  method_step q i j x es a c u k h f shown fits inner w = choose (own_place (i + 2) (same C (asked_of_method ts q (i + 2) a x es) w))
    where
      nests : deep (call_at ts q (i + 2) (expr.Method a x es)) ≡ suc (max (deep a) (deep_list es))
      nests = deep_of_method ts q (i + 2) a x es

      named : C.Goal (i + 2) (deep a) (item.arguments ∷ item.wrap ∷ item.suffixes in_call u ∷ k)
          → C.Goal i (deep a) (item.suffixes c u ∷ k)
      named g = takes_at C token.Colon h refl (omega (arith, fits, nests)) (name_goes C x f (at_place C (omega arith) g))

      turned : ArgumentsTurn (i + 2) (deep a) (item.wrap ∷ item.suffixes in_call u ∷ k)
          → C.Goal (i + 2) (deep a) (item.arguments ∷ item.wrap ∷ item.suffixes in_call u ∷ k)
      turned (opens reach w more e enough g) = C.take e enough g

      choose : (C.Asked × (i + 2 ≡ p)) ⊎ Way C (asked a ++ asked_list es)
          (C.Goal j (deep (call_at ts q (i + 2) (expr.Method a x es))) (item.suffixes in_call u ∷ k)) → Follows i a c u k
      choose (inl here) = past (named (at_place C (sym here.1)
          (C.hit here.0 refl (subst (λ z. classes.arguments (kind_at ts z) ≢ argument.Nothing) here.1 shown))))
      choose (inr rest) =
          after C (λ w2. named (turned (inner (deep a) (item.wrap ∷ item.suffixes in_call u ∷ k) (omega (arith, fits, nests))
          (omega (arith, fits, nests)) (after C (λ g. wrap_goes C (at_nest C nests g)) w2))))
          (fork C refl rest)

  -- ---- prefixes

  -- behind the name or the parenthesis that begins a prefix
  pub data Entered (i : ℕ) (u : PrefixUse) (k : List Item) : Type 0 where
    by_name : (x : StrId) → Has ts i (token.Name x) → C.Goal (i + 1) 0 (item.suffixes in_target u ∷ k) → Entered i u k
    by_paren : Has ts i token.OpenParen → depth k + 1 ≤ b
        → C.Goal (i + 1) 0 (expression ∷ item.expects word.CloseParen ∷ item.wrap ∷ item.suffixes in_paren u ∷ k) → Entered i u k

  pub name_step : (i : ℕ) (x : StrId) (u : PrefixUse) (k : List Item) → Has ts i (token.Name x)
      → Follows (i + 1) (expr_at ts i (expr.Name x)) in_target u k → Entered i u k
  name_step i x u k h w = by_name x h (at_nest C (deep_of_name ts i x) (empty C (asked_of_name ts i x) w))

  pub paren_step : (i j : ℕ) (a : Expr) (u : PrefixUse) (k : List Item) → Has ts i token.OpenParen → Has ts j token.CloseParen
      → depth k + deep (expr_at ts i (expr.Paren a)) ≤ b
      → ExprAdds C (i + 1) a j → Follows (j + 1) (expr_at ts i (expr.Paren a)) in_paren u k → Entered i u k
  paren_step i j a u k h f fits inner w =
      by_paren h (omega (arith, fits, deep_of_paren ts i a))
      (inner 0 (item.expects word.CloseParen ∷ item.wrap ∷ item.suffixes in_paren u ∷ k) (omega (arith, fits, deep_of_paren ts i a))
      (after C (λ g. expects_goes C word.CloseParen f (wrap_goes C (at_nest C (omega (arith, deep_of_paren ts i a)) g)))
      (same C (asked_of_paren ts i a) w)))

  pub target_entered : (i v : ℕ) (k : List Item) → Entered i later_target (item.greater v ∷ k) → C.Goal i v (item.target ∷ k)
  target_entered i v k (by_name x h g) = steps_at C (token.Name x) h refl g
  target_entered i v k (by_paren h fits g) = takes_at C token.OpenParen h refl fits g

  -- ---- what may stand without an operator

  abbrev pub SimpleBegins : (i : ℕ) (e : Expr) (j : ℕ) → Type 0
  SimpleBegins i e j = Begins C (λ k. item.simple ∷ k) i (deep e) (asked e) j

  pub prefix_step : (i j : ℕ) (e : Expr) (d : PrefixEnd) → opens_suffix (kind_at ts j) ≡ false
      → ((k : List Item) → depth k + deep e ≤ b → Way C (asked e) (C.Goal j (deep e) (item.suffixes d in_expression ∷ k))
      → Entered i in_expression k) → SimpleBegins i e j
  prefix_step i j e d h enter k fits w = entered
      (enter k fits (after C (λ g. C.stay (plain_turn (kind_at ts j) d in_expression (deep e) k h) g) w))
    where
      entered : Entered i in_expression k → C.Goal i 0 (item.simple ∷ k)
      entered (by_name x f g) = steps_at C (token.Name x) f refl g
      entered (by_paren f enough g) = takes_at C token.OpenParen f refl enough g

  pub literal_step : (i : ℕ) (kind : ExprKind) → literal_of (kind_at ts i) ≡ Some kind → SimpleBegins i (expr_at ts i kind) (i + 1)
  literal_step i kind h k fits w = by_kind (literal_begins (kind_at ts i) kind h)
    where
      g : C.Goal (i + 1) (deep (expr_at ts i kind)) k
      g = empty C (asked_of_literal (kind_at ts i) ts i kind h) w

      by_kind : (classes.beginning (kind_at ts i) ≡ begins.Leaf) ⊎ (classes.beginning (kind_at ts i) ≡ begins.Whole)
          → C.Goal i 0 (item.simple ∷ k)
      by_kind (inl e) = C.take (ap (λ o. simple_turn o 0 k) e) (omega arith) (at_nest C (deep_of_literal (kind_at ts i) ts i kind h e) g)
      by_kind (inr e) = C.take (ap (λ o. simple_turn o 0 k) e) (omega (arith, fits, deep_of_whole (kind_at ts i) ts i kind h e))
          (at_nest C (deep_of_whole (kind_at ts i) ts i kind h e) g)

  pub interp_step : (i j : ℕ) (x : StrId) (xs : List StrId) (es : List Expr) → Has ts i (token.InterpBegin x) → PiecesAdd C (i + 1) es j
      → SimpleBegins i (expr_at ts i (expr.Interp (x ∷ xs) es)) j
  interp_step i j x xs es h inner k fits w =
      takes_at C (token.InterpBegin x) h refl (omega (arith, fits, deep_of_interp ts i (x ∷ xs) es))
      (inner 0 (item.wrap ∷ k) (omega (arith, fits, deep_of_interp ts i (x ∷ xs) es))
      (after C (λ g. wrap_goes C (at_nest C (omega (arith, deep_of_interp ts i (x ∷ xs) es)) g))
      (same C (asked_of_interp ts i (x ∷ xs) es) w)))

  abbrev pub BodyAdds : (i : ℕ) (block : List Stat) (j : ℕ) → Type 0
  BodyAdds i block j = Adds C (λ k. item.body ∷ k) i (deep_block block) (asked_block block) j

  pub function_step : (i j : ℕ) (xs : List StrId) (v : Bool) (block : List Stat) → Has ts i token.Function → BodyAdds (i + 1) block j
      → SimpleBegins i (expr_at ts i (expr.Function (function_at ts i xs v block))) j
  function_step i j xs v block h inner k fits w =
      takes_at C token.Function h refl (omega (arith, fits, deep_of_function ts i xs v block))
      (inner 0 (item.wrap ∷ k) (omega (arith, fits, deep_of_function ts i xs v block))
      (after C (λ g. wrap_goes C (at_nest C (omega (arith, deep_of_function ts i xs v block)) g))
      (same C (asked_of_function ts i xs v block) w)))

  pub constructor_step : (i j : ℕ) (fs : List Field) → Has ts i token.OpenBrace → TableAdds i fs j
      → SimpleBegins i (expr_at ts i (expr.Table fs)) j
  constructor_step i j fs h inner k fits w =
      takes_at C token.OpenBrace h refl (omega (arith, fits, deep_of_table ts i fs))
      (inner 0 (item.wrap ∷ k) (omega (arith, fits, deep_of_table ts i fs))
      (after C (λ g. wrap_goes C (at_nest C (omega (arith, deep_of_table ts i fs)) g)) (same C (asked_of_table ts i fs) w)))

  pub choice_step : (i j : ℕ) (arms : List ExprArm) (other : Expr) → Has ts i token.If → ChoicesAdd C (i + 1) arms other j
      → SimpleBegins i (expr_at ts i (expr.If arms other)) j
  choice_step i j arms other h inner k fits w =
      takes_at C token.If h refl (omega (arith, fits, deep_of_choice ts i arms other))
      (inner 0 (item.wrap ∷ k) (omega (arith, fits, deep_of_choice ts i arms other))
      (after C (λ g. wrap_goes C (at_nest C (omega (arith, deep_of_choice ts i arms other)) g))
      (same C (asked_of_choice ts i arms other) w)))
