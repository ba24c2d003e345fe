-- How turns read a statement that begins with a name or a parenthesis, where they read its parts.
use Rattle.std.proofs.Common.{◌≡◌, ◌≢◌, ◌≤◌, ◌+◌, ℕ, max, Bool, true, false, ◌&&◌, ◌||◌, if◌then◌else◌, IsFalse, nat_eq, List, [], ◌∷◌, Option, Some, None, refl, sym, ap, ◌∙◌, arith, true≢false}
use Rattle.byte_text.specs.declared.StrId.{StrId}
use Rattle.syntax_tree.specs.declared.token.Token.{Token}
use Rattle.syntax_tree.specs.declared.token.TokenKind.{TokenKind}
use Rattle.syntax_tree.specs.declared.token.TokenKind.TheVariants as token
use Rattle.syntax_tree.specs.declared.tree.BinOp.{BinOp}
use Rattle.syntax_tree.specs.declared.tree.Expr.{Expr}
use Rattle.syntax_tree.specs.declared.tree.Stat.{Stat}
use Rattle.syntax_tree.specs.declared.tree.StatKind as stat
use Rattle.syntax_tree.specs.Grammar.{PrefixEnd, in_target, in_call}
use Rattle.syntax_tree.specs.Nodes.{stat_at}
use Rattle.syntax_tree.specs.Operators.{compound_operator}
use Rattle.syntax_tree.specs.Places.{kind_at, Has, Lacks, is_name, is_named}
use Rattle.syntax_tree.specs.Words.{continue_name, type_name, export_name, ends_block, is_semicolon, opens_suffix, opens_type, is_continue}
use Rattle.type_skip.specs.declared.words.Word.TheVariants as word
use Rattle.parse_steps.specs.Classes as classes
use Rattle.parse_steps.specs.Items.{Item, PrefixUse, in_expression, first_target, later_target, depth, expression}
use Rattle.parse_steps.specs.Items as item
use Rattle.parse_steps.specs.Turns.{Turn, turn, stops, stays, takes, word_or, after_continue, after_type, after_export, named_stat}
use Rattle.parse_steps.specs.Turns as turns
use Rattle.parse_steps.proofs.ForwardCourse.{Course, Way, after, fork, same, empty, word_past, takes_at, steps_at, greater_goes, at_nest}
use Rattle.parse_steps.proofs.ForwardEdges.{NoneBehind}
use Rattle.parse_steps.proofs.ForwardNodes.{deep, deep_list, deep_stat, asked, asked_list, asked_stat, deep_of_no_list, asked_of_no_list, deep_of_more_list, asked_of_more_list, deep_of_assign, asked_of_assign, deep_of_compound, asked_of_compound, deep_of_call_stat, asked_of_call_stat}
use Rattle.parse_steps.proofs.ForwardPrefixes.{Entered, by_name, by_paren, target_entered, plain_turn}
use Rattle.parse_steps.proofs.ForwardTables.{ExprAdds, ListAdds}

-- ---- the turn behind a name that begins a statement

-- of two tests that fail
pub left_of_or : (a c : Bool) → a || c ≡ false → a ≡ false
left_of_or true c h = h
left_of_or false c h = refl

no_type_name : (t : Option TokenKind) (v : ℕ) (k : List Item) → is_name t ≡ false → after_type (classes.name_of t) v k ≡ named_stat v k
no_type_name (Some (token.Name x)) v k h = absurd (true≢false h)
no_type_name None v k h = refl
no_type_name _ v k h = refl

by_words : (a c d : Bool) (t u : Option TokenKind) (v : ℕ) (k : List Item)
    → a && (ends_block t || (is_semicolon t && ends_block u)) ≡ false → (c && is_name t) || (d && is_named type_name t) ≡ false
    → t ≢ Some token.Semicolon
    → (if a then after_continue (ends_block t) t v k else if c then after_type (classes.name_of t) v k else if d then after_export
    (is_named type_name t) v k else named_stat v k) ≡ named_stat v k
by_words true c d t u v k h f g =
    ap (λ e. after_continue e t v k) (left_of_or (ends_block t) (is_semicolon t && ends_block u) h)
    ∙ word_past word.Semicolon (takes 0 v (item.block_end ∷ k)) (named_stat v k) g
by_words false true d t u v k h f g = no_type_name t v k (left_of_or (is_name t) (d && is_named type_name t) f)
by_words false false true t u v k h f g = ap (λ e. after_export e v k) f
by_words false false false t u v k h f g = refl

named_turn : (ts : List Token) (i v : ℕ) (k : List Item) (x : StrId) → Has ts i (token.Name x) → IsFalse (opens_type ts i)
    → IsFalse (is_continue ts i) → Lacks ts (i + 1) token.Semicolon → turns.after_name x (kind_at ts (i + 1)) v k ≡ named_stat v k
named_turn ts i v k x h f g s =
    by_words (nat_eq x.0 continue_name.0) (nat_eq x.0 type_name.0) (nat_eq x.0 export_name.0) (kind_at ts (i + 1))
    (kind_at ts (i + 1 + 1)) v k
    (ap (λ o. is_named continue_name o && (ends_block (kind_at ts (i + 1)) ||
    (is_semicolon (kind_at ts (i + 1)) && ends_block (kind_at ts (i + 1 + 1))))) (sym h) ∙ g)
    (ap (λ o. (is_named type_name o && is_name (kind_at ts (i + 1))) ||
    (is_named export_name o && is_named type_name (kind_at ts (i + 1)))) (sym h) ∙ f)
    s

-- ---- the turn behind a target

abbrev pub is_target : PrefixUse → Bool
is_target in_expression = false
is_target first_target = true
is_target later_target = true

equal_turn : (u : PrefixUse) (v : ℕ) (k : List Item) → is_target u ≡ true
    → turn (Some token.Equal) v (item.suffixes in_target u) k ≡ takes 0 v (expression ∷ item.list_more ∷ k)
equal_turn first_target v k h = refl
equal_turn later_target v k h = refl
equal_turn in_expression v k h = absurd (true≢false (sym h))

comma_turn : (u : PrefixUse) (v : ℕ) (k : List Item) → is_target u ≡ true
    → turn (Some token.Comma) v (item.suffixes in_target u) k ≡ takes 0 v (item.target ∷ k)
comma_turn first_target v k h = refl
comma_turn later_target v k h = refl
comma_turn in_expression v k h = absurd (true≢false (sym h))

compound_turn : (t : Option TokenKind) (op : BinOp) (v : ℕ) (k : List Item) → compound_operator t ≡ Some op
    → turn t v (item.suffixes in_target first_target) k ≡ takes 0 v (expression ∷ k)
compound_turn (Some token.PlusEqual) op v k h = refl
compound_turn (Some token.MinusEqual) op v k h = refl
compound_turn (Some token.StarEqual) op v k h = refl
compound_turn (Some token.SlashEqual) op v k h = refl
compound_turn (Some token.DoubleSlashEqual) op v k h = refl
compound_turn (Some token.PercentEqual) op v k h = refl
compound_turn (Some token.CaretEqual) op v k h = refl
compound_turn (Some token.DoubleDotEqual) op v k h = refl
compound_turn _ op v k h = absurd cc

module _ {ts : List Token} {n b p : ℕ} (C : Course ts n b p) where
  -- a statement in its block
  abbrev pub StatAdds : (i : ℕ) (s : Stat) (j : ℕ) → Type 0
  StatAdds i s j = (v : ℕ) (k : List Item) → depth k + deep_stat s ≤ b
      → Way C (asked_stat s) (C.Goal j (max v (deep_stat s)) (item.stat_end ∷ k)) → C.Goal i v (item.block ∷ k)

  -- a prefix of this use, with what is behind it
  abbrev pub Enters : (u : PrefixUse) (i : ℕ) (e : Expr) (d : PrefixEnd) (j : ℕ) → Type 0
  Enters u i e d j = (k : List Item) → depth k + deep e ≤ b → Way C (asked e) (C.Goal j (deep e) (item.suffixes d u ∷ k))
      → Entered C i u k

  stat_entered : (i v : ℕ) (k : List Item) → IsFalse (opens_type ts i) → IsFalse (is_continue ts i) → NoneBehind ts i
      → Entered C i first_target (item.greater v ∷ item.stat_end ∷ k) → C.Goal i v (item.block ∷ k)
  stat_entered i v k f g s (by_name x h goal) = steps_at C (token.Name x) h refl (C.stay (named_turn ts i v k x h f g (s x h)) goal)
  stat_entered i v k f g s (by_paren h fits goal) = takes_at C token.OpenParen h refl fits goal

  -- targets, and the values that are assigned to them
  abbrev pub TargetsEnter : (i : ℕ) (es vs : List Expr) (q : ℕ) → Type 0
  TargetsEnter i es vs q = (u : PrefixUse) → is_target u ≡ true → (v : ℕ) (k : List Item)
      → depth k + max (deep_list es) (deep_list vs) ≤ b
      → Way C (asked_list es) (Way C (asked_list vs) (C.Goal q (max v (max (deep_list es) (deep_list vs))) k))
      → Entered C i u (item.greater v ∷ k)

  pub last_target_step : (i j q : ℕ) (e : Expr) (vs : List Expr) → Has ts j token.Equal → ((u : PrefixUse) → Enters u i e in_target j)
      → ListAdds C (j + 1) vs q → TargetsEnter i (e ∷ []) vs q
  last_target_step i j q e vs h prefix values u is v k fits w =
      prefix u (item.greater v ∷ k) (omega (arith, fits, deep_of_more_list e []))
      (after C (λ w2. steps_at C token.Equal h (equal_turn u (deep e) (item.greater v ∷ k) is)
      (values (deep e) (item.greater v ∷ k) (omega (arith, fits))
      (after C (λ g. greater_goes C v (at_nest C (omega (arith, deep_of_more_list e [], deep_of_no_list)) g))
      (empty C asked_of_no_list w2))))
      (fork C (asked_of_more_list e []) w))

  pub more_targets_step : (i j q : ℕ) (e : Expr) (es vs : List Expr) → Has ts j token.Comma
      → ((u : PrefixUse) → Enters u i e in_target j) → TargetsEnter (j + 1) es vs q → TargetsEnter i (e ∷ es) vs q
  more_targets_step i j q e es vs h prefix more u is v k fits w =
      prefix u (item.greater v ∷ k) (omega (arith, fits, deep_of_more_list e es))
      (after C (λ w2. steps_at C token.Comma h (comma_turn u (deep e) (item.greater v ∷ k) is)
      (target_entered C (j + 1) (deep e) (item.greater v ∷ k)
      (more later_target refl (deep e) (item.greater v ∷ k) (omega (arith, fits, deep_of_more_list e es))
      (after C (after C (λ g. greater_goes C v (at_nest C (omega (arith, deep_of_more_list e es)) g))) w2))))
      (fork C (asked_of_more_list e es) w))

  pub assign_step : (i q : ℕ) (es vs : List Expr) → IsFalse (opens_type ts i) → IsFalse (is_continue ts i) → NoneBehind ts i
      → TargetsEnter i es vs q → StatAdds i (stat_at ts i (stat.Assign es vs)) q
  assign_step i q es vs f g s enter v k fits w =
      stat_entered i v k f g s (enter first_target refl v (item.stat_end ∷ k) (omega (arith, fits, deep_of_assign ts i es vs))
      (after C (after C (at_nest C (ap (max v) (deep_of_assign ts i es vs)))) (fork C (asked_of_assign ts i es vs) w)))

  pub compound_step : (i j q : ℕ) (op : BinOp) (e x : Expr) → IsFalse (opens_type ts i) → IsFalse (is_continue ts i) → NoneBehind ts i
      → compound_operator (kind_at ts j) ≡ Some op
      → Enters first_target i e in_target j → ExprAdds C (j + 1) x q → StatAdds i (stat_at ts i (stat.Compound op e x)) q
  compound_step i j q op e x f g s h enter value v k fits w =
      stat_entered i v k f g s (enter (item.greater v ∷ item.stat_end ∷ k) (omega (arith, fits, deep_of_compound ts i op e x))
      (after C (λ w2. C.take (compound_turn (kind_at ts j) op (deep e) (item.greater v ∷ item.stat_end ∷ k) h) (omega arith)
      (value (deep e) (item.greater v ∷ item.stat_end ∷ k) (omega (arith, fits, deep_of_compound ts i op e x))
      (after C (λ goal. greater_goes C v (at_nest C (ap (max v) (deep_of_compound ts i op e x)) goal)) w2)))
      (fork C (asked_of_compound ts i op e x) w)))

  pub call_stat_step : (i j : ℕ) (e : Expr) → IsFalse (opens_type ts i) → IsFalse (is_continue ts i) → NoneBehind ts i
      → opens_suffix (kind_at ts j) ≡ false
      → Enters first_target i e in_call j → StatAdds i (stat_at ts i (stat.Call e)) j
  call_stat_step i j e f g s h enter v k fits w =
      stat_entered i v k f g s (enter (item.greater v ∷ item.stat_end ∷ k) (omega (arith, fits, deep_of_call_stat ts i e))
      (after C (λ goal. C.stay (plain_turn (kind_at ts j) in_call first_target (deep e) (item.greater v ∷ item.stat_end ∷ k) h)
      (greater_goes C v (at_nest C (ap (max v) (deep_of_call_stat ts i e)) goal)))
      (same C (asked_of_call_stat ts i e) w)))
