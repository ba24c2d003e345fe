-- How turns read lists, interpolated strings, choices and tables, where they read the expressions in them.
use Rattle.std.proofs.Common.{◌≡◌, ◌≢◌, ◌≤◌, ◌+◌, ℕ, max, true, false, IsTrue, IsFalse, ◌&&◌, if◌then◌else◌, List, [], ◌∷◌, ◌++◌, Option, Some, None, refl, sym, ap, ◌∙◌, arith, true≢false}
use Rattle.byte_text.specs.declared.StrId.{StrId}
use Rattle.syntax_tree.specs.declared.token.Token.{Token}
use Rattle.syntax_tree.specs.declared.token.TokenKind.{TokenKind}
use Rattle.syntax_tree.specs.declared.token.TokenKind.TheVariants as token
use Rattle.syntax_tree.specs.declared.tree.Expr.{Expr}
use Rattle.syntax_tree.specs.declared.tree.ExprArm.{ExprArm}
use Rattle.syntax_tree.specs.declared.tree.Field.{Field}
use Rattle.syntax_tree.specs.declared.tree.FieldKind as field
use Rattle.syntax_tree.specs.Nodes.{field_at, expr_arm}
use Rattle.syntax_tree.specs.Places.{kind_at, Has, Lacks, is_name}
use Rattle.syntax_tree.specs.Types.{is_separator}
use Rattle.syntax_tree.specs.Words.{opens_named, is_equal}
use Rattle.parse_steps.specs.declared.levels.Level.TheVariants as levels
use Rattle.parse_steps.specs.declared.levels.Rank.TheVariants as rank
use Rattle.type_skip.specs.declared.words.Word.TheVariants as word
use Rattle.parse_steps.specs.Classes as classes
use Rattle.parse_steps.specs.Items.{Item, depth, climb, expression}
use Rattle.parse_steps.specs.Items as item
use Rattle.parse_steps.specs.Turns.{turn, stops, stays, takes, word_or, name_turn, named_expression}
use Rattle.parse_steps.proofs.ForwardCourse.{Course, Way, after, fork, cut, join, same, empty, word_past, steps_at, expects_goes, greater_goes, at_nest, at_place}
use Rattle.parse_steps.proofs.ForwardNodes.{deep, deep_list, deep_choices, deep_field, deep_fields, asked, asked_list, asked_choices, asked_field, asked_fields, deep_of_no_list, asked_of_no_list, deep_of_more_list, asked_of_more_list, deep_of_no_choices, asked_of_no_choices, deep_of_more_choices, asked_of_more_choices, deep_of_no_fields, asked_of_no_fields, deep_of_more_fields, asked_of_more_fields, deep_of_item, asked_of_item, deep_of_named, asked_of_named, deep_of_keyed, asked_of_keyed}
use Rattle.parse_steps.proofs.ForwardOperators.{Adds, Climbs, whole}

-- where no "=" follows, a name in a table begins an expression
not_equal : (x : StrId) (t u : Option TokenKind) → t ≡ Some (token.Name x) → is_name t && is_equal u ≡ false → u ≢ Some token.Equal
not_equal x t u h g e = true≢false (sym both ∙ g)
  where
    both : is_name t && is_equal u ≡ true
    both = ap (λ o. is_name o && is_equal u) h ∙ ap is_equal e

module _ {ts : List Token} {n b p : ℕ} (C : Course ts n b p) where
  abbrev pub ExprAdds : (i : ℕ) (e : Expr) (j : ℕ) → Type 0
  ExprAdds i e j = Adds C (λ k. expression ∷ k) i (deep e) (asked e) j

  pub expr_adds : (i : ℕ) (e : Expr) (j : ℕ) → Climbs C (levels.Of rank.Ors) i e j → ExprAdds i e j
  expr_adds i e j first = whole C (levels.Of rank.Ors) i (deep e) (asked e) j first

  -- ---- lists

  abbrev pub ListAdds : (i : ℕ) (es : List Expr) (j : ℕ) → Type 0
  ListAdds i es j = Adds C (λ k. expression ∷ item.list_more ∷ k) i (deep_list es) (asked_list es) j

  pub last_expr_step : (i j : ℕ) (e : Expr) → Lacks ts j token.Comma → ExprAdds i e j → ListAdds i (e ∷ []) j
  last_expr_step i j e h first v k fits w = first v (item.list_more ∷ k) (omega (arith, fits, deep_of_more_list e []))
      (after C stop (fork C (asked_of_more_list e []) w))
    where
      stop : Way C (asked_list []) (C.Goal j (max v (deep_list (e ∷ []))) k) → C.Goal j (max v (deep e)) (item.list_more ∷ k)
      stop rest =
          C.stay (word_past word.Comma (takes 0 (max v (deep e)) (expression ∷ item.list_more ∷ k)) (stays (max v (deep e)) k) h)
          (at_nest C (omega (arith, deep_of_more_list e [], deep_of_no_list)) (empty C asked_of_no_list rest))

  pub more_exprs_step : (i j m : ℕ) (e : Expr) (es : List Expr) → Has ts j token.Comma → ExprAdds i e j → ListAdds (j + 1) es m
      → ListAdds i (e ∷ es) m
  more_exprs_step i j m e es h first more v k fits w =
      first v (item.list_more ∷ k) (omega (arith, fits, deep_of_more_list e es))
      (after C (λ rest. steps_at C token.Comma h refl
      (more (max v (deep e)) k (omega (arith, fits, deep_of_more_list e es))
      (after C (at_nest C (omega (arith, deep_of_more_list e es))) rest)))
      (fork C (asked_of_more_list e es) w))

  -- ---- interpolated strings

  abbrev pub PiecesAdd : (i : ℕ) (es : List Expr) (j : ℕ) → Type 0
  PiecesAdd i es j = Adds C (λ k. expression ∷ item.pieces ∷ k) i (deep_list es) (asked_list es) j

  pub last_piece_step : (i j : ℕ) (x : StrId) (e : Expr) → Has ts j (token.InterpEnd x) → ExprAdds i e j → PiecesAdd i (e ∷ []) (j + 1)
  last_piece_step i j x e h first v k fits w = first v (item.pieces ∷ k) (omega (arith, fits, deep_of_more_list e []))
      (after C stop (fork C (asked_of_more_list e []) w))
    where
      stop : Way C (asked_list []) (C.Goal (j + 1) (max v (deep_list (e ∷ []))) k) → C.Goal j (max v (deep e)) (item.pieces ∷ k)
      stop rest = steps_at C (token.InterpEnd x) h refl
          (at_nest C (omega (arith, deep_of_more_list e [], deep_of_no_list)) (empty C asked_of_no_list rest))

  pub more_pieces_step : (i j m : ℕ) (x : StrId) (e : Expr) (es : List Expr) → Has ts j (token.InterpMid x) → ExprAdds i e j
      → PiecesAdd (j + 1) es m → PiecesAdd i (e ∷ es) m
  more_pieces_step i j m x e es h first more v k fits w =
      first v (item.pieces ∷ k) (omega (arith, fits, deep_of_more_list e es))
      (after C (λ rest. steps_at C (token.InterpMid x) h refl
      (more (max v (deep e)) k (omega (arith, fits, deep_of_more_list e es))
      (after C (at_nest C (omega (arith, deep_of_more_list e es))) rest)))
      (fork C (asked_of_more_list e es) w))

  -- ---- choices

  abbrev pub ChoicesAdd : (i : ℕ) (arms : List ExprArm) (other : Expr) (j : ℕ) → Type 0
  ChoicesAdd i arms other j = Adds C (λ k. expression ∷ item.expects word.Then ∷ expression ∷ item.choice_more ∷ k) i
      (max (deep_choices arms) (deep other)) (asked_choices arms ++ asked other) j

  -- the places of an arm, of the further ones, and of the last value
  arm_places : {G : Type 0} (c v o : Expr) (arms : List ExprArm) → Way C (asked_choices (expr_arm c v ∷ arms) ++ asked o) G
      → Way C (asked c) (Way C (asked v) (Way C (asked_choices arms ++ asked o) G))
  arm_places c v o arms w = first (fork C (asked_of_more_choices c v arms) (cut C (asked_choices (expr_arm c v ∷ arms)) (asked o) w))
    where
      rejoin : {G : Type 0} → Way C (asked_choices arms) (Way C (asked o) G) → Way C (asked_choices arms ++ asked o) G
      rejoin x = join C (asked_choices arms) (asked o) x

      first : {G : Type 0} → Way C (asked c ++ asked v) (Way C (asked_choices arms) (Way C (asked o) G))
          → Way C (asked c) (Way C (asked v) (Way C (asked_choices arms ++ asked o) G))
      first x = after C (after C rejoin) (cut C (asked c) (asked v) x)

  pub last_choice_step : (i j m l : ℕ) (c v o : Expr) → Has ts j token.Then → Has ts m token.Else → ExprAdds i c j → ExprAdds (j + 1) v m
      → ExprAdds (m + 1) o l → ChoicesAdd i (expr_arm c v ∷ []) o l
  last_choice_step i j m l c v o h f read_c read_v read_o u k fits w =
      read_c u (item.expects word.Then ∷ expression ∷ item.choice_more ∷ k) (omega (arith, fits, deep_of_more_choices c v []))
      (after C (λ w2. expects_goes C word.Then h
      (read_v (max u (deep c)) (item.choice_more ∷ k) (omega (arith, fits, deep_of_more_choices c v []))
      (after C (λ w3. steps_at C token.Else f refl
      (read_o (max (max u (deep c)) (deep v)) k (omega (arith, fits, deep_of_more_choices c v []))
      (after C (at_nest C (omega (arith, deep_of_more_choices c v [], deep_of_no_choices))) (last w3)))) w2)))
      (arm_places c v o [] w))
    where
      last : {G : Type 0} → Way C (asked_choices [] ++ asked o) G → Way C (asked o) G
      last x = empty C asked_of_no_choices (cut C (asked_choices []) (asked o) x)

  pub more_choices_step : (i j m l : ℕ) (c v o : Expr) (arms : List ExprArm) → Has ts j token.Then → Has ts m token.ElseIf
      → ExprAdds i c j → ExprAdds (j + 1) v m → ChoicesAdd (m + 1) arms o l → ChoicesAdd i (expr_arm c v ∷ arms) o l
  more_choices_step i j m l c v o arms h f read_c read_v more u k fits w =
      read_c u (item.expects word.Then ∷ expression ∷ item.choice_more ∷ k) (omega (arith, fits, deep_of_more_choices c v arms))
      (after C (λ w2. expects_goes C word.Then h
      (read_v (max u (deep c)) (item.choice_more ∷ k) (omega (arith, fits, deep_of_more_choices c v arms))
      (after C (λ w3. steps_at C token.ElseIf f refl
      (more (max (max u (deep c)) (deep v)) k (omega (arith, fits, deep_of_more_choices c v arms))
      (after C (at_nest C (omega (arith, deep_of_more_choices c v arms))) w3))) w2)))
      (arm_places c v o arms w))

  -- ---- fields

  abbrev pub FieldsAdd : (i : ℕ) (fs : List Field) (j : ℕ) → Type 0
  FieldsAdd i fs j = Adds C (λ k. item.fields ∷ k) i (deep_fields fs) (asked_fields fs) (j + 1)

  abbrev pub FieldAdds : (i : ℕ) (f : Field) (j : ℕ) → Type 0
  FieldAdds i f j = (v : ℕ) (k : List Item) → depth k + deep_field f ≤ b
      → Way C (asked_field f) (C.Goal j (max v (deep_field f)) (item.field_end ∷ k)) → C.Goal i v (item.fields ∷ k)

  pub no_field_step : (i : ℕ) → Has ts i token.CloseBrace → FieldsAdd i [] i
  no_field_step i h v k fits w = steps_at C token.CloseBrace h refl
      (at_nest C (omega (arith, deep_of_no_fields)) (empty C asked_of_no_fields w))

  pub last_field_step : (i j : ℕ) (f : Field) → Has ts j token.CloseBrace → FieldAdds i f j → FieldsAdd i (f ∷ []) j
  last_field_step i j f h first v k fits w =
      first v k (omega (arith, fits, deep_of_more_fields f []))
      (after C (λ rest. steps_at C token.CloseBrace h refl
      (at_nest C (omega (arith, deep_of_more_fields f [], deep_of_no_fields)) (empty C asked_of_no_fields rest)))
      (fork C (asked_of_more_fields f []) w))

  pub more_fields_step : (i j m : ℕ) (f : Field) (fs : List Field) → IsTrue (is_separator (kind_at ts j)) → FieldAdds i f j
      → FieldsAdd (j + 1) fs m → FieldsAdd i (f ∷ fs) m
  more_fields_step i j m f fs h first more v k fits w =
      first v k (omega (arith, fits, deep_of_more_fields f fs))
      (after C (λ rest. C.take (separated (max v (deep_field f))) (omega arith)
      (more (max v (deep_field f)) k (omega (arith, fits, deep_of_more_fields f fs))
      (after C (at_nest C (omega (arith, deep_of_more_fields f fs))) rest)))
      (fork C (asked_of_more_fields f fs) w))
    where
      separated : (u : ℕ) → turn (kind_at ts j) u item.field_end k ≡ takes 0 u (item.fields ∷ k)
      separated u = ap (λ s. if s then takes 0 u (item.fields ∷ k) else word_or word.CloseBrace (kind_at ts j) (takes 0 u k) stops) h

  pub keyed_step : (i j m : ℕ) (a c : Expr) → Has ts i token.OpenBracket → Has ts j token.CloseBracket → Has ts (j + 1) token.Equal
      → ExprAdds (i + 1) a j → ExprAdds (j + 2) c m → FieldAdds i (field_at ts i (field.Keyed a c)) m
  keyed_step i j m a c h f g key value v k fits w =
      steps_at C token.OpenBracket h refl
      (key v (item.expects word.CloseBracket ∷ item.expects word.Equal ∷ expression ∷ item.field_end ∷ k)
      (omega (arith, fits, deep_of_keyed ts i a c))
      (after C (λ rest. expects_goes C word.CloseBracket f
      (expects_goes C word.Equal g (at_place C (omega arith)
      (value (max v (deep a)) (item.field_end ∷ k) (omega (arith, fits, deep_of_keyed ts i a c))
      (after C (at_nest C (omega (arith, deep_of_keyed ts i a c))) rest)))))
      (fork C (asked_of_keyed ts i a c) w)))

  pub named_step : (i j : ℕ) (x : StrId) (e : Expr) → Has ts i (token.Name x) → Has ts (i + 1) token.Equal → ExprAdds (i + 2) e j
      → FieldAdds i (field_at ts i (field.Named x e)) j
  named_step i j x e h f value v k fits w =
      steps_at C (token.Name x) h refl (steps_at C token.Equal f refl
      (at_place C (omega arith) (value v (item.field_end ∷ k) (omega (arith, fits, deep_of_named ts i x e))
      (after C (at_nest C (omega (arith, deep_of_named ts i x e))) (same C (asked_of_named ts i x e) w)))))

  pub item_step : (i j : ℕ) (e : Expr) → Lacks ts i token.CloseBrace → Lacks ts i token.OpenBracket → IsFalse (opens_named ts i)
      → Climbs C (levels.Of rank.Ors) i e j → FieldAdds i (field_at ts i (field.Item e)) j
  item_step i j e h f g value v k fits w = begins (classes.name_of (kind_at ts i)) refl
    where
      ready : Way C (asked e) (C.Goal j (max v (deep e)) (item.field_end ∷ k))
      ready = after C (at_nest C (omega (arith, deep_of_item ts i e))) (same C (asked_of_item ts i e) w)

      short : depth k + deep e ≤ b
      short = omega (arith, fits, deep_of_item ts i e)

      past_words : turn (kind_at ts i) v item.fields k ≡ name_turn (classes.name_of (kind_at ts i))
          (takes 0 v (item.field_name ∷ item.field_end ∷ k)) (stays v (expression ∷ item.field_end ∷ k))
      past_words =
          word_past word.CloseBrace (takes 0 v k) (word_or word.OpenBracket (kind_at ts i)
          (takes 0 v (expression ∷ item.expects word.CloseBracket ∷ item.expects word.Equal ∷ expression ∷ item.field_end ∷ k))
          (name_turn (classes.name_of (kind_at ts i)) (takes 0 v (item.field_name ∷ item.field_end ∷ k))
          (stays v (expression ∷ item.field_end ∷ k)))) h
          ∙ word_past word.OpenBracket (takes 0 v (expression ∷ item.expects word.CloseBracket ∷ item.expects word.Equal ∷ expression ∷
          item.field_end ∷ k)) (name_turn (classes.name_of (kind_at ts i)) (takes 0 v (item.field_name ∷ item.field_end ∷ k))
          (stays v (expression ∷ item.field_end ∷ k))) f

      name_is : (t : Option TokenKind) (x : StrId) → classes.name_of t ≡ Some x → t ≡ Some (token.Name x)
      name_is (Some (token.Name y)) x e = ap (λ (o : Option StrId). name_token o) e
        where
          name_token : Option StrId → Option TokenKind
          name_token (Some z) = Some (token.Name z)
          name_token None = None
      name_is _ x e = absurd cc

      behind : (x : StrId) → Has ts i (token.Name x) → C.Goal (i + 1) v (item.field_name ∷ item.field_end ∷ k)
      behind x there =
          C.stay (word_past word.Equal (takes 0 v (expression ∷ item.field_end ∷ k)) (named_expression v (item.field_end ∷ k))
          (not_equal x (kind_at ts i) (kind_at ts (i + 1)) there g))
          (C.behind_name x there (value (item.greater v ∷ item.field_end ∷ k) short (after C (greater_goes C v) ready)))

      begins : (o : Option StrId) → classes.name_of (kind_at ts i) ≡ o → C.Goal i v (item.fields ∷ k)
      begins (Some x) there =
          C.take (past_words ∙ ap (λ q. name_turn q (takes 0 v (item.field_name ∷ item.field_end ∷ k))
          (stays v (expression ∷ item.field_end ∷ k))) there) (omega arith)
          (behind x (name_is (kind_at ts i) x there))
      begins None there =
          C.stay (past_words ∙ ap (λ q. name_turn q (takes 0 v (item.field_name ∷ item.field_end ∷ k))
          (stays v (expression ∷ item.field_end ∷ k))) there)
          (expr_adds i e j value v (item.field_end ∷ k) short ready)
