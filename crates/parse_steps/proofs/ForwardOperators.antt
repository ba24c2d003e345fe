-- How turns read an expression with operators, where they read its parts.
use Rattle.std.proofs.Common.{◌≡◌, ◌≤◌, ◌+◌, ℕ, suc, max, List, [], ◌∷◌, Some, None, refl, ap, ◌∙◌, arith}
use Rattle.syntax_tree.specs.declared.token.Token.{Token}
use Rattle.syntax_tree.specs.declared.token.TokenKind.TheVariants as token
use Rattle.syntax_tree.specs.declared.tree.BinOp.{BinOp}
use Rattle.syntax_tree.specs.declared.tree.BinOp.TheVariants as binary
use Rattle.syntax_tree.specs.declared.tree.Expr.{Expr}
use Rattle.syntax_tree.specs.declared.tree.ExprKind as expr
use Rattle.syntax_tree.specs.declared.tree.UnOp.{UnOp}
use Rattle.syntax_tree.specs.Nodes.{expr_at}
use Rattle.syntax_tree.specs.Operators.{OperatorLevel, ors, ands, comparisons, sums, products, operator, unary_operator}
use Rattle.syntax_tree.specs.Places.{kind_at, Has, Lacks}
use Rattle.syntax_tree.specs.Types.{IsType}
use Rattle.parse_steps.specs.declared.levels.Level.{Level}
use Rattle.parse_steps.specs.declared.levels.Level.TheVariants as levels
use Rattle.parse_steps.specs.declared.levels.Rank.{Rank}
use Rattle.parse_steps.specs.declared.levels.Rank.TheVariants as rank
use Rattle.type_skip.specs.declared.words.Word.TheVariants as word
use Rattle.parse_steps.specs.Items.{Item, depth, climb}
use Rattle.parse_steps.specs.Items as item
use Rattle.parse_steps.specs.Levels.{rank_of, next}
use Rattle.parse_steps.specs.Turns.{stays, takes, unary_turn, operations_turn, next_reach}
use Rattle.parse_steps.proofs.ForwardCourse.{Course, Way, after, fork, same, empty, word_past, takes_at, steps_at, wrap_goes, greater_goes, at_nest}
use Rattle.parse_steps.proofs.ForwardNodes.{deep, deep_list, asked, asked_list, deep_of_binary, asked_of_binary, deep_of_unary, asked_of_unary, deep_of_paren, asked_of_paren, deep_of_concat, asked_of_concat, deep_of_no_list, asked_of_no_list, deep_of_more_list, asked_of_more_list}

abbrev pub rank_for : OperatorLevel → Rank
rank_for ors = rank.Ors
rank_for ands = rank.Ands
rank_for comparisons = rank.Comparisons
rank_for sums = rank.Sums
rank_for products = rank.Products

ranks_agree : (l : OperatorLevel) → rank_of (rank_for l) ≡ l
ranks_agree ors = refl
ranks_agree ands = refl
ranks_agree comparisons = refl
ranks_agree sums = refl
ranks_agree products = refl

module _ {ts : List Token} {n b p : ℕ} (C : Course ts n b p) where
  -- what reads from place i to place j something that nests d deep, where arguments open at these places: from nothing read
  abbrev pub Begins : (List Item → List Item) → (i d : ℕ) → List ℕ → (j : ℕ) → Type 0
  Begins f i d places j = (k : List Item) → depth k + d ≤ b → Way C places (C.Goal j d k) → C.Goal i 0 (f k)

  -- and with what nests v deep before it
  abbrev pub Adds : (List Item → List Item) → (i d : ℕ) → List ℕ → (j : ℕ) → Type 0
  Adds f i d places j = (v : ℕ) (k : List Item) → depth k + d ≤ b → Way C places (C.Goal j (max v d) k) → C.Goal i v (f k)

  -- an expression of a level, and what binary operators make of it
  abbrev pub Climbs : Level → (i : ℕ) (e : Expr) (j : ℕ) → Type 0
  Climbs l i e j = Begins (λ k. item.unary ∷ climb l k) i (deep e) (asked e) j

  pub whole : (l : Level) (i d : ℕ) (places : List ℕ) (j : ℕ) → Begins (λ k. item.unary ∷ climb l k) i d places j
      → Adds (λ k. item.level l ∷ k) i d places j
  whole l i d places j begin v k fits w = C.stay refl (begin (item.greater v ∷ k) fits (after C (greater_goes C v) w))

  -- ---- binary operators

  pub operation_step : (l : OperatorLevel) (q i j : ℕ) (op : BinOp) (a c e : Expr) (k : List Item) → operator l (kind_at ts i) ≡ Some op
      → deep (expr_at ts q (expr.Binary op a c)) ≤ deep e → depth k + deep e ≤ b
      → Climbs (next (rank_for l)) (i + 1) c j
      → Way C (asked (expr_at ts q (expr.Binary op a c)))
      (C.Goal j (deep (expr_at ts q (expr.Binary op a c))) (item.operations (rank_for l) ∷ k))
      → Way C (asked a) (C.Goal i (deep a) (item.operations (rank_for l) ∷ k))
  operation_step l q i j op a c e k h grows fits operand w = after C go (fork C (asked_of_binary ts q op a c) w)
    where
      nests : deep (expr_at ts q (expr.Binary op a c)) ≡ suc (max (deep a) (deep c))
      nests = deep_of_binary ts q op a c

      found : operator (rank_of (rank_for l)) (kind_at ts i) ≡ Some op
      found = ap (λ m. operator m (kind_at ts i)) (ranks_agree l) ∙ h

      go : Way C (asked c) (C.Goal j (deep (expr_at ts q (expr.Binary op a c))) (item.operations (rank_for l) ∷ k))
          → C.Goal i (deep a) (item.operations (rank_for l) ∷ k)
      go rest =
          C.take (ap (λ o. operations_turn o (rank_for l) (deep a) k) found) (omega (arith, nests, grows, fits))
          (whole (next (rank_for l)) (i + 1) (deep c) (asked c) j operand (deep a) (item.wrap ∷ item.operations (rank_for l) ∷ k)
          (omega (arith, nests, grows, fits))
          (after C (λ g. wrap_goes C (at_nest C nests g)) rest))

  -- operators of a level behind the left part a, up to an expression e
  abbrev pub OperationsGo : (l : OperatorLevel) (i : ℕ) (a e : Expr) (j : ℕ) → Type 0
  OperationsGo l i a e j = (k : List Item) → depth k + deep e ≤ b → Way C (asked e) (C.Goal j (deep e) k)
      → Way C (asked a) (C.Goal i (deep a) (item.operations (rank_for l) ∷ k))

  pub no_operation_step : (l : OperatorLevel) (i : ℕ) (a : Expr) → operator l (kind_at ts i) ≡ None → OperationsGo l i a a i
  no_operation_step l i a h k fits w = after C (λ g. C.stay (ap (λ o. operations_turn o (rank_for l) (deep a) k) none) g) w
    where
      none : operator (rank_of (rank_for l)) (kind_at ts i) ≡ None
      none = ap (λ m. operator m (kind_at ts i)) (ranks_agree l) ∙ h

  -- an expression of the level with these operators
  abbrev pub LevelBegins : (l : OperatorLevel) (i : ℕ) (e : Expr) (j : ℕ) → Type 0
  LevelBegins l i e j = Begins (λ k. item.unary ∷ climb (next (rank_for l)) (item.operations (rank_for l) ∷ k)) i (deep e) (asked e) j

  pub level_step : (l : OperatorLevel) (i j m : ℕ) (a e : Expr) → deep a ≤ deep e → Climbs (next (rank_for l)) i a j
      → OperationsGo l j a e m → LevelBegins l i e m
  level_step l i j m a e grows operand operators k fits w = operand (item.operations (rank_for l) ∷ k) (omega (arith, grows, fits))
      (operators k fits w)

  -- ---- runs of ".."

  pub no_concat_step : (i j : ℕ) (e : Expr) (k : List Item) → Lacks ts j token.DoubleDot → depth k + deep e ≤ b
      → Climbs (levels.Of rank.Sums) i e j → Way C (asked e) (C.Goal j (deep e) k) → C.Goal i 0 (item.unary ∷ climb levels.Runs k)
  no_concat_step i j e k h fits first w =
      first (item.run ∷ k) fits (after C (λ g. C.stay
      (word_past word.DoubleDot (takes (next_reach (deep e) k) (deep e)
      (item.level (levels.Of rank.Sums) ∷ item.run_more ∷ item.wrap ∷ k)) (stays (deep e) k) h) g) w)

  abbrev pub RunAdds : (i : ℕ) (es : List Expr) (j : ℕ) → Type 0
  RunAdds i es j = Adds (λ k. item.level (levels.Of rank.Sums) ∷ item.run_more ∷ k) i (deep_list es) (asked_list es) j

  pub last_of_run_step : (i j : ℕ) (e : Expr) → Lacks ts j token.DoubleDot → Climbs (levels.Of rank.Sums) i e j → RunAdds i (e ∷ []) j
  last_of_run_step i j e h first v k fits w =
      whole (levels.Of rank.Sums) i (deep e) (asked e) j first v (item.run_more ∷ k) (omega (arith, fits, deep_of_more_list e []))
      (after C stop (fork C (asked_of_more_list e []) w))
    where
      stop : Way C (asked_list []) (C.Goal j (max v (deep_list (e ∷ []))) k) → C.Goal j (max v (deep e)) (item.run_more ∷ k)
      stop rest =
          C.stay (word_past word.DoubleDot (takes 0 (max v (deep e)) (item.level (levels.Of rank.Sums) ∷ item.run_more ∷ k))
          (stays (max v (deep e)) k) h)
          (at_nest C (omega (arith, deep_of_more_list e [], deep_of_no_list)) (empty C asked_of_no_list rest))

  pub more_of_run_step : (i j m : ℕ) (e : Expr) (es : List Expr) → Has ts j token.DoubleDot → Climbs (levels.Of rank.Sums) i e j
      → RunAdds (j + 1) es m → RunAdds i (e ∷ es) m
  more_of_run_step i j m e es h first more v k fits w =
      whole (levels.Of rank.Sums) i (deep e) (asked e) j first v (item.run_more ∷ k) (omega (arith, fits, deep_of_more_list e es))
      (after C (λ rest. steps_at C token.DoubleDot h refl
      (more (max v (deep e)) k (omega (arith, fits, deep_of_more_list e es))
      (after C (at_nest C (omega (arith, deep_of_more_list e es))) rest)))
      (fork C (asked_of_more_list e es) w))

  pub concat_step : (i j m : ℕ) (e : Expr) (es : List Expr) (k : List Item) → Has ts j token.DoubleDot
      → depth k + deep (expr_at ts i (expr.Concat (e ∷ es))) ≤ b
      → Climbs (levels.Of rank.Sums) i e j → RunAdds (j + 1) es m
      → Way C (asked (expr_at ts i (expr.Concat (e ∷ es)))) (C.Goal m (deep (expr_at ts i (expr.Concat (e ∷ es)))) k)
      → C.Goal i 0 (item.unary ∷ climb levels.Runs k)
  concat_step i j m e es k h fits first more w =
      first (item.run ∷ k) (omega (arith, fits, nests, deep_of_more_list e es))
      (after C (λ rest. takes_at C token.DoubleDot h refl (omega (arith, fits, nests, deep_of_more_list e es))
      (more (deep e) (item.wrap ∷ k) (omega (arith, fits, nests, deep_of_more_list e es))
      (after C (λ g. wrap_goes C (at_nest C (omega (arith, nests, deep_of_more_list e es)) g)) rest)))
      (fork C (asked_of_concat ts i (e ∷ es) ∙ asked_of_more_list e es) w))
    where
      nests : deep (expr_at ts i (expr.Concat (e ∷ es))) ≡ suc (deep_list (e ∷ es))
      nests = deep_of_concat ts i (e ∷ es)

  -- ---- unary operators, powers and casts

  abbrev pub UnaryBegins : (i : ℕ) (e : Expr) (j : ℕ) → Type 0
  UnaryBegins i e j = Begins (λ k. item.unary ∷ k) i (deep e) (asked e) j

  abbrev pub PowBegins : (i : ℕ) (e : Expr) (j : ℕ) → Type 0
  PowBegins i e j = Begins (λ k. item.simple ∷ item.cast ∷ item.power ∷ k) i (deep e) (asked e) j

  abbrev pub CastBegins : (i : ℕ) (e : Expr) (j : ℕ) → Type 0
  CastBegins i e j = Begins (λ k. item.simple ∷ item.cast ∷ k) i (deep e) (asked e) j

  pub unary_step : (i j : ℕ) (op : UnOp) (e : Expr) → unary_operator (kind_at ts i) ≡ Some op
      → Begins (λ k. item.unary ∷ k) (i + 1) (deep e) (asked e) j
      → Begins (λ k. item.unary ∷ k) i (deep (expr_at ts i (expr.Unary op e))) (asked (expr_at ts i (expr.Unary op e))) j
  unary_step i j op e h more k fits w =
      C.take (ap (λ o. unary_turn o 0 k) h) (omega (arith, fits, deep_of_unary ts i op e))
      (more (item.wrap ∷ k) (omega (arith, fits, deep_of_unary ts i op e))
      (after C (λ g. wrap_goes C (at_nest C (deep_of_unary ts i op e) g)) (same C (asked_of_unary ts i op e) w)))

  pub no_unary_step : (i j : ℕ) (e : Expr) → unary_operator (kind_at ts i) ≡ None
      → Begins (λ k. item.simple ∷ item.cast ∷ item.power ∷ k) i (deep e) (asked e) j
      → Begins (λ k. item.unary ∷ k) i (deep e) (asked e) j
  no_unary_step i j e h more k fits w = C.stay (ap (λ o. unary_turn o 0 k) h) (more k fits w)

  pub no_pow_step : (i j : ℕ) (e : Expr) → Lacks ts j token.Caret → Begins (λ k. item.simple ∷ item.cast ∷ k) i (deep e) (asked e) j
      → Begins (λ k. item.simple ∷ item.cast ∷ item.power ∷ k) i (deep e) (asked e) j
  no_pow_step i j e h first k fits w =
      first (item.power ∷ k) fits (after C (λ g. C.stay
      (word_past word.Caret (takes (next_reach (deep e) k) (deep e) (item.level levels.Unaries ∷ item.wrap ∷ k)) (stays (deep e) k)
      h) g) w)

  pub pow_step : (i j m : ℕ) (a c : Expr) → Has ts j token.Caret → Begins (λ k. item.simple ∷ item.cast ∷ k) i (deep a) (asked a) j
      → Begins (λ k. item.unary ∷ k) (j + 1) (deep c) (asked c) m
      → Begins (λ k. item.simple ∷ item.cast ∷ item.power ∷ k) i (deep (expr_at ts i (expr.Binary binary.Pow a c)))
      (asked (expr_at ts i (expr.Binary binary.Pow a c))) m
  pow_step i j m a c h first second k fits w =
      first (item.power ∷ k) (omega (arith, fits, nests))
      (after C (λ rest. takes_at C token.Caret h refl (omega (arith, fits, nests))
      (whole levels.Unaries (j + 1) (deep c) (asked c) m second (deep a) (item.wrap ∷ k) (omega (arith, fits, nests))
      (after C (λ g. wrap_goes C (at_nest C nests g)) rest)))
      (fork C (asked_of_binary ts i binary.Pow a c) w))
    where
      nests : deep (expr_at ts i (expr.Binary binary.Pow a c)) ≡ suc (max (deep a) (deep c))
      nests = deep_of_binary ts i binary.Pow a c

  pub no_cast_step : (i j : ℕ) (e : Expr) → Lacks ts j token.DoubleColon → Begins (λ k. item.simple ∷ k) i (deep e) (asked e) j
      → Begins (λ k. item.simple ∷ item.cast ∷ k) i (deep e) (asked e) j
  no_cast_step i j e h first k fits w =
      first (item.cast ∷ k) fits (after C (λ g. C.stay
      (word_past word.DoubleColon (takes (next_reach (deep e) k) (deep e) (item.a_type ∷ item.wrap ∷ k)) (stays (deep e) k) h) g) w)

  pub cast_step : (i j m : ℕ) (e : Expr) → Has ts j token.DoubleColon → IsType ts n (j + 1) m
      → Begins (λ k. item.simple ∷ k) i (deep e) (asked e) j
      → Begins (λ k. item.simple ∷ item.cast ∷ k) i (deep (expr_at ts i (expr.Paren e))) (asked (expr_at ts i (expr.Paren e))) m
  cast_step i j m e h t first k fits w =
      first (item.cast ∷ k) (omega (arith, fits, nests))
      (after C (λ g. takes_at C token.DoubleColon h refl (omega (arith, fits, nests)) (C.pass t (wrap_goes C (at_nest C nests g))))
      (same C (asked_of_paren ts i e) w))
    where
      nests : deep (expr_at ts i (expr.Paren e)) ≡ suc (deep e)
      nests = deep_of_paren ts i e
