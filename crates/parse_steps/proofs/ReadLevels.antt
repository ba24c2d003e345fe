-- What a run reads for an expression of each level.
use Rattle.std.proofs.Common.{◌≡◌, ℕ, suc, ◌+◌, Bool, false, List, [], ◌∷◌, Option, Some, None, refl}
use Rattle.syntax_tree.specs.declared.tree.BinOp.{BinOp}
use Rattle.syntax_tree.specs.declared.tree.BinOp.TheVariants as binary
use Rattle.syntax_tree.specs.declared.tree.Expr.{Expr}
use Rattle.syntax_tree.specs.declared.tree.ExprKind as expr
use Rattle.syntax_tree.specs.Calls.{Places}
use Rattle.syntax_tree.specs.Grammar as grammar
use Rattle.syntax_tree.specs.Grammar.{IsExpr, IsList, IsLevel, IsOperations, IsOperand, IsConcat, IsRun, IsUnary, IsPow, IsCast, IsSimple}
use Rattle.syntax_tree.specs.Nodes.{expr_at}
use Rattle.syntax_tree.specs.Operators as op
use Rattle.syntax_tree.specs.Operators.{operator, unary_operator}
use Rattle.syntax_tree.specs.Places.{kind_at}
use Rattle.parse_steps.specs.declared.levels.Rank.{Rank}
use Rattle.parse_steps.specs.declared.levels.Rank.TheVariants as rank
use Rattle.parse_steps.specs.declared.levels.Level.{Level}
use Rattle.parse_steps.specs.declared.levels.Level.TheVariants as levels
use Rattle.type_skip.specs.declared.words.Word.TheVariants as word
use Rattle.parse_steps.proofs.CallPlaces.{calls_expr, calls_exprs}
use Rattle.parse_steps.specs.Items.{Item, climb}
use Rattle.parse_steps.specs.Items as item
use Rattle.parse_steps.specs.Levels.{rank_of, next}
use Rattle.parse_steps.specs.Turns.{operations_turn}
use Rattle.parse_steps.proofs.Accepting.{Text, Rest, After, Owes, Reads, turned, turned_once, by_word, sooner, raised, wrapped, greater, behind, in_order, same}
use Rattle.parse_steps.proofs.NodeCalls.{calls_paren, calls_binary, calls_concat}
use Rattle.parse_steps.proofs.Readings.{All, IsAt}

-- what is owed before comes from further before
pub from : {s : Text} {A : Type 0} {Is : A → ℕ → Type 0} {calls : A → Places} {before middle : Places} {g : ℕ} {k : List Item} {f q : Bool} → (Owes s before f → Owes s middle q) → Reads s A Is calls middle g k q → Reads s A Is calls before g k f
from o r = record { tree = r.tree; stop = r.stop; is = r.is; owed = r.owed; owes = λ x. r.owes (o x); rest = r.rest }

pub below_greater : {s : Text} {A : Type 0} {Is : A → ℕ → Type 0} {calls : A → Places} {before : Places} {g v : ℕ} {k : List Item} {f : Bool} → Reads s A Is calls before g (item.greater v ∷ k) f → Reads s A Is calls before g k f
below_greater r = record { tree = r.tree; stop = r.stop; is = r.is; owed = r.owed; owes = r.owes; rest = greater r.rest }

pub below_wrap : {s : Text} {A : Type 0} {Is : A → ℕ → Type 0} {calls : A → Places} {before : Places} {g : ℕ} {k : List Item} {f : Bool} → Reads s A Is calls before g (item.wrap ∷ k) f → Reads s A Is calls before g k f
below_wrap r = record { tree = r.tree; stop = r.stop; is = r.is; owed = r.owed; owes = r.owes; rest = wrapped r.rest }

pub read_expr : {s : Text} {g i : ℕ} {k : List Item} {f : Bool} → All s g → Rest s g i (item.expression ∷ k) f → Reads s Expr (λ e j. IsExpr s.tokens s.brackets i e j) calls_expr [] g k f
read_expr {i = i} h r =
    let e = h.level (levels.Of rank.Ors) r in
    record { tree = e.tree; stop = e.stop; is = grammar.expression i e.stop e.tree e.is; owed = e.owed; owes = e.owes; rest = e.rest }

-- ---- casts and powers

pub read_cast : {s : Text} {g i : ℕ} {k : List Item} {f : Bool} (b : ℕ) (a : Expr) → IsSimple s.tokens s.brackets b a i → Rest s g i (item.cast ∷ k) f → Reads s Expr (λ e j. IsCast s.tokens s.brackets b e j) calls_expr (calls_expr a) g k f
read_cast {s = s} {i = i} {f = f} b a d r =
    by_word word.DoubleColon _ _ (turned_once r)
    (λ stands rest.
    let t = (turned_once rest).rest in
    record { tree = expr_at s.tokens b (expr.Paren a); stop = t.stop; is = grammar.cast b i t.stop a d stands t.is; owed = f; owes = λ o. same (calls_paren s.tokens b a) o; rest = wrapped t.rest })
    (λ lacks rest. record { tree = a; stop = i; is = grammar.no_cast b i a d lacks; owed = f; owes = λ o. o; rest = rest.rest })

pub read_power : {s : Text} {g i : ℕ} {k : List Item} {f : Bool} → All s g → (b : ℕ) (a : Expr) → IsCast s.tokens s.brackets b a i → Rest s g i (item.power ∷ k) f → Reads s Expr (λ e j. IsPow s.tokens s.brackets b e j) calls_expr (calls_expr a) g k f
read_power {s = s} {i = i} {f = f} h b a d r =
    by_word word.Caret _ _ (turned_once r)
    (λ stands rest.
    let c = h.level levels.Unaries rest in
    record { tree = expr_at s.tokens b (expr.Binary binary.Pow a c.tree); stop = c.stop; is = grammar.pow b i c.stop a c.tree d stands c.is; owed = c.owed; owes = λ o. same (calls_binary s.tokens b binary.Pow a c.tree) (behind (calls_expr a) (calls_expr c.tree) c.owes o); rest = wrapped c.rest })
    (λ lacks rest. record { tree = a; stop = i; is = grammar.no_pow b i a d lacks; owed = f; owes = λ o. o; rest = rest.rest })

-- behind the beginning of an expression that no unary operator begins
pub read_unary : {s : Text} {g i : ℕ} {k : List Item} {f : Bool} → All s g → (b : ℕ) (a : Expr) → unary_operator (kind_at s.tokens b) ≡ None → IsSimple s.tokens s.brackets b a i → Rest s g i (item.cast ∷ item.power ∷ k) f → Reads s Expr (λ e j. IsUnary s.tokens s.brackets b e j) calls_expr (calls_expr a) g k f
read_unary h b a none d r =
    let c = read_cast b a d r in
    let p = read_power h b c.tree c.is c.rest in
    record { tree = p.tree; stop = p.stop; is = grammar.no_unary b p.stop p.tree none p.is; owed = p.owed; owes = λ o. p.owes (c.owes o); rest = p.rest }

-- ---- levels

read_level : {s : Text} {g i : ℕ} {k : List Item} {f : Bool} → All s g → (r : Rank) (b : ℕ) (a : Expr) → IsOperand s.tokens s.brackets (rank_of r) b a i → Rest s g i (item.operations r ∷ k) f → Reads s Expr (λ e j. IsLevel s.tokens s.brackets (rank_of r) b e j) calls_expr (calls_expr a) g k f
read_level {i = i} h r b a d rest =
    let o = h.operations r b a rest in
    record { tree = o.tree; stop = o.stop; is = grammar.level (rank_of r) b i o.stop a o.tree d o.is; owed = o.owed; owes = o.owes; rest = o.rest }

read_run : {s : Text} {g i : ℕ} {k : List Item} {f : Bool} → All s g → (b : ℕ) (a : Expr) → IsLevel s.tokens s.brackets op.sums b a i → Rest s g i (item.run ∷ k) f → Reads s Expr (λ e j. IsConcat s.tokens s.brackets b e j) calls_expr (calls_expr a) g k f
read_run {s = s} {i = i} {f = f} h b a d r =
    by_word word.DoubleDot _ _ (turned_once r)
    (λ stands rest.
    let c = h.level (levels.Of rank.Sums) rest in
    let m = h.run_more (i + 1) c.tree c.is c.rest in
    record {
      tree = expr_at s.tokens b (expr.Concat (a ∷ c.tree ∷ m.tree));
      stop = m.stop;
      is = grammar.concat b i m.stop a (c.tree ∷ m.tree) d stands m.is;
      owed = m.owed;
      owes = λ o. same (calls_concat s.tokens b (a ∷ c.tree ∷ m.tree)) (behind (calls_expr a) (calls_exprs (c.tree ∷ m.tree)) (in_order (calls_expr c.tree) (calls_exprs m.tree) c.owes m.owes) o);
      rest = wrapped m.rest;
    })
    (λ lacks rest. record { tree = a; stop = i; is = grammar.no_concat b i a d lacks; owed = f; owes = λ o. o; rest = rest.rest })

pub run_more_step : {s : Text} {g i : ℕ} {k : List Item} {f : Bool} → All s g → (b : ℕ) (e : Expr) → IsLevel s.tokens s.brackets op.sums b e i → Rest s (suc g) i (item.run_more ∷ k) f → Reads s (List Expr) (λ es j. IsRun s.tokens s.brackets b (e ∷ es) j) calls_exprs [] (suc g) k f
run_more_step {s = s} {i = i} {f = f} h b e d r =
    by_word word.DoubleDot _ _ (turned r)
    (λ stands rest.
    let c = h.level (levels.Of rank.Sums) rest in
    let m = h.run_more (i + 1) c.tree c.is c.rest in
    record {
      tree = c.tree ∷ m.tree;
      stop = m.stop;
      is = grammar.more_of_run b i m.stop e (c.tree ∷ m.tree) d stands m.is;
      owed = m.owed;
      owes = in_order (calls_expr c.tree) (calls_exprs m.tree) c.owes m.owes;
      rest = sooner m.rest;
    })
    (λ lacks rest. record { tree = []; stop = i; is = grammar.last_of_run b i e d lacks; owed = f; owes = λ o. o; rest = sooner rest.rest })

climb_products : {s : Text} {g i : ℕ} {k : List Item} {f : Bool} → All s g → (b : ℕ) (a : Expr) → IsUnary s.tokens s.brackets b a i → Rest s g i (climb (levels.Of rank.Products) k) f → Reads s Expr (λ e j. IsLevel s.tokens s.brackets op.products b e j) calls_expr (calls_expr a) g k f
climb_products {i = i} h b a d r = read_level h rank.Products b a (grammar.product_operand b i a d) r

climb_sums : {s : Text} {g i : ℕ} {k : List Item} {f : Bool} → All s g → (b : ℕ) (a : Expr) → IsUnary s.tokens s.brackets b a i → Rest s g i (climb (levels.Of rank.Sums) k) f → Reads s Expr (λ e j. IsLevel s.tokens s.brackets op.sums b e j) calls_expr (calls_expr a) g k f
climb_sums h b a d r =
    let x = climb_products h b a d r in
    from x.owes (read_level h rank.Sums b x.tree (grammar.sum_operand b x.stop x.tree x.is) x.rest)

climb_runs : {s : Text} {g i : ℕ} {k : List Item} {f : Bool} → All s g → (b : ℕ) (a : Expr) → IsUnary s.tokens s.brackets b a i → Rest s g i (climb levels.Runs k) f → Reads s Expr (λ e j. IsConcat s.tokens s.brackets b e j) calls_expr (calls_expr a) g k f
climb_runs h b a d r =
    let x = climb_sums h b a d r in
    from x.owes (read_run h b x.tree x.is x.rest)

climb_comparisons : {s : Text} {g i : ℕ} {k : List Item} {f : Bool} → All s g → (b : ℕ) (a : Expr) → IsUnary s.tokens s.brackets b a i → Rest s g i (climb (levels.Of rank.Comparisons) k) f → Reads s Expr (λ e j. IsLevel s.tokens s.brackets op.comparisons b e j) calls_expr (calls_expr a) g k f
climb_comparisons h b a d r =
    let x = climb_runs h b a d r in
    from x.owes (read_level h rank.Comparisons b x.tree (grammar.comparison_operand b x.stop x.tree x.is) x.rest)

climb_ands : {s : Text} {g i : ℕ} {k : List Item} {f : Bool} → All s g → (b : ℕ) (a : Expr) → IsUnary s.tokens s.brackets b a i → Rest s g i (climb (levels.Of rank.Ands) k) f → Reads s Expr (λ e j. IsLevel s.tokens s.brackets op.ands b e j) calls_expr (calls_expr a) g k f
climb_ands h b a d r =
    let x = climb_comparisons h b a d r in
    from x.owes (read_level h rank.Ands b x.tree (grammar.and_operand b x.stop x.tree x.is) x.rest)

pub climb_ors : {s : Text} {g i : ℕ} {k : List Item} {f : Bool} → All s g → (b : ℕ) (a : Expr) → IsUnary s.tokens s.brackets b a i → Rest s g i (climb (levels.Of rank.Ors) k) f → Reads s Expr (λ e j. IsLevel s.tokens s.brackets op.ors b e j) calls_expr (calls_expr a) g k f
climb_ors h b a d r =
    let x = climb_ands h b a d r in
    from x.owes (read_level h rank.Ors b x.tree (grammar.or_operand b x.stop x.tree x.is) x.rest)

climb_all : {s : Text} {g i : ℕ} {k : List Item} {f : Bool} → All s g → (l : Level) (b : ℕ) (a : Expr) → IsUnary s.tokens s.brackets b a i → Rest s g i (climb l k) f → Reads s Expr (λ e j. IsAt s l b e j) calls_expr (calls_expr a) g k f
climb_all {i = i} {f = f} h levels.Unaries b a d r = record { tree = a; stop = i; is = d; owed = f; owes = λ o. o; rest = r }
climb_all h levels.Runs b a d r = climb_runs h b a d r
climb_all h (levels.Of rank.Products) b a d r = climb_products h b a d r
climb_all h (levels.Of rank.Sums) b a d r = climb_sums h b a d r
climb_all h (levels.Of rank.Comparisons) b a d r = climb_comparisons h b a d r
climb_all h (levels.Of rank.Ands) b a d r = climb_ands h b a d r
climb_all h (levels.Of rank.Ors) b a d r = climb_ors h b a d r

pub level_step : {s : Text} {g i : ℕ} {k : List Item} {f : Bool} → All s g → (l : Level) → Rest s (suc g) i (item.level l ∷ k) f → Reads s Expr (λ e j. IsAt s l i e j) calls_expr [] (suc g) k f
level_step {i = i} {k = k} h l r =
    let u = h.unary {i = i} {k = climb l (item.greater r.nest ∷ k)} (turned r).rest in
    raised (below_greater (from u.owes (climb_all h l i u.tree u.is u.rest)))

-- ---- operations

operand : (s : Text) (r : Rank) (i j : ℕ) (e : Expr) → IsAt s (next r) i e j → IsOperand s.tokens s.brackets (rank_of r) i e j
operand s rank.Ors i j e d = grammar.or_operand i j e d
operand s rank.Ands i j e d = grammar.and_operand i j e d
operand s rank.Comparisons i j e d = grammar.comparison_operand i j e d
operand s rank.Sums i j e d = grammar.sum_operand i j e d
operand s rank.Products i j e d = grammar.product_operand i j e d

operations_by : {s : Text} {g i : ℕ} {k : List Item} {f : Bool} (v : ℕ) → All s g → (r : Rank) (b : ℕ) (a : Expr) (o : Option BinOp) → operator (rank_of r) (kind_at s.tokens i) ≡ o → After s g i ⊥ false f (operations_turn o r v k) → Reads s Expr (λ e j. IsOperations s.tokens s.brackets (rank_of r) b i a e j) calls_expr (calls_expr a) g k f
operations_by {i = i} {f = f} v h r b a None e t = record { tree = a; stop = i; is = grammar.no_operation (rank_of r) b i a e; owed = f; owes = λ o. o; rest = t.rest }
operations_by {s = s} {i = i} v h r b a (Some op) e t =
    let c = below_wrap (h.level (next r) t.rest) in
    let m = h.operations r b (expr_at s.tokens b (expr.Binary op a c.tree)) c.rest in
    record {
      tree = m.tree;
      stop = m.stop;
      is = grammar.operation (rank_of r) b i c.stop m.stop op a c.tree m.tree e (operand s r (i + 1) c.stop c.tree c.is) m.is;
      owed = m.owed;
      owes = λ o. m.owes (same (calls_binary s.tokens b op a c.tree) (behind (calls_expr a) (calls_expr c.tree) c.owes o));
      rest = m.rest;
    }

pub operations_step : {s : Text} {g i : ℕ} {k : List Item} {f : Bool} → All s g → (r : Rank) (b : ℕ) (a : Expr) → Rest s (suc g) i (item.operations r ∷ k) f → Reads s Expr (λ e j. IsOperations s.tokens s.brackets (rank_of r) b i a e j) calls_expr (calls_expr a) (suc g) k f
operations_step {s = s} {i = i} h r b a rest = raised (operations_by rest.nest h r b a (operator (rank_of r) (kind_at s.tokens i)) refl (turned rest))
