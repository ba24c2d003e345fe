-- Parts with separators between, as far as they are read: the parts of a run, and the expressions of a list.
use Rattle.std.proofs.Common.{◌≡◌, ◌≤◌, ◌<◌, ◌+◌, ◌-◌, ℕ, max, List, [], ◌∷◌, ◌++◌, sym, ap, ◌∙◌, subst, arith, Ok, append_assoc, append-nil}
use Rattle.syntax_tree.specs.declared.token.Token.{Token}
use Rattle.syntax_tree.specs.declared.token.TokenKind.{TokenKind}
use Rattle.syntax_tree.specs.declared.token.TokenKind.TheVariants as token
use Rattle.syntax_tree.specs.declared.tree.Expr.{Expr}
use Rattle.syntax_tree.specs.declared.tree.ExprKind as expr
use Rattle.syntax_tree.specs.Grammar.{IsExpr, expression, IsList, last_expr, more_exprs, IsLevel, IsConcat, concat, IsRun, last_of_run, more_of_run}
use Rattle.syntax_tree.specs.Nodes.{expr_at}
use Rattle.syntax_tree.specs.Operators.{sums}
use Rattle.syntax_tree.specs.Places.{Has, Lacks}
use Rattle.parse_steps.specs.declared.levels.Level.TheVariants as levels
use Rattle.parse_steps.specs.declared.levels.Rank.TheVariants as rank
use Rattle.parse_steps.specs.Items as item
use Rattle.parse_steps.specs.Items.{Item, depth}
use Rattle.parse_steps.specs.Steps.{most, Leads}
use Rattle.expression_parser.specs.declared.parts.Part.{Part}
use Rattle.expression_parser.specs.Reading.{Within, FindsLevel}
use Rattle.expression_parser.proofs.Leading.{then_leads, nest_to}
use Rattle.expression_parser.proofs.WordTurns.{one_more, no_more}
use Rattle.expression_parser.proofs.ExpressionTurns.{wrapped, to_second, to_next, run_ends}

-- what is behind a part: no separator, or one with more parts behind it
pub data Behind (ts : List Token) (separator : TokenKind) (More : (i : ℕ) → List Expr → (j : ℕ) → Type 0) : (i : ℕ) → List Expr → (j : ℕ) → Type 0 where
  nothing : (i : ℕ) → Lacks ts i separator → Behind ts separator More i [] i
  further : (i j : ℕ) (es : List Expr) → Has ts i separator → More (i + 1) es j → Behind ts separator More i es j

-- ---- a run

pub part_of_run : {ts : List Token} {a i j : ℕ} {e : Expr} {es : List Expr} → IsLevel ts most sums a e i → Behind ts token.DoubleDot (IsRun ts most) i es j → IsRun ts most a (e ∷ es) j
part_of_run part (nothing i absent) = last_of_run _ i _ part absent
part_of_run part (further i j es there rest) = more_of_run _ i j _ es part there rest

-- the parts of a run that begins at place b with this first part, up to a place
pub record RunSoFar (ts : List Token) (room b : ℕ) (first : Part) (list : List Expr) (nest end : ℕ) : Type 0 where
  pub whole : (es : List Expr) (j : ℕ) → Behind ts token.DoubleDot (IsRun ts most) end es j → IsConcat ts most b (expr_at ts b (expr.Concat (list ++ es))) j
  pub runs : (k : List Item) → depth k + room ≡ most → Leads ts first.end first.nest (item.run ∷ k) end nest (item.run_more ∷ item.wrap ∷ k)
  pub small : nest < room
  pub onward : first.end ≤ end

pub two_of_run : (ts : List Token) (room b : ℕ) (first second : Part) → first.nest < room → IsLevel ts most sums b first.expr first.end → Has ts first.end token.DoubleDot
    → FindsLevel ts (room - 1) (levels.Of rank.Sums) (first.end + 1) (Ok second) → RunSoFar ts room b first (first.expr ∷ second.expr ∷ []) (max first.nest second.nest) second.end
two_of_run ts room b first second less part there found = record {
  whole = λ es j behind. concat b first.end j first.expr (second.expr ∷ es) part there (part_of_run found.0.0 behind);
  runs = λ k deep. then_leads (to_second ts first.end first.nest room k there less deep) (found.1 first.nest (item.run_more ∷ item.wrap ∷ k) (omega (arith, less, deep)));
  small = omega (arith, less, found.0.1.0);
  onward = omega (arith, found.0.1.1);
}

pub one_of_run : (ts : List Token) (room b : ℕ) (first : Part) (list : List Expr) (nest end : ℕ) (part : Part) → RunSoFar ts room b first list nest end → Has ts end token.DoubleDot
    → FindsLevel ts (room - 1) (levels.Of rank.Sums) (end + 1) (Ok part) → RunSoFar ts room b first (list ++ part.expr ∷ []) (max nest part.nest) part.end
one_of_run ts room b first list nest end part so_far there found = record {
  whole = λ es j behind.
      subst (λ (l : List Expr). IsConcat ts most b (expr_at ts b (expr.Concat l)) j) (sym (append_assoc list (part.expr ∷ []) es)) (so_far.whole (part.expr ∷ es) j (further end j (part.expr ∷ es) there (part_of_run found.0.0 behind)));
  runs = λ k deep. then_leads (so_far.runs k deep) (then_leads (to_next ts end nest (item.wrap ∷ k) there) (found.1 nest (item.run_more ∷ item.wrap ∷ k) (omega (arith, so_far.small, deep))));
  small = omega (arith, so_far.small, found.0.1.0);
  onward = omega (arith, so_far.onward, found.0.1.1);
}

pub run_read : (ts : List Token) (room b : ℕ) (first : Part) (list : List Expr) (nest end : ℕ) (e : Expr) → RunSoFar ts room b first list nest end → Lacks ts end token.DoubleDot → e ≡ expr_at ts b (expr.Concat list)
    → (IsConcat ts most b e end × (nest + 1 ≤ room) × (first.end ≤ end)) × ((v : ℕ) (k : List Item) → depth k + room ≡ most → Leads ts first.end first.nest (item.run ∷ k) end (nest + 1) k)
run_read ts room b first list nest end e so_far absent node = (
  (
    subst (λ (x : Expr). IsConcat ts most b x end) (ap (λ (l : List Expr). expr_at ts b (expr.Concat l)) (append-nil list) ∙ sym node) (so_far.whole [] end (nothing end absent)),
    omega (arith, so_far.small),
    so_far.onward,
  ),
  λ v k deep. nest_to (omega arith) (then_leads (so_far.runs k deep) (then_leads (run_ends ts end nest (item.wrap ∷ k) absent) (wrapped ts end nest k))),
)

-- ---- a list

pub part_of_list : {ts : List Token} {a i j : ℕ} {e : Expr} {es : List Expr} → IsExpr ts most a e i → Behind ts token.Comma (IsList ts most) i es j → IsList ts most a (e ∷ es) j
part_of_list part (nothing i absent) = last_expr _ i _ part absent
part_of_list part (further i j es there rest) = more_exprs _ i j _ es part there rest

-- the expressions of a list that begins at place i, up to a place
pub record ListSoFar (ts : List Token) (room i : ℕ) (list : List Expr) (nest end : ℕ) : Type 0 where
  pub whole : (es : List Expr) (j : ℕ) → Behind ts token.Comma (IsList ts most) end es j → IsList ts most i (list ++ es) j
  pub runs : (v : ℕ) (k : List Item) → depth k + room ≡ most → Leads ts i v (item.expression ∷ item.list_more ∷ k) end (max v nest) (item.list_more ∷ k)
  pub small : nest ≤ room
  pub onward : i < end

pub one_of_list : (ts : List Token) (room i : ℕ) (first : Part) → FindsLevel ts room (levels.Of rank.Ors) i (Ok first) → ListSoFar ts room i (first.expr ∷ []) first.nest first.end
one_of_list ts room i first found = record {
  whole = λ es j behind. part_of_list (expression i first.end first.expr found.0.0) behind;
  runs = λ v k deep. found.1 v (item.list_more ∷ k) deep;
  small = found.0.1.0;
  onward = found.0.1.1;
}

pub next_of_list : (ts : List Token) (room i : ℕ) (list : List Expr) (nest end : ℕ) (part : Part) → ListSoFar ts room i list nest end → Has ts end token.Comma
    → FindsLevel ts room (levels.Of rank.Ors) (end + 1) (Ok part) → ListSoFar ts room i (list ++ part.expr ∷ []) (max nest part.nest) part.end
next_of_list ts room i list nest end part so_far there found = record {
  whole = λ es j behind.
      subst (λ (l : List Expr). IsList ts most i l j) (sym (append_assoc list (part.expr ∷ []) es)) (so_far.whole (part.expr ∷ es) j (further end j (part.expr ∷ es) there (part_of_list (expression (end + 1) part.end part.expr found.0.0) behind)));
  runs = λ v k deep. nest_to (omega arith) (then_leads (so_far.runs v k deep) (then_leads (one_more ts end (max v nest) k there) (found.1 (max v nest) (item.list_more ∷ k) deep)));
  small = omega (arith, so_far.small, found.0.1.0);
  onward = omega (arith, so_far.onward, found.0.1.1);
}

pub list_read : (ts : List Token) (room i : ℕ) (list : List Expr) (nest end : ℕ) → ListSoFar ts room i list nest end → Lacks ts end token.Comma
    → (IsList ts most i list end × Within room i nest end) × ((v : ℕ) (k : List Item) → depth k + room ≡ most → Leads ts i v (item.expression ∷ item.list_more ∷ k) end (max v nest) k)
list_read ts room i list nest end so_far absent = (
  (subst (λ (l : List Expr). IsList ts most i l end) (append-nil list) (so_far.whole [] end (nothing end absent)), (so_far.small, so_far.onward)),
  λ v k deep. then_leads (so_far.runs v k deep) (no_more ts end (max v nest) k absent),
)
