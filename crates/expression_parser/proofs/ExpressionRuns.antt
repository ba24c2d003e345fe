-- Parts of an expression that are read one behind the other.
use Rattle.std.proofs.Common.{◌≡◌, ◌≤◌, ◌+◌, ℕ, List, ◌∷◌, refl, sym, ap, ◌∙◌, subst, arith, None, Result, Ok, Err}
use Rattle.syntax_tree.specs.declared.token.Token.{Token}
use Rattle.syntax_tree.specs.Grammar.{IsUnary, level, no_unary}
use Rattle.syntax_tree.specs.Operators.{unary_operator}
use Rattle.syntax_tree.specs.Places.{kind_at}
use Rattle.parse_steps.specs.declared.levels.Level.{Level}
use Rattle.parse_steps.specs.declared.levels.Level.TheVariants as levels
use Rattle.parse_steps.specs.declared.levels.Rank.{Rank}
use Rattle.parse_steps.specs.declared.levels.Rank.TheVariants as rank
use Rattle.parse_steps.specs.Items as item
use Rattle.parse_steps.specs.Items.{Item, depth, climb}
use Rattle.parse_steps.specs.Levels.{rank_of, next}
use Rattle.parse_steps.specs.Steps.{most, Leads, here}
use Rattle.expression_parser.specs.declared.fault.Fault.{Fault}
use Rattle.expression_parser.specs.declared.parts.Part.{Part}
use Rattle.expression_parser.specs.Reading.{Fails, FindsLevel, FindsUnary}
use Rattle.expression_parser.specs.Inner.{FindsOperations, FindsClimb, FindsRun, FindsSimple, FindsCast, FindsPower}
use Rattle.expression_parser.proofs.Leading.{then_leads, then_fails}
use Rattle.expression_parser.proofs.OperatorRuns.{as_operand}
use Rattle.expression_parser.proofs.ExpressionTurns.{at_level, to_the_greater, climb_depth, no_unary_operator}

-- ---- what follows an operand

-- the operators of a rank come behind those of the next level
pub climb_step : (r : Rank) (k : List Item) → climb (levels.Of r) k ≡ climb (next r) (item.operations r ∷ k)
climb_step rank.Ors k = refl
climb_step rank.Ands k = refl
climb_step rank.Comparisons k = refl
climb_step rank.Sums k = refl
climb_step rank.Products k = refl

pub no_climb : (ts : List Token) (room b : ℕ) (first : Part) → first.nest ≤ room → IsUnary ts most b first.expr first.end → FindsClimb ts room levels.Unaries b first (Ok first)
no_climb ts room b first le operand = ((operand, le, omega arith), λ v k deep. here _ _ _)

pub rank_behind : (ts : List Token) (room b : ℕ) (r : Rank) (first middle : Part) → FindsClimb ts room (next r) b first (Ok middle) → (result : Result Part Fault) → FindsOperations ts room r b middle result
    → FindsClimb ts room (levels.Of r) b first result
rank_behind ts room b r first middle found (Ok p) rest = (
  (level (rank_of r) b middle.end p.end middle.expr p.expr (as_operand ts r b middle.expr middle.end found.0.0) rest.0.0, rest.0.1, omega (arith, found.0.2, rest.0.2)),
  λ v k deep. subst (λ (s : List Item). Leads ts first.end first.nest s p.end p.nest k) (sym (climb_step r k)) (then_leads (found.1 v (item.operations r ∷ k) deep) (rest.1 v k deep)),
)
rank_behind ts room b r first middle found (Err f) rest = λ v k deep.
    subst (λ (s : List Item). Fails ts first.end first.nest s f) (sym (climb_step r k)) (then_fails (found.1 v (item.operations r ∷ k) deep) f (rest v k deep))

pub rank_fails : (ts : List Token) (room b : ℕ) (r : Rank) (first : Part) (f : Fault) → FindsClimb ts room (next r) b first (Err f) → FindsClimb ts room (levels.Of r) b first (Err f)
rank_fails ts room b r first f fails = λ v k deep. subst (λ (s : List Item). Fails ts first.end first.nest s f) (sym (climb_step r k)) (fails v (item.operations r ∷ k) deep)

pub run_behind : (ts : List Token) (room b : ℕ) (first middle : Part) → FindsClimb ts room (levels.Of rank.Sums) b first (Ok middle) → (result : Result Part Fault) → FindsRun ts room b middle result
    → FindsClimb ts room levels.Runs b first result
run_behind ts room b first middle found (Ok p) rest = (
  (rest.0.0, rest.0.1, omega (arith, found.0.2, rest.0.2)),
  λ v k deep. then_leads (found.1 v (item.run ∷ k) deep) (rest.1 v k deep),
)
run_behind ts room b first middle found (Err f) rest = λ v k deep. then_fails (found.1 v (item.run ∷ k) deep) f (rest v k deep)

pub run_fails : (ts : List Token) (room b : ℕ) (first : Part) (f : Fault) → FindsClimb ts room (levels.Of rank.Sums) b first (Err f) → FindsClimb ts room levels.Runs b first (Err f)
run_fails ts room b first f fails = λ v k deep. fails v (item.run ∷ k) deep

-- ---- an expression of a level

climb_deep : (l : Level) (v room : ℕ) (k : List Item) → depth k + room ≡ most → depth (climb l (item.greater v ∷ k)) + room ≡ most
climb_deep l v room k deep = ap (λ (n : ℕ). n + room) (climb_depth l (item.greater v ∷ k)) ∙ deep

pub level_of : (ts : List Token) (room i : ℕ) (l : Level) (first : Part) → FindsUnary ts room i (Ok first) → (result : Result Part Fault) → FindsClimb ts room l i first result → FindsLevel ts room l i result
level_of ts room i l first found (Ok p) rest = (
  (rest.0.0, (rest.0.1, omega (arith, found.0.1.1, rest.0.2))),
  λ v k deep.
      then_leads (at_level ts l i v k) (then_leads (found.1 v (climb l (item.greater v ∷ k)) (climb_deep l v room k deep)) (then_leads (rest.1 v (item.greater v ∷ k) deep) (to_the_greater ts p.end p.nest v k))),
)
level_of ts room i l first found (Err f) rest = λ v k deep.
    then_fails (then_leads (at_level ts l i v k) (found.1 v (climb l (item.greater v ∷ k)) (climb_deep l v room k deep))) f (rest v (item.greater v ∷ k) deep)

pub level_fails : (ts : List Token) (room i : ℕ) (l : Level) (f : Fault) → FindsUnary ts room i (Err f) → FindsLevel ts room l i (Err f)
level_fails ts room i l f fails = λ v k deep. then_fails (at_level ts l i v k) f (fails v (climb l (item.greater v ∷ k)) (climb_deep l v room k deep))

-- ---- an operand without an operator before it

pub plain_operand : (ts : List Token) (room i : ℕ) (simple base : Part) → unary_operator (kind_at ts i) ≡ None → FindsSimple ts room i (Ok simple) → FindsCast ts room i simple (Ok base)
    → (result : Result Part Fault) → FindsPower ts room i base result → FindsUnary ts room i result
plain_operand ts room i simple base absent a b (Ok p) c = (
  (no_unary i p.end p.expr absent c.0.0, (c.0.1, omega (arith, a.0.1.1, b.0.2, c.0.2))),
  λ v k deep. then_leads (no_unary_operator ts i 0 k absent) (then_leads (a.1 v (item.cast ∷ item.power ∷ k) deep) (then_leads (b.1 v (item.power ∷ k) deep) (c.1 v k deep))),
)
plain_operand ts room i simple base absent a b (Err f) c = λ v k deep.
    then_fails (then_leads (no_unary_operator ts i 0 k absent) (then_leads (a.1 v (item.cast ∷ item.power ∷ k) deep) (b.1 v (item.power ∷ k) deep))) f (c v k deep)

pub simple_fails : (ts : List Token) (room i : ℕ) (f : Fault) → unary_operator (kind_at ts i) ≡ None → FindsSimple ts room i (Err f) → FindsUnary ts room i (Err f)
simple_fails ts room i f absent fails = λ v k deep. then_fails (no_unary_operator ts i 0 k absent) f (fails v (item.cast ∷ item.power ∷ k) deep)

pub cast_fails : (ts : List Token) (room i : ℕ) (simple : Part) (f : Fault) → unary_operator (kind_at ts i) ≡ None → FindsSimple ts room i (Ok simple) → FindsCast ts room i simple (Err f) → FindsUnary ts room i (Err f)
cast_fails ts room i simple f absent a fails = λ v k deep. then_fails (then_leads (no_unary_operator ts i 0 k absent) (a.1 v (item.cast ∷ item.power ∷ k) deep)) f (fails v (item.power ∷ k) deep)
