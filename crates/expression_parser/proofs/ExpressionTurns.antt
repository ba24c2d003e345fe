-- The turns of expressions but for those of operators between two parts.
use Rattle.std.proofs.Common.{◌≡◌, ◌≤◌, ◌<◌, ◌+◌, ℕ, suc, max, List, ◌∷◌, refl, ap, arith, Option, Some, None}
use Rattle.syntax_tree.specs.declared.token.Token.{Token}
use Rattle.syntax_tree.specs.declared.token.TokenKind.TheVariants as token
use Rattle.syntax_tree.specs.declared.tree.UnOp.{UnOp}
use Rattle.syntax_tree.specs.Operators.{unary_operator}
use Rattle.syntax_tree.specs.Places.{kind_at, Has, Lacks}
use Rattle.parse_steps.specs.declared.levels.Level.{Level}
use Rattle.parse_steps.specs.declared.levels.Level.TheVariants as levels
use Rattle.parse_steps.specs.declared.levels.Rank.TheVariants as rank
use Rattle.type_skip.specs.declared.words.Word.TheVariants as word
use Rattle.parse_steps.specs.Items as item
use Rattle.parse_steps.specs.Items.{Item, depth, climb}
use Rattle.parse_steps.specs.Turns.{turn, stays, takes, next_reach, unary_turn}
use Rattle.parse_steps.specs.Steps.{most, Leads}
use Rattle.expression_parser.specs.declared.fault.Fault.TheVariants as fault
use Rattle.expression_parser.specs.Reading.{Fails}
use Rattle.expression_parser.proofs.Leading.{staying, taking, deep_here}
use Rattle.expression_parser.proofs.WordTurns.{at_word, no_word}

-- an expression of a level begins
pub at_level : (ts : List Token) (l : Level) (i v : ℕ) (k : List Item) → Leads ts i v (item.level l ∷ k) i 0 (item.unary ∷ climb l (item.greater v ∷ k))
at_level ts l i v k = staying refl

-- a node is around what was read
pub wrapped : (ts : List Token) (i v : ℕ) (k : List Item) → Leads ts i v (item.wrap ∷ k) i (suc v) k
wrapped ts i v k = staying refl

-- something was read before
pub to_the_greater : (ts : List Token) (i v w : ℕ) (k : List Item) → Leads ts i v (item.greater w ∷ k) i (max w v) k
to_the_greater ts i v w k = staying refl

-- what follows an operand changes no depth
pub climb_depth : (l : Level) (k : List Item) → depth (climb l k) ≡ depth k
climb_depth levels.Unaries k = refl
climb_depth (levels.Of rank.Products) k = refl
climb_depth (levels.Of rank.Sums) k = refl
climb_depth levels.Runs k = refl
climb_depth (levels.Of rank.Comparisons) k = refl
climb_depth (levels.Of rank.Ands) k = refl
climb_depth (levels.Of rank.Ors) k = refl

-- ---- an operator before one operand

pub unary_takes : (ts : List Token) (op : UnOp) (i v : ℕ) (k : List Item) → unary_operator (kind_at ts i) ≡ Some op → turn (kind_at ts i) v item.unary k ≡ takes (next_reach v k) v (item.unary ∷ item.wrap ∷ k)
unary_takes ts op i v k stands = ap (λ (o : Option UnOp). unary_turn o v k) stands

pub to_unary_operand : (ts : List Token) (op : UnOp) (i v room : ℕ) (k : List Item) → unary_operator (kind_at ts i) ≡ Some op → v < room → depth k + room ≡ most → Leads ts i v (item.unary ∷ k) (i + 1) v (item.unary ∷ item.wrap ∷ k)
to_unary_operand ts op i v room k stands less deep = taking (unary_takes ts op i v k stands) (omega (arith, less, deep)) tt

pub deep_unary : (ts : List Token) (op : UnOp) (i v room : ℕ) (k : List Item) → unary_operator (kind_at ts i) ≡ Some op → room ≤ v → depth k + room ≡ most → Fails ts i v (item.unary ∷ k) (fault.TooDeep i)
deep_unary ts op i v room k stands le deep = deep_here (unary_takes ts op i v k stands) (omega (arith, le, deep))

pub no_unary_operator : (ts : List Token) (i v : ℕ) (k : List Item) → unary_operator (kind_at ts i) ≡ None → Leads ts i v (item.unary ∷ k) i v (item.simple ∷ item.cast ∷ item.power ∷ k)
no_unary_operator ts i v k stands = staying (ap (λ (o : Option UnOp). unary_turn o v k) stands)

-- ---- a cast

pub cast_takes : (ts : List Token) (i v : ℕ) (k : List Item) → Has ts i token.DoubleColon → turn (kind_at ts i) v item.cast k ≡ takes (next_reach v k) v (item.a_type ∷ item.wrap ∷ k)
cast_takes ts i v k there = at_word ts i word.DoubleColon (takes (next_reach v k) v (item.a_type ∷ item.wrap ∷ k)) (stays v k) there

pub to_cast_type : (ts : List Token) (i v room : ℕ) (k : List Item) → Has ts i token.DoubleColon → v < room → depth k + room ≡ most → Leads ts i v (item.cast ∷ k) (i + 1) v (item.a_type ∷ item.wrap ∷ k)
to_cast_type ts i v room k there less deep = taking (cast_takes ts i v k there) (omega (arith, less, deep)) tt

pub deep_cast : (ts : List Token) (i v room : ℕ) (k : List Item) → Has ts i token.DoubleColon → room ≤ v → depth k + room ≡ most → Fails ts i v (item.cast ∷ k) (fault.TooDeep i)
deep_cast ts i v room k there le deep = deep_here (cast_takes ts i v k there) (omega (arith, le, deep))

pub no_cast_there : (ts : List Token) (i v : ℕ) (k : List Item) → Lacks ts i token.DoubleColon → Leads ts i v (item.cast ∷ k) i v k
no_cast_there ts i v k absent = staying (no_word ts i word.DoubleColon (takes (next_reach v k) v (item.a_type ∷ item.wrap ∷ k)) (stays v k) absent)

-- ---- a power

pub power_takes : (ts : List Token) (i v : ℕ) (k : List Item) → Has ts i token.Caret → turn (kind_at ts i) v item.power k ≡ takes (next_reach v k) v (item.level levels.Unaries ∷ item.wrap ∷ k)
power_takes ts i v k there = at_word ts i word.Caret (takes (next_reach v k) v (item.level levels.Unaries ∷ item.wrap ∷ k)) (stays v k) there

pub to_exponent : (ts : List Token) (i v room : ℕ) (k : List Item) → Has ts i token.Caret → v < room → depth k + room ≡ most → Leads ts i v (item.power ∷ k) (i + 1) v (item.level levels.Unaries ∷ item.wrap ∷ k)
to_exponent ts i v room k there less deep = taking (power_takes ts i v k there) (omega (arith, less, deep)) tt

pub deep_power : (ts : List Token) (i v room : ℕ) (k : List Item) → Has ts i token.Caret → room ≤ v → depth k + room ≡ most → Fails ts i v (item.power ∷ k) (fault.TooDeep i)
deep_power ts i v room k there le deep = deep_here (power_takes ts i v k there) (omega (arith, le, deep))

pub no_power_there : (ts : List Token) (i v : ℕ) (k : List Item) → Lacks ts i token.Caret → Leads ts i v (item.power ∷ k) i v k
no_power_there ts i v k absent = staying (no_word ts i word.Caret (takes (next_reach v k) v (item.level levels.Unaries ∷ item.wrap ∷ k)) (stays v k) absent)

-- ---- a run

pub run_takes : (ts : List Token) (i v : ℕ) (k : List Item) → Has ts i token.DoubleDot → turn (kind_at ts i) v item.run k ≡ takes (next_reach v k) v (item.level (levels.Of rank.Sums) ∷ item.run_more ∷ item.wrap ∷ k)
run_takes ts i v k there = at_word ts i word.DoubleDot (takes (next_reach v k) v (item.level (levels.Of rank.Sums) ∷ item.run_more ∷ item.wrap ∷ k)) (stays v k) there

pub to_second : (ts : List Token) (i v room : ℕ) (k : List Item) → Has ts i token.DoubleDot → v < room → depth k + room ≡ most → Leads ts i v (item.run ∷ k) (i + 1) v (item.level (levels.Of rank.Sums) ∷ item.run_more ∷ item.wrap ∷ k)
to_second ts i v room k there less deep = taking (run_takes ts i v k there) (omega (arith, less, deep)) tt

pub deep_run : (ts : List Token) (i v room : ℕ) (k : List Item) → Has ts i token.DoubleDot → room ≤ v → depth k + room ≡ most → Fails ts i v (item.run ∷ k) (fault.TooDeep i)
deep_run ts i v room k there le deep = deep_here (run_takes ts i v k there) (omega (arith, le, deep))

pub no_run_there : (ts : List Token) (i v : ℕ) (k : List Item) → Lacks ts i token.DoubleDot → Leads ts i v (item.run ∷ k) i v k
no_run_there ts i v k absent = staying (no_word ts i word.DoubleDot (takes (next_reach v k) v (item.level (levels.Of rank.Sums) ∷ item.run_more ∷ item.wrap ∷ k)) (stays v k) absent)

pub to_next : (ts : List Token) (i v : ℕ) (k : List Item) → Has ts i token.DoubleDot → Leads ts i v (item.run_more ∷ k) (i + 1) v (item.level (levels.Of rank.Sums) ∷ item.run_more ∷ k)
to_next ts i v k there = taking (at_word ts i word.DoubleDot (takes 0 v (item.level (levels.Of rank.Sums) ∷ item.run_more ∷ k)) (stays v k) there) (omega arith) tt

pub run_ends : (ts : List Token) (i v : ℕ) (k : List Item) → Lacks ts i token.DoubleDot → Leads ts i v (item.run_more ∷ k) i v k
run_ends ts i v k absent = staying (no_word ts i word.DoubleDot (takes 0 v (item.level (levels.Of rank.Sums) ∷ item.run_more ∷ k)) (stays v k) absent)
