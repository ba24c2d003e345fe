-- The arms of an `if` expression, one after the other.
use Rattle.std.proofs.Common.{◌≡◌, ◌≤◌, ◌+◌, ◌++◌, ℕ, max, List, [], ◌∷◌, ◌∙◌, arith, Result, Ok, Err}
use Rattle.std.proofs.lemmas.List.{append_assoc}
use Rattle.syntax_tree.specs.declared.token.Token.{Token}
use Rattle.syntax_tree.specs.declared.token.TokenKind.TheVariants as token
use Rattle.syntax_tree.specs.declared.tree.Expr.{Expr}
use Rattle.syntax_tree.specs.declared.tree.ExprArm.{ExprArm}
use Rattle.syntax_tree.specs.Grammar.{IsChoices, last_choice, more_choices}
use Rattle.syntax_tree.specs.Grammar as grammar
use Rattle.syntax_tree.specs.Places.{kind_at, Has, Lacks}
use Rattle.type_skip.specs.declared.words.Word.TheVariants as word
use Rattle.parse_steps.specs.declared.levels.Level.TheVariants as levels
use Rattle.parse_steps.specs.declared.levels.Rank.TheVariants as ranks
use Rattle.parse_steps.specs.Items as item
use Rattle.parse_steps.specs.Items.{Item, depth, expression}
use Rattle.parse_steps.specs.Turns.{stops, takes, word_or}
use Rattle.parse_steps.specs.Steps.{most, Leads, here}
use Rattle.expression_parser.specs.declared.fault.Fault.{Fault}
use Rattle.expression_parser.specs.declared.fault.Fault.TheVariants as fault
use Rattle.expression_parser.specs.declared.parts.ArmPart.{ArmPart}
use Rattle.expression_parser.specs.declared.parts.Part.{Part}
use Rattle.expression_parser.specs.Reading.{Fails, FindsLevel, expr_arm}
use Rattle.expression_parser.specs.Inner.{FindsArm, FindsOther, FindsChoices}
use Rattle.expression_parser.proofs.Leading.{then_leads, then_fails, taking, stuck_here, nest_to}
use Rattle.expression_parser.proofs.WordTurns.{at_word, no_word}

abbrev pub arm_items : List Item → List Item
arm_items k = expression ∷ item.expects word.Then ∷ expression ∷ item.choice_more ∷ k

-- the node of an arm
abbrev pub arm_of : ArmPart → ExprArm
arm_of part = expr_arm part.cond part.value

-- what was read behind the word `if`
pub record ChoicesSoFar (ts : List Token) (room at : ℕ) (arms : List ExprArm) (nest end : ℕ) : Type 0 where
  pub whole : (more : List ExprArm) (o : Expr) (j : ℕ) → IsChoices ts most end more o j → IsChoices ts most at (arms ++ more) o j
  pub runs : (v : ℕ) (k : List Item) → depth k + room ≡ most → Leads ts at v (arm_items k) end (max v nest) (arm_items k)
  pub small : nest ≤ room
  pub onward : at ≤ end

pub no_arm_yet : (ts : List Token) (room at : ℕ) (arms : List ExprArm) → arms ≡ [] → ChoicesSoFar ts room at arms 0 at
no_arm_yet ts room at arms e = record { whole = λ more o j d. rw e d; runs = λ v k deep. nest_to (omega arith) (here _ _ _); small = omega arith; onward = omega arith }

-- ---- turns behind a value

pub to_next_arm : (ts : List Token) (i v : ℕ) (k : List Item) → Has ts i token.ElseIf → Leads ts i v (item.choice_more ∷ k)
    (i + 1) v (arm_items k)
to_next_arm ts i v k there =
    taking
    (at_word ts i word.ElseIf (takes 0 v (arm_items k)) (word_or word.Else (kind_at ts i) (takes 0 v (expression ∷ k)) stops) there)
    (omega arith) tt

pub to_other : (ts : List Token) (i v : ℕ) (k : List Item) → Lacks ts i token.ElseIf → Has ts i token.Else
    → Leads ts i v (item.choice_more ∷ k) (i + 1) v (expression ∷ k)
to_other ts i v k absent there =
    taking
    (no_word ts i word.ElseIf (takes 0 v (arm_items k)) (word_or word.Else (kind_at ts i) (takes 0 v (expression ∷ k)) stops) absent ∙ at_word ts i word.Else (takes 0 v (expression ∷ k)) stops there)
    (omega arith) tt

pub no_other : (ts : List Token) (i v : ℕ) (k : List Item) → Lacks ts i token.ElseIf → Lacks ts i token.Else
    → Fails ts i v (item.choice_more ∷ k) (fault.Unexpected i)
no_other ts i v k absent none =
    stuck_here
    (no_word ts i word.ElseIf (takes 0 v (arm_items k)) (word_or word.Else (kind_at ts i) (takes 0 v (expression ∷ k)) stops) absent ∙ no_word ts i word.Else (takes 0 v (expression ∷ k)) stops none)
    (λ clash. absurd cc)

-- what it is otherwise, where its word stands
pub read_other : (ts : List Token) (room at : ℕ) (r : Result Part Fault) → Lacks ts at token.ElseIf → Has ts at token.Else
    → FindsLevel ts room (levels.Of ranks.Ors) (at + 1) r → FindsOther ts room at r
read_other ts room at (Ok p) absent there found =
    (((there, grammar.expression (at + 1) p.end p.expr found.0.0), (found.0.1.0, omega (arith, found.0.1.1))), λ v k deep. then_leads (to_other ts at v k absent there) (found.1 v k deep))
read_other ts room at (Err f) absent there fails = λ v k deep. then_fails (to_other ts at v k absent there) f (fails v k deep)

-- ---- an arm more

-- to what is behind it
pub past_arm : (ts : List Token) (room at : ℕ) (arms : List ExprArm) (nest end : ℕ) (part : ArmPart)
    → ChoicesSoFar ts room at arms nest end → FindsArm ts room end (Ok part) → (v : ℕ) (k : List Item) → depth k + room ≡ most
    → Leads ts at v (arm_items k) part.end (max v (max nest part.nest)) (item.choice_more ∷ k)
past_arm ts room at arms nest end part so_far found v k deep =
    nest_to (omega arith) (then_leads (so_far.runs v k deep) (found.1 (max v nest) (item.choice_more ∷ k) deep))

pub one_arm : (ts : List Token) (room at : ℕ) (arms arms' : List ExprArm) (nest nest' end : ℕ) (part : ArmPart)
    → ChoicesSoFar ts room at arms nest end → FindsArm ts room end (Ok part) → Has ts part.end token.ElseIf
    → arms' ≡ arms ++ arm_of part ∷ [] → nest' ≡ max nest part.nest → ChoicesSoFar ts room at arms' nest' (part.end + 1)
one_arm ts room at arms arms' nest nest' end part so_far found there more_arms deeper =
    let arm = found.0.0 in
    record {
      whole = λ more o j d. rw (more_arms, append_assoc arms (arm_of part ∷ []) more) (so_far.whole (arm_of part ∷ more) o j (more_choices end arm.0 part.end j part.cond part.value o more arm.1 arm.2 arm.3 there d));
      runs = λ v k deep. nest_to (omega (arith, deeper)) (then_leads (past_arm ts room at arms nest end part so_far found v k deep) (to_next_arm ts part.end (max v (max nest part.nest)) k there));
      small = omega (arith, deeper, so_far.small, found.0.1.0);
      onward = omega (arith, found.0.1.1, so_far.onward);
    }

pub all_arms : (ts : List Token) (room at : ℕ) (arms arms' : List ExprArm) (nest nest' last end : ℕ) (part : ArmPart) (other : Part)
    → ChoicesSoFar ts room at arms nest end → FindsArm ts room end (Ok part) → FindsOther ts room part.end (Ok other)
    → arms' ≡ arms ++ arm_of part ∷ [] → nest' ≡ max nest part.nest → last ≡ max nest' other.nest
    → FindsChoices ts room at (Ok (record { arms = arms'; other = other.expr; nest = last; end = other.end }))
all_arms ts room at arms arms' nest nest' last end part other so_far found behind more_arms deeper all =
    let arm = found.0.0 in
    let read = so_far.whole (arm_of part ∷ []) other.expr other.end (last_choice end arm.0 part.end other.end part.cond part.value other.expr arm.1 arm.2 arm.3 behind.0.0.0 behind.0.0.1) in (
      (rw more_arms read, (omega (arith, deeper, all, so_far.small, found.0.1.0, behind.0.1.0), omega (arith, found.0.1.1, behind.0.1.1, so_far.onward))),
      λ v k deep. nest_to (omega (arith, deeper, all)) (then_leads (past_arm ts room at arms nest end part so_far found v k deep) (behind.1 (max v (max nest part.nest)) k deep)),
    )
