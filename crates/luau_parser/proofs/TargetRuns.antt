-- Targets of an assignment, one after the other.
use Rattle.std.proofs.Common.{◌≡◌, ◌≤◌, ◌<◌, ◌+◌, ℕ, max, Ok, Err, List, [], ◌∷◌, ◌++◌, append_assoc, refl, sym, ap, ◌∙◌, subst, arith, true, None}
use Rattle.syntax_tree.specs.declared.token.Token.{Token}
use Rattle.syntax_tree.specs.declared.token.TokenKind.TheVariants as token
use Rattle.syntax_tree.specs.declared.tree.Expr.{Expr}
use Rattle.syntax_tree.specs.Grammar.{in_target, IsTargets, last_target, more_targets}
use Rattle.syntax_tree.specs.Operators.{compound_operator}
use Rattle.syntax_tree.specs.Places.{kind_at, Has, Lacks}
use Rattle.parse_steps.specs.Items as item
use Rattle.parse_steps.specs.Items.{Item, PrefixUse, first_target, later_target, depth}
use Rattle.parse_steps.specs.Steps.{most, Leads, here}
use Rattle.parse_steps.specs.Turns.{turn, stops}
use Rattle.parse_steps.proofs.ForwardAssignments.{is_target}
use Rattle.expression_parser.specs.declared.fault.Fault.{Fault}
use Rattle.expression_parser.specs.declared.fault.Fault.TheVariants as fault
use Rattle.expression_parser.specs.declared.parts.Part.{Part}
use Rattle.luau_parser.specs.Statements.{IsPrefixRead, FindsTargets, FindsTarget}
use Rattle.expression_parser.proofs.Leading.{then_leads, then_fails, staying, stuck_here, nest_to}
use Rattle.luau_parser.proofs.AssignmentTurns.{to_values, to_target, first_stops, later_stops}

-- behind the target that was read last, which ends at a place: what the targets before it left to do leads behind them all
pub record LeadsToTarget (ts : List Token) (first : Part) (u : PrefixUse) (nest end : ℕ) (k : List Item) : Type 0 where
  pub last : ℕ
  pub todo : List Item
  pub as_deep : depth todo ≡ depth k
  pub runs : Leads ts first.end first.nest (item.suffixes in_target first_target ∷ k) end last (item.suffixes in_target u ∷ todo)
  pub behind : (j w : ℕ) → Leads ts j (max last w) todo j (max nest w) k

-- the targets that were read so far
pub record TargetsSoFar (ts : List Token) (room b : ℕ) (first : Part) (list : List Expr) (nest end : ℕ) : Type 0 where
  pub whole : Lacks ts end token.Comma → IsTargets ts most b list end
  pub more : (es : List Expr) (j : ℕ) → Has ts end token.Comma → IsTargets ts most (end + 1) es j → IsTargets ts most b (list ++ es) j
  pub used : PrefixUse
  pub target : is_target used ≡ true
  pub stop : (v : ℕ) (k : List Item) → Lacks ts end token.Equal → Lacks ts end token.Comma → turn (kind_at ts end) v (item.suffixes in_target used) k ≡ stops
  pub runs : (k : List Item) → depth k + room ≡ most → LeadsToTarget ts first used nest end k
  pub small : nest ≤ room
  pub onward : b < end

pub only_first : (ts : List Token) (room b : ℕ) (first : Part) (before list : List Expr) → IsPrefixRead ts room b first in_target → compound_operator (kind_at ts first.end) ≡ None → before ≡ [] → list ≡ before ++ (first.expr ∷ [])
    → TargetsSoFar ts room b first list first.nest first.end
only_first ts room b first before list read plain empty now =
    let alone : list ≡ first.expr ∷ [] = now ∙ ap (λ (es : List Expr). es ++ (first.expr ∷ [])) empty in record {
      whole = λ absent. subst (λ (es : List Expr). IsTargets ts most b es first.end) (sym alone) (last_target b first.end first.expr read.prefix absent);
      more = λ es j comma d. subst (λ (xs : List Expr). IsTargets ts most b (xs ++ es) j) (sym alone) (more_targets b first.end j first.expr es read.prefix comma d);
      used = first_target;
      target = refl;
      stop = λ v k equal comma. first_stops (kind_at ts first.end) v k read.whole plain equal comma;
      runs = λ k deep. record { last = first.nest; todo = k; as_deep = refl; runs = here _ _ _; behind = λ j w. here _ _ _ };
      small = read.nest;
      onward = read.onward;
    }

-- a comma leads to a further target
pub comma_leads : (ts : List Token) (room b : ℕ) (first : Part) (list : List Expr) (nest end : ℕ) (so_far : TargetsSoFar ts room b first list nest end) → Has ts end token.Comma
    → (k : List Item) (deep : depth k + room ≡ most) → Leads ts first.end first.nest (item.suffixes in_target first_target ∷ k) (end + 1) (so_far.runs k deep).last (item.target ∷ (so_far.runs k deep).todo)
comma_leads ts room b first list nest end so_far comma k deep =
    let run = so_far.runs k deep in
    then_leads run.runs (to_target ts so_far.used end run.last run.todo so_far.target comma)

pub faulty_target : (ts : List Token) (room b : ℕ) (first : Part) (list : List Expr) (nest end : ℕ) (f : Fault) → TargetsSoFar ts room b first list nest end → Has ts end token.Comma → FindsTarget ts room (end + 1) (Err f) → FindsTargets ts room b first (Err f)
faulty_target ts room b first list nest end f so_far comma found = λ k deep.
    let run = so_far.runs k deep in
    then_fails (comma_leads ts room b first list nest end so_far comma k deep) f (found run.last run.todo (omega (arith, run.as_deep, deep)))

-- one target more
pub one_target : (ts : List Token) (room b : ℕ) (first : Part) (list all : List Expr) (nest end : ℕ) (part : Part) → TargetsSoFar ts room b first list nest end → Has ts end token.Comma → FindsTarget ts room (end + 1) (Ok part) → all ≡ list ++ (part.expr ∷ [])
    → TargetsSoFar ts room b first all (max nest part.nest) part.end
one_target ts room b first list all nest end part so_far comma found now = record {
  whole = λ absent. subst (λ (es : List Expr). IsTargets ts most b es part.end) (sym now) (so_far.more (part.expr ∷ []) part.end comma (last_target (end + 1) part.end part.expr found.0.0 absent));
  more = λ es j again d. subst (λ (xs : List Expr). IsTargets ts most b xs j) (sym (ap (λ (xs : List Expr). xs ++ es) now ∙ append_assoc list (part.expr ∷ []) es)) (so_far.more (part.expr ∷ es) j comma (more_targets (end + 1) part.end j part.expr es found.0.0 again d));
  used = later_target;
  target = refl;
  stop = λ v k equal absent. later_stops (kind_at ts part.end) v k found.0.1 equal absent;
  runs = λ k deep.
      let run = so_far.runs k deep in
      let read = found.1 run.last run.todo (omega (arith, run.as_deep, deep)) in
      record {
        last = part.nest;
        todo = item.greater run.last ∷ run.todo;
        as_deep = run.as_deep;
        runs = then_leads (comma_leads ts room b first list nest end so_far comma k deep) read;
        behind = λ j w. nest_to (omega arith) (then_leads (staying refl) (run.behind j (max part.nest w)));
      };
  small = omega (arith, so_far.small, found.0.2.0);
  onward = omega (arith, so_far.onward, found.0.2.1);
}

-- all targets
pub all_targets : (ts : List Token) (room b : ℕ) (first : Part) (list : List Expr) (nest end : ℕ) → TargetsSoFar ts room b first list nest end → Lacks ts end token.Comma → FindsTargets ts room b first (Ok (record { list = list; nest = nest; end = end }))
all_targets ts room b first list nest end so_far absent = (
  (so_far.whole absent, (so_far.small, so_far.onward)),
  λ k deep equal.
      let run = so_far.runs k deep in
      record { nest = run.last; todo = run.todo; as_deep = run.as_deep; runs = then_leads run.runs (to_values ts so_far.used end run.last run.todo so_far.target equal); behind = run.behind },
  λ k deep unequal.
      let run = so_far.runs k deep in
      then_fails run.runs (fault.Unexpected end) (stuck_here (so_far.stop run.last run.todo unequal absent) (λ clash. absurd cc)),
)
