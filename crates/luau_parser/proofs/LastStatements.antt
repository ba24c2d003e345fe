-- The statements that end a block.
use Rattle.std.proofs.Common.{◌≡◌, ◌+◌, ℕ, max, true, false, List, [], ◌∷◌, ap, arith, Option, Ok, Err}
use Rattle.syntax_tree.specs.declared.token.Token.{Token}
use Rattle.syntax_tree.specs.declared.token.TokenKind.{TokenKind}
use Rattle.syntax_tree.specs.declared.token.TokenKind.TheVariants as token
use Rattle.syntax_tree.specs.declared.tree.Stat.{Stat}
use Rattle.syntax_tree.specs.declared.tree.StatKind as stat
use Rattle.syntax_tree.specs.Grammar as grammar
use Rattle.syntax_tree.specs.Nodes.{stat_at}
use Rattle.syntax_tree.specs.Places.{kind_at, Has}
use Rattle.parse_steps.specs.Items as item
use Rattle.parse_steps.specs.Items.{Item, expression}
use Rattle.parse_steps.specs.Steps.{Leads}
use Rattle.parse_steps.specs.Turns.{turn}
use Rattle.expression_parser.specs.declared.fault.Fault.{Fault}
use Rattle.expression_parser.specs.declared.parts.Parts.{Parts}
use Rattle.expression_parser.specs.Reading.{FindsList}
use Rattle.luau_parser.specs.Statements.{may_end, FindsLast, FindsLastEnd}
use Rattle.expression_parser.proofs.Leading.{then_leads, then_fails, taking, nest_to}
use Rattle.luau_parser.proofs.LastTurns.{bare_ends, bare_fails, to_values, over, not_over}

-- ---- `break`

break_taken : (ts : List Token) (i v : ℕ) (k : List Item) → Has ts i token.Break
    → Leads ts i v (item.block ∷ k) (i + 1) v (item.last_end ∷ k)
break_taken ts i v k h = taking (ap (λ (o : Option TokenKind). turn o v item.block k) h) (omega arith) tt

pub break_found : (ts : List Token) (room i end : ℕ) (s : Stat) → Has ts i token.Break → s ≡ stat_at ts i stat.Break
    → FindsLastEnd ts (i + 1) (Ok end) → FindsLast ts room i (Ok (record { stat = s; nest = 0; end = end }))
break_found ts room i end s h made found = rw made (
  ((i + 1, grammar.break i h, found.0.0, found.0.1), (omega arith, omega (arith, found.0.2))),
  λ v k deep. nest_to (omega arith) (then_leads (break_taken ts i v k h) (found.1 v k)),
)

pub break_fails : (ts : List Token) (room i : ℕ) (f : Fault) → Has ts i token.Break → FindsLastEnd ts (i + 1) (Err f)
    → FindsLast ts room i (Err f)
break_fails ts room i f h found = λ v k deep. then_fails (break_taken ts i v k h) f (found v k)

-- ---- `return`

return_taken : (ts : List Token) (i v : ℕ) (k : List Item) → Has ts i token.Return
    → Leads ts i v (item.block ∷ k) (i + 1) v (item.return_list ∷ k)
return_taken ts i v k h = taking (ap (λ (o : Option TokenKind). turn o v item.block k) h) (omega arith) tt

-- without values
pub bare_found : (ts : List Token) (room i end : ℕ) (s : Stat) → Has ts i token.Return → s ≡ stat_at ts i (stat.Return [])
    → FindsLastEnd ts (i + 1) (Ok end) → FindsLast ts room i (Ok (record { stat = s; nest = 0; end = end }))
bare_found ts room i end s h made found = rw made (
  ((i + 1, grammar.bare_return i h (over ts found.0.0 found.0.1), found.0.0, found.0.1), (omega arith, omega (arith, found.0.2))),
  λ v k deep. nest_to (omega arith) (then_leads (return_taken ts i v k h) (bare_ends ts v k found.0.0 found.0.1)),
)

pub bare_return_fails : (ts : List Token) (room i : ℕ) (f : Fault) → Has ts i token.Return → may_end (kind_at ts (i + 1)) ≡ true
    → FindsLastEnd ts (i + 1) (Err f) → FindsLast ts room i (Err f)
bare_return_fails ts room i f h e found = λ v k deep. then_fails (return_taken ts i v k h) f (bare_fails ts (i + 1) v k e f (found v k))

-- with values
values_next : (ts : List Token) (i v : ℕ) (k : List Item) → Has ts i token.Return → may_end (kind_at ts (i + 1)) ≡ false
    → Leads ts i v (item.block ∷ k) (i + 1) v (expression ∷ item.list_more ∷ item.last_end ∷ k)
values_next ts i v k h e = then_leads (return_taken ts i v k h) (to_values ts (i + 1) v k e)

pub values_found : (ts : List Token) (room i end : ℕ) (s : Stat) (values : Parts) → Has ts i token.Return
    → may_end (kind_at ts (i + 1)) ≡ false
    → s ≡ stat_at ts i (stat.Return values.list) → FindsList ts room (i + 1) (Ok values) → FindsLastEnd ts values.end (Ok end)
    → FindsLast ts room i (Ok (record { stat = s; nest = values.nest; end = end }))
values_found ts room i end s values h e made list found = rw made (
  (
    (values.end, grammar.return i values.end values.list h (not_over ts (i + 1) true e) list.0.0, found.0.0, found.0.1),
    (list.0.1.0, omega (arith, list.0.1.1, found.0.2)),
  ),
  λ v k deep. then_leads (values_next ts i v k h e) (then_leads (list.1 v (item.last_end ∷ k) deep) (found.1 (max v values.nest) k)),
)

pub values_fail : (ts : List Token) (room i : ℕ) (f : Fault) → Has ts i token.Return → may_end (kind_at ts (i + 1)) ≡ false
    → FindsList ts room (i + 1) (Err f) → FindsLast ts room i (Err f)
values_fail ts room i f h e found = λ v k deep. then_fails (values_next ts i v k h e) f (found v (item.last_end ∷ k) deep)

pub values_go_on : (ts : List Token) (room i : ℕ) (values : Parts) (f : Fault) → Has ts i token.Return
    → may_end (kind_at ts (i + 1)) ≡ false
    → FindsList ts room (i + 1) (Ok values) → FindsLastEnd ts values.end (Err f) → FindsLast ts room i (Err f)
values_go_on ts room i values f h e list found = λ v k deep.
    then_fails (then_leads (values_next ts i v k h e) (list.1 v (item.last_end ∷ k) deep)) f (found (max v values.nest) k)
