-- Statements whose node is around all their parts.
use Rattle.std.proofs.Common.{◌≡◌, ◌≤◌, ◌<◌, ◌+◌, ◌-◌, ℕ, max, List, ◌∷◌, refl, ap, ◌∙◌, arith}
use Rattle.syntax_tree.specs.declared.token.Token.{Token}
use Rattle.syntax_tree.specs.Places.{kind_at}
use Rattle.parse_steps.specs.declared.classes.Opening.{Opening}
use Rattle.parse_steps.specs.Classes.{opening}
use Rattle.parse_steps.specs.Items as item
use Rattle.parse_steps.specs.Items.{Item, depth}
use Rattle.parse_steps.specs.Steps.{most, Leads}
use Rattle.parse_steps.specs.Turns.{turn, block_turn, node_turn}
use Rattle.expression_parser.specs.declared.fault.Fault.{Fault}
use Rattle.expression_parser.specs.declared.fault.Fault.TheVariants as fault
use Rattle.expression_parser.proofs.Leading.{then_leads, then_fails, staying, taking, deep_here, nest_to}
use Rattle.luau_parser.proofs.Sequences.{Stack, Passes, Refuses}

-- the word at place i opens a node around these parts
pub record OpensNode (ts : List Token) (i : ℕ) (parts : Stack) : Type 0 where
  pub word : Opening
  pub stands : opening (kind_at ts i) ≡ word
  pub turns : (v : ℕ) (k : List Item) → block_turn word v k ≡ node_turn v k parts

pub opening_turn : (ts : List Token) (i : ℕ) (o : Opening) (v : ℕ) (k : List Item) → opening (kind_at ts i) ≡ o → turn (kind_at ts i) v item.block k ≡ block_turn o v k
opening_turn ts i o v k stands = ap (λ (x : Opening). block_turn x v k) stands

-- what is around the parts of a node's statement
abbrev around : ℕ → Stack
around v k = item.wrap ∷ item.greater v ∷ item.stat_end ∷ k

opens : (ts : List Token) (room i : ℕ) (parts : Stack) (v : ℕ) (k : List Item) → OpensNode ts i parts → 0 < room → depth k + room ≡ most → Leads ts i v (item.block ∷ k) (i + 1) 0 (parts (around v k))
opens ts room i parts v k node less deep = taking (opening_turn ts i node.word v k node.stands ∙ node.turns v k) (omega (arith, less, deep)) tt

-- no room for the node
pub no_room : (ts : List Token) (room i : ℕ) (parts : Stack) → OpensNode ts i parts → room ≤ 0 → Refuses ts room i (λ k. item.block ∷ k) (fault.TooDeep i)
no_room ts room i parts node le v k deep = deep_here (opening_turn ts i node.word v k node.stands ∙ node.turns v k) (omega (arith, le, deep))

-- a faulty part
pub faulty_part : (ts : List Token) (room i : ℕ) (parts : Stack) (f : Fault) → OpensNode ts i parts → 0 < room → Refuses ts (room - 1) (i + 1) parts f → Refuses ts room i (λ k. item.block ∷ k) f
faulty_part ts room i parts f node less refuses v k deep = then_fails (opens ts room i parts v k node less deep) f (refuses 0 (around v k) (omega (arith, less, deep)))

-- all parts
pub whole_node : (ts : List Token) (room i : ℕ) (parts : Stack) (j nest : ℕ) → OpensNode ts i parts → 0 < room → Passes ts (room - 1) (i + 1) parts j nest
    → (v : ℕ) (k : List Item) → depth k + room ≡ most → Leads ts i v (item.block ∷ k) j (max v (nest + 1)) (item.stat_end ∷ k)
whole_node ts room i parts j nest node less passes v k deep =
    let inside = passes 0 (around v k) (omega (arith, less, deep)) in
    nest_to (omega arith) (then_leads (opens ts room i parts v k node less deep) (then_leads inside (then_leads (staying refl) (staying refl))))
