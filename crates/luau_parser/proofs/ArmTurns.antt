-- The arms of an `if`, by turns.
use Rattle.std.proofs.Common.{◌≡◌, ◌≤◌, ◌<◌, ◌+◌, ◌-◌, ℕ, max, List, [], ◌∷◌, ◌++◌, refl, sym, ap, ◌∙◌, subst, arith, Option, Some, None, Ok, Err}
use Rattle.std.proofs.lemmas.List.{append_assoc}
use Rattle.syntax_tree.specs.declared.token.Token.{Token}
use Rattle.syntax_tree.specs.declared.token.TokenKind.TheVariants as token
use Rattle.syntax_tree.specs.declared.tree.Arm.{Arm}
use Rattle.syntax_tree.specs.declared.tree.Stat.{Stat}
use Rattle.syntax_tree.specs.declared.tree.StatKind as stat
use Rattle.syntax_tree.specs.Grammar.{IsExpr, IsBlock, IsStat, IsArms, if_stat, last_arm, else_arm, more_arms}
use Rattle.syntax_tree.specs.Grammar as grammar
use Rattle.syntax_tree.specs.Nodes.{stat_at, arm}
use Rattle.syntax_tree.specs.Places.{kind_at, Has, Lacks}
use Rattle.parse_steps.specs.declared.classes.Opening.TheVariants as opens
use Rattle.type_skip.specs.declared.words.Word.TheVariants as words
use Rattle.parse_steps.specs.Classes.{opening}
use Rattle.parse_steps.specs.Items as item
use Rattle.parse_steps.specs.Items.{Item, depth, expression}
use Rattle.parse_steps.specs.Steps.{most, Leads, here}
use Rattle.parse_steps.specs.Turns.{turn, stops, takes, word_or}
use Rattle.expression_parser.specs.declared.fault.Fault.{Fault}
use Rattle.expression_parser.specs.declared.parts.Part.{Part}
use Rattle.expression_parser.specs.declared.parts.Block.{Block}
use Rattle.luau_parser.specs.declared.parts.Arms.{Arms}
use Rattle.luau_parser.specs.declared.parts.Guarded.{Guarded}
use Rattle.luau_parser.specs.declared.parts.Otherwise.{Otherwise}
use Rattle.expression_parser.specs.Reading.{FindsBlock, FindsWord}
use Rattle.luau_parser.specs.Statements.{FindsStat, FindsArms, IsGuarded, FindsGuarded, IsOtherwise, FindsOtherwise}
use Rattle.expression_parser.proofs.Leading.{then_leads, then_fails, nest_to, taking}
use Rattle.expression_parser.proofs.SameTurns.{same_leads, same_fails}
use Rattle.expression_parser.proofs.WordTurns.{at_word, no_word}
use Rattle.luau_parser.proofs.Sequences.{Stack, Refuses, Turns, then_passes, then_refuses, refuses_first, turns_pass, turns_refuse}
use Rattle.luau_parser.proofs.NodeStatements.{OpensNode, whole_node}
use Rattle.luau_parser.proofs.StatementTurns.{FindsExpr, expression_word, block_word, expression_passes, block_passes}

abbrev pub arm_parts : Stack
arm_parts k = expression ∷ item.expects words.Then ∷ item.block ∷ item.arm_more ∷ k

abbrev a_block : Stack
a_block k = item.block ∷ k

abbrev pub behind_arm : Stack
behind_arm k = item.arm_more ∷ k

-- ---- one arm

pub guarded_found : (ts : List Token) (room i j n : ℕ) (p : Part) (b : Block) → FindsExpr ts room i (Ok p) → FindsWord ts p.end words.Then (Ok j) → FindsBlock ts room j (Ok b) → n ≡ max p.nest b.nest
    → FindsGuarded ts room i (Ok (record { cond = p.expr; body = b.stats; nest = n; end = b.end }))
guarded_found ts room i j n p b first second third nest =
    let body = subst (λ (x : ℕ). FindsBlock ts room x (Ok b)) second.0.1 third in (
      ((p.end, grammar.expression i p.end p.expr first.0.0, second.0.0, body.0.0), (omega (arith, nest, first.0.1.0, third.0.1), omega (arith, second.0.1, first.0.1.1, third.0.2))),
      λ v k deep. nest_to (omega (arith, nest)) (then_passes ts room i (expression_word words.Then) a_block j b.end p.nest b.nest (λ x. refl) (expression_passes ts room i j words.Then p first second) third.1 v k deep),
    )

-- faults of one
pub faulty_condition : (ts : List Token) (room i : ℕ) (f : Fault) → Refuses ts room i (expression_word words.Then) f → FindsGuarded ts room i (Err f)
faulty_condition ts room i f refuses = refuses_first ts room i (expression_word words.Then) a_block f (λ k. refl) refuses

pub faulty_body : (ts : List Token) (room i j : ℕ) (p : Part) (f : Fault) → FindsExpr ts room i (Ok p) → FindsWord ts p.end words.Then (Ok j) → FindsBlock ts room j (Err f) → FindsGuarded ts room i (Err f)
faulty_body ts room i j p f first second third = then_refuses ts room i (expression_word words.Then) a_block j p.nest f (λ k. refl) (expression_passes ts room i j words.Then p first second) third

-- ---- behind an arm

-- an `elseif`
pub to_next_arm : (ts : List Token) (i : ℕ) → Has ts i token.ElseIf → Turns ts i behind_arm (i + 1) arm_parts
to_next_arm ts i stands v k = taking (at_word ts i words.ElseIf (takes 0 v (arm_parts k)) (word_or words.Else (kind_at ts i) (takes 0 v (block_word words.End k)) (word_or words.End (kind_at ts i) (takes 0 v k) stops)) stands) (omega arith) tt

-- an `else`
pub to_else : (ts : List Token) (i : ℕ) → Lacks ts i token.ElseIf → Has ts i token.Else → Turns ts i behind_arm (i + 1) (block_word words.End)
to_else ts i absent stands v k =
    taking (no_word ts i words.ElseIf (takes 0 v (arm_parts k)) (word_or words.Else (kind_at ts i) (takes 0 v (block_word words.End k)) (word_or words.End (kind_at ts i) (takes 0 v k) stops)) absent
    ∙ at_word ts i words.Else (takes 0 v (block_word words.End k)) (word_or words.End (kind_at ts i) (takes 0 v k) stops) stands) (omega arith) tt

-- none of both: as where `end` has to stand
no_other : (ts : List Token) (i v : ℕ) (k : List Item) → Lacks ts i token.ElseIf → Lacks ts i token.Else → turn (kind_at ts i) v item.arm_more k ≡ turn (kind_at ts i) v (item.expects words.End) k
no_other ts i v k absent other =
    no_word ts i words.ElseIf (takes 0 v (arm_parts k)) (word_or words.Else (kind_at ts i) (takes 0 v (block_word words.End k)) (word_or words.End (kind_at ts i) (takes 0 v k) stops)) absent
    ∙ no_word ts i words.Else (takes 0 v (block_word words.End k)) (word_or words.End (kind_at ts i) (takes 0 v k) stops) other

pub without_end : (ts : List Token) (room i : ℕ) (f : Fault) → Lacks ts i token.ElseIf → Lacks ts i token.Else → FindsWord ts i words.End (Err f) → FindsOtherwise ts room i (Err f)
without_end ts room i f absent other found v k deep = same_fails ts i v (item.expects words.End) k item.arm_more k (no_other ts i v k absent other) refl refl f (found v k)

pub end_found : (ts : List Token) (room i j : ℕ) → Lacks ts i token.ElseIf → Lacks ts i token.Else → FindsWord ts i words.End (Ok j) → FindsOtherwise ts room i (Ok (record { other = None; nest = 0; end = j }))
end_found ts room i j absent other found = (
  ((found.0.0, found.0.1), (omega arith, omega (arith, found.0.1))),
  λ v k deep. nest_to (omega arith) (same_leads ts item.arm_more k (no_other ts i v k absent other) refl refl (omega (arith, found.0.1)) (found.1 v k)),
)

pub else_refuses : (ts : List Token) (room i : ℕ) (f : Fault) → Lacks ts i token.ElseIf → Has ts i token.Else → Refuses ts room (i + 1) (block_word words.End) f → FindsOtherwise ts room i (Err f)
else_refuses ts room i f absent stands refuses = turns_refuse ts room i behind_arm (block_word words.End) (i + 1) f (to_else ts i absent stands) refuses

pub else_found : (ts : List Token) (room i j : ℕ) (b : Block) → Lacks ts i token.ElseIf → Has ts i token.Else → FindsBlock ts room (i + 1) (Ok b) → FindsWord ts b.end words.End (Ok j) → FindsOtherwise ts room i (Ok (record { other = Some b.stats; nest = b.nest; end = j }))
else_found ts room i j b absent stands block found = (
  ((b.end, stands, block.0.0, found.0.0, found.0.1), (block.0.1, omega (arith, found.0.1, block.0.2))),
  turns_pass ts room i behind_arm (block_word words.End) (i + 1) j b.nest (to_else ts i absent stands) (block_passes ts room (i + 1) j words.End b block found),
)

-- ---- the arms so far

pub record ArmsSoFar (ts : List Token) (room i : ℕ) (arms : List Arm) (nest begin : ℕ) : Type 0 where
  pub whole : (rest : List Arm) (other : Option (List Stat)) (j : ℕ) → IsArms ts most begin rest other j → IsArms ts most i (arms ++ rest) other j
  pub runs : (v : ℕ) (k : List Item) → depth k + room ≡ most → Leads ts i v (arm_parts k) begin (max v nest) (arm_parts k)
  pub small : nest ≤ room
  pub onward : i ≤ begin

pub no_arms : (ts : List Token) (room i : ℕ) → ArmsSoFar ts room i [] 0 i
no_arms ts room i = record { whole = λ rest other j d. d; runs = λ v k deep. nest_to (omega arith) (here _ _ _); small = omega arith; onward = omega arith }

pub one_more_arm : (ts : List Token) (room i : ℕ) (arms more : List Arm) (nest begin deeper : ℕ) (g : Guarded) → ArmsSoFar ts room i arms nest begin → FindsGuarded ts room begin (Ok g) → Has ts g.end token.ElseIf → deeper ≡ max nest g.nest
    → more ≡ arms ++ (arm g.cond g.body ∷ []) → ArmsSoFar ts room i more deeper (g.end + 1)
one_more_arm ts room i arms more nest begin deeper g so_far read stands greater pushed = record {
  whole = λ rest other j d.
      let parts = read.0.0 in
      let all = so_far.whole (arm g.cond g.body ∷ rest) other j (more_arms begin parts.0 g.end j g.cond g.body rest other parts.1 parts.2 parts.3 stands d) in
      subst (λ (x : List Arm). IsArms ts most i x other j) (sym (append_assoc arms (arm g.cond g.body ∷ []) rest) ∙ ap (λ (x : List Arm). x ++ rest) (sym pushed)) all;
  runs = λ v k deep.
      let one = then_leads (read.1 (max v nest) (behind_arm k) deep) (to_next_arm ts g.end stands (max (max v nest) g.nest) k) in
      nest_to (omega (arith, greater)) (then_leads (so_far.runs v k deep) one);
  small = omega (arith, greater, so_far.small, read.0.1.0);
  onward = omega (arith, so_far.onward, read.0.1.1);
}

-- a fault in the arm that follows, and in what is behind it
pub arms_refuse : (ts : List Token) (room i : ℕ) (arms : List Arm) (nest begin : ℕ) (f : Fault) → ArmsSoFar ts room i arms nest begin → FindsGuarded ts room begin (Err f) → FindsArms ts room i (Err f)
arms_refuse ts room i arms nest begin f so_far fails v k deep = then_fails (so_far.runs v k deep) f (fails (max v nest) (behind_arm k) deep)

pub arms_end_refuses : (ts : List Token) (room i : ℕ) (arms : List Arm) (nest begin : ℕ) (g : Guarded) (f : Fault) → ArmsSoFar ts room i arms nest begin → FindsGuarded ts room begin (Ok g) → FindsOtherwise ts room g.end (Err f) → FindsArms ts room i (Err f)
arms_end_refuses ts room i arms nest begin g f so_far read fails v k deep = then_fails (then_leads (so_far.runs v k deep) (read.1 (max v nest) (behind_arm k) deep)) f (fails (max (max v nest) g.nest) k deep)

-- all of them
last_of : (ts : List Token) (i : ℕ) (g : Guarded) (other : Option (List Stat)) (end : ℕ) → IsGuarded ts i g → IsOtherwise ts g.end other end → IsArms ts most i (arm g.cond g.body ∷ []) other end
last_of ts i g None end read last = subst (λ (x : ℕ). IsArms ts most i (arm g.cond g.body ∷ []) None x) (sym last.1) (last_arm i read.0 g.end g.cond g.body read.1 read.2 read.3 last.0)
last_of ts i g (Some b) end read last = subst (λ (x : ℕ). IsArms ts most i (arm g.cond g.body ∷ []) (Some b) x) (sym last.4) (else_arm i read.0 g.end last.0 g.cond g.body b read.1 read.2 read.3 last.1 last.2 last.3)

pub arms_found : (ts : List Token) (room i : ℕ) (arms more : List Arm) (nest begin m n : ℕ) (g : Guarded) (o : Otherwise) → ArmsSoFar ts room i arms nest begin → FindsGuarded ts room begin (Ok g) → FindsOtherwise ts room g.end (Ok o) → m ≡ max nest g.nest → n ≡ max m o.nest
    → more ≡ arms ++ (arm g.cond g.body ∷ []) → FindsArms ts room i (Ok (record { arms = more; other = o.other; nest = n; end = o.end }))
arms_found ts room i arms more nest begin m n g o so_far read last inner outer pushed =
    let all = so_far.whole (arm g.cond g.body ∷ []) o.other o.end (last_of ts begin g o.other o.end read.0.0 last.0.0) in (
      (subst (λ (x : List Arm). IsArms ts most i x o.other o.end) (sym pushed) all, (omega (arith, inner, outer, so_far.small, read.0.1.0, last.0.1.0), omega (arith, so_far.onward, read.0.1.1, last.0.1.1))),
      λ v k deep. nest_to (omega (arith, inner, outer)) (then_leads (so_far.runs v k deep) (then_leads (read.1 (max v nest) (behind_arm k) deep) (last.1 (max (max v nest) g.nest) k deep))),
    )

-- ---- the whole

pub if_opens : (ts : List Token) (i : ℕ) → Has ts i token.If → OpensNode ts i arm_parts
if_opens ts i stands = record { word = opens.If; stands = ap opening stands; turns = λ v k. refl }

pub if_found : (ts : List Token) (room i : ℕ) (a : Arms) (s : Stat) → Has ts i token.If → 0 < room → FindsArms ts (room - 1) (i + 1) (Ok a) → s ≡ stat_at ts i (stat.If a.arms a.other) → FindsStat ts room i (Ok (record { stat = s; nest = a.nest + 1; end = a.end }))
if_found ts room i a s stands less found node =
    let good : IsStat ts most i (stat_at ts i (stat.If a.arms a.other)) a.end = if_stat i a.end a.arms a.other stands found.0.0 in (
      (subst (λ (x : Stat). IsStat ts most i x a.end) (sym node) good, (omega (arith, less, found.0.1.0), omega (arith, found.0.1.1))),
      whole_node ts room i arm_parts a.end a.nest (if_opens ts i stands) less found.1,
    )
