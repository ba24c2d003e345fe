-- Statements of blocks and conditions: what is read of them, by turns.
use Rattle.std.proofs.Common.{◌≡◌, ◌<◌, ◌+◌, ◌-◌, ℕ, max, List, ◌∷◌, refl, sym, ap, ◌∙◌, subst, arith, Result, Ok, Err}
use Rattle.syntax_tree.specs.declared.token.Token.{Token}
use Rattle.syntax_tree.specs.declared.token.TokenKind.TheVariants as token
use Rattle.syntax_tree.specs.declared.tree.Expr.{Expr}
use Rattle.syntax_tree.specs.declared.tree.Stat.{Stat}
use Rattle.syntax_tree.specs.declared.tree.StatKind as stat
use Rattle.syntax_tree.specs.Grammar.{IsExpr, IsStat, do_stat, while_stat, repeat_stat}
use Rattle.syntax_tree.specs.Grammar as grammar
use Rattle.syntax_tree.specs.Nodes.{stat_at}
use Rattle.syntax_tree.specs.Places.{Has}
use Rattle.parse_steps.specs.declared.classes.Opening.TheVariants as opens
use Rattle.parse_steps.specs.declared.levels.Level.TheVariants as levels
use Rattle.parse_steps.specs.declared.levels.Rank.TheVariants as ranks
use Rattle.type_skip.specs.declared.words.Word.{Word}
use Rattle.type_skip.specs.declared.words.Word.TheVariants as words
use Rattle.parse_steps.specs.Classes.{opening}
use Rattle.parse_steps.specs.Items as item
use Rattle.parse_steps.specs.Items.{Item, depth, expression}
use Rattle.parse_steps.specs.Steps.{most}
use Rattle.expression_parser.specs.declared.fault.Fault.{Fault}
use Rattle.expression_parser.specs.declared.parts.Part.{Part}
use Rattle.expression_parser.specs.declared.parts.Block.{Block}
use Rattle.expression_parser.specs.Reading.{FindsLevel, FindsBlock, FindsWord}
use Rattle.luau_parser.specs.Statements.{FindsStat}
use Rattle.expression_parser.proofs.Leading.{then_leads, then_fails, nest_to}
use Rattle.luau_parser.proofs.Sequences.{Stack, Passes, Refuses, then_passes, then_refuses, refuses_first}
use Rattle.luau_parser.proofs.NodeStatements.{OpensNode, faulty_part, whole_node}

-- ---- an expression or a block, and a word behind it

abbrev pub an_expression : Stack
an_expression k = expression ∷ k

abbrev pub expression_word : Word → Stack
expression_word w k = expression ∷ item.expects w ∷ k

abbrev pub block_word : Word → Stack
block_word w k = item.block ∷ item.expects w ∷ k

abbrev pub FindsExpr : List Token → (room i : ℕ) → Result Part Fault → Type 0
FindsExpr ts room i = FindsLevel ts room (levels.Of ranks.Ors) i

pub expression_passes : (ts : List Token) (room i j : ℕ) (w : Word) (p : Part) → FindsExpr ts room i (Ok p) → FindsWord ts p.end w (Ok j) → Passes ts room i (expression_word w) j p.nest
expression_passes ts room i j w p first second v k deep = then_leads (first.1 v (item.expects w ∷ k) deep) (second.1 (max v p.nest) k)

pub faulty_expression : (ts : List Token) (room i : ℕ) (w : Word) (f : Fault) → FindsExpr ts room i (Err f) → Refuses ts room i (expression_word w) f
faulty_expression ts room i w f first v k deep = first v (item.expects w ∷ k) deep

pub expression_without : (ts : List Token) (room i : ℕ) (w : Word) (p : Part) (f : Fault) → FindsExpr ts room i (Ok p) → FindsWord ts p.end w (Err f) → Refuses ts room i (expression_word w) f
expression_without ts room i w p f first second v k deep = then_fails (first.1 v (item.expects w ∷ k) deep) f (second (max v p.nest) k)

pub block_passes : (ts : List Token) (room i j : ℕ) (w : Word) (b : Block) → FindsBlock ts room i (Ok b) → FindsWord ts b.end w (Ok j) → Passes ts room i (block_word w) j b.nest
block_passes ts room i j w b first second v k deep = then_leads (first.1 v (item.expects w ∷ k) deep) (second.1 (max v b.nest) k)

pub faulty_block : (ts : List Token) (room i : ℕ) (w : Word) (f : Fault) → FindsBlock ts room i (Err f) → Refuses ts room i (block_word w) f
faulty_block ts room i w f first v k deep = first v (item.expects w ∷ k) deep

pub block_without : (ts : List Token) (room i : ℕ) (w : Word) (b : Block) (f : Fault) → FindsBlock ts room i (Ok b) → FindsWord ts b.end w (Err f) → Refuses ts room i (block_word w) f
block_without ts room i w b f first second v k deep = then_fails (first.1 v (item.expects w ∷ k) deep) f (second (max v b.nest) k)

-- ---- "do" block "end"

pub do_opens : (ts : List Token) (i : ℕ) → Has ts i token.Do → OpensNode ts i (block_word words.End)
do_opens ts i stands = record { word = opens.Do; stands = ap opening stands; turns = λ v k. refl }

pub do_found : (ts : List Token) (room i j : ℕ) (b : Block) (s : Stat) → Has ts i token.Do → 0 < room → FindsBlock ts (room - 1) (i + 1) (Ok b) → FindsWord ts b.end words.End (Ok j)
    → s ≡ stat_at ts i (stat.Do b.stats) → FindsStat ts room i (Ok (record { stat = s; nest = b.nest + 1; end = j }))
do_found ts room i j b s stands less first second node =
    let end : j ≡ b.end + 1 = second.0.1 in
    let good : IsStat ts most i (stat_at ts i (stat.Do b.stats)) (b.end + 1) = do_stat i b.end b.stats stands first.0.0 second.0.0 in (
      (subst (λ (x : ℕ). IsStat ts most i s x) (sym end) (subst (λ (x : Stat). IsStat ts most i x (b.end + 1)) (sym node) good), (omega (arith, less, first.0.1), omega (arith, end, first.0.2))),
      whole_node ts room i (block_word words.End) j b.nest (do_opens ts i stands) less (block_passes ts (room - 1) (i + 1) j words.End b first second),
    )

-- ---- "while" expr "do" block "end"

abbrev pub while_parts : Stack
while_parts k = expression ∷ item.expects words.Do ∷ item.block ∷ item.expects words.End ∷ k

pub while_opens : (ts : List Token) (i : ℕ) → Has ts i token.While → OpensNode ts i while_parts
while_opens ts i stands = record { word = opens.While; stands = ap opening stands; turns = λ v k. refl }

-- a faulty condition, and a faulty block behind one
pub while_condition : (ts : List Token) (room i : ℕ) (f : Fault) → Has ts i token.While → 0 < room → Refuses ts (room - 1) (i + 1) (expression_word words.Do) f → FindsStat ts room i (Err f)
while_condition ts room i f stands less refuses = faulty_part ts room i while_parts f (while_opens ts i stands) less (refuses_first ts (room - 1) (i + 1) (expression_word words.Do) (block_word words.End) f (λ k. refl) refuses)

pub while_block : (ts : List Token) (room i j : ℕ) (p : Part) (f : Fault) → Has ts i token.While → 0 < room → FindsExpr ts (room - 1) (i + 1) (Ok p) → FindsWord ts p.end words.Do (Ok j)
    → Refuses ts (room - 1) j (block_word words.End) f → FindsStat ts room i (Err f)
while_block ts room i j p f stands less first second refuses =
    faulty_part ts room i while_parts f (while_opens ts i stands) less (then_refuses ts (room - 1) (i + 1) (expression_word words.Do) (block_word words.End) j p.nest f (λ k. refl) (expression_passes ts (room - 1) (i + 1) j words.Do p first second) refuses)

pub while_found : (ts : List Token) (room i j l n : ℕ) (p : Part) (b : Block) (e : Expr) (s : Stat) → Has ts i token.While → 0 < room → FindsExpr ts (room - 1) (i + 1) (Ok p) → FindsWord ts p.end words.Do (Ok j)
    → FindsBlock ts (room - 1) j (Ok b) → FindsWord ts b.end words.End (Ok l)
    → n ≡ max p.nest b.nest → e ≡ p.expr → s ≡ stat_at ts i (stat.While e b.stats) → FindsStat ts room i (Ok (record { stat = s; nest = n + 1; end = l }))
while_found ts room i j l n p b e s stands less first second third fourth nest cond node =
    let begin : j ≡ p.end + 1 = second.0.1 in
    let end : l ≡ b.end + 1 = fourth.0.1 in
    let body = subst (λ (x : ℕ). FindsBlock ts (room - 1) x (Ok b)) begin third in
    let whole : s ≡ stat_at ts i (stat.While p.expr b.stats) = node ∙ ap (λ (x : Expr). stat_at ts i (stat.While x b.stats)) cond in
    let good : IsStat ts most i (stat_at ts i (stat.While p.expr b.stats)) (b.end + 1) = while_stat i p.end b.end p.expr b.stats stands (grammar.expression (i + 1) p.end p.expr first.0.0) second.0.0 body.0.0 fourth.0.0 in (
      (subst (λ (x : ℕ). IsStat ts most i s x) (sym end) (subst (λ (x : Stat). IsStat ts most i x (b.end + 1)) (sym whole) good), (omega (arith, less, nest, first.0.1.0, third.0.1), omega (arith, begin, end, first.0.1.1, third.0.2))),
      λ v k deep. nest_to (omega (arith, nest)) (whole_node ts room i while_parts l (max p.nest b.nest) (while_opens ts i stands) less
          (then_passes ts (room - 1) (i + 1) (expression_word words.Do) (block_word words.End) j l p.nest b.nest (λ k. refl) (expression_passes ts (room - 1) (i + 1) j words.Do p first second) (block_passes ts (room - 1) j l words.End b third fourth)) v k deep),
    )

-- ---- "repeat" block "until" expr

abbrev pub repeat_parts : Stack
repeat_parts k = item.block ∷ item.expects words.Until ∷ expression ∷ k

pub repeat_opens : (ts : List Token) (i : ℕ) → Has ts i token.Repeat → OpensNode ts i repeat_parts
repeat_opens ts i stands = record { word = opens.Repeat; stands = ap opening stands; turns = λ v k. refl }

-- a faulty block, and a faulty condition behind one
pub repeat_block : (ts : List Token) (room i : ℕ) (f : Fault) → Has ts i token.Repeat → 0 < room → Refuses ts (room - 1) (i + 1) (block_word words.Until) f → FindsStat ts room i (Err f)
repeat_block ts room i f stands less refuses = faulty_part ts room i repeat_parts f (repeat_opens ts i stands) less (refuses_first ts (room - 1) (i + 1) (block_word words.Until) an_expression f (λ k. refl) refuses)

pub repeat_condition : (ts : List Token) (room i j : ℕ) (b : Block) (f : Fault) → Has ts i token.Repeat → 0 < room → FindsBlock ts (room - 1) (i + 1) (Ok b) → FindsWord ts b.end words.Until (Ok j)
    → FindsExpr ts (room - 1) j (Err f) → FindsStat ts room i (Err f)
repeat_condition ts room i j b f stands less first second third =
    faulty_part ts room i repeat_parts f (repeat_opens ts i stands) less (then_refuses ts (room - 1) (i + 1) (block_word words.Until) an_expression j b.nest f (λ k. refl) (block_passes ts (room - 1) (i + 1) j words.Until b first second) third)

pub repeat_found : (ts : List Token) (room i j n : ℕ) (b : Block) (p : Part) (e : Expr) (s : Stat) → Has ts i token.Repeat → 0 < room → FindsBlock ts (room - 1) (i + 1) (Ok b) → FindsWord ts b.end words.Until (Ok j)
    → FindsExpr ts (room - 1) j (Ok p) → n ≡ max b.nest p.nest → e ≡ p.expr → s ≡ stat_at ts i (stat.Repeat b.stats e)
    → FindsStat ts room i (Ok (record { stat = s; nest = n + 1; end = p.end }))
repeat_found ts room i j n b p e s stands less first second third nest cond node =
    let begin : j ≡ b.end + 1 = second.0.1 in
    let condition = subst (λ (x : ℕ). FindsExpr ts (room - 1) x (Ok p)) begin third in
    let whole : s ≡ stat_at ts i (stat.Repeat b.stats p.expr) = node ∙ ap (λ (x : Expr). stat_at ts i (stat.Repeat b.stats x)) cond in
    let good : IsStat ts most i (stat_at ts i (stat.Repeat b.stats p.expr)) p.end = repeat_stat i b.end p.end b.stats p.expr stands first.0.0 second.0.0 (grammar.expression (b.end + 1) p.end p.expr condition.0.0) in (
      (subst (λ (x : Stat). IsStat ts most i x p.end) (sym whole) good, (omega (arith, less, nest, first.0.1, third.0.1.0), omega (arith, begin, first.0.2, third.0.1.1))),
      λ v k deep. nest_to (omega (arith, nest)) (whole_node ts room i repeat_parts p.end (max b.nest p.nest) (repeat_opens ts i stands) less
          (then_passes ts (room - 1) (i + 1) (block_word words.Until) an_expression j p.end b.nest p.nest (λ k. refl) (block_passes ts (room - 1) (i + 1) j words.Until b first second) third.1) v k deep),
    )
