-- Both kinds of `for`, by turns.
use Rattle.std.proofs.Common.{◌≡◌, ◌<◌, ◌+◌, ◌-◌, ℕ, max, List, ◌∷◌, refl, sym, ap, ◌∙◌, subst, arith, Some, None, Ok, Err}
use Rattle.syntax_tree.specs.declared.token.Token.{Token}
use Rattle.syntax_tree.specs.declared.token.TokenKind.TheVariants as token
use Rattle.syntax_tree.specs.declared.tree.Expr.{Expr}
use Rattle.syntax_tree.specs.declared.tree.Stat.{Stat}
use Rattle.syntax_tree.specs.declared.tree.StatKind as stat
use Rattle.syntax_tree.specs.Grammar.{IsStat, IsBlock, IsStep, num_for, gen_for}
use Rattle.syntax_tree.specs.Grammar as grammar
use Rattle.syntax_tree.specs.Nodes.{stat_at}
use Rattle.syntax_tree.specs.Places.{Has, Lacks}
use Rattle.parse_steps.specs.declared.classes.Opening.TheVariants as opens
use Rattle.type_skip.specs.declared.words.Word.TheVariants as words
use Rattle.parse_steps.specs.Classes.{opening}
use Rattle.parse_steps.specs.Items as item
use Rattle.parse_steps.specs.Items.{Item, depth, expression}
use Rattle.parse_steps.specs.Steps.{most}
use Rattle.parse_steps.specs.Turns.{stays, takes}
use Rattle.expression_parser.specs.declared.fault.Fault.{Fault}
use Rattle.expression_parser.specs.declared.parts.Part.{Part}
use Rattle.expression_parser.specs.declared.parts.Parts.{Parts}
use Rattle.expression_parser.specs.declared.parts.Block.{Block}
use Rattle.expression_parser.specs.declared.parts.Bind.{Bind}
use Rattle.expression_parser.specs.declared.parts.Binds.{Binds}
use Rattle.luau_parser.specs.declared.parts.Count.{Count}
use Rattle.luau_parser.specs.declared.parts.Limits.{Limits}
use Rattle.luau_parser.specs.declared.parts.Walk.{Walk}
use Rattle.expression_parser.specs.Reading.{FindsBlock, FindsList, FindsWord, FindsBind, FindsBinds}
use Rattle.luau_parser.specs.Statements.{FindsStat, FindsLimits, FindsCount, FindsWalk}
use Rattle.expression_parser.proofs.Leading.{then_leads, then_fails, nest_to, staying, taking}
use Rattle.expression_parser.proofs.WordTurns.{at_word, no_word}
use Rattle.luau_parser.proofs.Sequences.{Stack, Passes, Refuses, Turns, then_passes, then_refuses, refuses_first, turns_pass, turns_refuse}
use Rattle.luau_parser.proofs.NodeStatements.{OpensNode, faulty_part, whole_node}
use Rattle.luau_parser.proofs.StatementTurns.{FindsExpr, an_expression, expression_word, block_word, expression_passes, block_passes}

-- ---- "do" block "end"

abbrev pub do_block : Stack
do_block k = item.expects words.Do ∷ item.block ∷ item.expects words.End ∷ k

pub no_do : (ts : List Token) (room i : ℕ) (f : Fault) → FindsWord ts i words.Do (Err f) → Refuses ts room i do_block f
no_do ts room i f found v k deep = found v (item.block ∷ item.expects words.End ∷ k)

pub do_refuses : (ts : List Token) (room i j : ℕ) (f : Fault) → FindsWord ts i words.Do (Ok j) → Refuses ts room j (block_word words.End) f → Refuses ts room i do_block f
do_refuses ts room i j f found refuses v k deep = then_fails (found.1 v (item.block ∷ item.expects words.End ∷ k)) f (refuses v k deep)

pub do_passes : (ts : List Token) (room i j l : ℕ) (b : Block) → FindsWord ts i words.Do (Ok j) → FindsBlock ts room j (Ok b) → FindsWord ts b.end words.End (Ok l) → Passes ts room i do_block l b.nest
do_passes ts room i j l b first second third v k deep = then_leads (first.1 v (item.block ∷ item.expects words.End ∷ k)) (block_passes ts room j l words.End b second third v k deep)

-- ---- behind the `in` of a generic `for`

abbrev pub a_list : Stack
a_list k = expression ∷ item.list_more ∷ k

abbrev pub walk_parts : Stack
walk_parts k = expression ∷ item.list_more ∷ item.expects words.Do ∷ item.block ∷ item.expects words.End ∷ k

pub walk_values : (ts : List Token) (room i : ℕ) (f : Fault) → FindsList ts room i (Err f) → FindsWalk ts room i (Err f)
walk_values ts room i f found = refuses_first ts room i a_list do_block f (λ k. refl) found

pub walk_rest : (ts : List Token) (room i : ℕ) (p : Parts) (f : Fault) → FindsList ts room i (Ok p) → Refuses ts room p.end do_block f → FindsWalk ts room i (Err f)
walk_rest ts room i p f found refuses = then_refuses ts room i a_list do_block p.end p.nest f (λ k. refl) found.1 refuses

pub walk_found : (ts : List Token) (room i j l n : ℕ) (p : Parts) (b : Block) → FindsList ts room i (Ok p) → FindsWord ts p.end words.Do (Ok j) → FindsBlock ts room j (Ok b) → FindsWord ts b.end words.End (Ok l)
    → n ≡ max p.nest b.nest → FindsWalk ts room i (Ok (record { values = p.list; body = b.stats; nest = n; end = l }))
walk_found ts room i j l n p b first second third fourth nest =
    let begin : j ≡ p.end + 1 = second.0.1 in
    let body = subst (λ (x : ℕ). FindsBlock ts room x (Ok b)) begin third in (
      ((p.end, b.end, first.0.0, second.0.0, body.0.0, fourth.0.0, fourth.0.1), (omega (arith, nest, first.0.1.0, third.0.1), omega (arith, begin, fourth.0.1, first.0.1.1, third.0.2))),
      λ v k deep. nest_to (omega (arith, nest)) (then_passes ts room i a_list do_block p.end l p.nest b.nest (λ x. refl) first.1 (do_passes ts room p.end j l b second third fourth) v k deep),
    )

-- ---- behind the `=` of a numeric `for`

-- its numbers
abbrev pub count_head : Stack
count_head k = expression ∷ item.expects words.Comma ∷ expression ∷ item.for_step ∷ k

abbrev limit_and_step : Stack
limit_and_step k = expression ∷ item.for_step ∷ k

abbrev a_step : Stack
a_step k = item.for_step ∷ k

abbrev pub count_parts : Stack
count_parts k = expression ∷ item.expects words.Comma ∷ expression ∷ item.for_step ∷ item.expects words.Do ∷ item.block ∷ item.expects words.End ∷ k

-- no step, and one
no_step : (ts : List Token) (i : ℕ) → Lacks ts i token.Comma → Turns ts i a_step i (λ k. k)
no_step ts i absent v k = staying (no_word ts i words.Comma (takes 0 v (expression ∷ k)) (stays v k) absent)

to_step : (ts : List Token) (i : ℕ) → Has ts i token.Comma → Turns ts i a_step (i + 1) an_expression
to_step ts i stands v k = taking (at_word ts i words.Comma (takes 0 v (expression ∷ k)) (stays v k) stands) (omega arith) tt

-- faults in the numbers
pub head_start : (ts : List Token) (room i : ℕ) (f : Fault) → Refuses ts room i (expression_word words.Comma) f → Refuses ts room i count_head f
head_start ts room i f refuses = refuses_first ts room i (expression_word words.Comma) limit_and_step f (λ k. refl) refuses

pub head_limit : (ts : List Token) (room i j : ℕ) (p : Part) (f : Fault) → FindsExpr ts room i (Ok p) → FindsWord ts p.end words.Comma (Ok j) → FindsExpr ts room j (Err f) → Refuses ts room i count_head f
head_limit ts room i j p f first second third = then_refuses ts room i (expression_word words.Comma) limit_and_step j p.nest f (λ k. refl) (expression_passes ts room i j words.Comma p first second) (refuses_first ts room j an_expression a_step f (λ k. refl) third)

-- both limits
pub head_limits : (ts : List Token) (room i j : ℕ) (p q : Part) → FindsExpr ts room i (Ok p) → FindsWord ts p.end words.Comma (Ok j) → FindsExpr ts room j (Ok q) → Passes ts room i (λ k. expression_word words.Comma (an_expression k)) q.end (max p.nest q.nest)
head_limits ts room i j p q first second third = then_passes ts room i (expression_word words.Comma) an_expression j q.end p.nest q.nest (λ k. refl) (expression_passes ts room i j words.Comma p first second) third.1

pub head_step : (ts : List Token) (room i j : ℕ) (p q : Part) (f : Fault) → FindsExpr ts room i (Ok p) → FindsWord ts p.end words.Comma (Ok j) → FindsExpr ts room j (Ok q) → Has ts q.end token.Comma → FindsExpr ts room (q.end + 1) (Err f) → Refuses ts room i count_head f
head_step ts room i j p q f first second third stands fourth = then_refuses ts room i (λ k. expression_word words.Comma (an_expression k)) a_step q.end (max p.nest q.nest) f (λ k. refl) (head_limits ts room i j p q first second third) (turns_refuse ts room q.end a_step an_expression (q.end + 1) f (to_step ts q.end stands) fourth)

pub limits_found : (ts : List Token) (room i j n : ℕ) (p q : Part) → FindsExpr ts room i (Ok p) → FindsWord ts p.end words.Comma (Ok j) → FindsExpr ts room j (Ok q) → Lacks ts q.end token.Comma → n ≡ max p.nest q.nest
    → FindsLimits ts room i (Ok (record { start = p.expr; limit = q.expr; step = None; nest = n; end = q.end }))
limits_found ts room i j n p q first second third absent nest =
    let limit = subst (λ (x : ℕ). FindsExpr ts room x (Ok q)) second.0.1 third in (
      ((p.end, q.end, grammar.expression i p.end p.expr first.0.0, second.0.0, grammar.expression (p.end + 1) q.end q.expr limit.0.0, grammar.no_step q.end absent), (omega (arith, nest, first.0.1.0, third.0.1.0), omega (arith, second.0.1, first.0.1.1, third.0.1.1))),
      λ v k deep. nest_to (omega (arith, nest)) (then_leads (head_limits ts room i j p q first second third v (item.for_step ∷ k) deep) (no_step ts q.end absent (max v (max p.nest q.nest)) k)),
    )

pub limits_and_step : (ts : List Token) (room i j m n : ℕ) (p q r : Part) (e : Expr) → FindsExpr ts room i (Ok p) → FindsWord ts p.end words.Comma (Ok j) → FindsExpr ts room j (Ok q) → Has ts q.end token.Comma → FindsExpr ts room (q.end + 1) (Ok r)
    → m ≡ max p.nest q.nest → n ≡ max m r.nest → e ≡ r.expr → FindsLimits ts room i (Ok (record { start = p.expr; limit = q.expr; step = Some e; nest = n; end = r.end }))
limits_and_step ts room i j m n p q r e first second third stands fourth inner nest same =
    let limit = subst (λ (x : ℕ). FindsExpr ts room x (Ok q)) second.0.1 third in
    let by = grammar.expression (q.end + 1) r.end r.expr fourth.0.0 in
    let step = grammar.step q.end r.end e stands (subst (λ (x : Expr). grammar.IsExpr ts most (q.end + 1) x r.end) (sym same) by) in (
      ((p.end, q.end, grammar.expression i p.end p.expr first.0.0, second.0.0, grammar.expression (p.end + 1) q.end q.expr limit.0.0, step), (omega (arith, inner, nest, first.0.1.0, third.0.1.0, fourth.0.1.0), omega (arith, second.0.1, first.0.1.1, third.0.1.1, fourth.0.1.1))),
      λ v k deep. nest_to (omega (arith, inner, nest)) (then_passes ts room i (λ x. expression_word words.Comma (an_expression x)) a_step q.end r.end (max p.nest q.nest) r.nest (λ x. refl) (head_limits ts room i j p q first second third)
          (turns_pass ts room q.end a_step an_expression (q.end + 1) r.end r.nest (to_step ts q.end stands) fourth.1) v k deep),
    )

pub count_in_head : (ts : List Token) (room i : ℕ) (f : Fault) → Refuses ts room i count_head f → FindsCount ts room i (Err f)
count_in_head ts room i f refuses = refuses_first ts room i count_head do_block f (λ k. refl) refuses

pub count_rest : (ts : List Token) (room i : ℕ) (l : Limits) (f : Fault) → FindsLimits ts room i (Ok l) → Refuses ts room l.end do_block f → FindsCount ts room i (Err f)
count_rest ts room i l f head refuses = then_refuses ts room i count_head do_block l.end l.nest f (λ k. refl) head.1 refuses

pub count_found : (ts : List Token) (room i j end n : ℕ) (l : Limits) (b : Block) → FindsLimits ts room i (Ok l) → FindsWord ts l.end words.Do (Ok j) → FindsBlock ts room j (Ok b) → FindsWord ts b.end words.End (Ok end)
    → n ≡ max l.nest b.nest → FindsCount ts room i (Ok (record { start = l.start; limit = l.limit; step = l.step; body = b.stats; nest = n; end = end }))
count_found ts room i j end n l b head first second third nest =
    let begin : j ≡ l.end + 1 = first.0.1 in
    let parts = head.0.0 in
    let body = subst (λ (x : ℕ). FindsBlock ts room x (Ok b)) begin second in (
      ((parts.0, parts.1, l.end, b.end, parts.2, parts.3, parts.4, parts.5, first.0.0, body.0.0, third.0.0, third.0.1), (omega (arith, nest, head.0.1.0, second.0.1), omega (arith, begin, third.0.1, head.0.1.1, second.0.2))),
      λ v k deep. nest_to (omega (arith, nest)) (then_passes ts room i count_head do_block l.end end l.nest b.nest (λ x. refl) head.1 (do_passes ts room l.end j end b first second third) v k deep),
    )

-- ---- the whole

abbrev pub for_parts : Stack
for_parts k = item.bind ∷ item.for_what ∷ k

pub for_opens : (ts : List Token) (i : ℕ) → Has ts i token.For → OpensNode ts i for_parts
for_opens ts i stands = record { word = opens.For; stands = ap opening stands; turns = λ v k. refl }

-- behind its first name: a `=`, or further names
abbrev names_parts : Stack
names_parts k = item.bind_more ∷ item.expects words.In ∷ walk_parts k

to_count : (ts : List Token) (i : ℕ) (first : Bind) → FindsBind ts i (Ok first) → Has ts first.end token.Equal → Turns ts i for_parts (first.end + 1) count_parts
to_count ts i first found stands v k = then_leads (found.1 v (item.for_what ∷ k)) (taking (at_word ts first.end words.Equal (takes 0 v (count_parts k)) (stays v (names_parts k)) stands) (omega arith) tt)

to_names : (ts : List Token) (i : ℕ) (first : Bind) → FindsBind ts i (Ok first) → Lacks ts first.end token.Equal → Turns ts i for_parts first.end names_parts
to_names ts i first found absent v k = then_leads (found.1 v (item.for_what ∷ k)) (staying (no_word ts first.end words.Equal (takes 0 v (count_parts k)) (stays v (names_parts k)) absent))

to_walk : (ts : List Token) (i j : ℕ) (first : Bind) (names : Binds) → FindsBind ts i (Ok first) → Lacks ts first.end token.Equal → FindsBinds ts i first.end (Ok names) → FindsWord ts names.end words.In (Ok j) → Turns ts i for_parts j walk_parts
to_walk ts i j first names found absent more word v k = then_leads (to_names ts i first found absent v k) (then_leads (more.1 v (item.expects words.In ∷ walk_parts k)) (word.1 v (walk_parts k)))

-- faults
pub for_bind : (ts : List Token) (room i : ℕ) (f : Fault) → Has ts i token.For → 0 < room → FindsBind ts (i + 1) (Err f) → FindsStat ts room i (Err f)
for_bind ts room i f stands less found = faulty_part ts room i for_parts f (for_opens ts i stands) less (λ v k deep. found v (item.for_what ∷ k))

pub for_count : (ts : List Token) (room i : ℕ) (first : Bind) (f : Fault) → Has ts i token.For → 0 < room → FindsBind ts (i + 1) (Ok first) → Has ts first.end token.Equal → FindsCount ts (room - 1) (first.end + 1) (Err f) → FindsStat ts room i (Err f)
for_count ts room i first f stands less found equal count = faulty_part ts room i for_parts f (for_opens ts i stands) less (turns_refuse ts (room - 1) (i + 1) for_parts count_parts (first.end + 1) f (to_count ts (i + 1) first found equal) count)

pub for_names : (ts : List Token) (room i : ℕ) (first : Bind) (f : Fault) → Has ts i token.For → 0 < room → FindsBind ts (i + 1) (Ok first) → Lacks ts first.end token.Equal → FindsBinds ts (i + 1) first.end (Err f) → FindsStat ts room i (Err f)
for_names ts room i first f stands less found absent more = faulty_part ts room i for_parts f (for_opens ts i stands) less (turns_refuse ts (room - 1) (i + 1) for_parts names_parts first.end f (to_names ts (i + 1) first found absent) (λ v k deep. more v (item.expects words.In ∷ walk_parts k)))

pub for_without_in : (ts : List Token) (room i : ℕ) (first : Bind) (names : Binds) (f : Fault) → Has ts i token.For → 0 < room → FindsBind ts (i + 1) (Ok first) → Lacks ts first.end token.Equal → FindsBinds ts (i + 1) first.end (Ok names) → FindsWord ts names.end words.In (Err f)
    → FindsStat ts room i (Err f)
for_without_in ts room i first names f stands less found absent more word =
    faulty_part ts room i for_parts f (for_opens ts i stands) less (turns_refuse ts (room - 1) (i + 1) for_parts names_parts first.end f (to_names ts (i + 1) first found absent) (λ v k deep. then_fails (more.1 v (item.expects words.In ∷ walk_parts k)) f (word v (walk_parts k))))

pub for_walk : (ts : List Token) (room i j : ℕ) (first : Bind) (names : Binds) (f : Fault) → Has ts i token.For → 0 < room → FindsBind ts (i + 1) (Ok first) → Lacks ts first.end token.Equal → FindsBinds ts (i + 1) first.end (Ok names) → FindsWord ts names.end words.In (Ok j)
    → FindsWalk ts (room - 1) j (Err f) → FindsStat ts room i (Err f)
for_walk ts room i j first names f stands less found absent more word walk = faulty_part ts room i for_parts f (for_opens ts i stands) less (turns_refuse ts (room - 1) (i + 1) for_parts walk_parts j f (to_walk ts (i + 1) j first names found absent more word) walk)

-- a numeric one
pub count_loop : (ts : List Token) (room i : ℕ) (first : Bind) (c : Count) (a e : Expr) (s : Stat) → Has ts i token.For → 0 < room → FindsBind ts (i + 1) (Ok first) → Has ts first.end token.Equal → FindsCount ts (room - 1) (first.end + 1) (Ok c)
    → a ≡ c.start → e ≡ c.limit → s ≡ stat_at ts i (stat.NumFor first.name a e c.step c.body) → FindsStat ts room i (Ok (record { stat = s; nest = c.nest + 1; end = c.end }))
count_loop ts room i first c a e s stands less found equal count same_start same_limit node =
    let parts = count.0.0 in
    let good : IsStat ts most i (stat_at ts i (stat.NumFor first.name c.start c.limit c.step c.body)) (parts.3 + 1) =
    num_for i first.end parts.0 parts.1 parts.2 parts.3 first.name c.start c.limit c.step c.body stands found.0.0 equal parts.4 parts.5 parts.6 parts.7 parts.8 parts.9 parts.10 in
    let whole : s ≡ stat_at ts i (stat.NumFor first.name c.start c.limit c.step c.body) = node ∙ ap (λ (x : Expr). stat_at ts i (stat.NumFor first.name x e c.step c.body)) same_start ∙ ap (λ (x : Expr). stat_at ts i (stat.NumFor first.name c.start x c.step c.body)) same_limit in (
      (subst (λ (x : ℕ). IsStat ts most i s x) (sym parts.11) (subst (λ (x : Stat). IsStat ts most i x (parts.3 + 1)) (sym whole) good), (omega (arith, less, count.0.1.0), omega (arith, found.0.1, count.0.1.1))),
      whole_node ts room i for_parts c.end c.nest (for_opens ts i stands) less (turns_pass ts (room - 1) (i + 1) for_parts count_parts (first.end + 1) c.end c.nest (to_count ts (i + 1) first found equal) count.1),
    )

-- a generic one
pub walk_loop : (ts : List Token) (room i j : ℕ) (first : Bind) (names : Binds) (w : Walk) (s : Stat) → Has ts i token.For → 0 < room → FindsBind ts (i + 1) (Ok first) → Lacks ts first.end token.Equal → FindsBinds ts (i + 1) first.end (Ok names)
    → FindsWord ts names.end words.In (Ok j) → FindsWalk ts (room - 1) j (Ok w) → s ≡ stat_at ts i (stat.GenFor names.names w.values w.body) → FindsStat ts room i (Ok (record { stat = s; nest = w.nest + 1; end = w.end }))
walk_loop ts room i j first names w s stands less found absent more word walk node =
    let moved = subst (λ (x : ℕ). FindsWalk ts (room - 1) x (Ok w)) word.0.1 walk in
    let parts = moved.0.0 in
    let good : IsStat ts most i (stat_at ts i (stat.GenFor names.names w.values w.body)) (parts.1 + 1) = gen_for i names.end parts.0 parts.1 names.names w.values w.body stands more.0.0 word.0.0 parts.2 parts.3 parts.4 parts.5 in (
      (subst (λ (x : ℕ). IsStat ts most i s x) (sym parts.6) (subst (λ (x : Stat). IsStat ts most i x (parts.1 + 1)) (sym node) good), (omega (arith, less, walk.0.1.0), omega (arith, found.0.1, more.0.1, word.0.1, walk.0.1.1))),
      whole_node ts room i for_parts w.end w.nest (for_opens ts i stands) less (turns_pass ts (room - 1) (i + 1) for_parts walk_parts j w.end w.nest (to_walk ts (i + 1) j first names found absent more word) walk.1),
    )
