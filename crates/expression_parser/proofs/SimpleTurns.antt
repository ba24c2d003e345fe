-- Expressions without operators, by what their first token begins.
use Rattle.std.proofs.Common.{◌≡◌, ◌≤◌, ◌<◌, ◌+◌, ◌-◌, ◌++◌, inl, inr, ℕ, max, List, [], ◌∷◌, refl, sym, ap, ◌∙◌, subst, arith, Ok, Err}
use Rattle.byte_text.specs.declared.StrId.{StrId}
use Rattle.syntax_tree.specs.declared.token.Token.{Token}
use Rattle.syntax_tree.specs.declared.tree.Expr.{Expr}
use Rattle.syntax_tree.specs.declared.tree.ExprKind as expr
use Rattle.syntax_tree.specs.declared.tree.FuncBody.{FuncBody}
use Rattle.syntax_tree.specs.Grammar.{in_paren, IsSimple, interp, function, choice}
use Rattle.syntax_tree.specs.Nodes.{expr_at, function_at}
use Rattle.syntax_tree.specs.Places.{kind_at, Has}
use Rattle.syntax_tree.specs.declared.token.TokenKind.TheVariants as token
use Rattle.parse_steps.specs.declared.classes.Beginning.{Beginning}
use Rattle.parse_steps.specs.declared.classes.Beginning.TheVariants as begins
use Rattle.type_skip.specs.declared.words.Word.{Word}
use Rattle.type_skip.specs.declared.words.Word.TheVariants as word
use Rattle.parse_steps.specs.Classes.{beginning}
use Rattle.parse_steps.specs.Items as item
use Rattle.parse_steps.specs.Items.{Item, depth, expression, in_expression}
use Rattle.parse_steps.specs.Turns.{turn, takes, simple_turn, next_reach}
use Rattle.parse_steps.specs.Steps.{most, Leads}
use Rattle.expression_parser.specs.declared.fault.Fault.{Fault}
use Rattle.expression_parser.specs.declared.fault.Fault.TheVariants as fault
use Rattle.expression_parser.specs.declared.parts.Choices.{Choices}
use Rattle.expression_parser.specs.declared.parts.Function.{Function}
use Rattle.expression_parser.specs.declared.parts.Pieces.{Pieces}
use Rattle.expression_parser.specs.Reading.{Fails, FindsBody}
use Rattle.expression_parser.specs.Inner.{IsLeaf, FindsSimple, FindsPieces, FindsChoices}
use Rattle.expression_parser.proofs.ClassesToTokens.{begins_pieces, begins_function}
use Rattle.expression_parser.proofs.Leading.{then_leads, then_fails, staying, taking, stuck_here, deep_here, nest_to}

-- ---- what the first token does

pub begins_so : (ts : List Token) (i : ℕ) (b : Beginning) (k : List Item) → beginning (kind_at ts i) ≡ b
    → turn (kind_at ts i) 0 item.simple k ≡ simple_turn b 0 k
begins_so ts i b k e = ap (λ (x : Beginning). simple_turn x 0 k) e

-- a node that it opens: there is room for it, or none
pub opens_node : (ts : List Token) (i room u : ℕ) (k more : List Item)
    → turn (kind_at ts i) 0 item.simple k ≡ takes (next_reach 0 k) u more → 0 < room → depth k + room ≡ most
    → Leads ts i 0 (item.simple ∷ k) (i + 1) u more
opens_node ts i room u k more e less deep = taking e (omega (arith, less, deep)) tt

pub no_room : (ts : List Token) (i room u : ℕ) (k more : List Item)
    → turn (kind_at ts i) 0 item.simple k ≡ takes (next_reach 0 k) u more → room ≤ 0 → depth k + room ≡ most
    → Fails ts i 0 (item.simple ∷ k) (fault.TooDeep i)
no_room ts i room u k more e le deep = deep_here e (omega (arith, le, deep))

-- a token that begins none
pub nothing_begins : (ts : List Token) (room i : ℕ) → beginning (kind_at ts i) ≡ begins.Nothing
    → FindsSimple ts room i (Err (fault.Unexpected i))
nothing_begins ts room i b = λ v k deep. stuck_here (begins_so ts i begins.Nothing k b) (λ clash. absurd cc)

pub no_room_for_whole : (ts : List Token) (room i : ℕ) → beginning (kind_at ts i) ≡ begins.Whole → room ≤ 0
    → FindsSimple ts room i (Err (fault.TooDeep i))
no_room_for_whole ts room i b le = λ v k deep. no_room ts i room 1 k k (begins_so ts i begins.Whole k b) le deep

pub no_room_for_parenthesis : (ts : List Token) (room i : ℕ) → beginning (kind_at ts i) ≡ begins.Paren → room ≤ 0
    → FindsSimple ts room i (Err (fault.TooDeep i))
no_room_for_parenthesis ts room i b le =
    λ v k deep.
    no_room ts i room 0 k (expression ∷ item.expects word.CloseParen ∷ item.wrap ∷ item.suffixes in_paren in_expression ∷ k)
    (begins_so ts i begins.Paren k b) le deep

-- a node without parts
pub leaf_run : (ts : List Token) (i nest room : ℕ) (k : List Item) → IsLeaf ts i nest → nest ≤ room → depth k + room ≡ most
    → Leads ts i 0 (item.simple ∷ k) (i + 1) nest k
leaf_run ts i nest room k (inl l) le deep = nest_to (sym l.1) (taking (begins_so ts i begins.Leaf k l.0) (omega arith) tt)
leaf_run ts i nest room k (inr l) le deep = nest_to (sym l.1) (taking (begins_so ts i begins.Whole k l.0) (omega (arith, le, deep, l.1)) tt)

-- ---- a part with a word behind it, in a node

pub wrapped_run : (ts : List Token) (w : Word) (room i n j end : ℕ) (k : List Item) → 0 < room → depth k + room ≡ most
    → ((v : ℕ) (k : List Item) → depth k + (room - 1) ≡ most → Leads ts i v (expression ∷ k) j (max v n) k)
    → ((v : ℕ) (k : List Item) → Leads ts j v (item.expects w ∷ k) end v k)
    → Leads ts i 0 (expression ∷ item.expects w ∷ item.wrap ∷ k) end (n + 1) k
wrapped_run ts w room i n j end k less deep inner behind =
    nest_to (omega arith)
    (then_leads (inner 0 (item.expects w ∷ item.wrap ∷ k) (omega (arith, less, deep))) (then_leads (behind (max 0 n) (item.wrap ∷ k)) (staying refl)))

-- ---- nodes that the first token opens

-- where its parts stop
pub fault_within : (ts : List Token) (i room : ℕ) (f : Fault) (more : List Item → List Item)
    → ((k : List Item) → turn (kind_at ts i) 0 item.simple k ≡ takes (next_reach 0 k) 0 (more (item.wrap ∷ k))) → 0 < room
    → ((v : ℕ) (k : List Item) → depth k + (room - 1) ≡ most → Fails ts (i + 1) v (more k) f) → FindsSimple ts room i (Err f)
fault_within ts i room f more e less fails =
    λ v k deep.
    then_fails (opens_node ts i room 0 k (more (item.wrap ∷ k)) (e k) less deep) f
    (fails 0 (item.wrap ∷ k) (omega (arith, less, deep)))

-- through all of its parts
pub run_within : (ts : List Token) (i room n j : ℕ) (more : List Item → List Item)
    → ((k : List Item) → turn (kind_at ts i) 0 item.simple k ≡ takes (next_reach 0 k) 0 (more (item.wrap ∷ k))) → 0 < room
    → ((v : ℕ) (k : List Item) → depth k + (room - 1) ≡ most → Leads ts (i + 1) v (more k) j (max v n) k) → (k : List Item)
    → depth k + room ≡ most → Leads ts i 0 (item.simple ∷ k) j (n + 1) k
run_within ts i room n j more e less inner k deep =
    nest_to (omega arith)
    (then_leads (opens_node ts i room 0 k (more (item.wrap ∷ k)) (e k) less deep) (then_leads (inner 0 (item.wrap ∷ k) (omega (arith, less, deep))) (staying refl)))

pub too_deep : (ts : List Token) (i room : ℕ) (more : List Item → List Item)
    → ((k : List Item) → turn (kind_at ts i) 0 item.simple k ≡ takes (next_reach 0 k) 0 (more (item.wrap ∷ k))) → room ≤ 0
    → FindsSimple ts room i (Err (fault.TooDeep i))
too_deep ts i room more e le = λ v k deep. no_room ts i room 0 k (more (item.wrap ∷ k)) (e k) le deep

abbrev pub interp_items : List Item → List Item
interp_items k = expression ∷ item.pieces ∷ k

abbrev pub function_items : List Item → List Item
function_items k = item.body ∷ k

abbrev pub choice_items : List Item → List Item
choice_items k = expression ∷ item.expects word.Then ∷ expression ∷ item.choice_more ∷ k

pub interp_found : (ts : List Token) (room i : ℕ) (x : StrId) (p : Pieces) (e : Expr) → beginning (kind_at ts i) ≡ begins.Pieces x
    → 0 < room → FindsPieces ts (room - 1) (i + 1) x (Ok p) → e ≡ expr_at ts i (expr.Interp p.texts p.values)
    → FindsSimple ts room i (Ok (record { expr = e; nest = p.nest + 1; end = p.end }))
interp_found ts room i x p e b less found node =
    let read = found.0.0 in
    let same : e ≡ expr_at ts i (expr.Interp (x ∷ read.0) p.values) = node ∙ ap (λ (l : List StrId). expr_at ts i (expr.Interp l p.values)) read.1 in
    let whole : IsSimple ts most i (expr_at ts i (expr.Interp (x ∷ read.0) p.values)) p.end = interp i p.end x read.0 p.values (begins_pieces (kind_at ts i) x b) read.2 in (
      (subst (λ (a : Expr). IsSimple ts most i a p.end) (sym same) whole, (omega (arith, less, found.0.1.0), omega (arith, found.0.1.1))),
      λ v k deep. run_within ts i room p.nest p.end interp_items (λ k. begins_so ts i (begins.Pieces x) k b) less found.1 k deep,
    )

pub function_found : (ts : List Token) (room i : ℕ) (added : List StrId) (f : Function) (func : FuncBody) (e : Expr)
    → beginning (kind_at ts i) ≡ begins.Function → 0 < room → added ≡ [] → FindsBody ts (room - 1) (i + 1) added (Ok f)
    → func ≡ function_at ts i f.params f.vararg f.stats → e ≡ expr_at ts i (expr.Function func)
    → FindsSimple ts room i (Ok (record { expr = e; nest = f.nest + 1; end = f.end }))
function_found ts room i added f func e b less none found made node =
    let read = found.0.0 in
    let names : f.params ≡ read.0 = read.2 ∙ ap (λ (l : List StrId). l ++ read.0) none in
    let same : e ≡ expr_at ts i (expr.Function (function_at ts i read.0 f.vararg f.stats)) = node ∙ (ap (λ (a : FuncBody). expr_at ts i (expr.Function a)) made ∙ ap (λ (l : List StrId). expr_at ts i (expr.Function (function_at ts i l f.vararg f.stats))) names) in
    let whole : IsSimple ts most i (expr_at ts i (expr.Function (function_at ts i read.0 f.vararg f.stats))) f.end = function i f.end read.0 f.vararg f.stats (begins_function (kind_at ts i) b) read.1 in (
      (subst (λ (a : Expr). IsSimple ts most i a f.end) (sym same) whole, (omega (arith, less, found.0.1.0), omega (arith, found.0.1.1))),
      λ v k deep. run_within ts i room f.nest f.end function_items (λ k. begins_so ts i begins.Function k b) less found.1 k deep,
    )

pub choice_found : (ts : List Token) (room i : ℕ) (p : Choices) (boxed e : Expr) → Has ts i token.If → 0 < room
    → FindsChoices ts (room - 1) (i + 1) (Ok p) → boxed ≡ p.other → e ≡ expr_at ts i (expr.If p.arms boxed)
    → FindsSimple ts room i (Ok (record { expr = e; nest = p.nest + 1; end = p.end }))
choice_found ts room i p boxed e there less found same made =
    let node : e ≡ expr_at ts i (expr.If p.arms p.other) = made ∙ ap (λ (o : Expr). expr_at ts i (expr.If p.arms o)) same in
    let whole : IsSimple ts most i (expr_at ts i (expr.If p.arms p.other)) p.end = choice i p.end p.arms p.other there found.0.0 in (
      (subst (λ (a : Expr). IsSimple ts most i a p.end) (sym node) whole, (omega (arith, less, found.0.1.0), omega (arith, found.0.1.1))),
      λ v k deep. run_within ts i room p.nest p.end choice_items (λ k. begins_so ts i begins.Choice k (ap beginning there)) less found.1 k deep,
    )
