-- Functions that statements name, by turns.
use Rattle.std.proofs.Common.{◌≡◌, ◌≤◌, ◌<◌, ◌+◌, ◌-◌, ℕ, max, List, [], ◌∷◌, ◌++◌, refl, sym, ap, ◌∙◌, subst, arith, Ok, Err}
use Rattle.byte_text.specs.declared.StrId.{StrId}
use Rattle.syntax_tree.specs.declared.token.Token.{Token}
use Rattle.syntax_tree.specs.declared.token.TokenKind.TheVariants as token
use Rattle.syntax_tree.specs.declared.tree.Expr.{Expr}
use Rattle.syntax_tree.specs.declared.tree.ExprKind as expr
use Rattle.syntax_tree.specs.declared.tree.FuncBody.{FuncBody}
use Rattle.syntax_tree.specs.declared.tree.Stat.{Stat}
use Rattle.syntax_tree.specs.declared.tree.StatKind as stat
use Rattle.syntax_tree.specs.Grammar.{IsStat, local_function, function_stat}
use Rattle.syntax_tree.specs.Nodes.{expr_at, stat_at, function_at}
use Rattle.syntax_tree.specs.Places.{kind_at, Has}
use Rattle.parse_steps.specs.Items as item
use Rattle.parse_steps.specs.Items.{Item, depth}
use Rattle.parse_steps.specs.Steps.{most, Leads}
use Rattle.parse_steps.specs.Turns.{turn, takes, next_reach}
use Rattle.expression_parser.specs.declared.fault.Fault.{Fault}
use Rattle.expression_parser.specs.declared.fault.Fault.TheVariants as fault
use Rattle.expression_parser.specs.declared.parts.Function.{Function}
use Rattle.luau_parser.specs.declared.parts.FunctionName.{FunctionName}
use Rattle.expression_parser.specs.Reading.{FindsName, FindsBody}
use Rattle.luau_parser.specs.Statements.{FindsStat, FindsFunctionName, assigns_function}
use Rattle.expression_parser.proofs.Leading.{then_leads, then_fails, staying, taking, deep_here, nest_to, place_to}
use Rattle.luau_parser.proofs.LocalTurns.{opens_local}

-- ---- "local" "function" Name body

-- the two words at place i
pub record OpensLocalFunction (ts : List Token) (i : ℕ) : Type 0 where
  pub stands : Has ts i token.Local
  pub word : Has ts (i + 1) token.Function

-- what is around the function
abbrev around : ℕ → List Item → List Item
around v k = item.wrap ∷ item.greater v ∷ item.stat_end ∷ k

word_turn : (ts : List Token) (i v : ℕ) (k : List Item) → Has ts i token.Function
    → turn (kind_at ts i) v item.local_what k ≡ takes (next_reach 0 k) 0 (item.a_name ∷ item.body ∷ around v k)
word_turn ts i v k stands = ap (λ t. turn t v item.local_what k) stands

pub no_room_for_local : (ts : List Token) (room i : ℕ) → OpensLocalFunction ts i → room ≤ 0
    → FindsStat ts room i (Err (fault.TooDeep (i + 1)))
no_room_for_local ts room i opens le = λ v k deep. then_fails (opens_local ts i v k opens.stands) (fault.TooDeep (i + 1))
    (deep_here (word_turn ts (i + 1) v k opens.word) (omega (arith, le, deep)))

to_local_name : (ts : List Token) (room i v : ℕ) (k : List Item) → OpensLocalFunction ts i → 0 < room → depth k + room ≡ most
    → Leads ts i v (item.block ∷ k) (i + 2) 0 (item.a_name ∷ item.body ∷ around v k)
to_local_name ts room i v k opens less deep =
    let inside = taking (word_turn ts (i + 1) v k opens.word) (omega (arith, less, deep)) tt in
    place_to (omega arith) (then_leads (opens_local ts i v k opens.stands) inside)

pub local_without_name : (ts : List Token) (room i : ℕ) (f : Fault) → OpensLocalFunction ts i → 0 < room → FindsName ts (i + 2) (Err f)
    → FindsStat ts room i (Err f)
local_without_name ts room i f opens less name = λ v k deep. then_fails (to_local_name ts room i v k opens less deep) f
    (name 0 (item.body ∷ around v k))

to_local_body : (ts : List Token) (room i v : ℕ) (k : List Item) (x : StrId) → OpensLocalFunction ts i → 0 < room
    → FindsName ts (i + 2) (Ok x) → depth k + room ≡ most → Leads ts i v (item.block ∷ k) (i + 3) 0 (item.body ∷ around v k)
to_local_body ts room i v k x opens less name deep = place_to (omega arith)
    (then_leads (to_local_name ts room i v k opens less deep) (name.1 0 (item.body ∷ around v k)))

pub local_without_body : (ts : List Token) (room i : ℕ) (x : StrId) (added : List StrId) (f : Fault) → OpensLocalFunction ts i → 0 < room
    → FindsName ts (i + 2) (Ok x) → FindsBody ts (room - 1) (i + 3) added (Err f) → FindsStat ts room i (Err f)
local_without_body ts room i x added f opens less name function = λ v k deep. then_fails
    (to_local_body ts room i v k x opens less name deep) f (function 0 (around v k) (omega (arith, less, deep)))

pub local_function_found : (ts : List Token) (room i : ℕ) (x : StrId) (added : List StrId) (f : Function) (g : FuncBody) (s : Stat)
    → OpensLocalFunction ts i → 0 < room → FindsName ts (i + 2) (Ok x) → added ≡ [] → FindsBody ts (room - 1) (i + 3) added (Ok f)
    → g ≡ function_at ts (i + 1) f.params f.vararg f.stats → s ≡ stat_at ts i (stat.LocalFunction x g) → FindsStat ts room i
    (Ok (record { stat = s; nest = f.nest + 1; end = f.end }))
local_function_found ts room i x added f g s opens less name none function made node =
    let xs : List StrId = function.0.0.0 in
    let params : f.params ≡ xs = function.0.0.2 ∙ ap (λ (ys : List StrId). ys ++ xs) none in
    let body : g ≡ function_at ts (i + 1) xs f.vararg f.stats = made ∙ ap (λ (ys : List StrId). function_at ts (i + 1) ys f.vararg f.stats)
    params in
    let whole : s ≡ stat_at ts i (stat.LocalFunction x (function_at ts (i + 1) xs f.vararg f.stats)) = node ∙ ap
    (λ (h : FuncBody). stat_at ts i (stat.LocalFunction x h)) body in
    let good : IsStat ts most i (stat_at ts i (stat.LocalFunction x (function_at ts (i + 1) xs f.vararg f.stats))) f.end = local_function i
    f.end x xs f.vararg f.stats opens.stands opens.word name.0 function.0.0.1 in (
      (
        subst (λ (y : Stat). IsStat ts most i y f.end) (sym whole) good,
        (omega (arith, less, function.0.1.0), omega (arith, function.0.1.1)),
      ),
      λ v k deep.
          let inside = then_leads (to_local_body ts room i v k x opens less name deep)
          (function.1 0 (around v k) (omega (arith, less, deep))) in
          nest_to (omega arith) (then_leads inside (then_leads (staying refl) (staying refl))),
    )

-- ---- "function" Name {"." Name} [":" Name] body

-- what is around the name, and around the function
abbrev around_name : ℕ → List Item → List Item
around_name v k = item.assigned_function ∷ item.greater v ∷ item.stat_end ∷ k

abbrev around_function : (nest v : ℕ) → List Item → List Item
around_function nest v k = item.wrap ∷ item.greater nest ∷ item.greater v ∷ item.stat_end ∷ k

assigns_turn : (ts : List Token) (i v : ℕ) (k : List Item) → Has ts i token.Function
    → turn (kind_at ts i) v item.block k ≡ takes (next_reach 0 k) 0 (item.a_name ∷ item.members ∷ around_name v k)
assigns_turn ts i v k stands = ap (λ t. turn t v item.block k) stands

pub no_room_for_function : (ts : List Token) (room i : ℕ) → Has ts i token.Function → room ≤ 0 → FindsStat ts room i (Err (fault.TooDeep i))
no_room_for_function ts room i stands le = λ v k deep. deep_here (assigns_turn ts i v k stands) (omega (arith, le, deep))

to_function_name : (ts : List Token) (room i v : ℕ) (k : List Item) → Has ts i token.Function → 0 < room → depth k + room ≡ most
    → Leads ts i v (item.block ∷ k) (i + 1) 0 (item.a_name ∷ item.members ∷ around_name v k)
to_function_name ts room i v k stands less deep = taking (assigns_turn ts i v k stands) (omega (arith, less, deep)) tt

pub function_without_name : (ts : List Token) (room i : ℕ) (f : Fault) → Has ts i token.Function → 0 < room
    → FindsFunctionName ts room (i + 1) (Err f) → FindsStat ts room i (Err f)
function_without_name ts room i f stands less name = λ v k deep. then_fails (to_function_name ts room i v k stands less deep) f
    (name 0 (around_name v k) deep)

to_function : (ts : List Token) (room i v : ℕ) (k : List Item) (n : FunctionName) → Has ts i token.Function → 0 < room
    → FindsFunctionName ts room (i + 1) (Ok n) → depth k + room ≡ most
    → Leads ts i v (item.block ∷ k) n.end 0 (item.body ∷ around_function n.nest v k)
to_function ts room i v k n stands less name deep = then_leads (to_function_name ts room i v k stands less deep)
    (then_leads (name.1 0 (around_name v k) deep) (staying refl))

pub function_without_body : (ts : List Token) (room i : ℕ) (n : FunctionName) (f : Fault) → Has ts i token.Function → 0 < room
    → FindsFunctionName ts room (i + 1) (Ok n) → FindsBody ts (room - 1) n.end n.added (Err f) → FindsStat ts room i (Err f)
function_without_body ts room i n f stands less name function = λ v k deep. then_fails (to_function ts room i v k n stands less name deep) f
    (function 0 (around_function n.nest v k) (omega (arith, less, deep)))

pub function_found : (ts : List Token) (room i : ℕ) (n : FunctionName) (f : Function) (s : Stat) (nest : ℕ) → Has ts i token.Function
    → 0 < room → FindsFunctionName ts room (i + 1) (Ok n) → FindsBody ts (room - 1) n.end n.added (Ok f)
    → s ≡ assigns_function ts i n.expr f → nest ≡ max n.nest (f.nest + 1) → FindsStat ts room i (Ok (record { stat = s; nest = nest; end = f.end }))
function_found ts room i n f s nest stands less name function node deepest =
    let xs : List StrId = function.0.0.0 in
    let value : Expr = expr_at ts i (expr.Function (function_at ts i (n.added ++ xs) f.vararg f.stats)) in
    let good : IsStat ts most i (stat_at ts i (stat.Assign (n.expr ∷ []) (value ∷ []))) f.end = function_stat i n.end f.end n.expr n.added
    xs f.vararg f.stats stands name.0.0 function.0.0.1 in (
      (
        subst (λ (y : Stat). IsStat ts most i y f.end) (sym (node ∙ ap (λ (ys : List StrId). stat_at ts i (stat.Assign (n.expr ∷ []) (expr_at ts i (expr.Function (function_at ts i ys f.vararg f.stats)) ∷ []))) function.0.0.2)) good,
        (omega (arith, less, deepest, name.0.1.0, function.0.1.0), omega (arith, name.0.1.1, function.0.1.1)),
      ),
      λ v k deep.
          let inside = then_leads (to_function ts room i v k n stands less name deep)
          (function.1 0 (around_function n.nest v k) (omega (arith, less, deep))) in
          nest_to (omega (arith, deepest)) (then_leads inside (then_leads (staying refl) (then_leads (staying refl) (staying refl)))),
    )
