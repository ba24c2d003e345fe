-- The declaration of local names, by turns.
use Rattle.std.proofs.Common.{◌≡◌, ◌+◌, ℕ, List, [], ◌∷◌, sym, ap, ◌∙◌, subst, arith, Ok, Err}
use Rattle.syntax_tree.specs.declared.token.Token.{Token}
use Rattle.syntax_tree.specs.declared.token.TokenKind.TheVariants as token
use Rattle.syntax_tree.specs.declared.tree.Expr.{Expr}
use Rattle.syntax_tree.specs.declared.tree.Stat.{Stat}
use Rattle.syntax_tree.specs.declared.tree.StatKind as stat
use Rattle.syntax_tree.specs.Grammar.{IsStat, bare_local, local}
use Rattle.syntax_tree.specs.Nodes.{stat_at}
use Rattle.syntax_tree.specs.Places.{Has, Lacks}
use Rattle.type_skip.specs.declared.words.Word.TheVariants as word
use Rattle.parse_steps.specs.Items as item
use Rattle.parse_steps.specs.Items.{Item, depth, expression}
use Rattle.parse_steps.specs.Steps.{most, Leads}
use Rattle.parse_steps.specs.Turns.{turn, stays, takes, next_reach}
use Rattle.expression_parser.specs.declared.fault.Fault.{Fault}
use Rattle.expression_parser.specs.declared.parts.Bind.{Bind}
use Rattle.expression_parser.specs.declared.parts.Binds.{Binds}
use Rattle.expression_parser.specs.declared.parts.Parts.{Parts}
use Rattle.expression_parser.specs.Reading.{FindsBind, FindsBinds, FindsList}
use Rattle.luau_parser.specs.Statements.{FindsStat}
use Rattle.expression_parser.proofs.Leading.{then_leads, then_fails, staying, taking, nest_to}
use Rattle.expression_parser.proofs.WordTurns.{at_word, no_word}

-- the word `local` at place i, behind which no `function` stands
pub record OpensLocal (ts : List Token) (i : ℕ) : Type 0 where
  pub stands : Has ts i token.Local
  pub no_function : Lacks ts (i + 1) token.Function

-- what is behind the names
abbrev behind_names : List Item → List Item
behind_names k = item.local_values ∷ item.stat_end ∷ k

pub opens_local : (ts : List Token) (i v : ℕ) (k : List Item) → Has ts i token.Local
    → Leads ts i v (item.block ∷ k) (i + 1) v (item.local_what ∷ k)
opens_local ts i v k stands = taking (ap (λ t. turn t v item.block k) stands) (omega arith) tt

to_names : (ts : List Token) (i v : ℕ) (k : List Item) → OpensLocal ts i
    → Leads ts i v (item.block ∷ k) (i + 1) v (item.bind ∷ item.bind_more ∷ behind_names k)
to_names ts i v k opens =
    let function_turn = takes (next_reach 0 k) 0 (item.a_name ∷ item.body ∷ item.wrap ∷ item.greater v ∷ item.stat_end ∷ k) in
    let names_turn = stays v (item.bind ∷ item.bind_more ∷ behind_names k) in
    then_leads (opens_local ts i v k opens.stands) (staying (no_word ts (i + 1) word.Function function_turn names_turn opens.no_function))

pub faulty_local : (ts : List Token) (room i : ℕ) (f : Fault) → OpensLocal ts i → FindsBind ts (i + 1) (Err f) → FindsStat ts room i (Err f)
faulty_local ts room i f opens first = λ v k deep. then_fails (to_names ts i v k opens) f (first v (item.bind_more ∷ behind_names k))

to_more : (ts : List Token) (i v : ℕ) (k : List Item) (b : Bind) → OpensLocal ts i → FindsBind ts (i + 1) (Ok b)
    → Leads ts i v (item.block ∷ k) b.end v (item.bind_more ∷ behind_names k)
to_more ts i v k b opens first = then_leads (to_names ts i v k opens) (first.1 v (item.bind_more ∷ behind_names k))

pub faulty_locals : (ts : List Token) (room i : ℕ) (b : Bind) (f : Fault) → OpensLocal ts i → FindsBind ts (i + 1) (Ok b)
    → FindsBinds ts (i + 1) b.end (Err f) → FindsStat ts room i (Err f)
faulty_locals ts room i b f opens first more = λ v k deep. then_fails (to_more ts i v k b opens first) f (more v (behind_names k))

-- ---- the names

pub record NamesLocals (ts : List Token) (i : ℕ) (xs : Binds) : Type 0 where
  pub opens : OpensLocal ts i
  pub first : Bind
  pub one : FindsBind ts (i + 1) (Ok first)
  pub more : FindsBinds ts (i + 1) first.end (Ok xs)

to_behind : (ts : List Token) (i v : ℕ) (k : List Item) (xs : Binds) → NamesLocals ts i xs
    → Leads ts i v (item.block ∷ k) xs.end v (behind_names k)
to_behind ts i v k xs names = then_leads (to_more ts i v k names.first names.opens names.one) (names.more.1 v (behind_names k))

-- no values
pub bare_found : (ts : List Token) (room i : ℕ) (xs : Binds) (values : List Expr) (s : Stat) → NamesLocals ts i xs
    → Lacks ts xs.end token.Equal → values ≡ [] → s ≡ stat_at ts i (stat.Local xs.names values)
    → FindsStat ts room i (Ok (record { stat = s; nest = 0; end = xs.end }))
bare_found ts room i xs values s names absent none node =
    let whole : s ≡ stat_at ts i (stat.Local xs.names []) = node ∙ ap (λ (es : List Expr). stat_at ts i (stat.Local xs.names es)) none in
    let good : IsStat ts most i (stat_at ts i (stat.Local xs.names [])) xs.end = bare_local i xs.end xs.names names.opens.stands
    names.more.0.0 absent in (
      (subst (λ (x : Stat). IsStat ts most i x xs.end) (sym whole) good, (omega arith, omega (arith, names.one.0.1, names.more.0.1))),
      λ v k deep.
          let values_turn = takes 0 v (expression ∷ item.list_more ∷ item.stat_end ∷ k) in
          let rest = staying (no_word ts xs.end word.Equal values_turn (stays v (item.stat_end ∷ k)) absent) in
          nest_to (omega arith) (then_leads (to_behind ts i v k xs names) rest),
    )

-- values
to_values : (ts : List Token) (i v : ℕ) (k : List Item) (xs : Binds) → NamesLocals ts i xs → Has ts xs.end token.Equal
    → Leads ts i v (item.block ∷ k) (xs.end + 1) v (expression ∷ item.list_more ∷ item.stat_end ∷ k)
to_values ts i v k xs names stands =
    let values_turn = takes 0 v (expression ∷ item.list_more ∷ item.stat_end ∷ k) in
    let to_list = at_word ts xs.end word.Equal values_turn (stays v (item.stat_end ∷ k)) stands in
    then_leads (to_behind ts i v k xs names) (taking to_list (omega arith) tt)

pub faulty_values : (ts : List Token) (room i : ℕ) (xs : Binds) (f : Fault) → NamesLocals ts i xs → Has ts xs.end token.Equal
    → FindsList ts room (xs.end + 1) (Err f) → FindsStat ts room i (Err f)
faulty_values ts room i xs f names stands values = λ v k deep. then_fails (to_values ts i v k xs names stands) f
    (values v (item.stat_end ∷ k) deep)

pub local_found : (ts : List Token) (room i : ℕ) (xs : Binds) (es : Parts) (s : Stat) → NamesLocals ts i xs → Has ts xs.end token.Equal
    → FindsList ts room (xs.end + 1) (Ok es) → s ≡ stat_at ts i (stat.Local xs.names es.list)
    → FindsStat ts room i (Ok (record { stat = s; nest = es.nest; end = es.end }))
local_found ts room i xs es s names stands values node =
    let good : IsStat ts most i (stat_at ts i (stat.Local xs.names es.list)) es.end = local i xs.end es.end xs.names es.list
    names.opens.stands names.more.0.0 stands values.0.0 in (
      (
        subst (λ (x : Stat). IsStat ts most i x es.end) (sym node) good,
        (values.0.1.0, omega (arith, names.one.0.1, names.more.0.1, values.0.1.1)),
      ),
      λ v k deep. then_leads (to_values ts i v k xs names stands) (values.1 v (item.stat_end ∷ k) deep),
    )
