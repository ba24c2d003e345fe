-- Statements that begin with a name, by turns: `continue`, definitions of types, calls and assignments.
use Rattle.std.proofs.Common.{◌≡◌, ◌+◌, ℕ, max, true, nat_eq, IsTrue, List, ◌∷◌, refl, ap, ◌∙◌, subst, arith, Some, Result, Ok, Err}
use Rattle.byte_text.specs.declared.StrId.{StrId}
use Rattle.syntax_tree.specs.declared.token.Token.{Token}
use Rattle.syntax_tree.specs.declared.token.TokenKind.TheVariants as token
use Rattle.syntax_tree.specs.declared.tree.Stat.{Stat}
use Rattle.syntax_tree.specs.declared.tree.StatKind as stat
use Rattle.syntax_tree.specs.Grammar.{in_target, IsTypeDefinition, type_definition, IsTypeStat, private_type, exported_type}
use Rattle.syntax_tree.specs.Grammar as grammar
use Rattle.syntax_tree.specs.Nodes.{stat_at}
use Rattle.syntax_tree.specs.Places.{kind_at, is_name, is_named, Has}
use Rattle.syntax_tree.specs.Types.{IsGenerics}
use Rattle.syntax_tree.specs.Words.{continue_name, type_name, export_name, opens_type}
use Rattle.type_skip.specs.declared.words.Word.TheVariants as word
use Rattle.parse_steps.specs.Items as item
use Rattle.parse_steps.specs.Items.{Item, first_target, depth}
use Rattle.parse_steps.specs.Classes as classes
use Rattle.parse_steps.specs.Steps.{most, Leads}
use Rattle.parse_steps.specs.Turns.{type_items}
use Rattle.expression_parser.specs.declared.fault.Fault.{Fault}
use Rattle.expression_parser.specs.declared.parts.Prefix.{Prefix}
use Rattle.luau_parser.specs.declared.parts.Statement.{Statement}
use Rattle.luau_parser.specs.declared.parts.Step.TheVariants as step
use Rattle.expression_parser.specs.Reading.{FindsGenerics, FindsWord, FindsType, FindsName, FindsSuffixes, IsNamed, ending_of}
use Rattle.luau_parser.specs.Statements.{may_end, FindsLastEnd, IsTypeRest, FindsTypeRest, FindsStep, FindsPrefixStat, IsPrefixRead, IsPlainName, IsBehindSemicolon}
use Rattle.expression_parser.proofs.Leading.{then_leads, then_fails, staying, nest_to, place_to}
use Rattle.luau_parser.proofs.LastTurns.{stat_ends}
use Rattle.luau_parser.proofs.NameTests.{name_begins, continue_ends, continue_goes_on, says_continue, same_number, type_begins, export_begins, name_there, type_there, says_type, says_export, plain_begins, says_no_type, says_no_continue}

-- ---- the definition of a type behind its name

pub generics_fail : (ts : List Token) (i : ℕ) (f : Fault) → FindsGenerics ts i (Err f) → FindsTypeRest ts i (Err f)
generics_fail ts i f generics = λ v k. generics v (item.expects word.Equal ∷ item.a_type ∷ k)

pub equal_fails : (ts : List Token) (i h : ℕ) (f : Fault) → FindsGenerics ts i (Ok h) → FindsWord ts h word.Equal (Err f)
    → FindsTypeRest ts i (Err f)
equal_fails ts i h f generics equal = λ v k.
    then_fails (generics.1 v (item.expects word.Equal ∷ item.a_type ∷ k)) f (equal v (item.a_type ∷ k))

pub type_rest_found : (ts : List Token) (i h l : ℕ) (r : Result ℕ Fault) → FindsGenerics ts i (Ok h) → FindsWord ts h word.Equal (Ok l)
    → FindsType ts l r → FindsTypeRest ts i r
type_rest_found ts i h l (Ok j) generics equal found =
    let t = rw equal.0.1 at found.0.0 in (
      ((h, generics.0.0, equal.0.0, t), omega (arith, generics.0.1, equal.0.1, found.0.1)),
      λ v k. then_leads (generics.1 v (item.expects word.Equal ∷ item.a_type ∷ k)) (then_leads (equal.1 v (item.a_type ∷ k)) (found.1 v k)),
    )
type_rest_found ts i h l (Err f) generics equal found = λ v k.
    then_fails (then_leads (generics.1 v (item.expects word.Equal ∷ item.a_type ∷ k)) (equal.1 v (item.a_type ∷ k))) f (found v k)

-- ---- `continue`

pub continue_found : (ts : List Token) (room i end : ℕ) (x : StrId) (s : Stat) → Has ts i (token.Name x) → nat_eq x.0 continue_name.0 ≡ true
    → s ≡ stat_at ts i stat.Continue → FindsLastEnd ts (i + 1) (Ok end)
    → FindsStep ts room i (Ok (step.Last (record { stat = s; nest = 0; end = end })))
continue_found ts room i end x s h named made found = rw made (
  (
    (i + 1, grammar.continue i (says_continue ts i end x h named found.0.0 found.0.1), found.0.0, found.0.1),
    (omega arith, omega (arith, found.0.2)),
  ),
  λ v k deep. nest_to (omega arith) (then_leads (name_begins ts i v k x h) (continue_ends ts v k x named found.0.0 found.0.1)),
)

pub continue_fails : (ts : List Token) (room i : ℕ) (x : StrId) (f : Fault) → Has ts i (token.Name x) → nat_eq x.0 continue_name.0 ≡ true
    → may_end (kind_at ts (i + 1)) ≡ true → FindsLastEnd ts (i + 1) (Err f) → FindsStep ts room i (Err f)
continue_fails ts room i x f h named e found = λ v k deep.
    then_fails (name_begins ts i v k x h) f (continue_goes_on ts (i + 1) v k x named e f (found v k))

-- ---- definitions of types

to_type : (ts : List Token) (i v : ℕ) (k : List Item) (x : StrId) → Has ts i (token.Name x) → nat_eq x.0 type_name.0 ≡ true
    → is_name (kind_at ts (i + 1)) ≡ true → Leads ts i v (item.block ∷ k) (i + 2) v (type_items k)
to_type ts i v k x h named e =
    let y = name_there (kind_at ts (i + 1)) e in
    place_to (omega arith)
    (then_leads (name_begins ts i v k x h) (type_begins ts (i + 1) v k x y.0 (same_number x type_name named) (ap classes.name_of y.1)))

is_type_stat : (ts : List Token) (i stop : ℕ) (x : StrId) → Has ts i (token.Name x) → nat_eq x.0 type_name.0 ≡ true
    → is_name (kind_at ts (i + 1)) ≡ true → IsTypeRest ts (i + 2) stop → IsTrue (opens_type ts i) × IsTypeStat ts most i stop
is_type_stat ts i stop x h named e rest =
    let y = name_there (kind_at ts (i + 1)) e in
    let there = h ∙ ap (λ (z : StrId). Some (token.Name z)) (same_number x type_name named) in
    let generics = subst (λ (p : ℕ). IsGenerics ts most p rest.0) (omega arith) rest.1 in
    (says_type ts i y.0 there y.1, private_type i stop there (type_definition (i + 1) rest.0 stop y.0 y.1 generics rest.2 rest.3))

pub type_found : (ts : List Token) (room i stop end : ℕ) (x : StrId) → Has ts i (token.Name x) → nat_eq x.0 type_name.0 ≡ true
    → is_name (kind_at ts (i + 1)) ≡ true → FindsTypeRest ts (i + 2) (Ok stop) → IsBehindSemicolon ts stop end
    → FindsStep ts room i (Ok (step.Types end))
type_found ts room i stop end x h named e found behind =
    let t = is_type_stat ts i stop x h named e found.0.0 in (
      ((t.0, (stop, t.1, behind.0)), omega (arith, found.0.1, behind.1)),
      λ v k deep. then_leads (to_type ts i v k x h named e) (then_leads (found.1 v (item.stat_end ∷ k)) (stat_ends ts v k behind.0)),
    )

pub type_fails : (ts : List Token) (room i : ℕ) (x : StrId) (f : Fault) → Has ts i (token.Name x) → nat_eq x.0 type_name.0 ≡ true
    → is_name (kind_at ts (i + 1)) ≡ true → FindsTypeRest ts (i + 2) (Err f) → FindsStep ts room i (Err f)
type_fails ts room i x f h named e found = λ v k deep. then_fails (to_type ts i v k x h named e) f (found v (item.stat_end ∷ k))

-- ---- exported ones

to_export : (ts : List Token) (i v : ℕ) (k : List Item) (x : StrId) → Has ts i (token.Name x) → nat_eq x.0 export_name.0 ≡ true
    → is_named type_name (kind_at ts (i + 1)) ≡ true → Leads ts i v (item.block ∷ k) (i + 2) v (item.a_name ∷ type_items k)
to_export ts i v k x h named e =
    place_to (omega arith) (then_leads (name_begins ts i v k x h) (export_begins ts (i + 1) v k x (same_number x export_name named) e))

to_exported : (ts : List Token) (i v : ℕ) (k : List Item) (x y : StrId) → Has ts i (token.Name x) → nat_eq x.0 export_name.0 ≡ true
    → is_named type_name (kind_at ts (i + 1)) ≡ true → FindsName ts (i + 2) (Ok y) → Leads ts i v (item.block ∷ k) (i + 3) v (type_items k)
to_exported ts i v k x y h named e name = place_to (omega arith) (then_leads (to_export ts i v k x h named e) (name.1 v (type_items k)))

is_exported_type : (ts : List Token) (i stop : ℕ) (x y : StrId) → Has ts i (token.Name x) → nat_eq x.0 export_name.0 ≡ true
    → is_named type_name (kind_at ts (i + 1)) ≡ true → Has ts (i + 2) (token.Name y) → IsTypeRest ts (i + 3) stop
    → IsTrue (opens_type ts i) × IsTypeStat ts most i stop
is_exported_type ts i stop x y h named e name rest =
    let there = h ∙ ap (λ (z : StrId). Some (token.Name z)) (same_number x export_name named) in
    let generics = subst (λ (p : ℕ). IsGenerics ts most p rest.0) (omega arith) rest.1 in (
      says_export ts i there e,
      exported_type i stop there (type_there (kind_at ts (i + 1)) e)
          (type_definition (i + 2) rest.0 stop y name generics rest.2 rest.3),
    )

pub export_found : (ts : List Token) (room i stop end : ℕ) (x y : StrId) → Has ts i (token.Name x) → nat_eq x.0 export_name.0 ≡ true
    → is_named type_name (kind_at ts (i + 1)) ≡ true → FindsName ts (i + 2) (Ok y) → FindsTypeRest ts (i + 3) (Ok stop)
    → IsBehindSemicolon ts stop end → FindsStep ts room i (Ok (step.Types end))
export_found ts room i stop end x y h named e name found behind =
    let t = is_exported_type ts i stop x y h named e name.0 found.0.0 in (
      ((t.0, (stop, t.1, behind.0)), omega (arith, found.0.1, behind.1)),
      λ v k deep. then_leads (to_exported ts i v k x y h named e name)
          (then_leads (found.1 v (item.stat_end ∷ k)) (stat_ends ts v k behind.0)),
    )

pub export_without_name : (ts : List Token) (room i : ℕ) (x : StrId) (f : Fault) → Has ts i (token.Name x) → nat_eq x.0 export_name.0 ≡ true
    → is_named type_name (kind_at ts (i + 1)) ≡ true → FindsName ts (i + 2) (Err f) → FindsStep ts room i (Err f)
export_without_name ts room i x f h named e name = λ v k deep. then_fails (to_export ts i v k x h named e) f (name v (type_items k))

pub export_fails : (ts : List Token) (room i : ℕ) (x y : StrId) (f : Fault) → Has ts i (token.Name x) → nat_eq x.0 export_name.0 ≡ true
    → is_named type_name (kind_at ts (i + 1)) ≡ true → FindsName ts (i + 2) (Ok y) → FindsTypeRest ts (i + 3) (Err f)
    → FindsStep ts room i (Err f)
export_fails ts room i x y f h named e name found = λ v k deep.
    then_fails (to_exported ts i v k x y h named e name) f (found v (item.stat_end ∷ k))

-- ---- calls and assignments

to_suffixes : (ts : List Token) (i v : ℕ) (k : List Item) (x : StrId) → Has ts i (token.Name x) → IsPlainName x (kind_at ts (i + 1))
    → Leads ts i v (item.block ∷ k) (i + 1) 0 (item.suffixes in_target first_target ∷ item.greater v ∷ item.stat_end ∷ k)
to_suffixes ts i v k x h plain = then_leads (name_begins ts i v k x h) (plain_begins ts (i + 1) v k x plain)

pub prefix_read : (ts : List Token) (room i : ℕ) (x : StrId) (first p : Prefix) → Has ts i (token.Name x) → IsNamed ts i x first
    → FindsSuffixes ts room i first (Ok p) → IsPrefixRead ts room i p.part (ending_of p.ending)
prefix_read ts room i x first p h named found =
    let good = (found first_target).0 in
    let all = rw (named.0, named.2, named.3) at good.0.0 in
    record {
      prefix = grammar.name i p.part.end x p.part.expr (ending_of p.ending) h all;
      whole = good.0.1;
      nest = good.1;
      onward =
          omega (arith, good.2, named.2);
    }

pub suffixes_fail : (ts : List Token) (room i : ℕ) (x : StrId) (first : Prefix) (f : Fault) → Has ts i (token.Name x)
    → IsPlainName x (kind_at ts (i + 1)) → IsNamed ts i x first → FindsSuffixes ts room i first (Err f) → FindsStep ts room i (Err f)
suffixes_fail ts room i x first f h plain named found = λ v k deep.
    let fails = found first_target v (item.greater v ∷ item.stat_end ∷ k) deep in
    then_fails (to_suffixes ts i v k x h plain) f (rw (named.1, named.2, named.3) at fails)

to_prefix : (ts : List Token) (room i : ℕ) (x : StrId) (first p : Prefix) → Has ts i (token.Name x) → IsPlainName x (kind_at ts (i + 1))
    → IsNamed ts i x first → FindsSuffixes ts room i first (Ok p)
    → (v : ℕ) (k : List Item) → depth k + room ≡ most
    → Leads ts i v (item.block ∷ k) p.part.end p.part.nest
    (item.suffixes (ending_of p.ending) first_target ∷ item.greater v ∷ item.stat_end ∷ k)
to_prefix ts room i x first p h plain named found v k deep =
    let runs = (found first_target).1 v (item.greater v ∷ item.stat_end ∷ k) deep in
    then_leads (to_suffixes ts i v k x h plain) (rw (named.1, named.2, named.3) at runs)

pub prefix_stat_fails : (ts : List Token) (room i : ℕ) (x : StrId) (first p : Prefix) (f : Fault) → Has ts i (token.Name x)
    → IsPlainName x (kind_at ts (i + 1)) → IsNamed ts i x first → FindsSuffixes ts room i first (Ok p)
    → FindsPrefixStat ts room i p.part (ending_of p.ending) (Err f) → FindsStep ts room i (Err f)
prefix_stat_fails ts room i x first p f h plain named found stat = λ v k deep.
    then_fails (to_prefix ts room i x first p h plain named found v k deep) f (stat v (item.greater v ∷ item.stat_end ∷ k) deep)

pub prefix_stat_found : (ts : List Token) (room i end : ℕ) (x : StrId) (first p : Prefix) (s : Statement) → Has ts i (token.Name x)
    → IsPlainName x (kind_at ts (i + 1)) → IsNamed ts i x first → FindsSuffixes ts room i first (Ok p)
    → FindsPrefixStat ts room i p.part (ending_of p.ending) (Ok s) → IsBehindSemicolon ts s.end end
    → FindsStep ts room i (Ok (step.Stat (record { stat = s.stat; nest = s.nest; end = end })))
prefix_stat_found ts room i end x first p s h plain named found stat behind = (
  (
    (says_no_type ts i x h plain, says_no_continue ts i x h plain, (s.end, stat.0.0, behind.0)),
    (stat.0.1.0, omega (arith, stat.0.1.1, behind.1)),
  ),
  λ v k deep.
      then_leads (to_prefix ts room i x first p h plain named found v k deep)
      (then_leads (stat.1 v (item.greater v ∷ item.stat_end ∷ k) deep)
      (then_leads (staying refl) (stat_ends ts (max v s.nest) k behind.0))),
)
