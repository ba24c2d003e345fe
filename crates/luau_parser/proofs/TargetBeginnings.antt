-- The name or the parenthesis that begins a prefix, and what turns read of it where it is a further target.
use Rattle.std.proofs.Common.{◌≡◌, ◌<◌, ◌+◌, ℕ, List, ◌∷◌, sym, ap, subst, arith, Ok, Err, ◌⊎◌, inl, inr}
use Rattle.byte_text.specs.declared.StrId.{StrId}
use Rattle.syntax_tree.specs.declared.token.Token.{Token}
use Rattle.syntax_tree.specs.declared.token.TokenKind.TheVariants as token
use Rattle.syntax_tree.specs.declared.tree.Expr.{Expr}
use Rattle.syntax_tree.specs.declared.tree.ExprKind as expr
use Rattle.syntax_tree.specs.Grammar.{PrefixEnd, in_paren, IsPrefix, IsSuffixes, name, paren}
use Rattle.syntax_tree.specs.Nodes.{expr_at}
use Rattle.syntax_tree.specs.Places.{Has}
use Rattle.parse_steps.specs.Items as item
use Rattle.parse_steps.specs.Items.{Item, later_target, depth}
use Rattle.parse_steps.specs.Steps.{most, Leads}
use Rattle.expression_parser.specs.declared.fault.Fault.{Fault}
use Rattle.expression_parser.specs.declared.fault.Fault.TheVariants as fault
use Rattle.expression_parser.specs.declared.parts.Part.{Part}
use Rattle.expression_parser.specs.declared.parts.Prefix.{Prefix}
use Rattle.expression_parser.specs.declared.parts.Ending.TheVariants as endings
use Rattle.expression_parser.specs.Reading.{Fails, IsNamed, IsParenthesis, FindsParenthesis, FindsSuffixes, ending_of}
use Rattle.luau_parser.specs.Statements.{IsBegun, FindsTargetBegin, FindsTarget}
use Rattle.expression_parser.proofs.Leading.{then_leads, then_fails, nest_to, place_to}
use Rattle.luau_parser.proofs.AssignmentTurns.{to_parenthesis, to_target_name, no_later_call, no_later_paren}

-- suffixes behind a parenthesis make a prefix with it
pub begun_paren : (ts : List Token) (i : ℕ) (part : Part) → Has ts i token.OpenParen → IsParenthesis ts i part → IsBegun ts i (record { part = part; ending = endings.Paren })
begun_paren ts i part stands read = λ e d j rest.
    paren i read.1 j read.0 e d stands read.2 read.3 (subst (λ (x : Expr). IsSuffixes ts most i (read.1 + 1) x in_paren e d j) read.4 (subst (λ (h : ℕ). IsSuffixes ts most i h part.expr in_paren e d j) read.5 rest))

pub begun_name : (ts : List Token) (i : ℕ) (x : StrId) (p : Prefix) → Has ts i (token.Name x) → IsNamed ts i x p → IsBegun ts i p
begun_name ts i x p stands named = λ e d j rest.
    let at_place : IsSuffixes ts most i (i + 1) p.part.expr (ending_of p.ending) e d j = subst (λ (h : ℕ). IsSuffixes ts most i h p.part.expr (ending_of p.ending) e d j) named.2 rest in
    let of_name : IsSuffixes ts most i (i + 1) (expr_at ts i (expr.Name x)) (ending_of p.ending) e d j = subst (λ (y : Expr). IsSuffixes ts most i (i + 1) y (ending_of p.ending) e d j) named.0 at_place in
    name i j x e d stands (subst (λ (c : PrefixEnd). IsSuffixes ts most i (i + 1) (expr_at ts i (expr.Name x)) c e d j) (ap ending_of named.3) of_name)

pub faulty_parenthesis : (ts : List Token) (room i : ℕ) (f : Fault) → Has ts i token.OpenParen → 0 < room → FindsParenthesis ts room i (Err f) → FindsTargetBegin ts room i (Err f)
faulty_parenthesis ts room i f stands less found = λ v k deep. then_fails (to_parenthesis ts i v room k stands less deep) f (found v (item.suffixes in_paren later_target ∷ item.greater v ∷ k) deep)

pub paren_begins : (ts : List Token) (room i : ℕ) (part : Part) → Has ts i token.OpenParen → 0 < room → FindsParenthesis ts room i (Ok part) → FindsTargetBegin ts room i (Ok (record { part = part; ending = endings.Paren }))
paren_begins ts room i part stands less found = (
  (begun_paren ts i part stands found.0.0, found.0.1),
  λ v k deep. then_leads (to_parenthesis ts i v room k stands less deep) (found.1 v (item.suffixes in_paren later_target ∷ item.greater v ∷ k) deep),
)

pub name_begins : (ts : List Token) (room i : ℕ) (x : StrId) (p : Prefix) → Has ts i (token.Name x) → IsNamed ts i x p → FindsTargetBegin ts room i (Ok p)
name_begins ts room i x p stands named = (
  (begun_name ts i x p stands named, (omega (arith, named.1), omega (arith, named.2))),
  λ v k deep.
      let at_name = place_to (sym named.2) (nest_to (sym named.1) (to_target_name ts x i v k stands)) in
      subst (λ (c : PrefixEnd). Leads ts i v (item.target ∷ k) p.part.end p.part.nest (item.suffixes c later_target ∷ item.greater v ∷ k)) (sym (ap ending_of named.3)) at_name,
)

-- ---- a further target, by its beginning and its suffixes

pub faulty_suffixes : (ts : List Token) (room i : ℕ) (first : Prefix) (f : Fault) → FindsTargetBegin ts room i (Ok first) → FindsSuffixes ts room i first (Err f) → FindsTarget ts room i (Err f)
faulty_suffixes ts room i first f begun found = λ v k deep. then_fails (begun.1 v k deep) f (found later_target v (item.greater v ∷ k) deep)

reads_on : (ts : List Token) (room i : ℕ) (first p : Prefix) → FindsTargetBegin ts room i (Ok first) → FindsSuffixes ts room i first (Ok p) → (v : ℕ) (k : List Item) → depth k + room ≡ most
    → Leads ts i v (item.target ∷ k) p.part.end p.part.nest (item.suffixes (ending_of p.ending) later_target ∷ item.greater v ∷ k)
reads_on ts room i first p begun found v k deep = then_leads (begun.1 v k deep) ((found later_target).1 v (item.greater v ∷ k) deep)

pub whole_target : (ts : List Token) (room i : ℕ) (first p : Prefix) → FindsTargetBegin ts room i (Ok first) → FindsSuffixes ts room i first (Ok p) → p.ending ≡ endings.Target → FindsTarget ts room i (Ok p.part)
whole_target ts room i first p begun found is =
    let read = (found later_target).0 in
    let whole : IsPrefix ts most i p.part.expr (ending_of p.ending) p.part.end = begun.0.0 p.part.expr (ending_of p.ending) p.part.end read.0.0 in (
      (subst (λ (c : PrefixEnd). IsPrefix ts most i p.part.expr c p.part.end) (ap ending_of is) whole, read.0.1, (read.1, omega (arith, begun.0.1.1, read.2))),
      λ v k deep. subst (λ (c : PrefixEnd). Leads ts i v (item.target ∷ k) p.part.end p.part.nest (item.suffixes c later_target ∷ item.greater v ∷ k)) (ap ending_of is) (reads_on ts room i first p begun found v k deep),
    )

pub no_whole_target : (ts : List Token) (room i : ℕ) (first p : Prefix) → FindsTargetBegin ts room i (Ok first) → FindsSuffixes ts room i first (Ok p) → (p.ending ≡ endings.Call) ⊎ (p.ending ≡ endings.Paren) → FindsTarget ts room i (Err (fault.Unexpected p.part.end))
no_whole_target ts room i first p begun found other = λ v k deep. then_fails (reads_on ts room i first p begun found v k deep) (fault.Unexpected p.part.end) (stuck other p.part.nest (item.greater v ∷ k))
  where
    stuck : (p.ending ≡ endings.Call) ⊎ (p.ending ≡ endings.Paren) → (v : ℕ) (k : List Item) → Fails ts p.part.end v (item.suffixes (ending_of p.ending) later_target ∷ k) (fault.Unexpected p.part.end)
    stuck (inl is) v k = rw is (no_later_call ts p.part.end v k (found later_target).0.0.1)
    stuck (inr is) v k = rw is (no_later_paren ts p.part.end v k (found later_target).0.0.1)
