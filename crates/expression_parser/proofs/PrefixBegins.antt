-- Expressions that begin with a name or a parenthesis, and take suffixes.
use Rattle.std.proofs.Common.{◌≡◌, ◌<◌, ◌+◌, ℕ, List, ◌∷◌, ap, arith, Ok, Err}
use Rattle.byte_text.specs.declared.StrId.{StrId}
use Rattle.syntax_tree.specs.declared.token.Token.{Token}
use Rattle.syntax_tree.specs.declared.tree.Expr.{Expr}
use Rattle.syntax_tree.specs.Grammar.{PrefixEnd, in_paren, IsPrefix, IsSuffixes, prefix, name, paren}
use Rattle.syntax_tree.specs.Places.{kind_at}
use Rattle.parse_steps.specs.declared.classes.Beginning.TheVariants as begins
use Rattle.parse_steps.specs.declared.classes.Suffix.{Suffix}
use Rattle.type_skip.specs.declared.words.Word.TheVariants as word
use Rattle.parse_steps.specs.Classes.{beginning}
use Rattle.parse_steps.specs.Items as item
use Rattle.parse_steps.specs.Items.{Item, depth, expression, in_expression}
use Rattle.parse_steps.specs.Turns.{suffix_turn}
use Rattle.parse_steps.specs.Steps.{most, Leads}
use Rattle.expression_parser.specs.declared.fault.Fault.{Fault}
use Rattle.expression_parser.specs.declared.parts.Ending.TheVariants as endings
use Rattle.expression_parser.specs.declared.parts.Part.{Part}
use Rattle.expression_parser.specs.declared.parts.Prefix.{Prefix}
use Rattle.expression_parser.specs.Reading.{IsNamed, ending_of, FindsSuffixes, FindsParenthesis}
use Rattle.expression_parser.specs.Inner.{FindsSimple}
use Rattle.expression_parser.proofs.ClassesToTokens.{begins_name, begins_paren}
use Rattle.expression_parser.proofs.Leading.{then_leads, then_fails, staying, taking}
use Rattle.expression_parser.proofs.SimpleTurns.{begins_so, opens_node}

-- the first part of a prefix, at the beginning of an expression
pub record Begun (ts : List Token) (room i : ℕ) (first : Prefix) : Type 0 where
  pub whole : (e : Expr) (d : PrefixEnd) (j : ℕ) → IsSuffixes ts most i first.part.end first.part.expr (ending_of first.ending) e d j
      → IsPrefix ts most i e d j
  pub runs : (k : List Item) → depth k + room ≡ most
      → Leads ts i 0 (item.simple ∷ k) first.part.end first.part.nest (item.suffixes (ending_of first.ending) in_expression ∷ k)
  pub onward : i < first.part.end

pub begins_named : (ts : List Token) (room i : ℕ) (x : StrId) (first : Prefix) → beginning (kind_at ts i) ≡ begins.Name x
    → IsNamed ts i x first → Begun ts room i first
begins_named ts room i x first b named = record {
  whole = λ e d j s. name i j x e d (begins_name (kind_at ts i) x b) (rw (named.0, named.2, named.3) at s);
  runs = λ k deep. rw (named.1, named.2, named.3) (taking (begins_so ts i (begins.Name x) k b) (omega arith) tt);
  onward = omega (arith, named.2);
}

pub begins_in_parenthesis : (ts : List Token) (room i : ℕ) (part : Part) → beginning (kind_at ts i) ≡ begins.Paren → 0 < room
    → FindsParenthesis ts room i (Ok part) → Begun ts room i (record { part = part; ending = endings.Paren })
begins_in_parenthesis ts room i part b less found =
    let read = found.0.0 in
    record {
      whole = λ e d j s. paren i read.1 j read.0 e d (begins_paren (kind_at ts i) b) read.2 read.3 (rw (read.4, read.5) at s);
      runs = λ k deep. then_leads (enters ts room i k b less deep) (found.1 0 (item.suffixes in_paren in_expression ∷ k) deep);
      onward = found.0.1.1;
    }
  where
    enters : (ts : List Token) (room i : ℕ) (k : List Item) → beginning (kind_at ts i) ≡ begins.Paren → 0 < room → depth k + room ≡ most
        → Leads ts i 0 (item.simple ∷ k)
        (i + 1) 0 (expression ∷ item.expects word.CloseParen ∷ item.wrap ∷ item.suffixes in_paren in_expression ∷ k)
    enters ts room i k b less deep = opens_node ts i room 0 k (expression ∷ item.expects word.CloseParen ∷ item.wrap ∷ item.suffixes in_paren in_expression ∷ k) (begins_so ts i begins.Paren k b) less deep

-- with all its suffixes
pub prefix_found : (ts : List Token) (room i : ℕ) (first p : Prefix) → Begun ts room i first → FindsSuffixes ts room i first (Ok p)
    → FindsSimple ts room i (Ok p.part)
prefix_found ts room i first p begun found =
    let good = (found in_expression).0 in (
      (prefix i p.part.end p.part.expr (ending_of p.ending) (begun.whole p.part.expr (ending_of p.ending) p.part.end good.0.0), (good.1, omega (arith, begun.onward, good.2))),
      λ v k deep. then_leads (begun.runs k deep) (then_leads ((found in_expression).1 v k deep) (staying (ap (λ (s : Suffix). suffix_turn s (ending_of p.ending) in_expression (kind_at ts p.part.end) p.part.nest k) good.0.1))),
    )

pub fault_in_suffixes : (ts : List Token) (room i : ℕ) (first : Prefix) (f : Fault) → Begun ts room i first
    → FindsSuffixes ts room i first (Err f) → FindsSimple ts room i (Err f)
fault_in_suffixes ts room i first f begun fails = λ v k deep. then_fails (begun.runs k deep) f (fails in_expression v k deep)

pub fault_in_parenthesis : (ts : List Token) (room i : ℕ) (f : Fault) → beginning (kind_at ts i) ≡ begins.Paren → 0 < room
    → FindsParenthesis ts room i (Err f) → FindsSimple ts room i (Err f)
fault_in_parenthesis ts room i f b less fails =
    λ v k deep.
    then_fails
    (opens_node ts i room 0 k (expression ∷ item.expects word.CloseParen ∷ item.wrap ∷ item.suffixes in_paren in_expression ∷ k) (begins_so ts i begins.Paren k b) less deep)
    f (fails v (item.suffixes in_paren in_expression ∷ k) deep)
