-- Statements that begin with a parenthesis, and calls, by turns.
use Rattle.std.proofs.Common.{◌≡◌, ◌<◌, ◌+◌, ℕ, List, ◌∷◌, refl, sym, subst, arith, Result, Ok, Err}
use Rattle.syntax_tree.specs.declared.token.Token.{Token}
use Rattle.syntax_tree.specs.declared.token.TokenKind.TheVariants as token
use Rattle.syntax_tree.specs.declared.tree.Stat.{Stat}
use Rattle.syntax_tree.specs.declared.tree.StatKind as stat
use Rattle.syntax_tree.specs.Grammar.{PrefixEnd, in_call, in_paren, IsPrefix, IsStat, call_stat}
use Rattle.syntax_tree.specs.Nodes.{stat_at}
use Rattle.syntax_tree.specs.Places.{Has}
use Rattle.parse_steps.specs.Items as item
use Rattle.parse_steps.specs.Items.{Item, first_target, depth}
use Rattle.parse_steps.specs.Steps.{most, Leads}
use Rattle.expression_parser.specs.declared.fault.Fault.{Fault}
use Rattle.expression_parser.specs.declared.fault.Fault.TheVariants as fault
use Rattle.expression_parser.specs.declared.parts.Part.{Part}
use Rattle.expression_parser.specs.declared.parts.Prefix.{Prefix}
use Rattle.luau_parser.specs.declared.parts.Statement.{Statement}
use Rattle.expression_parser.specs.declared.parts.Ending.TheVariants as endings
use Rattle.expression_parser.specs.Reading.{Fails, FindsParenthesis, FindsSuffixes, ending_of}
use Rattle.luau_parser.specs.Statements.{IsPrefixRead, FindsPrefixStat, FindsStat}
use Rattle.expression_parser.proofs.Leading.{then_leads, then_fails, staying}
use Rattle.luau_parser.proofs.AssignmentTurns.{to_paren_stat, behind_call, only_paren}
use Rattle.luau_parser.proofs.TargetBeginnings.{begun_paren}

-- the parenthesis, with nothing behind it
abbrev pub alone : Part → Prefix
alone part = record { part = part; ending = endings.Paren }

paren_leads : (ts : List Token) (room i : ℕ) (part : Part) → Has ts i token.OpenParen → 0 < room → FindsParenthesis ts room i (Ok part) → (v : ℕ) (k : List Item) → depth k + room ≡ most
    → Leads ts i v (item.block ∷ k) part.end part.nest (item.suffixes in_paren first_target ∷ item.greater v ∷ item.stat_end ∷ k)
paren_leads ts room i part stands less found v k deep = then_leads (to_paren_stat ts i v room k stands less deep) (found.1 v (item.suffixes in_paren first_target ∷ item.greater v ∷ item.stat_end ∷ k) deep)

prefix_leads : (ts : List Token) (room i : ℕ) (part : Part) (p : Prefix) → Has ts i token.OpenParen → 0 < room → FindsParenthesis ts room i (Ok part) → FindsSuffixes ts room i (alone part) (Ok p) → (v : ℕ) (k : List Item) → depth k + room ≡ most
    → Leads ts i v (item.block ∷ k) p.part.end p.part.nest (item.suffixes (ending_of p.ending) first_target ∷ item.greater v ∷ item.stat_end ∷ k)
prefix_leads ts room i part p stands less found read v k deep = then_leads (paren_leads ts room i part stands less found v k deep) ((read first_target).1 v (item.greater v ∷ item.stat_end ∷ k) deep)

pub paren_fails : (ts : List Token) (room i : ℕ) (f : Fault) → Has ts i token.OpenParen → 0 < room → FindsParenthesis ts room i (Err f) → FindsStat ts room i (Err f)
paren_fails ts room i f stands less found = λ v k deep. then_fails (to_paren_stat ts i v room k stands less deep) f (found v (item.suffixes in_paren first_target ∷ item.greater v ∷ item.stat_end ∷ k) deep)

pub suffixes_fail : (ts : List Token) (room i : ℕ) (part : Part) (f : Fault) → Has ts i token.OpenParen → 0 < room → FindsParenthesis ts room i (Ok part) → FindsSuffixes ts room i (alone part) (Err f) → FindsStat ts room i (Err f)
suffixes_fail ts room i part f stands less found read = λ v k deep. then_fails (paren_leads ts room i part stands less found v k deep) f (read first_target v (item.greater v ∷ item.stat_end ∷ k) deep)

-- the whole prefix
pub prefix_read : (ts : List Token) (room i : ℕ) (part : Part) (p : Prefix) → Has ts i token.OpenParen → FindsParenthesis ts room i (Ok part) → FindsSuffixes ts room i (alone part) (Ok p) → IsPrefixRead ts room i p.part (ending_of p.ending)
prefix_read ts room i part p stands found read =
    let whole = (read first_target).0 in record {
      prefix = begun_paren ts i part stands found.0.0 p.part.expr (ending_of p.ending) p.part.end whole.0.0;
      whole = whole.0.1;
      nest = whole.1;
      onward = omega (arith, found.0.1.1, whole.2);
    }

pub stat_found : (ts : List Token) (room i : ℕ) (part : Part) (p : Prefix) (r : Result Statement Fault) → Has ts i token.OpenParen → 0 < room → FindsParenthesis ts room i (Ok part) → FindsSuffixes ts room i (alone part) (Ok p) → FindsPrefixStat ts room i p.part (ending_of p.ending) r → FindsStat ts room i r
stat_found ts room i part p (Ok s) stands less found read rest =
    (rest.0, λ v k deep. then_leads (prefix_leads ts room i part p stands less found read v k deep) (then_leads (rest.1 v (item.greater v ∷ item.stat_end ∷ k) deep) (staying refl)))
stat_found ts room i part p (Err f) stands less found read rest = λ v k deep. then_fails (prefix_leads ts room i part p stands less found read v k deep) f (rest v (item.greater v ∷ item.stat_end ∷ k) deep)

-- ---- behind the whole prefix

-- a call
pub call_found : (ts : List Token) (room b : ℕ) (part : Part) (c : PrefixEnd) (s : Stat) → c ≡ in_call → s ≡ stat_at ts b (stat.Call part.expr) → IsPrefixRead ts room b part c → FindsPrefixStat ts room b part c (Ok (record { stat = s; nest = part.nest; end = part.end }))
call_found ts room b part c s is node read =
    let whole : IsPrefix ts most b part.expr in_call part.end = subst (λ (d : PrefixEnd). IsPrefix ts most b part.expr d part.end) is read.prefix in (
      (subst (λ (x : Stat). IsStat ts most b x part.end) (sym node) (call_stat b part.end part.expr whole), (read.nest, read.onward)),
      λ v k deep. subst (λ (d : PrefixEnd). Leads ts part.end part.nest (item.suffixes d first_target ∷ k) part.end part.nest k) (sym is) (behind_call ts part.end part.nest k read.whole),
    )

-- a parenthesis
pub no_paren_found : (ts : List Token) (room b : ℕ) (part : Part) (c : PrefixEnd) → c ≡ in_paren → IsPrefixRead ts room b part c → FindsPrefixStat ts room b part c (Err (fault.Unexpected part.end))
no_paren_found ts room b part c is read = λ v k deep. subst (λ (d : PrefixEnd). Fails ts part.end part.nest (item.suffixes d first_target ∷ k) (fault.Unexpected part.end)) (sym is) (only_paren ts part.end part.nest k read.whole)
