-- That the tree and the refusals of `parse` answer each list of tokens.
use Rattle.std.proofs.Common.{◌≡◌, ◌≤◌, ◌<◌, ◌+◌, ℕ, List, Option, Some, Result, Ok, Err, IfOk, IfErr, ◌⊎◌, inl, inr, refl, sym, ap, ◌∙◌, arith}
use Rattle.std.specs.Prelude.{slice_get}
use Rattle.std.proofs.lemmas.Bool.{cases_lt}
use Rattle.syntax_tree.specs.declared.fault.Cause.{Cause}
use Rattle.syntax_tree.specs.declared.fault.Cause.TheVariants as cause
use Rattle.syntax_tree.specs.declared.token.Token.{Token}
use Rattle.syntax_tree.specs.declared.tree.Tree.{Tree}
use Rattle.syntax_tree.specs.Calls.{Ambiguous}
use Rattle.syntax_tree.specs.Derivations.{main_function, Derives}
use Rattle.syntax_tree.specs.Numbers.{numbered}
use Rattle.syntax_tree.specs.Proper.{IsProper}
use Rattle.parse_steps.specs.Steps.{most}
use Rattle.luau_parser.specs.declared.error.ParseErr.{ParseErr}
use Rattle.luau_parser.specs.declared.error.ParseErr.TheVariants as refusal
use Rattle.syntax_tree.specs.Parsed.{IsShallow, IsParsed, IsRefusedFor}
use Rattle.luau_parser.specs.Refusals.{IsRefusal, Answers}
use Rattle.luau_parser.proofs.OneTree.{same_block}
use Rattle.luau_parser.proofs.ProperTrees.{trees_are_proper}
use Rattle.luau_parser.proofs.Refusing.{without_tree}

shallow_derives : {ts : List Token} {tree : Tree} → IsShallow ts tree → Derives ts tree
shallow_derives s = record { brackets = most; block = s.block; derived = s.derived; numbers = s.numbers }

pub proper_answer : (ts : List Token) (r : Result Tree ParseErr) → IfOk r (IsParsed ts) → IfOk r IsProper
proper_answer ts (Ok tree) good = trees_are_proper ts tree (shallow_derives good.0)
proper_answer ts (Err e) good = tt

-- tokens have one tree
pub same_tree : {ts : List Token} {tree other : Tree} → IsShallow ts tree → IsShallow ts other → tree ≡ other
same_tree a b =
    let r = same_block a.derived.derived b.derived.derived refl in
    a.numbers ∙ ap (λ x. numbered (main_function x)) r.1 ∙ sym b.numbers

-- tokens with a tree are not refused
pub parsed_or_refused : (ts : List Token) (tree : Tree) (c : Cause) (at : ℕ) → IsParsed ts tree → IsRefusedFor ts c at → ⊥
parsed_or_refused ts tree cause.Unexpected at p r = without_tree ts at r tree (shallow_derives p.0)
parsed_or_refused ts tree cause.TooDeep at p r = r.none ts tree refl p.0
parsed_or_refused ts tree cause.AmbiguousCall at p r = p.1 r.place r.call
parsed_or_refused ts tree _ at p r = r

pub finds_tree : (ts : List Token) (tree : Tree) → IsParsed ts tree → (r : Result Tree ParseErr) → IfOk r (IsParsed ts) → IfErr r (IsRefusal ts) → Answers (Ok tree) r
finds_tree ts tree p (Ok other) good bad = inl (ap Ok (same_tree good.0 p.0))
finds_tree ts tree p (Err (refusal.Unexpected at)) good bad = absurd (without_tree ts at bad tree (shallow_derives p.0))
finds_tree ts tree p (Err (refusal.TooDeep at)) good bad = absurd (bad.none ts tree refl p.0)
finds_tree ts tree p (Err (refusal.AmbiguousCall at)) good bad = absurd (p.1 bad.place bad.call)
finds_tree ts tree p (Err refusal.OutOfMemory) good bad = inr refl

-- the first ambiguous call has one place
same_place : {ts : List Token} {at other : ℕ} (a : Ambiguous ts at) (b : Ambiguous ts other) → a.place ≡ b.place
same_place a b = by_cases (cases_lt a.place b.place) (cases_lt b.place a.place)
  where
    by_cases : (a.place < b.place) ⊎ (b.place ≤ a.place) → (b.place < a.place) ⊎ (a.place ≤ b.place) → a.place ≡ b.place
    by_cases (inl less) other = absurd (b.first a.place less a.call)
    by_cases (inr le) (inl less) = absurd (a.first b.place less b.call)
    by_cases (inr le) (inr ge) = omega (arith, le, ge)

same_offset : {ts : List Token} {at other : ℕ} → Ambiguous ts at → Ambiguous ts other → at ≡ other
same_offset {ts = ts} a b =
    let here : slice_get ts (a.place + 1) ≡ slice_get ts (b.place + 1) = ap (λ i. slice_get ts (i + 1)) (same_place a b) in
    let token : Some a.call.late.paren ≡ Some b.call.late.paren = sym a.call.late.stands ∙ here ∙ b.call.late.stands in
    sym a.offset ∙ ap at_of token ∙ b.offset
  where
    at_of : Option Token → ℕ
    at_of (Some t) = t.at
    at_of _ = 0

pub finds_ambiguous : (ts : List Token) (tree : Tree) → IsShallow ts tree → (at : ℕ) → Ambiguous ts at → (r : Result Tree ParseErr) → IfOk r (IsParsed ts) → IfErr r (IsRefusal ts) → Answers (Err (refusal.AmbiguousCall at)) r
finds_ambiguous ts tree s at a (Ok other) good bad = absurd (good.1 a.place a.call)
finds_ambiguous ts tree s at a (Err (refusal.Unexpected place)) good bad = absurd (without_tree ts place bad tree (shallow_derives s))
finds_ambiguous ts tree s at a (Err (refusal.TooDeep place)) good bad = absurd (bad.none ts tree refl s)
finds_ambiguous ts tree s at a (Err (refusal.AmbiguousCall place)) good bad = inl (ap (λ x. Err (refusal.AmbiguousCall x)) (same_offset bad a))
finds_ambiguous ts tree s at a (Err refusal.OutOfMemory) good bad = inr refl
