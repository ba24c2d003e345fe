use Rattle.std.proofs.Common.{◌≡◌, ap, sym, ◌∙◌, ◌≤◌, length, drop, List, ℕ, subst, arith}
use Rattle.luau_lexer.specs.Parts.{ends_at, meant, body_of, IsBroken}
use Rattle.syntax_tree.specs.Strings.{part_at, Inner, Malformed}
use Rattle.luau_lexer.proofs.Bodies.{PassedText, no_text_passed, more_text_passed, broken_body}
use Rattle.luau_lexer.proofs.strings.read_body.Goals as goal

pub loop-n-init : goal.loop-n-init
loop-n-init c =
    subst (λ (t : List ℕ). PassedText (part_at (ends_at c.args.end)) c.args.bytes.now 0 0 t) (sym c.new-text.ensures.items) (no_text_passed (part_at (ends_at c.args.end)) c.args.bytes.now)

pub loop-n-preserved : goal.loop-n-preserved
loop-n-preserved c =
    let found : part_at (ends_at c.args.end) (drop c.loop-n.len c.args.bytes.now) ≡ Inner c.in-Inner.n (meant c.in-Inner.meaning) = ap (part_at (ends_at c.args.end)) (sym c.split_at.ensures.back) ∙ sym c.in-Inner.ensures.value in
    let room : c.in-Inner.n ≤ length (drop c.loop-n.len c.args.bytes.now) = omega (arith, c.in-Inner.ensures.within.1, ap length c.split_at.ensures.back) in
    more_text_passed (part_at (ends_at c.args.end)) c.args.bytes.now 0 c.loop-n.len c.in-Inner.n (meant c.in-Inner.meaning) found room c.loop-n.text.items c.append.new.text.items c.in_ok-append-in-Inner.ensures c.loop-n.invariant

pub returns-in-Malformed-clause-value : goal.returns-in-Malformed-clause-value
returns-in-Malformed-clause-value c =
    let found : part_at (ends_at c.args.end) (drop c.loop-n.len c.args.bytes.now) ≡ Malformed = ap (part_at (ends_at c.args.end)) (sym c.split_at.ensures.back) ∙ sym c.in-Malformed.ensures.value in
    let broken : IsBroken (ends_at c.args.end) (drop c.loop-n.len c.args.bytes.now) c.loop-n.len (body_of c.broken_at.result) = c.broken_at.ensures.value in
    broken_body (ends_at c.args.end) c.args.bytes.now c.loop-n.text.items c.loop-n.len (body_of c.broken_at.result) c.loop-n.invariant found broken
