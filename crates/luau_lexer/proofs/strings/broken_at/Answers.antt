use Rattle.std.proofs.Common.{◌≡◌, ap, sym, ◌∙◌, ◌≤◌, length, drop, arith}
use Rattle.luau_lexer.specs.Parts.{ends_at}
use Rattle.syntax_tree.specs.Strings.{raw_part_at, Inner}
use Rattle.luau_lexer.specs.Parts.{meant}
use Rattle.luau_lexer.proofs.Bodies.{more_passed}
use Rattle.luau_lexer.proofs.strings.broken_at.Goals as goal

pub loop-n-preserved : goal.loop-n-preserved
loop-n-preserved c =
    let found : raw_part_at (ends_at c.args.end) (drop c.loop-n.len c.args.bytes.now) ≡ Inner c.in-Inner.n (meant c.in-Inner.meaning) = ap (raw_part_at (ends_at c.args.end)) (sym c.split_at.ensures.back) ∙ sym c.in-Inner.ensures.value in
    let room : c.in-Inner.n ≤ length (drop c.loop-n.len c.args.bytes.now) = omega (arith, c.in-Inner.ensures.within.1, ap length c.split_at.ensures.back) in
    more_passed (raw_part_at (ends_at c.args.end)) c.args.bytes.now c.args.offset c.loop-n.len c.in-Inner.n (meant c.in-Inner.meaning) found room c.loop-n.invariant
