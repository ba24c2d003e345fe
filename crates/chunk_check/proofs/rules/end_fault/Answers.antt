use Rattle.std.proofs.Common.{◌≡◌, sym, ◌∙◌, ◌==◌, ℕ, ◌-◌, suc, false, length, arith}
use Rattle.std.proofs.lemmas.Bool.Decides.{nat_tests}
use Rattle.chunk_check.proofs.Ends.{last_ends}
use Rattle.chunk_check.proofs.rules.end_fault.Goals as goal

one_less : (n : ℕ) → false ≡ (n == 0) → suc (n - 1) ≡ n
one_less n e = grind (arith, nat_tests)

pub returns : goal.returns
returns c =
    let lines = c.args.lines.now in
    c.last_fault.ensures ∙ sym (last_ends c.args.number c.args.size lines (length lines - 1) _ (one_less (length lines) c.if-is_empty.ensures))
