use Rattle.std.proofs.Common.{sym, ◌∙◌}
use Rattle.machine_calls.proofs.Guarded.{function_found, no_function}
use Rattle.machine_calls.proofs.protecting.function_from.Goals as goal

pub returns-then-is_function-clause-checks : goal.returns-then-is_function-clause-checks
returns-then-is_function-clause-checks c = λ texts. function_found texts c.args.f c.args.i c.args.v (sym c.is_function.ensures ∙ c.if-is_function.true)

pub returns-else-is_function-clause-checks : goal.returns-else-is_function-clause-checks
returns-else-is_function-clause-checks c =
    λ texts. no_function texts c.args.f c.args.i c.args.v c.invalid.result (sym c.is_function.ensures ∙ c.if-is_function.false) (c.invalid.ensures texts)
