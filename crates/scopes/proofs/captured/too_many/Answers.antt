use Rattle.std.proofs.Common.{rules, ◌∙◌, ◌≤◌, ◌++◌, length, sym, ap, append-nil}
use Rattle.syntax_tree.specs.Limits.{most_variables}
use Rattle.scopes.proofs.Turns.{few}
use Rattle.scopes.proofs.captured.too_many.Goals as goal

pub returns-in_default : goal.returns-in_default
returns-in_default c =
    let short : length c.args.names.now ≤ most_variables = search rules in
    sym (ap (λ l. c.args.faults.now ++ l) (few c.args.names.now short) ∙ append-nil c.args.faults.now)
