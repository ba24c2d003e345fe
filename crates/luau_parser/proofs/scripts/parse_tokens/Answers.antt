use Rattle.std.proofs.Common.{ℕ, Err, sym, ap, ◌∙◌, subst}
use Rattle.syntax_tree.specs.Calls.{Ambiguous}
use Rattle.expression_parser.specs.declared.fault.Fault.TheVariants as fault
use Rattle.luau_parser.specs.Statements.{ReadsScript}
use Rattle.syntax_tree.specs.Parsed.{IsUnexpected, IsTooDeep}
use Rattle.luau_parser.proofs.Refusing.{shown, parsed, unexpected, too_deep, deep_within, ambiguous}
use Rattle.luau_parser.proofs.scripts.parse_tokens.Goals as goal

pub returns-in-Ok-number-clause-tree : goal.returns-in-Ok-number-clause-tree
returns-in-Ok-number-clause-tree c = parsed c.args.tokens.now c.in-Ok.block c.in-Ok-number.tree c.in-Ok.ensures (rw c.new.ensures at c.in-Ok-number.ensures)

pub returns-in-Err-Unexpected-clause-refusal : goal.returns-in-Err-Unexpected-clause-refusal
returns-in-Err-Unexpected-clause-refusal c =
    let read : ReadsScript c.args.tokens.now (Err (fault.Unexpected c.in-Err-Unexpected.place)) = rw c.in-Err-Unexpected.field-0-is at c.in-Err-Unexpected.ensures in
    subst (λ (x : ℕ). IsUnexpected c.args.tokens.now x) (ap (λ k. shown c.args.tokens.now k) (sym c.in-Err-Unexpected.place-is) ∙ sym c.offset_at.ensures) (unexpected c.args.tokens.now c.in-Err-Unexpected.place read)

pub returns-in-Err-TooDeep-clause-refusal : goal.returns-in-Err-TooDeep-clause-refusal
returns-in-Err-TooDeep-clause-refusal c =
    let ts = c.args.tokens.now in
    let read : ReadsScript c.args.tokens.now (Err (fault.TooDeep c.in-Err-TooDeep.place)) = rw c.in-Err-TooDeep.field-0-is at c.in-Err-TooDeep.ensures in
    subst (λ (x : ℕ). IsTooDeep ts x) (ap (λ k. shown ts k) (sym c.in-Err-TooDeep.place-is) ∙ sym c.offset_at-in-Err-TooDeep.ensures) (too_deep ts c.in-Err-TooDeep.place read (deep_within ts c.in-Err-TooDeep.place read))

pub returns-in-Err-Late-clause-refusal : goal.returns-in-Err-Late-clause-refusal
returns-in-Err-Late-clause-refusal c =
    let read : ReadsScript c.args.tokens.now (Err (fault.Late c.in-Err-Late.place)) = rw c.in-Err-Late.field-0-is at c.in-Err-Late.ensures in
    subst (λ (x : ℕ). Ambiguous c.args.tokens.now x) (ap (λ k. shown c.args.tokens.now k) (sym c.in-Err-Late.place-is) ∙ sym c.offset_at-in-Err-Late.ensures) (ambiguous c.args.tokens.now c.in-Err-Late.place read)
