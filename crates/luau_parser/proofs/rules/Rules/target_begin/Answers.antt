use Rattle.std.proofs.Common.{sym, refl}
use Rattle.std.proofs.lemmas.Result.{err_from_is_err_and}
use Rattle.syntax_tree.specs.Places.{kind_at}
use Rattle.luau_parser.proofs.AssignmentTurns.{deep_parenthesis, no_target}
use Rattle.luau_parser.proofs.TargetBeginnings.{faulty_parenthesis, paren_begins, name_begins}
use Rattle.expression_parser.proofs.WordTurns.{has_name}
use Rattle.luau_parser.proofs.rules.Rules.target_begin.Goals as goal

pub returns-in_err-within : goal.returns-in_err-within
returns-in_err-within g c =
    let p = err_from_is_err_and c.from_residual.result c.from_residual.ensures.1 in
    let e = c.in_err-within.ensures in
    rw (p.1, p.2, e.1) (λ v k deep. deep_parenthesis c.args.self.now.grammar.tokens.now c.args.at v c.args.self.now.grammar.room k (c.if-stands.ensures.there refl) e.0 deep)

pub returns-in_err-part : goal.returns-in_err-part
returns-in_err-part g c =
    let p = err_from_is_err_and c.from_residual-in_err-part.result c.from_residual-in_err-part.ensures.1 in
    rw (p.1, p.2) (faulty_parenthesis c.args.self.now.grammar.tokens.now c.args.self.now.grammar.room c.args.at c.in_err-part.field-0.0 (c.if-stands.ensures.there refl) c.in_ok-within.ensures.0 c.in_err-part.ensures)

pub returns-then-stands : goal.returns-then-stands
returns-then-stands g c = paren_begins c.args.self.now.grammar.tokens.now c.args.self.now.grammar.room c.args.at c.in_ok-part.part (c.if-stands.ensures.there refl) c.in_ok-within.ensures.0 c.in_ok-part.ensures

pub returns-in_ok-named-in-Some : goal.returns-in_ok-named-in-Some
returns-in_ok-named-in-Some g c =
    let stands = has_name (kind_at c.args.self.now.grammar.tokens.now c.args.at) c.in-Some.name (sym c.in-Some.ensures.value) in
    name_begins c.args.self.now.grammar.tokens.now c.args.self.now.grammar.room c.args.at c.in-Some.name c.in_ok-named-in-Some.field-0 stands c.in_ok-named-in-Some.ensures

pub returns-in-None : goal.returns-in-None
returns-in-None g c = λ v k deep. no_target c.args.self.now.grammar.tokens.now c.args.at v k (c.if-stands.ensures.absent refl) (sym c.in-None.ensures.value)
