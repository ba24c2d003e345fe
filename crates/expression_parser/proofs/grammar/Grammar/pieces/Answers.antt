use Rattle.std.proofs.Common.{max, ◌-◌, List, [], ◌∷◌, ◌++◌, ap, ◌∙◌, sym}
use Rattle.std.proofs.lemmas.Result.{err_from_is_err_and}
use Rattle.byte_text.specs.declared.StrId.{StrId}
use Rattle.syntax_tree.specs.Grammar as grammar
use Rattle.parse_steps.specs.Items as item
use Rattle.expression_parser.specs.declared.fault.Fault.TheVariants.{Unexpected}
use Rattle.expression_parser.proofs.Greatest.{the_greater}
use Rattle.expression_parser.proofs.Leading.{then_fails}
use Rattle.expression_parser.proofs.PieceRuns.{no_piece_yet, past_value, no_piece, one_piece, all_pieces}
use Rattle.expression_parser.proofs.grammar.Grammar.pieces.Goals as goal

pub loop-values-init : goal.loop-values-init
loop-values-init g c = no_piece_yet c.args.self.now.tokens.now (c.args.self.now.room - 1) c.args.at c.args.text c.push.new.self c.new-values.result (c.in_ok-push.ensures.ok ∙ ap (λ (l : List StrId). l ++ c.args.text ∷ []) c.new-texts.ensures) c.new-values.ensures

pub returns-in_err-part : goal.returns-in_err-part
returns-in_err-part g c =
    let p = err_from_is_err_and c.from_residual-in_err-part.result c.from_residual-in_err-part.ensures.1 in
    rw (p.1, p.2) (λ v k deep. then_fails (c.loop-values.invariant.runs v k deep) c.in_err-part.field-0.0 (c.in_err-part.ensures (max v c.loop-values.nest) (item.pieces ∷ k) deep))

pub returns-in-Some : goal.returns-in-Some
returns-in-Some g c =
    let part = c.in_ok-part.part in
    let found = c.in_ok-part.ensures in
    all_pieces c.args.self.now.tokens.now (c.args.self.now.room - 1) c.args.at c.args.text c.in-Some.last c.loop-values.texts c.push-in-Some.new.self c.loop-values.values c.push-in-loop-values.new.list c.loop-values.nest c.max-nest.result c.loop-values.end part.nest part.end part.expr
    c.loop-values.invariant (grammar.expression c.loop-values.end part.end part.expr found.0.0) found.0.1.0 found.0.1.1 found.1 (sym c.in-Some.ensures.value) c.in_ok-push-3.ensures.ok c.in_ok-push-2.ensures (c.max-nest.ensures ∙ the_greater c.loop-values.nest c.in_ok-part.part.nest)

pub returns-in_default-middle_at : goal.returns-in_default-middle_at
returns-in_default-middle_at g c =
    let ts = c.args.self.now.tokens.now in
    let part = c.in_ok-part.part in
    let past = past_value ts (c.args.self.now.room - 1) c.args.at c.args.text c.loop-values.texts c.loop-values.values c.loop-values.nest c.loop-values.end part.nest part.end c.loop-values.invariant c.in_ok-part.ensures.1 in
    λ v k deep. then_fails (past v k deep) (Unexpected part.end) (no_piece ts part.end (max v (max c.loop-values.nest part.nest)) k (sym c.in_default-middle_at.ensures.value) (sym c.in_default.ensures.value))

pub loop-values-preserved : goal.loop-values-preserved
loop-values-preserved g c =
    let part = c.in_ok-part.part in
    let found = c.in_ok-part.ensures in
    one_piece c.args.self.now.tokens.now (c.args.self.now.room - 1) c.args.at c.args.text c.in-Some-middle_at.middle c.loop-values.texts c.push-in-loop-values-2.new.self c.loop-values.values c.push-in-loop-values.new.list c.loop-values.nest c.max-nest.result c.loop-values.end part.nest part.end part.expr
    c.loop-values.invariant (grammar.expression c.loop-values.end part.end part.expr found.0.0) found.0.1.0 found.0.1.1 found.1 (sym c.in-Some-middle_at.ensures.value) c.in_ok-push-4.ensures.ok c.in_ok-push-2.ensures (c.max-nest.ensures ∙ the_greater c.loop-values.nest c.in_ok-part.part.nest)
