use Rattle.std.proofs.Common.{◌≡◌, ◌∙◌, ◌-◌, sym, true, false}
use Rattle.std.proofs.lemmas.Result.{err_from_is_err_and}
use Rattle.syntax_tree.specs.Places.{kind_at}
use Rattle.syntax_tree.specs.Types.{is_separator}
use Rattle.expression_parser.proofs.FieldRuns.{comma_separates, other_separates, no_field_yet, no_more_fields, field_fault, next_field, fields_not_closed, fields_closed}
use Rattle.expression_parser.proofs.grammar.Grammar.fields.Goals as goal
use Rattle.expression_parser.proofs.grammar.Grammar.fields.Goals.{then-stands-2, else-stands-2}

pub loop-list-init : goal.loop-list-init
loop-list-init g c = no_field_yet c.args.self.now.tokens.now (c.args.self.now.room - 1) c.args.at c.new-list.result c.new-list.ensures

pub returns-then-stands : goal.returns-then-stands
returns-then-stands g c = no_more_fields c.args.self.now.tokens.now (c.args.self.now.room - 1) c.args.at c.loop-list.list c.loop-list.nest
    c.loop-list.end c.loop-list.invariant (sym c.if-stands.ensures.value)

pub returns-in_err-field : goal.returns-in_err-field
returns-in_err-field g c =
    let p = err_from_is_err_and c.from_residual.result c.from_residual.ensures.1 in
    rw (p.1, p.2) (field_fault c.args.self.now.tokens.now (c.args.self.now.room - 1) c.args.at c.loop-list.list c.loop-list.nest
    c.loop-list.end c.in_err-field.field-0.0 c.loop-list.invariant c.in_err-field.ensures)

pub loop-list-preserved : goal.loop-list-preserved
loop-list-preserved g c =
    let t = kind_at c.args.self.now.tokens.now c.in_ok-field.field.end in
    let tested : c.if-stands-2.value ≡ is_separator t = elim c.if-stands-2.branch [
      | then-stands-2 w ↦ w.value-is ∙ w.if-stands-2.true ∙ sym (comma_separates t (sym w.if-stands-2.ensures.value))
      | else-stands-2 w ↦
          w.value-is ∙ w.stands-else-stands-2.ensures.value ∙ other_separates t (sym w.if-stands-2.ensures.value)
    ] in
    let stands : is_separator t ≡ true = sym tested ∙ c.if-stands-3.true in
    next_field c.args.self.now.tokens.now (c.args.self.now.room - 1) c.args.at c.loop-list.list c.push_field.new.list c.loop-list.nest
    c.loop-list.end c.in_ok-field.field c.max-nest.result c.loop-list.invariant (sym c.if-stands.ensures.value) c.in_ok-field.ensures
    stands c.in_ok-push_field.ensures c.max-nest.ensures

pub returns-in_err-behind : goal.returns-in_err-behind
returns-in_err-behind g c =
    let t = kind_at c.args.self.now.tokens.now c.in_ok-field.field.end in
    let tested : c.if-stands-2.value ≡ is_separator t = elim c.if-stands-2.branch [
      | then-stands-2 w ↦ w.value-is ∙ w.if-stands-2.true ∙ sym (comma_separates t (sym w.if-stands-2.ensures.value))
      | else-stands-2 w ↦
          w.value-is ∙ w.stands-else-stands-2.ensures.value ∙ other_separates t (sym w.if-stands-2.ensures.value)
    ] in
    let stands : is_separator t ≡ false = sym tested ∙ c.if-stands-3.false in
    let p = err_from_is_err_and c.from_residual-in_err-behind.result c.from_residual-in_err-behind.ensures.1 in
    rw (p.1, p.2) (fields_not_closed c.args.self.now.tokens.now (c.args.self.now.room - 1) c.args.at c.loop-list.list c.loop-list.nest
    c.loop-list.end c.in_ok-field.field c.in_err-behind.field-0.0 c.loop-list.invariant c.in_ok-field.ensures stands
    c.in_err-behind.ensures)

pub returns-else-stands-3 : goal.returns-else-stands-3
returns-else-stands-3 g c =
    let t = kind_at c.args.self.now.tokens.now c.in_ok-field.field.end in
    let tested : c.if-stands-2.value ≡ is_separator t = elim c.if-stands-2.branch [
      | then-stands-2 w ↦ w.value-is ∙ w.if-stands-2.true ∙ sym (comma_separates t (sym w.if-stands-2.ensures.value))
      | else-stands-2 w ↦
          w.value-is ∙ w.stands-else-stands-2.ensures.value ∙ other_separates t (sym w.if-stands-2.ensures.value)
    ] in
    let stands : is_separator t ≡ false = sym tested ∙ c.if-stands-3.false in
    fields_closed c.args.self.now.tokens.now (c.args.self.now.room - 1) c.args.at c.loop-list.list c.push_field.new.list c.loop-list.nest
    c.loop-list.end c.in_ok-field.field c.max-nest.result c.in_ok-behind.behind c.loop-list.invariant (sym c.if-stands.ensures.value)
    c.in_ok-field.ensures stands c.in_ok-behind.ensures c.in_ok-push_field.ensures c.max-nest.ensures
