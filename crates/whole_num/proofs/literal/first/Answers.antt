use Rattle.std.proofs.Common.{◌+◌, ◌∷◌, ◌++◌, drop, get_or, sym, ap, ◌∙◌}
use Rattle.std.proofs.lemmas.List.{take_rest}
use Rattle.whole_num.specs.Literals.{without_marks}
use Rattle.whole_num.proofs.Marks.{marks_skip, marks_split, marks_head}
use Rattle.whole_num.proofs.literal.first.Goals as goal

pub returns-then-b-ne95-clause-found : goal.returns-then-b-ne95-clause-found
returns-then-b-ne95-clause-found c =
    let xs = c.args.text.now in
    let i = c.loop-i.i in
    marks_split xs i ∙ ap (λ f. f ++ without_marks (drop i xs)) c.loop-i.invariant
    ∙ marks_head xs i c.loop-i-test.true c.if-b-ne95.true
    ∙ ap (λ r. get_or xs i 0 ∷ without_marks r) (sym (take_rest xs (i + 1)))

pub loop-i-preserved : goal.loop-i-preserved
loop-i-preserved c = marks_skip c.args.text.now c.loop-i.i c.loop-i-test.true c.if-b-ne95.false ∙ c.loop-i.invariant
