use Rattle.std.proofs.Common.{◌∙◌, ap, sym}
use Rattle.std.specs.Int.{int_min}
use Rattle.lib_arguments.proofs.RowsRun.{found, found_fails, ends, have_texts}
use Rattle.lib_math_table.proofs.Giving.{clamp_gives, clamp_fails}
use Rattle.lib_math_table.proofs.math.clamp.Goals as goal

pub returns-in-Err : goal.returns-in-Err
returns-in-Err c = ends _ _ c.in-Err.e _ (c.in-Err.ensures _)

pub number_at-requires-2-clause-texts : goal.number_at-requires-2-clause-texts
number_at-requires-2-clause-texts c = have_texts c.args.world.now c.args.args.now c.requires.args

pub returns-in-Err-number_at : goal.returns-in-Err-number_at
returns-in-Err-number_at c = ends _ _ c.in-Err-number_at.e _ (found_fails _ _ _ c.in-Ok.ensures (c.in-Err-number_at.ensures _))

pub number_at-requires-3-clause-texts : goal.number_at-requires-3-clause-texts
number_at-requires-3-clause-texts c = have_texts c.args.world.now c.args.args.now c.requires.args

pub returns-in-Err-number_at-2 : goal.returns-in-Err-number_at-2
returns-in-Err-number_at-2 c =
    ends _ _ c.in-Err-number_at-2.e _ (found_fails _ _ _ c.in-Ok.ensures (found_fails _ _ _ c.in-Ok-number_at.ensures (c.in-Err-number_at-2.ensures _)))

pub returns-then-is_less : goal.returns-then-is_less
returns-then-is_less c =
    let texts = c.args.world.now.names in
    let e = c.out_of_range.result in
    ends _ _ e _
    (found_fails _ _ e c.in-Ok.ensures (found_fails _ _ e c.in-Ok-number_at.ensures (found_fails _ _ e c.in-Ok-number_at-2.ensures
    (clamp_fails texts _ c.in-Ok.n c.in-Ok-number_at.n c.in-Ok-number_at-2.n e (sym c.is_less.ensures ∙ c.if-is_less.true) (c.out_of_range.ensures texts)))))

pub returns : goal.returns
returns c =
    let w = c.args.world.now in
    let r = c.give.result in
    found _ w w _ _ r c.in-Ok.ensures (found _ w w _ _ r c.in-Ok-number_at.ensures (found _ w w _ _ r c.in-Ok-number_at-2.ensures
    (clamp_gives w _ _ r c.in-Ok.n c.in-Ok-number_at.n c.in-Ok-number_at-2.n c.better-2.result (sym c.is_less.ensures ∙ c.if-is_less.false) (c.better-2.ensures ∙ ap (λ z. int_min z c.in-Ok-number_at-2.n) c.better.ensures) c.give.ensures)))
