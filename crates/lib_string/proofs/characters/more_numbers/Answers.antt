use Rattle.std.proofs.Common.{◌≡◌, ◌+◌, ◌∷◌, ◌++◌, [], drop, map, sym, subst, ap, ◌∙◌, arith}
use Rattle.std.proofs.lemmas.Grind.{common_steps}
use Rattle.value_model.specs.Parts.{meant}
use Rattle.lib_arguments.specs.Checks.{Fails}
use Rattle.lib_string.specs.Codes.{numbers_then}
use Rattle.lib_string.proofs.CodeRows.{no_number, number_step, numbers_end}
use Rattle.lib_string.proofs.characters.more_numbers.Goals as goal

pub returns-in-Err : goal.returns-in-Err
returns-in-Err c = λ go.
    let names = c.args.world.now.names in
    subst (λ row. Fails names row c.in-Err.ending) (sym (c.loop-i.invariant go))
    (no_number names c.args.args.now c.loop-i.i c.loop-i.numbers.items go c.index-args-i.result c.loop-i-test.true c.index-args-i.is c.in-Err.ending c.in-Err.ensures)

pub loop-i-preserved : goal.loop-i-preserved
loop-i-preserved c = λ go.
    let names = c.args.world.now.names in
    let pushed : c.push.new.self.items ≡ c.loop-i.numbers.items ++ c.in-Ok.number ∷ [] = grind (arith, common_steps) in
    c.loop-i.invariant go
    ∙ number_step names c.args.args.now c.loop-i.i c.loop-i.numbers.items go c.index-args-i.result c.loop-i-test.true c.index-args-i.is c.in-Ok.number c.in-Ok.ensures
    ∙ ap (λ zs. numbers_then (c.loop-i.i + 1) zs (drop (c.loop-i.i + 1) (map (meant names) c.args.args.now)) go) (sym pushed)

pub returns : goal.returns
returns c = λ go.
    c.loop-i.invariant go ∙ numbers_end c.args.world.now.names c.args.args.now c.loop-i.i c.loop-i.numbers.items go c.loop-i-test.false
