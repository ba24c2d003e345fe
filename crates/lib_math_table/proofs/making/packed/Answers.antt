use Rattle.std.proofs.Common.{◌≡◌, ◌∙◌, pos, ap, subst, arith}
use Rattle.std.proofs.lemmas.Int.{ints}
use Rattle.value_model.specs.declared.value.Value.TheVariants.{Str, Num}
use Rattle.value_arena.specs.Tables.{TableView, no_table}
use Rattle.luau_tables.specs.Rules as rule
use Rattle.table_lists.specs.Lists.{put_all, Began}
use Rattle.lib_math_table.proofs.Made as made
use Rattle.lib_math_table.proofs.making.packed.Goals as goal

pub put_all_and-requires-clause-within : goal.put_all_and-requires-clause-within
put_all_and-requires-clause-within c = omega (arith, ints, c.in-Some.ensures.few, c.one.ensures)

pub returns-in-Ok-put_all_and-clause-runs : goal.returns-in-Ok-put_all_and-clause-runs
returns-in-Ok-put_all_and-clause-runs c =
    let w = c.args.world.now in
    let vs = c.args.values.now in
    let z = c.in-Some.count in
    let there = made.there_is w c.new_table.new.self c.in-Ok.t c.in-Ok.ensures.made c.in-Ok.ensures.id c.in-Ok.ensures.there in
    let now = made.is_new w c.new_table.new.self c.in-Ok.t c.in-Ok.ensures.made c.in-Ok.ensures.id c.in-Ok.ensures.there in
    let x : TableView = rule.put (put_all no_table (pos 1) vs) (Str c.args.n) (Num z) in
    let is : c.put_all_and.new.table ≡ x =
    c.in-Ok-put_all_and.ensures.ok
    ∙ ap (λ t. rule.put (put_all t c.one.result vs) (Str c.args.n) (Num z)) (c.table_mut.ensures.value ∙ now)
    ∙ ap (λ k. rule.put (put_all no_table k vs) (Str c.args.n) (Num z)) c.one.ensures in
    made.made_at w c.requires.world c.new_table.new.self c.in-Ok.t c.put_all_and.new.table x _ _ _ c.give.result c.in-Ok.ensures.made c.in-Ok.ensures.id c.in-Ok.ensures.there is
    (made.packed_keeps w c.requires.world there c.args.n vs z c.requires.n c.requires.values c.in-Some.ensures.count)
    (made.packed_is w c.requires.world there c.args.n vs z c.requires.n c.requires.values c.in-Some.ensures.count) c.give.ensures

pub returns-in-Ok-put_all_and-clause-keeps : goal.returns-in-Ok-put_all_and-clause-keeps
returns-in-Ok-put_all_and-clause-keeps c =
    let w = c.args.world.now in
    let vs = c.args.values.now in
    let z = c.in-Some.count in
    let there = made.there_is w c.new_table.new.self c.in-Ok.t c.in-Ok.ensures.made c.in-Ok.ensures.id c.in-Ok.ensures.there in
    let now = made.is_new w c.new_table.new.self c.in-Ok.t c.in-Ok.ensures.made c.in-Ok.ensures.id c.in-Ok.ensures.there in
    let x : TableView = rule.put (put_all no_table (pos 1) vs) (Str c.args.n) (Num z) in
    let is : c.put_all_and.new.table ≡ x =
    c.in-Ok-put_all_and.ensures.ok
    ∙ ap (λ t. rule.put (put_all t c.one.result vs) (Str c.args.n) (Num z)) (c.table_mut.ensures.value ∙ now)
    ∙ ap (λ k. rule.put (put_all no_table k vs) (Str c.args.n) (Num z)) c.one.ensures in
    made.kept_at w c.requires.world c.new_table.new.self c.in-Ok.t c.put_all_and.new.table x c.in-Ok.ensures.made c.in-Ok.ensures.id is
    (made.packed_keeps w c.requires.world there c.args.n vs z c.requires.n c.requires.values c.in-Some.ensures.count)

pub returns-in-Err-put_all_and-clause-keeps : goal.returns-in-Err-put_all_and-clause-keeps
returns-in-Err-put_all_and-clause-keeps c =
    let w = c.args.world.now in
    let vs = c.args.values.now in
    let now = made.is_new w c.new_table.new.self c.in-Ok.t c.in-Ok.ensures.made c.in-Ok.ensures.id c.in-Ok.ensures.there in
    made.began_at w c.requires.world c.new_table.new.self c.in-Ok.t c.put_all_and.new.table c.one.result vs c.in-Ok.ensures.made c.in-Ok.ensures.id c.in-Ok.ensures.there c.requires.values
    (subst (λ t. Began t c.put_all_and.new.table c.one.result vs) (c.table_mut.ensures.value ∙ now) c.in-Err-put_all_and.ensures.err)
