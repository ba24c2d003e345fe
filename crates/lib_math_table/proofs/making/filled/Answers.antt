use Rattle.std.proofs.Common.{◌≡◌, ◌∙◌, pos, false, sym, ap, subst}
use Rattle.std.proofs.Math.ListN.{replicate}
use Rattle.value_model.specs.Parts.{meant}
use Rattle.value_model.specs.TableRows as rows
use Rattle.value_arena.specs.Arenas.{ArenaView}
use Rattle.value_arena.specs.Tables.{no_table, is_nil}
use Rattle.luau_tables.specs.Worlds.{Keeps}
use Rattle.luau_tables.proofs.WorldsKept.{new_table_keeps}
use Rattle.table_lists.specs.Lists.{put_all, Began}
use Rattle.lib_math_table.proofs.Changes.{with_arena}
use Rattle.lib_math_table.proofs.Made as made
use Rattle.lib_math_table.proofs.making.filled.Goals as goal

pub returns-then-is_nil-clause-runs : goal.returns-then-is_nil-clause-runs
returns-then-is_nil-clause-runs c =
    let w = c.args.world.now in
    let r = c.give.result in
    let there = made.there_is w c.new_table.new.self c.in-Ok.t c.in-Ok.ensures.made c.in-Ok.ensures.id c.in-Ok.ensures.there in
    let none = made.filled_none w.names c.args.count c.args.v (sym c.is_nil.ensures ∙ c.if-is_nil.true) in
    made.empty_at w c.requires.world c.new_table.new.self c.in-Ok.t (rows.filled_table c.args.count (meant w.names c.args.v)) _ _ r c.in-Ok.ensures.made c.in-Ok.ensures.id c.in-Ok.ensures.there none c.give.ensures

pub returns-then-is_nil-clause-keeps : goal.returns-then-is_nil-clause-keeps
returns-then-is_nil-clause-keeps c =
    let w = c.args.world.now in
    subst (λ (a : ArenaView). Keeps w (with_arena w a)) (sym c.in-Ok.ensures.made) (new_table_keeps w c.requires.world)

pub returns-in-Ok-fill-clause-runs : goal.returns-in-Ok-fill-clause-runs
returns-in-Ok-fill-clause-runs c =
    let w = c.args.world.now in
    let r = c.give-in-Ok-fill.result in
    let full : is_nil c.args.v ≡ false = sym c.is_nil.ensures ∙ c.if-is_nil.false in
    let there = made.there_is w c.new_table.new.self c.in-Ok.t c.in-Ok.ensures.made c.in-Ok.ensures.id c.in-Ok.ensures.there in
    let now = made.is_new w c.new_table.new.self c.in-Ok.t c.in-Ok.ensures.made c.in-Ok.ensures.id c.in-Ok.ensures.there in
    let is : c.fill.new.table ≡ put_all no_table (pos 1) (replicate c.args.count c.args.v) = c.in-Ok-fill.ensures.ok ∙ ap (λ t. put_all t (pos 1) (replicate c.args.count c.args.v)) (c.table_mut.ensures.value ∙ now) in
    made.made_at w c.requires.world c.new_table.new.self c.in-Ok.t c.fill.new.table (put_all no_table (pos 1) (replicate c.args.count c.args.v)) _ _ _ r c.in-Ok.ensures.made c.in-Ok.ensures.id c.in-Ok.ensures.there is
    (made.again_keeps w c.requires.world there c.args.count c.args.v c.requires.value) (made.again_is w c.requires.world there c.args.count c.args.v c.requires.value full) c.give-in-Ok-fill.ensures

pub returns-in-Ok-fill-clause-keeps : goal.returns-in-Ok-fill-clause-keeps
returns-in-Ok-fill-clause-keeps c =
    let w = c.args.world.now in
    let there = made.there_is w c.new_table.new.self c.in-Ok.t c.in-Ok.ensures.made c.in-Ok.ensures.id c.in-Ok.ensures.there in
    let now = made.is_new w c.new_table.new.self c.in-Ok.t c.in-Ok.ensures.made c.in-Ok.ensures.id c.in-Ok.ensures.there in
    let is : c.fill.new.table ≡ put_all no_table (pos 1) (replicate c.args.count c.args.v) = c.in-Ok-fill.ensures.ok ∙ ap (λ t. put_all t (pos 1) (replicate c.args.count c.args.v)) (c.table_mut.ensures.value ∙ now) in
    made.kept_at w c.requires.world c.new_table.new.self c.in-Ok.t c.fill.new.table (put_all no_table (pos 1) (replicate c.args.count c.args.v)) c.in-Ok.ensures.made c.in-Ok.ensures.id is
    (made.again_keeps w c.requires.world there c.args.count c.args.v c.requires.value)

pub returns-in-Err-fill-clause-keeps : goal.returns-in-Err-fill-clause-keeps
returns-in-Err-fill-clause-keeps c =
    let w = c.args.world.now in
    let now = made.is_new w c.new_table.new.self c.in-Ok.t c.in-Ok.ensures.made c.in-Ok.ensures.id c.in-Ok.ensures.there in
    made.began_at w c.requires.world c.new_table.new.self c.in-Ok.t c.fill.new.table (pos 1) (replicate c.args.count c.args.v) c.in-Ok.ensures.made c.in-Ok.ensures.id c.in-Ok.ensures.there
    (made.again_used w c.args.count c.args.v c.requires.value) (subst (λ t. Began t c.fill.new.table (pos 1) (replicate c.args.count c.args.v)) (c.table_mut.ensures.value ∙ now) c.in-Err-fill.ensures.err)
