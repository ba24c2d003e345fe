use Rattle.luau_tables.proofs.WorldsKept.{all_use_on, all_meant_on, keeps_on}
use Rattle.lib_arguments.proofs.NamesKept.{with_names, names_kept, names_store}
use Rattle.lib_math_table.proofs.Made.{pack_since}
use Rattle.lib_math_table.proofs.making.pack.Goals as goal

pub packed-requires-clause-world : goal.packed-requires-clause-world
packed-requires-clause-world c =
    let w = c.args.world.now in
    (names_kept w c.text_value.new.names c.text_value.ensures.extends c.text_value.ensures.texts c.requires.world).world

pub packed-requires-clause-values : goal.packed-requires-clause-values
packed-requires-clause-values c =
    let w = c.args.world.now in
    all_use_on w (with_names w c.text_value.new.names) (names_kept w c.text_value.new.names c.text_value.ensures.extends c.text_value.ensures.texts c.requires.world) c.args.args.now c.requires.args

pub returns-in-Ok-clause-runs : goal.returns-in-Ok-clause-runs
returns-in-Ok-clause-runs c =
    let w = c.args.world.now in
    let v = with_names w c.text_value.new.names in
    let keeps = names_kept w c.text_value.new.names c.text_value.ensures.extends c.text_value.ensures.texts c.requires.world in
    pack_since v w c.packed.new.world c.args.args.now _ _ c.packed.result
    (names_store w c.text_value.new.names c.text_value.ensures.extends c.text_value.ensures.texts c.requires.world)
    (all_meant_on w v keeps c.args.args.now c.requires.args) c.packed.ensures.runs

pub returns-in-Ok-clause-keeps : goal.returns-in-Ok-clause-keeps
returns-in-Ok-clause-keeps c =
    let w = c.args.world.now in
    let v = with_names w c.text_value.new.names in
    let keeps = names_kept w c.text_value.new.names c.text_value.ensures.extends c.text_value.ensures.texts c.requires.world in
    keeps_on w v c.packed.new.world keeps c.packed.ensures.keeps

pub returns-in-Err-clause-keeps : goal.returns-in-Err-clause-keeps
returns-in-Err-clause-keeps c =
    names_kept c.args.world.now c.text_value.new.names c.text_value.ensures.extends c.text_value.ensures.texts c.requires.world
