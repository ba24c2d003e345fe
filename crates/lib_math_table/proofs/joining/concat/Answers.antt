use Rattle.value_model.specs.declared.value.Value.TheVariants.{Table}
use Rattle.luau_tables.proofs.WorldsKept.{all_use_on, all_meant_on, may_use_on, keeps_on}
use Rattle.lib_arguments.proofs.NamesKept.{with_names, names_kept, names_store}
use Rattle.lib_arguments.proofs.RowsRun.{found, found_fails, ends, ends_runs, used_at, have_texts}
use Rattle.lib_math_table.proofs.ElementTexts.{concat_since}
use Rattle.lib_math_table.proofs.joining.concat.Goals as goal

pub returns-in-Err-clause-runs : goal.returns-in-Err-clause-runs
returns-in-Err-clause-runs c = ends _ _ c.in-Err.e _ (c.in-Err.ensures.checks c.args.world.now.names _)

pub text_or-requires-clause-texts : goal.text_or-requires-clause-texts
text_or-requires-clause-texts c = have_texts c.args.world.now c.args.args.now c.requires.args

pub concat_with-requires-clause-world : goal.concat_with-requires-clause-world
concat_with-requires-clause-world c =
    (names_kept c.args.world.now c.text_or.new.names c.text_or.ensures.extends c.text_or.ensures.texts c.requires.world).world

pub concat_with-requires-clause-table : goal.concat_with-requires-clause-table
concat_with-requires-clause-table c =
    let w = c.args.world.now in
    may_use_on w (with_names w c.text_or.new.names) (names_kept w c.text_or.new.names c.text_or.ensures.extends c.text_or.ensures.texts c.requires.world)
    (Table c.in-Ok.t)
    (used_at w _ 0 _ c.requires.args c.in-Ok.ensures.there)

pub concat_with-requires-clause-args : goal.concat_with-requires-clause-args
concat_with-requires-clause-args c =
    let w = c.args.world.now in
    all_use_on w (with_names w c.text_or.new.names)
    (names_kept w c.text_or.new.names c.text_or.ensures.extends c.text_or.ensures.texts c.requires.world) c.args.args.now c.requires.args

pub returns-in-Ok-text_or-clause-runs : goal.returns-in-Ok-text_or-clause-runs
returns-in-Ok-text_or-clause-runs c =
    let w = c.args.world.now in
    let v = with_names w c.text_or.new.names in
    let u = c.concat_with.new.world in
    let r = c.concat_with.result in
    let keeps = names_kept w c.text_or.new.names c.text_or.ensures.extends c.text_or.ensures.texts c.requires.world in
    found _ w u _ _ r (c.in-Ok.ensures.checks w.names) (found _ w u _ _ r c.in-Ok-text_or.ensures.checks
    (concat_since v w u c.in-Ok.t _ c.args.args.now _ _ r
    (names_store w c.text_or.new.names c.text_or.ensures.extends c.text_or.ensures.texts c.requires.world)
    (all_meant_on w v keeps c.args.args.now c.requires.args) c.concat_with.ensures.runs))

pub returns-in-Ok-text_or-clause-keeps : goal.returns-in-Ok-text_or-clause-keeps
returns-in-Ok-text_or-clause-keeps c =
    let w = c.args.world.now in
    keeps_on w (with_names w c.text_or.new.names) c.concat_with.new.world
    (names_kept w c.text_or.new.names c.text_or.ensures.extends c.text_or.ensures.texts c.requires.world) c.concat_with.ensures.keeps

pub returns-in-Err-text_or-clause-runs : goal.returns-in-Err-text_or-clause-runs
returns-in-Err-text_or-clause-runs c =
    let w = c.args.world.now in
    let v = with_names w c.text_or.new.names in
    let e = c.in-Err-text_or.e in
    ends_runs w v _ e _ (names_store w c.text_or.new.names c.text_or.ensures.extends c.text_or.ensures.texts c.requires.world)
    (found_fails _ v.names e (c.in-Ok.ensures.checks w.names) (c.in-Err-text_or.ensures.checks _))

pub returns-in-Err-text_or-clause-keeps : goal.returns-in-Err-text_or-clause-keeps
returns-in-Err-text_or-clause-keeps c =
    names_kept c.args.world.now c.text_or.new.names c.text_or.ensures.extends c.text_or.ensures.texts c.requires.world
