use Rattle.std.proofs.Common.{subst, Err}
use Rattle.luau_tables.specs.Causes.{Answers}
use Rattle.value_arena.specs.Arenas.{table_at}
use Rattle.value_arena.specs.Tables.{is_nil}
use Rattle.value_model.specs.declared.error.RunErr.TheVariants as err
use Rattle.lib_arguments.specs.declared.ending.Ending.TheVariants.{RunError}
use Rattle.lib_arguments.proofs.RowsRun.{found, found_fails, ends, used_at}
use Rattle.lib_core.proofs.SetRows.{set_keeps, set_gives, set_frozen, set_nil, refused}
use Rattle.lib_core.proofs.raw.rawset.Goals as goal

pub returns-in-Err-clause-runs : goal.returns-in-Err-clause-runs
returns-in-Err-clause-runs c = ends _ _ c.in-Err.e _ (c.in-Err.ensures.checks c.args.world.now.names _)

pub returns-in-Err-any_at-clause-runs : goal.returns-in-Err-any_at-clause-runs
returns-in-Err-any_at-clause-runs c =
    let texts = c.args.world.now.names in
    ends _ _ c.in-Err-any_at.e _ (found_fails _ texts _ (c.in-Ok.ensures.checks texts) (c.in-Err-any_at.ensures.checks texts _))

pub returns-in-Err-any_at-2-clause-runs : goal.returns-in-Err-any_at-2-clause-runs
returns-in-Err-any_at-2-clause-runs c =
    let texts = c.args.world.now.names in
    ends _ _ c.in-Err-any_at-2.e _ (found_fails _ texts _ (c.in-Ok.ensures.checks texts) (found_fails _ texts _ (c.in-Ok-any_at.ensures.checks texts) (c.in-Err-any_at-2.ensures.checks texts _)))

pub write-requires : goal.write-requires
write-requires c = (used_at c.args.world.now _ 0 _ c.requires.args c.in-Ok.ensures.there).0.1

pub returns-in-Ok-write-clause-runs : goal.returns-in-Ok-write-clause-runs
returns-in-Ok-write-clause-runs c =
    let w = c.args.world.now in
    let done = c.in-Ok-write.ensures in
    found _ w _ _ _ c.give.result (c.in-Ok.ensures.checks w.names) (found _ w _ _ _ c.give.result (c.in-Ok-any_at.ensures.checks w.names) (found _ w _ _ _ c.give.result (c.in-Ok-any_at-2.ensures.checks w.names)
    (set_gives w c.requires.world c.in-Ok.t c.in-Ok-any_at.key c.in-Ok-any_at-2.v (used_at w _ 0 _ c.requires.args c.in-Ok.ensures.there)
    c.write.new.arena done.ok done.answers.0 (used_at w _ 1 _ c.requires.args c.in-Ok-any_at.ensures.there) (used_at w _ 2 _ c.requires.args c.in-Ok-any_at-2.ensures.there) _ _ c.give.result done.answers.1 c.give.ensures)))

pub returns-in-Ok-write-clause-keeps : goal.returns-in-Ok-write-clause-keeps
returns-in-Ok-write-clause-keeps c =
    let w = c.args.world.now in
    let done = c.in-Ok-write.ensures in
    set_keeps w c.requires.world c.in-Ok.t c.in-Ok-any_at.key c.in-Ok-any_at-2.v (used_at w _ 0 _ c.requires.args c.in-Ok.ensures.there)
    c.write.new.arena done.ok done.answers.0 (used_at w _ 1 _ c.requires.args c.in-Ok-any_at.ensures.there) (used_at w _ 2 _ c.requires.args c.in-Ok-any_at-2.ensures.there)

pub returns-in-Err-Frozen-clause-runs : goal.returns-in-Err-Frozen-clause-runs
returns-in-Err-Frozen-clause-runs c =
    let w = c.args.world.now in
    let texts = w.names in
    let frozen = subst (λ e. Answers (table_at w.arena c.in-Ok.t).is_frozen (is_nil c.in-Ok-any_at.key) (Err e)) c.in-Err-Frozen.field-0-is c.in-Err-Frozen.ensures.answers in
    refused w c.write.new.arena _ (RunError err.ReadonlyTable) _ c.in-Err-Frozen.ensures.err
    (found_fails _ texts (RunError err.ReadonlyTable) (c.in-Ok.ensures.checks texts) (found_fails _ texts (RunError err.ReadonlyTable) (c.in-Ok-any_at.ensures.checks texts) (found_fails _ texts (RunError err.ReadonlyTable) (c.in-Ok-any_at-2.ensures.checks texts)
    (set_frozen w c.requires.world c.in-Ok.t c.in-Ok-any_at.key c.in-Ok-any_at-2.v (used_at w _ 0 _ c.requires.args c.in-Ok.ensures.there) _ frozen))))

pub returns-in-Err-NilKey-clause-runs : goal.returns-in-Err-NilKey-clause-runs
returns-in-Err-NilKey-clause-runs c =
    let w = c.args.world.now in
    let texts = w.names in
    let nil = subst (λ e. Answers (table_at w.arena c.in-Ok.t).is_frozen (is_nil c.in-Ok-any_at.key) (Err e)) c.in-Err-NilKey.field-0-is c.in-Err-NilKey.ensures.answers in
    refused w c.write.new.arena _ (RunError err.NilKey) _ c.in-Err-NilKey.ensures.err
    (found_fails _ texts (RunError err.NilKey) (c.in-Ok.ensures.checks texts) (found_fails _ texts (RunError err.NilKey) (c.in-Ok-any_at.ensures.checks texts) (found_fails _ texts (RunError err.NilKey) (c.in-Ok-any_at-2.ensures.checks texts)
    (set_nil w c.requires.world c.in-Ok.t c.in-Ok-any_at.key c.in-Ok-any_at-2.v (used_at w _ 0 _ c.requires.args c.in-Ok.ensures.there) _ nil.0 nil.1))))
