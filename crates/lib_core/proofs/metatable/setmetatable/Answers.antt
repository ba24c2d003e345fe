use Rattle.std.proofs.Common.{sym, ◌∙◌}
use Rattle.value_model.specs.Parts.{meant, table_ref}
use Rattle.value_model.specs.declared.error.RunErr.TheVariants as err
use Rattle.lib_arguments.specs.declared.ending.Ending.TheVariants.{RunError}
use Rattle.lib_arguments.proofs.RowsRun.{found, found_fails, ends, used_at}
use Rattle.lib_core.proofs.MetaRows.{meta_fails, meta_runs, protected_fails, frozen_fails, meta_gives, meta_keeps, given_usable}
use Rattle.lib_core.proofs.SetRows.{refused}
use Rattle.lib_core.proofs.metatable.setmetatable.Goals as goal

pub returns-in-Err-clause-runs : goal.returns-in-Err-clause-runs
returns-in-Err-clause-runs c = ends _ _ c.in-Err.e _ (c.in-Err.ensures.checks c.args.world.now.names _)

pub returns-in-Err-wanted-clause-runs : goal.returns-in-Err-wanted-clause-runs
returns-in-Err-wanted-clause-runs c =
    let texts = c.args.world.now.names in
    ends _ _ c.in-Err-wanted.e _ (found_fails _ texts _ (c.in-Ok.ensures.checks texts) (c.in-Err-wanted.ensures.checks texts _))

pub returns-in-Err-meta_given-clause-runs : goal.returns-in-Err-meta_given-clause-runs
returns-in-Err-meta_given-clause-runs c =
    let w = c.args.world.now in
    let texts = w.names in
    ends w _ c.in-Err-meta_given.e _ (found_fails _ texts _ (c.in-Ok.ensures.checks texts) (found_fails _ texts _ (c.in-Ok-wanted.ensures.checks texts)
    (meta_fails w c.requires.world (table_ref c.in-Ok.t) (meant texts c.in-Ok-wanted.given) c.in-Err-meta_given.e (c.in-Err-meta_given.ensures.checks texts _))))

pub is_protected-requires-clause-table : goal.is_protected-requires-clause-table
is_protected-requires-clause-table c = used_at c.args.world.now _ 0 _ c.requires.args c.in-Ok.ensures.there

pub returns-then-is_protected-clause-runs : goal.returns-then-is_protected-clause-runs
returns-then-is_protected-clause-runs c =
    let w = c.args.world.now in
    let texts = w.names in
    let e = RunError err.ProtectedMetatable in
    ends w _ e _ (found_fails _ texts e (c.in-Ok.ensures.checks texts) (found_fails _ texts e (c.in-Ok-wanted.ensures.checks texts)
    (meta_fails w c.requires.world (table_ref c.in-Ok.t) (meant texts c.in-Ok-wanted.given) e (found_fails _ texts e (c.in-Ok-meta_given.ensures.checks texts)
    (protected_fails w c.requires.world c.in-Ok.t _ (sym c.is_protected.ensures ∙ c.if-is_protected.true))))))

pub set_meta-requires : goal.set_meta-requires
set_meta-requires c = (used_at c.args.world.now _ 0 _ c.requires.args c.in-Ok.ensures.there).0.1

pub returns-in-Ok-set_meta-clause-runs : goal.returns-in-Ok-set_meta-clause-runs
returns-in-Ok-set_meta-clause-runs c =
    let w = c.args.world.now in
    let texts = w.names in
    let table = used_at w _ 0 _ c.requires.args c.in-Ok.ensures.there in
    let meta = given_usable w c.in-Ok-wanted.given c.in-Ok-meta_given.meta c.in-Ok-meta_given.ensures.there (used_at w _ 1 _ c.requires.args c.in-Ok-wanted.ensures.there) in
    let done = c.in-Ok-set_meta.ensures.ok in
    found _ w _ _ _ c.give.result (c.in-Ok.ensures.checks texts) (found _ w _ _ _ c.give.result (c.in-Ok-wanted.ensures.checks texts)
    (meta_runs w c.requires.world (table_ref c.in-Ok.t) (meant texts c.in-Ok-wanted.given) _ _ _ c.give.result (found _ w _ _ _ c.give.result (c.in-Ok-meta_given.ensures.checks texts)
    (meta_gives w c.requires.world c.in-Ok.t c.in-Ok-meta_given.meta c.set_meta.new.arena table done.0 meta done.1 _ _ c.give.result (sym c.is_protected.ensures ∙ c.if-is_protected.false) c.give.ensures))))

pub returns-in-Ok-set_meta-clause-keeps : goal.returns-in-Ok-set_meta-clause-keeps
returns-in-Ok-set_meta-clause-keeps c =
    let w = c.args.world.now in
    let texts = w.names in
    let table = used_at w _ 0 _ c.requires.args c.in-Ok.ensures.there in
    let meta = given_usable w c.in-Ok-wanted.given c.in-Ok-meta_given.meta c.in-Ok-meta_given.ensures.there (used_at w _ 1 _ c.requires.args c.in-Ok-wanted.ensures.there) in
    let done = c.in-Ok-set_meta.ensures.ok in
    meta_keeps w c.requires.world c.in-Ok.t c.in-Ok-meta_given.meta c.set_meta.new.arena table done.0 meta done.1

pub returns-in-Err-Frozen-clause-runs : goal.returns-in-Err-Frozen-clause-runs
returns-in-Err-Frozen-clause-runs c =
    let w = c.args.world.now in
    let texts = w.names in
    let table = used_at w _ 0 _ c.requires.args c.in-Ok.ensures.there in
    let e = RunError err.ReadonlyTable in
    refused w c.set_meta.new.arena _ e _ c.in-Err-Frozen.ensures.err (found_fails _ texts e (c.in-Ok.ensures.checks texts) (found_fails _ texts e (c.in-Ok-wanted.ensures.checks texts)
    (meta_fails w c.requires.world (table_ref c.in-Ok.t) (meant texts c.in-Ok-wanted.given) e (found_fails _ texts e (c.in-Ok-meta_given.ensures.checks texts)
    (frozen_fails w c.requires.world c.in-Ok.t _ (sym c.is_protected.ensures ∙ c.if-is_protected.false) table c.in-Err-Frozen.ensures.frozen)))))
