use Rattle.luau_tables.specs.Worlds.{store_in}
use Rattle.value_model.specs.Parts.{table_ref}
use Rattle.lib_arguments.proofs.RowsRun.{found, found_fails, ends, used_at, used_or_nil, have_texts}
use Rattle.lib_math_table.proofs.Lists.{same_fails, same_runs}
use Rattle.lib_math_table.proofs.Moved.{into_is, target_used}
use Rattle.lib_math_table.proofs.moving.move_items.Goals as goal

pub returns-in-Err-clause-runs : goal.returns-in-Err-clause-runs
returns-in-Err-clause-runs c = ends _ _ c.in-Err.e _ (c.in-Err.ensures.checks c.args.world.now.names _)

pub number_at-requires-clause-texts : goal.number_at-requires-clause-texts
number_at-requires-clause-texts c = have_texts c.args.world.now c.args.args.now c.requires.args

pub number_at-requires-2-clause-texts : goal.number_at-requires-2-clause-texts
number_at-requires-2-clause-texts c = have_texts c.args.world.now c.args.args.now c.requires.args

pub number_at-requires-3-clause-texts : goal.number_at-requires-3-clause-texts
number_at-requires-3-clause-texts c = have_texts c.args.world.now c.args.args.now c.requires.args

pub returns-in-Err-number_at-clause-runs : goal.returns-in-Err-number_at-clause-runs
returns-in-Err-number_at-clause-runs c =
    let w = c.args.world.now in
    let e = c.in-Err-number_at.e in
    ends w _ e _ (found_fails _ w.names e (c.in-Ok.ensures.checks w.names) (c.in-Err-number_at.ensures _))

pub returns-in-Err-number_at-2-clause-runs : goal.returns-in-Err-number_at-2-clause-runs
returns-in-Err-number_at-2-clause-runs c =
    let w = c.args.world.now in
    let e = c.in-Err-number_at-2.e in
    ends w _ e _ (found_fails _ w.names e (c.in-Ok.ensures.checks w.names) (found_fails _ w.names e c.in-Ok-number_at.ensures (c.in-Err-number_at-2.ensures _)))

pub returns-in-Err-number_at-3-clause-runs : goal.returns-in-Err-number_at-3-clause-runs
returns-in-Err-number_at-3-clause-runs c =
    let w = c.args.world.now in
    let e = c.in-Err-number_at-3.e in
    ends w _ e _
    (found_fails _ w.names e (c.in-Ok.ensures.checks w.names) (found_fails _ w.names e c.in-Ok-number_at.ensures (found_fails _ w.names e c.in-Ok-number_at-2.ensures (c.in-Err-number_at-3.ensures _))))

pub returns-in-Err-target-clause-runs : goal.returns-in-Err-target-clause-runs
returns-in-Err-target-clause-runs c =
    let w = c.args.world.now in
    let e = c.in-Err-target.e in
    ends w _ e _
    (found_fails _ w.names e (c.in-Ok.ensures.checks w.names) (found_fails _ w.names e c.in-Ok-number_at.ensures (found_fails _ w.names e c.in-Ok-number_at-2.ensures (found_fails _ w.names e c.in-Ok-number_at-3.ensures
    (same_fails w.names _ _ e (into_is (store_in w) (table_ref c.in-Ok.t) c.in-Ok-number_at.n c.in-Ok-number_at-2.n c.in-Ok-number_at-3.n _) (c.in-Err-target.ensures.checks w.names _))))))

pub move_to-requires-clause-from : goal.move_to-requires-clause-from
move_to-requires-clause-from c = used_at c.args.world.now _ 0 _ c.requires.args c.in-Ok.ensures.there

pub move_to-requires-clause-to : goal.move_to-requires-clause-to
move_to-requires-clause-to c =
    let w = c.args.world.now in
    target_used w c.in-Ok.t c.in-Ok-target.u _ c.in-Ok-target.ensures.there (used_at w _ 0 _ c.requires.args c.in-Ok.ensures.there) (used_or_nil w c.args.args.now 4 c.requires.args)

pub returns-clause-runs : goal.returns-clause-runs
returns-clause-runs c =
    let w = c.args.world.now in
    let v = c.move_to.new.world in
    let r = c.move_to.result in
    found _ w v _ _ r (c.in-Ok.ensures.checks w.names) (found _ w v _ _ r c.in-Ok-number_at.ensures (found _ w v _ _ r c.in-Ok-number_at-2.ensures (found _ w v _ _ r c.in-Ok-number_at-3.ensures
    (same_runs w v _ _ r _ _ (into_is (store_in w) (table_ref c.in-Ok.t) c.in-Ok-number_at.n c.in-Ok-number_at-2.n c.in-Ok-number_at-3.n _)
    (found _ w v _ _ r (c.in-Ok-target.ensures.checks w.names) c.move_to.ensures.runs)))))
