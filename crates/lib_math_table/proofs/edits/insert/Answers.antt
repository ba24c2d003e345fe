use Rattle.std.proofs.Common.{◌<◌, ◌≤◌, ◌∙◌, length, Some, ap, sym, arith}
use Rattle.std.proofs.lemmas.Bool.Decides.{nat_tests}
use Rattle.std.proofs.lemmas.Grind.{common_steps}
use Rattle.std.proofs.lemmas.Option.{slice_get_past, slice_get-get_or}
use Rattle.value_model.specs.Parts.{meant, table_ref}
use Rattle.luau_tables.specs.Worlds.{store_in}
use Rattle.lib_arguments.proofs.Looks.{meant_at, absent_at}
use Rattle.lib_arguments.proofs.RowsRun.{found, ends, used_at, have_texts}
use Rattle.lib_math_table.proofs.Inserting.{without_place, with_place}
use Rattle.lib_math_table.proofs.Lists.{same_fails, same_runs}
use Rattle.lib_math_table.proofs.edits.insert.Goals as goal

pub returns-in-Err-clause-runs : goal.returns-in-Err-clause-runs
returns-in-Err-clause-runs c rs = ends _ _ c.in-Err.e _ (c.in-Err.ensures.checks c.args.world.now.names _)

pub append-requires-clause-table : goal.append-requires-clause-table
append-requires-clause-table c = used_at c.args.world.now _ 0 _ c.requires.args c.in-Ok.ensures.there

pub append-requires-clause-value : goal.append-requires-clause-value
append-requires-clause-value c = used_at c.args.world.now _ 1 _ c.requires.args c.in-Ok-any_at.ensures.there

pub number_at-requires-clause-texts : goal.number_at-requires-clause-texts
number_at-requires-clause-texts c = have_texts c.args.world.now c.args.args.now c.requires.args

pub returns-in-Ok-any_at-clause-runs : goal.returns-in-Ok-any_at-clause-runs
returns-in-Ok-any_at-clause-runs c rs =
    let w = c.args.world.now in
    let r = c.append.result in
    let past : length c.args.args.now ≤ 2 = grind (arith, common_steps) in
    let none = absent_at w.names c.args.args.now 2 (slice_get_past c.args.args.now 2 past) in
    same_runs w c.append.new.world rs rs r _ _ (without_place _ (store_in w) (table_ref c.in-Ok.t) (c.in-Ok.ensures.checks w.names) none)
    (found _ w c.append.new.world rs rs r (c.in-Ok-any_at.ensures.checks w.names) (c.append.ensures.runs rs))

pub returns-in-Err-any_at-clause-runs : goal.returns-in-Err-any_at-clause-runs
returns-in-Err-any_at-clause-runs c rs =
    let w = c.args.world.now in
    let e = c.in-Err-any_at.e in
    let past : length c.args.args.now ≤ 2 = grind (arith, common_steps) in
    let none = absent_at w.names c.args.args.now 2 (slice_get_past c.args.args.now 2 past) in
    ends w rs e _ (same_fails w.names _ _ e (without_place _ (store_in w) (table_ref c.in-Ok.t) (c.in-Ok.ensures.checks w.names) none) (c.in-Err-any_at.ensures.checks w.names _))

pub returns-in-Ok-number_at-clause-runs : goal.returns-in-Ok-number_at-clause-runs
returns-in-Ok-number_at-clause-runs c rs =
    let w = c.args.world.now in
    let r = c.insert_at.result in
    let within : 2 < length c.args.args.now = grind (arith, nat_tests) in
    let at = slice_get-get_or c.args.args.now 2 c.in-Some.v.now within ∙ ap (λ v. Some v) (sym c.in-Some.ensures.lookup.1) in
    same_runs w c.insert_at.new.world rs rs r _ _ (with_place _ (store_in w) (table_ref c.in-Ok.t) (meant w.names c.in-Some.v.now) (c.in-Ok.ensures.checks w.names) (meant_at w.names c.args.args.now 2 c.in-Some.v.now at))
    (found _ w c.insert_at.new.world rs rs r c.in-Ok-number_at.ensures (c.insert_at.ensures.runs rs))

pub returns-in-Err-number_at-clause-runs : goal.returns-in-Err-number_at-clause-runs
returns-in-Err-number_at-clause-runs c rs =
    let w = c.args.world.now in
    let e = c.in-Err-number_at.e in
    let within : 2 < length c.args.args.now = grind (arith, nat_tests) in
    let at = slice_get-get_or c.args.args.now 2 c.in-Some.v.now within ∙ ap (λ v. Some v) (sym c.in-Some.ensures.lookup.1) in
    ends w rs e _ (same_fails w.names _ _ e (with_place _ (store_in w) (table_ref c.in-Ok.t) (meant w.names c.in-Some.v.now) (c.in-Ok.ensures.checks w.names) (meant_at w.names c.args.args.now 2 c.in-Some.v.now at)) (c.in-Err-number_at.ensures _))
