use Rattle.std.proofs.Common.{◌≡◌}
use Rattle.value_model.specs.declared.value.Value.TheVariants.{Table}
use Rattle.luau_tables.specs.Worlds.{Keeps, MayUseIn}
use Rattle.luau_tables.specs.declared.globals.LibWorld.{LibWorld}
use Rattle.luau_tables.proofs.WorldsKept.{keeps_on, may_use_on}
use Rattle.lib_math_table_tests.proofs.Usable.{named_keeps, meta_set_keeps, same_keeps}
use Rattle.lib_math_table_tests.proofs.tests.protect.Goals as goal

pub set_meta-requires : goal.set_meta-requires
set_meta-requires c =
    let a = c.args.world.now in
    let b : LibWorld = c.add_table.new.world in
    let d : LibWorld = record b { arena = c.write.new.arena } in
    let named = named_keeps b c.add_table.ensures.keeps.world c.in_ok-meta.meta c.write.new.arena c.in_ok-meta.ensures.usable c.in-Ok.ensures.answers.0 c.in-Ok.ensures.ok in
    (may_use_on b d named (Table c.args.t) (may_use_on a b c.add_table.ensures.keeps (Table c.args.t) c.requires.table)).0.1

pub returns-in-Ok-set_meta : goal.returns-in-Ok-set_meta
returns-in-Ok-set_meta c =
    let a = c.args.world.now in
    let b : LibWorld = c.add_table.new.world in
    let d : LibWorld = record b { arena = c.write.new.arena } in
    let named = named_keeps b c.add_table.ensures.keeps.world c.in_ok-meta.meta c.write.new.arena c.in_ok-meta.ensures.usable c.in-Ok.ensures.answers.0 c.in-Ok.ensures.ok in
    let used = may_use_on b d named (Table c.args.t) (may_use_on a b c.add_table.ensures.keeps (Table c.args.t) c.requires.table) in
    let set = c.in-Ok-set_meta.ensures.ok in
    keeps_on a b (record d { arena = c.set_meta.new.arena }) c.add_table.ensures.keeps (keeps_on b d (record d { arena = c.set_meta.new.arena }) named
    (meta_set_keeps d named.world c.args.t c.set_meta.new.arena used c.in_ok-meta.meta
    (may_use_on b d named (Table c.in_ok-meta.meta) c.in_ok-meta.ensures.usable) set.0 set.1))

pub returns-in-Err-set_meta : goal.returns-in-Err-set_meta
returns-in-Err-set_meta c =
    let a = c.args.world.now in
    let b : LibWorld = c.add_table.new.world in
    let d : LibWorld = record b { arena = c.write.new.arena } in
    let named = named_keeps b c.add_table.ensures.keeps.world c.in_ok-meta.meta c.write.new.arena c.in_ok-meta.ensures.usable c.in-Ok.ensures.answers.0 c.in-Ok.ensures.ok in
    let used = may_use_on b d named (Table c.args.t) (may_use_on a b c.add_table.ensures.keeps (Table c.args.t) c.requires.table) in
    keeps_on a b (record d { arena = c.set_meta.new.arena }) c.add_table.ensures.keeps (keeps_on b d (record d { arena = c.set_meta.new.arena }) named
    (same_keeps d named.world c.args.t c.set_meta.new.arena used c.in-Err-set_meta.ensures.err))
