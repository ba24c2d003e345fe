use Rattle.std.proofs.Common.{subst, sym, ap, ◌∙◌}
use Rattle.value_arena.proofs.Laws.{table_now}
use Rattle.value_arena.specs.Arenas.{ArenaView, table_at}
use Rattle.luau_tables.proofs.WorldsKept.{put_keeps, put_store}
use Rattle.luau_tables.specs.Rules as rule
use Rattle.luau_tables.specs.Worlds.{Keeps, store_in}
use Rattle.value_model.specs.Parts.{meant, table_ref}
use Rattle.value_model.specs.Store as store
use Rattle.value_model.specs.Tables.{put}
use Rattle.value_model.specs.Values as m
use Rattle.value_model.specs.declared.value.Value.TheVariants.{Num}
use Rattle.lib_string.proofs.split.put_item.Goals as goal

pub returns-in-Ok-clause-store : goal.returns-in-Ok-clause-store
unfolding meant
returns-in-Ok-clause-store c =
    let w = c.args.world.now in
    let t = c.args.id in
    let key = c.in_ok-key.key in
    let x = store.table_at (store_in w) (table_ref t) in
    ap (λ (a : ArenaView). store_in (record w { arena = a })) c.in-Ok.ensures.ok
    ∙ put_store w c.requires.world t (Num key) c.args.value c.requires.table (tt, tt)
    ∙ ap (λ z. store.with_table (store_in w) (table_ref t) (put x (m.Number z) (meant w.names c.args.value))) c.in_ok-key.ensures

pub returns-in-Ok-clause-thawed : goal.returns-in-Ok-clause-thawed
unfolding rule.put
returns-in-Ok-clause-thawed c =
    let w = c.args.world.now in
    let t = c.args.id in
    ap (λ (a : ArenaView). (table_at a t).is_frozen) c.in-Ok.ensures.ok
    ∙ ap (λ x. x.is_frozen) (table_now w.arena t (rule.put (table_at w.arena t) (Num c.in_ok-key.key) c.args.value) c.requires.table.0.1)
    ∙ c.requires.thawed

pub returns-in-Ok-clause-keeps : goal.returns-in-Ok-clause-keeps
returns-in-Ok-clause-keeps c =
    let w = c.args.world.now in
    subst (λ (a : ArenaView). Keeps w (record w { arena = a })) (sym c.in-Ok.ensures.ok)
    (put_keeps w c.requires.world c.args.id (Num c.in_ok-key.key) c.args.value c.requires.table c.requires.thawed (tt, tt) c.requires.value)
