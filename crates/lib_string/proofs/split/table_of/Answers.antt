use Rattle.std.proofs.Common.{◌≡◌, ◌+◌, get_or, refl, sym, subst, ap, ◌∙◌, pos, take}
use Rattle.std.proofs.lemmas.List.{get_or_default, take_all}
use Rattle.value_arena.specs.Arenas.{ArenaView, HasTable, next_table, new_table, table_at}
use Rattle.value_arena.proofs.Growing.{new_table_at}
use Rattle.byte_text.specs.declared.fixed.StrId.{StrId}
use Rattle.value_model.specs.Parts.{meant, table_ref}
use Rattle.value_model.specs.Store as store
use Rattle.value_model.specs.Tables.{put, put_all}
use Rattle.value_model.specs.Values as m
use Rattle.value_model.specs.declared.ids.TableId.{TableId}
use Rattle.value_model.specs.declared.value.Value.TheVariants.{Str, Table}
use Rattle.luau_tables.proofs.WorldsKept.{keeps_on, may_use_on, new_table_is, new_table_keeps, new_table_store, new_table_use}
use Rattle.luau_tables.specs.Worlds.{Keeps, MayUseIn, store_in}
use Rattle.lib_string.specs.Pieces.{texts_at}
use Rattle.lib_string.proofs.ListedTables.{text_put}
use Rattle.lib_string.proofs.split.table_of.Goals as goal

pub loop-i-init : goal.loop-i-init
loop-i-init c =
    let w = c.args.world.now in
    let made = c.in_ok-id.ensures.made in
    let is : c.in_ok-id.id ≡ next_table w.arena w.owner = c.in_ok-id.ensures.id in
    let there = subst (λ (t : TableId). HasTable (new_table w.arena w.owner) t) is (subst (λ (a : ArenaView). HasTable a c.in_ok-id.id) made c.in_ok-id.ensures.there) in
    record {
      place = ap table_ref is ∙ new_table_is w c.requires.world;
      usable = subst (λ (a : ArenaView). MayUseIn (record w { arena = a }) (Table c.in_ok-id.id)) (sym made) (subst (λ (t : TableId). MayUseIn (record w { arena = new_table w.arena w.owner }) (Table t)) (sym is) (new_table_use w c.requires.world there));
      thawed = ap (λ (a : ArenaView). (table_at a c.in_ok-id.id).is_frozen) made ∙ ap (λ t. (table_at (new_table w.arena w.owner) t).is_frozen) is ∙ ap (λ x. x.is_frozen) (new_table_at w.arena w.owner there);
      names = refl;
      store = ap (λ (a : ArenaView). store_in (record w { arena = a })) made ∙ new_table_store w c.requires.world there;
      keeps = subst (λ (a : ArenaView). Keeps w (record w { arena = a })) (sym made) (new_table_keeps w c.requires.world);
    }

pub loop-i-preserved : goal.loop-i-preserved
unfolding meant
loop-i-preserved c =
    let w = c.args.world.now in
    let inv = c.loop-i.invariant in
    let after = c.in_ok-put_item.ensures in
    let text : StrId = get_or c.args.texts.now c.loop-i.i (record { 0 = 0 }) in
    record {
      place = inv.place;
      usable = may_use_on c.loop-i.world c.put_item.new.world after.keeps (Table c.in_ok-id.id) inv.usable;
      thawed = after.thawed;
      names = after.names ∙ inv.names;
      store = after.store ∙ ap (λ ns. store.with_table (store_in c.loop-i.world) (table_ref c.in_ok-id.id) (put (store.table_at (store_in c.loop-i.world) (table_ref c.in_ok-id.id)) (m.Number (pos (c.loop-i.i + 1))) (meant ns (Str text)))) inv.names
          ∙ text_put w.names c.args.texts.now c.loop-i.i text (store_in c.loop-i.world) (store_in w) (table_ref c.in_ok-id.id) c.loop-i-test.true (get_or_default c.args.texts.now c.loop-i.i text (record { 0 = 0 }) c.loop-i-test.true) inv.store inv.place;
      keeps = keeps_on w c.loop-i.world c.put_item.new.world inv.keeps after.keeps;
    }

pub returns-clause-store : goal.returns-clause-store
returns-clause-store c =
    let all : take c.loop-i.i c.args.texts.now ≡ c.args.texts.now = take_all c.loop-i.i c.args.texts.now c.loop-i-test.false in
    c.loop-i.invariant.store ∙ ap (λ l. store.with_new_table (store_in c.args.world.now) (put_all store.empty_table (pos 1) (texts_at c.args.world.now.names l))) all
