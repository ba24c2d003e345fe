use Rattle.std.proofs.Common.{◌≡◌, false, take, pos}
use Rattle.value_arena.specs.Arenas.{table_at}
use Rattle.value_model.specs.Parts.{table_ref}
use Rattle.value_model.specs.Store.{empty_table, next_table, with_new_table}
use Rattle.value_model.specs.Tables.{put_all}
use Rattle.value_model.specs.declared.value.Value.TheVariants.{Table}
use Rattle.luau_tables.specs.Worlds.{Keeps, MayUseIn, store_in}
use Rattle.lib_string.specs.Pieces.{texts_at}
use Rattle.lib_string.proofs.split.table_of.Given as goal

abbrev pub invariant-loop-i : goal.invariant-loop-i
invariant-loop-i l = record {
  place : table_ref l.id ≡ next_table (store_in l.fn.world);
  usable : MayUseIn l.world (Table l.id);
  thawed : (table_at l.world.arena l.id).is_frozen ≡ false;
  names : l.world.names ≡ l.fn.world.names;
  store : store_in l.world ≡ with_new_table (store_in l.fn.world) (put_all empty_table (pos 1) (texts_at l.fn.world.names (take l.i l.texts)));
  keeps : Keeps l.fn.world l.world;
}
