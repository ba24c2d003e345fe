use Rattle.std.proofs.Common.{◌≡◌, sym, subst}
use Rattle.value_model.specs.declared.ids.Owner.{Owner}
use Rattle.value_model.specs.declared.ids.TableId.{TableId}
use Rattle.value_arena.specs.Arenas.{ArenaView, HasTable, new_table}
use Rattle.value_arena.proofs.Growing.{table_stays, new_table_grows}
use Rattle.luau_tables_tests.proofs.tests.parts.Goals as goal

-- a table stays, where one more is made
stays : (a b : ArenaView) (w : Owner) (t : TableId) → b ≡ new_table a w → HasTable a t → HasTable b t
stays a b w t e h = subst (λ a. HasTable a t) (sym e) (table_stays a (new_table a w) t (new_table_grows a w) h)

pub store_one-requires-clause-other : goal.store_one-requires-clause-other
store_one-requires-clause-other g c = stays c.new_table.new.self _ _ c.in_ok-other.other c.in_ok-t.ensures.made c.in_ok-other.ensures.there
