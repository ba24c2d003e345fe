use Rattle.std.proofs.Common.{◌<◌, length, sym, ◌∙◌, ap, subst, arith}
use Rattle.value_arena.specs.Arenas.{new_table, next_table}
use Rattle.std.specs.List.{AllByRecursion}
use Rattle.value_model.specs.declared.ids.Owner.TheVariants as owner
use Rattle.luau_tables.specs.Own.{IsOwn}
use Rattle.luau_tables.specs.declared.globals.Globals.{Globals}
use Rattle.luau_tables.proofs.FirstPart.{first_part}
use Rattle.first_world.proofs.Worlds.{is_first}
use Rattle.first_world.proofs.world.first_world.Goals as goal

pub returns : goal.returns
returns c =
    let texts = c.meta_names.new.names in
    let first = is_first c.new_table.new.self c.freeze.new.self c.new_table-2.new.self c.freeze-2.new.self c.in_ok-table.table c.in_ok-string_meta.string_meta
    (c.in_ok-table.ensures.made ∙ ap (λ a. new_table a owner.Frozen) c.new-arena.ensures)
    (c.in_ok-table.ensures.id ∙ ap (λ a. next_table a owner.Frozen) c.new-arena.ensures)
    c.freeze.ensures c.in_ok-string_meta.ensures.made c.in_ok-string_meta.ensures.id c.freeze-2.ensures in
    let g : Globals = record {
      table = c.in_ok-table.table;
      string_meta = c.in_ok-string_meta.string_meta;
      paths = c.new.result;
      hosts = c.new-2.result;
      meta = c.in_ok-meta.meta;
    } in
    record {
      owner = omega arith;
      own =
          subst (λ a. IsOwn texts g a (owner.Script 0)) (sym first.arena)
          (first_part texts g (owner.Script 0) tt c.meta_names.ensures.texts
          (record {
            table = first.table;
            string_meta = first.string_meta;
            names = c.in_ok-meta.ensures.names;
            paths = subst (AllByRecursion (λ p. p.1.0 < length texts)) (sym c.new.ensures.items) tt;
            hosts = subst (AllByRecursion (λ x. x.0 < length texts)) (sym c.new-2.ensures.items) tt;
          }));
    }
