use Rattle.std.proofs.Common.{ap, ◌∙◌, get_or, length, refl, set}
use Rattle.value_model.specs.Owners.{wide}
use Rattle.value_arena.specs.Tables.{no_table}
use Rattle.value_arena.specs.Arenas as spec
use Rattle.value_arena.proofs.Reaching.{owner_there, objects_read, changed}
use Rattle.value_arena.proofs.arena.Arena.table_mut.Goals as goal

pub returns : goal.returns
unfolding spec.table_at spec.with_table spec.HasTable
returns c =
    let os = c.self.inside.owners.items in
    let r = c.self.inside.running in
    let w = wide c.args.id.owner in
    let there = owner_there (λ o. length o.tables) refl os r c.args.self.now w c.args.id.place c.self.view_is c.requires in (
      (refl, λ v. changed os os r c.args.self.now w c.slot_of-slot.result c.index_mut-objects.result.now (record c.index_mut-objects.result.now { tables = set c.index_mut-objects.result.now.tables c.args.id.place v }) (λ o. record o { tables = set o.tables c.args.id.place v }) c.self.view_is refl c.slot_of-slot.ensures there c.index_mut-objects.ensures.value refl),
      record {
        writes_back = tt;
        value = c.table_mut.ensures.value ∙ ap (λ o. get_or o.tables c.args.id.place no_table)
            (objects_read os r c.args.self.now w c.slot_of-slot.result c.index_mut-objects.result.now c.self.view_is c.slot_of-slot.ensures there c.index_mut-objects.ensures.value);
      },
    )
