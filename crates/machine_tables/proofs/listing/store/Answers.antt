use Rattle.std.proofs.Common.{pos, refl, sym, ◌∙◌, ap}
use Rattle.value_arena.specs.Arenas.{table_at, with_table}
use Rattle.value_arena.specs.Tables.{TableView}
use Rattle.machine_meaning.specs.Moves.{go}
use Rattle.machine_world.proofs.Going.{runs_on}
use Rattle.machine_world.proofs.Here.{row_passes}
use Rattle.table_lists.specs.Lists.{put_all}
use Rattle.machine_tables.proofs.Listed.{empty_list, some_list, does_empty_list, does_frozen_list, does_list, stored_keeps, stored_sound}
use Rattle.machine_tables.proofs.listing.store.Goals as goal

pub returns-then-is_empty-clause-makes : goal.returns-then-is_empty-clause-makes
returns-then-is_empty-clause-makes c = λ chunk.
    let w = c.args.world.now in
    let k = c.args.machine.now in
    does_empty_list chunk w k.code k.stack c.requires.sound c.args.id c.requires.table c.args.count c.args.from c.args.key c.args.next c.list-values.result.now (runs_on k.stack c.requires.goes) c.list-values.ensures.values c.go.new.self.stack (empty_list c.list-values.result.now c.if-is_empty.ensures)
    (row_passes w k.code k.code k.stack c.go.new.self.stack (go c.args.next) c.args.next c.requires.goes refl c.go.ensures.placed (λ replies h. refl))

pub returns-then-is_frozen-clause-makes : goal.returns-then-is_frozen-clause-makes
returns-then-is_frozen-clause-makes c = λ chunk.
    let w = c.args.world.now in
    let k = c.args.machine.now in
    does_frozen_list chunk w k.code k.stack c.requires.sound c.args.id c.requires.table c.args.count c.args.from c.args.key c.args.next c.list-values.result.now (runs_on k.stack c.requires.goes) c.list-values.ensures.values (some_list c.list-values.result.now c.if-is_empty.ensures)
    (ap (λ (x : TableView). x.is_frozen) (sym c.table.ensures) ∙ sym c.is_frozen.ensures ∙ c.if-is_frozen.true)

pub go-requires-2-clause-sound : goal.go-requires-2-clause-sound
go-requires-2-clause-sound c =
    let w = c.args.world.now in
    let k = c.args.machine.now in
    let t = c.args.id in
    let vs = c.list-values.result.now in
    let e = ap (with_table w.arena t) (c.in_ok-put_all.ensures.ok ∙ ap (λ x. put_all x c.whole.result vs) c.table_mut.ensures.value ∙ ap (λ z. put_all (table_at w.arena t) z vs) c.whole.ensures) in
    let thawed = ap (λ (x : TableView). x.is_frozen) (sym c.table.ensures) ∙ sym c.is_frozen.ensures ∙ c.if-is_frozen.false in
    stored_sound w k.stack c.requires.sound t c.requires.table (pos c.args.key) vs (with_table w.arena t c.put_all.new.table) e thawed c.list-values.ensures.usable

pub returns-clause-makes : goal.returns-clause-makes
returns-clause-makes c = λ chunk.
    let w = c.args.world.now in
    let k = c.args.machine.now in
    let t = c.args.id in
    let vs = c.list-values.result.now in
    let b = with_table w.arena t c.put_all.new.table in
    let e = ap (with_table w.arena t) (c.in_ok-put_all.ensures.ok ∙ ap (λ x. put_all x c.whole.result vs) c.table_mut.ensures.value ∙ ap (λ z. put_all (table_at w.arena t) z vs) c.whole.ensures) in
    let thawed = ap (λ (x : TableView). x.is_frozen) (sym c.table.ensures) ∙ sym c.is_frozen.ensures ∙ c.if-is_frozen.false in
    does_list chunk w k.code k.stack c.requires.sound t c.requires.table c.args.count c.args.from c.args.key c.args.next vs (runs_on k.stack c.requires.goes) c.list-values.ensures.values b e thawed c.list-values.ensures.usable c.go-2.new.self.stack
    (row_passes (record w { arena = b }) k.code k.code k.stack c.go-2.new.self.stack (go c.args.next) c.args.next c.requires.goes refl c.go-2.ensures.placed (λ replies h. refl))

pub returns-clause-keeps : goal.returns-clause-keeps
returns-clause-keeps c =
    let w = c.args.world.now in
    let k = c.args.machine.now in
    let t = c.args.id in
    let vs = c.list-values.result.now in
    let e = ap (with_table w.arena t) (c.in_ok-put_all.ensures.ok ∙ ap (λ x. put_all x c.whole.result vs) c.table_mut.ensures.value ∙ ap (λ z. put_all (table_at w.arena t) z vs) c.whole.ensures) in
    let thawed = ap (λ (x : TableView). x.is_frozen) (sym c.table.ensures) ∙ sym c.is_frozen.ensures ∙ c.if-is_frozen.false in
    stored_keeps w k.stack c.requires.sound t c.requires.table (pos c.args.key) vs (with_table w.arena t c.put_all.new.table) e thawed c.list-values.ensures.usable
