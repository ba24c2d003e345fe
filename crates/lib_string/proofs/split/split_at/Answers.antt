use Rattle.std.proofs.Common.{◌≡◌, ◌<◌, List, length, map, pos, subst, sym, ap, ◌∙◌}
use Rattle.std.specs.List.{AllByRecursion}
use Rattle.byte_text.specs.declared.fixed.StrId.{StrId}
use Rattle.luau_tables.proofs.WorldsKept.{texts_keep, texts_store}
use Rattle.luau_tables.specs.Worlds.{MayUseIn, store_in}
use Rattle.std.specs.Prelude.{IfOk, OnOk}
use Rattle.value_model.specs.Parts.{bytes_at, table_ref}
use Rattle.value_model.specs.Store.{empty_table, next_table, with_new_table}
use Rattle.value_model.specs.StringRows as row
use Rattle.value_model.specs.Tables.{put_all}
use Rattle.value_model.specs.Values as m
use Rattle.value_model.specs.declared.value.Value.TheVariants.{Table}
use Rattle.lib_string.specs.Pieces.{texts_at}
use Rattle.lib_string.proofs.PieceTexts.{are_there, texts_are}
use Rattle.lib_string.proofs.split.split_at.Goals as goal

pub returns-in_err-pieces-clause-keeps : goal.returns-in_err-pieces-clause-keeps
returns-in_err-pieces-clause-keeps c =
    let w = c.args.world.now in
    texts_keep w c.requires.world c.pieces_of.new.names c.pieces_of.ensures.extends (c.pieces_of.ensures.texts c.requires.world.own.interned)

pub table_of-requires-clause-world : goal.table_of-requires-clause-world
table_of-requires-clause-world c =
    let w = c.args.world.now in
    (texts_keep w c.requires.world c.pieces_of.new.names c.pieces_of.ensures.extends (c.pieces_of.ensures.texts c.requires.world.own.interned)).world

pub table_of-requires-clause-texts : goal.table_of-requires-clause-texts
table_of-requires-clause-texts c =
    let names = c.pieces_of.new.names in
    subst (λ (ids : List StrId). AllByRecursion (λ id. id.0 < length names) ids) (sym c.as_slice.ensures.value)
    (are_there names c.in_ok-pieces.pieces.items _ c.in_ok-pieces.ensures.pieces)

pub returns-clause-table : goal.returns-clause-table
returns-clause-table c =
    let w = c.args.world.now in
    let names = c.pieces_of.new.names in
    let same = texts_store w c.requires.world names c.pieces_of.ensures.extends (c.pieces_of.ensures.texts c.requires.world.own.interned) in
    subst (λ s. IfOk c.table_of.result (λ t. (table_ref t ≡ next_table s) × MayUseIn c.table_of.new.world (Table t))) same c.table_of.ensures.table

pub returns-clause-store : goal.returns-clause-store
returns-clause-store c =
    let w = c.args.world.now in
    let names = c.pieces_of.new.names in
    let ids = c.in_ok-pieces.pieces.items in
    let after = store_in c.table_of.new.world in
    let pieces = row.split_at (bytes_at w.names c.args.separator.0) (bytes_at w.names c.args.text.0) in
    let same = texts_store w c.requires.world names c.pieces_of.ensures.extends (c.pieces_of.ensures.texts c.requires.world.own.interned) in
    let values = ap (λ ids. texts_at names ids) c.as_slice.ensures.value ∙ texts_are names ids pieces c.in_ok-pieces.ensures.pieces in
    subst (λ s. OnOk c.table_of.result (after ≡ with_new_table s (put_all empty_table (pos 1) (map (λ p. m.Text p) pieces)))) same
    (subst (λ vs. OnOk c.table_of.result (after ≡ with_new_table (store_in (record w { names = names })) (put_all empty_table (pos 1) vs))) values c.table_of.ensures.store)
