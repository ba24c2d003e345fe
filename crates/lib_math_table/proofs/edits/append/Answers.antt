use Rattle.std.proofs.Common.{◌≡◌, ◌∙◌, Ok, Err, pos, false, ap, sym}
use Rattle.value_arena.specs.Arenas.{table_at}
use Rattle.value_arena.specs.Tables.{TableView}
use Rattle.value_model.specs.declared.error.RunErr.TheVariants.{ReadonlyTable}
use Rattle.value_model.specs.declared.value.Value.TheVariants.{Num}
use Rattle.luau_tables.specs.Rules as rule
use Rattle.lib_arguments.specs.declared.ending.Ending.TheVariants.{RunError, Stop}
use Rattle.lib_arguments.proofs.RowsRun.{ends, none_given}
use Rattle.lib_math_table.proofs.Changes.{with_changed, frozen_fails}
use Rattle.lib_math_table.proofs.Inserting.{append_is, append_stops, append_keeps, same_keeps, sum_is}
use Rattle.lib_math_table.proofs.edits.append.Goals as goal

pub returns-then-is_frozen-clause-runs : goal.returns-then-is_frozen-clause-runs
returns-then-is_frozen-clause-runs c rs =
    let w = c.args.world.now in
    ends w rs (RunError ReadonlyTable) _
    (frozen_fails w c.requires.world c.args.t c.requires.table _ (ap (λ (t : TableView). t.is_frozen) (sym c.table.ensures) ∙ sym c.is_frozen.ensures ∙ c.if-is_frozen.true))

pub returns-in-Err-clause-runs : goal.returns-in-Err-clause-runs
returns-in-Err-clause-runs c rs =
    let w = c.args.world.now in
    let thawed : (table_at w.arena c.args.t).is_frozen ≡ false = ap (λ (t : TableView). t.is_frozen) (sym c.table.ensures) ∙ sym c.is_frozen.ensures ∙ c.if-is_frozen.false in
    let end : c.end_of.result ≡ pos (rule.border (table_at w.arena c.args.t)) = c.end_of.ensures ∙ ap (λ (t : TableView). pos (rule.border t)) c.table-2.ensures in
    ends w rs (Stop c.in-Err.stop) _
    (append_stops w c.requires.world c.args.t c.requires.table _ c.in-Err.stop thawed (sum_is (Err c.in-Err.stop) _ _ _ (pos 1) c.in-Err.ensures end c.one.ensures))

pub returns-in-Ok-put-clause-runs : goal.returns-in-Ok-put-clause-runs
returns-in-Ok-put-clause-runs c rs =
    let w = c.args.world.now in
    let thawed : (table_at w.arena c.args.t).is_frozen ≡ false = ap (λ (t : TableView). t.is_frozen) (sym c.table.ensures) ∙ sym c.is_frozen.ensures ∙ c.if-is_frozen.false in
    let end : c.end_of.result ≡ pos (rule.border (table_at w.arena c.args.t)) = c.end_of.ensures ∙ ap (λ (t : TableView). pos (rule.border t)) c.table-2.ensures in
    let is : c.put.new.table ≡ rule.put (table_at w.arena c.args.t) (Num c.in-Ok.k) c.args.v = c.in-Ok-put.ensures.ok ∙ ap (λ t. rule.put t (Num c.in-Ok.k) c.args.v) c.table_mut.ensures.value in
    none_given w (with_changed w c.args.t c.put.new.table) rs tt _
    (append_is w c.requires.world c.args.t c.requires.table c.put.new.table c.args.v c.in-Ok.k thawed (sum_is (Ok c.in-Ok.k) _ _ _ (pos 1) c.in-Ok.ensures end c.one.ensures) is)

pub returns-in-Ok-put-clause-keeps : goal.returns-in-Ok-put-clause-keeps
returns-in-Ok-put-clause-keeps c =
    let w = c.args.world.now in
    let thawed : (table_at w.arena c.args.t).is_frozen ≡ false = ap (λ (t : TableView). t.is_frozen) (sym c.table.ensures) ∙ sym c.is_frozen.ensures ∙ c.if-is_frozen.false in
    append_keeps w c.requires.world c.args.t c.requires.table c.put.new.table c.args.v c.in-Ok.k c.requires.value thawed
    (c.in-Ok-put.ensures.ok ∙ ap (λ t. rule.put t (Num c.in-Ok.k) c.args.v) c.table_mut.ensures.value)

pub returns-in-Err-put-clause-keeps : goal.returns-in-Err-put-clause-keeps
returns-in-Err-put-clause-keeps c =
    same_keeps c.args.world.now c.requires.world c.args.t c.requires.table c.put.new.table (c.in-Err-put.ensures.err ∙ c.table_mut.ensures.value)
