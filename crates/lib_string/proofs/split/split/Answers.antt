use Rattle.std.proofs.Common.{[], ◌∷◌, map, pos, sym, ap, ◌∙◌, Err}
use Rattle.luau_tables.proofs.MoreTexts.{bytes_more}
use Rattle.luau_tables.specs.Worlds.{store_in}
use Rattle.lib_arguments.proofs.RowsRun.{gives_runs}
use Rattle.value_model.specs.Answers as model
use Rattle.value_model.specs.Arguments as arg
use Rattle.value_model.specs.Parts.{meant, table_ref}
use Rattle.value_model.specs.Store.{Store, empty_table, with_new_table}
use Rattle.value_model.specs.StringRows as row
use Rattle.value_model.specs.Tables.{put_all}
use Rattle.value_model.specs.Values as m
use Rattle.value_model.specs.Values.{Bytes}
use Rattle.value_model.specs.declared.builtin.Builtin.TheVariants.{StringSplit}
use Rattle.value_model.specs.declared.value.Value.TheVariants.{Table}
use Rattle.lib_string.proofs.AddedTexts.{look_runs, look_stops}
use Rattle.lib_string.proofs.WholeRows.{Rest, text_of, text_then, text_ends}
use Rattle.lib_string.proofs.split.split.Goals as goal

split_into : Bytes → Store → Bytes → model.LibAnswer
split_into bs s sep = row.new_table s (put_all empty_table (pos 1) (map (λ piece. m.Text piece) (row.split_at sep bs)))

split_rest : Rest
split_rest args s bs = arg.text_or StringSplit 1 args (44 ∷ []) (split_into bs s)

pub returns-in-Err-clause-runs : goal.returns-in-Err-clause-runs
unfolding split_rest split_into
returns-in-Err-clause-runs c =
    text_ends StringSplit split_rest c.args.world.now c.text_at.new.world c.args.args.now c.requires.world c.in-Err.ensures.reads c.args.results.now.items c.in-Err.ending c.in-Err.ensures.checks

pub returns-in-Err-text_or-clause-runs : goal.returns-in-Err-text_or-clause-runs
unfolding split_rest split_into
returns-in-Err-text_or-clause-runs c =
    let b = c.text_at.new.world in
    let d = c.text_or.new.world in
    let rs = c.args.results.now.items in
    let e = c.in-Err-text_or.ending in
    text_then StringSplit split_rest c.args.world.now b c.args.args.now c.requires.world c.in-Ok.ensures.reads d rs rs (Err e) c.in-Ok.text c.in-Ok.ensures.checks
    (look_stops (text_of d) (arg.text_or StringSplit 1 (map (meant b.names) c.args.args.now) (44 ∷ [])) (split_into (text_of b c.in-Ok.text)) b d c.in-Ok.ensures.reads.world c.in-Err-text_or.ensures.reads.adds rs e c.in-Err-text_or.ensures.checks)

pub returns-in-Ok-split_at-clause-runs : goal.returns-in-Ok-split_at-clause-runs
unfolding split_rest split_into meant
returns-in-Ok-split_at-clause-runs c =
    let b = c.text_at.new.world in
    let d = c.text_or.new.world in
    let after = c.split_at.new.world in
    let rs = c.args.results.now.items in
    let rs' = c.give.new.results.items in
    let text = c.in-Ok.text in
    let sep = c.in-Ok-text_or.separator in
    let t = c.in-Ok-split_at.table in
    let made = c.in-Ok-split_at.ensures in
    let more = c.in-Ok-text_or.ensures.reads.adds in
    let same = bytes_more b.names d.names more.extends text.0 c.in-Ok.ensures.number in
    let given = gives_runs d after rs rs' (Table t ∷ []) c.give.result (split_into (text_of b text) (store_in d) (text_of d sep)) c.give.ensures (made.table.1, tt)
    (ap (λ r. model.Answers (m.Table r ∷ []) (with_new_table (store_in d) (put_all empty_table (pos 1) (map (λ p. m.Text p) (row.split_at (text_of d sep) (text_of b text)))))) (sym made.table.0)
    ∙ ap (λ (bs : Bytes). model.Answers (m.Table (table_ref t) ∷ []) (with_new_table (store_in d) (put_all empty_table (pos 1) (map (λ p. m.Text p) (row.split_at (text_of d sep) bs))))) (sym same)
    ∙ ap (λ s. model.Answers (m.Table (table_ref t) ∷ []) s) (sym made.store)) in
    text_then StringSplit split_rest c.args.world.now b c.args.args.now c.requires.world c.in-Ok.ensures.reads after rs rs' c.give.result text c.in-Ok.ensures.checks
    (look_runs (text_of d) (arg.text_or StringSplit 1 (map (meant b.names) c.args.args.now) (44 ∷ [])) (split_into (text_of b text)) b d c.in-Ok.ensures.reads.world more after rs rs' c.give.result sep c.in-Ok-text_or.ensures.checks given)
