use Rattle.std.proofs.Common.{[], subst, sym}
use Rattle.std.proofs.lemmas.Option.{get_or_from_slice_get}
use Rattle.std.specs.Prelude.{◌≡◌, IfOk}
use Rattle.value_model.specs.CoreRows.{gives}
use Rattle.value_model.specs.Values as m
use Rattle.value_model.specs.Values.{Bytes}
use Rattle.value_model.specs.declared.builtin.Builtin.{Builtin}
use Rattle.lib_string.specs.Changes.{changed}
use Rattle.lib_string.proofs.WholeRows.{Rest, text_of, text_then, text_ends}
use Rattle.lib_string.proofs.whole.change.Goals as goal

change_rest : Builtin → Rest
change_rest f args s bs = gives s (m.Text (changed f bs))

pub returns-in-Err-clause-runs : goal.returns-in-Err-clause-runs
unfolding change_rest
returns-in-Err-clause-runs c =
    text_ends c.args.f (change_rest c.args.f) c.args.world.now c.text_at.new.world c.args.args.now c.requires.world c.in-Err.ensures.reads c.args.results.now.items c.in-Err.ending c.in-Err.ensures.checks

pub returns-clause-runs : goal.returns-clause-runs
unfolding change_rest
returns-clause-runs c =
    let f = c.args.f in
    let b = c.text_at.new.world in
    let same = sym (get_or_from_slice_get b.names c.in-Ok.text.0 c.bytes.result.now [] c.bytes.ensures.text) in
    text_then f (change_rest f) c.args.world.now b c.args.args.now c.requires.world c.in-Ok.ensures.reads c.give_made.new.world c.args.results.now.items c.give_made.new.results.items c.give_made.result c.in-Ok.text c.in-Ok.ensures.checks
    (c.give_made.ensures.runs (changed f (text_of b c.in-Ok.text)) (subst (λ (bs : Bytes). IfOk c.changed.result (λ v. v.items ≡ changed f bs)) same c.changed.ensures))
