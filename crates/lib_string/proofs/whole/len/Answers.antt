use Rattle.std.proofs.Common.{length, pos, subst}
use Rattle.value_model.specs.CoreRows.{gives}
use Rattle.value_model.specs.Values as m
use Rattle.value_model.specs.declared.builtin.Builtin.TheVariants.{StringLen}
use Rattle.luau_tables.specs.Worlds.{store_in}
use Rattle.lib_arguments.specs.Rows.{Runs}
use Rattle.lib_string.proofs.WholeRows.{Rest, text_then, text_ends}
use Rattle.lib_string.proofs.whole.len.Goals as goal

len_rest : Rest
len_rest args s bs = gives s (m.Number (pos (length bs)))

pub returns-in-Err-clause-runs : goal.returns-in-Err-clause-runs
unfolding len_rest
returns-in-Err-clause-runs c =
    text_ends StringLen len_rest c.args.world.now c.text_at.new.world c.args.args.now c.requires.world c.in-Err.ensures.reads c.args.results.now.items c.in-Err.ending c.in-Err.ensures.checks

pub returns-clause-runs : goal.returns-clause-runs
unfolding len_rest
returns-clause-runs c =
    let b = c.text_at.new.world in
    let rs = c.args.results.now.items in
    let rs' = c.give_number.new.results.items in
    text_then StringLen len_rest c.args.world.now b c.args.args.now c.requires.world c.in-Ok.ensures.reads b rs rs' c.give_number.result c.in-Ok.text c.in-Ok.ensures.checks
    (subst (λ z. Runs b b rs rs' c.give_number.result (gives (store_in b) (m.Number z))) c.length_of.ensures c.give_number.ensures)
