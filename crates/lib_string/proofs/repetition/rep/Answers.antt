use Rattle.std.proofs.Common.{map, subst, ℕ, Err}
use Rattle.value_model.specs.Arguments as arg
use Rattle.value_model.specs.Parts.{meant}
use Rattle.value_model.specs.StringRows.{natural, rep_text}
use Rattle.value_model.specs.declared.builtin.Builtin.TheVariants.{StringRep}
use Rattle.luau_tables.specs.Worlds.{store_in}
use Rattle.lib_arguments.specs.Rows.{Runs}
use Rattle.lib_string.proofs.WholeRows.{Rest, text_of, text_then, text_ends, number_then, number_ends}
use Rattle.lib_string.proofs.repetition.rep.Goals as goal

rep_rest : Rest
rep_rest args s bs = arg.number_at StringRep 1 args (λ n. rep_text s bs (natural n))

pub returns-in-Err-clause-runs : goal.returns-in-Err-clause-runs
unfolding rep_rest
returns-in-Err-clause-runs c =
    text_ends StringRep rep_rest c.args.world.now c.text_at.new.world c.args.args.now c.requires.world c.in-Err.ensures.reads c.args.results.now.items c.in-Err.ending c.in-Err.ensures.checks

pub returns-in-Err-number_at-clause-runs : goal.returns-in-Err-number_at-clause-runs
unfolding rep_rest
returns-in-Err-number_at-clause-runs c =
    let b = c.text_at.new.world in
    let rs = c.args.results.now.items in
    let e = c.in-Err-number_at.ending in
    text_then StringRep rep_rest c.args.world.now b c.args.args.now c.requires.world c.in-Ok.ensures.reads b rs rs (Err e) c.in-Ok.text c.in-Ok.ensures.checks
    (number_ends (arg.number_at StringRep 1 (map (meant b.names) c.args.args.now)) (λ n. rep_text (store_in b) (text_of b c.in-Ok.text) (natural n)) b rs e c.in-Err-number_at.ensures.checks)

pub returns-clause-runs : goal.returns-clause-runs
unfolding rep_rest
returns-clause-runs c =
    let b = c.text_at.new.world in
    let after = c.rep_text.new.world in
    let rs = c.args.results.now.items in
    let rs' = c.rep_text.new.results.items in
    let row = λ (n : ℕ). rep_text (store_in b) (text_of b c.in-Ok.text) n in
    text_then StringRep rep_rest c.args.world.now b c.args.args.now c.requires.world c.in-Ok.ensures.reads after rs rs' c.rep_text.result c.in-Ok.text c.in-Ok.ensures.checks
    (number_then (arg.number_at StringRep 1 (map (meant b.names) c.args.args.now)) (λ n. row (natural n)) b after rs rs' c.rep_text.result c.in-Ok-number_at.count c.in-Ok-number_at.ensures.checks
    (subst (λ n. Runs b after rs rs' c.rep_text.result (row n)) c.natural.ensures c.rep_text.ensures.runs))
