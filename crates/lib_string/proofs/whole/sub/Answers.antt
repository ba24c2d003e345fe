use Rattle.std.proofs.Common.{map, negsuc, subst, ℤ, Ok, Err}
use Rattle.value_model.specs.Arguments as arg
use Rattle.value_model.specs.CoreRows.{gives}
use Rattle.value_model.specs.Parts.{meant}
use Rattle.value_model.specs.StringRows.{bytes_between}
use Rattle.value_model.specs.Values as m
use Rattle.value_model.specs.declared.builtin.Builtin.TheVariants.{StringSub}
use Rattle.luau_tables.specs.Worlds.{store_in}
use Rattle.lib_arguments.specs.Checks.{Checks}
use Rattle.lib_string.proofs.WholeRows.{Rest, text_of, text_then, text_ends, number_then, number_ends}
use Rattle.lib_string.proofs.whole.sub.Goals as goal

sub_rest : Rest
sub_rest args s bs = arg.number_at StringSub 1 args (λ i. arg.number_or StringSub 2 args (negsuc 0) (λ j. gives s (m.Text (bytes_between bs i j))))

pub returns-in-Err-clause-runs : goal.returns-in-Err-clause-runs
unfolding sub_rest
returns-in-Err-clause-runs c =
    text_ends StringSub sub_rest c.args.world.now c.text_at.new.world c.args.args.now c.requires.world c.in-Err.ensures.reads c.args.results.now.items c.in-Err.ending c.in-Err.ensures.checks

pub returns-in-Err-number_at-clause-runs : goal.returns-in-Err-number_at-clause-runs
unfolding sub_rest
returns-in-Err-number_at-clause-runs c =
    let b = c.text_at.new.world in
    let rs = c.args.results.now.items in
    let vs = map (meant b.names) c.args.args.now in
    text_then StringSub sub_rest c.args.world.now b c.args.args.now c.requires.world c.in-Ok.ensures.reads b rs rs (Err c.in-Err-number_at.ending) c.in-Ok.text c.in-Ok.ensures.checks
    (number_ends (arg.number_at StringSub 1 vs) (λ i. arg.number_or StringSub 2 vs (negsuc 0) (λ j. gives (store_in b) (m.Text (bytes_between (text_of b c.in-Ok.text) i j)))) b rs c.in-Err-number_at.ending c.in-Err-number_at.ensures.checks)

pub returns-in-Err-number_or-clause-runs : goal.returns-in-Err-number_or-clause-runs
unfolding sub_rest
returns-in-Err-number_or-clause-runs c =
    let b = c.text_at.new.world in
    let rs = c.args.results.now.items in
    let vs = map (meant b.names) c.args.args.now in
    let part = λ (i j : ℤ). gives (store_in b) (m.Text (bytes_between (text_of b c.in-Ok.text) i j)) in
    let e = c.in-Err-number_or.ending in
    let ends = number_ends (arg.number_or StringSub 2 vs (negsuc 0)) (part c.in-Ok-number_at.first) b rs e (subst (λ d. Checks {A = ℤ} b.names (λ z. z) (arg.number_or StringSub 2 vs d) (Err e)) c.whole.ensures c.in-Err-number_or.ensures) in
    text_then StringSub sub_rest c.args.world.now b c.args.args.now c.requires.world c.in-Ok.ensures.reads b rs rs (Err e) c.in-Ok.text c.in-Ok.ensures.checks
    (number_then (arg.number_at StringSub 1 vs) (λ i. arg.number_or StringSub 2 vs (negsuc 0) (part i)) b b rs rs (Err e) c.in-Ok-number_at.first c.in-Ok-number_at.ensures.checks ends)

pub returns-clause-runs : goal.returns-clause-runs
unfolding sub_rest
returns-clause-runs c =
    let b = c.text_at.new.world in
    let after = c.give_made.new.world in
    let rs = c.args.results.now.items in
    let rs' = c.give_made.new.results.items in
    let vs = map (meant b.names) c.args.args.now in
    let part = λ (i j : ℤ). gives (store_in b) (m.Text (bytes_between (text_of b c.in-Ok.text) i j)) in
    let i = c.in-Ok-number_at.first in
    let j = c.in-Ok-number_or.last in
    let done = c.give_made.result in
    let given = c.give_made.ensures.runs (bytes_between (text_of b c.in-Ok.text) i j) c.part_of.ensures in
    let last = number_then (arg.number_or StringSub 2 vs (negsuc 0)) (part i) b after rs rs' done j (subst (λ d. Checks {A = ℤ} b.names (λ z. z) (arg.number_or StringSub 2 vs d) (Ok j)) c.whole.ensures c.in-Ok-number_or.ensures) given in
    text_then StringSub sub_rest c.args.world.now b c.args.args.now c.requires.world c.in-Ok.ensures.reads after rs rs' done c.in-Ok.text c.in-Ok.ensures.checks
    (number_then (arg.number_at StringSub 1 vs) (λ i. arg.number_or StringSub 2 vs (negsuc 0) (part i)) b after rs rs' done i c.in-Ok-number_at.ensures.checks last)
