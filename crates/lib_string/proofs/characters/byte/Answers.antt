use Rattle.std.proofs.Common.{map, pos, subst, ℤ, Ok, Err}
use Rattle.value_model.specs.Answers as model
use Rattle.value_model.specs.Arguments as arg
use Rattle.value_model.specs.Parts.{meant}
use Rattle.value_model.specs.Store.{Store}
use Rattle.value_model.specs.StringRows.{byte_values, bytes_between}
use Rattle.value_model.specs.Values.{Bytes}
use Rattle.value_model.specs.declared.builtin.Builtin.TheVariants.{StringByte}
use Rattle.luau_tables.specs.Worlds.{store_in}
use Rattle.lib_arguments.specs.Checks.{Checks}
use Rattle.lib_string.proofs.WholeRows.{Rest, text_of, text_then, text_ends, number_then, number_ends}
use Rattle.lib_string.proofs.characters.byte.Goals as goal

values : Store → Bytes → ℤ → ℤ → model.LibAnswer
values s bs i j = byte_values s (bytes_between bs i j)

byte_rest : Rest
byte_rest args s bs = arg.number_or StringByte 1 args (pos 1) (λ i. arg.number_or StringByte 2 args i (values s bs i))

pub returns-in-Err-clause-runs : goal.returns-in-Err-clause-runs
unfolding byte_rest values
returns-in-Err-clause-runs c =
    text_ends StringByte byte_rest c.args.world.now c.text_at.new.world c.args.args.now c.requires.world c.in-Err.ensures.reads c.args.results.now.items c.in-Err.ending c.in-Err.ensures.checks

pub returns-in-Err-number_or-clause-runs : goal.returns-in-Err-number_or-clause-runs
unfolding byte_rest values
returns-in-Err-number_or-clause-runs c =
    let b = c.text_at.new.world in
    let rs = c.args.results.now.items in
    let vs = map (meant b.names) c.args.args.now in
    let e = c.in-Err-number_or.ending in
    let first = subst (λ d. Checks {A = ℤ} b.names (λ z. z) (arg.number_or StringByte 1 vs d) (Err e)) c.whole.ensures c.in-Err-number_or.ensures in
    text_then StringByte byte_rest c.args.world.now b c.args.args.now c.requires.world c.in-Ok.ensures.reads b rs rs (Err e) c.in-Ok.text c.in-Ok.ensures.checks
    (number_ends (arg.number_or StringByte 1 vs (pos 1)) (λ i. arg.number_or StringByte 2 vs i (values (store_in b) (text_of b c.in-Ok.text) i)) b rs e first)

pub returns-in-Err-number_or-2-clause-runs : goal.returns-in-Err-number_or-2-clause-runs
unfolding byte_rest values
returns-in-Err-number_or-2-clause-runs c =
    let b = c.text_at.new.world in
    let rs = c.args.results.now.items in
    let vs = map (meant b.names) c.args.args.now in
    let i = c.in-Ok-number_or.first in
    let e = c.in-Err-number_or-2.ending in
    let go = values (store_in b) (text_of b c.in-Ok.text) in
    let first = subst (λ d. Checks {A = ℤ} b.names (λ z. z) (arg.number_or StringByte 1 vs d) (Ok i)) c.whole.ensures c.in-Ok-number_or.ensures in
    text_then StringByte byte_rest c.args.world.now b c.args.args.now c.requires.world c.in-Ok.ensures.reads b rs rs (Err e) c.in-Ok.text c.in-Ok.ensures.checks
    (number_then (arg.number_or StringByte 1 vs (pos 1)) (λ i. arg.number_or StringByte 2 vs i (go i)) b b rs rs (Err e) i first
    (number_ends (arg.number_or StringByte 2 vs i) (go i) b rs e c.in-Err-number_or-2.ensures))

pub returns-clause-runs : goal.returns-clause-runs
unfolding byte_rest values
returns-clause-runs c =
    let b = c.text_at.new.world in
    let rs = c.args.results.now.items in
    let rs' = c.byte_values.new.results.items in
    let vs = map (meant b.names) c.args.args.now in
    let i = c.in-Ok-number_or.first in
    let j = c.in-Ok-number_or-2.last in
    let done = c.byte_values.result in
    let go = values (store_in b) (text_of b c.in-Ok.text) in
    let first = subst (λ d. Checks {A = ℤ} b.names (λ z. z) (arg.number_or StringByte 1 vs d) (Ok i)) c.whole.ensures c.in-Ok-number_or.ensures in
    text_then StringByte byte_rest c.args.world.now b c.args.args.now c.requires.world c.in-Ok.ensures.reads b rs rs' done c.in-Ok.text c.in-Ok.ensures.checks
    (number_then (arg.number_or StringByte 1 vs (pos 1)) (λ i. arg.number_or StringByte 2 vs i (go i)) b b rs rs' done i first
    (number_then (arg.number_or StringByte 2 vs i) (go i) b b rs rs' done j c.in-Ok-number_or-2.ensures c.byte_values.ensures))
