use Rattle.std.proofs.Common.{◌≡◌, ◌∙◌, Some, None, ap}
use Rattle.std.proofs.lemmas.Result.{MatchResult-at_err}
use Rattle.value_arena.specs.Arenas.{table_at}
use Rattle.luau_tables.specs.Rules as rule
use Rattle.value_model.specs.declared.error.RunErr.TheVariants as err
use Rattle.lib_arguments.specs.declared.ending.Ending.TheVariants.{RunError}
use Rattle.lib_arguments.proofs.RowsRun.{found, found_fails, ends, used_at, used_given}
use Rattle.lib_core.proofs.WalkRows.{next_gives, walked, unknown_key}
use Rattle.lib_core.proofs.walk.next_entry.Goals as goal

pub returns-in-Err : goal.returns-in-Err
returns-in-Err c = ends _ _ c.in-Err.e _ (c.in-Err.ensures.checks c.args.world.now.names _)

pub next-requires : goal.next-requires
next-requires c = (used_at c.args.world.now _ 0 _ c.requires.args c.in-Ok.ensures.there).0.1

pub returns-in-Ok-Some : goal.returns-in-Ok-Some
returns-in-Ok-Some c =
    let w = c.args.world.now in
    let table = used_at w _ 0 _ c.requires.args c.in-Ok.ensures.there in
    let used = used_given w _ 1 c.argument_or_nil.result c.requires.args c.argument_or_nil.ensures.there in
    found _ w w _ _ c.give_all.result (c.in-Ok.ensures.checks w.names)
    (next_gives w c.requires.world c.in-Ok.t c.argument_or_nil.result _ table used (c.argument_or_nil.ensures.value w.names) _ _ c.give_all.result c.in-Ok-Some.key c.in-Ok-Some.v (c.in-Ok-Some.ensures ∙ ap (λ e. Some e) c.in-Ok-Some.field-0-is) c.give_all.ensures)

pub returns-in-Ok-None : goal.returns-in-Ok-None
returns-in-Ok-None c =
    let w = c.args.world.now in
    let table = used_at w _ 0 _ c.requires.args c.in-Ok.ensures.there in
    let used = used_given w _ 1 c.argument_or_nil.result c.requires.args c.argument_or_nil.ensures.there in
    found _ w w _ _ c.give.result (c.in-Ok.ensures.checks w.names)
    (walked w c.requires.world c.in-Ok.t c.argument_or_nil.result _ table used (c.argument_or_nil.ensures.value w.names) _ _ c.give.result (c.in-Ok-None.ensures ∙ ap (λ e. Some e) c.in-Ok-None.field-0-is) c.give.ensures)

pub returns-in-Err-UnknownKey : goal.returns-in-Err-UnknownKey
returns-in-Err-UnknownKey c =
    let w = c.args.world.now in
    let table = used_at w _ 0 _ c.requires.args c.in-Ok.ensures.there in
    let used = used_given w _ 1 c.argument_or_nil.result c.requires.args c.argument_or_nil.ensures.there in
    let none = MatchResult-at_err (λ e. rule.next (table_at w.arena c.in-Ok.t) c.argument_or_nil.result ≡ Some e) (λ e. rule.next (table_at w.arena c.in-Ok.t) c.argument_or_nil.result ≡ None) _ c.in-Err-UnknownKey.is c.next.ensures in
    ends w _ _ _ (found_fails _ w.names (RunError err.UnknownKey) (c.in-Ok.ensures.checks w.names)
    (unknown_key w c.requires.world c.in-Ok.t c.argument_or_nil.result _ table used (c.argument_or_nil.ensures.value w.names) none))
