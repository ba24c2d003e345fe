use Rattle.std.proofs.Common.{pos, map, sym, ◌∙◌, ap}
use Rattle.value_model.specs.Parts.{meant}
use Rattle.value_model.specs.Values as m
use Rattle.value_model.specs.declared.value.Value.TheVariants as value
use Rattle.op_words.specs.Chunks.{ChunkOf}
use Rattle.op_words.specs.declared.insn.Insn.TheVariants.{GetImport}
use Rattle.machine_meaning.specs.Constants.{path_of}
use Rattle.machine_meaning.specs.Effects.{follow_names, follow}
use Rattle.machine_meaning.specs.Instructions.{row}
use Rattle.machine_meaning.specs.Moves.{give}
use Rattle.machine_meaning.specs.States.{Run}
use Rattle.machine_world.specs.Functions.{text_of}
use Rattle.machine_world.proofs.Going.{runs_on}
use Rattle.machine_world.proofs.Here.{read_here}
use Rattle.machine_world.proofs.Results.{if_ok}
use Rattle.machine_rows.specs.Leading.{Does}
use Rattle.machine_rows.specs.Operations.{environment_value}
use Rattle.machine_rows.proofs.NamesFollowed.{begins_to_follow, does_made}
use Rattle.machine_rows.proofs.Safety.{safe_here, import_here, import_held, import_led}
use Rattle.machine_rows.proofs.Steps.{does_like}
use Rattle.machine_rows.proofs.importing.get_import.Goals as goal

pub environment-env-requires-clause-runs : goal.environment-env-requires-clause-runs
environment-env-requires-clause-runs g c = runs_on c.args.machine.now.stack c.requires.goes

pub returns-in-Some-clause-makes : goal.returns-in-Some-clause-makes
returns-in-Some-clause-makes g c = λ chunk words n word is path.
    let w = c.args.world.now in
    let k = c.args.machine.now in
    let names = map (text_of w.names) c.args.path.now in
    let to = c.args.to in
    let next = c.args.next in
    let b = c.marked-safe.result in
    let env = c.environment-env.result in
    does_like chunk w w k.code k.stack c.give.new.self.stack (row chunk words (GetImport to (pos n) word) next) (give to (meant w.names c.in-Some.v) next) 0 _ (runs_on k.stack c.requires.goes)
    (λ replies h. import_here h b c.args.import n (path_of chunk h.frame.proto word) to next (safe_here w k.stack c.requires.sound h env b c.environment-env.ensures.usable (read_here h m.Nil environment_value Run (meant w.names (value.Table env)) (c.environment-env.ensures.value Run replies)) c.marked-safe.ensures) is
    ∙ import_held w.names b c.args.import c.in-Some.v (path_of chunk h.frame.proto word) to next h.frame h.others h.world (sym c.held.ensures ∙ c.in-Some.is))
    (does_made chunk w w k.code k.stack c.give.new.self.stack (give to (meant w.names c.in-Some.v) next) c.give.ensures.makes)

pub returns-in-None-clause-makes : goal.returns-in-None-clause-makes
returns-in-None-clause-makes g c =
    let w = c.args.world.now in
    let k = c.args.machine.now in
    let s' = c.follow.new.machine.stack in
    let names = map (text_of w.names) c.args.path.now in
    let to = c.args.to in
    let next = c.args.next in
    let b = c.marked-safe.result in
    let env = c.environment-env.result in
    let base = meant w.names (value.Table env) in
    if_ok (λ done. (chunk : ChunkOf) → Does chunk (follow_names base names to next) w k.code k.stack done.1 done.0 w s') _ c.follow.result
    (λ done does. λ chunk words n word is path.
    begins_to_follow chunk w w k.code k.stack s' (row chunk words (GetImport to (pos n) word) next) base names to next done.1 done.0 (runs_on k.stack c.requires.goes)
    (λ replies h. import_here h b c.args.import n (path_of chunk h.frame.proto word) to next (safe_here w k.stack c.requires.sound h env b c.environment-env.ensures.usable (read_here h m.Nil environment_value Run base (c.environment-env.ensures.value Run replies)) c.marked-safe.ensures) is
    ∙ import_led w.names b c.args.import (path_of chunk h.frame.proto word) to next h.frame h.others h.world (sym c.held.ensures ∙ c.in-None.is)
    ∙ ap (λ e. follow e (path_of chunk h.frame.proto word) to next h.frame h.others h.world) (sym (read_here h m.Nil environment_value Run base (c.environment-env.ensures.value Run replies)))
    ∙ ap (λ q. follow base q to next h.frame h.others h.world) (ap (λ p. path_of chunk p word) h.proto ∙ path))
    (does chunk)) c.follow.ensures.makes
