use Rattle.std.proofs.Common.{ℕ, List, ◌++◌, ap, ◌∙◌}
use Rattle.value_model.specs.Errors.{error_text}
use Rattle.value_model.specs.Parts.{meant_error}
use Rattle.luau_tables.proofs.WorldsKept.{texts_keep}
use Rattle.machine_rows.proofs.Named.{machine_named}
use Rattle.machine_calls.proofs.Faulted.{imports_known, faults, text_usable}
use Rattle.machine_calls.proofs.raising.fault.Goals as goal

pub returns-clause-sound : goal.returns-clause-sound
returns-clause-sound c =
    let w = c.args.world.now in
    let is = c.requires.sound in
    machine_named w c.text_value.new.names c.args.machine.now.stack c.text_value.ensures.extends (c.text_value.ensures.texts is.world.own.interned) is

pub returns-in_err-id-clause-sound : goal.returns-in_err-id-clause-sound
returns-in_err-id-clause-sound c =
    let w = c.args.world.now in
    let is = c.requires.sound in
    machine_named w c.text_value.new.names c.args.machine.now.stack c.text_value.ensures.extends (c.text_value.ensures.texts is.world.own.interned) is

pub returns-clause-imports : goal.returns-clause-imports
returns-clause-imports c = imports_known c.args.world.now.names c.text_value.new.names c.args.machine.now.code c.text_value.ensures.extends c.requires.imports

pub returns-in_err-id-clause-imports : goal.returns-in_err-id-clause-imports
returns-in_err-id-clause-imports c = imports_known c.args.world.now.names c.text_value.new.names c.args.machine.now.code c.text_value.ensures.extends c.requires.imports

pub returns-clause-keeps : goal.returns-clause-keeps
returns-clause-keeps c =
    let is = c.requires.sound in
    texts_keep c.args.world.now is.world c.text_value.new.names c.text_value.ensures.extends (c.text_value.ensures.texts is.world.own.interned)

pub returns-in_err-id-clause-keeps : goal.returns-in_err-id-clause-keeps
returns-in_err-id-clause-keeps c =
    let is = c.requires.sound in
    texts_keep c.args.world.now is.world c.text_value.new.names c.text_value.ensures.extends (c.text_value.ensures.texts is.world.own.interned)

pub returns-clause-moves : goal.returns-clause-moves
returns-clause-moves c = λ chunk.
    let w = c.args.world.now in
    let k = c.args.machine.now in
    let is = c.requires.sound in
    let text = c.as_slice.ensures.value ∙ c.in_ok-text_into.ensures.ok ∙ ap (λ (l : List ℕ). l ++ error_text (meant_error w.names c.args.error)) c.new-text.ensures.items in
    faults chunk w c.text_value.new.names k.code k.stack c.args.error c.in_ok-id.id c.as_slice.result.now is c.requires.imports c.text_value.ensures.extends (c.text_value.ensures.texts is.world.own.interned) c.in_ok-id.ensures.text text

pub returns-clause-usable : goal.returns-clause-usable
returns-clause-usable c = text_usable c.args.world.now c.text_value.new.names c.in_ok-id.id c.as_slice.result.now c.in_ok-id.ensures.text
