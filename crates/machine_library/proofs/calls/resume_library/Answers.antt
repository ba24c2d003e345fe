use Rattle.std.proofs.Common.{◌≡◌, List, [], IfOk, sym, ◌∙◌, ap, subst}
use Rattle.value_model.specs.Library as library
use Rattle.value_model.specs.Parts.{meant}
use Rattle.value_model.specs.Waits.{Elsewise}
use Rattle.value_model.specs.declared.event.Reply.{Reply}
use Rattle.value_model.specs.declared.value.Value.{Value}
use Rattle.luau_tables.specs.Answers.{Answered, meant_continue}
use Rattle.luau_tables.specs.Worlds.{store_in}
use Rattle.luau_tables.specs.declared.globals.LibWorld.{LibWorld}
use Rattle.luau_tables.proofs.WorldsKept.{may_use_on}
use Rattle.std.specs.Prelude.{map}
use Rattle.call_frames.specs.declared.frame.ReturnKind.TheVariants.{Library}
use Rattle.machine_flow.specs.Flow.{first}
use Rattle.machine_meaning.specs.Moves.{Step}
use Rattle.machine_meaning.specs.States.{Hand}
use Rattle.machine_world.specs.Sound.{LibraryWaitsFor}
use Rattle.machine_library.specs.Leads.{KnowsImports, Leads, LeadsTo}
use Rattle.machine_library.proofs.Kept.{machine_kept, imports_kept}
use Rattle.machine_library.proofs.Leading.{both_ok, led_by}
use Rattle.machine_library.proofs.Resumed.{led_on}
use Rattle.machine_library.proofs.calls.resume_library.Goals as goal

-- no text has gone with the wait
names_stay : (w w1 : LibWorld) → w1 ≡ record w { arena = w1.arena } → w1.names ≡ w.names
names_stay w w1 e = ap (λ (x : LibWorld). x.names) e

pub returns-in_err-given-in-Library-clause-imports : goal.returns-in_err-given-in-Library-clause-imports
returns-in_err-given-in-Library-clause-imports c =
    let w1 = c.leave_library.new.world in
    let code = c.args.machine.now.code in
    imports_kept w1 c.go_on.new.world code c.go_on.ensures.keeps (subst (λ l. KnowsImports l code) (sym (names_stay c.args.world.now w1 c.leave_library.ensures.world)) c.requires.imports)

pub returns-in_err-given-in-Library-clause-uses : goal.returns-in_err-given-in-Library-clause-uses
returns-in_err-given-in-Library-clause-uses c = λ v h.
    may_use_on c.leave_library.new.world c.go_on.new.world c.go_on.ensures.keeps v (c.leave_library.ensures.uses v h)

pub follow-requires-clause-sound : goal.follow-requires-clause-sound
follow-requires-clause-sound c =
    machine_kept c.leave_library.new.world c.go_on.new.world c.leave_library.new.self.stack c.go_on.ensures.keeps c.leave_library.ensures.sound

pub returns-clause-imports : goal.returns-clause-imports
returns-clause-imports c =
    let w1 = c.leave_library.new.world in
    let code = c.args.machine.now.code in
    imports_kept w1 c.go_on.new.world code c.go_on.ensures.keeps (subst (λ l. KnowsImports l code) (sym (names_stay c.args.world.now w1 c.leave_library.ensures.world)) c.requires.imports)

pub returns-clause-uses : goal.returns-clause-uses
returns-clause-uses c = λ v h.
    may_use_on c.leave_library.new.world c.go_on.new.world c.go_on.ensures.keeps v (c.leave_library.ensures.uses v h)

pub returns-clause-leads : goal.returns-clause-leads
returns-clause-leads c =
    let w = c.args.world.now in
    let w1 = c.leave_library.new.world in
    let w' = c.go_on.new.world in
    let k = c.args.machine.now in
    let s1 = c.leave_library.new.self.stack in
    let s' = c.follow.new.machine.stack in
    let rest = c.in-Library.rest in
    let v = c.first-text.result in
    let values = c.args.values.now.items in
    let rs' = c.go_on.new.results.items in
    let a = c.in_ok-given-in-Library.given in
    let row = library.go_on (meant_continue w1.names rest) (meant w1.names v) (store_in w1) in
    let h : Answered w1 w' [] rs' a Elsewise row = subst (λ l. Answered w1 w' l rs' a Elsewise row) c.clear.ensures.items c.in_ok-given-in-Library.ensures.answered in
    let names : w1.names ≡ w.names = names_stay w w1 c.leave_library.ensures.world in
    let known : KnowsImports w1.names k.code = subst (λ l. KnowsImports l k.code) (sym names) c.requires.imports in
    let waits : LibraryWaitsFor k.stack (Library rest) = subst (LibraryWaitsFor k.stack) c.in-Library.is c.leave_library.ensures.kind in
    both_ok _ _ _ c.follow.result
    (λ next leads usable. led_by w w1 w' k.code k.stack s1 s' [] rs' Elsewise row a next (Hand (map (meant w.names) values)) h
    (λ chunk replies. led_on chunk w w1 w' k.code k.stack s1 replies rest v values [] rs' a c.requires.sound waits names c.leave_library.ensures.over c.go_on.ensures.keeps c.leave_library.ensures.sound known (c.first-text.ensures ∙ ap first c.as_slice.ensures.value) h) leads usable)
    (subst (λ code. IfOk c.follow.result (λ next. (m : Step) (given : List Value) (replies : List Reply) → Leads m a given w' code s1 replies → LeadsTo m next given w' code s' replies)) c.leave_library.ensures.code c.follow.ensures.leads)
    c.follow.ensures.next
