-- Which calls the answers of library functions ask for.
use Rattle.std.proofs.Common.{◌≡◌, ◌<◌, List, length, Result, Ok, Err, IfOk, sym, subst}
use Rattle.std.proofs.lemmas.List.{length-map}
use Rattle.resource.specs.declared.memory.OutOfMemory.{OutOfMemory}
use Rattle.value_model.specs.Answers as model
use Rattle.value_model.specs.Library.{lib, go_on}
use Rattle.value_model.specs.Parts.{meant}
use Rattle.value_model.specs.Store.{Store}
use Rattle.value_model.specs.Values as m
use Rattle.value_model.specs.Values.{Bytes}
use Rattle.value_model.specs.Waits.{Origin}
use Rattle.value_model.specs.declared.builtin.Builtin.{Builtin}
use Rattle.value_model.specs.declared.builtin.Builtin.TheVariants as builtin
use Rattle.value_model.specs.declared.value.Value.{Value}
use Rattle.value_model.specs.declared.waiting.Continue.{Continue}
use Rattle.luau_tables.specs.Answers.{Answered, meant_answer, meant_continue}
use Rattle.luau_tables.specs.Worlds.{store_in}
use Rattle.luau_tables.specs.declared.answer.LibAnswer.{LibAnswer}
use Rattle.luau_tables.specs.declared.answer.LibAnswer.TheVariants as answer
use Rattle.luau_tables.specs.declared.globals.LibWorld.{LibWorld}
use Rattle.lib_arguments.specs.AtOnce.{AtOnce}
use Rattle.lib_core.specs.Builtins.{IsAsker}
use Rattle.machine_world.specs.Sound.{AsksForTexts}
use Rattle.machine_library.specs.Leads.{IsAsking}
use Rattle.machine_library.proofs.Asked.{Holds, row_asks, on_asks}

-- one that asks for none
once : (a : LibAnswer) → AtOnce a → IsAsking a
once answer.Values h = tt
once (answer.Print line) h = tt
once (answer.RunError r) h = tt
once (answer.Raise v) h = tt
once (answer.Stop stop) h = tt
once (answer.CallBack f args rest) h = absurd h

-- one by a row
asked_by : (texts : List Bytes) (origin : Origin) (a : LibAnswer) (given : List Value) (st : Store) (row : model.LibAnswer) → meant_answer texts origin a given st ≡ row →
    Holds row → IsAsking a
unfolding meant_answer meant_continue
asked_by texts origin answer.Values given st row e h = tt
asked_by texts origin (answer.Print line) given st row e h = tt
asked_by texts origin (answer.RunError r) given st row e h = tt
asked_by texts origin (answer.Raise v) given st row e h = tt
asked_by texts origin (answer.Stop stop) given st row e h = tt
asked_by texts origin (answer.CallBack f args rest) given st row e h =
    let is = (subst Holds (sym e) h).holds in (is.0, subst (λ n. rest.at < n) (length-map rest.args.items (meant texts)) is.1)

module _ (w w' : LibWorld) (rs rs' : List Value) (origin : Origin) where
  by_row : (row : model.LibAnswer) (q : Result LibAnswer OutOfMemory) → IfOk q (λ a. Answered w w' rs rs' a origin row) → Holds row → IfOk q IsAsking
  by_row row (Ok a) h k = asked_by w'.names origin a h.given (store_in w') row h.meant k
  by_row row (Err e) h k = tt

  at_once : (q : Result LibAnswer OutOfMemory) → IfOk q AtOnce → IfOk q IsAsking
  at_once (Ok a) h = once a h
  at_once (Err e) h = tt

  pub core_asks : (f : Builtin) (vs : List m.Value) (q : Result LibAnswer OutOfMemory) → IfOk q (λ a. Answered w w' rs rs' a origin (lib f vs (store_in w))) →
      ((IsAsker f → ⊥) → IfOk q AtOnce) → IfOk q IsAsking
  core_asks builtin.Print vs q h k = by_row (lib builtin.Print vs (store_in w)) q h (row_asks builtin.Print vs (store_in w) tt)
  core_asks builtin.Tostring vs q h k = by_row (lib builtin.Tostring vs (store_in w)) q h (row_asks builtin.Tostring vs (store_in w) tt)
  core_asks _ vs q h k = at_once q (k (λ x. x))

  pub strings_ask : (f : Builtin) (vs : List m.Value) (q : Result LibAnswer OutOfMemory) → IfOk q (λ a. Answered w w' rs rs' a origin (lib f vs (store_in w))) →
      ((f ≡ builtin.StringFormat → ⊥) → IfOk q AtOnce) → IfOk q IsAsking
  strings_ask builtin.StringFormat vs q h k =
      by_row (lib builtin.StringFormat vs (store_in w)) q h (row_asks builtin.StringFormat vs (store_in w) tt)
  strings_ask _ vs q h k = at_once q (k (λ e. absurd (cc)))

  pub goes_asking : (rest : Continue) (v : m.Value) (q : Result LibAnswer OutOfMemory) → AsksForTexts rest.builtin → rest.at < length rest.args.items →
      IfOk q (λ a. Answered w w' rs rs' a origin (go_on (meant_continue w.names rest) v (store_in w))) → IfOk q IsAsking
  unfolding meant_continue
  goes_asking rest v q f low h =
      by_row (go_on (meant_continue w.names rest) v (store_in w)) q h
      (on_asks (meant_continue w.names rest) v (store_in w) (f, subst (λ n. rest.at < n) (sym (length-map rest.args.items (meant w.names))) low))
