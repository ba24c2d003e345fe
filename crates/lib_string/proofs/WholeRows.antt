-- The rows of functions that look at a text and at numbers.
use Rattle.std.proofs.Common.{◌≡◌, List, map, Result, Ok, Err, refl, subst, ℤ}
use Rattle.byte_text.specs.declared.fixed.StrId.{StrId}
use Rattle.value_model.specs.Answers as model
use Rattle.value_model.specs.Arguments as arg
use Rattle.value_model.specs.Parts.{meant, meant_error, bytes_at, IsKnown}
use Rattle.value_model.specs.Store.{Store}
use Rattle.value_model.specs.Values as m
use Rattle.value_model.specs.Values.{Bytes}
use Rattle.value_model.specs.declared.builtin.Builtin.{Builtin}
use Rattle.value_model.specs.declared.error.RunErr.{RunErr}
use Rattle.value_model.specs.declared.value.Value.{Value}
use Rattle.luau_tables.specs.Worlds.{IsWorld, store_in}
use Rattle.luau_tables.specs.declared.globals.LibWorld.{LibWorld}
use Rattle.lib_arguments.specs.Checks.{Checks}
use Rattle.lib_arguments.specs.Rows.{Runs}
use Rattle.lib_arguments.specs.declared.ending.Ending.{Ending}
use Rattle.lib_arguments.specs.declared.ending.Ending.TheVariants.{RunError}
use Rattle.lib_arguments.proofs.RowsRun.{ends_runs, found}
use Rattle.lib_string.specs.Reading.{Reads}
use Rattle.lib_string.proofs.AddedTexts.{look_runs, look_stops}

-- what a row does with its first argument's text, the arguments and the store
abbrev pub Rest : Type 0
Rest = List m.Value → Store → Bytes → model.LibAnswer

-- a text that is read, and what it is
abbrev pub text_of : LibWorld → StrId → Bytes
text_of w x = bytes_at w.names x.0

module _ (f : Builtin) (rest : Rest) (a b : LibWorld) (args : List Value) (world : IsWorld a) (reads : Reads a b args) where
  -- the first argument is a text, and the row goes on with it
  pub text_then : (c : LibWorld) (rs rs' : List Value) (result : Result (Unit {0}) Ending) (x : StrId) → Checks b.names (text_of b) (arg.text_at f 0 (map (meant a.names) args)) (Ok x) → Runs b c rs rs' result (rest (map (meant b.names) args) (store_in b) (text_of b x)) → Runs a c rs rs' result (arg.text_at f 0 (map (meant a.names) args) (rest (map (meant a.names) args) (store_in a)))
  text_then c rs rs' result x h k =
      look_runs (text_of b) (arg.text_at f 0 (map (meant a.names) args)) (rest (map (meant a.names) args)) a b world reads.adds c rs rs' result x h
      (subst (λ vs. Runs b c rs rs' result (rest vs (store_in b) (text_of b x))) reads.same k)

  -- or it is none
  pub text_ends : (rs : List Value) (e : Ending) → Checks {A = StrId} b.names (text_of b) (arg.text_at f 0 (map (meant a.names) args)) (Err e) → Runs a b rs rs (Err e) (arg.text_at f 0 (map (meant a.names) args) (rest (map (meant a.names) args) (store_in a)))
  text_ends rs e h = look_stops (text_of b) (arg.text_at f 0 (map (meant a.names) args)) (rest (map (meant a.names) args)) a b world reads.adds rs e h

-- a number is found, and the row goes on with it
pub number_then : (look : (ℤ → model.LibAnswer) → model.LibAnswer) (go : ℤ → model.LibAnswer) (b c : LibWorld) (rs rs' : List Value) (result : Result (Unit {0}) Ending) (z : ℤ) → Checks b.names (λ z. z) look (Ok z) → Runs b c rs rs' result (go z) → Runs b c rs rs' result (look go)
number_then look go b c rs rs' result z h k = found go b c rs rs' result h k

pub number_ends : (look : (ℤ → model.LibAnswer) → model.LibAnswer) (go : ℤ → model.LibAnswer) (b : LibWorld) (rs : List Value) (e : Ending) → Checks {A = ℤ} b.names (λ z. z) look (Err e) → Runs b b rs rs (Err e) (look go)
number_ends look go b rs e h = ends_runs b b rs e (look go) refl (h go)

-- a row ends with an error that shows no text
pub error_ends : (w : LibWorld) (rs : List Value) (e : RunErr) (row : model.LibAnswer) → IsKnown w.names e → row ≡ model.ErrsWith (meant_error w.names e) → Runs w w rs rs (Err (RunError e)) row
error_ends w rs e row known h = ends_runs w w rs (RunError e) row refl (h, known)
