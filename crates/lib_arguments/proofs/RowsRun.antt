-- How what is known of a row's pieces becomes what a call of it gives or ends with, and that the answer of the call.
use Rattle.std.proofs.Common.{◌≡◌, ℕ, zero, suc, List, [], ◌∷◌, map, slice_get, slice_index_or, Some, Result, Ok, Err, refl, sym, ◌∙◌, subst}
use Rattle.std.proofs.lemmas.List.{append-nil}
use Rattle.std.specs.List.{AllByRecursion}
use Rattle.std.specs.Prelude.{IfOk, OnErr}
use Rattle.luau_tables.specs.Answers.{Answered, meant_answer}
use Rattle.luau_tables.specs.Own.{HasText}
use Rattle.luau_tables.specs.Worlds.{store_in, MayUseIn}
use Rattle.luau_tables.specs.declared.answer.LibAnswer.{LibAnswer}
use Rattle.luau_tables.specs.declared.answer.LibAnswer.TheVariants as answer
use Rattle.luau_tables.specs.declared.globals.LibWorld.{LibWorld}
use Rattle.resource.specs.declared.memory.OutOfMemory.{OutOfMemory as NoMemory}
use Rattle.value_model.specs.Answers as model
use Rattle.value_model.specs.Parts.{meant}
use Rattle.value_model.specs.Values.{Bytes}
use Rattle.value_model.specs.Waits as wait
use Rattle.value_model.specs.declared.error.RunErr.{RunErr}
use Rattle.value_model.specs.declared.value.Value.{Value}
use Rattle.value_model.specs.declared.value.Value.TheVariants.{Nil}
use Rattle.lib_arguments.specs.Checks.{Fails}
use Rattle.lib_arguments.specs.Rows.{Runs, Ends, Gives, LeavesStore, ending_of}
use Rattle.lib_arguments.specs.declared.ending.Ending.{Ending}
use Rattle.lib_arguments.specs.declared.ending.Ending.TheVariants.{OutOfMemory, RunError, Stop}

-- ---- what holds of each argument

module _ {A : Type 0} (P : A → Type 0) where
  pub each_at : (xs : List A) (i : ℕ) (x : A) → AllByRecursion P xs → slice_get xs i ≡ Some x → P x
  each_at [] i x h e = absurd (cc)
  each_at (y ∷ ys) zero x h e = let same : y ≡ x = cc in subst P same h.0
  each_at (y ∷ ys) (suc i) x h e = each_at ys i x h.1 e

  pub each_or : (xs : List A) (i : ℕ) (d : A) → AllByRecursion P xs → P d → P (slice_index_or xs i d)
  each_or [] i d h k = k
  each_or (y ∷ ys) zero d h k = h.0
  each_or (y ∷ ys) (suc i) d h k = each_or ys i d h.1 k

  pub each_map : (Q : A → Type 0) → ((x : A) → P x → Q x) → (xs : List A) → AllByRecursion P xs → AllByRecursion Q xs
  each_map Q f [] h = tt
  each_map Q f (x ∷ xs) h = (f x h.0, each_map Q f xs h.1)

-- what a script may use has its texts
pub have_texts : (w : LibWorld) (vs : List Value) → AllByRecursion (MayUseIn w) vs → AllByRecursion (HasText w.names) vs
have_texts w vs h = each_map (MayUseIn w) (HasText w.names) (λ v k. k.1) vs h

-- an argument that is there, and one that may be absent, may be used
pub used_at : (w : LibWorld) (args : List Value) (i : ℕ) (v : Value) → AllByRecursion (MayUseIn w) args → slice_get args i ≡ Some v → MayUseIn w v
used_at w args i v h e = each_at (MayUseIn w) args i v h e

pub nil_used : (w : LibWorld) → MayUseIn w Nil
nil_used w = (tt, tt)

pub used_or_nil : (w : LibWorld) (args : List Value) (i : ℕ) → AllByRecursion (MayUseIn w) args → MayUseIn w (slice_index_or args i Nil)
used_or_nil w args i h = each_or (MayUseIn w) args i Nil h (nil_used w)

pub used_given : (w : LibWorld) (args : List Value) (i : ℕ) (v : Value) → AllByRecursion (MayUseIn w) args → v ≡ slice_index_or args i Nil → MayUseIn w v
used_given w args i v h e = subst (MayUseIn w) (sym e) (used_or_nil w args i h)

-- ---- values

-- the row gives these values in the store behind the call
pub gives_runs : (before after : LibWorld) (rs rs' given : List Value) (result : Result (Unit {0}) Ending) (row : model.LibAnswer) → Gives rs rs' given result → AllByRecursion (MayUseIn after) given → row ≡ model.Answers (map (meant after.names) given) (store_in after) → Runs before after rs rs' result row
unfolding meant_answer
gives_runs before after rs rs' given (Ok done) row h used same =
    record { given = given; appended = h; meant = sym same; stays = tt; usable = tt; values = used }
gives_runs before after rs rs' given (Err e) row h used same =
    subst (λ e. Ends before after rs rs' e row) (sym h.0) (record { results = h.1; store = tt; fails = tt })

-- nothing is given
pub none_given : (before after : LibWorld) (rs : List Value) (done : Unit {0}) (row : model.LibAnswer) → row ≡ model.Answers [] (store_in after) → Runs before after rs rs (Ok done) row
none_given before after rs done row same = gives_runs before after rs rs [] (Ok done) row (sym (append-nil rs)) tt same

-- ---- ends

pub leaves_store : (e : Ending) (before after : LibWorld) → store_in after ≡ store_in before → LeavesStore e (store_in before) (store_in after)
leaves_store OutOfMemory before after same = tt
leaves_store (RunError e) before after same = same
leaves_store (Stop s) before after same = same

pub ends_runs : (before after : LibWorld) (rs : List Value) (e : Ending) (row : model.LibAnswer) → store_in after ≡ store_in before → Fails after.names row e → Runs before after rs rs (Err e) row
ends_runs before after rs e row same fails = record { results = refl; store = leaves_store e before after same; fails = fails }

pub memory_ends : (before after : LibWorld) (rs : List Value) (row : model.LibAnswer) → Runs before after rs rs (Err OutOfMemory) row
memory_ends before after rs row = record { results = refl; store = tt; fails = tt }

-- ---- looks at arguments

-- a look found what the row goes on with
pub found : {B : Type 0} {look : (B → model.LibAnswer) → model.LibAnswer} {b : B} (go : B → model.LibAnswer) (before after : LibWorld) (rs rs' : List Value) (result : Result (Unit {0}) Ending) → ((go : B → model.LibAnswer) → look go ≡ go b) → Runs before after rs rs' result (go b) → Runs before after rs rs' result (look go)
found go before after rs rs' result h k = subst (λ row. Runs before after rs rs' result row) (sym (h go)) k

pub found_fails : {B : Type 0} {look : (B → model.LibAnswer) → model.LibAnswer} {b : B} (go : B → model.LibAnswer) (texts : List Bytes) (e : Ending) → ((go : B → model.LibAnswer) → look go ≡ go b) → Fails texts (go b) e → Fails texts (look go) e
found_fails go texts e h k = subst (λ row. Fails texts row e) (sym (h go)) k

-- a look ends the row, in a world that stays
pub ends : (w : LibWorld) (rs : List Value) (e : Ending) (row : model.LibAnswer) → Fails w.names row e → Ends w w rs rs e row
ends w rs e row fails = record { results = refl; store = leaves_store e w w refl; fails = fails }

-- ---- the answer of a call

-- in a world that stays what is answered is by the row
pub runs_answered : (origin : wait.Origin) (before after : LibWorld) (rs rs' : List Value) (result : Result (Unit {0}) Ending) (row : model.LibAnswer) → Runs before after rs rs' result row → IfOk (ending_of result) (λ (a : LibAnswer). Answered before after rs rs' a origin row)
unfolding meant_answer
runs_answered origin before after rs rs' (Ok done) row h =
    record { given = h.given; appended = h.appended; meant = h.meant; stays = tt; usable = tt; values = h.values }
runs_answered origin before after rs rs' (Err OutOfMemory) row h = tt
runs_answered origin before after rs rs' (Err (RunError e)) row h =
    record { given = []; appended = h.results ∙ sym (append-nil rs); meant = sym h.fails.0; stays = (refl, h.store); usable = h.fails.1; values = tt }
runs_answered origin before after rs rs' (Err (Stop s)) row h =
    record { given = []; appended = h.results ∙ sym (append-nil rs); meant = sym h.fails; stays = (refl, h.store); usable = tt; values = tt }

-- the same of the answer itself
pub answered_by : (origin : wait.Origin) (before after : LibWorld) (rs rs' : List Value) (result : Result (Unit {0}) Ending) (row : model.LibAnswer) (answers : Result LibAnswer NoMemory) → answers ≡ ending_of result → Runs before after rs rs' result row → IfOk answers (λ (a : LibAnswer). Answered before after rs rs' a origin row)
answered_by origin before after rs rs' result row answers e h = subst (λ answers. IfOk answers (λ (a : LibAnswer). Answered before after rs rs' a origin row)) (sym e) (runs_answered origin before after rs rs' result row h)

-- a value is raised
pub raise_answers : (w : LibWorld) (rs : List Value) (v : Value) (origin : wait.Origin) (row : model.LibAnswer) → MayUseIn w v → row ≡ model.RaisesValue (meant w.names v) origin → Answered w w rs rs (answer.Raise v) origin row
unfolding meant_answer
raise_answers w rs v origin row used same = record { given = []; appended = sym (append-nil rs); meant = sym same; stays = (refl, refl); usable = used; values = tt }

-- a run error is answered
pub error_answers : (w : LibWorld) (rs : List Value) (e : RunErr) (origin : wait.Origin) (row : model.LibAnswer) → Fails w.names row (RunError e) → Answered w w rs rs (answer.RunError e) origin row
unfolding meant_answer
error_answers w rs e origin row fails = record { given = []; appended = sym (append-nil rs); meant = sym fails.0; stays = (refl, refl); usable = fails.1; values = tt }

-- and where there is no memory nothing is appended
pub runs_unanswered : (before after : LibWorld) (rs rs' : List Value) (result : Result (Unit {0}) Ending) (row : model.LibAnswer) → Runs before after rs rs' result row → OnErr (ending_of result) (rs' ≡ rs)
runs_unanswered before after rs rs' (Ok done) row h = tt
runs_unanswered before after rs rs' (Err OutOfMemory) row h = h.results
runs_unanswered before after rs rs' (Err (RunError e)) row h = tt
runs_unanswered before after rs rs' (Err (Stop s)) row h = tt

pub unanswered_by : (before after : LibWorld) (rs rs' : List Value) (result : Result (Unit {0}) Ending) (row : model.LibAnswer) (answers : Result LibAnswer NoMemory) → answers ≡ ending_of result → Runs before after rs rs' result row → OnErr answers (rs' ≡ rs)
unanswered_by before after rs rs' result row answers e h = subst (λ answers. OnErr answers (rs' ≡ rs)) (sym e) (runs_unanswered before after rs rs' result row h)
