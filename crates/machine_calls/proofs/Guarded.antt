-- Library functions that a script calls: protected calls begin.
use Rattle.std.proofs.Common.{◌≡◌, refl, sym, ap, ◌∙◌, subst, ℕ, zero, suc, ◌<◌, true, false, List, [], ◌∷◌, map, length, drop, Some, Result, Ok, Err, IfOk, slice_get, arith}
use Rattle.std.specs.List.{AllByRecursion}
use Rattle.resource.specs.declared.memory.OutOfMemory.{OutOfMemory as NoMemory}
use Rattle.value_model.specs.Answers.{LibAnswer, ErrsWith, HaltsWith, CallsBack}
use Rattle.value_model.specs.Arguments as row
use Rattle.value_model.specs.Library.{lib}
use Rattle.value_model.specs.Metamethods.{is_function}
use Rattle.value_model.specs.Parts.{meant, meant_error}
use Rattle.value_model.specs.Values as m
use Rattle.value_model.specs.Waits as wait
use Rattle.value_model.specs.Waits.{await, ByScript, ByLibrary, Called}
use Rattle.value_model.specs.Waiting as deciding
use Rattle.value_model.specs.declared.builtin.Builtin.{Builtin}
use Rattle.value_model.specs.declared.builtin.Builtin.TheVariants as builtin
use Rattle.value_model.specs.declared.error.Wanted.TheVariants.{OfKind}
use Rattle.value_model.specs.declared.kind.Kind.TheVariants as kinds
use Rattle.value_model.specs.declared.value.Value.{Value}
use Rattle.value_model.specs.declared.value.Value.TheVariants as value
use Rattle.meta_ops.specs.OnIds as kept
use Rattle.bounded_runs.specs.Runs.{Goes}
use Rattle.luau_tables.specs.Worlds.{store_in}
use Rattle.luau_tables.specs.declared.globals.LibWorld.{LibWorld}
use Rattle.lib_arguments.specs.Checks.{Checks, Fails}
use Rattle.lib_arguments.specs.declared.ending.Ending.{Ending}
use Rattle.lib_arguments.specs.declared.ending.Ending.TheVariants as ending
use Rattle.call_frames.specs.declared.frame.ReturnKind.{ReturnKind}
use Rattle.call_frames.specs.Stacks.{StackView}
use Rattle.op_words.specs.Chunks.{ChunkOf}
use Rattle.machine_meaning.specs.States as machine
use Rattle.machine_meaning.specs.States.{Frame, World}
use Rattle.machine_meaning.specs.Moves.{store_of}
use Rattle.machine_meaning.specs.Calls.{asks, decided}
use Rattle.machine_code.specs.declared.code.Code.{Code}
use Rattle.machine_world.specs.Functions.{wait_by}
use Rattle.machine_world.specs.Parts.{part, awaited, Becomes}
use Rattle.machine_calls.specs.Moving.{Leads, IsLed}
use Rattle.machine_calls.specs.Protecting.{led_by}
use Rattle.machine_calls.specs.declared.focus.Caller.TheVariants as caller
use Rattle.machine_calls.specs.declared.focus.Focus.TheVariants as focus
use Rattle.machine_calls.specs.declared.focus.Led.{Led}
use Rattle.machine_calls.specs.declared.focus.Led.TheVariants as led
use Rattle.machine_calls.proofs.Asking.{decided_here, closed_none}
use Rattle.machine_calls.proofs.Waited.{those, shared}

-- what the library answers
by_library_of : (chunk : ChunkOf) (f : Builtin) (us : List m.Value) (fs : List Frame) (v : World) (a : LibAnswer) → v.elsewhere ≡ (λ co. []) → lib f us (store_of v) ≡ a → asks chunk (Called ByScript (m.Native f) us) fs v ≡ decided chunk (deciding.by_library a v.waits (store_of v)) fs v
unfolding deciding.wait
by_library_of chunk f us fs v a e is =
    let asked = deciding.called ByScript (m.Native f) us (slice_get v.replies 0) v.waits (store_of v) in
    ap (λ u. decided chunk asked fs u) (closed_none ByScript (m.Native f) us asked.store v e)
    ∙ ap (λ a. decided chunk (deciding.by_library a v.waits (store_of v)) fs v) is

module _ (chunk : ChunkOf) (w : LibWorld) (code : Code) (s : StackView) (f : Builtin) (us : List m.Value) where
  -- a value is called back
  pub calls_back : (s' : StackView) (callee : Value) (kind : ReturnKind) (vs' : List Value) → lib f us (store_in w) ≡ CallsBack (meant w.names callee) (map (meant w.names) vs') (wait_by w.names kind) → Becomes (awaited (wait_by w.names kind)) w code s w s' → Leads chunk w code s (machine.Invoke ByScript (m.Native f) us) (led.Goes (focus.Invoke caller.Library callee)) w s' vs'
  unfolding part
  calls_back s' callee kind vs' is becomes replies =
      let v : World = shared w code s replies in
      let g = meant w.names callee in
      let args = map (meant w.names) vs' in
      by_library_of chunk f us (those w s) v (CallsBack g args (wait_by w.names kind)) refl is
      ∙ decided_here chunk false (wait.Calls ByLibrary g args) (await (wait_by w.names kind) v.waits (store_of v)) (those w s) v
      ∙ sym (ap (λ t. Goes [] t) (becomes (machine.Invoke ByLibrary g args) replies))

  fails_so : (e : Ending) (vs : List Value) → Fails w.names (lib f us (store_in w)) e → IfOk (led_by e) (λ l. Leads chunk w code s (machine.Invoke ByScript (m.Native f) us) l w s vs)
  unfolding part
  fails_so ending.OutOfMemory vs h = tt
  fails_so (ending.RunError e) vs h = λ replies.
      let v : World = shared w code s replies in
      by_library_of chunk f us (those w s) v (ErrsWith (meant_error w.names e)) refl h.0
      ∙ decided_here chunk false (wait.Throws (wait.Fails (meant_error w.names e))) v.waits (those w s) v
  fails_so (ending.Stop stop) vs h = λ replies.
      let v : World = shared w code s replies in
      by_library_of chunk f us (those w s) v (HaltsWith stop) refl h
      ∙ decided_here chunk false (wait.Stops stop) v.waits (those w s) v

-- its arguments are refused
pub refused : (w : LibWorld) (code : Code) (s : StackView) (f : Builtin) (us : List m.Value) (e : Ending) (vs : List Value) (r : Result Led NoMemory) → r ≡ led_by e → Fails w.names (lib f us (store_in w)) e → IfOk r (λ l. (chunk : ChunkOf) → Leads chunk w code s (machine.Invoke ByScript (m.Native f) us) l w s vs)
refused w code s f us e vs r is h =
    subst (λ r. IfOk r (λ l. (chunk : ChunkOf) → Leads chunk w code s (machine.Invoke ByScript (m.Native f) us) l w s vs)) (sym is) (by e h)
  where
    by : (e : Ending) → Fails w.names (lib f us (store_in w)) e → IfOk (led_by e) (λ l. (chunk : ChunkOf) → Leads chunk w code s (machine.Invoke ByScript (m.Native f) us) l w s vs)
    by ending.OutOfMemory h = tt
    by (ending.RunError e) h = λ chunk. fails_so chunk w code s f us (ending.RunError e) vs h
    by (ending.Stop stop) h = λ chunk. fails_so chunk w code s f us (ending.Stop stop) vs h

pub refused_led : (w : LibWorld) (s : StackView) (a : LibAnswer) (e : Ending) (vs : List Value) (r : Result Led NoMemory) → r ≡ led_by e → Fails w.names a e → IfOk r (λ l. IsLed w s l vs)
refused_led w s a e vs r is h = subst (λ r. IfOk r (λ l. IsLed w s l vs)) (sym is) (by e h)
  where
    by : (e : Ending) → Fails w.names a e → IfOk (led_by e) (λ l. IsLed w s l vs)
    by ending.OutOfMemory h = tt
    by (ending.RunError e) h = h.1
    by (ending.Stop stop) h = tt

-- ---- lists

pub some_low : {A : Type 0} (xs : List A) (i : ℕ) (x : A) → slice_get xs i ≡ Some x → i < length xs
some_low [] i x e = absurd (cc)
some_low (y ∷ xs) zero x e = omega arith
some_low (y ∷ xs) (suc i) x e = let low : i < length xs = some_low xs i x e in omega (arith, low)

pub second_low : {A : Type 0} (xs : List A) (x : A) → slice_get xs 1 ≡ Some x → 0 < length (drop 1 xs)
second_low [] x e = absurd (cc)
second_low (y ∷ []) x e = absurd (cc)
second_low (y ∷ z ∷ xs) x e = omega arith

pub all_drop : {A : Type 0} (P : A → Type 0) (n : ℕ) (xs : List A) → AllByRecursion P xs → AllByRecursion P (drop n xs)
all_drop P zero xs h = h
all_drop P (suc n) [] h = tt
all_drop P (suc n) (x ∷ xs) h = all_drop P n xs h.1

map_drop : (f : Value → m.Value) (n : ℕ) (vs : List Value) → map f (drop n vs) ≡ drop n (map f vs)
map_drop f zero vs = refl
map_drop f (suc n) [] = refl
map_drop f (suc n) (v ∷ vs) = map_drop f n vs

drop_two : (vs : List Value) → drop 1 (drop 1 vs) ≡ drop 2 vs
drop_two [] = refl
drop_two (v ∷ []) = refl
drop_two (v ∷ u ∷ vs) = refl

-- ---- `pcall` and `xpcall`

pub pcall_is : (w : LibWorld) (vs vs' : List Value) (callee : Value) → ((go : m.Value → LibAnswer) → row.any_at builtin.Pcall 0 (map (meant w.names) vs) go ≡ go (meant w.names callee)) → vs' ≡ drop 1 vs → lib builtin.Pcall (map (meant w.names) vs) (store_in w) ≡ CallsBack (meant w.names callee) (map (meant w.names) vs') wait.Protects
unfolding lib
pcall_is w vs vs' callee checks e =
    checks (λ f. CallsBack f (drop 1 (map (meant w.names) vs)) wait.Protects)
    ∙ ap (λ us. CallsBack (meant w.names callee) us wait.Protects) (sym (ap (map (meant w.names)) e ∙ map_drop (meant w.names) 1 vs))

pub pcall_fails : (w : LibWorld) (vs : List Value) (e : Ending) → ((go : m.Value → LibAnswer) → Fails w.names (row.any_at builtin.Pcall 0 (map (meant w.names) vs) go) e) → Fails w.names (lib builtin.Pcall (map (meant w.names) vs) (store_in w)) e
unfolding lib
pcall_fails w vs e fails = fails (λ f. CallsBack f (drop 1 (map (meant w.names) vs)) wait.Protects)

abbrev guarding : (us : List m.Value) → m.Value → LibAnswer
guarding us f = row.function_at builtin.Xpcall 1 us (λ h. CallsBack f (drop 2 us) (wait.Guards h))

pub xpcall_is : (w : LibWorld) (vs vs1 vs' : List Value) (callee handler : Value) → ((go : m.Value → LibAnswer) → row.any_at builtin.Xpcall 0 (map (meant w.names) vs) go ≡ go (meant w.names callee)) → ((go : m.Value → LibAnswer) → row.function_at builtin.Xpcall 1 (map (meant w.names) vs) go ≡ go (meant w.names handler)) → vs1 ≡ drop 1 vs → vs' ≡ drop 1 vs1 → lib builtin.Xpcall (map (meant w.names) vs) (store_in w) ≡ CallsBack (meant w.names callee) (map (meant w.names) vs') (wait.Guards (meant w.names handler))
unfolding lib
xpcall_is w vs vs1 vs' callee handler checks handles one two =
    let us = map (meant w.names) vs in
    let rest : vs' ≡ drop 2 vs = two ∙ ap (drop 1) one ∙ drop_two vs in
    checks (guarding us)
    ∙ handles (λ h. CallsBack (meant w.names callee) (drop 2 us) (wait.Guards h))
    ∙ ap (λ us. CallsBack (meant w.names callee) us (wait.Guards (meant w.names handler))) (sym (ap (map (meant w.names)) rest ∙ map_drop (meant w.names) 2 vs))

pub xpcall_fails : (w : LibWorld) (vs : List Value) (e : Ending) → ((go : m.Value → LibAnswer) → Fails w.names (row.any_at builtin.Xpcall 0 (map (meant w.names) vs) go) e) → Fails w.names (lib builtin.Xpcall (map (meant w.names) vs) (store_in w)) e
unfolding lib
xpcall_fails w vs e fails = fails (guarding (map (meant w.names) vs))

pub xpcall_guard_fails : (w : LibWorld) (vs : List Value) (callee : Value) (e : Ending) → ((go : m.Value → LibAnswer) → row.any_at builtin.Xpcall 0 (map (meant w.names) vs) go ≡ go (meant w.names callee)) → ((go : m.Value → LibAnswer) → Fails w.names (row.function_at builtin.Xpcall 1 (map (meant w.names) vs) go) e) → Fails w.names (lib builtin.Xpcall (map (meant w.names) vs) (store_in w)) e
unfolding lib
xpcall_guard_fails w vs callee e checks fails =
    let us = map (meant w.names) vs in
    subst (λ a. Fails w.names a e) (sym (checks (guarding us))) (fails (λ h. CallsBack (meant w.names callee) (drop 2 us) (wait.Guards h)))

-- ---- an argument that is a function

pub function_found : (texts : List m.Bytes) (f : Builtin) (i : ℕ) (v : Value) → kept.is_function v ≡ true → Checks {A = Value} texts (meant texts) (row.function_from f i (meant texts v)) (Ok v)
unfolding is_function meant
function_found texts f i (value.Closure c) e go = refl
function_found texts f i (value.Native g) e go = refl
function_found texts f i (value.Host h) e go = refl
function_found texts f i (value.Wrap t) e go = refl
function_found texts f i value.Nil e go = absurd (cc)
function_found texts f i (value.Bool b) e go = absurd (cc)
function_found texts f i (value.Num z) e go = absurd (cc)
function_found texts f i (value.Str x) e go = absurd (cc)
function_found texts f i (value.Table t) e go = absurd (cc)
function_found texts f i (value.Thread t) e go = absurd (cc)

pub no_function : (texts : List m.Bytes) (f : Builtin) (i : ℕ) (v : Value) (r : Ending) → kept.is_function v ≡ false → Fails texts (row.invalid f i (OfKind kinds.Function) (meant texts v)) r → Checks {A = Value} texts (meant texts) (row.function_from f i (meant texts v)) (Err r)
unfolding is_function meant
no_function texts f i (value.Closure c) r e fails go = absurd (cc)
no_function texts f i (value.Native g) r e fails go = absurd (cc)
no_function texts f i (value.Host h) r e fails go = absurd (cc)
no_function texts f i (value.Wrap t) r e fails go = absurd (cc)
no_function texts f i value.Nil r e fails go = fails
no_function texts f i (value.Bool b) r e fails go = fails
no_function texts f i (value.Num z) r e fails go = fails
no_function texts f i (value.Str x) r e fails go = fails
no_function texts f i (value.Table t) r e fails go = fails
no_function texts f i (value.Thread t) r e fails go = fails
