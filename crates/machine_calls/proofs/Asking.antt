-- What waits decides, in the same coroutine.
use Rattle.std.proofs.Common.{◌≡◌, refl, sym, ap, ◌∙◌, ℕ, Bool, true, false, List, [], ◌∷◌, None, arith, nat_eq, slice_get}
use Rattle.std.specs.Prelude.{if◌then◌else◌}
use Rattle.std.proofs.lemmas.Bool.Decides.{nat_tests}
use mathlib.Core.Path.{fun_ext}
use Rattle.value_model.specs.declared.builtin.Builtin.{Builtin}
use Rattle.value_model.specs.declared.builtin.Builtin.TheVariants as builtin
use Rattle.value_model.specs.Values.{Value, Closure, Native, Host, Thread}
use Rattle.value_model.specs.Store.{Store, here}
use Rattle.value_model.specs.CoroutineRows.{coroutine_of}
use Rattle.value_model.specs.Waits.{Runs, Waits, await, Caller, ByScript, ByLibrary, Called, Answer, Enters, Calls}
use Rattle.value_model.specs.Waiting as deciding
use Rattle.value_model.specs.Waiting.{wait}
use Rattle.op_words.specs.Chunks.{ChunkOf}
use Rattle.bounded_runs.specs.Runs.{Charges}
use Rattle.machine_meaning.specs.States.{Frame, Invoke, World}
use Rattle.machine_meaning.specs.Moves.{store_of}
use Rattle.machine_meaning.specs.Calls.{state_with, enter, is_dead, put, switched, to, entered, follows, decided, without_closed, asks}

same_place : (i : ℕ) → nat_eq i i ≡ true
same_place i = grind (arith, nat_tests)

-- the store stays, nothing is shown and no environment noted
pub decided_here : (chunk : ChunkOf) (ch : Bool) (an : Answer) (ws : Waits) (fs : List Frame) (v : World) →
    decided chunk (record { charged = ch; answer = an; waits = ws; store = store_of v; event = None; environment = None }) fs v ≡ follows chunk an (to ch None) fs (record v { waits = ws })
decided_here chunk ch an ws fs v =
    let n : ℕ = here (store_of v) in
    let v' : World = record v { waits = ws } in
    ap (λ b. follows chunk an (to ch None) (switched b n n fs v').0 (switched b n n fs v').1) (same_place n)

neither : {A : Type 0} (b : Bool) (x : A) → (if b then x else x) ≡ x
neither true x = refl
neither false x = refl

abbrev no_frames : List Frame
no_frames = []

-- no coroutine but this one runs
pub closed_none : (by : Caller) (f : Value) (args : List Value) (s : Store) (v : World) → v.elsewhere ≡ (λ co. []) → without_closed (Called by f args) s v ≡ v
closed_none by (Native builtin.CoroutineClose) (Thread k ∷ vs) s v e = closes (is_dead (coroutine_of s k).status)
  where
    closes : (b : Bool) → (if b then record v { elsewhere = put v.elsewhere k [] } else v) ≡ v
    closes false = refl
    closes true =
        ap (λ m. record v { elsewhere = m }) (ap (λ m. put m k []) e ∙ fun_ext (λ j. neither (nat_eq j k) no_frames) ∙ sym e)
closed_none by f args s v e = refl

-- ---- calls

pub calls_closure : (chunk : ChunkOf) (by : Caller) (c : ℕ) (args : List Value) (fs : List Frame) (v : World) → asks chunk (Called by (Closure c) args) fs v ≡ entered (enter chunk (slice_get v.objects.bodies c) c args fs (record v { waits = await (Runs c) v.waits (store_of v) })) (to true None)
unfolding wait
calls_closure chunk ByScript c args fs v = decided_here chunk true (Enters c args) (await (Runs c) v.waits (store_of v)) fs v
calls_closure chunk ByLibrary c args fs v = decided_here chunk true (Enters c args) (await (Runs c) v.waits (store_of v)) fs v

-- another function starts, once a turn is charged
pub starts_native : (chunk : ChunkOf) (f : Builtin) (args : List Value) (fs : List Frame) (v : World) → v.elsewhere ≡ (λ co. []) → asks chunk (Called ByLibrary (Native f) args) fs v ≡ Charges (state_with (Invoke ByScript (Native f) args) fs v)
unfolding wait
starts_native chunk f args fs v e =
    ap (λ u. decided chunk (deciding.called ByLibrary (Native f) args (slice_get v.replies 0) v.waits (store_of v)) fs u) (closed_none ByLibrary (Native f) args (store_of v) v e)
    ∙ decided_here chunk true (Calls ByScript (Native f) args) v.waits fs v

pub starts_host : (chunk : ChunkOf) (i : ℕ) (args : List Value) (fs : List Frame) (v : World) → asks chunk (Called ByLibrary (Host i) args) fs v ≡ Charges (state_with (Invoke ByScript (Host i) args) fs v)
unfolding wait
starts_host chunk i args fs v = decided_here chunk true (Calls ByScript (Host i) args) v.waits fs v
