-- Luau functions are entered.
use Rattle.std.proofs.Common.{◌≡◌, refl, sym, ap, ◌∙◌, subst, ℕ, zero, suc, ◌-◌, ◌<◌, ◌≤◌, nat_lt, ◌⊎◌, inl, inr, Bool, true, false, cond, List, [], ◌∷◌, map, length, take, drop, get_or, Option, Some, None, IsSomeAnd, slice_get, arith}
use Rattle.std.proofs.lemmas.Bool.{ltb-false}
use Rattle.value_model.specs.Parts.{meant}
use Rattle.value_model.specs.Values as m
use Rattle.value_model.specs.Waits as wait
use Rattle.value_model.specs.declared.ids.ClosureId.{ClosureId}
use Rattle.value_model.specs.declared.value.Value.{Value}
use Rattle.value_model.specs.declared.value.Value.TheVariants as value
use Rattle.value_arena.specs.declared.closure.Closure.{Closure}
use Rattle.value_arena.specs.Objects.{no_closure}
use Rattle.value_arena.specs.Arenas.{ArenaView, HasClosure, closure_at, objects_of}
use Rattle.bounded_runs.specs.Runs.{Charges}
use Rattle.luau_tables.specs.Worlds.{MayUseIn}
use Rattle.luau_tables.specs.declared.globals.LibWorld.{LibWorld}
use Rattle.call_frames.specs.Stacks.{StackView}
use Rattle.op_words.specs.Chunks.{ChunkOf, ProtoOf}
use Rattle.machine_meaning.specs.Chunks.{proto_at}
use Rattle.machine_meaning.specs.States as machine
use Rattle.machine_meaning.specs.States.{Body, State, World}
use Rattle.machine_meaning.specs.Moves.{store_of}
use Rattle.machine_meaning.specs.Calls.{varargs_of, begun, enter, to}
use Rattle.machine_meaning.specs.Calls as calls
use Rattle.machine_code.specs.declared.code.Code.{Code}
use Rattle.machine_code.specs.declared.code.Function.{Function}
use Rattle.machine_code.specs.Code.{IsCodeOf, IsFunctionOf}
use Rattle.machine_world.specs.Functions.{body_of}
use Rattle.machine_world.specs.Parts.{part, entered, Becomes}
use Rattle.machine_world.specs.Sound.{IsMachine}
use Rattle.machine_world.proofs.Results.{own_closure}
use Rattle.machine_calls.specs.Moving.{ChargesTo, MayEnter}
use Rattle.machine_calls.specs.Parameters.{given_count}
use Rattle.machine_calls.proofs.Asking.{calls_closure}
use Rattle.machine_calls.proofs.Waited.{those, shared}

-- ---- the function

pub record Entry (a : ArenaView) (code : Code) (c : ClosureId) : Type 0 where
  pub function : Function
  pub there : slice_get code.functions (closure_at a c).proto ≡ Some function
  pub fits : function.params ≤ function.registers
  pub low : (closure_at a c).proto < length code.functions

some_low : {A : Type 0} (xs : List A) (i : ℕ) (x : A) → slice_get xs i ≡ Some x → i < length xs
some_low [] i x e = absurd (cc)
some_low (y ∷ xs) zero x e = omega arith
some_low (y ∷ xs) (suc i) x e = let low : i < length xs = some_low xs i x e in omega (arith, low)

pub entry : (a : ArenaView) (code : Code) (c : ClosureId) → MayEnter a code c → Entry a code c
entry a code c h = by (slice_get code.functions (closure_at a c).proto) refl h
  where
    by : (q : Option Function) → slice_get code.functions (closure_at a c).proto ≡ q → IsSomeAnd q (λ (f : Function). f.params ≤ f.registers) → Entry a code c
    by None e h = absurd h
    by (Some f) e h = record { function = f; there = e; fits = h; low = some_low code.functions (closure_at a c).proto f e }

-- ---- its arguments

abbrev the_empty : {A : Type 0} → List A
the_empty = []

map_take : (f : Value → m.Value) (n : ℕ) (vs : List Value) → map f (take n vs) ≡ take n (map f vs)
map_take f zero vs = refl
map_take f (suc n) [] = refl
map_take f (suc n) (v ∷ vs) = ap (λ l. f v ∷ l) (map_take f n vs)

map_drop : (f : Value → m.Value) (n : ℕ) (vs : List Value) → map f (drop n vs) ≡ drop n (map f vs)
map_drop f zero vs = refl
map_drop f (suc n) [] = refl
map_drop f (suc n) (v ∷ vs) = map_drop f n vs

take_few : {A : Type 0} (n k : ℕ) (xs : List A) → (k ≡ n) ⊎ ((k ≡ length xs) × (length xs ≤ n)) → take k xs ≡ take n xs
take_few n k xs (inl e) = ap (λ k. take k xs) e
take_few n k xs (inr h) = ap (λ k. take k xs) h.0 ∙ all n xs h.1
  where
    all : {A : Type 0} (n : ℕ) (xs : List A) → length xs ≤ n → take (length xs) xs ≡ take n xs
    all zero [] le = refl
    all (suc n) [] le = refl
    all zero (x ∷ xs) le = absurd (omega (arith, le))
    all (suc n) (x ∷ xs) le = ap (λ l. x ∷ l) (all n xs (omega (arith, le)))

drop_few : {A : Type 0} (n k : ℕ) (xs : List A) → (k ≡ n) ⊎ ((k ≡ length xs) × (length xs ≤ n)) → drop k xs ≡ drop n xs
drop_few n k xs (inl e) = ap (λ k. drop k xs) e
drop_few n k xs (inr h) = ap (λ k. drop k xs) h.0 ∙ all n xs h.1
  where
    all : {A : Type 0} (n : ℕ) (xs : List A) → length xs ≤ n → drop (length xs) xs ≡ drop n xs
    all zero [] le = refl
    all (suc n) [] le = refl
    all zero (x ∷ xs) le = absurd (omega (arith, le))
    all (suc n) (x ∷ xs) le = all n xs (omega (arith, le))

drop_whole : {A : Type 0} (xs : List A) → drop (length xs) xs ≡ []
drop_whole [] = refl
drop_whole (x ∷ xs) = drop_whole xs

-- the rest of a list is all of it behind a place
pub rest_all : {A : Type 0} (n : ℕ) (xs : List A) → take (length xs - n) (drop n xs) ≡ drop n xs
rest_all zero xs = let all : length xs - 0 ≡ length xs = omega arith in ap (λ k. take k xs) all ∙ whole xs
  where
    whole : {A : Type 0} (xs : List A) → take (length xs) xs ≡ xs
    whole [] = refl
    whole (x ∷ xs) = ap (λ l. x ∷ l) (whole xs)
rest_all (suc n) [] = nothing (0 - suc n)
  where
    nothing : {A : Type 0} (k : ℕ) → take k (the_empty {A = A}) ≡ the_empty {A = A}
    nothing zero = refl
    nothing (suc k) = refl
rest_all (suc n) (x ∷ xs) =
    let less : length (x ∷ xs) - suc n ≡ length xs - n = omega arith in
    ap (λ k. take k (drop n xs)) less ∙ rest_all n xs

-- so many of the values are the parameters
abbrev pub Split : (params count split : ℕ) → Type 0
Split n count k = (k ≡ n) ⊎ ((k ≡ count) × (count ≤ n))

pub split_is : (n count k : ℕ) → k ≡ given_count n count → Split n count k
split_is n count k e = by (nat_lt n count) refl
  where
    by : (b : Bool) → nat_lt n count ≡ b → Split n count k
    by true t = inl (e ∙ ap (λ b. cond b n count) t)
    by false t = inr (e ∙ ap (λ b. cond b n count) t, ltb-false n count t)

-- the arguments behind them
extra_is : (texts : List m.Bytes) (vararg : Bool) (n k behind : ℕ) (vs : List Value) → Split n (length vs) k → behind ≡ cond vararg k (length vs) →
    varargs_of vararg n (map (meant texts) vs) ≡ map (meant texts) (drop behind vs)
extra_is texts true n k behind vs split e =
    sym (map_drop (meant texts) n vs) ∙ ap (map (meant texts)) (sym (drop_few n k vs split) ∙ sym (ap (λ b. drop b vs) e))
extra_is texts false n k behind vs split e =
    sym (ap (map (meant texts)) (ap (λ b. drop b vs) e ∙ drop_whole vs))

-- ---- it is entered

pub body_get : (cs : List Closure) (i : ℕ) → i < length cs → slice_get (map body_of cs) i ≡ Some (get_or (map body_of cs) i (record { proto = 0; cells = [] }))
body_get [] i lt = absurd (omega (arith, lt))
body_get (c ∷ cs) zero lt = refl
body_get (c ∷ cs) (suc i) lt = body_get cs i (omega (arith, lt))

pub body_proto : (cs : List Closure) (i : ℕ) → i < length cs → (get_or (map body_of cs) i (record { proto = 0; cells = [] })).proto ≡ (get_or cs i no_closure).proto
body_proto [] i lt = absurd (omega (arith, lt))
body_proto (c ∷ cs) zero lt = refl
body_proto (c ∷ cs) (suc i) lt = body_proto cs i (omega (arith, lt))

-- the function of the chunk
pub record Known (chunk : ChunkOf) (texts : List m.Bytes) (n : ℕ) (f : Function) : Type 0 where
  pub proto : ProtoOf
  pub at : proto_at chunk n ≡ Some proto
  pub is : IsFunctionOf chunk texts proto f

pub known : (chunk : ChunkOf) (texts : List m.Bytes) (code : Code) (n : ℕ) (f : Function) → IsCodeOf chunk texts code → n < length code.functions → slice_get code.functions n ≡ Some f → Known chunk texts n f
known chunk texts code n f is low there = by (proto_at chunk n) refl
  where
    by : (q : Option ProtoOf) → proto_at chunk n ≡ q → Known chunk texts n f
    by (Some p) e = record { proto = p; at = e; is = is.functions n p f e there }
    by None e = absurd (none chunk.protos n (omega (arith, low, is.count)) e)
      where
        none : (ps : List ProtoOf) (i : ℕ) → i < length ps → slice_get ps i ≡ None → ⊥
        none [] i lt e = absurd (omega (arith, lt))
        none (p ∷ ps) zero lt e = absurd (cc)
        none (p ∷ ps) (suc i) lt e = none ps i (omega (arith, lt)) e

-- as the definition enters it
pub entered_as : (chunk : ChunkOf) (b : Body) (bodies : List Body) (p : ProtoOf) (c n : ℕ) (vs given extra : List m.Value) (fs : List machine.Frame) (v : World) → slice_get bodies c ≡ Some b → proto_at chunk b.proto ≡ Some p → n ≡ p.registers → take p.params vs ≡ given → varargs_of p.vararg p.params vs ≡ extra → calls.entered (enter chunk (slice_get bodies c) c vs fs v) (to true None) ≡ Charges (calls.state_with machine.Run (record { closure = c; proto = b.proto; size = n; upvalues = b.cells; varargs = extra; place = 0; registers = machine.filled 0 given; top = length given; purpose = machine.Idle } ∷ fs) v)
entered_as chunk b bodies p c n vs given extra fs v at is_p size is_given is_extra =
    let f : ℕ → List m.Value → List m.Value → machine.Frame = λ k g x. record { closure = c; proto = b.proto; size = k; upvalues = b.cells; varargs = x; place = 0; registers = machine.filled 0 g; top = length g; purpose = machine.Idle } in
    ap (λ q. calls.entered (enter chunk q c vs fs v) (to true None)) at
    ∙ ap (λ q. calls.entered (begun q b c vs fs v) (to true None)) is_p
    ∙ ap (λ k. Charges (calls.state_with machine.Run (f k (take p.params vs) (varargs_of p.vararg p.params vs) ∷ fs) v)) (sym size)
    ∙ ap (λ g. Charges (calls.state_with machine.Run (f n g (varargs_of p.vararg p.params vs) ∷ fs) v)) is_given
    ∙ ap (λ x. Charges (calls.state_with machine.Run (f n given x ∷ fs) v)) is_extra

pub enters : (chunk : ChunkOf) (by : wait.Caller) (w : LibWorld) (code : Code) (s s' : StackView) (c : ClosureId) (f : Function) (vs : List Value) (k behind : ℕ) → IsMachine w s → MayUseIn w (value.Closure c) → IsCodeOf chunk w.names code → slice_get code.functions (closure_at w.arena c).proto ≡ Some f → (closure_at w.arena c).proto < length code.functions → Split f.params (length vs) k → behind ≡ cond f.vararg k (length vs) → Becomes (entered c.place f.registers (map (meant w.names) (take k vs)) (map (meant w.names) (drop behind vs))) w code s w s' → ChargesTo chunk w code s (machine.Invoke by (m.Closure c.place) (map (meant w.names) vs)) w s' machine.Run
unfolding part closure_at HasClosure
enters chunk by w code s s' c f vs k behind is may of there low split e becomes replies =
    let own = own_closure w c is.world.own.shared.closures may.0 in
    let cs : List Closure = (objects_of w.arena w.owner).closures in
    let room : c.place < length cs = subst (λ u. c.place < length (objects_of w.arena u).closures) own.0 own.1 in
    let b : Body = get_or (map body_of cs) c.place (record { proto = 0; cells = [] }) in
    let v : World = shared w code s replies in
    let us : List m.Value = map (meant w.names) vs in
    let kn = known chunk w.names code (closure_at w.arena c).proto f of low there in
    let p : ProtoOf = kn.proto in
    let proto : b.proto ≡ (closure_at w.arena c).proto = body_proto cs c.place room ∙ sym (ap (λ u. (get_or (objects_of w.arena u).closures c.place no_closure).proto) own.0) in
    let given : take p.params us ≡ map (meant w.names) (take k vs) =
    sym (map_take (meant w.names) p.params vs) ∙ ap (map (meant w.names)) (sym (ap (λ n. take n vs) kn.is.params) ∙ sym (take_few f.params k vs split)) in
    let extra : varargs_of p.vararg p.params us ≡ map (meant w.names) (drop behind vs) =
    sym (ap (λ b. varargs_of b p.params us) kn.is.vararg) ∙ sym (ap (λ n. varargs_of f.vararg n us) kn.is.params) ∙ extra_is w.names f.vararg f.params k behind vs split e in
    calls_closure chunk by c.place us (those w s) v
    ∙ entered_as chunk b (map body_of cs) p c.place f.registers us (map (meant w.names) (take k vs)) (map (meant w.names) (drop behind vs)) (those w s) (record v { waits = wait.await (wait.Runs c.place) v.waits (store_of v) }) (body_get cs c.place room) (ap (proto_at chunk) proto ∙ kn.at) kn.is.registers given extra
    ∙ sym (ap (λ t. Charges t) (becomes machine.Run replies))
