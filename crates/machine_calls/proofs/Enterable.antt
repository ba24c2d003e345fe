-- In a safe state what a script may use may be entered.
use Rattle.std.proofs.Common.{◌≡◌, ℕ, ◌<◌, ◌≤◌, Bool, true, false, ◌&&◌, nat_le, nat_lt, List, [], map, get_or, length, Some, IsSomeAnd, slice_get, refl, sym, ◌∙◌, ap, subst, arith}
use Rattle.std.specs.List.{list_all}
use Rattle.std.proofs.lemmas.Bool.Decides.{nat_tests}
use Rattle.std.proofs.lemmas.Option.{slice_get_within}
use Rattle.value_model.specs.declared.event.Reply.{Reply}
use Rattle.value_model.specs.declared.ids.ClosureId.{ClosureId}
use Rattle.value_model.specs.declared.value.Value.TheVariants as value
use Rattle.value_arena.specs.declared.closure.Closure.{Closure}
use Rattle.value_arena.specs.Objects.{no_closure}
use Rattle.value_arena.specs.Arenas.{HasClosure, closure_at, objects_of}
use Rattle.luau_tables.specs.Worlds.{MayUseIn}
use Rattle.luau_tables.specs.declared.globals.LibWorld.{LibWorld}
use Rattle.call_frames.specs.Stacks.{StackView}
use Rattle.op_words.specs.Chunks.{ChunkOf, ProtoOf}
use Rattle.machine_meaning.specs.Chunks.{proto_at}
use Rattle.machine_meaning.specs.Needs.{lines}
use Rattle.machine_meaning.specs.WellFormed.{IsWellFormed, is_prepared}
use Rattle.machine_meaning.specs.States.{Focus, Body}
use Rattle.checked_runs.specs.Safe.{IsBody, IsSafe}
use Rattle.checked_runs.proofs.Elements.{each_at}
use Rattle.checked_runs.proofs.Rules.{proto_sound}
use Rattle.machine_code.specs.Code.{IsCodeOf}
use Rattle.machine_code.specs.declared.code.Code.{Code}
use Rattle.machine_code.specs.declared.code.Function.{Function}
use Rattle.machine_code.proofs.Lists.{some_at}
use Rattle.machine_world.specs.Functions.{body_of}
use Rattle.machine_world.specs.Parts.{part}
use Rattle.machine_world.specs.Sound.{IsMachine}
use Rattle.machine_world.proofs.Results.{own_closure}
use Rattle.machine_calls.specs.Laws.{SafeMayEnter}
use Rattle.machine_calls.specs.Moving.{MayEnter}
use Rattle.machine_calls.proofs.Entered.{body_get, body_proto}

third : (a b c d e : Bool) → (a && b && c && d && e) ≡ true → c ≡ true
third true true true d e i = refl
third true true false d e i = absurd cc
third true false c d e i = absurd cc
third false b c d e i = absurd cc

-- the parameters of a function are among its registers
params_fit : (chunk : ChunkOf) (n : ℕ) (p : ProtoOf) → IsWellFormed chunk → proto_at chunk n ≡ Some p → p.params ≤ p.registers
params_fit chunk n p well at =
    let fits =
    third (nat_le 1 p.registers) (nat_le p.registers 250) (nat_le p.params p.registers) (list_all (λ c. nat_lt c n) p.children)
    (is_prepared p.params p.vararg (lines p.code)) (proto_sound chunk n p well at).proto in
    grind (arith, nat_tests)

-- so are those of a function of the code
code_fits : (chunk : ChunkOf) (w : LibWorld) (code : Code) (n : ℕ) (p : ProtoOf) → IsWellFormed chunk → IsCodeOf chunk w.names code →
    proto_at chunk n ≡ Some p → IsSomeAnd (slice_get code.functions n) (λ (f : Function). f.params ≤ f.registers)
code_fits chunk w code n p well of at =
    let low : n < length code.functions = omega (arith, slice_get_within chunk.protos n p at, of.count) in
    let f = some_at code.functions n low in
    let is = of.functions n p f.0 at f.1 in
    let fits : f.0.params ≤ f.0.registers = omega (arith, params_fit chunk n p well at, is.params, is.registers) in
    subst (λ q. IsSomeAnd q (λ (f : Function). f.params ≤ f.registers)) (sym f.1) fits

closure_fits : (chunk : ChunkOf) (w : LibWorld) (code : Code) (s : StackView) (x : Focus) (replies : List Reply) (c : ClosureId) → IsWellFormed chunk →
    IsCodeOf chunk w.names code → IsMachine w s → MayUseIn w (value.Closure c) → IsSafe chunk (part w code s x replies) → MayEnter w.arena code c
unfolding part closure_at HasClosure
closure_fits chunk w code s x replies c well of is may safe =
    let own = own_closure w c is.world.own.shared.closures may.0 in
    let cs : List Closure = (objects_of w.arena w.owner).closures in
    let room : c.place < length cs = subst (λ u. c.place < length (objects_of w.arena u).closures) own.0 own.1 in
    let b : Body = get_or (map body_of cs) c.place (record { proto = 0; cells = [] }) in
    let body = each_at (IsBody chunk safe.sizes) (map body_of cs) c.place b safe.world.bodies (body_get cs c.place room) in
    let proto : b.proto ≡ (closure_at w.arena c).proto =
    body_proto cs c.place room ∙ sym (ap (λ u. (get_or (objects_of w.arena u).closures c.place no_closure).proto) own.0) in
    code_fits chunk w code (closure_at w.arena c).proto body.code well of (sym (ap (proto_at chunk) proto) ∙ body.is)

pub safe_may_enter : SafeMayEnter
safe_may_enter chunk w code s x replies (value.Closure c) well of is may safe = closure_fits chunk w code s x replies c well of is may safe
safe_may_enter chunk w code s x replies value.Nil well of is may safe = tt
safe_may_enter chunk w code s x replies (value.Bool b) well of is may safe = tt
safe_may_enter chunk w code s x replies (value.Num z) well of is may safe = tt
safe_may_enter chunk w code s x replies (value.Str t) well of is may safe = tt
safe_may_enter chunk w code s x replies (value.Table t) well of is may safe = tt
safe_may_enter chunk w code s x replies (value.Native f) well of is may safe = tt
safe_may_enter chunk w code s x replies (value.Host i) well of is may safe = tt
safe_may_enter chunk w code s x replies (value.Wrap t) well of is may safe = tt
safe_may_enter chunk w code s x replies (value.Thread t) well of is may safe = tt
