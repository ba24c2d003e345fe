-- The environment of the function that runs, and names.
use Rattle.std.proofs.Common.{◌≡◌, ℕ, ◌-◌, ◌<◌, ◌≤◌, List, length, Option, Some, None, IsSomeAnd, sym, ◌∙◌, ap, subst, arith}
use Rattle.std.proofs.lemmas.List.{get_or-map}
use Rattle.value_model.specs.Parts.{meant, table_ref}
use Rattle.value_model.specs.Store.{script_environment}
use Rattle.value_model.specs.Values as m
use Rattle.value_model.specs.declared.event.Reply.{Reply}
use Rattle.value_model.specs.declared.ids.ClosureId.{ClosureId}
use Rattle.value_model.specs.declared.value.Value.TheVariants as value
use Rattle.value_arena.specs.declared.closure.Closure.{Closure}
use Rattle.value_arena.specs.Objects.{no_closure}
use Rattle.value_arena.specs.Arenas.{HasClosure, objects_of, closure_at}
use Rattle.value_arena.specs.Owning.{MayHold}
use Rattle.luau_tables.specs.Part.{environment_of, store_of}
use Rattle.luau_tables.specs.Worlds.{MayUseIn}
use Rattle.luau_tables.specs.declared.globals.LibWorld.{LibWorld}
use Rattle.call_frames.specs.declared.frame.Frame.{Frame}
use Rattle.call_frames.specs.Stacks.{StackView}
use Rattle.call_frames.specs.Cells.{innermost}
use Rattle.op_words.specs.Chunks.{ChunkOf}
use Rattle.machine_meaning.specs.States.{Focus}
use Rattle.machine_meaning.specs.Moves.{Row}
use Rattle.machine_meaning.specs.Constants.{name_at}
use Rattle.machine_meaning.specs.Effects.{with_name}
use Rattle.machine_code.specs.declared.code.Code.{Code}
use Rattle.machine_world.specs.Functions.{cells_of}
use Rattle.machine_world.specs.Parts.{world_with, part, read_in, read_of}
use Rattle.machine_world.specs.Rows.{proto_here}
use Rattle.machine_world.specs.Sound.{HasRegister, IsLuau, IsMachine}
use Rattle.machine_world.proofs.Frames.{functions_split}
use Rattle.machine_world.proofs.Here.{Here}
use Rattle.machine_world.proofs.Upvalues.{function_there, closure_is}
use Rattle.machine_rows.specs.Operations.{environment_value}

pub function_here : (w : LibWorld) (s : StackView) (f : Frame) (k : ClosureId) → innermost s ≡ Some f → f.closure ≡ Some k → IsMachine w s → HasClosure w.arena k
function_here w s f k e of is = (function_there w.owner w.arena s.frames (length s.frames - 1) f k is.functions e of).1

pub part_environment : (w : LibWorld) (code : Code) (s : StackView) (f : Frame) (k : ClosureId) (x : Focus) (replies : List Reply) → innermost s ≡ Some f →
    f.closure ≡ Some k → IsMachine w s → meant w.names (value.Table (closure_at w.arena k).env) ≡ read_of m.Nil environment_value (part w code s x replies)
unfolding part meant store_of HasClosure
part_environment w code s f k x replies e of is =
    let there = function_there w.owner w.arena s.frames (length s.frames - 1) f k is.functions e of in
    let cs : List Closure = (objects_of w.arena w.owner).closures in
    let low : k.place < length cs = subst (λ u. k.place < length (objects_of w.arena u).closures) there.0 there.1 in
    ap (λ (g : Closure). m.Table (table_ref g.env)) (closure_is w.owner w.arena k there.0)
    ∙ ap (λ t. m.Table t) (sym (get_or-map environment_of cs k.place no_closure script_environment low))
    ∙ sym (ap (λ fs. read_in m.Nil environment_value fs (world_with w code s.frames replies (cells_of w.names w.owner s w.arena))) (functions_split w.names cs s f k e of))

pub usable_environment : (w : LibWorld) (s : StackView) (f : Frame) (k : ClosureId) → innermost s ≡ Some f → f.closure ≡ Some k → IsMachine w s →
    MayUseIn w (value.Table (closure_at w.arena k).env)
usable_environment w s f k e of is =
    let there = function_there w.owner w.arena s.frames (length s.frames - 1) f k is.functions e of in
    (subst (λ u. MayHold w.arena u (value.Table (closure_at w.arena k).env)) there.0 (is.world.own.owned.closures k there.1).0, tt)

-- a row with a name that is there
pub with_named : {w : LibWorld} {code : Code} {s : StackView} {replies : List Reply} (chunk : ChunkOf) (h : Here w code s replies) (k : ℕ) (bytes : m.Bytes) (row : m.Bytes → Row) → name_at chunk (proto_here w code s) k ≡ Some bytes → with_name (name_at chunk h.frame.proto k) row h.frame h.others h.world ≡ row bytes h.frame h.others h.world
with_named chunk h k bytes row is = ap (λ q. with_name q row h.frame h.others h.world) (ap (λ p. name_at chunk p k) h.proto ∙ is)

-- what is looked at is the frames alone
pub has_same : (s s' : StackView) (r : ℕ) → s'.frames ≡ s.frames → HasRegister s r → HasRegister s' r
has_same s s' r e h = subst (λ (fs : List Frame). HasRegister (record s' { frames = fs }) r) (sym e) h

-- with a register there are those before it
pub has_lower : (s : StackView) (r q : ℕ) → q ≤ r → HasRegister s r → HasRegister s q
has_lower s r q le h = by (innermost s) h
  where
    by : (o : Option Frame) → IsSomeAnd o (λ f. IsLuau f × (r < f.registers)) → IsSomeAnd o (λ f. IsLuau f × (q < f.registers))
    by None h = h
    by (Some f) h = (h.0, omega (arith, le, h.1))
