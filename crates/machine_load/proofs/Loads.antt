-- The machine that is made is where the chunk's run begins.
use Rattle.std.proofs.Common.{◌≡◌, ℕ, ◌-◌, List, [], ◌∷◌, length, map, if◌then◌else◌, Option, Some, None, refl, sym, ◌∙◌, ap, subst, arith}
use Rattle.std.proofs.Math.ListN.{replicate}
use Rattle.std.proofs.lemmas.Option.{slice_get-map, slice_get_within}
use Rattle.std.specs.Option.{option_map, option_and_then}
use Rattle.std.specs.Prelude.{slice_get}
use mathlib.Core.Path.{fun_ext}
use Rattle.op_words.specs.Chunks.{ChunkOf, ProtoOf, chunk_of, proto_of}
use Rattle.op_words.specs.declared.chunk.Chunk.{Chunk}
use Rattle.op_words.specs.declared.chunk.Const.{Const}
use Rattle.op_words.specs.declared.chunk.Proto.{Proto}
use Rattle.value_model.specs.Fresh.{HostFields, NoField, fresh}
use Rattle.value_model.specs.Parts.{meant}
use Rattle.value_model.specs.Store.{Store, script_environment}
use Rattle.value_model.specs.Values as m
use Rattle.value_model.specs.Values.{TableRef}
use Rattle.value_model.specs.declared.event.Reply.{Reply}
use Rattle.value_model.specs.declared.value.Value.{Value}
use Rattle.value_arena.specs.Arenas.{objects_of}
use Rattle.luau_tables.specs.Worlds.{IsWorld, store_in}
use Rattle.luau_tables.specs.declared.globals.LibWorld.{LibWorld}
use Rattle.call_frames.specs.Stacks.{no_stack}
use Rattle.machine_meaning.specs.Chunks.{proto_at, size_of}
use Rattle.machine_meaning.specs.Runs.{loaded, imports_of, path_in, resolved}
use Rattle.machine_meaning.specs.States.{Frame, State, Body, Run}
use Rattle.checked_runs.specs.Safe.{IsSafe}
use Rattle.machine_code.specs.declared.code.Code.{Code}
use Rattle.machine_code.specs.declared.code.Function.{Function}
use Rattle.machine_code.proofs.Lists.{some_at}
use Rattle.machine_world.specs.Functions.{body_of, functions_of, cells_of}
use Rattle.machine_world.specs.Parts.{entered, part, imports_in, import_in, marked_in}
use Rattle.machine_load.specs.Beginning.{HasStarted, started}
use Rattle.machine_load.specs.Imports.{import_of}
use Rattle.machine_load.specs.Loaded.{AreDecoded, unowned}
use Rattle.machine_load.proofs.Imported.{import_is}

-- ---- the main function is there

abbrev proto_first : List Frame → ℕ
proto_first [] = 0
proto_first (f ∷ fs) = f.proto

pub main_there : (chunk : ChunkOf) → IsSafe chunk (loaded chunk NoField []) → (p : ProtoOf) × (proto_at chunk chunk.main ≡ Some p)
main_there chunk safe =
    let active = safe.doing in (active.code, subst (λ n. proto_at chunk n ≡ Some active.code) (sym (ap proto_first active.functions)) active.is.code)

-- ---- what all functions share

pub store_begins : (host : HostFields) → started (unowned (fresh host)) ≡ fresh host
unfolding fresh
store_begins host = refl

module _ (chunk : Chunk) (host : HostFields) (w : LibWorld) (code : Code) (is : IsWorld w) (starts : store_in w ≡ fresh host) (so : AreDecoded w chunk code) where
  import_at : (n k : ℕ) (p : Proto) (f : Function) → slice_get chunk.protos.items n ≡ Some p → slice_get code.functions n ≡ Some f
      → import_in w.names f k ≡ option_and_then (resolved (fresh host)) (path_in (chunk_of chunk) n (slice_get p.consts.items k))
  import_at n k p f at there =
      let d = so.each n p f at there in
      let found : slice_get f.imports k ≡ option_map (import_of w f.consts) (slice_get p.consts.items k) =
      ap (λ (xs : List (Option Value)). slice_get xs k) d.imports ∙ slice_get-map (import_of w f.consts) p.consts.items k in
      let proto : proto_at (chunk_of chunk) n ≡ Some (proto_of p) = slice_get-map proto_of chunk.protos.items n ∙ ap (option_map proto_of) at in
      ap (λ (o : Option (Option Value)). option_map (meant w.names) (option_and_then (λ v. v) o)) found
      ∙ by (slice_get p.consts.items k)
      ∙ import_is w is host starts (chunk_of chunk) n (proto_of p) f proto d.code (slice_get p.consts.items k)
      ∙ ap (λ s. option_and_then (resolved s) (path_in (chunk_of chunk) n (slice_get p.consts.items k))) starts
    where
      by : (o : Option Const) → option_map (meant w.names) (option_and_then (λ (v : Option Value). v) (option_map (import_of w f.consts) o))
          ≡ option_map (meant w.names) (option_and_then (import_of w f.consts) o)
      by None = refl
      by (Some c) = refl

  import_of_number : (n k : ℕ) (o : Option Function) (q : Option Proto) → slice_get code.functions n ≡ o → slice_get chunk.protos.items n ≡ q
      → option_and_then (λ f. import_in w.names f k) o
      ≡ option_and_then (resolved (fresh host)) (path_in (chunk_of chunk) n (option_and_then (λ (p : ProtoOf). slice_get p.consts k) (option_map proto_of q)))
  import_of_number n k None None e d = refl
  import_of_number n k (Some f) None e d =
      let p = some_at chunk.protos.items n (omega (arith, slice_get_within code.functions n f e, so.count)) in let none : None ≡ Some p.0 = sym d ∙ p.1 in absurd cc
  import_of_number n k None (Some p) e d =
      let f = some_at code.functions n (omega (arith, slice_get_within chunk.protos.items n p d, so.count)) in let none : None ≡ Some f.0 = sym e ∙ f.1 in absurd cc
  import_of_number n k (Some f) (Some p) e d = import_at n k p f d e

  pub imports_are : imports_in w.names code ≡ imports_of (chunk_of chunk) (fresh host)
  unfolding imports_of
  imports_are =
      fun_ext (λ n. fun_ext (λ k. import_of_number n k (slice_get code.functions n) (slice_get chunk.protos.items n) refl refl
      ∙ ap (λ o. option_and_then (resolved (fresh host)) (path_in (chunk_of chunk) n (option_and_then (λ (p : ProtoOf). slice_get p.consts k) o)))
      (sym (slice_get-map proto_of chunk.protos.items n))))

-- ---- the state

-- the main function is entered in a world of these parts
abbrev begun_in : (replies : List Reply) → Store → List Body → List m.Value → List TableRef → (imports : ℕ → ℕ → Option m.Value) → (threads size : ℕ) → State
begun_in replies s bodies cells marked imports threads size =
    entered 0 size [] [] (record {
      focus = Run;
      functions = [];
      world = record {
        objects = record { store = s; bodies = bodies; cells = cells };
        waits = [] ∷ replicate (threads - 1) [];
        elsewhere = λ co. [];
        marked = marked;
        imports = imports;
        replies = replies;
      };
    })

pub state_begins : (chunk : Chunk) (host : HostFields) (before w : LibWorld) (code : Code) (f : Function) (main : ℕ) → main ≡ chunk.main
    → HasStarted before w main → store_in before ≡ unowned (fresh host) → AreDecoded w chunk code → slice_get code.functions main ≡ Some f
    → (p : ProtoOf) → proto_at (chunk_of chunk) chunk.main ≡ Some p → f.registers ≡ p.registers → (replies : List Reply)
    → entered 0 f.registers [] [] (part w code no_stack Run replies) ≡ loaded (chunk_of chunk) host replies
unfolding part functions_of cells_of fresh
state_begins chunk host before w code f main same begun starts so there p proto size replies =
    let o = objects_of w.arena w.owner in
    let store = begun.store ∙ ap started starts ∙ store_begins host in
    let imports = imports_are chunk host w code begun.sound.world store so in
    let body : Body = record { proto = chunk.main; cells = [] } in
    let bodies : map body_of o.closures ≡ body ∷ [] = begun.bodies ∙ ap (λ n. record { proto = n; cells = [] } ∷ []) same in
    let marked : marked_in w ≡ script_environment ∷ [] = ap (λ b. if b then script_environment ∷ [] else []) begun.marked in
    ap (λ s. begun_in replies s (map body_of o.closures) (map (meant w.names) o.cells) (marked_in w) (imports_in w.names code) (length o.threads) f.registers) store
    ∙ ap (λ bs. begun_in replies (fresh host) bs (map (meant w.names) o.cells) (marked_in w) (imports_in w.names code) (length o.threads) f.registers) bodies
    ∙ ap (λ cs. begun_in replies (fresh host) (body ∷ []) (map (meant w.names) cs) (marked_in w) (imports_in w.names code) (length o.threads) f.registers) begun.cells
    ∙ ap (λ ms. begun_in replies (fresh host) (body ∷ []) [] ms (imports_in w.names code) (length o.threads) f.registers) marked
    ∙ ap (λ is. begun_in replies (fresh host) (body ∷ []) [] (script_environment ∷ []) is (length o.threads) f.registers) imports
    ∙ ap (λ n. begun_in replies (fresh host) (body ∷ []) [] (script_environment ∷ []) (imports_of (chunk_of chunk) (fresh host)) n f.registers) begun.threads
    ∙ ap (λ n. begun_in replies (fresh host) (body ∷ []) [] (script_environment ∷ []) (imports_of (chunk_of chunk) (fresh host)) 1 n)
    (size ∙ sym (ap size_of proto))
