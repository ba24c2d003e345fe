-- What a chunk is loaded to.
use Rattle.std.specs.Prelude.{◌≡◌, ◌<◌, ℕ, List, [], length, map, Option, Some, IfSome, slice_get}
use Rattle.std.specs.List.{AllByRecursion}
use Rattle.op_words.specs.Chunks.{ChunkOf, chunk_of, proto_of}
use Rattle.op_words.specs.declared.chunk.Chunk.{Chunk}
use Rattle.op_words.specs.declared.chunk.Proto.{Proto}
use Rattle.value_model.specs.Fresh.{HostFields}
use Rattle.value_model.specs.Store.{Store}
use Rattle.value_model.specs.Values.{Bytes}
use Rattle.value_model.specs.declared.event.Reply.{Reply}
use Rattle.value_model.specs.declared.value.Value.{Value}
use Rattle.luau_tables.specs.Own.{longest_text, HasText}
use Rattle.luau_tables.specs.Worlds.{MayUseIn}
use Rattle.luau_tables.specs.declared.globals.LibWorld.{LibWorld}
use Rattle.machine_meaning.specs.Runs.{loaded}
use Rattle.machine_meaning.specs.States.{Run}
use Rattle.machine_code.specs.Code.{IsCodeOf, IsFunctionOf}
use Rattle.machine_code.specs.declared.code.Code.{Code}
use Rattle.machine_code.specs.declared.code.Function.{Function}
use Rattle.machine_load.specs.Imports.{import_of}
use Rattle.machine_world.specs.Parts.{part}
use Rattle.machine_world.specs.Sound.{IsMachine, GoesOn}
use Rattle.machine_world.specs.declared.machine.Machine.{Machine}

-- each text has fewer bytes than there are whole numbers that are not negative
abbrev pub AreShort : List (List ℕ) → Type 0
AreShort strings = AllByRecursion (λ s. length s < longest_text) strings

-- the function is the prototype's, and holds what its imports lead to
pub record IsDecoded (chunk : ChunkOf) (w : LibWorld) (p : Proto) (f : Function) : Type 0 where
  pub code : IsFunctionOf chunk w.names (proto_of p) f
  pub imports : f.imports ≡ map (import_of w f.consts) p.consts.items
  pub usable : AllByRecursion (λ (o : Option Value). IfSome o (MayUseIn w)) f.imports

-- so is each function of the chunk
pub record AreDecoded (w : LibWorld) (chunk : Chunk) (code : Code) : Type 0 where
  pub count : length code.functions ≡ length chunk.protos.items
  pub each : (n : ℕ) (p : Proto) (f : Function) → slice_get chunk.protos.items n ≡ Some p → slice_get code.functions n ≡ Some f
      → IsDecoded (chunk_of chunk) w p f
  pub main : code.main ≡ chunk.main

-- a store without what a script owns
abbrev pub unowned : Store → Store
unowned s = record s { tables = []; closures = []; coroutines = [] }

-- each text in what imports hold has its number
abbrev pub KnowsImports : (texts : List Bytes) → Code → Type 0
KnowsImports texts code = AllByRecursion (λ (f : Function). AllByRecursion (λ v. IfSome v (HasText texts)) f.imports) code.functions

-- The machine has the chunk's code, and stands where the chunk's run begins with this host, whatever the replies
pub record IsLoaded (chunk : ChunkOf) (host : HostFields) (w : LibWorld) (m : Machine) : Type 0 where
  pub code : IsCodeOf chunk w.names m.code
  pub state : (replies : List Reply) → part w m.code m.stack Run replies ≡ loaded chunk host replies
  pub imports : KnowsImports w.names m.code
  pub sound : IsMachine w m.stack
  pub goes : GoesOn m.stack
