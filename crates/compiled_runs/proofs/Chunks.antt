-- A chunk of the functions that were emitted, each linked; and which prototype is the code of a function of the tree.
use Rattle.std.proofs.Common.{◌≡◌, ℕ, suc, ◌+◌, ◌≤◌, ◌^◌, List, [], ◌∷◌, length, Some, None, refl, ap}
use Rattle.std.specs.Prelude.{slice_get}
use Rattle.byte_text.specs.declared.fixed.StrId.{StrId}
use Rattle.syntax_tree.specs.declared.bindings.Bindings.{Bindings}
use Rattle.syntax_tree.specs.declared.notes.Visible.{Visible}
use Rattle.syntax_tree.specs.declared.tree.FuncBody.{FuncBody, out-FuncBody}
use Rattle.syntax_tree.specs.Need.{need}
use Rattle.syntax_tree.specs.Scope.{look}
use Rattle.source_meaning.specs.States.{Environment, cell_of}
use Rattle.op_words.specs.Chunks.{ChunkOf, ProtoOf}
use Rattle.machine_meaning.specs.Chunks.{proto_at}
use Rattle.code_link.specs.Linking.{IsLinked}
use Rattle.emit_expr.specs.declared.draft.Emitter.{Emitter}
use Rattle.emit_expr.specs.declared.draft.Prototype.{Prototype}
use Rattle.emit_expr.specs.Names.{upvalues_at}
use Rattle.emit_laws.specs.Growing.{Prefix}
use Rattle.scope_laws.specs.Sight.{Sight, Part, function, Sees}
use Rattle.compiled_runs.proofs.Reading.{AllFit}
use Rattle.compiled_runs.proofs.Captures.{Named}
use Rattle.compiled_runs.proofs.Functions.{finished, its_prototype}

-- the prototype is the linked code of a function that was emitted
pub record Linked (b : Bindings) (q : Prototype) (proto : ProtoOf) : Type 0 where
  pub params : proto.params ≡ q.params
  pub vararg : proto.vararg ≡ q.vararg
  pub upvalues : proto.upvalues ≡ length (upvalues_at b q.func)
  pub fits : AllFit q.items
  pub code : IsLinked q.items proto.code
  pub constants : proto.consts ≡ q.constants
  pub children : proto.children ≡ q.children
  pub few_constants : length q.constants ≤ 32768
  pub few_children : length q.children ≤ 32768
  pub few_upvalues : length (upvalues_at b q.func) ≤ 256

-- a number among the functions that were emitted names the prototype of that function
pub record LinkedAt (chunk : ChunkOf) (b : Bindings) (q : Prototype) (n : ℕ) : Type 0 where
  pub proto : ProtoOf
  pub found : proto_at chunk n ≡ Some proto
  pub linked : Linked b q proto

-- the chunk's functions are those that were emitted, in their order, each linked, with as many registers as its text needs
pub record Chunk (chunk : ChunkOf) (b : Bindings) (whole : Emitter) (main : FuncBody) : Type 0 where
  pub each : (n : ℕ) (q : Prototype) → slice_get whole.protos n ≡ Some q → LinkedAt chunk b q n
  pub registers : (n : ℕ) (q : Prototype) (proto : ProtoOf) (f : FuncBody) (s : Sight) (after : List Part) → slice_get whole.protos n ≡ Some q
      → proto_at chunk n ≡ Some proto → Sees main s (function f ∷ after) → (out-FuncBody f).id ≡ q.func → need f ≤ proto.registers
  pub few : length whole.protos ≤ 2 ^ 32
  pub main_last : chunk.main + 1 ≡ length whole.protos

-- The prototype is the code of a function that stands in the tree. Around the function these variables are in scope, and it captures those
-- that these names stand for
pub record CodeOf (b : Bindings) (whole : Emitter) (main : FuncBody) (func : FuncBody) (around : Environment) (ups : List StrId) (proto : ProtoOf) : Type 0 where
  pub from : Sight
  pub after : List Part
  pub stands : Sees main from (function func ∷ after)
  pub before : Emitter
  pub protos : Prefix (finished b func before).protos whole.protos
  pub strings : Prefix (finished b func before).strings whole.strings
  pub linked : Linked b (its_prototype b func before) proto
  pub room : need func ≤ proto.registers
  pub globals : (x : StrId) → look x from.scope ≡ None → cell_of around x ≡ None
  pub named : Named from.scope (upvalues_at b (out-FuncBody func).id) ups

-- each captured local has a name
pub named_as_many : (vs : List Visible) (ks : List ℕ) (xs : List StrId) → Named vs ks xs → length ks ≡ length xs
named_as_many vs [] [] n = refl
named_as_many vs [] (x ∷ xs) n = absurd n
named_as_many vs (k ∷ ks) [] n = absurd n
named_as_many vs (k ∷ ks) (x ∷ xs) n = ap suc (named_as_many vs ks xs n.1)
