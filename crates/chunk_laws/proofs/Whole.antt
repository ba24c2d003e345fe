-- A chunk whose functions are all ready breaks no rule.
use Rattle.std.proofs.Common.{◌≡◌, ℕ, zero, suc, ◌≤◌, ◌^◌, Bool, true, ◌&&◌, nat_eq, List, [], ◌∷◌, ◌++◌, length, Some, refl, sym, ap, ◌∙◌}
use Rattle.std.specs.Prelude.{slice_get}
use Rattle.op_words.specs.Chunks.{ChunkOf, ProtoOf}
use Rattle.machine_meaning.specs.Chunks.{proto_at}
use Rattle.machine_meaning.specs.WellFormed.{at_place, unless, is_main, all_faults, code_faults, upvalues_at, IsWellFormed}
use Rattle.syntax_tree.specs.declared.bindings.Bindings.{Bindings}
use Rattle.emit_expr.specs.declared.draft.Prototype.{Prototype}
use Rattle.emit_expr.specs.Names as names
use Rattle.shape_laws.specs.Shaped.{IsChild}
use Rattle.chunk_laws.specs.Laws.{IsReady}
use Rattle.chunk_laws.proofs.Functions.{function_none}

-- the functions from a number on are ready, each behind those before it
abbrev pub AreReady : ChunkOf → Bindings → (n : ℕ) → (before : List Prototype) → List Prototype → List ProtoOf → Type 0
AreReady chunk b n before [] [] = Unit {0}
AreReady chunk b n before (p ∷ ps) (q ∷ qs) = IsReady chunk n q b before p × AreReady chunk b (suc n) (before ++ p ∷ []) ps qs
AreReady chunk b n before [] (q ∷ qs) = ⊥
AreReady chunk b n before (p ∷ ps) [] = ⊥

pub functions_none : (chunk : ChunkOf) (b : Bindings) (n : ℕ) (before ps : List Prototype) (qs : List ProtoOf) → AreReady chunk b n before ps qs
    → all_faults chunk n qs ≡ []
functions_none chunk b n before [] [] h = refl
functions_none chunk b n before [] (q ∷ qs) h = absurd h
functions_none chunk b n before (p ∷ ps) [] h = absurd h
functions_none chunk b n before (p ∷ ps) (q ∷ qs) h =
    ap (λ l. l ++ all_faults chunk (suc n) qs) (function_none chunk n q b before p h.0) ∙ functions_none chunk b (suc n) (before ++ p ∷ []) ps qs h.1

-- a main function of any number of arguments, without parameters and upvalues
pub record IsMain (chunk : ChunkOf) : Type 0 where
  pub proto : ProtoOf
  pub there : proto_at chunk chunk.main ≡ Some proto
  pub vararg : proto.vararg ≡ true
  pub params : proto.params ≡ 0
  pub upvalues : proto.upvalues ≡ 0

main_is : (chunk : ChunkOf) → IsMain chunk → is_main (proto_at chunk chunk.main) ≡ true
main_is chunk m =
    ap is_main m.there ∙ ap (λ t. t && nat_eq m.proto.params 0 && nat_eq m.proto.upvalues 0) m.vararg
    ∙ ap (λ t. nat_eq t 0 && nat_eq m.proto.upvalues 0) m.params ∙ ap (λ t. nat_eq t 0) m.upvalues

pub chunk_none : (chunk : ChunkOf) (b : Bindings) (ps : List Prototype) → IsMain chunk → AreReady chunk b 0 [] ps chunk.protos → IsWellFormed chunk
unfolding code_faults
chunk_none chunk b ps m h =
    ap (λ t. at_place 0 0 (unless t 11) ++ all_faults chunk 0 chunk.protos) (main_is chunk m) ∙ functions_none chunk b 0 [] ps chunk.protos h

-- each child in the chunk captures as many variables as the one that was emitted, where so it is with each function before
pub captured_there : (chunk : ChunkOf) (b : Bindings) (before : List Prototype) → length before ≤ 2 ^ 32
    → ((c : ℕ) (p : Prototype) → slice_get before c ≡ Some p → upvalues_at chunk (Some c) ≡ length (names.upvalues_at b p.func))
    → (c count : ℕ) → IsChild b before c count → upvalues_at chunk (Some c) ≡ count
captured_there chunk b before few each c count h = each c h.proto (h.at few) ∙ sym h.captures
