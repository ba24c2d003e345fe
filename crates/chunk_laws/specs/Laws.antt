-- What was emitted for a function, linked, breaks no rule of well-formed code.
use Rattle.std.specs.Prelude.{◌≡◌, ◌≤◌, ℕ, List, [], length, Some}
use Rattle.op_words.specs.Chunks.{ChunkOf, ProtoOf}
use Rattle.code_link.specs.Labels.{IsLinkable}
use Rattle.code_link.specs.Linking.{IsLinked}
use Rattle.machine_meaning.specs.Chunks.{proto_at}
use Rattle.machine_meaning.specs.WellFormed.{upvalues_at, proto_faults}
use Rattle.syntax_tree.specs.declared.bindings.Bindings.{Bindings}
use Rattle.emit_expr.specs.declared.draft.Prototype.{Prototype}
use Rattle.operand_laws.specs.Fitting.{AllFit}
use Rattle.shape_laws.specs.Shaped.{IsChild, IsShaped}
use Rattle.upvalue_laws.specs.Laws.{AreUpvalues}

-- the function of the chunk with that number is what was emitted, which has the shape, and whose operands are there
pub record IsReady (chunk : ChunkOf) (n : ℕ) (q : ProtoOf) (b : Bindings) (before : List Prototype) (p : Prototype) : Type 0 where
  pub there : proto_at chunk n ≡ Some q
  pub number : length before ≡ n
  pub shaped : IsShaped b (length chunk.strings) before p
  pub linkable : IsLinkable p.items
  pub fits : AllFit q.registers p.items
  pub upvalues : AreUpvalues q.upvalues p.items
  pub code : IsLinked p.items q.code
  pub consts : q.consts ≡ p.constants
  pub children : q.children ≡ p.children
  pub vararg : q.vararg ≡ p.vararg
  pub params : q.params ≡ p.params
  -- each child in the chunk captures as many variables as the child that was emitted
  pub captured : (c count : ℕ) → IsChild b before c count → upvalues_at chunk (Some c) ≡ count
  pub some : 1 ≤ q.registers
  pub few : q.registers ≤ 250
  pub room : q.params ≤ q.registers

abbrev pub FunctionsWellFormed : Type 0
FunctionsWellFormed = (chunk : ChunkOf) (n : ℕ) (q : ProtoOf) (b : Bindings) (before : List Prototype) (p : Prototype) →
    IsReady chunk n q b before p → proto_faults chunk n q ≡ []
