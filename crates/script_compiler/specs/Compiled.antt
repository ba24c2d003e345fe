-- What a script is compiled to.
use Rattle.std.specs.Prelude.{◌≡◌, ℕ, ◌-◌, ◌<◌, ◌≤◌, ◌^◌, List, [], ◌∷◌, length, map, slice_get, unwrap_or}
use Rattle.byte_text.specs.declared.fixed.StrId.{StrId}
use Rattle.op_words.specs.Chunks.{ChunkOf, ProtoOf}
use Rattle.code_link.specs.Linking.{IsLinked}
use Rattle.syntax_tree.specs.declared.bindings.Bindings.{Bindings}
use Rattle.syntax_tree.specs.declared.tree.FuncBody.{FuncBody}
use Rattle.syntax_tree.specs.declared.tree.Tree.{Tree}
use Rattle.syntax_tree.specs.Numbers.{numbered}
use Rattle.emit_expr.specs.declared.draft.Prototype.{Prototype}
use Rattle.emit_expr.specs.Puts.{narrow, long}
use Rattle.emit_expr.specs.Names.{upvalues_at}
use Rattle.node_code.specs.Code.{script_code}
use Rattle.function_registers.specs.declared.walk.FuncRegisters.{FuncRegisters}
use Rattle.function_registers.specs.Registers.{all_entries, registers_in}

-- a tree whose nodes are numbered in source order
pub record IsNumbered (tree : Tree) : Type 0 where
  pub main : FuncBody
  pub is : tree ≡ numbered main

-- the text of a number; the empty text where there is none
abbrev pub text_of : (texts : List (List ℕ)) → StrId → List ℕ
text_of texts id = unwrap_or (slice_get texts id.0) []

-- A function of the chunk: what was emitted for it, with its code linked, and as many registers and upvalues as the function has
pub record IsLinkedProto (sizes : List FuncRegisters) (b : Bindings) (p : Prototype) (q : ProtoOf) : Type 0 where
  pub registers : q.registers ≡ registers_in p.func sizes
  pub params : q.params ≡ narrow p.params
  pub upvalues : q.upvalues ≡ narrow (length (upvalues_at b p.func))
  pub vararg : q.vararg ≡ p.vararg
  pub code : IsLinked p.items q.code
  pub consts : q.consts ≡ p.constants
  pub children : q.children ≡ p.children

-- one for each function, in the same order
abbrev pub AreLinked : List FuncRegisters → Bindings → List Prototype → List ProtoOf → Type 0
AreLinked sizes b [] [] = Unit {0}
AreLinked sizes b (p ∷ ps) (q ∷ qs) = IsLinkedProto sizes b p q × AreLinked sizes b ps qs
AreLinked sizes b [] (q ∷ qs) = ⊥
AreLinked sizes b (p ∷ ps) [] = ⊥

-- The chunk of a script: the texts of the strings that its code names, and its functions in the order in which their texts end, the main
-- function last. The tree is no larger than memory, and there are no more strings and functions than numbers of 32 bits
pub record IsCompiled (tree : Tree) (b : Bindings) (texts : List (List ℕ)) (chunk : ChunkOf) : Type 0 where
  pub strings : chunk.strings ≡ map (text_of texts) (script_code b tree.main).strings
  pub protos : AreLinked (all_entries tree.main) b (script_code b tree.main).protos chunk.protos
  pub main : chunk.main ≡ long (length (script_code b tree.main).protos - 1)
  pub few_nodes : tree.nodes ≤ 2 ^ 62
  pub few_strings : length (script_code b tree.main).strings ≤ 2 ^ 32
  pub few_protos : length (script_code b tree.main).protos ≤ 2 ^ 32
  pub few_locals : length b.locals < 2 ^ 64
