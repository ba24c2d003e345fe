-- Decoded code, and the chunk that it stands for.
use Rattle.std.specs.Prelude.{◌≡◌, ℕ, ◌<◌, negsuc, List, map, length, replicate, Option, Some, None, slice_get, unwrap_or}
use Rattle.std.specs.List.{AllByRecursion}
use Rattle.op_words.specs.declared.insn.Insn.{Insn}
use Rattle.op_words.specs.declared.insn.Insn.TheVariants.{Nop}
use Rattle.op_words.specs.declared.chunk.Const.{Const}
use Rattle.op_words.specs.Chunks.{ChunkOf, ProtoOf}
use Rattle.op_words.specs.Decoding.{insn_at}
use Rattle.value_model.specs.Parts.{meant}
use Rattle.value_model.specs.Values as m
use Rattle.value_model.specs.Values.{Bytes}
use Rattle.value_model.specs.declared.value.Value.{Value}
use Rattle.value_model.specs.declared.value.Value.TheVariants as value
use Rattle.machine_meaning.specs.Chunks.{proto_at}
use Rattle.machine_meaning.specs.Constants.{value_of}
use Rattle.machine_code.specs.declared.code.Code.{Code}
use Rattle.machine_code.specs.declared.code.Function.{Function}
use Rattle.machine_code.specs.declared.code.Line.{Line}

-- ---- instructions

-- what stands where no instruction begins. Well-formed code has it nowhere, and there is no rule for it
abbrev pub no_line : Line
no_line = record { insn = Nop (negsuc 0); next = 0 }

abbrev pub line_of : Option (Insn × ℕ) → Line
line_of None = no_line
line_of (Some (insn, next)) = record { insn = insn; next = next }

-- there is a line for each word of the code, and it is what is read at that place
pub record AreLinesOf (code : List ℕ) (lines : List Line) : Type 0 where
  pub count : length lines ≡ length code
  pub at : (place : ℕ) (l : Line) → slice_get lines place ≡ Some l → l ≡ line_of (insn_at code place)

-- ---- constants

-- a value that is no object. A text has the number of one of the texts
abbrev pub IsConstant : (texts : List Bytes) → Value → Type 0
IsConstant texts value.Nil = Unit {0}
IsConstant texts (value.Bool b) = Unit {0}
IsConstant texts (value.Num z) = Unit {0}
IsConstant texts (value.Str x) = x.0 < length texts
IsConstant texts v = ⊥

-- the value of a constant, and nil in place of an import's
abbrev pub value_or_nil : ChunkOf → Const → m.Value
value_or_nil chunk c = unwrap_or (value_of chunk c) m.Nil

-- each constant is its value
pub record AreConstantsOf (chunk : ChunkOf) (texts : List Bytes) (constants : List Const) (vs : List Value) : Type 0 where
  pub values : map (meant texts) vs ≡ map (value_or_nil chunk) constants
  pub plain : AllByRecursion (IsConstant texts) vs

-- ---- functions

-- a function of the chunk, with as many imports as constants, whatever they hold
pub record IsFunctionOf (chunk : ChunkOf) (texts : List Bytes) (p : ProtoOf) (f : Function) : Type 0 where
  pub registers : f.registers ≡ p.registers
  pub params : f.params ≡ p.params
  pub upvalues : f.upvalues ≡ p.upvalues
  pub vararg : f.vararg ≡ p.vararg
  pub lines : AreLinesOf p.code f.lines
  pub consts : AreConstantsOf chunk texts p.consts f.consts
  pub imports : length f.imports ≡ length p.consts
  pub children : f.children ≡ p.children

-- the code of the chunk, by the texts of the interner: it has the chunk's functions, by number
pub record IsCodeOf (chunk : ChunkOf) (texts : List Bytes) (code : Code) : Type 0 where
  pub count : length code.functions ≡ length chunk.protos
  pub functions : (n : ℕ) (p : ProtoOf) (f : Function) → proto_at chunk n ≡ Some p → slice_get code.functions n ≡ Some f
      → IsFunctionOf chunk texts p f
  pub main : code.main ≡ chunk.main

-- ---- imports

-- no import holds anything
abbrev pub HoldsNoImports : Function → Type 0
HoldsNoImports f = f.imports ≡ replicate (length f.imports) None

abbrev pub HasNoImports : Code → Type 0
HasNoImports code = AllByRecursion HoldsNoImports code.functions
