-- What holds of decoded code.
use Rattle.std.specs.Prelude.{◌≡◌, ℕ, ◌<◌, pos, List, ◌++◌, length, Option, Some, slice_get}
use Rattle.op_words.specs.declared.insn.Insn.{Insn}
use Rattle.op_words.specs.Chunks.{ChunkOf, ProtoOf}
use Rattle.op_words.specs.Decoding.{insn_at}
use Rattle.value_model.specs.Parts.{meant}
use Rattle.value_model.specs.Values as m
use Rattle.value_model.specs.Values.{Bytes}
use Rattle.value_model.specs.declared.value.Value.{Value}
use Rattle.machine_meaning.specs.Chunks.{proto_at}
use Rattle.machine_meaning.specs.Constants.{known}
use Rattle.machine_code.specs.declared.code.Code.{Code}
use Rattle.machine_code.specs.declared.code.Function.{Function}
use Rattle.machine_code.specs.declared.code.Line.{Line}
use Rattle.machine_code.specs.Code.{IsConstant, IsCodeOf, IsFunctionOf}
use Rattle.machine_code.specs.Rows.{IsRowAt}

-- it stays the chunk's when texts come behind the others
abbrev pub GrowthKeepsCode : Type 0
GrowthKeepsCode = (chunk : ChunkOf) (texts more : List Bytes) (code : Code) → IsCodeOf chunk texts code → IsCodeOf chunk (texts ++ more) code

-- whatever as many imports hold
abbrev pub ImportsKeepCode : Type 0
ImportsKeepCode =
    (chunk : ChunkOf) (texts : List Bytes) (p : ProtoOf) (f : Function) (imports : List (Option Value)) → length imports ≡ length f.imports
    → IsFunctionOf chunk texts p f → IsFunctionOf chunk texts p (record f { imports = imports })

-- the function is there, and has the line at the place
pub record HasLine (code : Code) (n place : ℕ) (insn : Insn) (next : ℕ) : Type 0 where
  pub number : n < length code.functions
  pub function : Function
  pub there : slice_get code.functions n ≡ Some function
  pub within : place < length function.lines
  pub line : slice_get function.lines place ≡ Some (record { insn = insn; next = next })

-- where an instruction stands there is a line, and it is that one
abbrev pub LinesAreFetched : Type 0
LinesAreFetched = (chunk : ChunkOf) (texts : List Bytes) (code : Code) (n : ℕ) (p : ProtoOf) (place : ℕ) (insn : Insn) (next : ℕ)
    → IsCodeOf chunk texts code → proto_at chunk n ≡ Some p → insn_at p.code place ≡ Some (insn, next) → HasLine code n place insn next

-- what is done at a place is the row of the line there
abbrev pub LinesAreRows : Type 0
LinesAreRows = (chunk : ChunkOf) (texts : List Bytes) (p : ProtoOf) (f : Function) (place : ℕ) (l : Line)
    → IsFunctionOf chunk texts p f → slice_get f.lines place ≡ Some l → IsRowAt chunk p.code place l

-- the constant is there, is no object, and means this
pub record HasConstant (texts : List Bytes) (f : Function) (k : ℕ) (v : m.Value) : Type 0 where
  pub index : k < length f.consts
  pub value : Value
  pub there : slice_get f.consts k ≡ Some value
  pub means : meant texts value ≡ v
  pub plain : IsConstant texts value

-- a value that is a constant of the chunk is one of the decoded function
abbrev pub ConstantsAreKnown : Type 0
ConstantsAreKnown = (chunk : ChunkOf) (texts : List Bytes) (n : ℕ) (p : ProtoOf) (f : Function) (k : ℕ) (v : m.Value)
    → proto_at chunk n ≡ Some p → IsFunctionOf chunk texts p f → known chunk n (pos k) ≡ Some v → HasConstant texts f k v
