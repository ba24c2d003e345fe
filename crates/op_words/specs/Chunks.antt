-- Chunks, as lists.
use Rattle.std.specs.Prelude.{ℕ, Bool, List, map}
use Rattle.op_words.specs.declared.chunk.Chunk.{Chunk}
use Rattle.op_words.specs.declared.chunk.Const.{Const}
use Rattle.op_words.specs.declared.chunk.Proto.{Proto}

pub record ProtoOf : Type 0 where
  pub registers : ℕ
  pub params : ℕ
  pub upvalues : ℕ
  pub vararg : Bool
  pub code : List ℕ
  pub consts : List Const
  pub children : List ℕ

pub record ChunkOf : Type 0 where
  pub strings : List (List ℕ)
  pub protos : List ProtoOf
  pub main : ℕ

abbrev pub proto_of : Proto → ProtoOf
proto_of p =
    record {
      registers = p.registers;
      params = p.params;
      upvalues = p.upvalues;
      vararg = p.vararg;
      code = p.code.items;
      consts = p.consts.items;
      children = p.children.items;
    }

abbrev pub chunk_of : Chunk → ChunkOf
chunk_of c = record { strings = c.strings.items; protos = map proto_of c.protos.items; main = c.main }
