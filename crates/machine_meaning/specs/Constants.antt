-- The constants of a function.
use Rattle.std.specs.Prelude.{ℕ, ◌^◌, ◌/◌, ◌%◌, ℤ, pos, negsuc, true, false, List, [], ◌∷◌, take, map, Option, Some, None, option_map, slice_get}
use Rattle.std.specs.Option.{option_and_then}
use Rattle.value_model.specs.Values.{Value, Nil, Boolean, Number, Text, Bytes}
use Rattle.op_words.specs.declared.chunk.Const.TheVariants as constant
use Rattle.op_words.specs.Chunks.{ChunkOf, ProtoOf}
use Rattle.op_words.specs.declared.chunk.Const.{Const}
use Rattle.machine_meaning.specs.Chunks.{proto_at}

abbrev pub constant_at : ChunkOf → (proto : ℕ) → ℤ → Option Const
constant_at chunk p (pos k) = option_and_then (λ (f : ProtoOf). slice_get f.consts k) (proto_at chunk p)
constant_at chunk p (negsuc k) = None

-- the value of a constant that is no import
abbrev pub value_of : ChunkOf → Const → Option Value
value_of chunk constant.Nil = Some Nil
value_of chunk constant.False = Some (Boolean false)
value_of chunk constant.True = Some (Boolean true)
value_of chunk (constant.Num z) = Some (Number z)
value_of chunk (constant.Str s) = option_map (λ bs. Text bs) (slice_get chunk.strings s)
value_of chunk (constant.Import word) = None

abbrev pub known : ChunkOf → (proto : ℕ) → ℤ → Option Value
known chunk p k = option_and_then (value_of chunk) (constant_at chunk p k)

abbrev pub text_in : Option Value → Option Bytes
text_in (Some (Text bs)) = Some bs
text_in _ = None

-- the text of a constant
abbrev pub name_at : ChunkOf → (proto k : ℕ) → Option Bytes
name_at chunk p k = text_in (known chunk p (pos k))

-- ---- imports

abbrev pub all_some : List (Option Bytes) → Option (List Bytes)
all_some [] = Some []
all_some (None ∷ xs) = None
all_some (Some x ∷ xs) = option_map (λ ys. x ∷ ys) (all_some xs)

-- the constants' indices in an import's word: the top two bits say how many there are, and ten bits name each, from the high ones
abbrev pub indices_of : (word : ℕ) → List ℕ
indices_of word = take (word / 2 ^ 30) (word / 2 ^ 20 % 2 ^ 10 ∷ word / 2 ^ 10 % 2 ^ 10 ∷ word % 2 ^ 10 ∷ [])

-- the names of an import's path
abbrev pub path_of : ChunkOf → (proto word : ℕ) → Option (List Bytes)
path_of chunk p word = all_some (map (name_at chunk p) (indices_of word))
