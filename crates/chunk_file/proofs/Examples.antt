-- The chunk of the empty script, and what is read of its bytes.
use Rattle.std.proofs.Common.{◌≡◌, refl, List, [], ◌∷◌, ◌++◌, take, ℕ, true}
use Rattle.op_words.specs.Chunks.{ChunkOf}
use Rattle.chunk_file.specs.Spelling.{spelling, number}
use Rattle.chunk_file.specs.Reading.{read_file, read_number, IsChunk, Truncated, Trailing}

abbrev empty_script : ChunkOf
empty_script =
    record {
      strings = [];
      protos =
          record { registers = 1; params = 0; upvalues = 0; vararg = true; code = 63 ∷ 65557 ∷ []; consts = []; children = [] }
          ∷ [];
      main = 0;
    }

abbrev bytes : List ℕ
bytes =
    76 ∷ 87 ∷ 67 ∷ 72 ∷ 1 ∷ 0 ∷ 1 ∷ 1 ∷ 0 ∷ 0 ∷ 1 ∷ 2 ∷ 63 ∷ 0 ∷ 0 ∷ 0 ∷ 21 ∷ 0 ∷ 1 ∷ 0 ∷ 0 ∷ 0 ∷ 0 ∷ []

spelled : spelling empty_script ≡ bytes
unfolding number
spelled = refl

read : read_file bytes ≡ IsChunk empty_script
unfolding read_file read_number
read = refl

cut_off : read_file (take 22 bytes) ≡ Truncated 22
unfolding read_file read_number
cut_off = refl

nothing : read_file [] ≡ Truncated 0
unfolding read_file
nothing = refl

one_more : read_file (bytes ++ 0 ∷ []) ≡ Trailing 23
unfolding read_file read_number
one_more = refl

three_hundred : number 300 ≡ 172 ∷ 2 ∷ []
unfolding number
three_hundred = refl
