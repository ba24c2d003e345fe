-- What the bytes of a file are read as, field by field.
use Rattle.std.specs.Prelude.{ℕ, zero, suc, ◌+◌, ◌-◌, ◌*◌, ◌/◌, ◌^◌, ℤ, Bool, true, false, not, ◌&&◌, ◌||◌, nat_eq, nat_lt, nat_le, List, [], ◌∷◌, length, take, drop, if◌then◌else◌}
use Rattle.std.specs.Int.{w32, w64, cast_signed, from_le_bytes}
use Rattle.whole_num.specs.Whole.{is_whole}
use Rattle.op_words.specs.Chunks.{ChunkOf, ProtoOf}
use Rattle.op_words.specs.declared.chunk.Const.{Const}
use Rattle.op_words.specs.declared.chunk.Const.TheVariants as const
use Rattle.chunk_file.specs.Spelling.{magic, version}

-- what a field is read as, with the bytes behind it; or the bytes end in it; or it is a wrong field, with the bytes from its first one on
pub data Found (A : Type 0) : Type 0 where
  Read : (value : A) → (rest : List ℕ) → Found A
  Ends : Found A
  Wrong : (from : List ℕ) → Found A

-- what is read behind
abbrev pub behind : {A B : Type 0} → Found A → (A → List ℕ → Found B) → Found B
behind (Read a rest) go = go a rest
behind Ends go = Ends
behind (Wrong from) go = Wrong from

-- ---- numbers

-- A byte of a number, which is the last where its top bit is not set. The number from here on has to be below the limit, and the last
-- byte is not 0 unless it is the first.
abbrev pub number_from : (most : ℕ) → (limit : ℕ) → (first : Bool) → (field : List ℕ) → List ℕ → Found ℕ
number_from zero limit first field bs = Wrong field
number_from (suc most) limit first field [] = Ends
number_from (suc most) limit first field (b ∷ bs) =
    if nat_lt b 128 then (if nat_lt b limit && (first || not (nat_eq b 0)) then Read b bs else Wrong field)
    else if nat_lt 128 limit then behind (number_from most (limit / 128) false field bs) (λ n rest. Read (b - 128 + 128 * n) rest)
    else Wrong field

unfoldable pub read_number : List ℕ → Found ℕ
read_number bs = number_from 5 (2 ^ 32) true bs bs

-- ---- bytes

abbrev pub read_byte : List ℕ → Found ℕ
read_byte [] = Ends
read_byte (b ∷ bs) = Read b bs

-- so many bytes
abbrev pub read_bytes : ℕ → List ℕ → Found (List ℕ)
read_bytes n bs = if nat_le n (length bs) then Read (take n bs) (drop n bs) else Ends

abbrev pub read_word : List ℕ → Found ℕ
read_word bs = behind (read_bytes 4 bs) (λ four rest. Read (from_le_bytes w32 four) rest)

abbrev pub read_flag : List ℕ → Found Bool
read_flag [] = Ends
read_flag (b ∷ bs) = if nat_eq b 0 then Read false bs else if nat_eq b 1 then Read true bs else Wrong (b ∷ bs)

-- a number of eight bytes, as two's complement, that is in range
abbrev pub whole_in : (field : List ℕ) → ℤ → List ℕ → Found ℤ
whole_in field z rest = if is_whole z then Read z rest else Wrong field

-- With an eighth byte of 0 or 255 seven bytes may be such a number. No eighth byte makes one of the others.
abbrev pub may_go_on : (seven : ℕ) → Bool
may_go_on seven = nat_le seven (2 ^ 53) || nat_le (2 ^ 56 - 2 ^ 53) seven

-- fewer than eight bytes
abbrev pub cut_whole : List ℕ → Found ℤ
cut_whole bs = if nat_lt (length bs) 7 || may_go_on (from_le_bytes w64 bs) then Ends else Wrong bs

abbrev pub read_whole : List ℕ → Found ℤ
read_whole bs =
    if nat_le 8 (length bs) then whole_in bs (cast_signed w64 (from_le_bytes w64 (take 8 bs))) (drop 8 bs) else cut_whole bs

-- ---- lists

-- so many, one after another
abbrev pub read_times : {A : Type 0} → (List ℕ → Found A) → (count : ℕ) → List ℕ → Found (List A)
read_times read zero bs = Read [] bs
read_times read (suc n) bs = behind (read bs) (λ a rest. behind (read_times read n rest) (λ as' rest. Read (a ∷ as') rest))

abbrev pub read_counted : {A : Type 0} → (List ℕ → Found A) → List ℕ → Found (List A)
read_counted read bs = behind (read_number bs) (read_times read)

-- ---- a chunk

abbrev pub read_text : List ℕ → Found (List ℕ)
read_text bs = behind (read_number bs) read_bytes

-- what a kind names
abbrev pub read_named : (kind : ℕ) → (field : List ℕ) → List ℕ → Found Const
read_named kind field bs =
    if nat_eq kind 0 then Read const.Nil bs
    else if nat_eq kind 1 then Read const.False bs
    else if nat_eq kind 2 then Read const.True bs
    else if nat_eq kind 3 then behind (read_whole bs) (λ z rest. Read (const.Num z) rest)
    else if nat_eq kind 4 then behind (read_number bs) (λ i rest. Read (const.Str i) rest)
    else if nat_eq kind 5 then behind (read_word bs) (λ w rest. Read (const.Import w) rest)
    else Wrong field

abbrev pub read_constant : List ℕ → Found Const
read_constant bs = behind (read_byte bs) (λ kind rest. read_named kind bs rest)

abbrev pub read_proto : List ℕ → Found ProtoOf
read_proto bs =
    behind (read_byte bs) (λ registers bs.
    behind (read_byte bs) (λ params bs.
    behind (read_byte bs) (λ upvalues bs.
    behind (read_flag bs) (λ vararg bs.
    behind (read_counted read_word bs) (λ code bs.
    behind (read_counted read_constant bs) (λ consts bs.
    behind (read_counted read_number bs) (λ children bs.
    Read (record { registers = registers; params = params; upvalues = upvalues; vararg = vararg; code = code; consts = consts; children = children }) bs)))))))

-- what stands behind the version
abbrev pub read_contents : List ℕ → Found ChunkOf
read_contents bs =
    behind (read_counted read_text bs) (λ strings bs.
    behind (read_counted read_proto bs) (λ protos bs.
    behind (read_number bs) (λ main bs.
    Read (record { strings = strings; protos = protos; main = main }) bs)))

-- ---- a file

-- a chunk, or the first wrong field with its place
pub data Answer : Type 0 where
  IsChunk : (c : ChunkOf) → Answer
  Truncated : (at : ℕ) → Answer
  BadMagic : (at : ℕ) → Answer
  BadVersion : (at : ℕ) → Answer
  BadField : (at : ℕ) → Answer
  Trailing : (at : ℕ) → Answer

-- the place of a byte, by the bytes from it on
abbrev pub place : (file from : List ℕ) → ℕ
place file from = length file - length from

-- a chunk ends the file
abbrev pub whole_file : (file : List ℕ) → ChunkOf → List ℕ → Answer
whole_file file c [] = IsChunk c
whole_file file c (b ∷ bs) = Trailing (place file (b ∷ bs))

abbrev pub contents : (file : List ℕ) → Found ChunkOf → Answer
contents file (Read c rest) = whole_file file c rest
contents file Ends = Truncated (length file)
contents file (Wrong from) = BadField (place file from)

abbrev pub read_version : (file : List ℕ) → List ℕ → Answer
read_version file [] = Truncated (length file)
read_version file (b ∷ bs) = if nat_eq b version then contents file (read_contents bs) else BadVersion (place file (b ∷ bs))

-- the first byte that differs from the magic is wrong
abbrev pub read_magic : (file wanted : List ℕ) → List ℕ → Answer
read_magic file [] bs = read_version file bs
read_magic file (m ∷ ms) [] = Truncated (length file)
read_magic file (m ∷ ms) (b ∷ bs) = if nat_eq m b then read_magic file ms bs else BadMagic (place file (b ∷ bs))

unfoldable pub read_file : List ℕ → Answer
read_file file = read_magic file magic file
