-- The bytes that a chunk is spelled by. A chunk has one spelling.
use Rattle.std.specs.Prelude.{◌≡◌, ℕ, ℤ, zero, suc, ◌+◌, ◌/◌, ◌%◌, ◌^◌, ◌<◌, Bool, true, false, nat_lt, List, [], ◌∷◌, ◌++◌, length, if◌then◌else◌}
use Rattle.std.specs.Int.{w32, w64, cast_unsigned, to_le_bytes}
use Rattle.std.specs.List.{flat_map, AllByRecursion}
use Rattle.whole_num.specs.Whole.{is_whole}
use Rattle.op_words.specs.Chunks.{ChunkOf, ProtoOf}
use Rattle.op_words.specs.declared.chunk.Const.{Const}
use Rattle.op_words.specs.declared.chunk.Const.TheVariants.{Nil, False, True, Num, Str, Import}

-- ---- numbers

-- A count or an index: seven bits a byte, the lowest first, each byte but the last with its top bit set. The last byte is not 0, but
-- for the number 0.
abbrev pub number_within : (most : ℕ) → ℕ → List ℕ
number_within zero n = []
number_within (suc most) n = if nat_lt n 128 then n ∷ [] else (n % 128 + 128) ∷ number_within most (n / 128)

-- it is below 2 ^ 32, so it has at most five bytes
unfoldable pub number : ℕ → List ℕ
number n = number_within 5 n

abbrev pub most_number : ℕ
most_number = 2 ^ 32

-- how many there are, and each of them
abbrev pub counted : {A : Type 0} → (A → List ℕ) → List A → List ℕ
counted spell xs = number (length xs) ++ flat_map spell xs

-- ---- a chunk

abbrev pub magic : List ℕ
magic = 76 ∷ 87 ∷ 67 ∷ 72 ∷ []

abbrev pub version : ℕ
version = 1

abbrev pub text : List ℕ → List ℕ
text bytes = number (length bytes) ++ bytes

abbrev pub word : ℕ → List ℕ
word w = to_le_bytes w32 w

-- a number in range, as two's complement
abbrev pub whole : ℤ → List ℕ
whole z = to_le_bytes w64 (cast_unsigned w64 z)

abbrev pub flag : Bool → ℕ
flag false = 0
flag true = 1

-- a kind, and what it names
abbrev pub constant : Const → List ℕ
constant Nil = 0 ∷ []
constant False = 1 ∷ []
constant True = 2 ∷ []
constant (Num z) = 3 ∷ whole z
constant (Str i) = 4 ∷ number i
constant (Import path) = 5 ∷ word path

abbrev pub proto : ProtoOf → List ℕ
proto p =
    p.registers ∷ p.params ∷ p.upvalues ∷ flag p.vararg ∷ counted word p.code ++ counted constant p.consts ++ counted number p.children

abbrev pub spelling : ChunkOf → List ℕ
spelling c = magic ++ version ∷ counted text c.strings ++ counted proto c.protos ++ number c.main

-- ---- what can be spelled

abbrev pub IsCount : {A : Type 0} → List A → Type 0
IsCount xs = length xs < most_number

-- each count fits
pub record HasCountsIn (p : ProtoOf) : Type 0 where
  pub code : IsCount p.code
  pub consts : IsCount p.consts
  pub children : IsCount p.children

-- each count and each length of a string fits
pub record HasCounts (c : ChunkOf) : Type 0 where
  pub strings : IsCount c.strings
  pub lengths : AllByRecursion (λ s. IsCount s) c.strings
  pub protos : IsCount c.protos
  pub counts : AllByRecursion HasCountsIn c.protos

abbrev pub IsByte : ℕ → Type 0
IsByte b = b < 256

abbrev pub IsNumber : ℕ → Type 0
IsNumber n = n < most_number

-- the number that a constant names has its bits
abbrev pub HasBits : Const → Type 0
HasBits (Num z) = is_whole z ≡ true
HasBits (Str i) = IsNumber i
HasBits (Import path) = IsNumber path
HasBits k = Unit {0}

-- and so has each number in a prototype
pub record HasBitsIn (p : ProtoOf) : Type 0 where
  pub registers : IsByte p.registers
  pub params : IsByte p.params
  pub upvalues : IsByte p.upvalues
  pub code : AllByRecursion IsNumber p.code
  pub consts : AllByRecursion HasBits p.consts
  pub children : AllByRecursion IsNumber p.children

-- and in a chunk
pub record IsSized (c : ChunkOf) : Type 0 where
  pub strings : AllByRecursion (λ s. AllByRecursion IsByte s) c.strings
  pub protos : AllByRecursion HasBitsIn c.protos
  pub main : IsNumber c.main
