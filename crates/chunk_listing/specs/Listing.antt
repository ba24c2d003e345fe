-- The listing of a chunk: its lines, each a list of fields.
use Rattle.std.specs.Prelude.{◌≡◌, ℕ, zero, suc, ◌+◌, ◌/◌, ◌%◌, ◌==◌, Bool, true, false, not, ◌&&◌, nat_le, List, [], ◌∷◌, ◌++◌, length, map, codes, decimal, slice_index_or, if◌then◌else◌}
use Rattle.std.specs.Fmt.{digit_glyph, signed_decimal}
use Rattle.std.specs.List.{AllByRecursion, enumerate_from, flat_map, join_with_byte}
use Rattle.std.specs.Option.{option_map_or}
use Rattle.op_words.specs.declared.insn.Insn.{Insn}
use Rattle.op_words.specs.declared.chunk.Const.{Const}
use Rattle.op_words.specs.declared.chunk.Const.TheVariants.{Nil, False, True, Num, Str, Import}
use Rattle.op_words.specs.Chunks.{ChunkOf, ProtoOf}
use Rattle.op_words.specs.Decoding.{insn_at}
use Rattle.op_words.specs.Encoding.{encoded, IsFit}
use Rattle.op_words.specs.Names.{name_of, fields_of, operand}

abbrev pub Line : Type 0
Line = List (List ℕ)

-- a space between two fields, and a line feed behind the last
abbrev pub line_text : Line → List ℕ
line_text fields = join_with_byte 32 fields ++ 10 ∷ []

abbrev pub text_of : List Line → List ℕ
text_of lines = flat_map line_text lines

-- ---- constants

-- a printable byte other than `"` and `\`
abbrev pub is_plain : ℕ → Bool
is_plain b = nat_le 32 b && nat_le b 126 && not (b == 34) && not (b == 92)

-- such a byte stands for itself; each other is `\` and two hexadecimal digits
abbrev pub quoted_byte : ℕ → List ℕ
quoted_byte b = if is_plain b then b ∷ [] else 92 ∷ digit_glyph false (b / 16) ∷ digit_glyph false (b % 16) ∷ []

abbrev pub quoted : List ℕ → List ℕ
quoted bytes = 34 ∷ flat_map quoted_byte bytes ++ 34 ∷ []

-- what a constant is; a string that there is not is empty
abbrev pub constant_fields : (strings : List (List ℕ)) → Const → List (List ℕ)
constant_fields strings Nil = codes "nil" ∷ []
constant_fields strings False = codes "false" ∷ []
constant_fields strings True = codes "true" ∷ []
constant_fields strings (Num z) = signed_decimal z ∷ []
constant_fields strings (Str i) = quoted (slice_index_or strings i []) ∷ []
constant_fields strings (Import path) = codes "import" ∷ decimal path ∷ []

abbrev pub constant_line : (strings : List (List ℕ)) → (number : ℕ) → Const → Line
constant_line strings number k = codes "k" ∷ decimal number ∷ constant_fields strings k

-- ---- instructions

-- the instructions that stand from a place on, one behind another, each with its place
abbrev pub instructions_from : (most : ℕ) → (code : List ℕ) → (at : ℕ) → List (ℕ × Insn)
instructions_from zero code at = []
instructions_from (suc most) code at =
    option_map_or (λ found. (at, found.0) ∷ instructions_from most code found.1) (insn_at code at) []

unfoldable pub instructions : (code : List ℕ) → List (ℕ × Insn)
instructions code = instructions_from (length code) code 0

-- its place, its name and what the fields hold that it names
abbrev pub instruction_line : (at : ℕ) → Insn → Line
instruction_line at insn = decimal at ∷ name_of insn ∷ map (λ field. signed_decimal (operand insn field)) (fields_of insn)

-- ---- a chunk

-- a line for each item, with its number
abbrev pub numbered : {A : Type 0} → ((number : ℕ) → A → Line) → List A → List Line
numbered line items = map (λ item. line item.0 item.1) (enumerate_from 0 items)

abbrev pub child_line : (number child : ℕ) → Line
child_line number child = codes "child" ∷ decimal number ∷ decimal child ∷ []

-- whether a prototype takes any number of arguments
abbrev pub flag : Bool → ℕ
flag false = 0
flag true = 1

abbrev pub proto_line : (number : ℕ) → ProtoOf → Line
proto_line number p =
    codes "proto" ∷ decimal number ∷ decimal p.registers ∷ decimal p.params ∷ decimal p.upvalues ∷ decimal (flag p.vararg) ∷ []

abbrev pub proto_lines : (strings : List (List ℕ)) → (number : ℕ) → ProtoOf → List Line
proto_lines strings number p =
    proto_line number p ∷ numbered (constant_line strings) p.consts ++ numbered child_line p.children
    ++ map (λ found. instruction_line found.0 found.1) (instructions p.code)

abbrev pub lines_of : ChunkOf → List Line
lines_of c =
    flat_map (λ item. proto_lines c.strings item.0 item.1) (enumerate_from 0 c.protos) ++ (codes "main" ∷ decimal c.main ∷ []) ∷ []

unfoldable pub listing : ChunkOf → List ℕ
listing c = text_of (lines_of c)

-- ---- instructions by their words

-- instructions one behind another from a place on, each with its place
abbrev pub placed : (at : ℕ) → List Insn → List (ℕ × Insn)
placed at [] = []
placed at (insn ∷ insns) = (at, insn) ∷ placed (at + length (encoded insn)) insns

-- of code that is the words of instructions one behind another these are listed, each with the place of its first word
abbrev pub ListsInstructions : Type 0
ListsInstructions = (insns : List Insn) → AllByRecursion IsFit insns → instructions (flat_map encoded insns) ≡ placed 0 insns
