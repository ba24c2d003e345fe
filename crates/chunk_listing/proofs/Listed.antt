-- What is listed one after another: items with their numbers, the fields of a line, and instructions.
use Rattle.std.proofs.Common.{◌≡◌, refl, sym, ap, ◌∙◌, subst, arith, ℕ, zero, suc, add-one, ◌+◌, ◌-◌, ◌/◌, ◌%◌, ◌^◌, ◌<◌, ◌≤◌, List, [], ◌∷◌, ◌++◌, length, map, take, get_or, append_assoc, append-nil, Option, Some, None, codes, decimal, false, if◌then◌else◌}
use Rattle.std.specs.Fmt.{AppendsText, digit_glyph, digits, format_spec, option_append, padded_integral, signed_decimal}
use Rattle.std.proofs.lemmas.Fmt.{hex_byte}
use Rattle.std.specs.List.{enumerate_from, flat_map, join_with_byte}
use Rattle.std.specs.Option.{option_map_or}
use Rattle.std.proofs.Math.Seq.{take-suc}
use Rattle.std.proofs.lemmas.Grind.{flat_map-append}
use Rattle.std.proofs.lemmas.List.{length-take-le, take_all}
use Rattle.op_words.specs.declared.insn.Insn.{Insn}
use Rattle.op_words.specs.declared.names.FieldName.{FieldName}
use Rattle.op_words.specs.Chunks.{ChunkOf, ProtoOf}
use Rattle.op_words.specs.Decoding.{insn_at}
use Rattle.op_words.specs.Names.{name_of, fields_of, operand}
use Rattle.chunk_listing.specs.Listing.{Line, line_text, text_of, instruction_line, instructions_from, instructions, proto_lines, listing, is_plain, quoted_byte}

-- ---- items with their numbers

-- what stands for each item with its number
abbrev pub each : {A B : Type 0} → (ℕ → A → List B) → (from : ℕ) → List A → List B
each f from xs = flat_map (λ item. f item.0 item.1) (enumerate_from from xs)

each-append : {A B : Type 0} (f : ℕ → A → List B) (from : ℕ) (xs : List A) (x : A) → each f from (xs ++ x ∷ []) ≡ each f from xs ++ f (from + length xs) x
each-append f from [] x =
    let same : from ≡ from + 0 = omega arith in
    append-nil (f from x) ∙ ap (λ n. f n x) same
each-append f from (y ∷ ys) x =
    let same : from + 1 + length ys ≡ from + suc (length ys) = omega arith in
    ap (λ t. f from y ++ t) (each-append f (from + 1) ys x)
    ∙ sym (append_assoc (f from y) (each f (from + 1) ys) (f (from + 1 + length ys) x))
    ∙ ap (λ n. each f from (y ∷ ys) ++ f n x) same

-- one item more
pub each_more : {A B : Type 0} (f : ℕ → A → List B) (xs : List A) (i : ℕ) (x : A) → x ≡ get_or xs i x → i < length xs
    → each f 0 (take (i + 1) xs) ≡ each f 0 (take i xs) ++ f i x
each_more f xs i x is h =
    let longer : take (i + 1) xs ≡ take i xs ++ x ∷ [] =
    ap (λ n. take n xs) (add-one i) ∙ take-suc xs i x h ∙ ap (λ y. take i xs ++ y ∷ []) (sym is) in
    let place : 0 + length (take i xs) ≡ i = omega (arith, length-take-le i xs (omega arith)) in
    ap (each f 0) longer ∙ each-append f 0 (take i xs) x ∙ ap (λ n. each f 0 (take i xs) ++ f n x) place

-- the same for the texts that were made so far
pub each_so_far : {A B : Type 0} (f : ℕ → A → List B) (start out after : List B) (xs : List A) (i : ℕ) (x : A) → out ≡ start ++ each f 0 (take i xs)
    → after ≡ out ++ f i x → x ≡ get_or xs i x → i < length xs → after ≡ start ++ each f 0 (take (i + 1) xs)
each_so_far f start out after xs i x so_far made is h =
    made ∙ ap (λ t. t ++ f i x) so_far ∙ append_assoc start (each f 0 (take i xs)) (f i x) ∙ ap (λ t. start ++ t) (sym (each_more f xs i x is h))

pub each_start : {A B : Type 0} (f : ℕ → A → List B) (out : List B) (xs : List A) → out ≡ out ++ each f 0 (take 0 xs)
each_start f out xs = sym (append-nil out)

pub each_end : {A B : Type 0} (f : ℕ → A → List B) (start out : List B) (xs : List A) (i : ℕ) → length xs ≤ i → out ≡ start ++ each f 0 (take i xs)
    → out ≡ start ++ each f 0 xs
each_end f start out xs i h so_far = so_far ∙ ap (λ ys. start ++ each f 0 ys) (take_all i xs h)

pub each-map : {A B C : Type 0} (f : ℕ → B → List C) (g : A → B) (from : ℕ) (xs : List A) → each f from (map g xs) ≡ each (λ n x. f n (g x)) from xs
each-map f g from [] = refl
each-map f g from (x ∷ xs) = ap (λ t. f from (g x) ++ t) (each-map f g (from + 1) xs)

-- the text of lines, item by item
pub text_of-numbered : {A : Type 0} (line : ℕ → A → Line) (from : ℕ) (xs : List A)
    → text_of (map (λ item. line item.0 item.1) (enumerate_from from xs)) ≡ each (λ n x. line_text (line n x)) from xs
text_of-numbered line from [] = refl
text_of-numbered line from (x ∷ xs) = ap (λ t. line_text (line from x) ++ t) (text_of-numbered line (from + 1) xs)

pub text_of-each : {A : Type 0} (lines : ℕ → A → List Line) (from : ℕ) (xs : List A) → text_of (each lines from xs) ≡ each (λ n x. text_of (lines n x)) from xs
text_of-each lines from [] = refl
text_of-each lines from (x ∷ xs) =
    flat_map-append line_text (lines from x) (each lines (from + 1) xs)
    ∙ ap (λ t. text_of (lines from x) ++ t) (text_of-each lines (from + 1) xs)

-- ---- the fields of a line

pub join-map : {A : Type 0} (f : A → List ℕ) (first : List ℕ) (xs : List A) → join_with_byte 32 (first ∷ map f xs) ≡ first ++ flat_map (λ x. 32 ∷ f x) xs
join-map f first [] = sym (append-nil first)
join-map f first (x ∷ xs) = ap (λ t. first ++ 32 ∷ t) (join-map f (f x) xs)

-- ---- instructions

abbrev pub instruction_lines : List (ℕ × Insn) → List Line
instruction_lines found = map (λ f. instruction_line f.0 f.1) found

-- the instructions that are left are listed behind what is out
pub record InstructionsSoFar (start out code : List ℕ) (place : ℕ) : Type 0 where
  pub most : ℕ
  pub enough : length code ≤ place + most
  pub so_far : out ++ text_of (instruction_lines (instructions_from most code place)) ≡ start ++ text_of (instruction_lines (instructions code))

pub instructions_start : (out code : List ℕ) → InstructionsSoFar out out code 0
unfolding instructions
instructions_start out code = record { most = length code; enough = omega arith; so_far = refl }

none_left : (most : ℕ) (code : List ℕ) (place : ℕ) → insn_at code place ≡ None → instructions_from most code place ≡ []
none_left zero code place e = refl
none_left (suc most) code place e =
    ap (λ found. option_map_or (λ f. (place, f.0) ∷ instructions_from most code f.1) found []) e

pub instructions_end : (start out code : List ℕ) (place : ℕ) → insn_at code place ≡ None → InstructionsSoFar start out code place
    → out ≡ start ++ text_of (instruction_lines (instructions code))
instructions_end start out code place e s =
    sym (append-nil out) ∙ ap (λ found. out ++ text_of (instruction_lines found)) (sym (none_left s.most code place e)) ∙ s.so_far

further : (start out code : List ℕ) (place next : ℕ) (insn : Insn) (most : ℕ) → insn_at code place ≡ Some (insn, next) → place < next → next ≤ length code
    → length code ≤ place + most
    → out ++ text_of (instruction_lines (instructions_from most code place)) ≡ start ++ text_of (instruction_lines (instructions code))
    → InstructionsSoFar start (out ++ line_text (instruction_line place insn)) code next
further start out code place next insn zero e ahead within enough so_far = absurd (omega arith)
further start out code place next insn (suc most) e ahead within enough so_far =
    let line = line_text (instruction_line place insn) in
    let more : instructions_from (suc most) code place ≡ (place, insn) ∷ instructions_from most code next =
    ap (λ found. option_map_or (λ f. (place, f.0) ∷ instructions_from most code f.1) found []) e in
    record {
      most = most;
      enough = omega arith;
      so_far = append_assoc out line (text_of (instruction_lines (instructions_from most code next)))
          ∙ ap (λ found. out ++ text_of (instruction_lines found)) (sym more)
          ∙ so_far;
    }

pub instructions_more : (start out after code : List ℕ) (place next : ℕ) (insn : Insn)
    → insn_at code place ≡ Some (insn, next) → place < next → next ≤ length code
    → after ≡ out ++ line_text (instruction_line place insn) → InstructionsSoFar start out code place → InstructionsSoFar start after code next
instructions_more start out after code place next insn e ahead within is s =
    subst (λ t. InstructionsSoFar start t code next) (sym is) (further start out code place next insn s.most e ahead within s.enough s.so_far)

regroup : (start place name fields : List ℕ) → ((start ++ (place ++ 32 ∷ name)) ++ fields) ++ 10 ∷ [] ≡ start ++ ((place ++ 32 ∷ (name ++ fields)) ++ 10 ∷ [])
regroup start place name fields = simp append_assoc

-- the fields that an instruction names, each behind a space
abbrev pub fields_text : Insn → List FieldName → List ℕ
fields_text insn fields = flat_map (λ field. 32 ∷ signed_decimal (operand insn field)) fields

-- a line is written by its place and name, its fields and its end
pub instruction_written : (start opened looped out : List ℕ) (place : ℕ) (insn : Insn) (name : List ℕ) (fields : List FieldName) (i : ℕ)
    → name ≡ name_of insn → fields ≡ fields_of insn → length fields ≤ i
    → opened ≡ start ++ (decimal place ++ 32 ∷ name) → looped ≡ opened ++ fields_text insn (take i fields) → out ≡ looped ++ 10 ∷ []
    → out ≡ start ++ line_text (instruction_line place insn)
instruction_written start opened looped out place insn name fields i named field whole first more last =
    let all : take i fields ≡ fields_of insn = take_all i fields whole ∙ field in
    let opening : opened ≡ start ++ (decimal place ++ 32 ∷ name_of insn) = first ∙ ap (λ n. start ++ (decimal place ++ 32 ∷ n)) named in
    let text : looped ≡ (start ++ (decimal place ++ 32 ∷ name_of insn)) ++ fields_text insn (fields_of insn) =
    more ∙ ap (λ fs. opened ++ fields_text insn fs) all ∙ ap (λ t. t ++ fields_text insn (fields_of insn)) opening in
    last ∙ ap (λ t. t ++ 10 ∷ []) text
    ∙ regroup start (decimal place) (name_of insn) (fields_text insn (fields_of insn))
    ∙ ap (λ t. start ++ ((decimal place ++ 32 ∷ t) ++ 10 ∷ [])) (sym (join-map (λ field. signed_decimal (operand insn field)) (name_of insn) (fields_of insn)))

-- ---- a chunk

-- the prototypes' lines and the last one are the listing
pub listing_written : (chunk : ChunkOf) (start listed out : List ℕ) (strings : List (List ℕ)) (protos : List ProtoOf) → start ≡ [] → strings ≡ chunk.strings
    → protos ≡ chunk.protos → listed ≡ start ++ text_of (each (proto_lines strings) 0 protos)
    → out ≡ listed ++ (codes "main " ++ (decimal chunk.main ++ 10 ∷ [])) → out ≡ listing chunk
unfolding listing
listing_written chunk start listed out strings protos empty same_strings same_protos protos_listed last =
    let main : Line = codes "main" ∷ decimal chunk.main ∷ [] in
    let those : text_of (each (proto_lines strings) 0 protos) ≡ text_of (each (proto_lines chunk.strings) 0 chunk.protos) =
    ap (λ ss. text_of (each (proto_lines ss) 0 protos)) same_strings ∙ ap (λ ps. text_of (each (proto_lines chunk.strings) 0 ps)) same_protos in
    let first : listed ≡ text_of (each (proto_lines chunk.strings) 0 chunk.protos) =
    protos_listed ∙ ap (λ s. s ++ text_of (each (proto_lines strings) 0 protos)) empty ∙ those in
    last ∙ ap (λ t. t ++ line_text main) first
    ∙ ap (λ t. text_of (each (proto_lines chunk.strings) 0 chunk.protos) ++ t) (sym (append-nil (line_text main)))
    ∙ sym (flat_map-append line_text (each (proto_lines chunk.strings) 0 chunk.protos) (main ∷ []))

-- ---- strings

-- a byte that is not plain is written as `\` and two digits
pub byte_escaped : (start out : List ℕ) (b : ℕ) (o : Option (List ℕ)) → b < 256 → false ≡ is_plain b
    → o ≡ Some (padded_integral (format_spec 32 0 4 2 (2 ^ 64 - 1)) false [] (digits 16 false b)) → AppendsText start out (option_append (Some (92 ∷ [])) o)
    → out ≡ start ++ quoted_byte b
byte_escaped start out b o fits other is appended =
    let escape = 92 ∷ digit_glyph false (b / 16) ∷ digit_glyph false (b % 16) ∷ [] in
    let two : o ≡ Some (digit_glyph false (b / 16) ∷ digit_glyph false (b % 16) ∷ []) = is ∙ ap (λ ds. Some ds) (hex_byte false b fits) in
    let written : out ≡ start ++ escape = subst (λ p. AppendsText start out (option_append (Some (92 ∷ [])) p)) two appended in
    written ∙ ap (λ t. start ++ (if t then b ∷ [] else escape)) other
