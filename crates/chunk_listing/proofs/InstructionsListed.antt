-- Code that is the words of instructions is listed as these.
use Rattle.std.proofs.Common.{◌≡◌, refl, sym, ap, ◌∙◌, arith, ℕ, zero, suc, ◌+◌, ◌≤◌, List, [], ◌∷◌, length, drop, None, length-append}
use Rattle.std.specs.Prelude.{slice_get}
use Rattle.std.specs.List.{AllByRecursion, flat_map}
use Rattle.std.specs.Option.{option_map_or, option_and_then, option_map}
use Rattle.std.proofs.Math.Seq.{drop-append_seam}
use Rattle.std.proofs.lemmas.List.{drop-drop}
use Rattle.op_words.specs.declared.insn.Insn.{Insn}
use Rattle.op_words.specs.Encoding.{encoded, IsFit}
use Rattle.op_words.specs.Decoding.{insn_at, insn_of, parts_of, with_next}
use Rattle.op_words.proofs.Places.{first_get}
use Rattle.op_words.proofs.InsnAt.{insn_at-encoded}
use Rattle.chunk_listing.specs.Listing.{instructions_from, instructions, placed, ListsInstructions}

-- nothing stands behind the code
insn_at-end : (code : List ℕ) (at : ℕ) → drop at code ≡ [] → insn_at code at ≡ None
insn_at-end code at e =
    let past : slice_get code at ≡ None = first_get code at ∙ ap (λ ws. slice_get ws 0) e in
    ap (λ found. option_and_then (λ word. option_map (with_next at) (insn_of (parts_of word (slice_get code (at + 1))))) found) past

from_place : (most : ℕ) (code : List ℕ) (at : ℕ) (insns : List Insn) → AllByRecursion IsFit insns → drop at code ≡ flat_map encoded insns
    → length (flat_map encoded insns) ≤ most → instructions_from most code at ≡ placed at insns
from_place zero code at [] fit e enough = refl
from_place (suc most) code at [] fit e enough =
    ap (λ found. option_map_or (λ f. (at, f.0) ∷ instructions_from most code f.1) found []) (insn_at-end code at e)
from_place zero code at (insn ∷ insns) fit e enough = absurd (omega (arith, length-append (encoded insn) (flat_map encoded insns)))
from_place (suc most) code at (insn ∷ insns) fit e enough =
    let more = flat_map encoded insns in
    let count = length (encoded insn) in
    let rest : drop (at + count) code ≡ more =
    sym (drop-drop count at code) ∙ ap (drop count) e ∙ drop-append_seam (encoded insn) more in
    ap (λ found. option_map_or (λ f. (at, f.0) ∷ instructions_from most code f.1) found []) (insn_at-encoded code at insn more fit.0 e)
    ∙ ap (λ found. (at, insn) ∷ found) (from_place most code (at + count) insns fit.1 rest (omega (arith, length-append (encoded insn) more)))

pub lists_instructions : ListsInstructions
unfolding instructions
lists_instructions insns fit = from_place (length (flat_map encoded insns)) (flat_map encoded insns) 0 insns fit refl (omega arith)
