-- How far the magic is read, byte by byte.
use Rattle.std.proofs.Common.{◌≡◌, ◌≢◌, ℕ, suc, ◌+◌, ◌<◌, ◌≤◌, Bool, nat_eq, List, ◌∷◌, length, drop, get_or, refl, sym, ◌∙◌, ap, arith, length-drop, if◌then◌else◌}
use Rattle.std.proofs.Math.Seq.{drop-cons}
use Rattle.std.proofs.lemmas.Bool.{eq-eqb, ne_eqb}
use Rattle.std.proofs.lemmas.List.{drop_all}
use Rattle.chunk_file.specs.Spelling.{magic}
use Rattle.chunk_file.specs.Reading.{Answer, Truncated, BadMagic, place, read_file, read_magic}

-- the bytes before a place are the magic's
pub record HeadRead (bytes : List ℕ) (at : ℕ) : Type 0 where
  pub within : at ≤ length bytes
  pub so_far : read_file bytes ≡ read_magic bytes (drop at magic) (drop at bytes)

pub head_starts : (bytes : List ℕ) → HeadRead bytes 0
unfolding read_file
head_starts bytes = record { within = omega arith; so_far = refl }

wanted : (at : ℕ) → at < 4 → drop at magic ≡ get_or magic at 0 ∷ drop (suc at) magic
wanted at h = drop-cons magic at 0 h

pub head_ends : (bytes : List ℕ) (at : ℕ) → HeadRead bytes at → at < 4 → length bytes ≤ at → read_file bytes ≡ Truncated (length bytes)
head_ends bytes at read h past =
    read.so_far ∙ ap (λ ms. read_magic bytes ms (drop at bytes)) (wanted at h)
    ∙ ap (λ bs. read_magic bytes (get_or magic at 0 ∷ drop (suc at) magic) bs) (drop_all at bytes past)

abbrev magic_if : Bool → (bytes ms bs : List ℕ) → (b : ℕ) → Answer
magic_if same bytes ms bs b = if same then read_magic bytes ms bs else BadMagic (place bytes (b ∷ bs))

next_byte : (bytes : List ℕ) (at b : ℕ) → HeadRead bytes at → at < 4 → at < length bytes → get_or bytes at 0 ≡ b
    → read_file bytes ≡ magic_if (nat_eq (get_or magic at 0) b) bytes (drop (suc at) magic) (drop (suc at) bytes) b
next_byte bytes at b read h within is =
    read.so_far ∙ ap (λ ms. read_magic bytes ms (drop at bytes)) (wanted at h)
    ∙ ap (λ bs. read_magic bytes (get_or magic at 0 ∷ drop (suc at) magic) bs) (drop-cons bytes at 0 within ∙ ap (λ x. x ∷ drop (suc at) bytes) is)

pub head_differs : (bytes : List ℕ) (at b : ℕ) → HeadRead bytes at → at < 4 → at < length bytes → get_or bytes at 0 ≡ b → b ≢ get_or magic at 0
    → read_file bytes ≡ BadMagic at
head_differs bytes at b read h within is differs =
    let left = length-drop (suc at) bytes in
    next_byte bytes at b read h within is
    ∙ ap (λ t. magic_if t bytes (drop (suc at) magic) (drop (suc at) bytes) b) (ne_eqb (get_or magic at 0) b (λ e. differs (sym e)))
    ∙ ap BadMagic (omega arith)

pub head_more : (bytes : List ℕ) (at b : ℕ) → HeadRead bytes at → at < 4 → at < length bytes → get_or bytes at 0 ≡ b → b ≡ get_or magic at 0
    → HeadRead bytes (at + 1)
head_more bytes at b read h within is e =
    let next : suc at ≡ at + 1 = omega arith in
    record {
      within = omega arith;
      so_far = next_byte bytes at b read h within is
          ∙ ap (λ t. magic_if t bytes (drop (suc at) magic) (drop (suc at) bytes) b) (eq-eqb (get_or magic at 0) b (sym e))
          ∙ ap (λ n. read_magic bytes (drop n magic) (drop n bytes)) next;
    }
