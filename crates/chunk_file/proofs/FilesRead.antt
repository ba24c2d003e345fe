-- What a file is read as, and what it is.
use Rattle.std.proofs.Common.{◌≡◌, ◌≢◌, ℕ, ◌≤◌, Bool, true, false, nat_eq, List, [], ◌∷◌, ◌++◌, length, refl, sym, ◌∙◌, ap, subst, arith, if◌then◌else◌}
use Rattle.std.proofs.lemmas.Bool.{eqb-true, eq-eqb}
use Rattle.std.proofs.lemmas.List.{append-nil}
use Rattle.op_words.specs.Chunks.{ChunkOf}
use Rattle.chunk_file.specs.Laws.{AreBytes, Spells, HasTrailing, ReadsSpellings, ReadsTrailing}
use Rattle.chunk_file.specs.Spelling.{spelling, magic, version}
use Rattle.chunk_file.specs.Reading.{Found, Read, Ends, Wrong, Answer, IsChunk, Truncated, BadMagic, BadVersion, BadField, Trailing, read_contents, whole_file, contents, read_version, read_magic, read_file, place}
use Rattle.chunk_file.proofs.Readers.{bytes_behind}
use Rattle.chunk_file.proofs.ListFields.{Spelled}
use Rattle.chunk_file.proofs.ContentFields.{MayChunk, spelled_contents, contents_reads}

abbrev pub body : ChunkOf → List ℕ
body c = version ∷ spelled_contents c

pub spelling_is : (c : ChunkOf) → spelling c ≡ magic ++ body c
spelling_is c = refl

may : (c : ChunkOf) (bytes : List ℕ) → Spells bytes c → MayChunk c
may c bytes s = record { sized = s.sized; counts = s.counts }

pub as_spelled : (c : ChunkOf) → MayChunk c → Spelled MayChunk spelled_contents c (spelled_contents c)
as_spelled c m = record { may = m; spelled = refl }

-- ---- forward

magic_forward : (file ms rest : List ℕ) → read_magic file ms (ms ++ rest) ≡ read_version file rest
magic_forward file [] rest = refl
magic_forward file (m ∷ ms) rest =
    ap (λ b. if b then read_magic file ms (ms ++ rest) else BadMagic (place file (m ∷ (ms ++ rest)))) (eq-eqb m m refl) ∙ magic_forward file ms rest

-- a chunk's bytes, with others behind them
pub file_forward : (file : List ℕ) (c : ChunkOf) (rest : List ℕ) → MayChunk c → file ≡ spelling c ++ rest → read_file file ≡ whole_file file c rest
unfolding read_file
file_forward file c rest m e =
    ap (λ bs. read_magic file magic bs) e
    ∙ magic_forward file magic (body c ++ rest)
    ∙ ap (contents file) (contents_reads.forward c (spelled_contents c) rest (as_spelled c m))

pub spelled_read : (bytes : List ℕ) (c : ChunkOf) → Spells bytes c → read_file bytes ≡ IsChunk c
spelled_read bytes c s = file_forward bytes c [] (may c bytes s) (s.bytes_are ∙ sym (append-nil (spelling c)))

-- the place of what stands behind
behind_place : (front rest : List ℕ) → place (front ++ rest) rest ≡ length front
behind_place [] rest = omega arith
behind_place (x ∷ xs) rest = omega (arith, behind_place xs rest, longer xs rest)
  where
    longer : (xs rest : List ℕ) → length rest ≤ length (xs ++ rest)
    longer [] rest = omega arith
    longer (x ∷ xs) rest = omega (arith, longer xs rest)

pub trailing_if : (file : List ℕ) (c : ChunkOf) (more : List ℕ) → more ≢ [] → whole_file file c more ≡ Trailing (place file more)
trailing_if file c [] some = absurd (some refl)
trailing_if file c (b ∷ bs) some = refl

trailing_read : (bytes : List ℕ) (at : ℕ) → HasTrailing bytes at → read_file bytes ≡ Trailing at
trailing_read bytes at t =
    file_forward bytes t.chunk t.more (record { sized = t.sized; counts = t.counts }) t.bytes_are
    ∙ trailing_if bytes t.chunk t.more t.some
    ∙ ap Trailing (ap (λ f. place f t.more) t.bytes_are ∙ behind_place (spelling t.chunk) t.more ∙ sym t.place)

-- ---- back

-- what stands behind the magic and the version
record HasBody (bytes : List ℕ) (a : Answer) : Type 0 where
  rest : List ℕ
  bytes_are : bytes ≡ magic ++ (version ∷ rest)
  answer : contents bytes (read_contents rest) ≡ a

-- answers that come of the contents alone
abbrev IsInner : Answer → Type 0
IsInner (IsChunk c) = Unit {0}
IsInner (Trailing at) = Unit {0}
IsInner (BadField at) = Unit {0}
IsInner a = ⊥

record BehindMagic (file ms bs : List ℕ) (a : Answer) : Type 0 where
  rest : List ℕ
  bytes_are : bs ≡ ms ++ rest
  answer : read_version file rest ≡ a

magic_back : (file ms bs : List ℕ) (a : Answer) → IsInner a → read_magic file ms bs ≡ a → BehindMagic file ms bs a
magic_back file [] bs a inner e = record { rest = bs; bytes_are = refl; answer = e }
magic_back file (m ∷ ms) [] a inner e = absurd (subst IsInner (sym e) inner)
magic_back file (m ∷ ms) (b ∷ bs) a inner e = by (magic_back file ms bs a inner) (nat_eq m b) refl e
  where
    by : (read_magic file ms bs ≡ a → BehindMagic file ms bs a) → (t : Bool) → nat_eq m b ≡ t → (if t then read_magic file ms bs else BadMagic (place file (b ∷ bs))) ≡ a → BehindMagic file (m ∷ ms) (b ∷ bs) a
    by next true h e =
        let same : m ≡ b = eqb-true m b h in
        let r = next e in
        record { rest = r.rest; bytes_are = ap (λ x. x ∷ bs) (sym same) ∙ ap (λ x. m ∷ x) r.bytes_are; answer = r.answer }
    by next false h e = absurd (subst IsInner (sym e) inner)

body_back : (file bs : List ℕ) (a : Answer) → IsInner a → file ≡ magic ++ bs → read_version file bs ≡ a → HasBody file a
body_back file [] a inner split e = absurd (subst IsInner (sym e) inner)
body_back file (b ∷ bs) a inner split e = by (nat_eq b version) refl e
  where
    by : (t : Bool) → nat_eq b version ≡ t → (if t then contents file (read_contents bs) else BadVersion (place file (b ∷ bs))) ≡ a → HasBody file a
    by true h e = record { rest = bs; bytes_are = split ∙ ap (λ x. magic ++ (x ∷ bs)) (eqb-true b version h); answer = e }
    by false h e = absurd (subst IsInner (sym e) inner)

has_body : (file : List ℕ) (a : Answer) → IsInner a → read_file file ≡ a → HasBody file a
unfolding read_file
has_body file a inner e = let r = magic_back file magic file a inner e in body_back file r.rest a inner r.bytes_are r.answer

pub body_bytes : (file rest : List ℕ) → AreBytes file → file ≡ magic ++ (version ∷ rest) → AreBytes rest
body_bytes file rest are e = bytes_behind (magic ++ (version ∷ [])) rest (subst AreBytes e are)

-- contents that were read, and what stands behind them
record FromBody (file : List ℕ) (a : Answer) : Type 0 where
  chunk : ChunkOf
  may : MayChunk chunk
  rest : List ℕ
  bytes_are : file ≡ spelling chunk ++ rest
  answer : whole_file file chunk rest ≡ a

abbrev IsDone : Answer → Type 0
IsDone (IsChunk c) = Unit {0}
IsDone (Trailing at) = Unit {0}
IsDone a = ⊥

done_inner : (a : Answer) → IsDone a → IsInner a
done_inner (IsChunk c) d = tt
done_inner (Trailing at) d = tt
done_inner (Truncated at) d = absurd d
done_inner (BadMagic at) d = absurd d
done_inner (BadVersion at) d = absurd d
done_inner (BadField at) d = absurd d

from_body : (file : List ℕ) (a : Answer) → IsDone a → AreBytes file → HasBody file a → FromBody file a
from_body file a done are b = by (read_contents b.rest) refl b.answer
  where
    by : (f : Found ChunkOf) → read_contents b.rest ≡ f → contents file f ≡ a → FromBody file a
    by Ends h e = absurd (subst IsDone (sym e) done)
    by (Wrong from) h e = absurd (subst IsDone (sym e) done)
    by (Read c rest) h e =
        let r = contents_reads.back b.rest (body_bytes file b.rest are b.bytes_are) c rest h in
        record {
          chunk = c;
          may = r.is.may;
          rest = rest;
          bytes_are = b.bytes_are ∙ ap (λ x. magic ++ (version ∷ x)) (r.bytes ∙ ap (λ f. f ++ rest) r.is.spelled);
          answer = e;
        }

whole_end : (file : List ℕ) (c d : ChunkOf) (rest : List ℕ) → whole_file file c rest ≡ IsChunk d → (c ≡ d) × (rest ≡ [])
whole_end file c d [] e = (cc, refl)
whole_end file c d (b ∷ bs) e = absurd (cc)

read_spelled : (bytes : List ℕ) (c : ChunkOf) → AreBytes bytes → read_file bytes ≡ IsChunk c → Spells bytes c
read_spelled bytes c are e =
    let b = from_body bytes (IsChunk c) tt are (has_body bytes (IsChunk c) tt e) in
    let h = whole_end bytes b.chunk c b.rest b.answer in
    subst (λ c. Spells bytes c) h.0
    (record { counts = b.may.counts; sized = b.may.sized; bytes_are = b.bytes_are ∙ ap (λ r. spelling b.chunk ++ r) h.1 ∙ append-nil (spelling b.chunk) })

pub spellings : ReadsSpellings
spellings bytes c are = (read_spelled bytes c are, spelled_read bytes c)

trailing_end : (file : List ℕ) (c : ChunkOf) (rest : List ℕ) (at : ℕ) → whole_file file c rest ≡ Trailing at → (rest ≢ []) × (place file rest ≡ at)
trailing_end file c [] at e = absurd (cc)
trailing_end file c (b ∷ bs) at e = (λ h. absurd (cc), cc)

read_trailing : (bytes : List ℕ) (at : ℕ) → AreBytes bytes → read_file bytes ≡ Trailing at → HasTrailing bytes at
read_trailing bytes at are e =
    let b = from_body bytes (Trailing at) tt are (has_body bytes (Trailing at) tt e) in
    let h = trailing_end bytes b.chunk b.rest at b.answer in
    record {
      chunk = b.chunk;
      counts = b.may.counts;
      sized = b.may.sized;
      more = b.rest;
      some = h.0;
      bytes_are = b.bytes_are;
      place = sym h.1 ∙ ap (λ f. place f b.rest) b.bytes_are ∙ behind_place (spelling b.chunk) b.rest;
    }

pub trailings : ReadsTrailing
trailings bytes at are = (read_trailing bytes at are, trailing_read bytes at)
